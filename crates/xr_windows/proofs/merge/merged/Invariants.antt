use Rattle.std.proofs.Common.{◌≡◌, ◌≤◌, drop, length}
use Rattle.xr_windows.specs.Merge.{rounds_of}
use Rattle.xr_windows.specs.Cut.{Left}
use Rattle.xr_windows.proofs.merge.merged.Given as goal

abbrev pub invariant-ticks : goal.invariant-ticks
invariant-ticks l = record {
  within : (l.i ≤ length l.a) × (l.j ≤ length l.b) × (l.k ≤ length l.c) × (l.l ≤ length l.d);
  a : Left l.before l.a (drop l.i l.a);
  b : Left l.before l.b (drop l.j l.b);
  c : Left l.before l.c (drop l.k l.c);
  d : Left l.before l.d (drop l.l l.d);
  trace : l.trace.items ≡ rounds_of l.a l.b l.c l.d l.before;
}
