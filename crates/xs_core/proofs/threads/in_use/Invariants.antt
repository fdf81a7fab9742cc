use Rattle.std.proofs.Common.{◌≡◌, ◌<◌, ◌≤◌, ℕ, Some, slice_get}
use Rattle.xs_core.proofs.threads.in_use.Given as goal
use Rattle.xs_instr.specs.declared.state.Mode.TheVariants.{Unused}
use Rattle.xs_instr.specs.declared.state.Thread.{Thread}

abbrev pub invariant-loop-t : goal.invariant-loop-t
invariant-loop-t l = record {
  few : l.end ≤ l.t;
  unused : (u : ℕ) (x : Thread) → l.end ≤ u → u < l.t → slice_get l.threads u ≡ Some x → x.mode ≡ Unused;
}
