use Rattle.std.proofs.Common.{◌≡◌, ◌≤◌}
use Rattle.xs_core.proofs.counts.ready.Given as goal
use Rattle.xs_core.specs.Seen.{home_of, state_of}
use Rattle.xs_instr.specs.Sight.{count_true, ready_below}

abbrev pub invariant-loop-t : goal.invariant-loop-t
invariant-loop-t l = record {
  some : l.count ≤ l.t;
  all : l.count ≡ count_true (ready_below (home_of l.state) (state_of l.state) l.t);
}
