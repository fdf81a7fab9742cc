use Rattle.std.proofs.Common.{◌≡◌, ℕ, ◌<◌, Bool, true, get_or}
use Rattle.xs_pool.proofs.pool.take_least.Given as goal

abbrev pub invariant-loop-n : goal.invariant-loop-n
invariant-loop-n l = record {
  unchanged : l.taken ≡ l.initial.taken;
  passed : (k : ℕ) (d : Bool) → k < l.n → get_or l.taken k d ≡ true;
}
