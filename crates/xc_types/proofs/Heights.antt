-- What stands in a statement is measured below it.
use Rattle.std.proofs.Common.{◌≡◌, ℕ, suc, ◌+◌, ◌*◌, ◌<◌, arith}

-- what a statement that is this much higher holds is measured below it
pub higher : (h i q k : ℕ) → h ≡ i + 1 → q + suc k ≡ 5 → 5 * i + q < 5 * h + 0
higher h i q k e l = omega arith
