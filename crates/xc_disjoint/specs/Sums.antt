-- Sums of 64 bits, which stay at the greatest number where they would pass it.
use Rattle.std.specs.Prelude.{ℕ, ◌-◌, ◌^◌, min, Bool, false, ◌||◌, List, [], ◌∷◌, nat_lt}

unfoldable pub capped : ℕ → ℕ
capped n = min n (2 ^ 64 - 1)

-- whether one of some numbers is above a limit
abbrev pub some_above : ℕ → List ℕ → Bool
some_above limit [] = false
some_above limit (n ∷ ns) = nat_lt limit n || some_above limit ns
