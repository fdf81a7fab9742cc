-- The records of four cores, by tick, core and order.
use Rattle.std.specs.Prelude.{ℕ, zero, suc, Bool, true, false, List, [], ◌∷◌, ◌++◌, nat_eq}
use Rattle.xs_instr.specs.declared.trace.Record.{Record}
use Rattle.xr_windows.specs.declared.stamped.Stamped.{Stamped}

-- `at_tick`, by cases
abbrev pub at_by : Record → List Record → Bool → List Record
at_by made rest true = made ∷ rest
at_by made rest false = rest

-- what was written down at that tick
abbrev pub at_tick : ℕ → List Stamped → List Record
at_tick t [] = []
at_tick t (r ∷ rs) = at_by r.made (at_tick t rs) (nat_eq r.tick t)

-- what four cores wrote down at that tick, by their number
abbrev pub round_of : List Stamped → List Stamped → List Stamped → List Stamped → ℕ → List Record
round_of a b c d t = ((at_tick t a ++ at_tick t b) ++ at_tick t c) ++ at_tick t d

-- the same of the first n ticks, by tick
unfoldable pub rounds_of : List Stamped → List Stamped → List Stamped → List Stamped → ℕ → List Record
rounds_of a b c d zero = []
rounds_of a b c d (suc n) = rounds_of a b c d n ++ round_of a b c d (suc n)
