-- Which lines are open.
use Rattle.std.specs.Prelude.{ℕ, ◌+◌, Bool, true, false, List, [], ◌∷◌, Option, Some, None}
use Rattle.xs_instr.specs.Lines.{Line}

-- `holes_in`, by cases
abbrev pub holes_on : (is_open : Bool) → (index : ℕ) → List ℕ → List ℕ
holes_on true index more = index ∷ more
holes_on false index more = more

-- the indices of the open ones in order, of lines that stand from an index on
abbrev pub holes_in : List Line → (index : ℕ) → List ℕ
holes_in [] index = []
holes_in (l ∷ ls) index = holes_on l.is_open index (holes_in ls (index + 1))

-- the one index, where there is one
abbrev pub listed : Option ℕ → List ℕ
listed None = []
listed (Some index) = index ∷ []
