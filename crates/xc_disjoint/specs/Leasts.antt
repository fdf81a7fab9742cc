-- The first of the rules that the items of a list break.
use Rattle.std.specs.Prelude.{◌≡◌, List, [], ◌∷◌, Contains, Option, Some}
use Rattle.xw_words.specs.declared.pos.Broken.{Broken}
use Rattle.xc_tree.specs.Least.{first_of}

-- a rule or, where an item breaks an earlier one, the first of those
abbrev pub first_among : {V : Type 0} → (V → Option Broken) → Option Broken → List V → Option Broken
first_among rule_of best [] = best
first_among rule_of best (x ∷ xs) = first_among rule_of (first_of best (rule_of x)) xs

-- an item of a list breaks this rule
pub record IsBrokenBy {V : Type 0} (rule_of : V → Option Broken) (xs : List V) (b : Broken) : Type 0 where
  pub item : V
  pub among : Contains xs item
  pub broken : rule_of item ≡ Some b
