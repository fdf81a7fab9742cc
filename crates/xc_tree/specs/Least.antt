-- The first of the broken rules of some kind, as of a phase: that of the least place, and there of the least number.
use Rattle.std.specs.Prelude.{◌≡◌, Bool, ◌&&◌, ◌||◌, nat_lt, nat_eq, if◌then◌else◌, Option, Some, None}
use Rattle.xw_words.specs.declared.pos.Broken.{Broken}
use Rattle.xc_tree.specs.Lexes.{IsNotAfter}

-- this is one of them, and none comes before it
pub record IsFirst (P : Broken → Type 0) (first : Broken) : Type 0 where
  pub breaks : P first
  pub least : (other : Broken) → P other → IsNotAfter first other

-- this is the first of them, or there is none
pub record IsLeastOf (P : Broken → Type 0) (best : Option Broken) : Type 0 where
  pub among : (a : Broken) → best ≡ Some a → P a
  pub least : (b : Broken) → P b → (a : Broken) × (best ≡ Some a) × IsNotAfter a b

-- at a lesser place, or at the same one with a lesser number
abbrev pub comes_before : Broken → Broken → Bool
comes_before a b =
    nat_lt a.pos.line b.pos.line || (nat_eq a.pos.line b.pos.line && (nat_lt a.pos.col b.pos.col || (nat_eq a.pos.col b.pos.col && nat_lt a.rule b.rule)))

-- of two, each of which may be absent, the one that comes first
abbrev pub first_of : Option Broken → Option Broken → Option Broken
first_of None b = b
first_of (Some a) None = Some a
first_of (Some a) (Some b) = if comes_before b a then Some b else Some a
