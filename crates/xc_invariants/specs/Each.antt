-- What holds of each branch of a state.
use Rattle.std.specs.Prelude.{◌≡◌, ℕ, List, Option, Some, slice_get}
use Rattle.xc_meaning.specs.States.Channels.{Side}
use Rattle.xc_meaning.specs.States.Items.{Item}
use Rattle.xc_meaning.specs.States.Branches.{Branch}
use Rattle.xc_invariants.specs.Every.{AllItems}

-- of each item that a branch has still to do, by the branch's number and its sides, which stay as they are
pub record EachItem (P : ℕ → List (Option Side) → Item → Type 0) (bs : List Branch) : Type 0 where
  pub all : (n : ℕ) (b : Branch) → slice_get bs n ≡ Some b → AllItems (P n b.sides) b.items

-- of each branch
pub record EachBranch (P : Branch → Type 0) (bs : List Branch) : Type 0 where
  pub each : (n : ℕ) (b : Branch) → slice_get bs n ≡ Some b → P b
