-- Which transactions a branch stands in, and behind which items their ends are.
use Rattle.std.specs.Prelude.{◌≡◌, ℕ, ◌<◌, IsTrue, List, ◌++◌, Some, slice_get}
use Rattle.xc_meaning.specs.States.Branches.{Branch}
use Rattle.xc_meaning.specs.Settings.Channels.{is_among}
use Rattle.xc_invariants.specs.Placed.{ends_of, IfLively}
use Rattle.xc_invariants.specs.Tree.{IsChild, Above}

-- A branch stands in the transactions whose ends are among its items, the innermost first, and then
-- in those in which the branch stands that waits for it; a root in no others.
pub data StandsInside (roots : ℕ) (bs : List Branch) (n : ℕ) (b : Branch) : Type 0 where
  as_root : n < roots → b.inside ≡ ends_of b.items → StandsInside roots bs n b
  as_child : (m : ℕ) (p : Branch) → IsChild bs m n → slice_get bs m ≡ Some p →
      b.inside ≡ ends_of b.items ++ p.inside → StandsInside roots bs n b

-- so does each branch that runs or waits
pub record EachInside (roots : ℕ) (bs : List Branch) : Type 0 where
  pub each : (n : ℕ) (b : Branch) → slice_get bs n ≡ Some b →
      IfLively b.mode (StandsInside roots bs n b)

-- The end of a transaction on this channel is among the branch's items, or among those of one above
-- it.
pub data EndIsBehind (bs : List Branch) (c n : ℕ) (b : Branch) : Type 0 where
  its_own : IsTrue (is_among c (ends_of b.items)) → EndIsBehind bs c n b
  above : (m : ℕ) (p : Branch) → Above bs m n → slice_get bs m ≡ Some p →
      IsTrue (is_among c (ends_of p.items)) → EndIsBehind bs c n b
