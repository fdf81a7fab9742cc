-- On which sides of a channel branches stand in a transaction.
use Rattle.std.specs.Prelude.{◌≡◌, ◌⊎◌, ℕ, Bool, false, not, ◌&&◌, ◌||◌, IsTrue, List, [], ◌∷◌, Some, slice_get}
use Rattle.xc_kernel.specs.Things.{channel}
use Rattle.xc_meaning.specs.States.Channels.{Side, other_side}
use Rattle.xc_kernel.specs.Plain as kernel
use Rattle.xc_meaning.specs.States.Items.{Item, does, transaction_end}
use Rattle.xc_meaning.specs.States.Branches.{runs, erred, has_ended, Branch, side_of}
use Rattle.xc_meaning.specs.Settings.Channels.{is_among}
use Rattle.xc_meaning.specs.Quiet.{is_side}
use Rattle.xc_meaning.specs.Uses.{by_items}
use Rattle.xc_invariants.specs.Placed.{ends_of}
use Rattle.xc_invariants.specs.Tree.{Above}

-- a branch that hasn't ended, also one that has erred, stands on this side of the channel in a transaction on it
abbrev pub stands_within : ℕ → Side → Branch → Bool
stands_within c side b = not (has_ended b.mode) && (is_side side (side_of b c) && is_among c b.inside)

-- some branch does
abbrev pub inside_on : List Branch → ℕ → Side → Bool
inside_on [] c side = false
inside_on (b ∷ bs) c side = stands_within c side b || inside_on bs c side

-- where a branch uses the channel, it stands on the other side
abbrev pub StandsOpposite : ℕ → Side → Branch → Type 0
StandsOpposite c side d = IsTrue (by_items (channel c) d.items) → side_of d c ≡ Some (other_side side)

-- Each other branch waits for this one, or stands on the other side where it uses the channel.
pub record KeepsSide (bs : List Branch) (c : ℕ) (side : Side) (m : ℕ) : Type 0 where
  pub others : (n : ℕ) (d : Branch) → slice_get bs n ≡ Some d → (n ≡ m → ⊥) →
      Above bs n m ⊎ StandsOpposite c side d

-- A branch that has erred in a transaction keeps its side to itself, or a branch above it has the transaction's end among its items.
pub data ErredWithin (bs : List Branch) (c m : ℕ) (w : Branch) : Type 0 where
  alone : (side : Side) → side_of w c ≡ Some side → KeepsSide bs c side m → ErredWithin bs c m w
  below : (k : ℕ) (p : Branch) → Above bs k m → slice_get bs k ≡ Some p → IsTrue (is_among c (ends_of p.items)) →
      ErredWithin bs c m w

pub record EachErredAlone (c : ℕ) (bs : List Branch) : Type 0 where
  pub each : (m : ℕ) (w : Branch) → slice_get bs m ≡ Some w → w.mode ≡ erred → IsTrue (is_among c w.inside) →
      ErredWithin bs c m w

-- an item that begins or ends a transaction on a channel
abbrev pub IsTransaction : ℕ → Item → Type 0
IsTransaction c (does (kernel.transaction d is_master ss start close)) = d ≡ c
IsTransaction c (transaction_end d is_master pos) = d ≡ c
IsTransaction c item = ⊥

-- By the branches before and behind a step: a running branch on this side of the channel has begun a transaction on it or ended one.
pub record BeginsOrEnds (bs cs : List Branch) (c : ℕ) (side : Side) : Type 0 where
  pub number : ℕ
  pub branch : Branch
  pub there : slice_get bs number ≡ Some branch
  pub running : branch.mode ≡ runs
  pub side_is : side_of branch c ≡ Some side
  pub item : Item
  pub rest : List Item
  pub items : branch.items ≡ item ∷ rest
  pub is : IsTransaction c item
  pub now : Branch
  pub then : slice_get cs number ≡ Some now
  pub inside : (now.inside ≡ c ∷ branch.inside) ⊎ (branch.inside ≡ c ∷ now.inside)
