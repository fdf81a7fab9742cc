-- The law of credits, with tokens and credits on links.
use Rattle.std.specs.Prelude.{◌≡◌, ◌<◌, ℕ, suc, ◌+◌, Bool, true, false, List, [], ◌∷◌, length, Some, nat_eq, slice_get}
use Rattle.xs_instr.specs.declared.image.Pair.{Pair}
use Rattle.xs_instr.specs.declared.state.CoreState.{CoreState}
use Rattle.xs_instr.specs.declared.state.Item.{Item}
use Rattle.xs_instr.specs.declared.state.Moved.{Moved}
use Rattle.xs_instr.specs.declared.state.Moved.TheVariants.{Tok, Credit}
use Rattle.xs_instr.specs.Ends.{Peer}
use Rattle.xs_instr.specs.Machine.{link_of}
use Rattle.xc_meaning.specs.States.Channels.{Side, other_side}
use Rattle.xr_channels.specs.Channels.{Links, tokens_at, tokens_for, ends_in, end_of_side}
use Rattle.xr_channels.specs.Balance.{credits_at}

-- `credits_for`, by cases
abbrev pub credit_by : Bool → ℕ → ℕ
credit_by true n = suc n
credit_by false n = n

-- `credits_for`, by cases
abbrev pub credit_for : ℕ → Moved → ℕ → ℕ
credit_for e (Tok f k) n = n
credit_for e (Credit f) n = credit_by (nat_eq f e) n

-- how many of a link's items are credits for an end
abbrev pub credits_for : ℕ → List Item → ℕ
credits_for e [] = 0
credits_for e (i ∷ items) = credit_for e i.moved (credits_for e items)

-- How many tokens an end may still send, how many of its tokens are on the link and at the other end, and how many credits are on
-- their way back, are eight together.
abbrev pub IsEightOverLinks : List CoreState → Links → (here there : Peer) → Type 0
IsEightOverLinks cores links here there =
    credits_at cores here.core here.end + length (tokens_for there.end (link_of links here.core there.core))
    + length (tokens_at cores there.core there.end) + credits_for here.end (link_of links there.core here.core) ≡ 8

-- the end that an item on a link is for
abbrev pub end_of_item : Moved → ℕ
end_of_item (Tok e t) = e
end_of_item (Credit e) = e

-- End e of core b is that of a side whose other side has its end on core a.
pub record ComesFrom (pairs : List Pair) (a b e : ℕ) : Type 0 where
  pub channel : ℕ
  pub pair : Pair
  pub side : Side
  pub here : slice_get pairs channel ≡ Some pair
  pub from : (end_of_side pair (other_side side)).core ≡ a
  pub to : end_of_side pair side ≡ record { core = b; end = e }

-- so it is of each item of the link from core a to core b
abbrev pub AllCome : List Pair → (a b : ℕ) → List Item → Type 0
AllCome pairs a b [] = Unit {0}
AllCome pairs a b (i ∷ items) = ComesFrom pairs a b (end_of_item i.moved) × AllCome pairs a b items

-- the law of credits, whatever is on links
pub record BalancedOverLinks (pairs : List Pair) (cores : List CoreState) (links : Links) : Type 0 where
  -- each side of a channel has its end
  pub ends : (k : ℕ) (p : Pair) (side : Side) → slice_get pairs k ≡ Some p →
      (end_of_side p side).end < length (ends_in (slice_get cores (end_of_side p side).core))
  pub eight : (k : ℕ) (p : Pair) (side : Side) → slice_get pairs k ≡ Some p →
      IsEightOverLinks cores links (end_of_side p side) (end_of_side p (other_side side))
  -- what is on a link is for a side whose other side is where it comes from
  pub come : (a b : ℕ) → AllCome pairs a b (link_of links a b)
  -- nothing is on its way from a core to itself
  pub selves : (c : ℕ) → link_of links c c ≡ []
  -- four links lead out of each of four cores
  pub rows : (a : ℕ) → a < 4 →
      (out : List (List Item)) × (slice_get links a ≡ Some out) × ((b : ℕ) → b < 4 → (items : List Item) × (slice_get out b ≡ Some items))
