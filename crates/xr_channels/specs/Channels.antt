-- What stands between the two sides of each channel of an image, at each moment.
use Rattle.std.specs.Prelude.{◌≡◌, ◌<◌, ℕ, Bool, true, false, List, [], ◌∷◌, length, Option, Some, None, nat_eq, slice_get, slice_index_or}
use Rattle.xs_instr.specs.declared.image.Pair.{Pair}
use Rattle.xs_instr.specs.declared.state.ChanEnd.{ChanEnd}
use Rattle.xs_instr.specs.declared.state.CoreState.{CoreState}
use Rattle.xs_instr.specs.declared.state.Item.{Item}
use Rattle.xs_instr.specs.declared.state.Moved.{Moved}
use Rattle.xs_instr.specs.declared.state.Moved.TheVariants.{Tok, Credit}
use Rattle.xs_instr.specs.declared.state.Token.{Token}
use Rattle.xs_instr.specs.Ends.{Peer, peer_of}
use Rattle.xs_instr.specs.Machine.{link_of}
use Rattle.xc_meaning.specs.States.Channels.{Parcel, Side, first, second, other_side, Inboxes, no_parcels, parcels_at}
use Rattle.xr_channels.specs.Phases.{between, streams, SideState, side_state, Direction}
use Rattle.xr_channels.specs.ChannelRel.{ChannelRel}

-- the links from each core to each
abbrev pub Links : Type 0
Links = List (List (List Item))

-- the end of a side of a channel
abbrev pub end_of_side : Pair → Side → Peer
end_of_side p first = record { core = p.core; end = p.end }
end_of_side p second = record { core = p.peer_core; end = p.peer_end }

-- `tokens_at`, by cases
abbrev pub tokens_in : Option ChanEnd → List Token
tokens_in None = []
tokens_in (Some end) = end.tokens

-- `tokens_at`, by cases
abbrev pub ends_in : Option CoreState → List ChanEnd
ends_in None = []
ends_in (Some core) = core.ends

-- the tokens at an end
abbrev pub tokens_at : List CoreState → (core end : ℕ) → List Token
tokens_at cores c e = tokens_in (slice_get (ends_in (slice_get cores c)) e)

-- `tokens_for`, by cases
abbrev pub token_by : Bool → Token → List Token → List Token
token_by true k ks = k ∷ ks
token_by false k ks = ks

-- `tokens_for`, by cases
abbrev pub token_for : ℕ → Moved → List Token → List Token
token_for e (Tok f k) ks = token_by (nat_eq f e) k ks
token_for e (Credit f) ks = ks

-- the tokens for an end among a link's items
abbrev pub tokens_for : (end : ℕ) → List Item → List Token
tokens_for e [] = []
tokens_for e (i ∷ items) = token_for e i.moved (tokens_for e items)

-- What neither the machine nor the program says: where each side of each channel stands, and what is to be put at a side.
pub record Ghosts : Type 0 where
  pub side_states : (channel : ℕ) → Side → SideState
  pub late : (channel : ℕ) → Side → List Parcel

-- At the start each side is outside and in no piece, but on a streaming channel always in one, and nothing is late.
abbrev pub start_side_state : (is_streaming : Bool) → SideState
start_side_state true = side_state streams true
start_side_state false = side_state between false

abbrev pub start_ghosts : (streaming : ℕ → Bool) → Ghosts
start_ghosts streaming = record { side_states = λ k side. start_side_state (streaming k); late = λ k side. [] }

-- the direction to a side of a channel
abbrev pub direction_to : List CoreState → Links → List Inboxes → Ghosts → Pair → (channel : ℕ) → Side → Direction
direction_to cores links inboxes g p k side =
    let here = end_of_side p side in
    let there = end_of_side p (other_side side) in
    record {
      buffer = tokens_at cores here.core here.end;
      link = tokens_for here.end (link_of links there.core here.core);
      inbox = parcels_at (slice_index_or inboxes k no_parcels) side;
      late = g.late k side;
    }

-- A channel of the image as its side sees it. Its number is that of its line, which is its place among the program's channels with two sides.
abbrev pub ChannelRelAt : List CoreState → Links → List Inboxes → Ghosts → Pair → (channel : ℕ) → Side → Type 0
ChannelRelAt cores links inboxes g p k side =
    ChannelRel (g.side_states k side) (g.side_states k (other_side side)) (direction_to cores links inboxes g p k (other_side side)) (direction_to cores links inboxes g p k side)

-- the channels of an image
pub record Channels (pairs : List Pair) (cores : List CoreState) (links : Links) (inboxes : List Inboxes) (g : Ghosts) : Type 0 where
  -- each stands as its sides do
  pub talks : (k : ℕ) (p : Pair) → slice_get pairs k ≡ Some p → ChannelRelAt cores links inboxes g p k first
  -- and has its inboxes
  pub boxes : (k : ℕ) (p : Pair) → slice_get pairs k ≡ Some p → k < length inboxes
  -- within a core nothing is late
  pub prompt : (k : ℕ) (p : Pair) (side : Side) → slice_get pairs k ≡ Some p → (end_of_side p side).core ≡ (end_of_side p (other_side side)).core → g.late k side ≡ []
  -- nothing is on its way from a core to itself
  pub selves : (c : ℕ) → link_of links c c ≡ []

-- Each end of an image's channels is one side of one of them, its peer is the other side, and there are four cores.
pub record IsWired (pairs : List Pair) : Type 0 where
  pub peers : (k : ℕ) (p : Pair) (side : Side) → slice_get pairs k ≡ Some p → peer_of pairs (end_of_side p side).core (end_of_side p side).end ≡ end_of_side p (other_side side)
  pub once : (k : ℕ) (p : Pair) (side : Side) (k' : ℕ) (p' : Pair) (side' : Side) → slice_get pairs k ≡ Some p → slice_get pairs k' ≡ Some p' → end_of_side p side ≡ end_of_side p' side' → (k ≡ k') × (side ≡ side')
  pub core : (k : ℕ) (p : Pair) (side : Side) → slice_get pairs k ≡ Some p → (end_of_side p side).core < 4
