-- What the tokens at an end say of the inbox: a select takes the case of a channel or its default by them alone.
use Rattle.std.proofs.Common.{◌≡◌, ℕ, Bool, false, List, [], ◌∷◌, Some, inl, inr}
use Rattle.std.specs.Prelude.{◌⊎◌, slice_get}
use Rattle.xs_instr.specs.declared.image.Pair.{Pair}
use Rattle.xs_instr.specs.declared.state.CoreState.{CoreState}
use Rattle.xs_instr.specs.declared.state.Token.{Token}
use Rattle.xc_meaning.specs.States.Channels.{Parcel, Side, other_side, Inboxes}
use Rattle.xr_channels.specs.Phases.{between, side_state}
use Rattle.xr_channels.specs.Channels.{Links, tokens_at, end_of_side, Ghosts, direction_to, Channels, IsWired}
use Rattle.xr_channels.proofs.Sides.Found.{Has, counts_as_parcel, parcel_there, head, first_token}
use Rattle.xr_channels.proofs.Laws.Fresh.{nothing_ready}
use Rattle.xr_channels.proofs.All.Frames.{parcels, talk_at}
use Rattle.xr_channels.proofs.Sides.Updates.{at_spot}

-- Where a data token or OPEN stands at an end of a channel, that side's inbox is not empty.
pub token_has_parcel : (pairs : List Pair) (wired : IsWired pairs) (cores : List CoreState) (links : Links) (boxes : List Inboxes) (g : Ghosts) → Channels pairs cores links boxes g → (k : ℕ) (p : Pair) (side : Side) → slice_get pairs k ≡ Some p → Has counts_as_parcel (tokens_at cores (end_of_side p side).core (end_of_side p side).end) → parcels boxes k side ≡ [] → ⊥
token_has_parcel pairs wired cores links boxes g h k p side at_k has none =
    parcel_there (g.side_states k side) (g.side_states k (other_side side)) (direction_to cores links boxes g p k side) (talk_at pairs wired cores links boxes g k p side h at_k).talk.homeward has none

-- A side between pieces, where a select stands.
module _ (pairs : List Pair) (wired : IsWired pairs) (cores : List CoreState) (links : Links) (boxes : List Inboxes) (g : Ghosts) (h : Channels pairs cores links boxes g) (k : ℕ) (p : Pair) (side : Side) (at_k : slice_get pairs k ≡ Some p) where
  -- the tokens at the side's end
  abbrev pub tokens : List Token
  tokens = tokens_at cores (end_of_side p side).core (end_of_side p side).end

  -- Outside a transaction and without a token the inbox is empty: no case on the channel is enabled, and the default may be taken.
  pub none_ready : g.side_states k side ≡ side_state between false → tokens ≡ [] → parcels boxes k side ≡ []
  none_ready at none =
      let stands = at_spot pairs wired cores links boxes g h k p side at_k (side_state between false) at in
      nothing_ready (g.side_states k (other_side side)) (direction_to cores links boxes g p k (other_side side)) (direction_to cores links boxes g p k side) stands.talk stands.fresh.mine none

  -- Where a token is, a parcel stands first in the inbox, whose first token it is.
  pub one_ready : (i : Bool) (t : Token) (ts : List Token) → g.side_states k side ≡ side_state between i → tokens ≡ t ∷ ts → (x : Parcel) × (ps : List Parcel) × (parcels boxes k side ≡ x ∷ ps) × (t ≡ head x)
  one_ready i t ts at there =
      let stands = at_spot pairs wired cores links boxes g h k p side at_k (side_state between i) at in
      by (first_token (direction_to cores links boxes g p k side) stands.talk.homeward.more stands.talk.homeward.come)
    where
      by : (tokens ≡ []) ⊎ ((x : Parcel) × (ps : List Parcel) × (us : List Token) × (parcels boxes k side ≡ x ∷ ps) × (tokens ≡ head x ∷ us)) → (x : Parcel) × (ps : List Parcel) × (parcels boxes k side ≡ x ∷ ps) × (t ≡ head x)
      by (inl none) = cc
      by (inr (x, ps, us, found, first)) = (x, ps, found, cc)
