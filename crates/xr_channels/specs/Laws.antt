-- What is always true of channels, in few words.
use Rattle.std.specs.Prelude.{◌≡◌, ◌<◌, ℕ, Bool, false, List, [], length, Some, is_some, slice_get, slice_index_or}
use Rattle.xs_instr.specs.declared.image.Image.{Image}
use Rattle.xs_instr.specs.declared.image.Pair.{Pair}
use Rattle.xs_instr.specs.declared.image.Stim.{Stim}
use Rattle.xs_instr.specs.declared.state.CoreState.{CoreState}
use Rattle.xs_instr.specs.Events.{end_ready}
use Rattle.xs_instr.specs.Machine.{Machine, Move, boot, does}
use Rattle.xs_instr.specs.Valid.{Valid}
use Rattle.xc_meaning.specs.States.Channels.{Side, Inboxes, no_parcels, oldest, parcels_at}
use Rattle.xr_channels.specs.Phases.{between, side_state}
use Rattle.xr_channels.specs.Channels.{Links, tokens_at, end_of_side, Ghosts, start_ghosts, Channels, IsWired}
use Rattle.xr_channels.specs.Balance.{Local}
use Rattle.xr_channels.specs.CreditsOverLinks.{BalancedOverLinks}

-- Where a machine and a program start, with an inbox for each channel and nothing in any, nothing stands between any sides.
abbrev pub ChannelsBegin : Type 0
ChannelsBegin = (L : Image) (streaming : ℕ → Bool) (inboxes : List Inboxes) → Valid L → ((k : ℕ) (side : Side) → parcels_at (slice_index_or inboxes k no_parcels) side ≡ []) → ((k : ℕ) (p : Pair) → slice_get L.chans k ≡ Some p → k < length inboxes) → Local L.chans (boot L).cores inboxes (start_ghosts streaming)

-- A side that is outside and in no piece has an empty inbox where no token is at its end: no case of a select on it is ready.
abbrev pub NoneReady : Type 0
NoneReady = (pairs : List Pair) → IsWired pairs → (cores : List CoreState) (links : Links) (inboxes : List Inboxes) (g : Ghosts) → Channels pairs cores links inboxes g → (k : ℕ) (p : Pair) (side : Side) → slice_get pairs k ≡ Some p → g.side_states k side ≡ side_state between false → tokens_at cores (end_of_side p side).core (end_of_side p side).end ≡ [] → parcels_at (slice_index_or inboxes k no_parcels) side ≡ []

-- The end of such a side is ready for an event exactly where its inbox isn't empty, as the case of a select on it is.
abbrev pub EndsAgree : Type 0
EndsAgree =
    (pairs : List Pair) → IsWired pairs → (cores : List CoreState) (links : Links) (inboxes : List Inboxes) (g : Ghosts) →
    Channels pairs cores links inboxes g → (k : ℕ) (p : Pair) (side : Side) → slice_get pairs k ≡ Some p → (core : CoreState) →
    slice_get cores (end_of_side p side).core ≡ Some core → g.side_states k side ≡ side_state between false →
    end_ready core (end_of_side p side).end ≡ is_some (oldest (parcels_at (slice_index_or inboxes k no_parcels) side))

-- Where a machine starts the law of credits holds, with nothing on links.
abbrev pub CreditsBegin : Type 0
CreditsBegin = (L : Image) → Valid L → BalancedOverLinks L.chans (boot L).cores (boot L).links

-- A token or a credit that comes over a link keeps the law, whatever else is on links.
abbrev pub CreditsAreKept : Type 0
CreditsAreKept =
    (L : Image) (s : Stim) → Valid L → (m m' : Machine) (a b : ℕ) → does L s m (Move a b) ≡ Some m' →
    BalancedOverLinks L.chans m.cores m.links → BalancedOverLinks L.chans m'.cores m'.links
