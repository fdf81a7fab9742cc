-- What stands between the sides of channels wherever their ends are, and what a delivery over a link is in the program.
use Rattle.std.specs.Prelude.{◌≡◌, ℕ, Bool, List, ◌∷◌, Some, slice_get}
use Rattle.xs_instr.specs.declared.image.Pair.{Pair}
use Rattle.xs_instr.specs.declared.state.CoreState.{CoreState}
use Rattle.xc_meaning.specs.States.Channels.{Parcel, Side, other_side, Inboxes}
use Rattle.xr_channels.specs.Phases.{side_state}
use Rattle.xr_channels.specs.Channels.{Links, end_of_side, Ghosts, Channels}
use Rattle.xr_channels.specs.ChannelSteps.{put_at, moved_to, LateKind}
use Rattle.xr_channels.specs.CreditsOverLinks.{BalancedOverLinks}

-- What stands between the sides of channels, whose ends may be on one core or on two: tokens and credits may be on links.
pub record ChannelsOverLinks (pairs : List Pair) (cores : List CoreState) (links : Links) (inboxes : List Inboxes)
    (g : Ghosts) : Type 0 where
  pub wires : Channels pairs cores links inboxes g
  pub balanced : BalancedOverLinks pairs cores links

-- An item has come over the link from core a to core b. The program does nothing; or a parcel that is late is put, from a side whose end
-- is on core a at the other one, whose end is on core b.
pub data Delivered (pairs : List Pair) (a b : ℕ) (cores : List CoreState) (links : Links) (inboxes : List Inboxes)
    (g : Ghosts) : Type 0 where
  silently : ChannelsOverLinks pairs cores links inboxes g → Delivered pairs a b cores links inboxes g
  putting : (k : ℕ) (p : Pair) (side : Side) (x : Parcel) (rest : List Parcel) (inside : Bool) →
      slice_get pairs k ≡ Some p → (end_of_side p side).core ≡ a → (end_of_side p (other_side side)).core ≡ b →
      g.late k (other_side side) ≡ x ∷ rest →
      LateKind (g.side_states k side).phase (g.side_states k side).inside x rest inside →
      ChannelsOverLinks pairs cores links (put_at inboxes k (other_side side) x)
      (moved_to g k side (side_state (g.side_states k side).phase inside) rest) →
      Delivered pairs a b cores links inboxes g
