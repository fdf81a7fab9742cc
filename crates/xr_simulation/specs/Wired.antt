-- What stands between the sides of all channels, by the transfers that threads have begun.
use Rattle.std.specs.Prelude.{◌≡◌, ◌⊎◌, ℕ, false, IsTrue, List, [], map, length, Option, Some, slice_get, slice_index_or}
use Rattle.xs_instr.specs.declared.state.CoreState.{CoreState}
use Rattle.xs_instr.specs.Machine.{Machine, parts_in}
use Rattle.xc_kernel.specs.Plain as kernel
use Rattle.xc_kernel.specs.Things.{channel}
use Rattle.xc_invariants.specs.Tree.{Above}
use Rattle.xc_meaning.specs.States.Branches.{Branch, side_of}
use Rattle.xc_meaning.specs.States.Channels.{Inboxes, Parcel, Side, no_parcels, other_side}
use Rattle.xc_meaning.specs.States.Worlds.{World}
use Rattle.xc_meaning.specs.Uses.{by_items}
use Rattle.xl_par.specs.Acquired.{Acquired}
use Rattle.xl_plan.specs.Layout.{core_of}
use Rattle.xr_match.specs.Sides.{two_sided}
use Rattle.xr_simulation.specs.Roles.{Roles, used_by}
use Rattle.xr_simulation.specs.Runners.{Setting, Runner}
use Rattle.xr_simulation.specs.Transfers.{Transfer}
use Rattle.xr_channels.specs.Phases.{SideState, between, side_state}
use Rattle.xr_channels.specs.Channels.{Ghosts}
use Rattle.xr_channels.specs.ChannelsOverLinks.{ChannelsOverLinks}

-- the inboxes of the channels with two sides, in the order of the image's lines
abbrev pub boxes_in : kernel.Kernel → List Inboxes → List Inboxes
boxes_in K boxes = map (λ c. slice_index_or boxes c no_parcels) (two_sided K)

-- the line of a channel in the image
abbrev pub IsLine : kernel.Kernel → (line channel : ℕ) → Type 0
IsLine K line c = slice_get (two_sided K) line ≡ Some c

-- a thread is inside a transfer on a side of a channel
pub record IsTransferring (who : Roles) (core thread : ℕ) (c : ℕ) (side : Side) : Type 0 where
  pub runner : Runner
  pub hand : Option Acquired
  pub runs : who core thread ≡ used_by runner hand
  pub transfer : Transfer
  pub is : runner.transfer ≡ Some transfer
  pub channel_is : transfer.channel ≡ c
  pub side_is : transfer.side ≡ side

-- How a side of a channel stands, and what is late to the other side: as the transfer says that a thread on the side's core is in there;
-- or, where none is, in no piece, with nothing late.
pub data SideIs (g : Setting) (who : Roles) (c : ℕ) (side : Side) (at : SideState) (late : List Parcel) : Type 0 where
  in_transfer : (core thread : ℕ) (i : IsTransferring who core thread c side) → core_of g.program c side ≡ core →
      at ≡ side_state i.transfer.phase false → late ≡ i.transfer.late → SideIs g who c side at late
  idle : ((core thread : ℕ) → IsTransferring who core thread c side → ⊥) → at ≡ side_state between false → late ≡ [] →
      SideIs g who c side at late

-- The one relation of all channels: a side of a channel stands where the thread does that has begun a transfer on it, and else in no piece; and
-- there is at most one such thread. It is on the side's core, and the other side may be on another one: then tokens and credits are on
-- links. Where each side of a line stands is a ghost: the machine has tokens and credits alone, and a thread outside a transfer tells
-- nothing of which side it was on.
pub record AreWired (g : Setting) (who : Roles) (m : Machine) (x : World) : Type 0 where
  pub ghosts : Ghosts
  pub over : ChannelsOverLinks g.image.chans m.cores m.links (boxes_in g.program x.inboxes) ghosts
  pub long : length x.inboxes ≡ length g.program.channels
  pub ends : (c : ℕ) (a : CoreState) → slice_get m.cores c ≡ Some a → length a.ends ≡ (parts_in g.image.cores c).ends
  pub listed : (core thread c : ℕ) (side : Side) → IsTransferring who core thread c side →
      (line : ℕ) × IsLine g.program line c × (core_of g.program c side ≡ core)
  pub stances : (line c : ℕ) (side : Side) → IsLine g.program line c →
      SideIs g who c side (ghosts.side_states line side) (ghosts.late line (other_side side))
  pub one : (core thread core' thread' c : ℕ) (side : Side) → IsTransferring who core thread c side → IsTransferring who core' thread' c side →
      (core' ≡ core) × (thread' ≡ thread)

-- A branch has a side of a channel for itself: each other branch is above it or below it, or on the other side where it uses the channel.
pub record HasAlone (bs : List Branch) (c : ℕ) (side : Side) (b : ℕ) : Type 0 where
  pub others : (n : ℕ) (d : Branch) → slice_get bs n ≡ Some d → (n ≡ b → ⊥) →
      Above bs n b ⊎ (Above bs b n ⊎ (IsTrue (by_items (channel c) d.items) → side_of d c ≡ Some (other_side side)))
