-- How far a core is in its window.
use Rattle.std.specs.Prelude.{ℕ, ◌≡◌, ◌<◌, ◌++◌, List}
use Rattle.xr_windows.specs.Alone.{Alone, due_in, stamped}
use Rattle.xr_windows.specs.declared.stamped.Stamped.{Stamped}
use Rattle.xs_core.specs.Core.{Seen as Core}
use Rattle.xs_fabric.specs.Lockstep.{Part, tick_once}
use Rattle.xs_fabric.specs.Rooms.{AllHaveRoom}
use Rattle.xs_instr.specs.declared.image.Home.{Home}
use Rattle.xs_instr.specs.declared.state.CoreState.{CoreState}
use Rattle.xs_instr.specs.declared.state.Item.{Item}
use Rattle.xs_instr.specs.declared.state.Sent.{Sent}
use Rattle.xs_instr.specs.Slot.{last_clock}

-- within a round: the core, its outbox and the records are those of p, begun with this outbox and these records
pub record Holds (p : Part) (tick : ℕ) (outbox0 : List Sent) (records0 : List Stamped) (core : Core) (records : List Stamped) : Type 0 where
  pub state : core.state ≡ p.core
  pub outgoing : core.outbox ≡ outbox0 ++ p.sent
  pub written : records ≡ records0 ++ stamped tick p.made

-- between two rounds: the core, what is on its way to it, its outbox and the records are those of the core by itself, begun
-- with these records and nothing sent
pub record Goes (a : Alone) (records0 : List Stamped) (core : Core) (coming : ℕ → List Item) (records : List Stamped) : Type 0 where
  pub state : core.state ≡ a.core
  pub on_way : (b : ℕ) → coming b ≡ a.coming b
  pub outgoing : core.outbox ≡ a.sent
  pub written : records ≡ records0 ++ a.made

-- it can tick, and what is then due has room
pub record CanGo (home : Home) (core : CoreState) (coming : ℕ → List Item) : Type 0 where
  pub clock : core.clock < last_clock
  pub room : AllHaveRoom home (tick_once core) (due_in coming (tick_once core).clock 4)
