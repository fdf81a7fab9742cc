-- Room for what comes to a core, and for what it sends.
use Rattle.std.specs.Prelude.{◌≡◌, ◌≤◌, ◌<◌, ℕ, List, [], ◌∷◌, length, Some, slice_get}
use Rattle.xs_core.specs.Core.{Seen as Core}
use Rattle.xs_core.specs.Deliver.{HasRoomFrom}
use Rattle.xs_instr.specs.declared.image.Home.{Home}
use Rattle.xs_instr.specs.declared.state.CoreState.{CoreState}
use Rattle.xs_instr.specs.declared.state.Item.{Item}
use Rattle.xs_instr.specs.declared.state.Sent.{Sent}
use Rattle.xs_instr.specs.Machine.{came, link_of, on_links}
use Rattle.xs_fabric.specs.Lockstep.{all_came, due_from, due_of, late_from, tick_once}
use Rattle.xs_fabric.specs.Rounds.{Links, own_round}

-- each of the items comes to an end with room for it, one after the other
abbrev pub AllHaveRoom : Home → CoreState → List Item → Type 0
AllHaveRoom home core [] = Unit {0}
AllHaveRoom home core (i ∷ items) = HasRoomFrom home core.ends i.moved × AllHaveRoom home (came core i.moved) items

-- each goes to one of the four cores
abbrev pub AllGoToCores : List Sent → Type 0
AllGoToCores [] = Unit {0}
AllGoToCores (s ∷ sent) = (s.to < 4) × AllGoToCores sent

-- what core c sends goes to cores that are there, and all of it has a place on its link
pub record CanSend (c : ℕ) (links : Links) (sent : List Sent) : Type 0 where
  pub to : AllGoToCores sent
  pub places : (b : ℕ) → b < 4 → length (link_of (on_links links c sent) c b) ≤ 512

-- nothing waits in the core's outbox, which has room for what it sends in a round
pub record IsIdle (core : Core) : Type 0 where
  pub outgoing : core.outbox ≡ []
  pub spare : 32 ≤ core.spare

-- what comes to the core and what it sends in its part of a round has room
pub record CanGo (core : Core) (links : Links) : Type 0 where
  pub number : core.home.number < 4
  pub idle : IsIdle core
  pub few : (a : ℕ) → a < 4 → length (link_of links a core.home.number) ≤ 512
  pub due : (a : ℕ) → a < 4 → AllHaveRoom core.home
      (all_came (tick_once core.state) (due_from links core.home.number (tick_once core.state).clock a))
      (due_of (tick_once core.state).clock (link_of links a core.home.number))
  pub sent : CanSend core.home.number (late_from links core.home.number (tick_once core.state).clock 4)
      (own_round core.home links core.state).sent

-- a link's first item comes to an end with room for it
abbrev pub FirstHasRoom : List Core → Links → ℕ → ℕ → Type 0
FirstHasRoom cores links from to = (item : Item) (rest : List Item) (core : Core) →
    link_of links from to ≡ item ∷ rest → slice_get cores to ≡ Some core → HasRoomFrom core.home core.state.ends item.moved
