-- What a core holds.
use Rattle.std.specs.Prelude.{◌≤◌, ◌-◌, length}
use Rattle.xs_core.specs.declared.one_core.Core.TheInside.{Inside}
use Rattle.xs_core.specs.Core.{Seen}
use Rattle.xs_core.specs.Idle.{AreUnusedFrom}
use Rattle.xs_core.specs.Order.{IsInOrder}
use Rattle.xs_core.specs.Seen.{home_of, state_of}

-- what is seen of it
abbrev pub seen_of : Inside → Seen
seen_of c = record {
  home = home_of c.state;
  state = state_of c.state;
  outbox = c.outbox.items;
  spare = c.outbox.capacity - length c.outbox.items;
}

-- its parts are in order, its outbox holds what is in it, and no thread is in use from that number on
pub record IsCore (c : Inside) : Type 0 where
  pub order : IsInOrder c.state
  pub room : length c.outbox.items ≤ c.outbox.capacity
  pub few : c.in_use ≤ 8
  pub unused : AreUnusedFrom c.in_use c.state.threads
