use Rattle.std.proofs.Common.{◌≡◌, ◌+◌, length}
use Rattle.xs_instr.specs.Machine.{on_links}
use Rattle.xs_fabric.specs.Rooms.{CanSend}
use Rattle.xs_fabric.proofs.turn.send_all.Given as goal

abbrev pub decreases-sent : goal.decreases-sent
decreases-sent l = length l.core.outbox

abbrev pub invariant-sent : goal.invariant-sent
invariant-sent l = record {
  can : CanSend l.fn.core.home.number l.links l.core.outbox;
  links : on_links l.links l.fn.core.home.number l.core.outbox ≡ on_links l.fn.links l.fn.core.home.number l.fn.core.outbox;
  state : l.core.state ≡ l.fn.core.state;
  home : l.core.home ≡ l.fn.core.home;
  spare : l.core.spare + length l.core.outbox ≡ l.fn.core.spare + length l.fn.core.outbox;
}
