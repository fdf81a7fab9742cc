use Rattle.std.proofs.Common.{◌<◌, length, subst, sym}
use Rattle.xs_instr.specs.Machine.{link_of}
use Rattle.xs_fabric.proofs.Sendings.{can_send_first}
use Rattle.xs_fabric.proofs.turn.send_all.Goals as goal

pub put-requires-clause-place : goal.put-requires-clause-place
put-requires-clause-place c =
    let s = c.in-Some.sent in
    subst (λ n. length (link_of c.sent.links n s.to) < 512) (sym c.number-from.ensures)
    (can_send_first c.sent.links c.args.core.now.home.number s _ c.sent.core.outbox c.in-Some.ensures.sent c.sent.invariant.can).1
