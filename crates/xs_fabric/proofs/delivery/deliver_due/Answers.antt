use Rattle.std.proofs.Common.{◌≡◌, [], sym, subst, ◌∙◌}
use Rattle.xs_fabric.specs.Lockstep.{due_of}
use Rattle.xs_fabric.proofs.Dues.{late_all}
use Rattle.xs_fabric.proofs.delivery.deliver_due.Goals as goal

pub returns-clause-link : goal.returns-clause-link
returns-clause-link c =
    let none = c.in_default.ensures in
    let due = subst (λ n. due_of n c.due.link ≡ []) c.clock-clock.ensures none.0 in
    none.1 ∙ sym (late_all c.args.core.now.state.clock c.due.link due) ∙ c.due.invariant.late
