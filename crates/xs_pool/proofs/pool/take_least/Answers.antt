use Rattle.std.proofs.Common.{◌≡◌, ◌+◌, ◌∙◌, ap, arith, sym, Some}
use Rattle.xs_pool.proofs.FirstFree.{first_free-is, first_free-none}
use Rattle.xs_pool.proofs.pool.take_least.Goals as goal

pub returns-then-not-is_taken-clause-least : goal.returns-then-not-is_taken-clause-least
returns-then-not-is_taken-clause-least c =
    let counted : c.loop-n.n ≡ 0 + c.loop-n.n = omega arith in
    rw (← c.loop-n.invariant.unchanged)
    (ap Some counted ∙ sym (first_free-is c.loop-n.taken c.loop-n.n 0 (omega arith) c.loop-n.invariant.passed c.if-not-is_taken.true))

pub returns-clause-least : goal.returns-clause-least
returns-clause-least c =
    rw (← c.loop-n.invariant.unchanged)
    (sym (first_free-none c.loop-n.taken 0 (λ k d below. c.loop-n.invariant.passed k d (omega arith))))
