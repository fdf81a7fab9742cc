use Rattle.std.proofs.Common.{ℕ, length, ap, arith}
use Rattle.std.proofs.lemmas.List.{length-set}
use Rattle.xs_port.proofs.LineLemmas.{good_next, next_own, next_far, late_from, none_from}
use Rattle.xs_port.proofs.pins.advance.Goals as goal
use Rattle.xs_port.proofs.pins.advance.Goals.{then-line-core, else-line-core}

pub loop-next-preserved : goal.loop-next-preserved
loop-next-preserved c =
    elim c.if-line-core.branch [
      | then-line-core w ↦ (
        good_next _ _ c.loop-next-test.true c.loop-next.invariant.0,
        rw w.values-is (next_own _ _ _ _ _ _ _ _ c.loop-next-test.true c.loop-next.invariant.1 w.if-line-core.true c.if-lines-next.true
            (omega (arith, length-set {A = ℕ}, ap length w.values-is))),
      )
      | else-line-core w ↦ (
        good_next _ _ c.loop-next-test.true c.loop-next.invariant.0,
        rw w.values-is (next_far _ _ _ _ _ _ _ _ c.loop-next-test.true c.loop-next.invariant.1 w.if-line-core.false),
      )
    ]

pub returns-else-lines-next-clause-later : goal.returns-else-lines-next-clause-later
returns-else-lines-next-clause-later c = late_from _ _ _ _ c.loop-next-test.true c.if-lines-next.false c.loop-next.invariant.0

pub returns-after-loop-next-clause-later : goal.returns-after-loop-next-clause-later
returns-after-loop-next-clause-later c = none_from _ _ _ c.loop-next-test.false
