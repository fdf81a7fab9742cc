use Rattle.xs_core.proofs.end_rows.send_word.Goals as goal
use Rattle.xs_core.proofs.Found.{absent, found, found_step, pays, waits_to_pay}
use Rattle.xs_instr.specs.Did.{Paused}
use Rattle.xs_instr.specs.Machine.{boot_end}

pub returns-then-not-has-clause-means : goal.returns-then-not-has-clause-means
returns-then-not-has-clause-means c t x = absent _ _ _ _ c.if-not-has.ensures

pub returns-then-credits-ge4-clause-steps : goal.returns-then-credits-ge4-clause-steps
returns-then-credits-ge4-clause-steps c t x = found_step _ _ _ _ boot_end c.if-not-has.ensures (pays _ 4 c.credits.result _ c.if-credits-ge4.true c.credits.ensures)

pub returns-else-credits-ge4-clause-means : goal.returns-else-credits-ge4-clause-means
returns-else-credits-ge4-clause-means c t x = found _ _ _ _ boot_end Paused c.if-not-has.ensures (waits_to_pay _ 4 c.credits.result _ c.if-credits-ge4.false c.credits.ensures)
