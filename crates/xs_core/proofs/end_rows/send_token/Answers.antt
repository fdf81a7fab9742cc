use Rattle.std.proofs.Common.{◌∙◌}
use Rattle.xs_core.proofs.end_rows.send_token.Goals as goal
use Rattle.xs_core.proofs.Found.{absent, end_named, found, found_step, pays, waits_to_pay}
use Rattle.xs_core.specs.Seen.{state_of}
use Rattle.xs_instr.specs.Did.{Paused}
use Rattle.xs_instr.specs.Machine.{boot_end}

pub returns-then-not-has-clause-means : goal.returns-then-not-has-clause-means
returns-then-not-has-clause-means c t x = absent _ _ _ _ c.if-not-has.ensures ∙ end_named _ (state_of c.args.state.now) _ c.args.name c.in-End.e c.in-End.is

pub returns-then-credits-ge1-clause-means : goal.returns-then-credits-ge1-clause-means
returns-then-credits-ge1-clause-means c t x = end_named _ (state_of c.args.state.now) _ c.args.name c.in-End.e c.in-End.is

pub returns-then-credits-ge1-clause-steps : goal.returns-then-credits-ge1-clause-steps
returns-then-credits-ge1-clause-steps c t x = found_step _ _ _ _ boot_end c.if-not-has.ensures (pays _ 1 c.credits.result _ c.if-credits-ge1.true c.credits.ensures)

pub returns-else-credits-ge1-clause-means : goal.returns-else-credits-ge1-clause-means
returns-else-credits-ge1-clause-means c t x = found _ _ _ _ boot_end Paused c.if-not-has.ensures (waits_to_pay _ 1 c.credits.result _ c.if-credits-ge1.false c.credits.ensures) ∙ end_named _ (state_of c.args.state.now) _ c.args.name c.in-End.e c.in-End.is
