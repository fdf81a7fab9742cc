use Rattle.std.proofs.Common.{◌∙◌, sym, ap}
use Rattle.xs_core.proofs.end_rows.take_control.Goals as goal
use Rattle.xs_core.proofs.Found.{absent, end_named, found, found_step, control_step}
use Rattle.xs_core.specs.Seen.{state_of}
use Rattle.xs_instr.specs.declared.trace.Trap.TheVariants.{Mismatch}
use Rattle.xs_instr.specs.Did.{Paused, Traps}
use Rattle.xs_instr.specs.Ends.{check_in}
use Rattle.xs_instr.specs.Machine.{boot_end}

pub returns-then-not-has-clause-means : goal.returns-then-not-has-clause-means
returns-then-not-has-clause-means c t x = absent _ _ _ _ c.if-not-has.ensures ∙ end_named _ (state_of c.args.state.now) _ c.args.name c.in-End.e c.in-End.is

pub returns-in-Passed-clause-means : goal.returns-in-Passed-clause-means
returns-in-Passed-clause-means c t x = end_named _ (state_of c.args.state.now) _ c.args.name c.in-End.e c.in-End.is

pub returns-in-Passed-clause-steps : goal.returns-in-Passed-clause-steps
returns-in-Passed-clause-steps c t x = found_step _ _ _ _ boot_end c.if-not-has.ensures (control_step _ _ c.in-Passed.ensures)

pub returns-in-Other-clause-means : goal.returns-in-Other-clause-means
returns-in-Other-clause-means c t x = found _ _ _ _ boot_end (Traps Mismatch) c.if-not-has.ensures (sym (ap (check_in _) c.in-Other.ensures)) ∙ end_named _ (state_of c.args.state.now) _ c.args.name c.in-End.e c.in-End.is

pub returns-in-NotYet-clause-means : goal.returns-in-NotYet-clause-means
returns-in-NotYet-clause-means c t x = found _ _ _ _ boot_end Paused c.if-not-has.ensures (sym (ap (check_in _) c.in-NotYet.ensures)) ∙ end_named _ (state_of c.args.state.now) _ c.args.name c.in-End.e c.in-End.is
