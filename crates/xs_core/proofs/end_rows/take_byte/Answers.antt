use Rattle.std.proofs.Common.{◌∙◌, sym, ap}
use Rattle.xs_core.proofs.end_rows.take_byte.Goals as goal
use Rattle.xs_core.proofs.Found.{absent, end_named, found, found_step, byte_step}
use Rattle.xs_core.specs.Seen.{state_of}
use Rattle.xs_instr.specs.declared.trace.Trap.TheVariants.{Mismatch}
use Rattle.xs_instr.specs.Did.{Paused, Traps}
use Rattle.xs_instr.specs.Ends.{byte_in}
use Rattle.xs_instr.specs.Machine.{boot_end}

pub returns-then-not-has-clause-means : goal.returns-then-not-has-clause-means
returns-then-not-has-clause-means c t x = absent _ _ _ _ c.if-not-has.ensures ∙ end_named _ (state_of c.args.state.now) _ c.args.name c.in-End.e c.in-End.is

pub returns-in-Word-clause-means : goal.returns-in-Word-clause-means
returns-in-Word-clause-means c t x = end_named _ (state_of c.args.state.now) _ c.args.name c.in-End.e c.in-End.is

pub returns-in-Word-clause-steps : goal.returns-in-Word-clause-steps
returns-in-Word-clause-steps c t x = found_step _ _ _ _ boot_end c.if-not-has.ensures (byte_step _ _ _ c.in-Word.ensures)

pub returns-in-Control-clause-means : goal.returns-in-Control-clause-means
returns-in-Control-clause-means c t x = found _ _ _ _ boot_end (Traps Mismatch) c.if-not-has.ensures (sym (ap (byte_in _) c.in-Control.ensures)) ∙ end_named _ (state_of c.args.state.now) _ c.args.name c.in-End.e c.in-End.is

pub returns-in-NotYet-clause-means : goal.returns-in-NotYet-clause-means
returns-in-NotYet-clause-means c t x = found _ _ _ _ boot_end Paused c.if-not-has.ensures (sym (ap (byte_in _) c.in-NotYet.ensures)) ∙ end_named _ (state_of c.args.state.now) _ c.args.name c.in-End.e c.in-End.is
