use Rattle.std.proofs.Common.{sym, ap}
use Rattle.xs_core.proofs.end_rows.take_word.Goals as goal
use Rattle.xs_core.proofs.Found.{absent, found, found_step, word_step}
use Rattle.xs_core.specs.Seen.{home_of}
use Rattle.xs_instr.specs.declared.trace.Trap.TheVariants.{Mismatch}
use Rattle.xs_instr.specs.Did.{Paused, Traps}
use Rattle.xs_instr.specs.Ends.{word_in}
use Rattle.xs_instr.specs.Machine.{boot_end}

pub returns-then-not-has-clause-means : goal.returns-then-not-has-clause-means
returns-then-not-has-clause-means c t name x = absent _ _ _ _ c.if-not-has.ensures

pub returns-in-Word-clause-steps : goal.returns-in-Word-clause-steps
returns-in-Word-clause-steps c t x = found_step _ _ _ _ boot_end c.if-not-has.ensures (word_step (home_of c.args.state.now) _ _ _ c.in-Word.ensures)

pub returns-in-Control-clause-means : goal.returns-in-Control-clause-means
returns-in-Control-clause-means c t name x = found _ _ _ _ boot_end (Traps Mismatch) c.if-not-has.ensures (sym (ap (word_in (home_of c.args.state.now) _) c.in-Control.ensures))

pub returns-in-NotYet-clause-means : goal.returns-in-NotYet-clause-means
returns-in-NotYet-clause-means c t name x = found _ _ _ _ boot_end Paused c.if-not-has.ensures (sym (ap (word_in (home_of c.args.state.now) _) c.in-NotYet.ensures))
