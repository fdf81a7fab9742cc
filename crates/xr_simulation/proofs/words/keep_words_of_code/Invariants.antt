use Rattle.std.proofs.Common.{length}
use Rattle.xs_instr.specs.Words.{AreWordInstrs}
use Rattle.xr_simulation.proofs.words.keep_words_of_code.Given as goal

-- the numbers of all instructions are words where those of the ones that are left are
abbrev pub invariant-each : goal.invariant-each
invariant-each l = AreWordInstrs l.rest → AreWordInstrs l.fn.instrs

abbrev pub decreases-each : goal.decreases-each
decreases-each l = length l.rest
