use Rattle.std.proofs.Common.{length}
use Rattle.xs_instr.specs.Words.{AreWordCores}
use Rattle.xr_simulation.proofs.words.keep_words_of_cores.Given as goal

-- the numbers of all cores are words where those of the ones that are left are
abbrev pub invariant-each : goal.invariant-each
invariant-each l = AreWordCores l.rest → AreWordCores l.fn.cores

abbrev pub decreases-each : goal.decreases-each
decreases-each l = length l.rest
