use Rattle.std.proofs.Common.{length}
use Rattle.xs_instr.specs.Words.{AreWordPlaces}
use Rattle.xr_simulation.proofs.words.keep_words_of_places.Given as goal

-- the numbers of all places are words where those of the ones that are left are
abbrev pub invariant-each : goal.invariant-each
invariant-each l = AreWordPlaces l.rest → AreWordPlaces l.fn.places

abbrev pub decreases-each : goal.decreases-each
decreases-each l = length l.rest
