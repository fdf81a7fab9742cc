use Rattle.xc_wellformed.proofs.Worded.{words_kept, updates_kept, steps_kept, spots_kept}
use Rattle.xc_wellformed.proofs.promised.expressions_keep_their_word.Goals as goal

pub returns-clause-words : goal.returns-clause-words
returns-clause-words c = words_kept

pub returns-clause-updates : goal.returns-clause-updates
returns-clause-updates c = updates_kept

pub returns-clause-steps : goal.returns-clause-steps
returns-clause-steps c = steps_kept

pub returns-clause-places : goal.returns-clause-places
returns-clause-places c = spots_kept
