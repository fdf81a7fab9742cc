use Rattle.std.proofs.Common.{◌∙◌}
use Rattle.xc_inline.proofs.Laws.PathSets.{place_found, place_missing}
use Rattle.xc_inline.proofs.numbers.place.Goals as goal

pub returns-in-Some : goal.returns-in-Some
returns-in-Some c = place_found c.args.path.now c.args.paths.now.keys c.in-Some.place c.in-Some.ensures.index

pub returns-in-None : goal.returns-in-None
returns-in-None c = let l = c.len.ensures.len in l ∙ place_missing c.args.path.now c.args.paths.now.keys c.in-None.ensures.index
