use Rattle.std.proofs.Common.{ap, ◌∙◌, map}
use Rattle.std.specs.Vec.{vec_items}
use Rattle.xc_inline.proofs.Laws.PathSets.{path_added, path_new}
use Rattle.xc_inline.proofs.numbers.add.Goals as goal

pub returns-clause-paths : goal.returns-clause-paths
returns-clause-paths c = ap (map vec_items) c.in-Ok.ensures.keys ∙ path_added c.args.paths.now.keys c.in_ok-path.path c.args.path.now c.in_ok-path.ensures.items

pub returns-clause-new : goal.returns-clause-new
returns-clause-new c = c.in-Ok.ensures.added ∙ path_new c.args.paths.now.keys c.in_ok-path.path c.args.path.now c.in_ok-path.ensures.items
