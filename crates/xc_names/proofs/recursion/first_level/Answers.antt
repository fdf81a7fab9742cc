use Rattle.std.proofs.lemmas.Option.{slice_get-get_or}
use Rattle.xc_names.proofs.Graphs.{level_on}
use Rattle.xc_names.proofs.recursion.first_level.Goals as goal

pub loop-at-preserved : goal.loop-at-preserved
loop-at-preserved c =
    rw c.first_of_level-best.ensures
    (level_on c.args.edges.now c.args.numbers.now c.loop-at.at c.loop-at.best _ c.loop-at.invariant (slice_get-get_or c.args.edges.now c.loop-at.at _ c.loop-at-test.true))
