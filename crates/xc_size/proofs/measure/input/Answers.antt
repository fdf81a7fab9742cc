use Rattle.std.proofs.Common.{arith}
use Rattle.xc_size.proofs.UpTo.{sum_of_three, same_count}
use Rattle.xc_size.proofs.measure.input.Goals as goal

pub returns-clause-nodes : goal.returns-clause-nodes
returns-clause-nodes c =
    same_count _ _ _ _ (sum_of_three _ _ _ _ _ _ _ _ _ c.timing.ensures.nodes c.condition.ensures.nodes c.stored-stored.ensures.nodes c.parallel.ensures.nodes c.parallel-2.ensures.nodes) (omega arith)
