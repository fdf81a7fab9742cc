use Rattle.xc_disjoint.specs.UseTables.{uses_in}
use Rattle.xc_disjoint.proofs.UseEntries.{swapped}
use Rattle.xc_disjoint.proofs.use_tables.larger_first.Goals as goal

pub returns-then-len : goal.returns-then-len
returns-then-len c = rw (c.swap.ensures.x_after, c.swap.ensures.y_after) (swapped (uses_in c.args.second.now) (uses_in c.args.first.now))
