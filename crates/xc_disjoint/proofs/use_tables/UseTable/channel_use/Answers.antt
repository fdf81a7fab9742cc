use Rattle.xc_disjoint.specs.UseTables.{found}
use Rattle.xc_disjoint.proofs.use_tables.UseTable.channel_use.Goals as goal

pub returns-in-None : goal.returns-in-None
unfolding found
returns-in-None c = c.in-None.ensures.value

pub returns-in-Some : goal.returns-in-Some
unfolding found
returns-in-Some c = c.in-Some.ensures.value
