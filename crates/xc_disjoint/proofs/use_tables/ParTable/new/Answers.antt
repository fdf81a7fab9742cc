use Rattle.xc_disjoint.proofs.UseEntries.{empty_par}
use Rattle.xc_disjoint.proofs.use_tables.ParTable.new.Goals as goal

pub returns : goal.returns
returns c = empty_par c.new-2.result.entries c.new.result.entries.entries c.new-2.ensures.empty c.new.ensures
