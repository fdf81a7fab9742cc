use Rattle.xc_disjoint.proofs.UseEntries.{empty_uses}
use Rattle.xc_disjoint.proofs.use_tables.UseTable.new.Goals as goal

pub returns : goal.returns
returns c = empty_uses c.new.result.entries c.new.ensures.empty
