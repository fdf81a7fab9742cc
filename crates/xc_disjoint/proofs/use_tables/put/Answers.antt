use Rattle.xc_disjoint.proofs.UseEntries.{entered}
use Rattle.xc_disjoint.proofs.use_tables.put.Goals as goal

pub returns-in-Ok : goal.returns-in-Ok
returns-in-Ok o c = entered c.args.entries.now.entries c.insert.new.self.entries c.args.key c.args.value c.in-Ok.ensures.updates.0
