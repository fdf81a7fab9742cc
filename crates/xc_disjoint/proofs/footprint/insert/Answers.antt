use Rattle.xc_disjoint.proofs.Sets.{inserted}
use Rattle.xc_disjoint.proofs.footprint.insert.Goals as goal

pub returns-in-Ok : goal.returns-in-Ok
returns-in-Ok c = inserted c.args.numbers.now.keys c.insert.new.self.keys c.args.number c.in-Ok.ensures.updates.0
