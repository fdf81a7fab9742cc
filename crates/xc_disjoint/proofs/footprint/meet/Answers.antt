use Rattle.xc_disjoint.proofs.Meets.{decides}
use Rattle.xc_disjoint.proofs.footprint.meet.Goals as goal

pub returns : goal.returns
returns c = decides c.args.numbers.now.keys c.args.others.now.keys c.is_disjoint.result c.is_disjoint.ensures.0 c.is_disjoint.ensures.1
