use Rattle.xc_disjoint.proofs.Sets.{begins}
use Rattle.xc_disjoint.proofs.footprint.Footprint.new.Goals as goal

pub returns : goal.returns
returns c = begins (record { used = c.new.result; changed = c.new-2.result; ports = c.new-3.result; timers = c.new-4.result }) c.new.ensures.empty c.new-2.ensures.empty c.new-3.ensures.empty c.new-4.ensures.empty
