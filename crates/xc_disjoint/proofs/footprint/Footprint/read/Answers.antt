use Rattle.std.proofs.Common.{refl}
use Rattle.xc_disjoint.proofs.Sets.{on_ok, reads}
use Rattle.xc_disjoint.proofs.footprint.Footprint.read.Goals as goal

pub returns : goal.returns
returns c =
    on_ok c.insert.result
    (λ e. reads c.args.self.now (record { used = c.insert.new.numbers; changed = c.args.self.now.changed; ports = c.args.self.now.ports; timers = c.args.self.now.timers }) c.args.variable e refl refl refl)
    c.insert.ensures
