use Rattle.std.proofs.Common.{refl}
use Rattle.xc_disjoint.proofs.Sets.{on_ok, changes}
use Rattle.xc_disjoint.proofs.footprint.Footprint.change.Goals as goal

pub returns : goal.returns
returns c =
    on_ok c.insert-2.result
    (λ e. changes c.args.self.now (record { used = c.insert.new.numbers; changed = c.insert-2.new.numbers; ports = c.args.self.now.ports; timers = c.args.self.now.timers }) c.args.variable c.in_ok-insert.ensures e refl refl)
    c.insert-2.ensures
