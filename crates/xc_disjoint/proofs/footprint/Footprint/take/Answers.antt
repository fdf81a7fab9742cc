use Rattle.std.proofs.Common.{refl}
use Rattle.xc_disjoint.proofs.Sets.{on_ok, takes_port, takes_timer, takes_channel}
use Rattle.xc_disjoint.proofs.footprint.Footprint.take.Goals as goal

pub returns-in-Port : goal.returns-in-Port
returns-in-Port c =
    on_ok c.insert.result
    (λ e. takes_port c.args.self.now (record { used = c.args.self.now.used; changed = c.args.self.now.changed; ports = c.insert.new.numbers; timers = c.args.self.now.timers }) c.args.resource c.in-Port.port c.in-Port.is e refl refl refl)
    c.insert.ensures

pub returns-in-Timer : goal.returns-in-Timer
returns-in-Timer c =
    on_ok c.insert-in-Timer.result
    (λ e. takes_timer c.args.self.now (record { used = c.args.self.now.used; changed = c.args.self.now.changed; ports = c.args.self.now.ports; timers = c.insert-in-Timer.new.numbers }) c.args.resource c.in-Timer.timer c.in-Timer.is e refl refl refl)
    c.insert-in-Timer.ensures

pub returns-in-Chan : goal.returns-in-Chan
returns-in-Chan c = takes_channel c.args.self.now c.args.resource c.in-Chan.field-0 c.in-Chan.is
