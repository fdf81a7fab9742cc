use Rattle.xc_disjoint.specs.Footprints.{Meet}
use Rattle.xc_disjoint.proofs.Meets.{by_changed, by_used, by_port, by_timer, by_nothing, not_so}
use Rattle.xc_disjoint.proofs.footprint.Footprint.clash.Goals as goal

pub returns-then-meet : goal.returns-then-meet
returns-then-meet c = by_changed c.args.self.now c.args.later.now c.args.pos (c.meet.ensures.0 c.if-meet.true)

pub returns-then-meet-2 : goal.returns-then-meet-2
returns-then-meet-2 c = by_used c.args.self.now c.args.later.now c.args.pos (c.meet-else-meet.ensures.0 c.if-meet-2.true)

pub returns-then-meet-3 : goal.returns-then-meet-3
returns-then-meet-3 c =
    by_port c.args.self.now c.args.later.now c.args.pos
    (not_so c.meet.result (Meet c.args.self.now.changed.keys c.args.later.now.used.keys) c.meet.ensures.1 c.if-meet.false)
    (not_so c.meet-else-meet.result (Meet c.args.self.now.used.keys c.args.later.now.changed.keys) c.meet-else-meet.ensures.1 c.if-meet-2.false)
    (c.meet-else-meet-2.ensures.0 c.if-meet-3.true)

pub returns-then-meet-4 : goal.returns-then-meet-4
returns-then-meet-4 c =
    by_timer c.args.self.now c.args.later.now c.args.pos
    (not_so c.meet.result (Meet c.args.self.now.changed.keys c.args.later.now.used.keys) c.meet.ensures.1 c.if-meet.false)
    (not_so c.meet-else-meet.result (Meet c.args.self.now.used.keys c.args.later.now.changed.keys) c.meet-else-meet.ensures.1 c.if-meet-2.false)
    (not_so c.meet-else-meet-2.result (Meet c.args.self.now.ports.keys c.args.later.now.ports.keys) c.meet-else-meet-2.ensures.1 c.if-meet-3.false)
    (c.meet-else-meet-3.ensures.0 c.if-meet-4.true)

pub returns-else-meet-4 : goal.returns-else-meet-4
returns-else-meet-4 c =
    by_nothing c.args.self.now c.args.later.now c.args.pos
    (not_so c.meet.result (Meet c.args.self.now.changed.keys c.args.later.now.used.keys) c.meet.ensures.1 c.if-meet.false)
    (not_so c.meet-else-meet.result (Meet c.args.self.now.used.keys c.args.later.now.changed.keys) c.meet-else-meet.ensures.1 c.if-meet-2.false)
    (not_so c.meet-else-meet-2.result (Meet c.args.self.now.ports.keys c.args.later.now.ports.keys) c.meet-else-meet-2.ensures.1 c.if-meet-3.false)
    (not_so c.meet-else-meet-3.result (Meet c.args.self.now.timers.keys c.args.later.now.timers.keys) c.meet-else-meet-3.ensures.1 c.if-meet-4.false)
