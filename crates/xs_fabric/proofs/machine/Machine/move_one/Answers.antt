use Rattle.std.proofs.Common.{ap, subst, ◌∙◌, arith}
use Rattle.xs_instr.specs.Machine.{Move, link_of, move_at}
use Rattle.xs_fabric.specs.Seen.{IsEvent, IsRunOf, Running, together}
use Rattle.xs_fabric.proofs.Running.{event_running, first_room, four_of}
use Rattle.xs_fabric.proofs.machine.Machine.move_one.Goals as goal

pub move_core-requires-clause-four : goal.move_core-requires-clause-four
move_core-requires-clause-four c =
    let r = c.self.invariant in
    let four = four_of c.self.inside.cores.items r.image r.stim r.of in
    omega (arith, four)

pub move_core-requires-clause-room : goal.move_core-requires-clause-room
move_core-requires-clause-room c =
    let m = c.self.inside in
    first_room m.cores.items m.links m.trace.items c.self.invariant c.args.from c.args.to

pub invariant_of-self : goal.invariant_of-self
invariant_of-self c =
    let m = c.self.inside in
    let r = c.self.invariant in
    let moved = c.move_core.ensures in
    event_running m.cores.items m.links m.trace.items r (Move c.args.from c.args.to) c.move_core.result c.move_core.new.cores.items c.move_core.new.links m.trace.items (moved.event r.image r.stim m.trace.items r.of) moved.homes (moved.idle r.idle)

pub returns-clause-event : goal.returns-clause-event
returns-clause-event c =
    let m = c.self.inside in
    let from = c.args.from in
    let to = c.args.to in
    let next = together c.move_core.new.cores.items c.move_core.new.links m.trace.items in
    λ L s of.
    subst
    (λ (v : Running). IsRunOf L s v → IsEvent (move_at v.state from to (link_of v.state.links from to)) v.state c.move_core.result next)
    c.self.view_is
    (λ run. c.move_core.ensures.event L s m.trace.items run)
    of

pub returns-clause-run : goal.returns-clause-run
returns-clause-run c = c.move_core.ensures.homes ∙ ap (λ (v : Running). v.homes) c.self.view_is
