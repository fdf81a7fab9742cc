use Rattle.std.proofs.Common.{◌<◌, ◌≤◌, ◌∙◌, ℕ, length, sym, ap, subst, arith}
use Rattle.xs_core.specs.Core.{Seen as Core}
use Rattle.xs_instr.specs.declared.image.Home.{Home}
use Rattle.xs_instr.specs.Machine.{link_of}
use Rattle.xs_fabric.specs.Lockstep.{all_came, due_from, due_of}
use Rattle.xs_fabric.specs.Rooms.{AllHaveRoom}
use Rattle.xs_fabric.proofs.OneRound.{can_send, events_are, links_are, state_is, trace_is}
use Rattle.xs_fabric.proofs.Turns.{truth_few}
use Rattle.xs_fabric.proofs.round.one_round.Goals as goal

pub deliver_all-moves-requires-clause-number : goal.deliver_all-moves-requires-clause-number
deliver_all-moves-requires-clause-number c =
    subst (λ (core : Core). core.home.number < 4) (sym c.tick_once-ticks.ensures.core) c.requires.can.number

pub deliver_all-moves-requires-clause-few : goal.deliver_all-moves-requires-clause-few
deliver_all-moves-requires-clause-few c =
    let links = c.args.links.now in
    subst (λ (core : Core). (a : ℕ) → a < 4 → length (link_of links a core.home.number) ≤ 512) (sym c.tick_once-ticks.ensures.core) c.requires.can.few

pub deliver_all-moves-requires-clause-room : goal.deliver_all-moves-requires-clause-room
deliver_all-moves-requires-clause-room c =
    let links = c.args.links.now in
    subst
    (λ (core : Core). (a : ℕ) → a < 4 → AllHaveRoom core.home
    (all_came core.state (due_from links core.home.number core.state.clock a))
    (due_of core.state.clock (link_of links a core.home.number)))
    (sym c.tick_once-ticks.ensures.core)
    c.requires.can.due

pub take_turns-steps-requires-clause-spare : goal.take_turns-steps-requires-clause-spare
take_turns-steps-requires-clause-spare c =
    let ticked = ap (λ (core : Core). core.spare) c.tick_once-ticks.ensures.core in
    let moved = ap (λ (core : Core). core.spare) c.deliver_all-moves.ensures.core in
    let spare = c.requires.can.idle.spare in
    omega (arith, ticked, moved, spare)

pub send_all-requires-clause-number : goal.send_all-requires-clause-number
send_all-requires-clause-number c =
    let ticked = ap (λ (core : Core). core.home) c.tick_once-ticks.ensures.core in
    let moved = ap (λ (core : Core). core.home) c.deliver_all-moves.ensures.core in
    subst (λ (home : Home). home.number < 4) (sym (c.take_turns-steps.ensures.home ∙ moved ∙ ticked)) c.requires.can.number

pub send_all-requires-clause-can : goal.send_all-requires-clause-can
send_all-requires-clause-can c =
    let moved = c.deliver_all-moves.ensures in
    let turned = c.take_turns-steps.ensures in
    can_send c.args.core.now c.tick_once-ticks.new.core c.deliver_all-moves.new.core c.args.links.now c.deliver_all-moves.new.links c.tick_once-ticks.ensures.core moved.core moved.links
    c.take_turns-steps.new.core c.args.trace.now.items c.take_turns-steps.new.trace.items c.requires.can.idle.outgoing turned.turns turned.home c.requires.can.sent

pub returns-clause-state : goal.returns-clause-state
returns-clause-state c =
    let moved = c.deliver_all-moves.ensures in
    let turned = c.take_turns-steps.ensures in
    state_is c.args.core.now c.tick_once-ticks.new.core c.deliver_all-moves.new.core c.args.links.now c.deliver_all-moves.new.links c.tick_once-ticks.ensures.core moved.core moved.links
    c.take_turns-steps.new.core c.args.trace.now.items c.take_turns-steps.new.trace.items c.requires.can.idle.outgoing turned.turns turned.home c.send_all.new.core c.send_all.ensures.state

pub returns-clause-links : goal.returns-clause-links
returns-clause-links c =
    let moved = c.deliver_all-moves.ensures in
    let turned = c.take_turns-steps.ensures in
    links_are c.args.core.now c.tick_once-ticks.new.core c.deliver_all-moves.new.core c.args.links.now c.deliver_all-moves.new.links c.tick_once-ticks.ensures.core moved.core moved.links
    c.take_turns-steps.new.core c.args.trace.now.items c.take_turns-steps.new.trace.items c.requires.can.idle.outgoing turned.turns turned.home c.send_all.new.links c.send_all.ensures.links

pub returns-clause-trace : goal.returns-clause-trace
returns-clause-trace c =
    let moved = c.deliver_all-moves.ensures in
    let turned = c.take_turns-steps.ensures in
    trace_is c.args.core.now c.tick_once-ticks.new.core c.deliver_all-moves.new.core c.args.links.now c.deliver_all-moves.new.links c.tick_once-ticks.ensures.core moved.core moved.links
    c.take_turns-steps.new.core c.args.trace.now.items c.take_turns-steps.new.trace.items c.requires.can.idle.outgoing turned.turns turned.home

pub returns-clause-events : goal.returns-clause-events
returns-clause-events c =
    let moved = c.deliver_all-moves.ensures in
    let turned = c.take_turns-steps.ensures in
    events_are c.args.core.now c.tick_once-ticks.new.core c.deliver_all-moves.new.core c.args.links.now c.deliver_all-moves.new.links c.tick_once-ticks.ensures.core moved.core moved.links
    c.take_turns-steps.new.core c.args.trace.now.items c.take_turns-steps.new.trace.items c.requires.can.idle.outgoing turned.turns turned.home
    c.tick_once-ticks.result c.deliver_all-moves.result c.take_turns-steps.result c.tick_once-ticks.ensures.events moved.count turned.steps

pub returns-clause-home : goal.returns-clause-home
returns-clause-home c =
    let ticked = ap (λ (core : Core). core.home) c.tick_once-ticks.ensures.core in
    let moved = ap (λ (core : Core). core.home) c.deliver_all-moves.ensures.core in
    c.send_all.ensures.home ∙ c.take_turns-steps.ensures.home ∙ moved ∙ ticked

pub returns-clause-idle : goal.returns-clause-idle
returns-clause-idle c =
    let ticked = ap (λ (core : Core). core.spare) c.tick_once-ticks.ensures.core in
    let moved = ap (λ (core : Core). core.spare) c.deliver_all-moves.ensures.core in
    let ticked_box = ap (λ (core : Core). length core.outbox) c.tick_once-ticks.ensures.core in
    let moved_box = ap (λ (core : Core). length core.outbox) c.deliver_all-moves.ensures.core in
    let none = ap length c.requires.can.idle.outgoing in
    let spare = c.requires.can.idle.spare in
    let turned = c.take_turns-steps.ensures.spare in
    let sent = c.send_all.ensures.spare in
    record { outgoing = c.send_all.ensures.outbox; spare = omega (arith, ticked, moved, ticked_box, moved_box, none, spare, turned, sent) }

pub take_turns-steps-requires-clause-room : goal.take_turns-steps-requires-clause-room
take_turns-steps-requires-clause-room c = c.requires.room

pub returns-clause-len : goal.returns-clause-len
returns-clause-len c = c.take_turns-steps.ensures.len

pub returns-clause-capacity : goal.returns-clause-capacity
returns-clause-capacity c = c.take_turns-steps.ensures.capacity

pub returns-clause-few : goal.returns-clause-few
returns-clause-few c =
    let ticks : c.tick_once-ticks.result ≤ 1 = subst (λ n. n ≤ 1) (sym c.tick_once-ticks.ensures.events) (truth_few _) in
    let moves = c.deliver_all-moves.ensures.most in
    let steps = c.take_turns-steps.ensures.few in
    omega (arith, ticks, moves, steps)
