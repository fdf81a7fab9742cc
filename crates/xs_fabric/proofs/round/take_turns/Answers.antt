use Rattle.std.proofs.Common.{◌≡◌, ◌+◌, ap, ◌∙◌, refl, subst, arith}
use Rattle.xs_instr.specs.declared.image.Home.{Home}
use Rattle.xs_instr.specs.Did.{Idle}
use Rattle.xs_instr.specs.Slot.{is_ready, slot}
use Rattle.xw_words.specs.Words.{truth}
use Rattle.xs_fabric.specs.Lockstep.{turn}
use Rattle.xs_fabric.specs.Rounds.{part}
use Rattle.xs_fabric.proofs.Turns.{last_steps, last_turns, no_turns, steps_next, truth_few, turns_next}
use Rattle.xs_fabric.proofs.round.take_turns.Goals as goal

pub used-init : goal.used-init
used-init c = record {
  turns = no_turns c.args.core.now.home _;
  steps = refl;
  few = omega arith;
  within = omega arith;
  home = refl;
  spare = refl;
  outbox = omega arith;
  len = omega arith;
  capacity = omega arith;
}

pub used-preserved : goal.used-preserved
used-preserved c =
    let inv = c.used.invariant in
    let home = c.args.core.now.home in
    let t = c.used.thread in
    let p0 = part c.args.core.now c.args.trace.now.items in
    let q = part c.used.core c.used.trace.items in
    let ready : c.count-steps.result ≡ truth (is_ready home q.core t) = c.count-steps.ensures ∙ ap truth c.take_turn.ensures.stepped ∙ ap (λ (h : Home). truth (is_ready h q.core t)) inv.home in
    let one = truth_few (is_ready home q.core t) in
    let few_before = inv.few in
    let below = c.used-test.true in
    let most = c.in_use.ensures.few in
    let box_before = inv.outbox in
    let box_now = c.take_turn.ensures.few in
    let spare_before = inv.spare in
    let spare_now = c.take_turn.ensures.spare in
    let len_before = inv.len in
    let len_now = c.take_turn.ensures.len in
    let room_before = inv.capacity in
    let room_now = c.take_turn.ensures.capacity in
    let next = steps_next home p0 q t c.used.steps inv.turns inv.steps in
    record {
      turns = turns_next home p0 q _ t inv.turns (subst (λ (h : Home). part c.take_turn.new.core c.take_turn.new.trace.items ≡ turn h q t) inv.home c.take_turn.ensures.turn);
      steps = ap (λ k. c.used.steps + k) ready ∙ next;
      few = omega (arith, ready, one, few_before);
      within = omega (arith, below, most);
      home = c.take_turn.ensures.home ∙ inv.home;
      spare = omega (arith, spare_before, spare_now);
      outbox = omega (arith, box_before, box_now);
      len = omega (arith, len_before, len_now);
      capacity = omega (arith, room_before, room_now);
    }

pub returns-clause-turns : goal.returns-clause-turns
returns-clause-turns c =
    let inv = c.used.invariant in
    let q = part c.used.core c.used.trace.items in
    let past = c.used-test.false in
    last_turns c.args.core.now.home (part c.args.core.now c.args.trace.now.items) q c.used.thread inv.within inv.turns
    (λ u from. subst (λ (h : Home). slot h q.core u ≡ Idle) inv.home (c.in_use.ensures.rest u (omega (arith, past, from))))

pub returns-clause-steps : goal.returns-clause-steps
returns-clause-steps c =
    let inv = c.used.invariant in
    let q = part c.used.core c.used.trace.items in
    let past = c.used-test.false in
    last_steps c.args.core.now.home (part c.args.core.now c.args.trace.now.items) q c.used.thread c.used.steps inv.within inv.turns
    (λ u from. subst (λ (h : Home). slot h q.core u ≡ Idle) inv.home (c.in_use.ensures.rest u (omega (arith, past, from)))) inv.steps
