use Rattle.std.proofs.Common.{◌≡◌, ◌<◌, length, refl, ap, ◌∙◌, arith}
use Rattle.std.proofs.lemmas.Option.{slice_get_read}
use Rattle.xs_fabric.specs.Lockstep.{events_in, rounds_at}
use Rattle.xs_fabric.specs.Seen.{together}
use Rattle.xs_fabric.proofs.AllRounds.{next_events, next_rounds, next_running, no_events, no_rounds}
use Rattle.xs_fabric.proofs.Among.{same_homes}
use Rattle.xs_fabric.proofs.Running.{can_go, four_of}
use Rattle.xs_fabric.proofs.round.all_rounds.Goals as goal

pub loop-i-init : goal.loop-i-init
loop-i-init c =
    let r = c.requires.running in
    let four = four_of c.args.cores.now.items r.image r.stim r.of in
    record {
      rounds = λ L s of. no_rounds L s _;
      events = λ L s of. no_events L s _;
      few = omega arith;
      homes = refl;
      four = omega (arith, four);
      running = r;
      len = omega arith;
      capacity = omega arith;
    }

pub one_round-events-requires-clause-can : goal.one_round-events-requires-clause-can
one_round-events-requires-clause-can c =
    let inv = c.loop-i.invariant in
    let cores = c.loop-i.cores.items in
    let four = inv.four in
    let lt : c.loop-i.i < 4 = (let test = c.loop-i-test.true in omega (arith, test)) in
    let within : c.loop-i.i < length cores = omega (arith, lt, four) in
    let there = slice_get_read cores (length cores) c.loop-i.i c.index_mut-core.result.now refl within c.index_mut-core.ensures.value in
    can_go cores c.loop-i.links c.loop-i.trace.items inv.running c.loop-i.i c.index_mut-core.result.now lt there

pub loop-i-preserved : goal.loop-i-preserved
loop-i-preserved c =
    let inv = c.loop-i.invariant in
    let cores = c.loop-i.cores.items in
    let core = c.index_mut-core.result.now in
    let new = c.one_round-events.new.core in
    let one = c.one_round-events.ensures in
    let four = inv.four in
    let lt : c.loop-i.i < 4 = (let test = c.loop-i-test.true in omega (arith, test)) in
    let within : c.loop-i.i < length cores = omega (arith, lt, four) in
    let there = slice_get_read cores (length cores) c.loop-i.i core refl within c.index_mut-core.ensures.value in
    let few_before = inv.few in
    let few_now = one.few in
    let len_before = inv.len in
    let len_now = one.len in
    let room_before = inv.capacity in
    let room_now = one.capacity in
    record {
      rounds = λ L s of. next_rounds cores c.loop-i.links c.one_round-events.new.links c.loop-i.trace.items c.one_round-events.new.trace.items c.loop-i.i core new lt there one.state one.links one.trace L s (inv.homes ∙ of) _ (inv.rounds L s of);
      events = λ L s of. next_events cores c.loop-i.links c.one_round-events.new.links c.loop-i.trace.items c.one_round-events.new.trace.items c.loop-i.i core new lt there one.state one.links one.trace L s (inv.homes ∙ of) _ c.loop-i.events c.one_round-events.result (inv.rounds L s of) (inv.events L s of) one.events;
      few = omega (arith, few_before, few_now);
      homes = same_homes cores c.loop-i.i core new there one.home ∙ inv.homes;
      four = four;
      running = next_running cores c.loop-i.links c.one_round-events.new.links c.loop-i.trace.items c.one_round-events.new.trace.items c.loop-i.i core new lt there one.state one.links one.trace inv.running one.home one.idle;
      len = omega (arith, len_before, len_now);
      capacity = omega (arith, room_before, room_now);
    }

pub returns-clause-rounds : goal.returns-clause-rounds
returns-clause-rounds c =
    let all : c.loop-i.i ≡ 4 = omega (arith, c.loop-i-test.false, c.loop-i.auto.i-end) in
    λ L s of.
    c.loop-i.invariant.rounds L s of
    ∙ ap (rounds_at L s (together c.args.cores.now.items c.args.links.now c.args.trace.now.items)) all

pub returns-clause-events : goal.returns-clause-events
returns-clause-events c =
    let all : c.loop-i.i ≡ 4 = omega (arith, c.loop-i-test.false, c.loop-i.auto.i-end) in
    λ L s of.
    c.loop-i.invariant.events L s of
    ∙ ap (events_in L s (together c.args.cores.now.items c.args.links.now c.args.trace.now.items)) all

pub returns-clause-len : goal.returns-clause-len
returns-clause-len c = omega (arith, c.loop-i.invariant.len, c.loop-i.auto.i-end)

pub one_round-events-requires-clause-room : goal.one_round-events-requires-clause-room
one_round-events-requires-clause-room c =
    omega (arith, c.loop-i.invariant.len, c.loop-i.invariant.capacity, c.loop-i-test.true, c.requires.room)
