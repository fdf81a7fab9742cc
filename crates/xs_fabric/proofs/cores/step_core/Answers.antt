use Rattle.std.proofs.Common.{◌≡◌, ◌≤◌, ◌<◌, ◌∙◌, Bool, true, false, length, refl, sym, ap, subst, arith}
use Rattle.std.proofs.lemmas.Option.{slice_get_read}
use Rattle.xs_fabric.specs.Seen.{answer_of}
use Rattle.xs_fabric.specs.declared.machine.Event.{Event}
use Rattle.xs_fabric.specs.declared.machine.Event.TheVariants.{NotEnabled}
use Rattle.xs_fabric.proofs.Among.{same_homes}
use Rattle.xs_fabric.proofs.Events.{can_send, no_core_step, no_thread_step, number_is, step_is, unchanged}
use Rattle.xs_fabric.proofs.Running.{four_of, idle_set}
use Rattle.xs_fabric.proofs.cores.step_core.Goals as goal

-- an event that wasn't enabled was no step
no_step : (stepped : Bool) (answer : Event) → answer ≡ answer_of stepped → answer ≡ NotEnabled → stepped ≡ false
no_step true answer is none = absurd (let z : ⊥ = cc in z)
no_step false answer is none = refl

pub returns-then-core-ge-CORES-clause-event : goal.returns-then-core-ge-CORES-clause-event
returns-then-core-ge-CORES-clause-event c =
    let cores = c.args.cores.now.items in
    let r = c.requires.running in
    let four = four_of cores r.image r.stim r.of in
    λ L s of. no_core_step L s cores c.args.links.now c.args.trace.now.items c.args.core c.args.thread four c.if-core-ge-CORES.true

pub index_mut-core-requires : goal.index_mut-core-requires
index_mut-core-requires c =
    let r = c.requires.running in
    let four = four_of c.args.cores.now.items r.image r.stim r.of in
    let near = c.if-core-ge-CORES.false in
    omega (arith, near, four)

pub returns-then-thread-thread_count-clause-event : goal.returns-then-thread-thread_count-clause-event
returns-then-thread-thread_count-clause-event c =
    let cores = c.args.cores.now.items in
    let core = c.index_mut-core.result.now in
    let r = c.requires.running in
    let four = four_of cores r.image r.stim r.of in
    let lt : c.args.core < 4 = (let near = c.if-core-ge-CORES.false in omega (arith, near)) in
    let within : c.args.core < length cores = omega (arith, lt, four) in
    let there = slice_get_read cores (length cores) c.args.core core refl within c.index_mut-core.ensures.value in
    let eight : length core.state.threads ≡ 8 = sym c.thread_count.ensures.count ∙ c.thread_count.ensures.eight in
    let far : 8 ≤ c.args.thread = (let n = c.thread_count.ensures.eight in let t = c.if-thread-thread_count.true in omega (arith, n, t)) in
    λ L s of.
    unchanged cores c.args.links.now c.args.trace.now.items c.args.core core _ there (no_thread_step L s cores c.args.links.now c.args.trace.now.items c.args.core c.args.thread core there eight far)

pub returns-then-thread-thread_count-clause-homes : goal.returns-then-thread-thread_count-clause-homes
returns-then-thread-thread_count-clause-homes c =
    let cores = c.args.cores.now.items in
    let core = c.index_mut-core.result.now in
    let r = c.requires.running in
    let four = four_of cores r.image r.stim r.of in
    let lt : c.args.core < 4 = (let near = c.if-core-ge-CORES.false in omega (arith, near)) in
    let within : c.args.core < length cores = omega (arith, lt, four) in
    let there = slice_get_read cores (length cores) c.args.core core refl within c.index_mut-core.ensures.value in
    same_homes cores c.args.core core core there refl

pub returns-then-thread-thread_count-clause-idle : goal.returns-then-thread-thread_count-clause-idle
returns-then-thread-thread_count-clause-idle c =
    let cores = c.args.cores.now.items in
    let core = c.index_mut-core.result.now in
    let r = c.requires.running in
    let four = four_of cores r.image r.stim r.of in
    let lt : c.args.core < 4 = (let near = c.if-core-ge-CORES.false in omega (arith, near)) in
    let within : c.args.core < length cores = omega (arith, lt, four) in
    let there = slice_get_read cores (length cores) c.args.core core refl within c.index_mut-core.ensures.value in
    idle_set cores c.args.core core core there r.idle (r.idle c.args.core core there)

pub take_turn-stepped-requires-clause-spare : goal.take_turn-stepped-requires-clause-spare
take_turn-stepped-requires-clause-spare c =
    let cores = c.args.cores.now.items in
    let core = c.index_mut-core.result.now in
    let r = c.requires.running in
    let four = four_of cores r.image r.stim r.of in
    let lt : c.args.core < 4 = (let near = c.if-core-ge-CORES.false in omega (arith, near)) in
    let within : c.args.core < length cores = omega (arith, lt, four) in
    let there = slice_get_read cores (length cores) c.args.core core refl within c.index_mut-core.ensures.value in
    let idle = (r.idle c.args.core core there).spare in
    omega (arith, idle)

pub send_all-requires-clause-number : goal.send_all-requires-clause-number
send_all-requires-clause-number c =
    let cores = c.args.cores.now.items in
    let core = c.index_mut-core.result.now in
    let r = c.requires.running in
    let four = four_of cores r.image r.stim r.of in
    let lt : c.args.core < 4 = (let near = c.if-core-ge-CORES.false in omega (arith, near)) in
    let within : c.args.core < length cores = omega (arith, lt, four) in
    let there = slice_get_read cores (length cores) c.args.core core refl within c.index_mut-core.ensures.value in
    let turned = c.take_turn-stepped.ensures in
    subst (λ n. n < 4) (sym (number_is cores c.args.links.now c.args.trace.now.items c.take_turn-stepped.new.trace.items c.args.core c.args.thread core c.take_turn-stepped.new.core lt there (r.idle c.args.core core there).outgoing turned.turn turned.home r.image r.stim r.of)) lt

pub send_all-requires-clause-can : goal.send_all-requires-clause-can
send_all-requires-clause-can c =
    let cores = c.args.cores.now.items in
    let core = c.index_mut-core.result.now in
    let r = c.requires.running in
    let four = four_of cores r.image r.stim r.of in
    let lt : c.args.core < 4 = (let near = c.if-core-ge-CORES.false in omega (arith, near)) in
    let within : c.args.core < length cores = omega (arith, lt, four) in
    let there = slice_get_read cores (length cores) c.args.core core refl within c.index_mut-core.ensures.value in
    let turned = c.take_turn-stepped.ensures in
    can_send cores c.args.links.now c.args.trace.now.items c.take_turn-stepped.new.trace.items c.args.core c.args.thread core c.take_turn-stepped.new.core lt there (r.idle c.args.core core there).outgoing turned.turn turned.home r

pub returns-clause-event : goal.returns-clause-event
returns-clause-event c =
    let cores = c.args.cores.now.items in
    let core = c.index_mut-core.result.now in
    let r = c.requires.running in
    let four = four_of cores r.image r.stim r.of in
    let lt : c.args.core < 4 = (let near = c.if-core-ge-CORES.false in omega (arith, near)) in
    let within : c.args.core < length cores = omega (arith, lt, four) in
    let there = slice_get_read cores (length cores) c.args.core core refl within c.index_mut-core.ensures.value in
    let turned = c.take_turn-stepped.ensures in
    λ L s of.
    step_is cores c.args.links.now c.args.trace.now.items c.take_turn-stepped.new.trace.items c.args.core c.args.thread core c.take_turn-stepped.new.core lt there (r.idle c.args.core core there).outgoing turned.turn turned.home L s of c.send_all.new.links c.send_all.new.core c.send_all.ensures.state c.send_all.ensures.links c.take_turn-stepped.result c.answer.result turned.stepped c.answer.ensures

pub returns-clause-homes : goal.returns-clause-homes
returns-clause-homes c =
    let cores = c.args.cores.now.items in
    let core = c.index_mut-core.result.now in
    let r = c.requires.running in
    let four = four_of cores r.image r.stim r.of in
    let lt : c.args.core < 4 = (let near = c.if-core-ge-CORES.false in omega (arith, near)) in
    let within : c.args.core < length cores = omega (arith, lt, four) in
    let there = slice_get_read cores (length cores) c.args.core core refl within c.index_mut-core.ensures.value in
    same_homes cores c.args.core core c.send_all.new.core there (c.send_all.ensures.home ∙ c.take_turn-stepped.ensures.home)

pub returns-clause-idle : goal.returns-clause-idle
returns-clause-idle c =
    let cores = c.args.cores.now.items in
    let core = c.index_mut-core.result.now in
    let r = c.requires.running in
    let four = four_of cores r.image r.stim r.of in
    let lt : c.args.core < 4 = (let near = c.if-core-ge-CORES.false in omega (arith, near)) in
    let within : c.args.core < length cores = omega (arith, lt, four) in
    let there = slice_get_read cores (length cores) c.args.core core refl within c.index_mut-core.ensures.value in
    let before = r.idle c.args.core core there in
    let spare = before.spare in
    let none = ap length before.outgoing in
    let turned = c.take_turn-stepped.ensures.spare in
    let sent = c.send_all.ensures.spare in
    idle_set cores c.args.core core c.send_all.new.core there r.idle (record { outgoing = c.send_all.ensures.outbox; spare = omega (arith, spare, none, turned, sent) })

pub returns-clause-none : goal.returns-clause-none
returns-clause-none c = λ same. c.take_turn-stepped.ensures.none (no_step c.take_turn-stepped.result c.answer.result c.answer.ensures same)
