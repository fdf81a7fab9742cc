use Rattle.std.proofs.Common.{◌≡◌, ◌<◌, length, refl, ap, arith}
use Rattle.std.proofs.lemmas.Bool.{lt-ltb}
use Rattle.std.proofs.lemmas.Option.{slice_get_read}
use Rattle.std.specs.Prelude.{nat_lt}
use Rattle.xs_core.specs.Core.{Seen as Core}
use Rattle.xs_fabric.proofs.Among.{same_homes}
use Rattle.xs_fabric.proofs.Events.{core_ticks, core_waits, no_core_tick, still_idle, unchanged}
use Rattle.xs_fabric.proofs.Running.{idle_set}
use Rattle.xs_fabric.proofs.cores.tick_core.Goals as goal
use Rattle.xs_instr.specs.Slot.{last_clock, ticked}

pub returns-then-core-ge-CORES-clause-event : goal.returns-then-core-ge-CORES-clause-event
returns-then-core-ge-CORES-clause-event c =
    let cores = c.args.cores.now.items in
    let four : length cores ≡ 4 = (let n = c.requires.four in omega (arith, n)) in
    λ L s links trace of. no_core_tick cores links trace c.args.core four c.if-core-ge-CORES.true

pub index_mut-core-requires : goal.index_mut-core-requires
index_mut-core-requires c = let near = c.if-core-ge-CORES.false in let four = c.requires.four in omega (arith, near, four)

pub returns-then-clock-clause-event : goal.returns-then-clock-clause-event
returns-then-clock-clause-event c =
    let cores = c.args.cores.now.items in
    let core = c.index_mut-core.result.now in
    let lt : c.args.core < 4 = (let near = c.if-core-ge-CORES.false in omega (arith, near)) in
    let within : c.args.core < length cores = (let four = c.requires.four in omega (arith, lt, four)) in
    let there = slice_get_read cores (length cores) c.args.core core refl within c.index_mut-core.ensures.value in
    let last : core.state.clock ≡ last_clock = (let r = c.clock.ensures in let n = c.if-clock.true in omega (arith, r, n)) in
    λ L s links trace of. unchanged cores links trace c.args.core core _ there (core_waits cores links trace c.args.core core there (ap (λ v. nat_lt v last_clock) last))

pub returns-then-clock-clause-homes : goal.returns-then-clock-clause-homes
returns-then-clock-clause-homes c =
    let cores = c.args.cores.now.items in
    let core = c.index_mut-core.result.now in
    let lt : c.args.core < 4 = (let near = c.if-core-ge-CORES.false in omega (arith, near)) in
    let within : c.args.core < length cores = (let four = c.requires.four in omega (arith, lt, four)) in
    let there = slice_get_read cores (length cores) c.args.core core refl within c.index_mut-core.ensures.value in
    same_homes cores c.args.core core core there refl

pub returns-then-clock-clause-idle : goal.returns-then-clock-clause-idle
returns-then-clock-clause-idle c =
    let cores = c.args.cores.now.items in
    let core = c.index_mut-core.result.now in
    let lt : c.args.core < 4 = (let near = c.if-core-ge-CORES.false in omega (arith, near)) in
    let within : c.args.core < length cores = (let four = c.requires.four in omega (arith, lt, four)) in
    let there = slice_get_read cores (length cores) c.args.core core refl within c.index_mut-core.ensures.value in
    λ all. idle_set cores c.args.core core core there all (all c.args.core core there)

pub returns-clause-event : goal.returns-clause-event
returns-clause-event c =
    let cores = c.args.cores.now.items in
    let core = c.index_mut-core.result.now in
    let lt : c.args.core < 4 = (let near = c.if-core-ge-CORES.false in omega (arith, near)) in
    let within : c.args.core < length cores = (let four = c.requires.four in omega (arith, lt, four)) in
    let there = slice_get_read cores (length cores) c.args.core core refl within c.index_mut-core.ensures.value in
    let below : core.state.clock < last_clock = (let r = c.clock.ensures in let n = c.if-clock.false in let t = c.clock.type_inv in omega (arith, r, n, t)) in
    λ L s links trace of.
    core_ticks cores links trace c.args.core core c.tick.new.self there (lt-ltb core.state.clock last_clock below) c.tick.ensures

pub returns-clause-homes : goal.returns-clause-homes
returns-clause-homes c =
    let cores = c.args.cores.now.items in
    let core = c.index_mut-core.result.now in
    let lt : c.args.core < 4 = (let near = c.if-core-ge-CORES.false in omega (arith, near)) in
    let within : c.args.core < length cores = (let four = c.requires.four in omega (arith, lt, four)) in
    let there = slice_get_read cores (length cores) c.args.core core refl within c.index_mut-core.ensures.value in
    same_homes cores c.args.core core c.tick.new.self there (ap (λ (k : Core). k.home) c.tick.ensures)

pub returns-clause-idle : goal.returns-clause-idle
returns-clause-idle c =
    let cores = c.args.cores.now.items in
    let core = c.index_mut-core.result.now in
    let lt : c.args.core < 4 = (let near = c.if-core-ge-CORES.false in omega (arith, near)) in
    let within : c.args.core < length cores = (let four = c.requires.four in omega (arith, lt, four)) in
    let there = slice_get_read cores (length cores) c.args.core core refl within c.index_mut-core.ensures.value in
    λ all. still_idle cores c.args.core core c.tick.new.self (ticked core.state) there c.tick.ensures all
