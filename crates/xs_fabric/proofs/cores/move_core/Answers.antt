use Rattle.std.proofs.Common.{◌≡◌, ◌<◌, ⊎_elim, length, refl, sym, ap, subst, arith}
use Rattle.std.proofs.lemmas.Option.{slice_get_read}
use Rattle.xs_core.specs.Core.{Seen as Core}
use Rattle.xs_instr.specs.Machine.{came, link_of, move_at}
use Rattle.xs_fabric.specs.Seen.{IsEvent, together}
use Rattle.xs_fabric.specs.declared.machine.Event.TheVariants.{NotEnabled}
use Rattle.xs_fabric.proofs.Among.{same_homes}
use Rattle.xs_fabric.proofs.Events.{core_gets, no_core_move, no_link_from, no_move, still_idle}
use Rattle.xs_fabric.proofs.cores.move_core.Goals as goal

pub returns-then-from-ge-CORES-clause-event : goal.returns-then-from-ge-CORES-clause-event
returns-then-from-ge-CORES-clause-event c =
    let cores = c.args.cores.now.items in
    let links = c.args.links.now in
    let from = c.args.from in
    let to = c.args.to in
    let four : length cores ≡ 4 = (let n = c.requires.four in omega (arith, n)) in
    λ L s trace of.
    ⊎_elim (λ far. no_move cores links trace from to (no_link_from links from to c.told-links far))
    (λ far. no_core_move cores links trace from to four far.1)
    c.then-from-ge-CORES.either

pub returns-in-None-clause-event : goal.returns-in-None-clause-event
returns-in-None-clause-event c =
    let cores = c.args.cores.now.items in
    let links = c.args.links.now in
    let from = c.args.from in
    let to = c.args.to in
    λ L s trace of.
    let old = together cores links trace in
    subst (λ new. IsEvent (move_at old from to (link_of links from to)) old NotEnabled (together cores new trace)) (sym c.in-None.ensures.1)
    (no_move cores links trace from to c.in-None.ensures.0)

pub index_mut-requires : goal.index_mut-requires
index_mut-requires c = let near = c.if-to-ge-CORES.false in let four = c.requires.four in omega (arith, near, four)

pub deliver-requires : goal.deliver-requires
deliver-requires c =
    let cores = c.args.cores.now.items in
    let core = c.index_mut.result.now in
    let lt : c.args.to < 4 = (let near = c.if-to-ge-CORES.false in omega (arith, near)) in
    let within : c.args.to < length cores = (let four = c.requires.four in omega (arith, lt, four)) in
    let there = slice_get_read cores (length cores) c.args.to core refl within c.index_mut.ensures.value in
    c.requires.room c.in-Some.item _ core c.in-Some.ensures.0 there

pub returns-in-Some-clause-event : goal.returns-in-Some-clause-event
returns-in-Some-clause-event c =
    let cores = c.args.cores.now.items in
    let core = c.index_mut.result.now in
    let lt : c.args.to < 4 = (let near = c.if-to-ge-CORES.false in omega (arith, near)) in
    let within : c.args.to < length cores = (let four = c.requires.four in omega (arith, lt, four)) in
    let there = slice_get_read cores (length cores) c.args.to core refl within c.index_mut.ensures.value in
    λ L s trace of. core_gets cores c.args.links.now c.take.new.links trace c.args.from c.args.to core c.deliver.new.self c.in-Some.item there c.deliver.ensures c.in-Some.ensures

pub returns-in-Some-clause-homes : goal.returns-in-Some-clause-homes
returns-in-Some-clause-homes c =
    let cores = c.args.cores.now.items in
    let core = c.index_mut.result.now in
    let lt : c.args.to < 4 = (let near = c.if-to-ge-CORES.false in omega (arith, near)) in
    let within : c.args.to < length cores = (let four = c.requires.four in omega (arith, lt, four)) in
    let there = slice_get_read cores (length cores) c.args.to core refl within c.index_mut.ensures.value in
    same_homes cores c.args.to core c.deliver.new.self there (ap (λ (k : Core). k.home) c.deliver.ensures)

pub returns-in-Some-clause-idle : goal.returns-in-Some-clause-idle
returns-in-Some-clause-idle c =
    let cores = c.args.cores.now.items in
    let core = c.index_mut.result.now in
    let lt : c.args.to < 4 = (let near = c.if-to-ge-CORES.false in omega (arith, near)) in
    let within : c.args.to < length cores = (let four = c.requires.four in omega (arith, lt, four)) in
    let there = slice_get_read cores (length cores) c.args.to core refl within c.index_mut.ensures.value in
    λ all. still_idle cores c.args.to core c.deliver.new.self (came core.state c.in-Some.item.moved) there c.deliver.ensures all
