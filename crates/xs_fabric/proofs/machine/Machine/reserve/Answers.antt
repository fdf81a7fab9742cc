use Rattle.std.proofs.Common.{◌≡◌, ◌-◌, ℕ, List, Result, Ok, Err, OnErr, map, ap, ◌∙◌, arith, subst, sym}
use Rattle.xs_core.specs.Core.{Seen as Core}
use Rattle.xs_instr.specs.declared.trace.Record.{Record}
use Rattle.xs_fabric.specs.Kept.{IsRunning}
use Rattle.xs_fabric.specs.Rounds.{Links}
use Rattle.xs_fabric.specs.Seen.{Running, home_in, together}
use Rattle.xs_fabric.proofs.machine.Machine.reserve.Goals as goal

-- a clause on an error holds where its fact does
on_err : {A B : Type 0} (r : Result A B) (P : Type 0) → P → OnErr r P
on_err (Ok x) P h = tt
on_err (Err x) P h = h

-- what is seen of a machine with these records, and with room for so many
abbrev seen : List Core → Links → List Record → ℕ → Running
seen cores links trace room = record { homes = map home_in cores; state = together cores links trace; room = room }

-- with as many places in use as before
same_room : (cores : List Core) (links : Links) (trace trace' : List Record) (capacity capacity' len len' : ℕ) →
    trace' ≡ trace → capacity' ≡ capacity → len' ≡ len →
    seen cores links trace' (capacity' - len') ≡ seen cores links trace (capacity - len)
same_room cores links trace trace' capacity capacity' len len' e f g =
    ap (λ t. seen cores links t (capacity' - len')) e
    ∙ ap (λ k. seen cores links trace (k - len')) f
    ∙ ap (λ k. seen cores links trace (capacity - k)) g

-- all but the room is as before
but_room : (cores : List Core) (links : Links) (trace trace' : List Record) (room room' : ℕ) (old : Running) →
    trace' ≡ trace → seen cores links trace room ≡ old → seen cores links trace' room' ≡ record old { room = room' }
but_room cores links trace trace' room room' old e is =
    ap (λ t. seen cores links t room') e ∙ ap (λ (v : Running). record v { room = room' }) is

pub invariant_of-self : goal.invariant_of-self
invariant_of-self c =
    let m = c.self.inside in
    subst (λ items. IsRunning m.cores.items m.links items) (sym c.in_err-reserve.ensures.items) c.self.invariant

pub returns-in_err-reserve-clause-no_less : goal.returns-in_err-reserve-clause-no_less
returns-in_err-reserve-clause-no_less c =
    let room = ap (λ (v : Running). v.room) c.self.view_is in
    let len = c.in_err-reserve.ensures.len in
    let capacity = c.in_err-reserve.ensures.capacity in
    omega (arith, room, len, capacity)

pub returns-in_err-reserve-clause-refused : goal.returns-in_err-reserve-clause-refused
returns-in_err-reserve-clause-refused c =
    let m = c.self.inside in
    let reserved = c.in_err-reserve.ensures in
    on_err _ _ (same_room m.cores.items m.links _ _ _ _ _ _ reserved.items reserved.err reserved.len ∙ c.self.view_is)

pub returns-in_err-reserve-clause-rest : goal.returns-in_err-reserve-clause-rest
returns-in_err-reserve-clause-rest c =
    but_room c.self.inside.cores.items c.self.inside.links _ _ _ _ _ c.in_err-reserve.ensures.items c.self.view_is

pub invariant_of-self-2 : goal.invariant_of-self-2
invariant_of-self-2 c =
    let m = c.self.inside in
    subst (λ items. IsRunning m.cores.items m.links items) (sym c.in_ok-reserve.ensures.items) c.self.invariant

pub returns-clause-room : goal.returns-clause-room
returns-clause-room c = let has = c.in_ok-reserve.ensures.ok in omega (arith, has)

pub returns-clause-no_less : goal.returns-clause-no_less
returns-clause-no_less c =
    let room = ap (λ (v : Running). v.room) c.self.view_is in
    let len = c.in_ok-reserve.ensures.len in
    let capacity = c.in_ok-reserve.ensures.capacity in
    omega (arith, room, len, capacity)

pub returns-clause-rest : goal.returns-clause-rest
returns-clause-rest c =
    but_room c.self.inside.cores.items c.self.inside.links _ _ _ _ _ c.in_ok-reserve.ensures.items c.self.view_is
