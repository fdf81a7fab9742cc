-- What a core sends has the tick of its clock.
use Rattle.std.proofs.Common.{◌≡◌, ◌<◌, ◌+◌, ◌^◌, ℕ, zero, suc, Bool, true, false, List, [], ◌∷◌, refl, sym, ap, subst, ◌∙◌, inl, inr, arith}
use Rattle.std.specs.Prelude.{nat_eq}
use Rattle.xs_instr.specs.declared.image.Home.{Home}
use Rattle.xs_instr.specs.declared.state.ChanEnd.{ChanEnd}
use Rattle.xs_instr.specs.declared.state.CoreState.{CoreState}
use Rattle.xs_instr.specs.declared.state.Item.{Item}
use Rattle.xs_instr.specs.declared.state.Moved.{Moved}
use Rattle.xs_instr.specs.declared.state.Sent.{Sent}
use Rattle.xs_instr.specs.Did.{Did, Made, Paused, Traps, Idle}
use Rattle.xs_instr.specs.Ends.{all_sent, goes_by, peer_of}
use Rattle.xs_instr.specs.Slot.{slot}
use Rattle.xs_fabric.specs.Changes.{Changes, sent_of, ends_after}
use Rattle.xs_fabric.specs.Lockstep.{Part, after, turn, turns, tick_once, all_came, core_round}
use Rattle.xr_windows.specs.Alone.{Alone, AllAfter, AllSent, alone, begins, due_in, own_part}
use Rattle.xs_fabric.proofs.Clocks.{turns_clock, came_clock, tick_clock}
use Rattle.xr_windows.proofs.Due.{sent_append}
use Rattle.xs_fabric.proofs.Rows.{slot_kept}

-- whatever goes from the core to a peer on another core at that tick is such
abbrev pub Goes : Home → (Sent → Type 0) → ℕ → Type 0
Goes home P clock =
    (e : ℕ) (m : Moved) → nat_eq (peer_of home.pairs home.number e).core home.number ≡ false → P (record { to = (peer_of home.pairs home.number e).core; tick = clock; moved = m })

all_such : (P : Sent → Type 0) (to tick : ℕ) (ms : List Moved) → ((m : Moved) → P (record { to = to; tick = tick; moved = m })) → AllSent P (all_sent to tick ms)
all_such P to tick [] h = tt
all_such P to tick (m ∷ ms) h = (h m, all_such P to tick ms h)

goes_such : (P : Sent → Type 0) (clock to : ℕ) (ends : List ChanEnd) (ms : List Moved) (b : Bool) → (b ≡ false → (m : Moved) → P (record { to = to; tick = clock; moved = m })) → AllSent P (goes_by ends to clock ms b).sent
goes_such P clock to ends ms true h = tt
goes_such P clock to ends ms false h = all_such P to clock ms (h refl)

changes_such : (P : Sent → Type 0) (home : Home) (clock : ℕ) (ends ends' : List ChanEnd) (sent : List Sent) → Goes home P clock → Changes home clock ends ends' sent → AllSent P sent
changes_such P home clock ends ends' sent h (inl none) = subst (AllSent P) (sym none.1) tt
changes_such P home clock ends ends' sent h (inr (inl g)) =
    subst (AllSent P) (ap (λ x. x.sent) g.gone) (goes_such P clock (peer_of home.pairs home.number g.e).core _ _ (nat_eq (peer_of home.pairs home.number g.e).core home.number) (λ far m. h g.e m far))
changes_such P home clock ends ends' sent h (inr (inr g)) =
    subst (AllSent P) (ap (λ x. x.sent) g.gone) (goes_such P clock (peer_of home.pairs home.number g.e).core _ _ (nat_eq (peer_of home.pairs home.number g.e).core home.number) (λ far m. h g.e m far))

turn_such : (P : Sent → Type 0) (home : Home) (p : Part) (n : ℕ) → Goes home P p.core.clock → AllSent P p.sent → AllSent P (turn home p n).sent
unfolding turn
turn_such P home p n h all = go (slot home p.core n) (changes_such P home p.core.clock p.core.ends (ends_after p.core (slot home p.core n)) (sent_of (slot home p.core n)) h (slot_kept home p.core n))
  where
    go : (d : Did CoreState) → AllSent P (sent_of d) → AllSent P (after home p n d).sent
    go (Made left made sent) more = sent_append P p.sent sent all more
    go (Traps kind) more = all
    go Paused more = all
    go Idle more = all

pub turns_such : (P : Sent → Type 0) (home : Home) (p : Part) (n : ℕ) → Goes home P p.core.clock → AllSent P p.sent → AllSent P (turns home p n).sent
unfolding turns
turns_such P home p zero h all = all
turns_such P home p (suc n) h all = turn_such P home (turns home p n) n (subst (Goes home P) (sym (turns_clock home p n)) h) (turns_such P home p n h all)

pub own_part_clock : (home : Home) (a : Alone) → (own_part home a).core.clock ≡ (tick_once a.core).clock
unfolding core_round
own_part_clock home a =
    turns_clock home _ 8 ∙ came_clock (tick_once a.core) (due_in a.coming (tick_once a.core).clock 4)

pub own_part_such : (P : Sent → Type 0) (home : Home) (a : Alone) → Goes home P (tick_once a.core).clock → AllSent P (own_part home a).sent
unfolding core_round
own_part_such P home a h =
    turns_such P home (record { core = all_came (tick_once a.core) (due_in a.coming (tick_once a.core).clock 4); made = []; sent = [] }) 8
    (subst (Goes home P) (sym (came_clock (tick_once a.core) (due_in a.coming (tick_once a.core).clock 4))) h) tt

-- what it sends goes to its peers on other cores
pub alone_to : (P : ℕ → Type 0) (home : Home) (core : CoreState) (coming : ℕ → List Item) (n : ℕ) → ((e : ℕ) → nat_eq (peer_of home.pairs home.number e).core home.number ≡ false → P (peer_of home.pairs home.number e).core) → AllSent (λ s. P s.to) (alone home (begins core coming) n).sent
unfolding alone
alone_to P home core coming zero h = tt
alone_to P home core coming (suc n) h =
    let a = alone home (begins core coming) n in
    sent_append (λ s. P s.to) a.sent (own_part home a).sent (alone_to P home core coming n h) (own_part_such (λ s. P s.to) home a (λ e m far. h e far))

-- the clock counts the rounds
pub alone_clock : (home : Home) (a : Alone) (t n : ℕ) → a.core.clock ≡ t → t + n < 2 ^ 32 → (alone home a n).core.clock ≡ t + n
unfolding alone
alone_clock home a t zero is small = omega arith
alone_clock home a t (suc n) is small =
    let before = alone_clock home a t n is (omega arith) in
    let up = tick_clock (alone home a n).core (omega (arith, before)) in
    own_part_clock home (alone home a n) ∙ omega (arith, before, up)

pub up_clock : (home : Home) (a : Alone) (t n : ℕ) → a.core.clock ≡ t → t + n + 1 < 2 ^ 32 → (tick_once (alone home a n).core).clock ≡ t + n + 1
up_clock home a t n is small =
    let before = alone_clock home a t n is (omega arith) in
    let up = tick_clock (alone home a n).core (omega (arith, before)) in
    omega (arith, before, up)

-- what it sends has a later tick
pub alone_after : (home : Home) (core : CoreState) (coming : ℕ → List Item) (t n : ℕ) → core.clock ≡ t → t + n < 2 ^ 32 → AllAfter t (alone home (begins core coming) n).sent
unfolding alone
alone_after home core coming t zero is small = tt
alone_after home core coming t (suc n) is small =
    let a = alone home (begins core coming) n in
    let up = up_clock home (begins core coming) t n is (omega arith) in
    sent_append (λ s. t < s.tick) a.sent (own_part home a).sent (alone_after home core coming t n is (omega arith)) (own_part_such (λ s. t < s.tick) home a (λ e m far. omega (arith, up)))
