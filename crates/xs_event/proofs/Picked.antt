-- The resource that is picked is the least that can be.
use Rattle.std.proofs.Common.{◌≡◌, inl, inr, ℕ, zero, suc, ◌+◌, ◌≤◌, Bool, true, false, ◌&&◌, List, [], ◌∷◌, Option, Some, None, slice_get, MatchOption, refl, ap, sym, ◌∙◌, subst, arith, eq-eqb}
use Rattle.std.proofs.lemmas.Bool.{and_from, and_parts, eqb-true}
use Rattle.xs_event.specs.Picks.{IsLeastPickable, IsPickable, IsUpTo, NonePickable}
use Rattle.xs_event.specs.Watches.{owner_in}
use Rattle.xs_instr.specs.declared.state.Events.{Events}
use Rattle.xs_instr.specs.declared.state.Res.{Res}
use Rattle.xs_instr.specs.declared.state.Res.TheVariants.{Port, Timer, End}
use Rattle.xs_instr.specs.declared.state.Watch.{Watch}
use Rattle.xs_instr.specs.Events.{Readiness, end_picked, picked, picked_by, picked_in, port_picked, timer_picked}
use Rattle.xs_instr.specs.Resources.{is_num}

is_num-some : (o : Option ℕ) (t : ℕ) → o ≡ Some t → is_num o t ≡ true
is_num-some o t e = subst (λ (x : Option ℕ). is_num x t ≡ true) (sym e) (eq-eqb t t refl)

is_num-true : (o : Option ℕ) (t : ℕ) → is_num o t ≡ true → o ≡ Some t
is_num-true None t e = let no : ◌≡◌ {A = Bool} false true = e in cc
is_num-true (Some m) t e = ap Some (eqb-true m t e)

-- none of the watches from a number on can be picked
pub record NoneIn (ws : List Watch) (ready : ℕ → Bool) (t from : ℕ) : Type 0 where
  pub none : (n : ℕ) → owner_in (slice_get ws n) ≡ Some t → ready (from + n) ≡ true → ⊥

-- the one at place k is the first of them that can be picked
pub record FirstIn (ws : List Watch) (ready : ℕ → Bool) (t from k : ℕ) : Type 0 where
  pub enabled : owner_in (slice_get ws k) ≡ Some t
  pub is_ready : ready (from + k) ≡ true
  pub first : (n : ℕ) → owner_in (slice_get ws n) ≡ Some t → ready (from + n) ≡ true → k ≤ n

-- what a search from a number on tells
abbrev pub Tells : List Watch → (ℕ → Bool) → ℕ → ℕ → Option ℕ → Type 0
Tells ws ready t from None = NoneIn ws ready t from
Tells ws ready t from (Some m) = (k : ℕ) × (m ≡ from + k) × FirstIn ws ready t from k

none_at : (w : Watch) (ws : List Watch) (ready : ℕ → Bool) (t from : ℕ) → (is_num w.owner t && ready from) ≡ false → NoneIn ws ready t (suc from)
    → (n : ℕ) → owner_in (slice_get (w ∷ ws) n) ≡ Some t → ready (from + n) ≡ true → ⊥
none_at w ws ready t from fails behind zero enabled is_ready =
    let e : from ≡ from + 0 = omega arith in
    let holds : (is_num w.owner t && ready from) ≡ true =
    and_from (is_num w.owner t) (ready from) (is_num-some w.owner t enabled) (ap ready e ∙ is_ready) in
    let clash : ◌≡◌ {A = Bool} false true = sym fails ∙ holds in cc
none_at w ws ready t from fails behind (suc n) enabled is_ready =
    let e : suc from + n ≡ from + suc n = omega arith in behind.none n enabled (ap ready e ∙ is_ready)

first_at : (w : Watch) (ws : List Watch) (ready : ℕ → Bool) (t from k : ℕ) → (is_num w.owner t && ready from) ≡ false → FirstIn ws ready t (suc from) k
    → (n : ℕ) → owner_in (slice_get (w ∷ ws) n) ≡ Some t → ready (from + n) ≡ true → suc k ≤ n
first_at w ws ready t from k fails behind zero enabled is_ready =
    let e : from ≡ from + 0 = omega arith in
    let holds : (is_num w.owner t && ready from) ≡ true =
    and_from (is_num w.owner t) (ready from) (is_num-some w.owner t enabled) (ap ready e ∙ is_ready) in
    let clash : ◌≡◌ {A = Bool} false true = sym fails ∙ holds in cc
first_at w ws ready t from k fails behind (suc n) enabled is_ready =
    let e : suc from + n ≡ from + suc n = omega arith in
    let h : k ≤ n = behind.first n enabled (ap ready e ∙ is_ready) in omega arith

step : (w : Watch) (ws : List Watch) (ready : ℕ → Bool) (t from : ℕ) (rest : Option ℕ) → Tells ws ready t (suc from) rest
    → (b : Bool) → (is_num w.owner t && ready from) ≡ b → Tells (w ∷ ws) ready t from (picked_by from rest b)
step w ws ready t from rest behind true holds =
    let e : from + 0 ≡ from = omega arith in
    let parts = and_parts (is_num w.owner t) (ready from) holds in
    (0, sym e, record { enabled = is_num-true w.owner t parts.0; is_ready = ap ready e ∙ parts.1; first = λ n enabled is_ready. omega arith })
step w ws ready t from None behind false fails = record { none = none_at w ws ready t from fails behind }
step w ws ready t from (Some m) behind false fails =
    let k = behind.0 in
    let e : from + suc k ≡ suc from + k = omega arith in
    (suc k, behind.1 ∙ sym e, record { enabled = behind.2.enabled; is_ready = ap ready e ∙ behind.2.is_ready; first = first_at w ws ready t from k fails behind.2 })

tells : (ws : List Watch) (ready : ℕ → Bool) (t from : ℕ) → Tells ws ready t from (picked_in ws ready t from)
tells [] ready t from = record { none = λ n enabled is_ready. let clash : ◌≡◌ {A = Option ℕ} None (Some t) = enabled in cc }
tells (w ∷ ws) ready t from =
    step w ws ready t from (picked_in ws ready t (suc from)) (tells ws ready t (suc from)) (is_num w.owner t && ready from) refl

port_least : (events : Events) (t : ℕ) (ready : Readiness) (m k : ℕ) → m ≡ 0 + k → FirstIn events.ports ready.ports t 0 k
    → (other : Res) → IsPickable events t ready other → IsUpTo (Port m) other
port_least events t ready m k place found (Port n) can =
    let e : 0 + n ≡ n = omega arith in
    let h : k ≤ n = found.first n can.enabled (ap ready.ports e ∙ can.is_ready) in inr (refl, omega arith)
port_least events t ready m k place found (Timer n) can = inl (omega arith)
port_least events t ready m k place found (End n) can = inl (omega arith)

timer_least : (events : Events) (t : ℕ) (ready : Readiness) (m k : ℕ) → NoneIn events.ports ready.ports t 0 → m ≡ 0 + k
    → FirstIn events.timers ready.timers t 0 k → (other : Res) → IsPickable events t ready other → IsUpTo (Timer m) other
timer_least events t ready m k ports place found (Port n) can =
    let e : 0 + n ≡ n = omega arith in absurd (ports.none n can.enabled (ap ready.ports e ∙ can.is_ready))
timer_least events t ready m k ports place found (Timer n) can =
    let e : 0 + n ≡ n = omega arith in
    let h : k ≤ n = found.first n can.enabled (ap ready.timers e ∙ can.is_ready) in inr (refl, omega arith)
timer_least events t ready m k ports place found (End n) can = inl (omega arith)

end_least : (events : Events) (t : ℕ) (ready : Readiness) (m k : ℕ) → NoneIn events.ports ready.ports t 0 → NoneIn events.timers ready.timers t 0
    → m ≡ 0 + k → FirstIn events.ends ready.ends t 0 k → (other : Res) → IsPickable events t ready other → IsUpTo (End m) other
end_least events t ready m k ports timers place found (Port n) can =
    let e : 0 + n ≡ n = omega arith in absurd (ports.none n can.enabled (ap ready.ports e ∙ can.is_ready))
end_least events t ready m k ports timers place found (Timer n) can =
    let e : 0 + n ≡ n = omega arith in absurd (timers.none n can.enabled (ap ready.timers e ∙ can.is_ready))
end_least events t ready m k ports timers place found (End n) can =
    let e : 0 + n ≡ n = omega arith in
    let h : k ≤ n = found.first n can.enabled (ap ready.ends e ∙ can.is_ready) in inr (refl, omega arith)

none_pickable : (events : Events) (t : ℕ) (ready : Readiness) → NoneIn events.ports ready.ports t 0 → NoneIn events.timers ready.timers t 0
    → NoneIn events.ends ready.ends t 0 → NonePickable events t ready
none_pickable events t ready ports timers ends (Port n) can =
    let e : 0 + n ≡ n = omega arith in ports.none n can.enabled (ap ready.ports e ∙ can.is_ready)
none_pickable events t ready ports timers ends (Timer n) can =
    let e : 0 + n ≡ n = omega arith in timers.none n can.enabled (ap ready.timers e ∙ can.is_ready)
none_pickable events t ready ports timers ends (End n) can =
    let e : 0 + n ≡ n = omega arith in ends.none n can.enabled (ap ready.ends e ∙ can.is_ready)

joined : (events : Events) (t : ℕ) (ready : Readiness) (port timer end : Option ℕ) → Tells events.ports ready.ports t 0 port
    → Tells events.timers ready.timers t 0 timer → Tells events.ends ready.ends t 0 end
    → MatchOption (port_picked (timer_picked (end_picked end) timer) port) (NonePickable events t ready) (IsLeastPickable events t ready)
joined events t ready (Some m) timer end found timers ends = record {
  pickable = record {
    enabled = ap (λ i. owner_in (slice_get events.ports i)) (let e : m ≡ found.0 = omega (arith, found.1) in e) ∙ found.2.enabled;
    is_ready = ap ready.ports found.1 ∙ found.2.is_ready;
  };
  least = port_least events t ready m found.0 found.1 found.2;
}
joined events t ready None (Some m) end ports found ends = record {
  pickable = record {
    enabled = ap (λ i. owner_in (slice_get events.timers i)) (let e : m ≡ found.0 = omega (arith, found.1) in e) ∙ found.2.enabled;
    is_ready = ap ready.timers found.1 ∙ found.2.is_ready;
  };
  least = timer_least events t ready m found.0 ports found.1 found.2;
}
joined events t ready None None (Some m) ports timers found = record {
  pickable = record {
    enabled = ap (λ i. owner_in (slice_get events.ends i)) (let e : m ≡ found.0 = omega (arith, found.1) in e) ∙ found.2.enabled;
    is_ready = ap ready.ends found.1 ∙ found.2.is_ready;
  };
  least = end_least events t ready m found.0 ports timers found.1 found.2;
}
joined events t ready None None None ports timers ends = none_pickable events t ready ports timers ends

-- the resource that is picked is the least that can be, and there is none only where none can be
pub picked-least : (events : Events) (t : ℕ) (ready : Readiness) (res : Option Res) → res ≡ picked events t ready
    → MatchOption res (NonePickable events t ready) (IsLeastPickable events t ready)
picked-least events t ready res is =
    subst (λ (r : Option Res). MatchOption r (NonePickable events t ready) (IsLeastPickable events t ready)) (sym is)
    (joined events t ready (picked_in events.ports ready.ports t 0) (picked_in events.timers ready.timers t 0) (picked_in events.ends ready.ends t 0)
    (tells events.ports ready.ports t 0) (tells events.timers ready.timers t 0) (tells events.ends ready.ends t 0))
