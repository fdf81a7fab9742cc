-- What is picked among the resources that a thread has enabled: one that is ready, and none only where none is.
use Rattle.std.proofs.Common.{◌≡◌, ℕ, zero, suc, ◌+◌, Bool, true, false, List, [], ◌∷◌, Option, Some, None, refl, sym, ap, ◌∙◌, subst, arith, eq-eqb, eqb-true}
use Rattle.std.specs.Prelude.{slice_get, ◌&&◌}
use Rattle.std.proofs.lemmas.Option.{same_Some}
use Rattle.xs_instr.specs.declared.image.Home.{Home}
use Rattle.xs_instr.specs.declared.state.CoreState.{CoreState}
use Rattle.xs_instr.specs.declared.state.Res.{Res}
use Rattle.xs_instr.specs.declared.state.Res.TheVariants.{Port as ResPort, Timer as ResTimer, End as ResEnd}
use Rattle.xs_instr.specs.declared.state.Watch.{Watch}
use Rattle.xs_instr.specs.Events.{Readiness, readiness, picked_in, picked_by, pick, port_picked, timer_picked, end_picked}
use Rattle.xs_instr.specs.Resources.{is_num}
use Rattle.xl_expr.specs.ResourceParts.{IsEnabledFor, owner_in}
use Rattle.xr_events.specs.Readiness.{is_ready_for}

-- it is this number
num_is : (o : Option ℕ) (t : ℕ) → is_num o t ≡ true → o ≡ Some t
num_is None t h = cc
num_is (Some m) t h = ap (λ (k : ℕ). Some k) (eqb-true m t h)

pub is_the_num : (o : Option ℕ) (t : ℕ) → o ≡ Some t → is_num o t ≡ true
is_the_num None t h = cc
is_the_num (Some m) t h = eq-eqb m t (same_Some m t h)

-- what is picked in one list is there, enabled and ready
some_in : (ws : List Watch) (ready : ℕ → Bool) (t n m : ℕ) → picked_in ws ready t n ≡ Some m → (i : ℕ) × (m ≡ n + i) × (owner_in (slice_get ws i) ≡ Some t) × (ready m ≡ true)
some_in [] ready t n m h = cc
some_in (w ∷ ws) ready t n m h = by (is_num w.owner t) refl (ready n) refl (some_in ws ready t (suc n) m)
  where
    by : (a : Bool) → is_num w.owner t ≡ a → (b : Bool) → ready n ≡ b → (picked_in ws ready t (suc n) ≡ Some m → (i : ℕ) × (m ≡ suc n + i) × (owner_in (slice_get ws i) ≡ Some t) × (ready m ≡ true)) → (i : ℕ) × (m ≡ n + i) × (owner_in (slice_get (w ∷ ws) i) ≡ Some t) × (ready m ≡ true)
    by true e true f next =
        let at : Some n ≡ Some m = sym (ap (λ (c : Bool). picked_by n (picked_in ws ready t (suc n)) (c && ready n)) e ∙ ap (λ (c : Bool). picked_by n (picked_in ws ready t (suc n)) c) f) ∙ h in
        let same : n ≡ m = same_Some n m at in
        (0, omega arith, num_is w.owner t e, subst (λ (k : ℕ). ready k ≡ true) same f)
    by true e false f next =
        let at : picked_in ws ready t (suc n) ≡ Some m = sym (ap (λ (c : Bool). picked_by n (picked_in ws ready t (suc n)) (c && ready n)) e ∙ ap (λ (c : Bool). picked_by n (picked_in ws ready t (suc n)) c) f) ∙ h in
        let on = next at in
        (suc on.0, omega (arith, on.1), on.2, on.3)
    by false e b f next =
        let at : picked_in ws ready t (suc n) ≡ Some m = sym (ap (λ (c : Bool). picked_by n (picked_in ws ready t (suc n)) (c && ready n)) e) ∙ h in
        let on = next at in
        (suc on.0, omega (arith, on.1), on.2, on.3)

-- where none is picked, none that is enabled is ready
none_in : (ws : List Watch) (ready : ℕ → Bool) (t n : ℕ) → picked_in ws ready t n ≡ None → (i : ℕ) → owner_in (slice_get ws i) ≡ Some t → ready (n + i) ≡ false
none_in [] ready t n h i own = cc
none_in (w ∷ ws) ready t n h zero own = by (ready n) refl
  where
    by : (b : Bool) → ready n ≡ b → ready (n + 0) ≡ false
    by true f =
        let at : Some n ≡ None = sym (ap (λ (c : Bool). picked_by n (picked_in ws ready t (suc n)) (c && ready n)) (is_the_num w.owner t own) ∙ ap (λ (c : Bool). picked_by n (picked_in ws ready t (suc n)) c) f) ∙ h in
        cc
    by false f = let same : n ≡ n + 0 = omega arith in subst (λ (k : ℕ). ready k ≡ false) same f
none_in (w ∷ ws) ready t n h (suc i) own = by (is_num w.owner t && ready n) refl (λ at. none_in ws ready t (suc n) at i own)
  where
    by : (b : Bool) → (is_num w.owner t && ready n) ≡ b → (picked_in ws ready t (suc n) ≡ None → ready (suc n + i) ≡ false) → ready (n + suc i) ≡ false
    by true f next = let at : Some n ≡ None = sym (ap (λ (c : Bool). picked_by n (picked_in ws ready t (suc n)) c) f) ∙ h in cc
    by false f next =
        let same : suc n + i ≡ n + suc i = omega arith in
        subst (λ (k : ℕ). ready k ≡ false) same (next (sym (ap (λ (c : Bool). picked_by n (picked_in ws ready t (suc n)) c) f) ∙ h))

-- what is picked is enabled for the thread and ready
pub pick_some : (home : Home) (core : CoreState) (t : ℕ) (res : Res) → pick home core t ≡ Some res → IsEnabledFor t core.events res × (is_ready_for home core res ≡ true)
pick_some home core t res h = by_port (picked_in core.events.ports ready.ports t 0) refl
  where
    ready : Readiness
    ready = readiness home core

    ends : Option ℕ
    ends = picked_in core.events.ends ready.ends t 0

    timers : Option ℕ
    timers = picked_in core.events.timers ready.timers t 0

    Result : Res → Type 0
    Result x = IsEnabledFor t core.events x × (is_ready_for home core x ≡ true)

    by_end : (o : Option ℕ) → picked_in core.events.ends ready.ends t 0 ≡ o → end_picked o ≡ Some res → Result res
    by_end None e f = cc
    by_end (Some n) e f =
        let got = some_in core.events.ends ready.ends t 0 n e in
        let same : got.0 ≡ n = omega (arith, got.1) in
        subst Result (same_Some (ResEnd n) res f) (subst (λ (k : ℕ). owner_in (slice_get core.events.ends k) ≡ Some t) same got.2, got.3)

    by_timer : (o : Option ℕ) → picked_in core.events.timers ready.timers t 0 ≡ o → timer_picked (end_picked ends) o ≡ Some res → Result res
    by_timer None e f = by_end ends refl f
    by_timer (Some n) e f =
        let got = some_in core.events.timers ready.timers t 0 n e in
        let same : got.0 ≡ n = omega (arith, got.1) in
        subst Result (same_Some (ResTimer n) res f) (subst (λ (k : ℕ). owner_in (slice_get core.events.timers k) ≡ Some t) same got.2, got.3)

    by_port : (o : Option ℕ) → picked_in core.events.ports ready.ports t 0 ≡ o → Result res
    by_port None e = by_timer timers refl (sym (ap (port_picked (timer_picked (end_picked ends) timers)) e) ∙ h)
    by_port (Some n) e =
        let got = some_in core.events.ports ready.ports t 0 n e in
        let same : got.0 ≡ n = omega (arith, got.1) in
        let f : Some (ResPort n) ≡ Some res = sym (ap (port_picked (timer_picked (end_picked ends) timers)) e) ∙ h in
        subst Result (same_Some (ResPort n) res f) (subst (λ (k : ℕ). owner_in (slice_get core.events.ports k) ≡ Some t) same got.2, got.3)

-- where none is picked, none that is enabled for the thread is ready
pub pick_none : (home : Home) (core : CoreState) (t : ℕ) → pick home core t ≡ None → (res : Res) → IsEnabledFor t core.events res → is_ready_for home core res ≡ false
pick_none home core t h res own = by_ports (picked_in core.events.ports ready.ports t 0) refl (picked_in core.events.timers ready.timers t 0) refl (picked_in core.events.ends ready.ends t 0) refl
  where
    ready : Readiness
    ready = readiness home core

    found : (ports timers ends : Option ℕ) → Option Res
    found ports timers ends = port_picked (timer_picked (end_picked ends) timers) ports

    by_res : (x : Res) → IsEnabledFor t core.events x → picked_in core.events.ports ready.ports t 0 ≡ None → picked_in core.events.timers ready.timers t 0 ≡ None → picked_in core.events.ends ready.ends t 0 ≡ None → is_ready_for home core x ≡ false
    by_res (ResPort n) o p q s = let z : 0 + n ≡ n = omega arith in subst (λ (k : ℕ). ready.ports k ≡ false) z (none_in core.events.ports ready.ports t 0 p n o)
    by_res (ResTimer n) o p q s = let z : 0 + n ≡ n = omega arith in subst (λ (k : ℕ). ready.timers k ≡ false) z (none_in core.events.timers ready.timers t 0 q n o)
    by_res (ResEnd n) o p q s = let z : 0 + n ≡ n = omega arith in subst (λ (k : ℕ). ready.ends k ≡ false) z (none_in core.events.ends ready.ends t 0 s n o)

    by_ports : (ports : Option ℕ) → picked_in core.events.ports ready.ports t 0 ≡ ports → (timers : Option ℕ) → picked_in core.events.timers ready.timers t 0 ≡ timers → (ends : Option ℕ) → picked_in core.events.ends ready.ends t 0 ≡ ends → is_ready_for home core res ≡ false
    by_ports None e None f None k = by_res res own e f k
    by_ports None e None f (Some n) k =
        let bad : Some (ResEnd n) ≡ None = sym (ap (λ o. found o (picked_in core.events.timers ready.timers t 0) (picked_in core.events.ends ready.ends t 0)) e ∙ ap (λ o. found None o (picked_in core.events.ends ready.ends t 0)) f ∙ ap (found None None) k) ∙ h in cc
    by_ports None e (Some n) f ends k =
        let bad : Some (ResTimer n) ≡ None = sym (ap (λ o. found o (picked_in core.events.timers ready.timers t 0) (picked_in core.events.ends ready.ends t 0)) e ∙ ap (λ o. found None o (picked_in core.events.ends ready.ends t 0)) f) ∙ h in cc
    by_ports (Some n) e timers f ends k =
        let bad : Some (ResPort n) ≡ None = sym (ap (λ o. found o (picked_in core.events.timers ready.timers t 0) (picked_in core.events.ends ready.ends t 0)) e) ∙ h in cc
