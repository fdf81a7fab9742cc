-- What is enabled for a thread, when all of its own are cleared, and when a resource gets a vector and is enabled for it.
use Rattle.std.proofs.Common.{◌≡◌, ◌≢◌, ℕ, zero, suc, Bool, true, false, List, [], ◌∷◌, Option, Some, None, refl, sym, ap, ◌∙◌, eq-eqb, eqb-true}
use Rattle.std.specs.Prelude.{slice_get}
use Rattle.std.proofs.lemmas.Option.{same_Some}
use Rattle.xs_instr.specs.declared.state.Events.{Events}
use Rattle.xs_instr.specs.declared.state.Res.{Res}
use Rattle.xs_instr.specs.declared.state.Res.TheVariants.{Port, Timer, End}
use Rattle.xs_instr.specs.declared.state.Watch.{Watch}
use Rattle.xs_instr.specs.Events.{watch_of, watch_put, vector_in, vector_of, vector_set, vector_at, enabled, owner_at, cleared, cleared_in, cleared_by}
use Rattle.xs_instr.specs.Resources.{is_num}
use Rattle.xl_expr.specs.ResourceParts.{IsEnabledFor, owner_in}
use Rattle.xl_expr.proofs.Lists.{get_set_other, get_set_same}

-- a watch where one thread's are cleared
abbrev after_clear : (t : ℕ) → Option Watch → Option Watch
after_clear t None = None
after_clear t (Some w) = Some (cleared_by w (is_num w.owner t))

cleared_at : (ws : List Watch) (t n : ℕ) → slice_get (cleared_in ws t) n ≡ after_clear t (slice_get ws n)
cleared_at [] t n = refl
cleared_at (w ∷ ws) t zero = refl
cleared_at (w ∷ ws) t (suc n) = cleared_at ws t n

pub watch_cleared : (ev : Events) (t : ℕ) (res : Res) → watch_of (cleared ev t) res ≡ after_clear t (watch_of ev res)
watch_cleared ev t (Port n) = cleared_at ev.ports t n
watch_cleared ev t (Timer n) = cleared_at ev.timers t n
watch_cleared ev t (End n) = cleared_at ev.ends t n

-- all vectors stay
by_vector : (w : Watch) (b : Bool) → (cleared_by w b).vector ≡ w.vector
by_vector w true = refl
by_vector w false = refl

vector_after : (t : ℕ) (o : Option Watch) → vector_in (after_clear t o) ≡ vector_in o
vector_after t None = refl
vector_after t (Some w) = by_vector w (is_num w.owner t)

pub vectors_stay : (ev : Events) (t : ℕ) (res : Res) → vector_of (cleared ev t) res ≡ vector_of ev res
vectors_stay ev t res = ap vector_in (watch_cleared ev t res) ∙ vector_after t (watch_of ev res)

-- what is enabled for another thread is so still
num_of : (o : Option ℕ) (t u : ℕ) → o ≡ Some u → is_num o t ≡ true → u ≡ t
num_of None t u e h = cc
num_of (Some m) t u e h = let same : m ≡ u = cc in sym same ∙ eqb-true m t h

by_owner : (w : Watch) (t u : ℕ) → u ≢ t → w.owner ≡ Some u → (b : Bool) → is_num w.owner t ≡ b → (cleared_by w b).owner ≡ Some u
by_owner w t u ne e true h = absurd (ne (num_of w.owner t u e h))
by_owner w t u ne e false h = e

owner_after : (t u : ℕ) → u ≢ t → (o : Option Watch) → owner_in o ≡ Some u → owner_in (after_clear t o) ≡ Some u
owner_after t u ne None e = e
owner_after t u ne (Some w) e = by_owner w t u ne e (is_num w.owner t) refl

pub enabled_stays : (ev : Events) (t u : ℕ) (res : Res) → u ≢ t → IsEnabledFor u ev res → IsEnabledFor u (cleared ev t) res
enabled_stays ev t u res ne e = ap owner_in (watch_cleared ev t res) ∙ owner_after t u ne (watch_of ev res) e

-- and nothing more is
owned_by : (w : Watch) (u : ℕ) (b : Bool) → (cleared_by w b).owner ≡ Some u → w.owner ≡ Some u
owned_by w u true e = cc
owned_by w u false e = e

owner_before : (t u : ℕ) (o : Option Watch) → owner_in (after_clear t o) ≡ Some u → owner_in o ≡ Some u
owner_before t u None e = e
owner_before t u (Some w) e = owned_by w u (is_num w.owner t) e

pub nothing_more_enabled : (ev : Events) (t u : ℕ) (res : Res) → IsEnabledFor u (cleared ev t) res → IsEnabledFor u ev res
nothing_more_enabled ev t u res e = owner_before t u (watch_of ev res) (sym (ap owner_in (watch_cleared ev t res)) ∙ e)

-- nothing is enabled for the thread itself
is_the_num : (o : Option ℕ) (t : ℕ) → o ≡ Some t → is_num o t ≡ true
is_the_num None t h = cc
is_the_num (Some m) t h = eq-eqb m t (same_Some m t h)

not_owned_in : (ws : List Watch) (t i : ℕ) → owner_in (slice_get (cleared_in ws t) i) ≡ Some t → ⊥
not_owned_in [] t i h = cc
not_owned_in (w ∷ ws) t (suc i) h = not_owned_in ws t i h
not_owned_in (w ∷ ws) t zero h = by (is_num w.owner t) refl
  where
    by : (b : Bool) → is_num w.owner t ≡ b → ⊥
    by true e = let bad : None ≡ Some t = sym (ap (λ c. (cleared_by w c).owner) e) ∙ h in cc
    by false e =
        let own : w.owner ≡ Some t = sym (ap (λ c. (cleared_by w c).owner) e) ∙ h in
        let bad : true ≡ false = sym (is_the_num w.owner t own) ∙ e in
        cc

pub none_enabled : (ev : Events) (t : ℕ) (res : Res) → IsEnabledFor t (cleared ev t) res → ⊥
none_enabled ev t (Port n) h = not_owned_in ev.ports t n h
none_enabled ev t (Timer n) h = not_owned_in ev.timers t n h
none_enabled ev t (End n) h = not_owned_in ev.ends t n h

-- one watch is changed

watch_same : (ev : Events) (res : Res) (w w' : Watch) → watch_of ev res ≡ Some w → watch_of (watch_put ev res w') res ≡ Some w'
watch_same ev (Port n) w w' h = get_set_same ev.ports n w w' h
watch_same ev (Timer n) w w' h = get_set_same ev.timers n w w' h
watch_same ev (End n) w w' h = get_set_same ev.ends n w w' h

watch_other : (ev : Events) (res other : Res) (w : Watch) → other ≢ res → watch_of (watch_put ev res w) other ≡ watch_of ev other
watch_other ev (Port n) (Port m) w ne = get_set_other ev.ports n m w (λ e. ne (ap (λ (k : ℕ). Port k) e))
watch_other ev (Port n) (Timer m) w ne = refl
watch_other ev (Port n) (End m) w ne = refl
watch_other ev (Timer n) (Port m) w ne = refl
watch_other ev (Timer n) (Timer m) w ne = get_set_other ev.timers n m w (λ e. ne (ap (λ (k : ℕ). Timer k) e))
watch_other ev (Timer n) (End m) w ne = refl
watch_other ev (End n) (Port m) w ne = refl
watch_other ev (End n) (Timer m) w ne = refl
watch_other ev (End n) (End m) w ne = get_set_other ev.ends n m w (λ e. ne (ap (λ (k : ℕ). End k) e))

-- a vector is set

pub vector_same : (ev : Events) (res : Res) (k : ℕ) (w : Watch) → watch_of ev res ≡ Some w → watch_of (vector_set ev res k) res ≡ Some (record w { vector = k })
vector_same ev res k w h = ap (λ o. watch_of (vector_at ev res k o) res) h ∙ watch_same ev res w (record w { vector = k }) h

pub vector_other : (ev : Events) (res other : Res) (k : ℕ) (w : Watch) → watch_of ev res ≡ Some w → other ≢ res → watch_of (vector_set ev res k) other ≡ watch_of ev other
vector_other ev res other k w h ne = ap (λ o. watch_of (vector_at ev res k o) other) h ∙ watch_other ev res other (record w { vector = k }) ne

-- a resource is enabled for a thread

pub enabled_same : (ev : Events) (res : Res) (t : ℕ) (w : Watch) → watch_of ev res ≡ Some w → watch_of (enabled ev res t) res ≡ Some (record w { owner = Some t })
enabled_same ev res t w h = ap (λ o. watch_of (owner_at ev res (Some t) o) res) h ∙ watch_same ev res w (record w { owner = Some t }) h

pub enabled_other : (ev : Events) (res other : Res) (t : ℕ) (w : Watch) → watch_of ev res ≡ Some w → other ≢ res → watch_of (enabled ev res t) other ≡ watch_of ev other
enabled_other ev res other t w h ne = ap (λ o. watch_of (owner_at ev res (Some t) o) other) h ∙ watch_other ev res other (record w { owner = Some t }) ne
