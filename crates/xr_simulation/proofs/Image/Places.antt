-- The words of variables, and the places of ports, as a plan has them.
use Rattle.std.proofs.Common.{◌≡◌, ◌≢◌, ◌⊎◌, ⊎_elim, ℕ, zero, suc, ◌+◌, ◌-◌, ◌<◌, ◌≤◌, Bool, true, false, ◌&&◌, List, length, Option, Some, None, slice_get, nat_eq, nat_le, nat_lt, refl, ap, subst, ◌∙◌, arith}
use Rattle.std.proofs.lemmas.Option.{slice_get_within}
use Rattle.xc_meaning.proofs.Basics.{or_left, or_right, or_cases, same_or_not}
use Rattle.xc_disjoint.specs.Cores.{if_so, on_core}
use Rattle.xl_expr.specs.declared.plan.VarAt.{VarAt}
use Rattle.xl_expr.specs.declared.plan.VarAt.TheVariants.{Near, Far, Through}
use Rattle.xl_expr.specs.declared.plan.VarPlan.{VarPlan}
use Rattle.xl_expr.specs.Frames.{IsNear}
use Rattle.xl_expr.specs.Plans.{joined, var_in}
use Rattle.xl_plan.specs.Layout.{number_on}
use Rattle.xl_plan.proofs.Lists.{none_given, before_later}
use Rattle.xr_simulation.specs.Runners.{is_among_words, is_word_among, is_word_at, is_word_of}

among_by : (a b : ℕ) (w : ℕ) → a ≤ w → w < b → (nat_le a w && nat_lt w b) ≡ true
among_by a b w h g = grind arith

-- a word among so many
pub among : (first words w i : ℕ) → w ≡ first + i → i < words → is_among_words first words w ≡ true
among first words w i e h = among_by first (first + words) w (omega (arith, e)) (omega (arith, e, h))

among_both : (a b : ℕ) (w : ℕ) → (nat_le a w && nat_lt w b) ≡ true → (a ≤ w) × (w < b)
among_both a b w h = (grind arith, grind arith)

pub among_found : (first words w : ℕ) → is_among_words first words w ≡ true → (i : ℕ) × (i < words) × (w ≡ first + i)
among_found first words w h =
    let b = among_both first (first + words) w h in
    let lo = b.0 in
    let hi = b.1 in
    (w - first, omega (arith, lo, hi), omega (arith, lo))

-- a word of a variable of a plan
pub record IsWord (base : ℕ) (vars : List (Option VarPlan)) (is_meant : ℕ → Bool) (w : ℕ) : Type 0 where
  pub variable : ℕ
  pub first : ℕ
  pub place : ℕ
  pub found : VarPlan
  pub near : IsNear vars variable first found
  pub meant : is_meant variable ≡ true
  pub within : place < found.words
  pub is : w ≡ base + first + place

both_true : (a b : Bool) → a ≡ true → b ≡ true → (a && b) ≡ true
both_true true b e f = f
both_true false b e f = absurd cc

true_both : (a b : Bool) → (a && b) ≡ true → (a ≡ true) × (b ≡ true)
true_both true b e = (refl, e)
true_both false b e = absurd cc

module _ (base : ℕ) (vars : List (Option VarPlan)) (is_meant : ℕ → Bool) where
  abbrev here : ℕ → ℕ → Bool
  here v w = is_meant v && is_word_of base (var_in vars v) w

  same_or_below : (v n : ℕ) → v < suc n → (v ≡ n) ⊎ (v < n)
  same_or_below v n h = grind arith

  word_among : (n v w : ℕ) → v < n → here v w ≡ true → is_word_among base vars is_meant n w ≡ true
  word_among zero v w h e = absurd (let z : ⊥ = omega (arith, h) in z)
  word_among (suc n) v w h e =
      ⊎_elim
      (λ q. or_left (here n w) (is_word_among base vars is_meant n w) (subst (λ m. here m w ≡ true) q e))
      (λ lt. or_right (here n w) (is_word_among base vars is_meant n w) (word_among n v w lt e))
      (same_or_below v n h)

  known_by : (o : Option (Option VarPlan)) (found : VarPlan) → joined o ≡ Some found → o ≡ Some (Some found)
  known_by None found e = absurd (none_given e)
  known_by (Some x) found e = ap (λ y. Some y) e

  -- a variable of a plan is below the plan's length
  known_within : (v : ℕ) (found : VarPlan) → var_in vars v ≡ Some found → v < length vars
  known_within v found e = slice_get_within vars v (Some found) (known_by (slice_get vars v) found e)

  pub is_there : (w : ℕ) → IsWord base vars is_meant w → is_word_among base vars is_meant (length vars) w ≡ true
  is_there w h =
      word_among (length vars) h.variable w (known_within h.variable h.found h.near.known)
      (both_true (is_meant h.variable) (is_word_of base (var_in vars h.variable) w) h.meant
      (ap (λ o. is_word_of base o w) h.near.known ∙ ap (λ p. is_word_at base p h.found.words w) h.near.place ∙ among (base + h.first) h.found.words w h.place h.is h.within))

  word_at_found : (v w : ℕ) (found : VarPlan) (place : VarAt) → is_meant v ≡ true → var_in vars v ≡ Some found → found.place ≡ place → is_word_at base place found.words w ≡ true → IsWord base vars is_meant w
  word_at_found v w found (Near n) m e p h =
      let a = among_found (base + n) found.words w h in
      record { variable = v; first = n; place = a.0; found = found; near = record { known = e; place = p }; meant = m; within = a.1; is = a.2 }
  word_at_found v w found (Far n) m e p h = absurd cc
  word_at_found v w found (Through n) m e p h = absurd cc

  word_of_found : (v w : ℕ) (o : Option VarPlan) → is_meant v ≡ true → var_in vars v ≡ o → is_word_of base o w ≡ true → IsWord base vars is_meant w
  word_of_found v w None m e h = absurd cc
  word_of_found v w (Some found) m e h = word_at_found v w found found.place m e refl h

  pub word_found : (n w : ℕ) → is_word_among base vars is_meant n w ≡ true → IsWord base vars is_meant w
  word_found zero w h = absurd cc
  word_found (suc n) w h =
      ⊎_elim
      (λ e. let b = true_both (is_meant n) (is_word_of base (var_in vars n) w) e in word_of_found n w (var_in vars n) b.0 refl b.1)
      (λ e. word_found n w e)
      (or_cases (here n w) (is_word_among base vars is_meant n w) h)

-- Ports and timers.

pub order : (p q : ℕ) → p ≢ q → (p < q) ⊎ (q < p)
order p q h = grind arith

counted : (core at : ℕ) → at ≡ core → on_core core at 1 ≡ 1
counted core at e = ap (λ c. if_so c 1) (let z : nat_eq at core ≡ true = grind arith in z)

-- two of a kind that have one number on a core are the same
pub numbers_differ : {X : Type 0} (core_of : X → ℕ) (xs : List X) (core p q : ℕ) (x y : X) → slice_get xs p ≡ Some x →
    slice_get xs q ≡ Some y → core_of x ≡ core → core_of y ≡ core →
    number_on core_of core xs p ≡ number_on core_of core xs q → p ≡ q
numbers_differ {X = X} core_of xs core p q x y at_p at_q here here' same =
    let each : X → ℕ = λ k. on_core core (core_of k) 1 in
    ⊎_elim (λ e. e)
    (λ d. ⊎_elim
    (λ lt. let h = before_later each xs p q x lt at_p in let c = counted core (core_of x) here in let z : ⊥ = omega
    (arith, h, c, same) in absurd z)
    (λ lt. let h = before_later each xs q p y lt at_q in let c = counted core (core_of y) here' in let z : ⊥ = omega
    (arith, h, c, same) in absurd z)
    (order p q d))
    (same_or_not p q)
