-- A thread's step counts for its own life, and leaves all others: no thread is got.
use Rattle.std.proofs.Common.{◌≡◌, ℕ, ◌≢◌, ◌⊎◌, inl, inr, ⊎_elim, Bool, true, false, Some, refl, sym, ap, ◌∙◌, eq-eqb}
use Rattle.std.specs.Prelude.{slice_get, nat_eq, not, ◌&&◌}
use Rattle.std.proofs.lemmas.Bool.{ne_eqb}
use Rattle.xs_instr.specs.declared.state.CoreState.{CoreState}
use Rattle.xs_instr.specs.declared.state.Thread.{Thread}
use Rattle.xs_instr.specs.Machine.{Machine, and_then}
use Rattle.xs_instr.specs.Pool.{is_unused}
use Rattle.xr_match.specs.Lives.{Life, Watched, child_of, in_use, is_got, life_after, life_by, stepped, thread_of, tie_of}

-- what is as it was is not got
not_got : (u : Bool) → (not u && u) ≡ false
not_got true = refl
not_got false = refl

-- a thread of a core
thread_at : (m : Machine) (c t : ℕ) (a : CoreState) → slice_get m.cores c ≡ Some a → thread_of m c t ≡ slice_get a.threads t
thread_at m c t a at_c = ap (λ o. and_then o (λ (i : CoreState). slice_get i.threads t)) at_c

module _ (w : Watched) (m' : Machine) (c t : ℕ) where
  -- the thread's own life
  pub own_life : life_after w m' c t c t ≡ stepped w.machine m' c (w.lives c t)
  own_life =
      let own = stepped w.machine m' c (w.lives c t) in
      let new = child_of (w.lives c t) (tie_of (thread_of m' c t)) in
      let got = nat_eq c c && is_got w.machine m' c t in
      ap (λ b. life_by (b && nat_eq t t) got own new (w.lives c t)) (eq-eqb c c refl)
      ∙ ap (λ b. life_by b got own new (w.lives c t)) (eq-eqb t t refl)

  -- that of a thread of another core
  pub far_life : (c' t' : ℕ) → c' ≢ c → life_after w m' c t c' t' ≡ w.lives c' t'
  far_life c' t' ne =
      let own = stepped w.machine m' c (w.lives c t) in
      let new = child_of (w.lives c t) (tie_of (thread_of m' c t')) in
      ap (λ b. life_by (b && nat_eq t' t) (b && is_got w.machine m' c t') own new (w.lives c' t')) (ne_eqb c' c ne)

  -- that of another thread of the core, which the step left as it was
  pub other_life : (t' : ℕ) (a b : CoreState) → t' ≢ t → slice_get w.machine.cores c ≡ Some a → slice_get m'.cores c ≡ Some b → slice_get b.threads t' ≡ slice_get a.threads t' → life_after w m' c t c t' ≡ w.lives c t'
  other_life t' a b ne at_a at_b same =
      let own = stepped w.machine m' c (w.lives c t) in
      let new = child_of (w.lives c t) (tie_of (thread_of m' c t')) in
      let as_before : thread_of m' c t' ≡ thread_of w.machine c t' = thread_at m' c t' b at_b ∙ same ∙ sym (thread_at w.machine c t' a at_a) in
      let got : is_got w.machine m' c t' ≡ false = ap (λ o. not (in_use (thread_of w.machine c t')) && in_use o) as_before ∙ not_got (in_use (thread_of w.machine c t')) in
      ap (λ e. life_by (e && nat_eq t' t) (e && is_got w.machine m' c t') own new (w.lives c t')) (eq-eqb c c refl)
      ∙ ap (λ e. life_by e (is_got w.machine m' c t') own new (w.lives c t')) (ne_eqb t' t ne)
      ∙ ap (λ e. life_by false e own new (w.lives c t')) got

  -- That of another thread of the core is as it was, or it has just begun.
  pub new_or_old : (t' : ℕ) → t' ≢ t → ((life_after w m' c t c t').steps ≡ 0) ⊎ ((is_got w.machine m' c t' ≡ false) × (life_after w m' c t c t' ≡ w.lives c t'))
  new_or_old t' ne = by (is_got w.machine m' c t') refl
    where
      not_own : life_after w m' c t c t' ≡ life_by false (is_got w.machine m' c t') (stepped w.machine m' c (w.lives c t)) (child_of (w.lives c t) (tie_of (thread_of m' c t'))) (w.lives c t')
      not_own =
          ap (λ e. life_by (e && nat_eq t' t) (e && is_got w.machine m' c t') (stepped w.machine m' c (w.lives c t)) (child_of (w.lives c t) (tie_of (thread_of m' c t'))) (w.lives c t')) (eq-eqb c c refl)
          ∙ ap (λ e. life_by e (is_got w.machine m' c t') (stepped w.machine m' c (w.lives c t)) (child_of (w.lives c t) (tie_of (thread_of m' c t'))) (w.lives c t')) (ne_eqb t' t ne)

      by : (got : Bool) → is_got w.machine m' c t' ≡ got → ((life_after w m' c t c t').steps ≡ 0) ⊎ ((is_got w.machine m' c t' ≡ false) × (life_after w m' c t c t' ≡ w.lives c t'))
      by true e = inl (ap (λ (l : Life). l.steps) (not_own ∙ ap (λ b. life_by false b (stepped w.machine m' c (w.lives c t)) (child_of (w.lives c t) (tie_of (thread_of m' c t'))) (w.lives c t')) e))
      by false e = inr (e, not_own ∙ ap (λ b. life_by false b (stepped w.machine m' c (w.lives c t)) (child_of (w.lives c t) (tie_of (thread_of m' c t'))) (w.lives c t')) e)

  -- one that was unused and is used has just begun
  pub got_new : (t' : ℕ) (a b : CoreState) (x x' : Thread) → t' ≢ t → slice_get w.machine.cores c ≡ Some a → slice_get m'.cores c ≡ Some b → slice_get a.threads t' ≡ Some x → slice_get b.threads t' ≡ Some x' → is_unused x.mode ≡ true → is_unused x'.mode ≡ false → (life_after w m' c t c t').steps ≡ 0
  got_new t' a b x x' ne at_a at_b was is free used =
      ⊎_elim
      (λ (none : (life_after w m' c t c t').steps ≡ 0). none)
      (λ old.
      let before : in_use (thread_of w.machine c t') ≡ false = ap in_use (thread_at w.machine c t' a at_a ∙ was) ∙ ap not free in
      let after : in_use (thread_of m' c t') ≡ true = ap in_use (thread_at m' c t' b at_b ∙ is) ∙ ap not used in
      let got : is_got w.machine m' c t' ≡ true = ap (λ u. not u && in_use (thread_of m' c t')) before ∙ after in
      let both : true ≡ false = sym got ∙ old.0 in
      cc)
      (new_or_old t' ne)
