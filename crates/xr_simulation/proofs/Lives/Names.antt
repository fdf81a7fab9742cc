-- What a thread's step makes of the lives of its core's threads, by which threads and synchronisers are in use before and behind it.
use Rattle.std.proofs.Common.{◌≡◌, ℕ, zero, suc, ◌+◌, ◌<◌, ◌≢◌, Bool, true, false, Some, refl, ap, ◌∙◌, subst, ⊎_elim, arith, eq-eqb}
use Rattle.std.specs.Prelude.{slice_get, nat_eq, not, ◌&&◌, ◌||◌}
use Rattle.std.proofs.lemmas.Bool.{and_from, and_left, and_right, cases_eq, ne_eqb, or_left, or_right}
use Rattle.xs_instr.specs.declared.state.CoreState.{CoreState}
use Rattle.xs_instr.specs.Machine.{Machine, and_then}
use Rattle.xr_match.specs.Lives.{Life, Tying, Watched, child_of, in_use, is_got, is_so, is_taken, is_tied, life_after, life_by, one_more, one_where, some_synchroniser_got, some_tied, stepped, synchroniser_got, thread_of, tie_of, tying_after}

-- a thread, and a synchroniser, is in use behind a step and wasn't before it
abbrev pub thread_got : CoreState → CoreState → (thread : ℕ) → Bool
thread_got a b u = not (in_use (slice_get a.threads u)) && in_use (slice_get b.threads u)

abbrev pub sync_got : CoreState → CoreState → (synchroniser : ℕ) → Bool
sync_got a b n = not (is_so (slice_get a.syncs n)) && is_so (slice_get b.syncs n)

-- what was in use, or is not, is not got
pub not_got_before : (p q : Bool) → p ≡ true → (not p && q) ≡ false
not_got_before p q e = ap (λ b. not b && q) e

pub not_got_behind : (p q : Bool) → q ≡ false → (not p && q) ≡ false
not_got_behind p q e = and_right (not p) q e

-- what is as it was is not got
pub not_got_same : (p q : Bool) → q ≡ p → (not p && q) ≡ false
not_got_same true q e = refl
not_got_same false q e = e

pub got_now : (p q : Bool) → p ≡ false → q ≡ true → (not p && q) ≡ true
got_now p q e f = ap (λ b. not b && q) e ∙ f

module _ (w : Watched) (m' : Machine) (c t : ℕ) (a b : CoreState) (at_a : slice_get w.machine.cores c ≡ Some a) (at_b : slice_get m'.cores c ≡ Some b) where
  -- a thread of a core
  thread_before : (u : ℕ) → thread_of w.machine c u ≡ slice_get a.threads u
  thread_before u = ap (λ o. and_then o (λ (i : CoreState). slice_get i.threads u)) at_a

  thread_behind : (u : ℕ) → thread_of m' c u ≡ slice_get b.threads u
  thread_behind u = ap (λ o. and_then o (λ (i : CoreState). slice_get i.threads u)) at_b

  got_is : (u : ℕ) → is_got w.machine m' c u ≡ thread_got a b u
  got_is u = ap (λ o. not (in_use o) && in_use (thread_of m' c u)) (thread_before u) ∙ ap (λ o. not (in_use (slice_get a.threads u)) && in_use o) (thread_behind u)

  -- and a synchroniser
  taken_before : (n : ℕ) → is_taken w.machine c n ≡ is_so (slice_get a.syncs n)
  taken_before n = ap (λ o. is_so (and_then o (λ (i : CoreState). slice_get i.syncs n))) at_a

  taken_behind : (n : ℕ) → is_taken m' c n ≡ is_so (slice_get b.syncs n)
  taken_behind n = ap (λ o. is_so (and_then o (λ (i : CoreState). slice_get i.syncs n))) at_b

  sync_is : (n : ℕ) → synchroniser_got w.machine m' c n ≡ sync_got a b n
  sync_is n = ap (λ o. not o && is_taken m' c n) (taken_before n) ∙ ap (λ o. not (is_so (slice_get a.syncs n)) && o) (taken_behind n)

  -- none of the first synchronisers was got
  no_sync_got : (k : ℕ) → ((n : ℕ) → sync_got a b n ≡ false) → some_synchroniser_got w.machine m' c k ≡ false
  no_sync_got zero none = refl
  no_sync_got (suc k) none = ap (λ s. s || some_synchroniser_got w.machine m' c k) (sync_is k ∙ none k) ∙ no_sync_got k none

  -- one of them was
  one_sync_got : (k n : ℕ) → n < k → sync_got a b n ≡ true → some_synchroniser_got w.machine m' c k ≡ true
  one_sync_got zero n lt e = absurd (omega arith)
  one_sync_got (suc k) n lt e =
      ⊎_elim
      (λ (s : n ≡ k). or_left (synchroniser_got w.machine m' c k) (some_synchroniser_got w.machine m' c k) (sync_is k ∙ subst (λ i. sync_got a b i ≡ true) s e))
      (λ (ne : n ≢ k). or_right (synchroniser_got w.machine m' c k) (some_synchroniser_got w.machine m' c k) (one_sync_got k n (omega arith) e))
      (cases_eq n k)

  -- no thread was got and tied
  none_tied : (n k : ℕ) → ((u : ℕ) → thread_got a b u ≡ false) → some_tied w.machine m' c n k ≡ false
  none_tied n zero none = refl
  none_tied n (suc k) none =
      ap (λ s. s || some_tied w.machine m' c n k) (and_left (is_got w.machine m' c k) (is_tied (tie_of (thread_of m' c k)) n) (got_is k ∙ none k)) ∙ none_tied n k none

  -- one was
  one_tied : (n k u : ℕ) → u < k → thread_got a b u ≡ true → is_tied (tie_of (slice_get b.threads u)) n ≡ true → some_tied w.machine m' c n k ≡ true
  one_tied n zero u lt e h = absurd (omega arith)
  one_tied n (suc k) u lt e h =
      let here = is_got w.machine m' c k && is_tied (tie_of (thread_of m' c k)) n in
      ⊎_elim
      (λ (s : u ≡ k).
      or_left here (some_tied w.machine m' c n k)
      (and_from (is_got w.machine m' c k) (is_tied (tie_of (thread_of m' c k)) n)
      (got_is k ∙ subst (λ i. thread_got a b i ≡ true) s e)
      (ap (λ o. is_tied (tie_of o) n) (thread_behind k) ∙ subst (λ i. is_tied (tie_of (slice_get b.threads i)) n ≡ true) s h)))
      (λ (ne : u ≢ k). or_right here (some_tied w.machine m' c n k) (one_tied n k u (omega arith) e h))
      (cases_eq u k)

  -- the thread's own life
  pub own_is : life_after w m' c t c t ≡ stepped w.machine m' c (w.lives c t)
  own_is =
      let own = stepped w.machine m' c (w.lives c t) in
      let new = child_of (w.lives c t) (tie_of (thread_of m' c t)) in
      let got = nat_eq c c && is_got w.machine m' c t in
      ap (λ s. life_by (s && nat_eq t t) got own new (w.lives c t)) (eq-eqb c c refl)
      ∙ ap (λ s. life_by s got own new (w.lives c t)) (eq-eqb t t refl)

  pub own_family : (life_after w m' c t c t).family ≡ (w.lives c t).family
  own_family = ap (λ (l : Life). l.family) own_is

  pub own_steps : (life_after w m' c t c t).steps ≡ (w.lives c t).steps + 1
  own_steps = ap (λ (l : Life). l.steps) own_is

  pub own_pars_same : ((n : ℕ) → sync_got a b n ≡ false) → (life_after w m' c t c t).pars ≡ (w.lives c t).pars
  own_pars_same none =
      let e = ap (λ (l : Life). l.pars) own_is ∙ ap (λ s. (w.lives c t).pars + one_where s) (no_sync_got 7 none) in omega (arith, e)

  pub own_pars_more : (n : ℕ) → n < 7 → sync_got a b n ≡ true → (life_after w m' c t c t).pars ≡ (w.lives c t).pars + 1
  own_pars_more n lt e = ap (λ (l : Life). l.pars) own_is ∙ ap (λ s. (w.lives c t).pars + one_where s) (one_sync_got 7 n lt e)

  -- what it has a synchroniser for
  own_tying : (n : ℕ) → (life_after w m' c t c t).tyings n ≡ tying_after (sync_got a b n) (some_tied w.machine m' c n 8) (w.lives c t).pars ((w.lives c t).tyings n)
  own_tying n = ap (λ (l : Life). l.tyings n) own_is ∙ ap (λ s. tying_after s (some_tied w.machine m' c n 8) (w.lives c t).pars ((w.lives c t).tyings n)) (sync_is n)

  pub own_tying_same : (n : ℕ) → sync_got a b n ≡ false → ((u : ℕ) → thread_got a b u ≡ false) → (life_after w m' c t c t).tyings n ≡ (w.lives c t).tyings n
  own_tying_same n e none =
      own_tying n ∙ ap (λ s. tying_after s (some_tied w.machine m' c n 8) (w.lives c t).pars ((w.lives c t).tyings n)) e
      ∙ ap (λ s. tying_after false s (w.lives c t).pars ((w.lives c t).tyings n)) (none_tied n 8 none)

  pub own_tying_new : (n : ℕ) → sync_got a b n ≡ true → (life_after w m' c t c t).tyings n ≡ Some (record { par = (w.lives c t).pars; tied = 0 })
  own_tying_new n e = own_tying n ∙ ap (λ s. tying_after s (some_tied w.machine m' c n 8) (w.lives c t).pars ((w.lives c t).tyings n)) e

  pub own_tying_more : (n u : ℕ) (tying : Tying) → sync_got a b n ≡ false → u < 8 → thread_got a b u ≡ true → is_tied (tie_of (slice_get b.threads u)) n ≡ true →
      (w.lives c t).tyings n ≡ Some tying → (life_after w m' c t c t).tyings n ≡ Some (one_more tying)
  own_tying_more n u tying e lt got tied old =
      own_tying n ∙ ap (λ s. tying_after s (some_tied w.machine m' c n 8) (w.lives c t).pars ((w.lives c t).tyings n)) e
      ∙ ap (λ s. tying_after false s (w.lives c t).pars ((w.lives c t).tyings n)) (one_tied n 8 u lt got tied)
      ∙ ap (tying_after false true (w.lives c t).pars) old

  -- that of a thread that isn't got
  pub other_is : (c' t' : ℕ) → ((c' ≡ c) × (t' ≡ t) → ⊥) → (c' ≡ c → thread_got a b t' ≡ false) → life_after w m' c t c' t' ≡ w.lives c' t'
  other_is c' t' ne none =
      let own = stepped w.machine m' c (w.lives c t) in
      let new = child_of (w.lives c t) (tie_of (thread_of m' c t')) in
      ⊎_elim
      (λ (e : c' ≡ c).
      let apart : t' ≢ t = λ f. ne (e, f) in
      ap (λ s. life_by (s && nat_eq t' t) (s && is_got w.machine m' c t') own new (w.lives c' t')) (eq-eqb c' c e)
      ∙ ap (λ s. life_by s (is_got w.machine m' c t') own new (w.lives c' t')) (ne_eqb t' t apart)
      ∙ ap (λ s. life_by false s own new (w.lives c' t')) (got_is t' ∙ none e))
      (λ (far : c' ≢ c). ap (λ s. life_by (s && nat_eq t' t) (s && is_got w.machine m' c t') own new (w.lives c' t')) (ne_eqb c' c far))
      (cases_eq c' c)

  -- that of one that is got
  pub new_is : (u : ℕ) → u ≢ t → thread_got a b u ≡ true → life_after w m' c t c u ≡ child_of (w.lives c t) (tie_of (slice_get b.threads u))
  new_is u ne got =
      let own = stepped w.machine m' c (w.lives c t) in
      let new = child_of (w.lives c t) (tie_of (thread_of m' c u)) in
      ap (λ s. life_by (s && nat_eq u t) (s && is_got w.machine m' c u) own new (w.lives c u)) (eq-eqb c c refl)
      ∙ ap (λ s. life_by s (is_got w.machine m' c u) own new (w.lives c u)) (ne_eqb u t ne)
      ∙ ap (λ s. life_by false s own new (w.lives c u)) (got_is u ∙ got)
      ∙ ap (λ o. child_of (w.lives c t) (tie_of o)) (thread_behind u)
