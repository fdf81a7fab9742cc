-- A thread gets a synchroniser, and a thread: the life of that one is named by the `par` that it is got for.
use Rattle.std.proofs.Common.{◌≡◌, ℕ, zero, suc, ◌+◌, ◌<◌, ◌≤◌, ◌≢◌, true, false, [], ◌∷◌, length, Some, None, refl, sym, ap, ◌∙◌, subst, ⊎_elim, arith, eq-eqb}
use Rattle.std.specs.Prelude.{slice_get}
use Rattle.std.proofs.lemmas.Bool.{cases_eq}
use Rattle.std.proofs.lemmas.Option.{same_Some}
use Rattle.xs_instr.specs.declared.state.CoreState.{CoreState}
use Rattle.xs_instr.specs.Machine.{Machine}
use Rattle.xl_par.specs.Acquired.{Acquired, with_sync, with_thread_got}
use Rattle.xr_match.specs.Lives.{Family, Life, Watched, child_family, child_of, is_tied, life_after, of_child, tie_of, tying_of}
use Rattle.xr_match.specs.Meanings.{of_kernel}
use Rattle.xr_match.specs.Sources.{Counted}
use Rattle.xr_simulation.specs.Living.{AreKidsOf, AreNamed, IsNamed, opened, opens_by, pars_of, some_more}
use Rattle.xr_simulation.specs.Roles.{AreRoles, Roles, got_by, unused, used_by}
use Rattle.xr_simulation.specs.Runners.{Setting, Runner}
use Rattle.xr_simulation.proofs.Lives.Quiet.{IsNamedRole, Lengthens, all_named, kids_still, other_named}
use Rattle.xr_simulation.proofs.Lives.OwnEvents.{got_not_used}
use Rattle.xr_simulation.proofs.Lives.Names.{new_is, other_is, own_family, own_pars_more, own_pars_same, own_tying_more, own_tying_new, sync_got, thread_got}

-- something is still lacking
pub lacks_some : (k l : ℕ) → 1 ≤ l → some_more k l ≡ true
lacks_some zero zero le = absurd (omega arith)
lacks_some zero (suc l) le = refl
lacks_some (suc k) l le = refl

-- or something is there
pub has_some : (k l : ℕ) → 1 ≤ k → some_more k l ≡ true
has_some zero l le = absurd (omega arith)
has_some (suc k) l le = refl

-- a hand with no synchroniser opens none
pub opened_none : (h : Acquired) → h.sync ≡ None → opened (Some h) ≡ 0
opened_none h e = ap (λ s. opens_by s (some_more (length h.threads) h.lacks)) e

-- one with a synchroniser, and with threads that it has or lacks, opens one
pub opened_one : (h : Acquired) (n : ℕ) → h.sync ≡ Some n → some_more (length h.threads) h.lacks ≡ true → opened (Some h) ≡ 1
opened_one h n e more = ap (λ s. opens_by s (some_more (length h.threads) h.lacks)) e ∙ ap (opens_by (Some n)) more

-- what is so of the threads that were got, and of the synchroniser
abbrev pub IsTyingOf : (lives : ℕ → Life) (life : Life) (name : Family) (par : ℕ) (h : Acquired) (n : ℕ) → Type 0
IsTyingOf lives life name par h n = (life.tyings n ≡ Some (record { par = par; tied = length h.threads })) × AreKidsOf lives name par h.threads

pub tying_at : (lives : ℕ → Life) (life : Life) (name : Family) (par : ℕ) (h : Acquired) (n : ℕ) → h.sync ≡ Some n → IsTyingOf lives life name par h n →
    (held : Acquired) (m : ℕ) → Some h ≡ Some held → held.sync ≡ Some m → IsTyingOf lives life name par held m
tying_at lives life name par h n is so held m e sync =
    let same = same_Some h held e in
    let number : n ≡ m = same_Some n m (sym is ∙ ap (λ (i : Acquired). i.sync) same ∙ sync) in
    subst (IsTyingOf lives life name par held) number (subst (λ i. IsTyingOf lives life name par i n) same so)

-- one of two places, or neither
pub by_place : (c t c' t' : ℕ) (P : ℕ → ℕ → Type 0) → P c t → (((c' ≡ c) × (t' ≡ t) → ⊥) → P c' t') → P c' t'
by_place c t c' t' P here there =
    ⊎_elim
    (λ (e : c' ≡ c).
    ⊎_elim
    (λ (f : t' ≡ t). subst (λ k. P k t') (sym e) (subst (P c) (sym f) here))
    (λ (ne : t' ≢ t). there (λ h. ne h.1))
    (cases_eq t' t))
    (λ (ne : c' ≢ c). there (λ h. ne h.0))
    (cases_eq c' c)

module _ (g : Setting) (who who' : Roles) (w : Watched) (m' : Machine) (x x' : Counted (of_kernel g.program)) (roles : AreRoles g who) (named : AreNamed g who w x) (longer : Lengthens g x x') (pars : (f : ℕ) → pars_of f x'.state.branches ≡ pars_of f x.state.branches) (c t : ℕ) (a b : CoreState) (at_a : slice_get w.machine.cores c ≡ Some a) (at_b : slice_get m'.cores c ≡ Some b) (r : Runner) (h : Acquired) (runs : who c t ≡ used_by r (Some h)) (n : ℕ) where
  -- the lives behind the step
  abbrev w' : Watched
  w' = record { machine = m'; lives = life_after w m' c t }

  abbrev old : IsNamed g (w.lives c) (w.lives c t) x r (Some h)
  old = named.named c t r (Some h) runs

  module _ (no_threads : (u : ℕ) → thread_got a b u ≡ false) (few : n < 7) (syncs : sync_got a b n ≡ true) (none : h.sync ≡ None) (empty : h.threads ≡ []) (lacks : 1 ≤ h.lacks) where
    elsewhere : (c' t' : ℕ) → ((c' ≡ c) × (t' ≡ t) → ⊥) → life_after w m' c t c' t' ≡ w.lives c' t'
    elsewhere c' t' ne = other_is w m' c t a b at_a at_b c' t' ne (λ e. no_threads t')

    with_sync_named : IsNamed g (w'.lives c) (w'.lives c t) x' r (Some (with_sync h n))
    with_sync_named =
        let same = pars r.family in
        let p = old.pars in
        let q = own_pars_more w m' c t a b at_a at_b n few syncs in
        let zero_before = opened_none h none in
        let one_behind = opened_one (with_sync h n) n refl (lacks_some (length h.threads) h.lacks lacks) in
        let counted : (w.lives c t).pars ≡ pars_of r.family x'.state.branches = omega (arith, p, zero_before, same) in
        let none_tied : 0 ≡ length h.threads = sym (ap length empty) in
        record {
          name = old.name;
          of_life = own_family w m' c t a b at_a at_b ∙ old.of_life;
          number = longer.names old.name r.family old.number;
          pars = omega (arith, p, q, zero_before, one_behind, same);
          ties = λ held m e sync opens.
              tying_at (w'.lives c) (w'.lives c t) old.name (pars_of r.family x'.state.branches) (with_sync h n) n refl (
                own_tying_new w m' c t a b at_a at_b n syncs
                    ∙ ap (λ k. Some (record { par = k; tied = 0 })) counted
                    ∙ ap (λ k. Some (record { par = pars_of r.family x'.state.branches; tied = k })) none_tied,
                subst (AreKidsOf (w'.lives c) old.name (pars_of r.family x'.state.branches)) (sym empty) tt,
              )
              held m e sync;
        }

    -- A synchroniser is got.
    pub sync_named : who' c t ≡ used_by r (Some (with_sync h n)) → ((c' t' : ℕ) → ((c' ≡ c) × (t' ≡ t) → ⊥) → who' c' t' ≡ who c' t') → AreNamed g who' w' x'
    sync_named own others =
        all_named g who' w' x'
        (λ c' t'.
        by_place c t c' t' (λ k l. IsNamedRole g (w'.lives k) (w'.lives k l) x' (who' k l))
        (subst (IsNamedRole g (w'.lives c) (w'.lives c t) x') (sym own) with_sync_named)
        (λ ne.
        other_named g who who' w w' x x' roles named longer c' t' (elsewhere c' t' ne) (λ u v e. elsewhere c' u (got_not_used who c t c' u v r (Some h) runs e)) (λ s other e. pars s.family) (who' c' t')
        (sym (others c' t' ne))))
        (longer.births named.births)

  module _ (no_syncs : (k : ℕ) → sync_got a b k ≡ false) (u : ℕ) (few : u < 8) (apart : u ≢ t) (idle : who c u ≡ unused) (got : thread_got a b u ≡ true) (tied : tie_of (slice_get b.threads u) ≡ Some n) (no_others : (v : ℕ) → v ≢ u → thread_got a b v ≡ false) (is : h.sync ≡ Some n) (lacks : 1 ≤ h.lacks) where
    -- the other lives are as they were
    beside : (c' t' : ℕ) → ((c' ≡ c) × (t' ≡ t) → ⊥) → ((c' ≡ c) × (t' ≡ u) → ⊥) → life_after w m' c t c' t' ≡ w.lives c' t'
    beside c' t' ne neu = other_is w m' c t a b at_a at_b c' t' ne (λ e. no_others t' (λ f. neu (e, f)))

    -- so are those of threads that were got before
    kids_beside : (c' k v : ℕ) → who c' k ≡ got_by v → life_after w m' c t c' k ≡ w.lives c' k
    kids_beside c' k v e =
        beside c' k (got_not_used who c t c' k v r (Some h) runs e)
        (λ same. let both : got_by v ≡ unused = sym e ∙ ap (λ i. who i k) same.0 ∙ ap (who c) same.1 ∙ idle in cc)

    before_one : opened (Some h) ≡ 1
    before_one = opened_one h n is (lacks_some (length h.threads) h.lacks lacks)

    -- what the synchroniser stood for
    old_tying : IsTyingOf (w.lives c) (w.lives c t) old.name (pars_of r.family x.state.branches) h n
    old_tying = old.ties h n refl is before_one

    -- the life of the thread that was got
    new_life : life_after w m' c t c u ≡ child_of (w.lives c t) (tie_of (slice_get b.threads u))
    new_life = new_is w m' c t a b at_a at_b u apart got

    new_family : (life_after w m' c t c u).family ≡ Some (of_child old.name (pars_of r.family x'.state.branches) (length h.threads + 1))
    new_family =
        ap (λ (l : Life). l.family) new_life
        ∙ ap (λ o. child_family (w.lives c t).family (tying_of (w.lives c t) o)) tied
        ∙ ap (child_family (w.lives c t).family) old_tying.0
        ∙ ap (λ f. child_family f (Some (record { par = pars_of r.family x.state.branches; tied = length h.threads }))) old.of_life
        ∙ ap (λ k. Some (of_child old.name k (length h.threads + 1))) (sym (pars r.family))

    with_thread_named : IsNamed g (w'.lives c) (w'.lives c t) x' r (Some (with_thread_got h u))
    with_thread_named =
        let same = pars r.family in
        let p = old.pars in
        let q = own_pars_same w m' c t a b at_a at_b no_syncs in
        let one_before = before_one in
        let one_behind = opened_one (with_thread_got h u) n is (has_some (length (u ∷ h.threads)) (with_thread_got h u).lacks (omega arith)) in
        let one_longer : length h.threads + 1 ≡ length (u ∷ h.threads) = omega arith in
        record {
          name = old.name;
          of_life = own_family w m' c t a b at_a at_b ∙ old.of_life;
          number = longer.names old.name r.family old.number;
          pars = omega (arith, p, q, one_before, one_behind, same);
          ties = λ held m e sync opens.
              tying_at (w'.lives c) (w'.lives c t) old.name (pars_of r.family x'.state.branches) (with_thread_got h u) n is (
                own_tying_more w m' c t a b at_a at_b n u (record { par = pars_of r.family x.state.branches; tied = length h.threads }) (no_syncs n) few got (ap (λ o. is_tied o n) tied ∙ eq-eqb n n refl) old_tying.0
                    ∙ ap (λ k. Some (record { par = k; tied = length h.threads + 1 })) (sym same)
                    ∙ ap (λ k. Some (record { par = pars_of r.family x'.state.branches; tied = k })) one_longer,
                (
                  new_family,
                  kids_still (w.lives c) (w'.lives c) old.name (pars_of r.family x'.state.branches) h.threads
                      (λ k l. ap (λ (i : Life). i.family) (kids_beside c k t (roles.held c t k r (Some h) runs l)))
                      (subst (λ k. AreKidsOf (w.lives c) old.name k h.threads) (sym same) old_tying.1),
                ),
              )
              held m e sync;
        }

    -- A thread is got.
    pub thread_named : who' c t ≡ used_by r (Some (with_thread_got h u)) → who' c u ≡ got_by t → ((c' t' : ℕ) → ((c' ≡ c) × (t' ≡ t) → ⊥) → ((c' ≡ c) × (t' ≡ u) → ⊥) → who' c' t' ≡ who c' t') → AreNamed g who' w' x'
    thread_named own its others =
        all_named g who' w' x'
        (λ c' t'.
        by_place c t c' t' (λ k l. IsNamedRole g (w'.lives k) (w'.lives k l) x' (who' k l))
        (subst (IsNamedRole g (w'.lives c) (w'.lives c t) x') (sym own) with_thread_named)
        (λ ne.
        by_place c u c' t' (λ k l. IsNamedRole g (w'.lives k) (w'.lives k l) x' (who' k l))
        (subst (IsNamedRole g (w'.lives c) (w'.lives c u) x') (sym its) (ap (λ (l : Life). l.steps) new_life, ap (λ (l : Life). l.pars) new_life))
        (λ neu.
        other_named g who who' w w' x x' roles named longer c' t' (beside c' t' ne neu) (λ k v e. kids_beside c' k v e) (λ s other e. pars s.family) (who' c' t')
        (sym (others c' t' ne neu)))))
        (longer.births named.births)
