-- The names of lives stay where the program alone acts, and where a thread steps that gets nothing: its own life goes on or ends, and others end with it.
use Rattle.std.proofs.Common.{◌≡◌, ℕ, ◌+◌, ◌*◌, ◌≤◌, ◌≢◌, ◌⊎◌, inl, Option, Some, refl, sym, ap, ◌∙◌, subst, ⊎_elim, arith}
use Rattle.std.specs.Prelude.{slice_get}
use Rattle.std.proofs.Math.Nat.{mul-le-mul_left}
use Rattle.std.proofs.lemmas.Bool.{cases_eq}
use Rattle.xs_instr.specs.declared.state.CoreState.{CoreState}
use Rattle.xs_instr.specs.Machine.{Machine}
use Rattle.xc_meaning.specs.Counts.KernelCounts.{kernel_bound}
use Rattle.xl_par.specs.Acquired.{Acquired}
use Rattle.xr_match.specs.Lives.{Life, Watched, life_after}
use Rattle.xr_match.specs.Meanings.{of_kernel}
use Rattle.xr_match.specs.Sources.{Counted, actions_of}
use Rattle.xr_simulation.specs.Living.{AreNamed, IsNamed, pars_of}
use Rattle.xr_simulation.specs.Roles.{AreRoles, Role, Roles, got_by, unused, used_by}
use Rattle.xr_simulation.specs.Runners.{Setting, Runner}
use Rattle.xr_simulation.proofs.Lives.Quiet.{GetsNothing, HandStays, IsLike, IsNamedRole, Lengthens, actions_at, all_named, like_same, named_still, other_named}
use Rattle.xr_simulation.proofs.Lives.Names.{other_is, own_family, own_pars_same, own_steps, own_tying_same}

-- a life that is over: its family's bound stands
pub over_from : (g : Setting) (x x' : Counted (of_kernel g.program)) (longer : Lengthens g x x') (lives : ℕ → Life) (life life' : Life) (r : Runner) (hand : Option Acquired) → IsNamed g lives life x r hand → life'.family ≡ life.family →
    life'.steps ≤ kernel_bound g.program * (x'.actions r.family + 1) → IsNamedRole g lives life' x' unused
over_from g x x' longer lives life life' r hand h same bound =
    let e : actions_of (of_kernel g.program) x' life'.family ≡ x'.actions r.family =
    ap (actions_of (of_kernel g.program) x') (same ∙ h.of_life) ∙ actions_at g x x' longer x' h.name r.family (longer.names h.name r.family h.number) in
    subst (λ n. life'.steps ≤ kernel_bound g.program * (n + 1)) (sym e) bound

-- a thread's role where nothing of it changes but what its branch has still to do
abbrev pub IsSameRole : Role → Role → Type 0
IsSameRole unused unused = Unit {0}
IsSameRole (got_by t) (got_by u) = Unit {0}
IsSameRole (used_by r hand) (used_by r' hand') = (r'.family ≡ r.family) × HandStays hand hand'
IsSameRole role other = ⊥

pub role_same : (role : Role) → IsSameRole role role
role_same unused = tt
role_same (got_by t) = tt
role_same (used_by r hand) = (refl, inl refl)

-- a thread that was got runs nothing yet
pub got_not_used : (who : Roles) (c t c' u v : ℕ) (r : Runner) (hand : Option Acquired) → who c t ≡ used_by r hand → who c' u ≡ got_by v → (c' ≡ c) × (u ≡ t) → ⊥
got_not_used who c t c' u v r hand runs got same =
    let both : got_by v ≡ used_by r hand = sym got ∙ ap (λ k. who k u) same.0 ∙ ap (who c) same.1 ∙ runs in cc

-- Where the lives are the same, as in a piece of the program's run alone, a tick or a move.
module _ (g : Setting) (who who' : Roles) (w w' : Watched) (x x' : Counted (of_kernel g.program)) (roles : AreRoles g who) (named : AreNamed g who w x) (longer : Lengthens g x x') where
  role_settled : (lives : (c t : ℕ) → w'.lives c t ≡ w.lives c t) (pars : (f : ℕ) → pars_of f x'.state.branches ≡ pars_of f x.state.branches) (c t : ℕ) (role role' : Role) → who c t ≡ role → IsSameRole role role' →
      IsNamedRole g (w'.lives c) (w'.lives c t) x' role'
  role_settled lives pars c t unused unused e h = other_named g who who' w w' x x' roles named longer c t (lives c t) (λ u v m. lives c u) (λ r hand f. pars r.family) unused e
  role_settled lives pars c t unused (got_by u) e h = absurd h
  role_settled lives pars c t unused (used_by r hand) e h = absurd h
  role_settled lives pars c t (got_by u) unused e h = absurd h
  role_settled lives pars c t (got_by u) (got_by v) e h = other_named g who who' w w' x x' roles named longer c t (lives c t) (λ k v m. lives c k) (λ r hand f. pars r.family) (got_by u) e
  role_settled lives pars c t (got_by u) (used_by r hand) e h = absurd h
  role_settled lives pars c t (used_by r hand) unused e h = absurd h
  role_settled lives pars c t (used_by r hand) (got_by u) e h = absurd h
  role_settled lives pars c t (used_by r hand) (used_by r' hand') e h =
      named_still g x x' longer (w.lives c) (w'.lives c) (w.lives c t) (w'.lives c t) r r' hand hand' (named.named c t r hand e)
      (like_same (w.lives c t) (w'.lives c t) (lives c t)) (λ u m. ap (λ (l : Life). l.family) (lives c u)) (pars r.family) h.0 h.1

  pub settled_named : ((c t : ℕ) → w'.lives c t ≡ w.lives c t) → ((f : ℕ) → pars_of f x'.state.branches ≡ pars_of f x.state.branches) → ((c t : ℕ) → IsSameRole (who c t) (who' c t)) → AreNamed g who' w' x'
  settled_named lives pars same =
      all_named g who' w' x' (λ c t. role_settled lives pars c t (who c t) (who' c t) refl (same c t)) (longer.births named.births)

-- A thread that ran a branch is unused, and its life is over.
pub record EndsAt (g : Setting) (who who' : Roles) (w : Watched) (x : Counted (of_kernel g.program)) (c t : ℕ) : Type 0 where
  pub runner : Runner
  pub hand : Option Acquired
  pub was : who c t ≡ used_by runner hand
  pub is : who' c t ≡ unused
  pub bound : (w.lives c t).steps ≤ kernel_bound g.program * (x.actions runner.family + 1)

-- A thread goes on, for the same family.
pub record GoesOn (who' : Roles) (c t : ℕ) (r : Runner) (hand : Option Acquired) : Type 0 where
  pub runner : Runner
  pub left_in_hand : Option Acquired
  pub is : who' c t ≡ used_by runner left_in_hand
  pub family : runner.family ≡ r.family
  pub stays : HandStays hand left_in_hand

module _ (g : Setting) (who who' : Roles) (w : Watched) (m' : Machine) (x x' : Counted (of_kernel g.program)) (roles : AreRoles g who) (named : AreNamed g who w x) (longer : Lengthens g x x') (c t : ℕ) (a b : CoreState) (at_a : slice_get w.machine.cores c ≡ Some a) (at_b : slice_get m'.cores c ≡ Some b) (r : Runner) (hand : Option Acquired) (runs : who c t ≡ used_by r hand) (nothing : GetsNothing a b) (pars : (f : ℕ) → pars_of f x'.state.branches ≡ pars_of f x.state.branches) where
  -- the lives behind the step
  abbrev w' : Watched
  w' = record { machine = m'; lives = life_after w m' c t }

  -- another life is as it was
  elsewhere : (c' t' : ℕ) → ((c' ≡ c) × (t' ≡ t) → ⊥) → life_after w m' c t c' t' ≡ w.lives c' t'
  elsewhere c' t' ne = other_is w m' c t a b at_a at_b c' t' ne (λ e. nothing.threads t')

  -- that of a thread that was got is another
  kids_same : (c' u v : ℕ) → who c' u ≡ got_by v → life_after w m' c t c' u ≡ w.lives c' u
  kids_same c' u v e = elsewhere c' u (got_not_used who c t c' u v r hand runs e)

  own_like : IsLike (w.lives c t) (life_after w m' c t c t)
  own_like = record {
    family = own_family w m' c t a b at_a at_b;
    pars = own_pars_same w m' c t a b at_a at_b nothing.syncs;
    tyings = λ n. own_tying_same w m' c t a b at_a at_b n (nothing.syncs n) nothing.threads;
  }

  -- the thread's own role
  own_role : GoesOn who' c t r hand ⊎ ((who' c t ≡ unused) × ((w.lives c t).steps + 1 ≤ kernel_bound g.program * (x'.actions r.family + 1))) → IsNamedRole g (w'.lives c) (w'.lives c t) x' (who' c t)
  own_role fate =
      ⊎_elim
      (λ (h : GoesOn who' c t r hand).
      subst (IsNamedRole g (w'.lives c) (w'.lives c t) x') (sym h.is)
      (named_still g x x' longer (w.lives c) (w'.lives c) (w.lives c t) (w'.lives c t) r h.runner hand h.left_in_hand (named.named c t r hand runs) own_like
      (λ u m. ap (λ (l : Life). l.family) (kids_same c u t (roles.held c t u r hand runs m))) (pars r.family) h.family h.stays))
      (λ (h : (who' c t ≡ unused) × ((w.lives c t).steps + 1 ≤ kernel_bound g.program * (x'.actions r.family + 1))).
      subst (IsNamedRole g (w'.lives c) (w'.lives c t) x') (sym h.0)
      (over_from g x x' longer (w.lives c) (w.lives c t) (w'.lives c t) r hand (named.named c t r hand runs) own_like.family
      (let e = own_steps w m' c t a b at_a at_b in let k = h.1 in omega (arith, e, k))))
      fate

  -- that of another thread
  other_role : (c' t' : ℕ) → ((c' ≡ c) × (t' ≡ t) → ⊥) → (who' c' t' ≡ who c' t') ⊎ EndsAt g who who' w x c' t' → IsNamedRole g (w'.lives c') (w'.lives c' t') x' (who' c' t')
  other_role c' t' ne fate =
      ⊎_elim
      (λ (h : who' c' t' ≡ who c' t').
      other_named g who who' w w' x x' roles named longer c' t' (elsewhere c' t' ne) (λ u v e. kids_same c' u v e) (λ s other e. pars s.family) (who' c' t') (sym h))
      (λ (h : EndsAt g who who' w x c' t').
      subst (IsNamedRole g (w'.lives c') (w'.lives c' t') x') (sym h.is)
      (over_from g x x' longer (w.lives c') (w.lives c' t') (w'.lives c' t') h.runner h.hand (named.named c' t' h.runner h.hand h.was) (ap (λ (l : Life). l.family) (elsewhere c' t' ne))
      (let e = ap (λ (l : Life). l.steps) (elsewhere c' t' ne) in
      let k = h.bound in
      let less = longer.actions h.runner.family in
      let up : x.actions h.runner.family + 1 ≤ x'.actions h.runner.family + 1 = omega arith in
      let m = mul-le-mul_left (kernel_bound g.program) up in
      omega (arith, e, k, m))))
      fate

  -- A step that gets nothing: the thread goes on or ends, and each other one is as it was or ends.
  pub step_named : GoesOn who' c t r hand ⊎ ((who' c t ≡ unused) × ((w.lives c t).steps + 1 ≤ kernel_bound g.program * (x'.actions r.family + 1))) →
      ((c' t' : ℕ) → ((c' ≡ c) × (t' ≡ t) → ⊥) → (who' c' t' ≡ who c' t') ⊎ EndsAt g who who' w x c' t') → AreNamed g who' w' x'
  step_named own others =
      all_named g who' w' x'
      (λ c' t'.
      ⊎_elim
      (λ (e : c' ≡ c).
      ⊎_elim
      (λ (f : t' ≡ t). subst (λ k. IsNamedRole g (w'.lives k) (w'.lives k t') x' (who' k t')) (sym e) (subst (λ k. IsNamedRole g (w'.lives c) (w'.lives c k) x' (who' c k)) (sym f) (own_role own)))
      (λ (ne : t' ≢ t). let apart = λ (h : (c' ≡ c) × (t' ≡ t)). ne h.1 in other_role c' t' apart (others c' t' apart))
      (cases_eq t' t))
      (λ (ne : c' ≢ c). let apart = λ (h : (c' ≡ c) × (t' ≡ t)). ne h.0 in other_role c' t' apart (others c' t' apart))
      (cases_eq c' c))
      (longer.births named.births)
