-- The names of lives stay where a thread steps that gets nothing, and where the program alone acts.
use Rattle.std.proofs.Common.{◌≡◌, ℕ, ◌+◌, ◌*◌, ◌≤◌, ◌⊎◌, inl, inr, false, List, [], ◌∷◌, length, Option, Some, None, refl, sym, ap, ◌∙◌, subst, ⊎_elim, arith}
use Rattle.std.proofs.Math.Nat.{mul-le-mul_left}
use Rattle.xs_instr.specs.declared.state.CoreState.{CoreState}
use Rattle.xc_meaning.specs.Counts.KernelCounts.{kernel_bound}
use Rattle.xc_meaning.specs.States.Branches.{Branch}
use Rattle.xl_par.specs.Acquired.{Acquired, IsAmong}
use Rattle.xr_match.specs.Lives.{Family, Life, Watched}
use Rattle.xr_match.specs.Meanings.{family_in, of_kernel}
use Rattle.xr_match.specs.Sources.{Counted, actions_by, actions_of}
use Rattle.xr_simulation.specs.Living.{AreBornBelow, AreKidsOf, AreNamed, IsNamed, opened, pars_of}
use Rattle.xr_simulation.specs.Roles.{AreRoles, Role, Roles, got_by, unused, used_by}
use Rattle.xr_simulation.specs.Runners.{Setting, Runner}
use Rattle.xr_simulation.specs.ThreadViews.{held_in}
use Rattle.xr_simulation.proofs.Lives.Families.{Grown, born_grown, born_more, grown_length, grown_names, grown_pars}
use Rattle.xr_simulation.proofs.Lives.Names.{sync_got, thread_got}

-- what is so of a thread's life, by its role
abbrev pub IsNamedRole : (g : Setting) → (lives : ℕ → Life) → Life → Counted (of_kernel g.program) → Role → Type 0
IsNamedRole g lives life x unused = life.steps ≤ kernel_bound g.program * (actions_of (of_kernel g.program) x life.family + 1)
IsNamedRole g lives life x (got_by t) = (life.steps ≡ 0) × (life.pars ≡ 0)
IsNamedRole g lives life x (used_by r hand) = IsNamed g lives life x r hand

pub role_named : (g : Setting) (who : Roles) (w : Watched) (x : Counted (of_kernel g.program)) → AreNamed g who w x → (c t : ℕ) (role : Role) → who c t ≡ role → IsNamedRole g (w.lives c) (w.lives c t) x role
role_named g who w x named c t unused e = named.over c t e
role_named g who w x named c t (got_by u) e = named.got c t u e
role_named g who w x named c t (used_by r hand) e = named.named c t r hand e

pub all_named : (g : Setting) (who : Roles) (w : Watched) (x : Counted (of_kernel g.program)) → ((c t : ℕ) → IsNamedRole g (w.lives c) (w.lives c t) x (who c t)) → AreBornBelow (length x.state.branches) x.state.branches → AreNamed g who w x
all_named g who w x all births = record {
  named = λ c t r hand e. subst (IsNamedRole g (w.lives c) (w.lives c t) x) e (all c t);
  got = λ c u t e. subst (IsNamedRole g (w.lives c) (w.lives c u) x) e (all c u);
  over = λ c t e. subst (IsNamedRole g (w.lives c) (w.lives c t) x) e (all c t);
  births = births;
}

-- The families that are there keep their numbers, and do no less; and a branch's maker still stands before it.
pub record Lengthens (g : Setting) (x x' : Counted (of_kernel g.program)) : Type 0 where
  pub actions : (f : ℕ) → x.actions f ≤ x'.actions f
  pub names : (name : Family) (f : ℕ) → family_in g.program x.state name ≡ Some f → family_in g.program x'.state name ≡ Some f
  pub births : AreBornBelow (length x.state.branches) x.state.branches → AreBornBelow (length x'.state.branches) x'.state.branches

-- so it is where branches are added
pub lengthens_by : (g : Setting) (x x' : Counted (of_kernel g.program)) (more : List Branch) → ((f : ℕ) → x.actions f ≤ x'.actions f) → Grown x.state.branches x'.state.branches more → AreBornBelow (length x.state.branches) more → Lengthens g x x'
lengthens_by g x x' more actions grown below =
    let n = grown_length x.state.branches x'.state.branches more grown in
    let le : length x.state.branches ≤ length x'.state.branches = omega (arith, n) in
    record {
      actions = actions;
      names = grown_names g.program x.state x'.state more grown;
      births = λ h.
          born_more (length x.state.branches) (length x'.state.branches) x'.state.branches le
          (born_grown (length x.state.branches) x.state.branches x'.state.branches more grown h below);
    }

-- a family that made none of them has made as many `par`s
pub pars_still : (f : ℕ) (bs bs' more : List Branch) → Grown bs bs' more → pars_of f more ≡ 0 → pars_of f bs' ≡ pars_of f bs
pars_still f bs bs' more grown none = let e = grown_pars f bs bs' more grown in omega (arith, e, none)

-- a hand goes on being the same, or isn't one that opens a `par`
abbrev pub HandStays : Option Acquired → Option Acquired → Type 0
HandStays hand hand' = (hand' ≡ hand) ⊎ ((opened hand ≡ 0) × (opened hand' ≡ 0))

pub opened_stays : (hand hand' : Option Acquired) → HandStays hand hand' → opened hand' ≡ opened hand
opened_stays hand hand' h = ⊎_elim (λ e. ap opened e) (λ e. e.1 ∙ sym e.0) h

-- a life of the same names as another
pub record IsLike (old new : Life) : Type 0 where
  pub family : new.family ≡ old.family
  pub pars : new.pars ≡ old.pars
  pub tyings : (n : ℕ) → new.tyings n ≡ old.tyings n

pub like_same : (old new : Life) → new ≡ old → IsLike old new
like_same old new e = record {
  family = ap (λ (l : Life). l.family) e;
  pars = ap (λ (l : Life). l.pars) e;
  tyings = λ n. ap (λ (l : Life). l.tyings n) e;
}

pub kids_still : (lives lives' : ℕ → Life) (maker : Family) (par : ℕ) (threads : List ℕ) → ((u : ℕ) → IsAmong threads u → (lives' u).family ≡ (lives u).family) → AreKidsOf lives maker par threads → AreKidsOf lives' maker par threads
kids_still lives lives' maker par [] same h = tt
kids_still lives lives' maker par (u ∷ us) same h = (same u (inl refl) ∙ h.0, kids_still lives lives' maker par us (λ v m. same v (inr m)) h.1)

module _ (g : Setting) (x x' : Counted (of_kernel g.program)) (longer : Lengthens g x x') where
  -- what a family has done
  pub actions_at : (y : Counted (of_kernel g.program)) (name : Family) (f : ℕ) → family_in g.program y.state name ≡ Some f → actions_of (of_kernel g.program) y (Some name) ≡ y.actions f
  actions_at y name f e = ap (actions_by (of_kernel g.program) y) e

  actions_by_less : (name : Family) (o : Option ℕ) → family_in g.program x.state name ≡ o → actions_by (of_kernel g.program) x o ≤ actions_of (of_kernel g.program) x' (Some name)
  actions_by_less name None e = omega arith
  actions_by_less name (Some f) e = let k = actions_at x' name f (longer.names name f e) in let l = longer.actions f in omega (arith, k, l)

  pub actions_not_less : (name : Option Family) → actions_of (of_kernel g.program) x name ≤ actions_of (of_kernel g.program) x' name
  actions_not_less None = omega arith
  actions_not_less (Some name) = actions_by_less name (family_in g.program x.state name) refl

  -- a bound allows no less then
  pub allows_more : (steps n m : ℕ) → n ≤ m → steps ≤ kernel_bound g.program * (n + 1) → steps ≤ kernel_bound g.program * (m + 1)
  allows_more steps n m le h =
      let e : n + 1 ≤ m + 1 = omega arith in let k = mul-le-mul_left (kernel_bound g.program) e in omega (arith, h, k)

  -- a name goes on
  pub named_still : (lives lives' : ℕ → Life) (life life' : Life) (r r' : Runner) (hand hand' : Option Acquired) → IsNamed g lives life x r hand → IsLike life life' →
      ((u : ℕ) → IsAmong (held_in hand) u → (lives' u).family ≡ (lives u).family) → pars_of r.family x'.state.branches ≡ pars_of r.family x.state.branches →
      r'.family ≡ r.family → HandStays hand hand' → IsNamed g lives' life' x' r' hand'
  named_still lives lives' life life' r r' hand hand' h like kids pars family stays =
      let same : pars_of r'.family x'.state.branches ≡ pars_of r.family x.state.branches = ap (λ f. pars_of f x'.state.branches) family ∙ pars in
      record {
        name = h.name;
        of_life = like.family ∙ h.of_life;
        number = longer.names h.name r.family h.number ∙ ap Some (sym family);
        pars = let o = opened_stays hand hand' stays in let p = h.pars in let q = like.pars in omega (arith, same, o, p, q);
        ties = λ held n e sync opens.
            ⊎_elim
            (λ (s : hand' ≡ hand).
            let is : hand ≡ Some held = sym s ∙ e in
            let old = h.ties held n is sync (ap opened (sym s) ∙ opens) in (
              like.tyings n ∙ old.0 ∙ ap (λ p. Some (record { par = p; tied = length held.threads })) (sym same),
              subst (λ p. AreKidsOf lives' h.name p held.threads) (sym same)
                  (kids_still lives lives' h.name (pars_of r.family x.state.branches) held.threads (λ u m. kids u (subst (λ o. IsAmong (held_in o) u) (sym is) m)) old.1),
            ))
            (λ (s : (opened hand ≡ 0) × (opened hand' ≡ 0)). let e' = s.1 in absurd (omega (arith, e', opens)))
            stays;
      }

-- Nothing is got in a step.
pub record GetsNothing (a b : CoreState) : Type 0 where
  pub syncs : (n : ℕ) → sync_got a b n ≡ false
  pub threads : (u : ℕ) → thread_got a b u ≡ false

module _ (g : Setting) (who who' : Roles) (w w' : Watched) (x x' : Counted (of_kernel g.program)) (roles : AreRoles g who) (named : AreNamed g who w x) (longer : Lengthens g x x') where
  -- a thread whose role and life are as they were
  pub other_named : (c t : ℕ) → w'.lives c t ≡ w.lives c t → ((u v : ℕ) → who c u ≡ got_by v → w'.lives c u ≡ w.lives c u) →
      ((r : Runner) (hand : Option Acquired) → who c t ≡ used_by r hand → pars_of r.family x'.state.branches ≡ pars_of r.family x.state.branches) →
      (role : Role) → who c t ≡ role → IsNamedRole g (w'.lives c) (w'.lives c t) x' role
  other_named c t same kids pars unused e =
      let old = named.over c t e in
      let less = actions_not_less g x x' longer (w.lives c t).family in
      subst (λ l. IsNamedRole g (w'.lives c) l x' unused) (sym same)
      (allows_more g x x' longer (w.lives c t).steps (actions_of (of_kernel g.program) x (w.lives c t).family) (actions_of (of_kernel g.program) x' (w.lives c t).family) less old)
  other_named c t same kids pars (got_by v) e =
      subst (λ l. IsNamedRole g (w'.lives c) l x' (got_by v)) (sym same) (named.got c t v e)
  other_named c t same kids pars (used_by r hand) e =
      named_still g x x' longer (w.lives c) (w'.lives c) (w.lives c t) (w'.lives c t) r r hand hand (named.named c t r hand e)
      (like_same (w.lives c t) (w'.lives c t) same)
      (λ u m. ap (λ (l : Life). l.family) (kids u t (roles.held c t u r hand e m))) (pars r hand e) refl (inl refl)
