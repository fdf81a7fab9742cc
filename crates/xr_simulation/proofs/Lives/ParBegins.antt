-- A `par` of several branches begins: the threads that were got for it run its branches behind the first, in lives of the families that those begin.
use Rattle.std.proofs.Common.{◌≡◌, ℕ, ◌+◌, ◌<◌, ◌≤◌, ◌≢◌, ◌⊎◌, inl, inr, List, [], ◌∷◌, length, Option, Some, None, refl, sym, ap, ◌∙◌, subst, ⊎_elim, arith}
use Rattle.std.specs.Prelude.{slice_get}
use Rattle.std.proofs.lemmas.Bool.{cases_eq}
use Rattle.std.proofs.lemmas.Option.{none-some}
use Rattle.xs_instr.specs.declared.state.CoreState.{CoreState}
use Rattle.xs_instr.specs.Machine.{Machine, and_then}
use Rattle.xc_meaning.specs.Counts.Families.{child_among, child_family}
use Rattle.xc_meaning.specs.States.Branches.{Branch}
use Rattle.xl_par.specs.Acquired.{Acquired, IsAmong}
use Rattle.xr_match.specs.Lives.{Life, Watched, life_after, of_child}
use Rattle.xr_match.specs.Meanings.{family_in, of_kernel}
use Rattle.xr_match.specs.Sources.{Counted}
use Rattle.xr_simulation.specs.Living.{AreKidsOf, AreNamed, IsNamed, opened, pars_of}
use Rattle.xr_simulation.specs.Parents.{Parent, branches_of}
use Rattle.xr_simulation.specs.Roles.{AreRoles, Roles, got_by, outermost, own_branches, used_by}
use Rattle.xr_simulation.specs.Runners.{Setting, Runner}
use Rattle.xr_simulation.proofs.Lives.Quiet.{GetsNothing, IsNamedRole, Lengthens, all_named, lengthens_by, other_named, pars_still}
use Rattle.xr_simulation.proofs.Lives.OwnEvents.{got_not_used}
use Rattle.xr_simulation.proofs.Lives.Families.{AreBornOf, Grown, born_none, born_of_below, born_of_child, born_of_others, born_of_several, grown_new, grown_pars}
use Rattle.xr_simulation.proofs.Lives.Gets.{by_place, has_some, opened_one}
use Rattle.xr_simulation.proofs.Lives.Names.{other_is, own_family, own_pars_same}

-- the branch with which a thread began is one that it stands for
outermost_among : (b : ℕ) (ps : List Parent) → IsAmong (b ∷ branches_of ps) (outermost b ps)
outermost_among b [] = inl refl
outermost_among b (p ∷ ps) = inr (outermost_among p.branch ps)

-- two threads run branches of different families
pub families_differ : (g : Setting) (who : Roles) → AreRoles g who → (c t c' t' : ℕ) (r s : Runner) (hand other : Option Acquired) → who c t ≡ used_by r hand → who c' t' ≡ used_by s other → s.family ≡ r.family → (c' ≡ c) × (t' ≡ t)
families_differ g who roles c t c' t' r s hand other e f same =
    let mine : IsAmong (own_branches r) r.family = subst (IsAmong (own_branches r)) (roles.started c t r hand e) (outermost_among r.branch r.parents) in
    let its : IsAmong (own_branches s) s.family = subst (IsAmong (own_branches s)) (roles.started c' t' s other f) (outermost_among s.branch s.parents) in
    roles.branches c t c' t' r.family r s hand other e f mine (subst (IsAmong (own_branches s)) same its)

-- a number is among others or not
pub among_cases : (us : List ℕ) (u : ℕ) → IsAmong us u ⊎ (IsAmong us u → ⊥)
among_cases [] u = inr (λ h. h)
among_cases (v ∷ vs) u =
    ⊎_elim
    (λ (e : u ≡ v). inl (inl e))
    (λ (ne : u ≢ v). ⊎_elim (λ h. inl (inr h)) (λ (none : IsAmong vs u → ⊥). inr (λ h. ⊎_elim ne none h)) (among_cases vs u))
    (cases_eq u v)

-- The threads that were got, the last one first, run the branches of a `par` behind its first, of which that has the number `from`.
abbrev pub AreBegun : Roles → (core from : ℕ) → (threads : List ℕ) → Type 0
AreBegun who c from [] = Unit {0}
AreBegun who c from (u ∷ us) = ((s : Runner) × (who c u ≡ used_by s None) × (s.family ≡ from + (length us + 1))) × AreBegun who c from us

module _ (g : Setting) (who who' : Roles) (w : Watched) (m' : Machine) (x x' : Counted (of_kernel g.program)) (roles : AreRoles g who) (named : AreNamed g who w x) (c t : ℕ) (a b : CoreState) (at_a : slice_get w.machine.cores c ≡ Some a) (at_b : slice_get m'.cores c ≡ Some b) (r : Runner) (h : Acquired) (runs : who c t ≡ used_by r (Some h)) (nothing : GetsNothing a b) (actions : (f : ℕ) → x.actions f ≤ x'.actions f) (more : List Branch) (count n : ℕ) (grown : Grown x.state.branches x'.state.branches more) (born : AreBornOf r.family count 0 more) (there : r.family < length x.state.branches) (is : h.sync ≡ Some n) (several : 2 ≤ count) (all : 1 + length h.threads ≡ count) where
  -- the lives behind the step
  abbrev w' : Watched
  w' = record { machine = m'; lives = life_after w m' c t }

  abbrev old : IsNamed g (w.lives c) (w.lives c t) x r (Some h)
  old = named.named c t r (Some h) runs

  longer : Lengthens g x x'
  longer = lengthens_by g x x' more actions grown (born_of_below (length x.state.branches) r.family count 0 more there born)

  -- the number of the `par`
  abbrev par : ℕ
  par = pars_of r.family x.state.branches

  -- it is one more of its maker's
  one_more_par : pars_of r.family x'.state.branches ≡ par + 1
  one_more_par =
      let e = grown_pars r.family x.state.branches x'.state.branches more grown in
      let k = born_of_several r.family count more several born in
      omega (arith, e, k)

  -- and none of others
  others_pars : (f : ℕ) → r.family ≢ f → pars_of f x'.state.branches ≡ pars_of f x.state.branches
  others_pars f ne = pars_still f x.state.branches x'.state.branches more grown (born_of_others r.family f count 0 more ne born)

  -- the lives of the others are as they were
  elsewhere : (c' t' : ℕ) → ((c' ≡ c) × (t' ≡ t) → ⊥) → life_after w m' c t c' t' ≡ w.lives c' t'
  elsewhere c' t' ne = other_is w m' c t a b at_a at_b c' t' ne (λ e. nothing.threads t')

  kids_same : (c' u v : ℕ) → who c' u ≡ got_by v → life_after w m' c t c' u ≡ w.lives c' u
  kids_same c' u v e = elsewhere c' u (got_not_used who c t c' u v r (Some h) runs e)

  before_one : opened (Some h) ≡ 1
  before_one = opened_one h n is (has_some (length h.threads) h.lacks (omega arith))

  -- the maker goes on with the first branch
  maker_named : (r' : Runner) → r'.family ≡ r.family → IsNamed g (w'.lives c) (w'.lives c t) x' r' None
  maker_named r' family =
      let p = old.pars in
      let q = own_pars_same w m' c t a b at_a at_b nothing.syncs in
      let one = before_one in
      let k = one_more_par in
      let l = ap (λ f. pars_of f x'.state.branches) family in
      record {
        name = old.name;
        of_life = own_family w m' c t a b at_a at_b ∙ old.of_life;
        number = longer.names old.name r.family old.number ∙ ap Some (sym family);
        pars = omega (arith, p, q, one, k, l);
        ties = λ held m e sync opens. absurd (none-some held e);
      }

  -- the branch with an index behind the first is found
  kid_number : (i : ℕ) → 1 ≤ i → i < count → family_in g.program x'.state (of_child old.name par i) ≡ Some (length x.state.branches + i)
  kid_number i some less =
      let e : par ≡ par + 0 = omega arith in
      let z : 0 + length x.state.branches ≡ length x.state.branches = omega arith in
      ap (λ o. and_then o (λ f. child_family x'.state f par i)) (longer.names old.name r.family old.number)
      ∙ ap (child_among r.family i 0 x'.state.branches) e
      ∙ grown_new r.family i 0 0 x.state.branches x'.state.branches more grown
      ∙ ap (λ k. child_among r.family i k more 0) z
      ∙ born_of_child r.family count (length x.state.branches) i more some less born

  -- it has made no `par` yet
  kid_pars : (f : ℕ) → length x.state.branches ≤ f → pars_of f x'.state.branches ≡ 0
  kid_pars f le =
      others_pars f (λ e. absurd (omega arith)) ∙ born_none (length x.state.branches) f x.state.branches le named.births

  -- so the thread that runs it is in a life of its family
  kid_named : (i u v : ℕ) (s : Runner) → 1 ≤ i → i < count → s.family ≡ length x.state.branches + i → who c u ≡ got_by v → (w.lives c u).family ≡ Some (of_child old.name par i) → IsNamed g (w'.lives c) (w'.lives c u) x' s None
  kid_named i u v s some less family got its =
      let life = kids_same c u v got in
      let none = (named.got c u v got).1 in
      let p = ap (λ (l : Life). l.pars) life in
      let q = kid_pars s.family (omega arith) in
      record {
        name = of_child old.name par i;
        of_life = ap (λ (l : Life). l.family) life ∙ its;
        number = kid_number i some less ∙ ap Some (sym family);
        pars = omega (arith, p, none, q);
        ties = λ held m e sync opens. absurd (none-some held e);
      }

  -- each of those that were got
  kids_named : (us : List ℕ) → length us < count → ((u : ℕ) → IsAmong us u → who c u ≡ got_by t) → AreKidsOf (w.lives c) old.name par us → AreBegun who' c (length x.state.branches) us → (u : ℕ) → IsAmong us u →
      IsNamedRole g (w'.lives c) (w'.lives c u) x' (who' c u)
  kids_named [] less got kids begun u m = absurd m
  kids_named (v ∷ vs) less got kids begun u m =
      ⊎_elim
      (λ (e : u ≡ v).
      subst (λ k. IsNamedRole g (w'.lives c) (w'.lives c k) x' (who' c k)) (sym e)
      (subst (IsNamedRole g (w'.lives c) (w'.lives c v) x') (sym begun.0.1)
      (kid_named (length vs + 1) v t begun.0.0 (omega arith) (omega arith) begun.0.2 (got v (inl refl)) kids.0)))
      (λ (k : IsAmong vs u). kids_named vs (omega arith) (λ i l. got i (inr l)) kids.1 begun.1 u k)
      m

  -- The `par` begins.
  pub begins_named : (r' : Runner) → who' c t ≡ used_by r' None → r'.family ≡ r.family → AreBegun who' c (length x.state.branches) h.threads →
      ((c' t' : ℕ) → ((c' ≡ c) × (t' ≡ t) → ⊥) → (c' ≡ c → IsAmong h.threads t' → ⊥) → who' c' t' ≡ who c' t') → AreNamed g who' w' x'
  begins_named r' own family begun others =
      all_named g who' w' x'
      (λ c' t'.
      by_place c t c' t' (λ k l. IsNamedRole g (w'.lives k) (w'.lives k l) x' (who' k l))
      (subst (IsNamedRole g (w'.lives c) (w'.lives c t) x') (sym own) (maker_named r' family))
      (λ ne.
      let other : (c' ≡ c → IsAmong h.threads t' → ⊥) → IsNamedRole g (w'.lives c') (w'.lives c' t') x' (who' c' t') = λ apart.
      other_named g who who' w w' x x' roles named longer c' t' (elsewhere c' t' ne) (λ u v e. kids_same c' u v e)
      (λ s held e. others_pars s.family (λ same. ne (families_differ g who roles c t c' t' r s (Some h) held runs e (sym same)))) (who' c' t')
      (sym (others c' t' ne apart)) in
      ⊎_elim
      (λ (e : c' ≡ c).
      ⊎_elim
      (λ (m : IsAmong h.threads t').
      subst (λ k. IsNamedRole g (w'.lives k) (w'.lives k t') x' (who' k t')) (sym e)
      (kids_named h.threads (omega arith) (λ u k. roles.held c t u r (Some h) runs k) (old.ties h n refl is before_one).1 begun t' m))
      (λ (none : IsAmong h.threads t' → ⊥). other (λ f. none))
      (among_cases h.threads t'))
      (λ (far : c' ≢ c). other (λ f m. far f))
      (cases_eq c' c)))
      (longer.births named.births)
