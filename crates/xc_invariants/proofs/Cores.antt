-- Branches stay under their numbers and on their cores, whose ports they use.
use Rattle.std.proofs.Common.{◌≡◌, ⊎_elim, ℕ, List, [], ◌∷◌, ◌++◌, length, Some, slice_get, slice_set, refl, sym, ap, subst, ◌∙◌, append-nil}
use Rattle.xs_instr.specs.declared.image.Stim.{Stim}
use Rattle.xc_kernel.specs.Plain as kernel
use Rattle.xc_meaning.specs.States.Items.{Item, does, ends}
use Rattle.xc_meaning.specs.States.Branches.{runs, waits, ended, erred, Branch}
use Rattle.xc_meaning.specs.States.Worlds.{World}
use Rattle.xc_meaning.specs.Settings.Setting.{Setting}
use Rattle.xc_meaning.specs.Settings.Par.{children}
use Rattle.xc_meaning.specs.Runs.{step_of, kernel_start}
use Rattle.xc_invariants.specs.Every.{AllItems, EveryItem}
use Rattle.xc_invariants.specs.Each.{EachBranch}
use Rattle.xc_invariants.specs.Rules.{AnyPar, AnyTransaction}
use Rattle.xc_invariants.specs.Cores.{OnCore, UsesHere, IsHere, IsStill, Grows}
use Rattle.xc_meaning.specs.Outline.{Becomes, goes, enters, exits, errs, ends_it, makes, Moved, ticked, stepped, joined}
use Rattle.xc_meaning.proofs.Basics.{some_given, none_given, same_or_not}
use Rattle.xc_invariants.proofs.Inherited.{all_todo}
use Rattle.xc_invariants.proofs.EveryItem.{every_inherits, every_statements}
use Rattle.xc_invariants.proofs.Lookups.{at_itself, at_other, born}
use Rattle.xc_invariants.proofs.Starts.{start_at}
use Rattle.xc_invariants.proofs.EachItems.{each_branch_kept}
use Rattle.xc_invariants.proofs.Uses.{becomes_all, every_made}

pub core_stays : (s : Setting) (item : Item) (now : Branch) (more : List Branch) → Becomes s item now more → now.core ≡ s.branch.core
core_stays s item now more (goes one items l) = refl
core_stays s item now more (enters one c items l) = refl
core_stays s item now more (exits one items l) = refl
core_stays s item now more (errs one) = refl
core_stays s item now more ends_it = refl
core_stays s item now more (makes bs b others e) = refl

module _ (K : kernel.Kernel) (stim : Stim) (x : World) (h : EachBranch (UsesHere K) x.branches) where
  abbrev At : ℕ → Item → Type 0
  At core = EveryItem (OnCore K core) AnyPar AnyTransaction

  now_here : (n : ℕ) (b : Branch) (item : Item) (rest : List Item) (now : Branch) (more : List Branch) → slice_get x.branches n ≡ Some b → b.mode ≡ runs → b.items ≡ item ∷ rest → Becomes (step_of K stim x n b rest) item now more → UsesHere K now
  now_here n b item rest now more is em ei g =
      let all : AllItems (EveryItem (OnCore K b.core) AnyPar AnyTransaction) (item ∷ rest) = subst (AllItems (EveryItem (OnCore K b.core) AnyPar AnyTransaction)) ei (h.each n b is) in
      subst (λ core. AllItems (EveryItem (OnCore K core) AnyPar AnyTransaction) now.items) (sym (core_stays (step_of K stim x n b rest) item now more g))
      (becomes_all (EveryItem (OnCore K b.core) AnyPar AnyTransaction) (every_inherits (OnCore K b.core) AnyPar AnyTransaction) (step_of K stim x n b rest) item now more g all.0 all.1)

  new_here : (n : ℕ) (b : Branch) (item : Item) (rest : List Item) (now : Branch) (more : List Branch) → slice_get x.branches n ≡ Some b → b.mode ≡ runs → b.items ≡ item ∷ rest → Becomes (step_of K stim x n b rest) item now more →
      (j : ℕ) (c : Branch) → slice_get more j ≡ Some c → UsesHere K c
  new_here n b item rest now more is em ei (goes one items l) j c e = none_given e
  new_here n b item rest now more is em ei (enters one d items l) j c e = none_given e
  new_here n b item rest now more is em ei (exits one items l) j c e = none_given e
  new_here n b item rest now more is em ei (errs one) j c e = none_given e
  new_here n b item rest now more is em ei ends_it j c e = none_given e
  new_here n b item rest now more is em ei (makes bs g others f) j c e =
      let s = step_of K stim x n b rest in
      let all : AllItems (EveryItem (OnCore K b.core) AnyPar AnyTransaction) (does (kernel.par bs) ∷ rest) = subst (AllItems (EveryItem (OnCore K b.core) AnyPar AnyTransaction)) ei (h.each n b is) in
      let core : c.core ≡ b.core = ap (λ d. d.core) (born s (length (g ∷ others)) 0 [] (g ∷ others) j c e).is in
      subst (λ core. AllItems (EveryItem (OnCore K core) AnyPar AnyTransaction) c.items) (sym core)
      (every_made (OnCore K b.core) AnyPar AnyTransaction s bs j c (subst (λ gs. slice_get (children s (length gs) 0 [] gs) j ≡ Some c) (sym f) e) all.0)

  pub here_kept : {y : World} → Moved K stim x y → EachBranch (UsesHere K) y.branches
  here_kept m = each_branch_kept (UsesHere K) K stim x h now_here new_here (λ n b from count is ew. h.each n b is) m

pub here_begins : (K : kernel.Kernel) → IsHere K → EachBranch (UsesHere K) (kernel_start K).branches
here_begins K h = record {
  each = λ n b e.
      let r = start_at K n b e in
      subst (λ d. UsesHere K d) (sym r.is)
      (all_todo (EveryItem (OnCore K r.root.core) AnyPar AnyTransaction) r.root.body (ends ∷ []) (every_statements (OnCore K r.root.core) AnyPar AnyTransaction r.root.body (h.roots n r.root r.is_there)) (tt, tt));
}

-- What stays.

still_itself : (b : Branch) → IsStill b b
still_itself b = record { core = refl; sides = refl; family = refl; birth = refl; stopped = λ h. refl }

still_step : (s : Setting) (item : Item) (now : Branch) (more : List Branch) → s.branch.mode ≡ runs → Becomes s item now more → IsStill s.branch now
still_step s item now more em (goes one items l) = record { core = refl; sides = refl; family = refl; birth = refl; stopped = λ h. ⊎_elim (λ e. let f : runs ≡ ended = sym em ∙ e in absurd cc) (λ e. let f : runs ≡ erred = sym em ∙ e in absurd cc) h }
still_step s item now more em (enters one c items l) = record { core = refl; sides = refl; family = refl; birth = refl; stopped = λ h. ⊎_elim (λ e. let f : runs ≡ ended = sym em ∙ e in absurd cc) (λ e. let f : runs ≡ erred = sym em ∙ e in absurd cc) h }
still_step s item now more em (exits one items l) = record { core = refl; sides = refl; family = refl; birth = refl; stopped = λ h. ⊎_elim (λ e. let f : runs ≡ ended = sym em ∙ e in absurd cc) (λ e. let f : runs ≡ erred = sym em ∙ e in absurd cc) h }
still_step s item now more em (errs one) = record { core = refl; sides = refl; family = refl; birth = refl; stopped = λ h. ⊎_elim (λ e. let f : runs ≡ ended = sym em ∙ e in absurd cc) (λ e. let f : runs ≡ erred = sym em ∙ e in absurd cc) h }
still_step s item now more em ends_it = record { core = refl; sides = refl; family = refl; birth = refl; stopped = λ h. ⊎_elim (λ e. let f : runs ≡ ended = sym em ∙ e in absurd cc) (λ e. let f : runs ≡ erred = sym em ∙ e in absurd cc) h }
still_step s item now more em (makes bs b others e) = record { core = refl; sides = refl; family = refl; birth = refl; stopped = λ h. ⊎_elim (λ e. let f : runs ≡ ended = sym em ∙ e in absurd cc) (λ e. let f : runs ≡ erred = sym em ∙ e in absurd cc) h }

still_joined : (b : Branch) (from count : ℕ) → b.mode ≡ waits from count → IsStill b (record b { mode = runs })
still_joined b from count ew = record { core = refl; sides = refl; family = refl; birth = refl; stopped = λ h. ⊎_elim (λ e. let f : waits from count ≡ ended = sym ew ∙ e in absurd cc) (λ e. let f : waits from count ≡ erred = sym ew ∙ e in absurd cc) h }

grows_by : (bs : List Branch) (n : ℕ) (b now : Branch) (more : List Branch) → slice_get bs n ≡ Some b → IsStill b now → Grows bs (slice_set bs n now ++ more)
grows_by bs n b now more is st = record {
  still = λ k c e.
      ⊎_elim
      (λ f. (now, ap (slice_get (slice_set bs n now ++ more)) f ∙ at_itself bs n b now more is, subst (λ d. IsStill d now) (some_given (sym is ∙ ap (slice_get bs) (sym f) ∙ e)) st))
      (λ ne. (c, at_other bs n now more k c ne e, still_itself c)) (same_or_not k n);
}

pub grows : (K : kernel.Kernel) (stim : Stim) (x : World) {y : World} → Moved K stim x y → Grows x.branches y.branches
grows K stim x (ticked clocks) = record { still = λ n b e. (b, e, still_itself b) }
grows K stim x (stepped n b item rest z is em ei o) =
    subst (Grows x.branches) (sym o.branches) (grows_by x.branches n b o.now o.more is (still_step (step_of K stim x n b rest) item o.now o.more em o.becomes))
grows K stim x (joined n b from count is em d) =
    subst (Grows x.branches) (append-nil (slice_set x.branches n (record b { mode = runs }))) (grows_by x.branches n b (record b { mode = runs }) [] is (still_joined b from count em))
