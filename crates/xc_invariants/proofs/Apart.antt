-- Two branches neither of which is above the other don't clash.
use Rattle.std.proofs.Common.{◌≡◌, inr, ℕ, IsTrue, List, [], ◌∷◌, Some, slice_get, sym, ap, subst, true≢false}
use Rattle.xs_instr.specs.declared.image.Stim.{Stim}
use Rattle.xc_kernel.specs.Plain as kernel
use Rattle.xc_meaning.specs.States.Items.{Item, does, ends, todo}
use Rattle.xc_meaning.specs.States.Branches.{Branch, runs}
use Rattle.xc_meaning.specs.States.Worlds.{World}
use Rattle.xc_meaning.specs.Runs.{step_of, kernel_start}
use Rattle.xc_kernel.specs.Things.{Thing}
use Rattle.xc_meaning.specs.Uses.{by_items}
use Rattle.xc_invariants.specs.Every.{AllItems, EveryItem}
use Rattle.xc_invariants.specs.Each.{EachItem}
use Rattle.xc_invariants.specs.Tree.{IsForest, Unrelated}
use Rattle.xc_kernel.specs.Branches.{branches_of}
use Rattle.xc_disjoint.specs.Clashes.{Clash, changed, used, of_port, of_timer}
use Rattle.xc_invariants.specs.Rules.{AreApart, CodesApart, AllApart, AnyThing, AnyPar, AnyTransaction, IsApart}
use Rattle.xc_meaning.specs.Outline.{Becomes, Moved}
use Rattle.xc_invariants.proofs.EveryItem.{every_branches}
use Rattle.xc_invariants.proofs.Links.{of_branches}
use Rattle.xc_invariants.specs.Lawful.{KernelsAt, BranchesApart}
use Rattle.xc_invariants.proofs.Uses.{IsKernels, becomes_uses, made_uses, made_by, child_at, todo_uses}
use Rattle.xc_invariants.proofs.Pairs.{IsKept, pairs_kept}
use Rattle.xc_invariants.proofs.Starts.{start_at, all_at}

clash_swap : {t u : Thing} → Clash t u → Clash u t
clash_swap (changed v) = used v
clash_swap (used v) = changed v
clash_swap (of_port p) = of_port p
clash_swap (of_timer t) = of_timer t

apart_swap : (b c : Branch) → BranchesApart b c → BranchesApart c b
apart_swap b c h = record { clash = λ t u k a e. h.clash u t (clash_swap k) e a }

nothing_used : (t : Thing) (items : List Item) → items ≡ [] → IsTrue (by_items t items) → ⊥
nothing_used t items e u = absurd (true≢false (sym (subst (λ i. IsTrue (by_items t i)) e u)))

apart_stopped : (b c : Branch) → c.items ≡ [] → BranchesApart b c
apart_stopped b c e = record { clash = λ t u k v w. nothing_used u c.items e w }

pub todo_apart : (a b : kernel.Statements) → CodesApart a b → AreApart (todo a (ends ∷ [])) (todo b (ends ∷ []))
todo_apart a b h = record { clash = λ t u k v w. h.clash t u k (todo_uses t a v) (todo_uses u b w) }

apart_items : (b c : Branch) (items others : List Item) → b.items ≡ items → c.items ≡ others → AreApart items others → BranchesApart b c
apart_items b c items others e f h = subst (λ i. AreApart i c.items) (sym e) (subst (λ i. AreApart items i) (sym f) h)

module _ (K : kernel.Kernel) (stim : Stim) (x : World) (kernels : EachItem KernelsAt x.branches) (pars : EachItem (λ n sides. EveryItem AnyThing AllApart AnyTransaction) x.branches) where
  apart_step : (n : ℕ) (b : Branch) (item : Item) (rest : List Item) (now : Branch) (more : List Branch) → slice_get x.branches n ≡ Some b → b.mode ≡ runs → b.items ≡ item ∷ rest →
      Becomes (step_of K stim x n b rest) item now more → IsKept BranchesApart (step_of K stim x n b rest) now more
  apart_step n b item rest now more is em ei h =
      let s = step_of K stim x n b rest in
      let its : AllItems IsKernels (item ∷ rest) = subst (AllItems IsKernels) ei (kernels.all n b is) in
      let apart : AllItems (EveryItem AnyThing AllApart AnyTransaction) (item ∷ rest) = subst (AllItems (EveryItem AnyThing AllApart AnyTransaction)) ei (pars.all n b is) in
      record {
        becomes = λ c r. record { clash = λ t u k v w. r.clash t u k (subst (λ i. IsTrue (by_items t i)) (sym ei) (becomes_uses s item now more h its t v)) w };
        made = λ j d c e r. record { clash = λ t u k v w. r.clash t u k (subst (λ i. IsTrue (by_items t i)) (sym ei) (made_uses s item now more h j d e t v)) w };
        siblings = λ j k d e ne f g. made_by s item now more h j d f
            (λ bs eb.
            let c = child_at s item now more h bs eb j d f in
            let c' = child_at s item now more h bs eb k e g in
            let p : EveryItem AnyThing AllApart AnyTransaction (does (kernel.par bs)) = subst (EveryItem AnyThing AllApart AnyTransaction) eb apart.0 in
            apart_items d e _ _ c.items c'.items (todo_apart c.code c'.code (p.0.apart j k c.code c'.code ne c.is_there c'.is_there)));
      }

  pub apart_kept : (roots : ℕ) {y : World} → IsForest roots x.branches → Unrelated BranchesApart x.branches → Moved K stim x y → Unrelated BranchesApart y.branches
  apart_kept roots f h m = pairs_kept BranchesApart apart_swap apart_stopped K stim roots x f h m apart_step (λ b c r. r)

-- at the start
module _ (K : kernel.Kernel) (k : IsApart K) where
  pub apart_begins : Unrelated BranchesApart (kernel_start K).branches
  apart_begins = record {
    pair = λ n m b c e f ne.
        let r = start_at K n b e in
        let q = start_at K m c f in
        inr (inr (apart_items b c _ _ (ap (λ d. d.items) r.is) (ap (λ d. d.items) q.is) (todo_apart r.root.body q.root.body (k.roots.apart n m r.root.body q.root.body ne r.code q.code))));
  }

  pub pars_begin : EachItem (λ n sides. EveryItem AnyThing AllApart AnyTransaction) (kernel_start K).branches
  pars_begin = record {
    all = λ n b e. let r = start_at K n b e in
        subst (AllItems (EveryItem AnyThing AllApart AnyTransaction)) (sym (ap (λ d. d.items) r.is))
        (all_at (EveryItem AnyThing AllApart AnyTransaction) (branches_of K.roots) n r.root.body r.code (every_branches AnyThing AllApart AnyTransaction (branches_of K.roots) k.inside) tt);
  }

-- no item of a kernel's start is a text's
pub kernels_begin : (K : kernel.Kernel) → EachItem KernelsAt (kernel_start K).branches
kernels_begin K = record {
  all = λ n b e. let r = start_at K n b e in
      subst (AllItems IsKernels) (sym (ap (λ d. d.items) r.is))
      (all_at IsKernels (branches_of K.roots) n r.root.body r.code (every_branches AnyThing AnyPar AnyTransaction (branches_of K.roots) (of_branches AnyThing (branches_of K.roots) (λ th u. tt))) tt);
}
