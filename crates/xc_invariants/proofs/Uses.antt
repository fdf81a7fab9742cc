-- What a branch uses after a step, and what the branches use that it makes, it used before.
use Rattle.std.proofs.Common.{◌≡◌, ⊎_elim, ℕ, zero, suc, IsTrue, List, [], ◌∷◌, length, Some, slice_get, refl, sym, ap, subst, ◌∙◌}
use Rattle.xs_instr.specs.declared.image.Stim.{Stim}
use Rattle.xc_kernel.specs.Plain as kernel
use Rattle.xc_meaning.specs.States.Items.{Item, does, ends, todo}
use Rattle.xc_meaning.specs.States.Branches.{Branch}
use Rattle.xc_meaning.specs.States.Worlds.{World}
use Rattle.xc_meaning.specs.Settings.Setting.{Setting}
use Rattle.xc_meaning.specs.Settings.Par.{Begun, begun, all_begun, children}
use Rattle.xc_meaning.specs.Runs.{step_of}
use Rattle.xc_kernel.specs.Things.{Thing, by_statements}
use Rattle.xc_meaning.specs.Uses.{by_item, by_items}
use Rattle.xc_invariants.specs.Every.{AllItems, EveryItem}
use Rattle.xc_invariants.specs.Each.{EachItem}
use Rattle.xc_invariants.specs.Lawful.{KernelsAt}
use Rattle.xc_invariants.specs.Rules.{AnyThing, AnyPar, AnyTransaction, code_at}
use Rattle.xc_meaning.specs.Outline.{Becomes, goes, enters, exits, errs, ends_it, makes, Moved}
use Rattle.xc_meaning.proofs.Basics.{some_given, none_given, or_left, or_right, or_cases}
use Rattle.xc_invariants.proofs.Inherited.{Inherits, all_left, all_entered, all_exited}
use Rattle.xc_invariants.proofs.EveryItem.{every_inherits, every_branches}
use Rattle.xc_invariants.proofs.Links.{of_items, items_have}
use Rattle.xc_invariants.proofs.Lookups.{born, all_of_begun}
use Rattle.xc_meaning.proofs.Moved.{NoText}
use Rattle.xc_invariants.proofs.EachItems.{each_kept}

-- no item is a text's
abbrev pub IsKernels : Item → Type 0
IsKernels = EveryItem AnyThing AnyPar AnyTransaction

pub becomes_all : (P : Item → Type 0) → Inherits P → (s : Setting) (item : Item) (now : Branch) (more : List Branch) → Becomes s item now more → P item → AllItems P s.rest → AllItems P now.items
becomes_all P k s item now more (goes first items l) p ps = all_left P k s.rest first items l p ps
becomes_all P k s item now more (enters first c items l) p ps = all_entered P k s.rest first c items l p ps
becomes_all P k s item now more (exits first items l) p ps = all_exited P k s.rest first items l p ps
becomes_all P k s item now more (errs first) p ps = tt
becomes_all P k s item now more ends_it p ps = tt
becomes_all P k s item now more (makes bs b others e) p ps = ps

pub becomes_uses : (s : Setting) (item : Item) (now : Branch) (more : List Branch) → Becomes s item now more → AllItems IsKernels (item ∷ s.rest) →
    (th : Thing) → IsTrue (by_items th now.items) → IsTrue (by_items th (item ∷ s.rest))
becomes_uses s item now more h k th u =
    let all = of_items (λ th. IsTrue (by_items th (item ∷ s.rest))) (item ∷ s.rest) k (λ th u. u) in
    items_have (λ th. IsTrue (by_items th (item ∷ s.rest))) AnyPar AnyTransaction th now.items
    (becomes_all (EveryItem (λ th. IsTrue (by_items th (item ∷ s.rest))) AnyPar AnyTransaction) (every_inherits (λ th. IsTrue (by_items th (item ∷ s.rest))) AnyPar AnyTransaction) s item now more h all.0 all.1) u

-- what is said of the code of a branch of a `par` that has just begun
pub record Child (bs : kernel.Branches) (j : ℕ) (c : Branch) : Type 0 where
  pub code : kernel.Statements
  pub is_there : code_at bs j ≡ Some code
  pub items : c.items ≡ todo code (ends ∷ [])

begun_at : (bs : kernel.Branches) (j : ℕ) (g : Begun) → slice_get (all_begun bs) j ≡ Some g → (ss : kernel.Statements) × (code_at bs j ≡ Some ss) × (g ≡ begun ss)
begun_at kernel.no_branch j g e = none_given e
begun_at (kernel.more_branches (kernel.branch ss pos) bs) zero g e = (ss, refl, sym (some_given e))
begun_at (kernel.more_branches (kernel.branch ss pos) bs) (suc j) g e = begun_at bs j g e

pub child_at : (s : Setting) (item : Item) (now : Branch) (more : List Branch) → Becomes s item now more → (bs : kernel.Branches) → item ≡ does (kernel.par bs) → (j : ℕ) (c : Branch) → slice_get more j ≡ Some c → Child bs j c
child_at s item now more (goes first items l) bs ei j c e = none_given e
child_at s item now more (enters first d items l) bs ei j c e = none_given e
child_at s item now more (exits first items l) bs ei j c e = none_given e
child_at s item now more (errs first) bs ei j c e = none_given e
child_at s item now more ends_it bs ei j c e = none_given e
child_at s item now more (makes ds b others f) bs ei j c e =
    let b = born s (length (b ∷ others)) 0 [] (b ∷ others) j c e in
    let d : slice_get (all_begun ds) j ≡ Some b.begun = ap (λ gs. slice_get gs j) f ∙ b.is_there in
    let g = begun_at ds j b.begun d in
    let same : ds ≡ bs = cc in
    record {
      code = g.0;
      is_there = ap (λ a. code_at a j) (sym same) ∙ g.1;
      items = ap (λ a. a.items) b.is ∙ ap (λ a. a.items) g.2;
    }

-- new branches are made by a `par` alone
pub made_by : {A : Type 0} (s : Setting) (item : Item) (now : Branch) (more : List Branch) → Becomes s item now more → (j : ℕ) (c : Branch) → slice_get more j ≡ Some c → ((bs : kernel.Branches) → item ≡ does (kernel.par bs) → A) → A
made_by s item now more (goes first items l) j c e k = none_given e
made_by s item now more (enters first d items l) j c e k = none_given e
made_by s item now more (exits first items l) j c e k = none_given e
made_by s item now more (errs first) j c e k = none_given e
made_by s item now more ends_it j c e k = none_given e
made_by s item now more (makes bs b others f) j c e k = k bs refl

pub todo_uses : (th : Thing) (ss : kernel.Statements) → IsTrue (by_items th (todo ss (ends ∷ []))) → IsTrue (by_statements th ss)
todo_uses th kernel.no_more u = u
todo_uses th (kernel.more s ss) u = ⊎_elim (λ v. or_left _ _ v) (λ v. or_right _ _ (todo_uses th ss v)) (or_cases _ _ u)

pub code_uses : (th : Thing) (bs : kernel.Branches) (j : ℕ) (ss : kernel.Statements) → code_at bs j ≡ Some ss → IsTrue (by_statements th ss) → IsTrue (Rattle.xc_kernel.specs.Things.by_branches th bs)
code_uses th kernel.no_branch j ss e u = none_given e
code_uses th (kernel.more_branches (kernel.branch a pos) bs) zero ss e u = or_left _ _ (subst (λ a. IsTrue (by_statements th a)) (sym (some_given e)) u)
code_uses th (kernel.more_branches (kernel.branch a pos) bs) (suc j) ss e u = or_right (by_statements th a) _ (code_uses th bs j ss e u)

-- a new branch uses what the `par` uses
pub made_uses : (s : Setting) (item : Item) (now : Branch) (more : List Branch) → Becomes s item now more → (j : ℕ) (c : Branch) → slice_get more j ≡ Some c → (th : Thing) → IsTrue (by_items th c.items) → IsTrue (by_items th (item ∷ s.rest))
made_uses s item now more h j c e th u =
    made_by s item now more h j c e
    (λ bs ei. let d = child_at s item now more h bs ei j c e in
    let v : IsTrue (by_statements th d.code) = todo_uses th d.code (subst (λ items. IsTrue (by_items th items)) d.items u) in
    or_left _ _ (subst (λ i. IsTrue (by_item th i)) (sym ei) (code_uses th bs j d.code d.is_there v)))

-- the items of branches stay a kernel's

-- what holds of everything in a `par` holds of what its branches have to do
pub every_made : (F : Thing → Type 0) (Q : kernel.Branches → Type 0) (T : ℕ → kernel.Statements → Type 0) (s : Setting) (bs : kernel.Branches) (j : ℕ) (c : Branch) →
    slice_get (children s (length (all_begun bs)) 0 [] (all_begun bs)) j ≡ Some c → EveryItem F Q T (does (kernel.par bs)) → AllItems (EveryItem F Q T) c.items
every_made F Q T s bs j c e p =
    let b = born s (length (all_begun bs)) 0 [] (all_begun bs) j c e in
    subst (λ d. AllItems (EveryItem F Q T) d.items) (sym b.is) (all_of_begun (EveryItem F Q T) bs j b.begun b.is_there (every_branches F Q T bs p.1) tt)

module _ (K : kernel.Kernel) (stim : Stim) (x : World) where
  -- what holds of everything, and of each `par` and transaction, in all that is left stays so
  pub every_kept : (F : Thing → Type 0) (Q : kernel.Branches → Type 0) (T : ℕ → kernel.Statements → Type 0) {y : World} → EachItem (λ n sides. EveryItem F Q T) x.branches → Moved K stim x y → EachItem (λ n sides. EveryItem F Q T) y.branches
  every_kept F Q T h m =
      each_kept (λ n sides. EveryItem F Q T) (λ n sides. EveryItem F Q T) K stim x
      (record {
        inherits = λ n sides. every_inherits F Q T;
        same = λ n sides items lt all. all;
        made = λ n b bs rest is em ei j c e p. every_made F Q T (step_of K stim x n b rest) bs j c e p;
      }) h m

  pub no_text : EachItem KernelsAt x.branches → NoText x
  no_text h = record { first = λ n b i rest is ei. (subst (AllItems IsKernels) ei (h.all n b is)).0 }
