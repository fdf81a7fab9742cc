-- What goes down to the parts of items holds of each branch's items in each state of a run.
use Rattle.std.proofs.Common.{◌≡◌, ◌≢◌, ◌⊎◌, inl, inr, ⊎_elim, ℕ, zero, suc, ◌+◌, ◌<◌, ◌≤◌, IsTrue, List, [], ◌∷◌, ◌++◌, length, Option, Some, None, slice_get, slice_set, refl, sym, ap, subst, ◌∙◌, arith}
use Rattle.xs_instr.specs.declared.image.Stim.{Stim}
use Rattle.xc_kernel.specs.Plain as kernel
use Rattle.xc_meaning.specs.States.Channels.{Side}
use Rattle.xc_meaning.specs.States.Items.{Item, does}
use Rattle.xc_meaning.specs.States.Branches.{Branch, runs, waits}
use Rattle.xc_meaning.specs.States.Worlds.{World}
use Rattle.xc_meaning.specs.Settings.Setting.{Setting}
use Rattle.xc_meaning.specs.Settings.Par.{all_begun, children}
use Rattle.xc_meaning.specs.Runs.{step_of}
use Rattle.xc_invariants.specs.Every.{AllItems}
use Rattle.xc_invariants.specs.Each.{EachItem, EachBranch}
use Rattle.xc_meaning.specs.Outline.{Becomes, goes, enters, exits, errs, ends_it, makes, Outlined, Moved, ticked, stepped, joined}
use Rattle.xc_meaning.proofs.Basics.{none_given}
use Rattle.xc_invariants.proofs.Inherited.{Inherits, all_left, all_entered, all_exited}
use Rattle.xc_invariants.proofs.Lookups.{Behind, itself, there, new, behind, within}

-- what is made by a step of a `par`
pub record Made (s : Setting) (bs : kernel.Branches) (more : List Branch) : Type 0 where
  pub is : more ≡ children s (length (all_begun bs)) 0 [] (all_begun bs)

-- behind a change of one branch, with new ones
module _ (P P' : ℕ → List (Option Side) → Item → Type 0) (bs : List Branch) (n : ℕ) (b now : Branch) (more : List Branch) (is : slice_get bs n ≡ Some b) (g : EachItem P bs)
    (same : (k : ℕ) (sides : List (Option Side)) (items : List Item) → k < length bs → AllItems (P k sides) items → AllItems (P' k sides) items)
    (now_all : AllItems (P n now.sides) now.items) (more_all : (j : ℕ) (c : Branch) → slice_get more j ≡ Some c → AllItems (P' (length bs + j) c.sides) c.items) where
  behind_all : (k : ℕ) (c : Branch) → Behind bs n now more k c → AllItems (P' k c.sides) c.items
  behind_all k c (itself ek ec) =
      subst (λ m. AllItems (P' m c.sides) c.items) (sym ek) (subst (λ d. AllItems (P' n d.sides) d.items) (sym ec) (same n now.sides now.items (within bs n is) now_all))
  behind_all k c (there ne e) = same k c.sides c.items (within bs k e) (g.all k c e)
  behind_all k c (new j ek e) = subst (λ m. AllItems (P' m c.sides) c.items) (sym ek) (more_all j c e)

  pub each_behind : EachItem P' (slice_set bs n now ++ more)
  each_behind = record { all = λ k c e. behind_all k c (behind bs n b now more k c is e) }

module _ (P P' : ℕ → List (Option Side) → Item → Type 0) (K : kernel.Kernel) (stim : Stim) (x : World) where
  -- P goes down to parts, and P' holds of what P held, and of the new branches
  pub record Passes : Type 0 where
    pub inherits : (n : ℕ) (sides : List (Option Side)) → Inherits (P n sides)
    pub same : (n : ℕ) (sides : List (Option Side)) (items : List Item) → n < length x.branches → AllItems (P n sides) items → AllItems (P' n sides) items
    pub made : (n : ℕ) (b : Branch) (bs : kernel.Branches) (rest : List Item) → slice_get x.branches n ≡ Some b → b.mode ≡ runs → b.items ≡ does (kernel.par bs) ∷ rest →
        (j : ℕ) (c : Branch) → slice_get (children (step_of K stim x n b rest) (length (all_begun bs)) 0 [] (all_begun bs)) j ≡ Some c →
        P n b.sides (does (kernel.par bs)) → AllItems (P' (length x.branches + j) c.sides) c.items

  module _ (h : Passes) where
    now_all : (s : Setting) (n : ℕ) (item : Item) (now : Branch) (more : List Branch) → Becomes s item now more → P n s.branch.sides item → AllItems (P n s.branch.sides) s.rest → AllItems (P n now.sides) now.items
    now_all s n item now more (goes first items l) p ps = all_left (P n s.branch.sides) (h.inherits n s.branch.sides) s.rest first items l p ps
    now_all s n item now more (enters first c items l) p ps = all_entered (P n s.branch.sides) (h.inherits n s.branch.sides) s.rest first c items l p ps
    now_all s n item now more (exits first items l) p ps = all_exited (P n s.branch.sides) (h.inherits n s.branch.sides) s.rest first items l p ps
    now_all s n item now more (errs first) p ps = tt
    now_all s n item now more ends_it p ps = tt
    now_all s n item now more (makes bs b others e) p ps = ps

    made_all : (n : ℕ) (b : Branch) (item : Item) (rest : List Item) (now : Branch) (more : List Branch) → slice_get x.branches n ≡ Some b → b.mode ≡ runs → b.items ≡ item ∷ rest →
        Becomes (step_of K stim x n b rest) item now more → P n b.sides item → (j : ℕ) (c : Branch) → slice_get more j ≡ Some c → AllItems (P' (length x.branches + j) c.sides) c.items
    made_all n b item rest now more is em ei (goes first items l) p j c e = none_given e
    made_all n b item rest now more is em ei (enters first d items l) p j c e = none_given e
    made_all n b item rest now more is em ei (exits first items l) p j c e = none_given e
    made_all n b item rest now more is em ei (errs first) p j c e = none_given e
    made_all n b item rest now more is em ei ends_it p j c e = none_given e
    made_all n b item rest now more is em ei (makes bs first others f) p j c e =
        h.made n b bs rest is em ei j c (subst (λ all. slice_get (children (step_of K stim x n b rest) (length all) 0 [] all) j ≡ Some c) (sym f) e) p

    module _ (g : EachItem P x.branches) where
      stepped_all : (n : ℕ) (b : Branch) (item : Item) (rest : List Item) (y : World) → slice_get x.branches n ≡ Some b → b.mode ≡ runs → b.items ≡ item ∷ rest →
          (o : Outlined (step_of K stim x n b rest) item y) → (k : ℕ) (c : Branch) → Behind x.branches n o.now o.more k c → AllItems (P' k c.sides) c.items
      stepped_all n b item rest y is em ei o k c (itself ek ec) =
          let all : AllItems (P n b.sides) (item ∷ rest) = subst (AllItems (P n b.sides)) ei (g.all n b is) in
          let fine : AllItems (P' n o.now.sides) o.now.items = h.same n o.now.sides o.now.items (within x.branches n is) (now_all (step_of K stim x n b rest) n item o.now o.more o.becomes all.0 all.1) in
          subst (λ m. AllItems (P' m c.sides) c.items) (sym ek) (subst (λ d. AllItems (P' n d.sides) d.items) (sym ec) fine)
      stepped_all n b item rest y is em ei o k c (there ne e) = h.same k c.sides c.items (within x.branches k e) (g.all k c e)
      stepped_all n b item rest y is em ei o k c (new j ek e) =
          let all : AllItems (P n b.sides) (item ∷ rest) = subst (AllItems (P n b.sides)) ei (g.all n b is) in
          subst (λ m. AllItems (P' m c.sides) c.items) (sym ek) (made_all n b item rest o.now o.more is em ei o.becomes all.0 j c e)

      joined_all : (n : ℕ) (b : Branch) → slice_get x.branches n ≡ Some b → (k : ℕ) (c : Branch) → Behind x.branches n (record b { mode = runs }) [] k c → AllItems (P' k c.sides) c.items
      joined_all n b is k c (itself ek ec) =
          subst (λ m. AllItems (P' m c.sides) c.items) (sym ek) (subst (λ d. AllItems (P' n d.sides) d.items) (sym ec) (h.same n b.sides b.items (within x.branches n is) (g.all n b is)))
      joined_all n b is k c (there ne e) = h.same k c.sides c.items (within x.branches k e) (g.all k c e)
      joined_all n b is k c (new j ek e) = none_given e

      pub each_kept : {y : World} → Moved K stim x y → EachItem P' y.branches
      each_kept (ticked clocks) = record { all = λ n b is. h.same n b.sides b.items (within x.branches n is) (g.all n b is) }
      each_kept {y} (stepped n b item rest z is em ei o) = record {
        all = λ k c e. stepped_all n b item rest z is em ei o k c (behind x.branches n b o.now o.more k c is (subst (λ bs. slice_get bs k ≡ Some c) o.branches e));
      }
      each_kept (joined n b from count is em d) = record {
        all = λ k c e. joined_all n b is k c (behind x.branches n b (record b { mode = runs }) [] k c is (subst (λ bs. slice_get bs k ≡ Some c) (sym (Rattle.std.proofs.Common.append-nil (slice_set x.branches n (record b { mode = runs })))) e));
      }

-- of each branch, by the branch itself
module _ (P : Branch → Type 0) (K : kernel.Kernel) (stim : Stim) (x : World) (h : EachBranch P x.branches)
    (now_is : (n : ℕ) (b : Branch) (item : Item) (rest : List Item) (now : Branch) (more : List Branch) → slice_get x.branches n ≡ Some b → b.mode ≡ runs → b.items ≡ item ∷ rest → Becomes (step_of K stim x n b rest) item now more → P now)
    (new_is : (n : ℕ) (b : Branch) (item : Item) (rest : List Item) (now : Branch) (more : List Branch) → slice_get x.branches n ≡ Some b → b.mode ≡ runs → b.items ≡ item ∷ rest → Becomes (step_of K stim x n b rest) item now more →
    (j : ℕ) (c : Branch) → slice_get more j ≡ Some c → P c)
    (resumed : (n : ℕ) (b : Branch) (from count : ℕ) → slice_get x.branches n ≡ Some b → b.mode ≡ waits from count → P (record b { mode = runs })) where
  branch_behind : (n : ℕ) (b : Branch) (item : Item) (rest : List Item) (now : Branch) (more : List Branch) → slice_get x.branches n ≡ Some b → b.mode ≡ runs → b.items ≡ item ∷ rest → Becomes (step_of K stim x n b rest) item now more →
      (k : ℕ) (c : Branch) → Behind x.branches n now more k c → P c
  branch_behind n b item rest now more is em ei g k c (itself ek ec) = subst P (sym ec) (now_is n b item rest now more is em ei g)
  branch_behind n b item rest now more is em ei g k c (there ne e) = h.each k c e
  branch_behind n b item rest now more is em ei g k c (new j ek e) = new_is n b item rest now more is em ei g j c e

  branch_joined : (n : ℕ) (b : Branch) (from count : ℕ) → slice_get x.branches n ≡ Some b → b.mode ≡ waits from count → (k : ℕ) (c : Branch) → Behind x.branches n (record b { mode = runs }) [] k c → P c
  branch_joined n b from count is ew k c (itself ek ec) = subst P (sym ec) (resumed n b from count is ew)
  branch_joined n b from count is ew k c (there ne e) = h.each k c e
  branch_joined n b from count is ew k c (new j ek e) = none_given e

  pub each_branch_kept : {y : World} → Moved K stim x y → EachBranch P y.branches
  each_branch_kept (ticked clocks) = h
  each_branch_kept (stepped n b item rest z is em ei o) = record {
    each = λ k c e. branch_behind n b item rest o.now o.more is em ei o.becomes k c (behind x.branches n b o.now o.more k c is (subst (λ bs. slice_get bs k ≡ Some c) o.branches e));
  }
  each_branch_kept (joined n b from count is em d) = record {
    each = λ k c e. branch_joined n b from count is em k c (behind x.branches n b (record b { mode = runs }) [] k c is (subst (λ bs. slice_get bs k ≡ Some c) (sym (Rattle.std.proofs.Common.append-nil (slice_set x.branches n (record b { mode = runs })))) e));
  }
