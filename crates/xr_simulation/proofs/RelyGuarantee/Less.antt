-- Behind a step of the program a branch that was there uses no more than before.
use Rattle.std.proofs.Common.{append-nil, true, ◌≡◌, ℕ, IsTrue, List, [], ◌∷◌, length, Some, slice_get, slice_set, sym, ap, subst, ◌∙◌, ◌+◌, arith}
use Rattle.xs_instr.specs.declared.image.Stim.{Stim}
use Rattle.xc_kernel.specs.Plain as kernel
use Rattle.xc_kernel.specs.Things.{Thing}
use Rattle.xc_invariants.specs.Each.{EachItem}
use Rattle.xc_invariants.specs.Every.{AllItems}
use Rattle.xc_invariants.specs.Lawful.{KernelsAt, Lawful}
use Rattle.xc_invariants.proofs.Lookups.{Behind, behind, itself, new, there, within}
use Rattle.xc_invariants.proofs.Uses.{IsKernels, becomes_uses, no_text}
use Rattle.xc_meaning.specs.Outline.{Becomes, Moved, joined, stepped, ticked}
use Rattle.xc_meaning.specs.Runs.{acts, step_of}
use Rattle.xc_meaning.specs.States.Branches.{Branch, runs}
use Rattle.xc_meaning.specs.States.Items.{Item}
use Rattle.xc_meaning.specs.States.Worlds.{Action, World}
use Rattle.xc_meaning.specs.Uses.{by_items}
use Rattle.xc_meaning.proofs.Basics.{some_given}
use Rattle.xc_meaning.proofs.Moved.{moved}

module _ (K : kernel.Kernel) (stim : Stim) (x : World) (kernels : EachItem KernelsAt x.branches) (k : ℕ) (old c : Branch) (was : slice_get x.branches k ≡ Some old) where
  abbrev UsesLess : Type 0
  UsesLess = (th : Thing) → IsTrue (by_items th c.items) → IsTrue (by_items th old.items)

  same_uses : (d : Branch) → slice_get x.branches k ≡ Some d → ((th : Thing) → IsTrue (by_items th c.items) → IsTrue (by_items th d.items)) → UsesLess
  same_uses d e h th u = subst (λ (b : Branch). IsTrue (by_items th b.items)) (some_given (sym e ∙ was)) (h th u)

  not_new : (A : Type 0) (j : ℕ) → k ≡ length x.branches + j → A
  not_new A j e = let lt = within x.branches k was in absurd (let z : ⊥ = omega arith in z)

  step_less : (n : ℕ) (b : Branch) (item : Item) (rest : List Item) (now : Branch) (more : List Branch) → slice_get x.branches n ≡ Some b → b.items ≡ item ∷ rest →
      Becomes (step_of K stim x n b rest) item now more → Behind x.branches n now more k c → UsesLess
  step_less n b item rest now more is ei g (itself ek ec) =
      same_uses b (ap (slice_get x.branches) ek ∙ is)
      (λ th u. subst (λ i. IsTrue (by_items th i)) (sym ei)
      (becomes_uses (step_of K stim x n b rest) item now more g (subst (AllItems IsKernels) ei (kernels.all n b is)) th (subst (λ (d : Branch). IsTrue (by_items th d.items)) ec u)))
  step_less n b item rest now more is ei g (there ne e) = same_uses c e (λ th u. u)
  step_less n b item rest now more is ei g (new j ek e) = not_new UsesLess j ek

  joined_less : (n : ℕ) (b : Branch) → slice_get x.branches n ≡ Some b → Behind x.branches n (record b { mode = runs }) [] k c → UsesLess
  joined_less n b is (itself ek ec) = same_uses b (ap (slice_get x.branches) ek ∙ is) (λ th u. subst (λ (d : Branch). IsTrue (by_items th d.items)) ec u)
  joined_less n b is (there ne e) = same_uses c e (λ th u. u)
  joined_less n b is (new j ek e) = not_new UsesLess j ek

  moved_less : {y : World} → Moved K stim x y → slice_get y.branches k ≡ Some c → UsesLess
  moved_less (ticked clocks) e = same_uses c e (λ th u. u)
  moved_less (stepped n b item rest z is em ei o) e =
      step_less n b item rest o.now o.more is ei o.becomes (behind x.branches n b o.now o.more k c is (subst (λ bs. slice_get bs k ≡ Some c) o.branches e))
  moved_less (joined n b from count is em d) e =
      joined_less n b is (behind x.branches n b (record b { mode = runs }) [] k c is (subst (λ bs. slice_get bs k ≡ Some c) (sym (append-nil (slice_set x.branches n (record b { mode = runs })))) e))

-- what it uses
pub uses_less : (K : kernel.Kernel) (s : Stim) (x y : World) (m : Action) → Lawful K x → acts K s x m ≡ Some y → (k : ℕ) (old c : Branch) → slice_get x.branches k ≡ Some old → slice_get y.branches k ≡ Some c →
    (th : Thing) → by_items th c.items ≡ true → by_items th old.items ≡ true
uses_less K s x y m h e k old c was now th u = moved_less K s x h.kernels k old c was (moved K s x (no_text K s x h.kernels) m e) now th u
