-- A step of one branch leaves the others what they use.
use Rattle.std.proofs.Common.{append-nil, ◌≡◌, ◌≢◌, ⊎_elim, ℕ, IsTrue, List, [], ◌∷◌, Some, slice_get, slice_set, slice_index, refl, sym, ap, ap₂, subst, ◌∙◌}
use Rattle.xs_instr.specs.declared.image.Stim.{Stim}
use Rattle.xc_kernel.specs.Operators.{operator_at}
use Rattle.xc_kernel.specs.Values.{word, applied}
use Rattle.xc_kernel.specs.Plain as kernel
use Rattle.xc_kernel.specs.Eval.{Store, words_of, element_at, eval, eval_all, eval_place}
use Rattle.xc_meaning.specs.States.Items.{Item}
use Rattle.xc_meaning.specs.States.Branches.{runs, Branch}
use Rattle.xc_meaning.specs.States.Worlds.{World}
use Rattle.xc_meaning.specs.Runs.{step_of}
use Rattle.xc_kernel.specs.Things.{variable, change, by_expression, by_operands, by_place}
use Rattle.xc_meaning.specs.Uses.{by_items}
use Rattle.xc_invariants.specs.Tree.{IsWaiting}
use Rattle.xc_disjoint.specs.Clashes.{changed}
use Rattle.xc_invariants.specs.Lawful.{Lawful, UsedBefore, by_itself, by_maker, FootprintsShrink, OthersAreLeft, KernelsAt}
use Rattle.xc_invariants.specs.Each.{EachItem}
use Rattle.xc_invariants.specs.Every.{AllItems}
use Rattle.xc_invariants.specs.Frames.{AgreeOnItems}
use Rattle.xc_meaning.specs.Outline.{Becomes, Outlined, Moved, ticked, stepped, joined}
use Rattle.xc_meaning.proofs.Moved.{moved}
use Rattle.xc_invariants.proofs.Uses.{IsKernels, no_text, becomes_uses, made_by, child_at, todo_uses, code_uses}
use Rattle.xc_invariants.proofs.Lookups.{Behind, itself, there, new, behind}
use Rattle.xc_meaning.proofs.Basics.{none_given, same_number, or_left, or_right}
use Rattle.xc_invariants.proofs.Lookups.{at_other}
use Rattle.xc_invariants.proofs.Trees.{running_waits_not}
use Rattle.xc_invariants.proofs.Always.{none_clash}

-- An expression has the same value in stores that agree on the variables that it uses.
mutual
  pub eval_same : (s t : Store) (e : kernel.Expression) → ((v : ℕ) → IsTrue (by_expression (variable v) e) → words_of s v ≡ words_of t v) → eval s e ≡ eval t e
  eval_same s t (kernel.number v) h = refl
  eval_same s t (kernel.read p) h = place_same s t p h
  eval_same s t (kernel.operation symbol is_unsigned es pos) h = ap (applied (operator_at symbol) is_unsigned pos) (all_same s t es h)

  all_same : (s t : Store) (es : kernel.Operands) → ((v : ℕ) → IsTrue (by_operands (variable v) es) → words_of s v ≡ words_of t v) → eval_all s es ≡ eval_all t es
  all_same s t kernel.no_operand h = refl
  all_same s t (kernel.more_operands e es) h = ap₂ ◌∷◌ (eval_same s t e (λ v u. h v (or_left _ _ u))) (all_same s t es (λ v u. h v (or_right _ _ u)))

  place_same : (s t : Store) (p : kernel.Place) → ((v : ℕ) → IsTrue (by_place (variable v) p) → words_of s v ≡ words_of t v) → eval_place s p ≡ eval_place t p
  place_same s t (kernel.word v) h = ap (λ ws. word (slice_index ws 0)) (h v (same_number v))
  place_same s t (kernel.element v index pos) h =
      ap₂ (λ ws i. element_at ws pos i) (h v (or_left _ _ (same_number v))) (eval_same s t index (λ w u. h w (or_right _ _ u)))

-- a step of a branch, seen from another that doesn't wait
module _ (K : kernel.Kernel) (stim : Stim) (x : World) (h : Lawful K x) (n : ℕ) (b : Branch) (item : Item) (rest : List Item) (y : World)
    (is : slice_get x.branches n ≡ Some b) (em : b.mode ≡ runs) (ei : b.items ≡ item ∷ rest) (o : Outlined (step_of K stim x n b rest) item y) where
  pub other_stays : (k : ℕ) (c : Branch) → k ≢ n → slice_get x.branches k ≡ Some c → slice_get y.branches k ≡ Some c
  other_stays k c ne e = ap (λ bs. slice_get bs k) o.branches ∙ at_other x.branches n o.now o.more k c ne e

  pub words_stay : (k : ℕ) (c : Branch) → k ≢ n → slice_get x.branches k ≡ Some c → (IsWaiting c.mode → ⊥) → AgreeOnItems c.items y.store x.store
  words_stay k c ne e w = record {
    agree = λ v u. ⊎_elim (λ f. f)
        (λ f. absurd ((none_clash K x h n k b c is e (λ g. ne (sym g)) (λ z. running_waits_not em z) w).clash (change v) (variable v) (changed v)
        (subst (λ i. IsTrue (by_items (change v) i)) (sym ei) (or_left _ _ f)) u))
        (o.words v);
  }

pub others_are_left : OthersAreLeft
others_are_left K s x h n b item rest y is em ei o k c ne e = (other_stays K s x h n b item rest y is em ei o k c ne e, λ w. words_stay K s x h n b item rest y is em ei o k c ne e w)

-- Footprints shrink.
module _ (K : kernel.Kernel) (stim : Stim) (x : World) (kernels : EachItem KernelsAt x.branches) where
  used_behind : (n : ℕ) (b : Branch) (item : Item) (rest : List Item) (now : Branch) (more : List Branch) → slice_get x.branches n ≡ Some b → b.items ≡ item ∷ rest → Becomes (step_of K stim x n b rest) item now more →
      (k : ℕ) (c : Branch) → Behind x.branches n now more k c → UsedBefore x k c
  used_behind n b item rest now more is ei g k c (itself ek ec) =
      by_itself b (ap (slice_get x.branches) ek ∙ is)
      (λ th u. subst (λ i. IsTrue (by_items th i)) (sym ei)
      (becomes_uses (step_of K stim x n b rest) item now more g (subst (AllItems IsKernels) ei (kernels.all n b is)) th (subst (λ d. IsTrue (by_items th d.items)) ec u)))
  used_behind n b item rest now more is ei g k c (there ne e) = by_itself c e (λ th u. u)
  used_behind n b item rest now more is ei g k c (new j ek e) =
      made_by (step_of K stim x n b rest) item now more g j c e
      (λ bs eb. let d = child_at (step_of K stim x n b rest) item now more g bs eb j c e in
      by_maker n b bs rest is (ei ∙ ap (λ i. i ∷ rest) eb)
      (λ th u. code_uses th bs j d.code d.is_there (todo_uses th d.code (subst (λ items. IsTrue (by_items th items)) d.items u))))

  used_joined : (n : ℕ) (b : Branch) → slice_get x.branches n ≡ Some b → (k : ℕ) (c : Branch) → Behind x.branches n (record b { mode = runs }) [] k c → UsedBefore x k c
  used_joined n b is k c (itself ek ec) = by_itself b (ap (slice_get x.branches) ek ∙ is) (λ th u. subst (λ d. IsTrue (by_items th d.items)) ec u)
  used_joined n b is k c (there ne e) = by_itself c e (λ th u. u)
  used_joined n b is k c (new j ek e) = none_given e

  used_before : {y : World} → Moved K stim x y → (k : ℕ) (c : Branch) → slice_get y.branches k ≡ Some c → UsedBefore x k c
  used_before (ticked clocks) k c e = by_itself c e (λ th u. u)
  used_before (stepped n b item rest z is em ei o) k c e =
      used_behind n b item rest o.now o.more is ei o.becomes k c (behind x.branches n b o.now o.more k c is (subst (λ bs. slice_get bs k ≡ Some c) o.branches e))
  used_before (joined n b from count is em d) k c e =
      used_joined n b is k c (behind x.branches n b (record b { mode = runs }) [] k c is (subst (λ bs. slice_get bs k ≡ Some c) (sym (append-nil (slice_set x.branches n (record b { mode = runs })))) e))

pub footprints_shrink : FootprintsShrink
footprints_shrink K s x y m h e k c f = used_before K s x h.kernels (moved K s x (no_text K s x h.kernels) m e) k c f
