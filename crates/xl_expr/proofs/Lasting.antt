-- The layout lasts where the words that are relied on stay.
use Rattle.std.proofs.Common.{◌≡◌, ℕ, ◌/◌, ◌%◌, Bool, true, List, Option, Some, None, ◌∙◌}
use Rattle.std.specs.Prelude.{slice_get, slice_index, nat_eq}
use Rattle.xs_instr.specs.OwnSteps.{IsApart, IsWord}
use Rattle.xc_kernel.specs.Plain as kernel
use Rattle.xc_kernel.specs.Values.{Value}
use Rattle.xc_kernel.specs.Eval.{Store, words_of, eval}
use Rattle.xl_expr.specs.declared.plan.VarAt.{VarAt}
use Rattle.xl_expr.specs.declared.plan.VarAt.TheVariants.{Near, Far, Through}
use Rattle.xl_expr.specs.declared.plan.VarPlan.{VarPlan}
use Rattle.xl_expr.specs.Plans.{var_in}
use Rattle.xl_expr.specs.Stores.{OfWord, OfElement, WordAt, ElementAt, IsAddress}
use Rattle.xl_expr.specs.Works.{WithIndex, WordStands, ArrayStands, WordIsLaid, ArrayIsLaid, ElementIsLaid, IsLaid, AreLaid, PlaceIsLaid}
use Rattle.xl_expr.proofs.Lists.{word_by_same}

with_index_lasts : (place : VarAt) (index array index' array' : Type 0) → (index → index') → (array → array') → WithIndex place index array → WithIndex place index' array'
with_index_lasts (Near n) index array index' array' f g h = (f h.0, g h.1)
with_index_lasts (Far n) index array index' array' f g h = (f h.0, g h.1)
with_index_lasts (Through n) index array index' array' f g h = g h

module _ (vars : List (Option VarPlan)) (relied : ℕ → Bool) (s dp : ℕ) (words words' : List ℕ) (store : Store) (same : (w : ℕ) → relied w ≡ true → IsApart s w → slice_get words' w ≡ slice_get words w) where
  word_lasts : (address x : ℕ) → IsWord relied s words address x → IsWord relied s words' address x
  word_lasts address x h = record {
    there = word_by_same words words' address (nat_eq (address % 4) 0) (same (address / 4) h.relied_on h.apart) ∙ h.there;
    relied_on = h.relied_on;
    apart = h.apart;
  }

  stands_last : (place : VarAt) (x : ℕ) → WordStands vars relied s dp words store place x → WordStands vars relied s dp words' store place x
  stands_last (Near n) x h = word_lasts _ x h
  stands_last (Far n) x h = (h.0, word_lasts _ h.0 h.1, word_lasts _ x h.2)
  stands_last (Through n) x h = (h.0, word_lasts _ h.0 h.1, word_lasts _ x h.2)

  array_lasts : (place : VarAt) (xs : List ℕ) (i : Value) → ArrayStands vars relied s dp words store place xs i → ArrayStands vars relied s dp words' store place xs i
  array_lasts (Near n) xs i h = λ j x e. word_lasts _ x (h j x e)
  array_lasts (Far n) xs i h = (h.0, word_lasts _ h.0 h.1, λ j x e. word_lasts _ x (h.2 j x e))
  array_lasts (Through n) xs i h = (h.0, h.1, h.2, h.3, h.4, word_lasts _ h.1 h.5, word_lasts _ h.2 h.6)

  word_laid : (found : Option VarPlan) (xs : List ℕ) → WordIsLaid vars relied s dp words store found xs → WordIsLaid vars relied s dp words' store found xs
  word_laid None xs h = h
  word_laid (Some found) xs h = stands_last found.place (slice_index xs 0) h

  element_laid : (found : Option VarPlan) (index index' : Type 0) (xs : List ℕ) (i : Value) → (index → index') → ElementIsLaid vars relied s dp words store found index xs i → ElementIsLaid vars relied s dp words' store found index' xs i
  element_laid None index index' xs i f h = h
  element_laid (Some found) index index' xs i f h =
      with_index_lasts found.place index (ArrayIsLaid vars relied s dp words store found xs i) index' (ArrayIsLaid vars relied s dp words' store found xs i) f (λ g. (g.0, array_lasts found.place xs i g.1)) h

  mutual
    pub laid_lasts : (x : kernel.Expression) → IsLaid vars relied s dp words store x → IsLaid vars relied s dp words' store x
    laid_lasts (kernel.number v) h = tt
    laid_lasts (kernel.read p) h = place_lasts p h
    laid_lasts (kernel.operation o u es pos) h = all_last es h

    all_last : (es : kernel.Operands) → AreLaid vars relied s dp words store es → AreLaid vars relied s dp words' store es
    all_last kernel.no_operand h = tt
    all_last (kernel.more_operands e es) h = (laid_lasts e h.0, all_last es h.1)

    pub place_lasts : (p : kernel.Place) → PlaceIsLaid vars relied s dp words store p → PlaceIsLaid vars relied s dp words' store p
    place_lasts (kernel.word v) h = word_laid (var_in vars v) (words_of store v) h
    place_lasts (kernel.element v i pos) h =
        element_laid (var_in vars v) (IsLaid vars relied s dp words store i) (IsLaid vars relied s dp words' store i) (words_of store v) (eval store i) (λ g. laid_lasts i g) h

  -- and so do addresses
  word_at_lasts : (place : VarAt) (address : ℕ) → WordAt vars relied s dp words place address → WordAt vars relied s dp words' place address
  word_at_lasts (Near n) address h = h
  word_at_lasts (Far n) address h = (h.0, word_lasts _ h.0 h.1, h.2)
  word_at_lasts (Through n) address h = (h.0, word_lasts _ h.0 h.1, h.2)

  element_at_lasts : (place : VarAt) (i address : ℕ) → ElementAt vars relied s dp words place i address → ElementAt vars relied s dp words' place i address
  element_at_lasts (Near n) i address h = h
  element_at_lasts (Far n) i address h = (h.0, word_lasts _ h.0 h.1, h.2)
  element_at_lasts (Through n) i address h = (h.0, word_lasts _ h.0 h.1, h.2)

  of_word : (found : Option VarPlan) (address : ℕ) → OfWord vars relied s dp words found address → OfWord vars relied s dp words' found address
  of_word None address h = h
  of_word (Some found) address h = word_at_lasts found.place address h

  of_element : (found : Option VarPlan) (i address : ℕ) → OfElement vars relied s dp words found i address → OfElement vars relied s dp words' found i address
  of_element None i address h = h
  of_element (Some found) i address h = element_at_lasts found.place i address h

  pub address_lasts : (p : kernel.Place) (i address : ℕ) → IsAddress vars relied s dp words p i address → IsAddress vars relied s dp words' p i address
  address_lasts (kernel.word v) i address h = of_word (var_in vars v) address h
  address_lasts (kernel.element v x pos) i address h = of_element (var_in vars v) i address h
