-- How the layout of an element is given, by where the plan has its array.
use Rattle.std.proofs.Common.{◌≡◌, ℕ, Bool, List, length, Option, Some, sym, subst}
use Rattle.std.specs.Prelude.{slice_get}
use Rattle.xw_words.specs.declared.pos.Pos.{Pos}
use Rattle.xs_instr.specs.Memory.{address_at}
use Rattle.xs_instr.specs.OwnSteps.{IsWord}
use Rattle.xc_kernel.specs.Plain as kernel
use Rattle.xc_kernel.specs.Values.{word}
use Rattle.xc_kernel.specs.Eval.{Store, words_of, eval}
use Rattle.xl_expr.specs.declared.plan.VarAt.{VarAt}
use Rattle.xl_expr.specs.declared.plan.VarAt.TheVariants.{Near, Far, Through}
use Rattle.xl_expr.specs.declared.plan.VarPlan.{VarPlan}
use Rattle.xl_expr.specs.Plans.{var_in}
use Rattle.xl_expr.specs.Works.{WithIndex, StandFrom, ArrayStands, ElementIsLaid, IsLaid, PlaceIsLaid}

module _ (vars : List (Option VarPlan)) (relied : ℕ → Bool) (s dp : ℕ) (words : List ℕ) (store : Store) (v : ℕ) (found : VarPlan) (known : var_in vars v ≡ Some found) (length_is : found.words ≡ length (words_of store v)) (i : kernel.Expression) (pos : Pos) where
  abbrev Array : VarAt → Type 0
  Array place = (found.words ≡ length (words_of store v)) × ArrayStands vars relied s dp words store place (words_of store v) (eval store i)

  abbrev Index : Type 0
  Index = IsLaid vars relied s dp words store i

  at_place : (place : VarAt) → found.place ≡ place → WithIndex place Index (Array place) → PlaceIsLaid vars relied s dp words store (kernel.element v i pos)
  at_place place e h =
      subst (λ o. ElementIsLaid vars relied s dp words store o Index (words_of store v) (eval store i)) (sym known)
      (subst (λ (p : VarAt). WithIndex p Index (Array p)) (sym e) h)

  -- next to dp, and elsewhere: with its index
  pub near_laid : (n : ℕ) → found.place ≡ Near n → Index → StandFrom vars relied s dp words store (address_at dp n) (words_of store v) → PlaceIsLaid vars relied s dp words store (kernel.element v i pos)
  near_laid n e index stands = at_place (Near n) e (index, (length_is, stands))

  pub far_laid : (n base : ℕ) → found.place ≡ Far n → Index → IsWord relied s words (address_at dp n) base → StandFrom vars relied s dp words store base (words_of store v) → PlaceIsLaid vars relied s dp words store (kernel.element v i pos)
  far_laid n base e index held stands = at_place (Far n) e (index, (length_is, (base, held, stands)))

  -- one element alone: whatever its index is made of
  pub through_laid : (n j base x : ℕ) → found.place ≡ Through n → eval store i ≡ word j → slice_get (words_of store v) j ≡ Some x → IsWord relied s words (address_at dp n) base → IsWord relied s words (address_at base 0) x → PlaceIsLaid vars relied s dp words store (kernel.element v i pos)
  through_laid n j base x e value there held stands = at_place (Through n) e (length_is, (j, base, x, value, there, held, stands))
