-- Programs without transactions: no branch has one to do, so none stands in one.
use Rattle.std.specs.Prelude.{◌≡◌, ℕ, List, [], Some, slice_get}
use Rattle.xc_kernel.specs.Plain as kernel
use Rattle.xc_invariants.specs.Each.{EachItem}
use Rattle.xc_invariants.specs.Every.{EveryItem}
use Rattle.xc_invariants.specs.Rules.{AnyPar, AnyThing}
use Rattle.xc_meaning.specs.States.Branches.{Branch}

abbrev pub NoTransaction : ℕ → kernel.Statements → Type 0
NoTransaction c ss = ⊥

-- no item of a branch holds a transaction, and no branch stands inside one
pub record ArePlain (bs : List Branch) : Type 0 where
  pub items : EachItem (λ n sides. EveryItem AnyThing AnyPar NoTransaction) bs
  pub outside : (n : ℕ) (b : Branch) → slice_get bs n ≡ Some b → b.inside ≡ []
