-- What a branch sees of a step of another.
use Rattle.std.specs.Prelude.{◌≡◌, ℕ, IsTrue, List}
use Rattle.xc_kernel.specs.Eval.{Store, words_of}
use Rattle.xc_meaning.specs.States.Items.{Item}
use Rattle.xc_kernel.specs.Things.{variable}
use Rattle.xc_meaning.specs.Uses.{by_items}

-- two stores have the same words of all variables that some items use
pub record AgreeOnItems (items : List Item) (s t : Store) : Type 0 where
  pub agree : (v : ℕ) → IsTrue (by_items (variable v) items) → words_of s v ≡ words_of t v
