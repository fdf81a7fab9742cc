-- Copies in which no two instances have one path.
use Rattle.std.specs.Prelude.{◌≡◌, List, [], ◌∷◌}
use Rattle.xc_kernel.specs.Paths.{Path}
use Rattle.xc_kernel.specs.Numbering.{path_of_variable, path_of_channel, path_of_timer, path_of_block}
use Rattle.xc_kernel.specs.Copy.{Copy}

-- none of some instances has this path
abbrev pub NoneAt : {V : Type 0} → (V → Path) → Path → List V → Type 0
NoneAt path_of path [] = Unit {0}
NoneAt path_of path (x ∷ xs) = (path_of x ≡ path → ⊥) × NoneAt path_of path xs

-- no two of them have one path
abbrev pub PathsDiffer : {V : Type 0} → (V → Path) → List V → Type 0
PathsDiffer path_of [] = Unit {0}
PathsDiffer path_of (x ∷ xs) = NoneAt path_of (path_of x) xs × PathsDiffer path_of xs

-- Two instances are alike in nothing that paths don't say. Nothing in the copy rule rests on it.
pub record NoneTwice (copy : Copy) : Type 0 where
  pub variables : PathsDiffer path_of_variable copy.variables
  pub channels : PathsDiffer path_of_channel copy.channels
  pub timers : PathsDiffer path_of_timer copy.timers
  pub blocks : PathsDiffer path_of_block copy.blocks
