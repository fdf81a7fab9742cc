-- What the rules of disjointness leave of a kernel.
use Rattle.std.specs.Prelude.{◌≡◌, ℕ, zero, suc, IsTrue, List, Option, Some, None}
use Rattle.xc_kernel.specs.Plain as kernel
use Rattle.xc_meaning.specs.States.Items.{Item}
use Rattle.xc_kernel.specs.Things.{Thing, by_statements}
use Rattle.xc_kernel.specs.Branches.{branches_of}
use Rattle.xc_disjoint.specs.Clashes.{Clash}
use Rattle.xc_meaning.specs.Uses.{by_items}
use Rattle.xc_invariants.specs.Every.{EveryBranches}

-- items that hold no two uses that clash
pub record AreApart (a b : List Item) : Type 0 where
  pub clash : (t u : Thing) → Clash t u → IsTrue (by_items t a) → IsTrue (by_items u b) → ⊥

pub record CodesApart (a b : kernel.Statements) : Type 0 where
  pub clash : (t u : Thing) → Clash t u → IsTrue (by_statements t a) → IsTrue (by_statements u b) → ⊥

-- the branch at a place of a `par`
abbrev pub code_at : kernel.Branches → ℕ → Option kernel.Statements
code_at kernel.no_branch i = None
code_at (kernel.more_branches (kernel.branch ss pos) bs) zero = Some ss
code_at (kernel.more_branches b bs) (suc i) = code_at bs i

-- in a `par`, no two branches clash
pub record AllApart (bs : kernel.Branches) : Type 0 where
  pub apart : (i j : ℕ) (a b : kernel.Statements) → (i ≡ j → ⊥) → code_at bs i ≡ Some a → code_at bs j ≡ Some b → CodesApart a b

abbrev pub AnyThing : Thing → Type 0
AnyThing th = Unit {0}

abbrev pub AnyPar : kernel.Branches → Type 0
AnyPar bs = Unit {0}

abbrev pub AnyTransaction : ℕ → kernel.Statements → Type 0
AnyTransaction c ss = Unit {0}

-- a kernel is so at its roots, and in each `par`
pub record IsApart (K : kernel.Kernel) : Type 0 where
  pub roots : AllApart (branches_of K.roots)
  pub inside : EveryBranches AnyThing AllApart AnyTransaction (branches_of K.roots)
