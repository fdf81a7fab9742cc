-- The cores of branches, and the ports that they use there.
use Rattle.std.specs.Prelude.{◌≡◌, ◌⊎◌, ℕ, List, Some, slice_get}
use Rattle.xc_kernel.specs.declared.kernel.PortUse.{PortUse}
use Rattle.xc_kernel.specs.Plain as kernel
use Rattle.xc_meaning.specs.States.Branches.{ended, erred, Branch}
use Rattle.xc_kernel.specs.Things.{Thing, port}
use Rattle.xc_invariants.specs.Every.{AllItems, EveryItem, EveryStatements}
use Rattle.xc_invariants.specs.Rules.{AnyPar, AnyTransaction}

-- a port is one of a core
abbrev pub OnCore : kernel.Kernel → ℕ → Thing → Type 0
OnCore K core (port p) = (u : PortUse) → slice_get K.ports p ≡ Some u → u.core ≡ core
OnCore K core other = Unit {0}

-- a branch uses ports of its core alone
abbrev pub UsesHere : kernel.Kernel → Branch → Type 0
UsesHere K b = AllItems (EveryItem (OnCore K b.core) AnyPar AnyTransaction) b.items

pub record IsHere (K : kernel.Kernel) : Type 0 where
  pub roots : (j : ℕ) (r : kernel.Root) → slice_get K.roots j ≡ Some r → EveryStatements (OnCore K r.core) AnyPar AnyTransaction r.body

-- What stays of a branch for ever; one that has ended or erred stays as it is.
pub record IsStill (b c : Branch) : Type 0 where
  pub core : c.core ≡ b.core
  pub sides : c.sides ≡ b.sides
  pub family : c.family ≡ b.family
  pub birth : c.birth ≡ b.birth
  pub stopped : (b.mode ≡ ended) ⊎ (b.mode ≡ erred) → c ≡ b

-- branches stay under their numbers
pub record Grows (bs cs : List Branch) : Type 0 where
  pub still : (n : ℕ) (b : Branch) → slice_get bs n ≡ Some b → (c : Branch) × (slice_get cs n ≡ Some c) × IsStill b c
