-- The channels that a kernel uses are those of its list.
use Rattle.std.specs.Prelude.{ℕ, ◌<◌, length}
use Rattle.xc_kernel.specs.Plain as kernel
use Rattle.xc_kernel.specs.Branches.{branches_of, uses_in}
use Rattle.xc_invariants.specs.Rules.{AnyThing, AnyPar}
use Rattle.xc_invariants.specs.Every.{EveryBranches}

-- a channel is used in the kernel's list alone
pub record IsListed (K : kernel.Kernel) : Type 0 where
  pub listed : (c : ℕ) → 0 < uses_in c (branches_of K.roots) → c < length K.channels

-- so are the channels of transactions
pub record TransactionsListed (K : kernel.Kernel) : Type 0 where
  pub listed : EveryBranches AnyThing AnyPar (λ c ss. c < length K.channels) (branches_of K.roots)
