-- What the rules on transactions leave of a kernel: in a transaction its channel is used by outputs and inputs alone.
use Rattle.std.specs.Prelude.{◌≡◌, ℕ, Bool, false, ◌||◌}
use Rattle.xc_kernel.specs.Plain as kernel
use Rattle.xc_kernel.specs.Things.{channel, by_channel, by_statements, by_cases, by_default, by_branches}
use Rattle.xc_kernel.specs.Branches.{branches_of}
use Rattle.xc_invariants.specs.Rules.{AnyThing, AnyPar}
use Rattle.xc_invariants.specs.Every.{EveryBranches}

-- whether a `par`, a `select` or a transaction in code uses a channel
abbrev mutual
  pub nested_use : ℕ → kernel.Statement → Bool
  nested_use c (kernel.set_zero v) = false
  nested_use c (kernel.set place e) = false
  nested_use c (kernel.output o) = false
  nested_use c (kernel.input i) = false
  nested_use c (kernel.if_then e a b) = nested_uses c a || nested_uses c b
  nested_use c (kernel.loop e a b) = nested_uses c a || nested_uses c b
  nested_use c (kernel.block n a) = nested_uses c a
  nested_use c (kernel.exit n) = false
  nested_use c (kernel.select cs d pos) = by_cases (channel c) cs || by_default (channel c) d
  nested_use c (kernel.par bs) = by_branches (channel c) bs
  nested_use c (kernel.transaction d is_master a start close) = by_channel (channel c) d || by_statements (channel c) a

  pub nested_uses : ℕ → kernel.Statements → Bool
  nested_uses c kernel.no_more = false
  nested_uses c (kernel.more s ss) = nested_use c s || nested_uses c ss

-- none of them does in the body of a transaction on this channel
abbrev pub SpeaksAlone : ℕ → kernel.Statements → Type 0
SpeaksAlone c ss = nested_uses c ss ≡ false

-- each transaction of a kernel is so
pub record TransactionsAreTidy (K : kernel.Kernel) : Type 0 where
  pub tidy : EveryBranches AnyThing AnyPar SpeaksAlone (branches_of K.roots)
