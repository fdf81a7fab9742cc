-- Kernels that are well formed, so that they can be compiled.
use Rattle.xc_kernel.specs.Plain as kernel
use Rattle.xc_wellformed.specs.Numbers.{VariablesAreRight}
use Rattle.xc_wellformed.specs.Operands.{OperandsAreRight}
use Rattle.xc_wellformed.specs.Levels.{LevelsAreFew}
use Rattle.xc_wellformed.specs.Transfers.{TransfersAreRight, TransactionsAreListed}
use Rattle.xc_wellformed.specs.Exits.{ExitsAreInside}
use Rattle.xc_wellformed.specs.Cores.{CoresAreRight}

pub record IsWellFormed (k : kernel.Kernel) : Type 0 where
  -- each word is of a listed variable of one word that is no array, and each element of an array
  pub variables : VariablesAreRight k
  -- each operation has as many operands as its symbol takes
  pub operands : OperandsAreRight k
  -- each expression is at most 400 levels deep
  pub levels : LevelsAreFew k
  -- each output and input goes through a listed port of its direction, timer or channel, and waits
  -- for what that can tell
  pub transfers : TransfersAreRight k
  -- each transaction is on a listed channel
  pub transactions : TransactionsAreListed k
  -- what is left is a block around, in the same branch and transaction, and no two blocks around
  -- one place have one number
  pub exits : ExitsAreInside k
  -- each timer that a root uses is on the root's core, and so is each variable that no root on
  -- another core changes
  pub cores : CoresAreRight k
