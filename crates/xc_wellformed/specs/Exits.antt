-- Blocks, and what leaves them.
use Rattle.std.specs.Prelude.{◌≡◌, ℕ, true, false, List, [], ◌∷◌}
use Rattle.xc_tree.specs.Types.Words.{is_among}
use Rattle.xc_kernel.specs.Plain as kernel

-- Code with the blocks of these numbers around it, of which it may leave some: those around it in
-- the same branch and transaction. A block has another number than each around it.
abbrev mutual
  pub LeavesIn : (around free : List ℕ) → kernel.Statement → Type 0
  LeavesIn around free (kernel.set_zero v) = Unit {0}
  LeavesIn around free (kernel.set p e) = Unit {0}
  LeavesIn around free (kernel.output o) = Unit {0}
  LeavesIn around free (kernel.input i) = Unit {0}
  LeavesIn around free (kernel.if_then e a b) = AllLeaveIn around free a × AllLeaveIn around free b
  LeavesIn around free (kernel.loop e a b) = AllLeaveIn around free a × AllLeaveIn around free b
  LeavesIn around free (kernel.block n a) =
      (is_among around n ≡ false) × AllLeaveIn (n ∷ around) (n ∷ free) a
  LeavesIn around free (kernel.exit n) = is_among free n ≡ true
  LeavesIn around free (kernel.select cs d pos) =
      CasesLeaveIn around free cs × DefaultLeavesIn around free d
  LeavesIn around free (kernel.par bs) = BranchesLeaveIn around bs
  LeavesIn around free (kernel.transaction c is_master a start close) = AllLeaveIn around [] a

  pub AllLeaveIn : (around free : List ℕ) → kernel.Statements → Type 0
  AllLeaveIn around free kernel.no_more = Unit {0}
  AllLeaveIn around free (kernel.more s ss) = LeavesIn around free s × AllLeaveIn around free ss

  pub CasesLeaveIn : (around free : List ℕ) → kernel.Cases → Type 0
  CasesLeaveIn around free kernel.no_case = Unit {0}
  CasesLeaveIn around free (kernel.more_cases (kernel.case guard i a) cs) =
      AllLeaveIn around free a × CasesLeaveIn around free cs

  pub DefaultLeavesIn : (around free : List ℕ) → kernel.Default → Type 0
  DefaultLeavesIn around free kernel.no_default = Unit {0}
  DefaultLeavesIn around free (kernel.default a) = AllLeaveIn around free a

  -- A branch may leave no block around its `par`. Its blocks have other numbers than those around the `par` too, though no exit could
  -- mean those.
  pub BranchesLeaveIn : (around : List ℕ) → kernel.Branches → Type 0
  BranchesLeaveIn around kernel.no_branch = Unit {0}
  BranchesLeaveIn around (kernel.more_branches (kernel.branch a pos) bs) =
      AllLeaveIn around [] a × BranchesLeaveIn around bs

-- around a root there is nothing
abbrev pub EachRootLeaves : List kernel.Root → Type 0
EachRootLeaves [] = Unit {0}
EachRootLeaves (r ∷ rs) = AllLeaveIn [] [] r.body × EachRootLeaves rs

abbrev pub ExitsAreInside : kernel.Kernel → Type 0
ExitsAreInside k = EachRootLeaves k.roots
