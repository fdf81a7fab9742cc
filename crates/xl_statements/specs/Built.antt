-- The statements whose code is built so far, and how much code they have.
use Rattle.std.specs.Prelude.{ℕ, ◌+◌, ◌*◌, ◌≤◌, List, [], length, map, Option}
use Rattle.xc_kernel.specs.declared.statement.KRes.{KRes}
use Rattle.xc_kernel.specs.declared.statement.KRes.TheVariants.{Port, Timer, Chan}
use Rattle.xc_kernel.specs.declared.statement.Kst.{Kst}
use Rattle.xc_kernel.specs.declared.statement.KBranch.{KBranch}
use Rattle.xc_kernel.specs.Kernels.{branch_of, statement_of}
use Rattle.xc_kernel.specs.Plain as kernel
use Rattle.xc_meaning.specs.Counts.KernelCounts.{branch_count}
use Rattle.xl_expr.specs.declared.plan.VarPlan.{VarPlan}
use Rattle.xl_expr.specs.Measures.{nodes, nodes_at, depth, depth_at}
use Rattle.xl_expr.specs.Plans.{var_in}
use Rattle.xl_flow.specs.Zeros.{room_of}
use Rattle.xl_port.specs.Inputs.{input_depth, input_nodes}
use Rattle.xl_port.specs.Outputs.{output_depth, output_nodes}
use Rattle.xl_select.specs.Entry.{entry_depth, entry_nodes}
use Rattle.xl_select.specs.OpeningCode.{cases_depth, cases_parts, resources_from}

-- the statements that a list stands for
abbrev pub statements_of : List Kst → kernel.Statements
statements_of ss = kernel.statements (map statement_of ss)

-- and the branches
abbrev pub branches_of : List KBranch → kernel.Branches
branches_of bs = kernel.branches (map branch_of bs)

-- an output goes to a port or a channel
abbrev pub IsSent : KRes → Type 0
IsSent (Port p) = Unit {0}
IsSent (Timer t) = ⊥
IsSent (Chan c) = Unit {0}

-- no transaction, and each output goes to a port or a channel
abbrev mutual
  pub IsBuilt : kernel.Statement → Type 0
  IsBuilt (kernel.set_zero v) = Unit {0}
  IsBuilt (kernel.set place x) = Unit {0}
  IsBuilt (kernel.output o) = IsSent o.resource
  IsBuilt (kernel.input i) = Unit {0}
  IsBuilt (kernel.if_then x a b) = AreBuilt a × AreBuilt b
  IsBuilt (kernel.loop x a b) = AreBuilt a × AreBuilt b
  IsBuilt (kernel.block n a) = AreBuilt a
  IsBuilt (kernel.exit n) = Unit {0}
  IsBuilt (kernel.select cs otherwise pos) = CasesAreBuilt cs × DefaultIsBuilt otherwise
  IsBuilt (kernel.par bs) = BranchesAreBuilt bs
  IsBuilt (kernel.transaction c is_master a start close) = ⊥

  pub AreBuilt : kernel.Statements → Type 0
  AreBuilt kernel.no_more = Unit {0}
  AreBuilt (kernel.more s ss) = IsBuilt s × AreBuilt ss

  pub CasesAreBuilt : kernel.Cases → Type 0
  CasesAreBuilt kernel.no_case = Unit {0}
  CasesAreBuilt (kernel.more_cases (kernel.case guard i ss) cs) = AreBuilt ss × CasesAreBuilt cs

  pub DefaultIsBuilt : kernel.Default → Type 0
  DefaultIsBuilt kernel.no_default = Unit {0}
  DefaultIsBuilt (kernel.default ss) = AreBuilt ss

  pub BranchesAreBuilt : kernel.Branches → Type 0
  BranchesAreBuilt kernel.no_branch = Unit {0}
  BranchesAreBuilt (kernel.more_branches (kernel.branch ss pos) bs) = AreBuilt ss × BranchesAreBuilt bs

-- the most levels of an expression or place
abbrev pub most_levels : ℕ
most_levels = 400

-- each expression and place is shallow; of what isn't built nothing is said
abbrev mutual
  pub IsShallow : kernel.Statement → Type 0
  IsShallow (kernel.set place x) = (depth_at place ≤ most_levels) × (depth x ≤ most_levels)
  IsShallow (kernel.output o) = output_depth o ≤ most_levels
  IsShallow (kernel.input i) = input_depth i ≤ most_levels
  IsShallow (kernel.if_then x a b) = (depth x ≤ most_levels) × AreShallow a × AreShallow b
  IsShallow (kernel.loop x a b) = (depth x ≤ most_levels) × AreShallow a × AreShallow b
  IsShallow (kernel.block n a) = AreShallow a
  IsShallow (kernel.select cs otherwise pos) = (cases_depth cs ≤ most_levels) × CasesAreShallow cs × DefaultIsShallow otherwise
  IsShallow (kernel.par bs) = BranchesAreShallow bs
  IsShallow other = Unit {0}

  pub AreShallow : kernel.Statements → Type 0
  AreShallow kernel.no_more = Unit {0}
  AreShallow (kernel.more s ss) = IsShallow s × AreShallow ss

  -- what a case stores, and its body
  pub CasesAreShallow : kernel.Cases → Type 0
  CasesAreShallow kernel.no_case = Unit {0}
  CasesAreShallow (kernel.more_cases (kernel.case guard i ss) cs) =
      (entry_depth i ≤ most_levels) × AreShallow ss × CasesAreShallow cs

  pub DefaultIsShallow : kernel.Default → Type 0
  DefaultIsShallow kernel.no_default = Unit {0}
  DefaultIsShallow (kernel.default ss) = AreShallow ss

  pub BranchesAreShallow : kernel.Branches → Type 0
  BranchesAreShallow kernel.no_branch = Unit {0}
  BranchesAreShallow (kernel.more_branches (kernel.branch ss pos) bs) = AreShallow ss × BranchesAreShallow bs

-- the most branches of a `par`: as many as a core has threads
abbrev pub most_branches : ℕ
most_branches = 8

-- the most resources that a select names: as many as it has flags, more than a core has ports, timers and channel ends
abbrev pub most_resources : ℕ
most_resources = 112

-- no `par` has more branches, and no select names more resources; of what isn't built nothing is said
abbrev mutual
  pub IsNarrow : kernel.Statement → Type 0
  IsNarrow (kernel.if_then x a b) = AreNarrow a × AreNarrow b
  IsNarrow (kernel.loop x a b) = AreNarrow a × AreNarrow b
  IsNarrow (kernel.block n a) = AreNarrow a
  IsNarrow (kernel.select cs otherwise pos) =
      (length (resources_from [] cs) ≤ most_resources) × CasesAreNarrow cs × DefaultIsNarrow otherwise
  IsNarrow (kernel.par bs) = (branch_count bs ≤ most_branches) × BranchesAreNarrow bs
  IsNarrow other = Unit {0}

  pub AreNarrow : kernel.Statements → Type 0
  AreNarrow kernel.no_more = Unit {0}
  AreNarrow (kernel.more s ss) = IsNarrow s × AreNarrow ss

  pub CasesAreNarrow : kernel.Cases → Type 0
  CasesAreNarrow kernel.no_case = Unit {0}
  CasesAreNarrow (kernel.more_cases (kernel.case guard i ss) cs) = AreNarrow ss × CasesAreNarrow cs

  pub DefaultIsNarrow : kernel.Default → Type 0
  DefaultIsNarrow kernel.no_default = Unit {0}
  DefaultIsNarrow (kernel.default ss) = AreNarrow ss

  pub BranchesAreNarrow : kernel.Branches → Type 0
  BranchesAreNarrow kernel.no_branch = Unit {0}
  BranchesAreNarrow (kernel.more_branches (kernel.branch ss pos) bs) = AreNarrow ss × BranchesAreNarrow bs

-- the most instructions that a statement has, by where the variables stand
module _ (vars : List (Option VarPlan)) where
  abbrev mutual
    -- A `par` has 13 instructions for each branch, beside those of the branch and its end.
    pub most : kernel.Statement → ℕ
    most (kernel.set_zero v) = room_of (var_in vars v)
    most (kernel.set place x) = 8 * (nodes x + nodes_at place)
    most (kernel.output o) = 8 * output_nodes o + 8
    most (kernel.input i) = 8 * input_nodes i + 8
    most (kernel.if_then x a b) = 8 * nodes x + most_of_all a + most_of_all b + 2
    most (kernel.loop x a b) = 8 * nodes x + most_of_all a + most_of_all b + 2
    most (kernel.block n a) = most_of_all a
    most (kernel.exit n) = 1
    -- a select's opening has at most 8 for each part of its cases, and eight more
    most (kernel.select cs otherwise pos) = 8 * cases_parts cs + 8 + most_of_cases cs + most_of_default otherwise
    most (kernel.par bs) = most_of_branches bs + 13 * branch_count bs
    most other = 0

    pub most_of_all : kernel.Statements → ℕ
    most_of_all kernel.no_more = 0
    most_of_all (kernel.more s ss) = most s + most_of_all ss

    -- what a case begins with, its body, and a jump
    pub most_of_cases : kernel.Cases → ℕ
    most_of_cases kernel.no_case = 0
    most_of_cases (kernel.more_cases (kernel.case guard i ss) cs) = 8 * entry_nodes i + 7 + most_of_all ss + most_of_cases cs

    pub most_of_default : kernel.Default → ℕ
    most_of_default kernel.no_default = 0
    most_of_default (kernel.default ss) = most_of_all ss

    -- a branch's statements, and what ends it
    pub most_of_branches : kernel.Branches → ℕ
    most_of_branches kernel.no_branch = 0
    most_of_branches (kernel.more_branches (kernel.branch ss pos) bs) = most_of_all ss + 1 + most_of_branches bs
