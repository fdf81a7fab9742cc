-- The greatest count of a kernel's statements. A statement counts what it has of expressions, places, cases, branches and words
-- that it sets to 0; the statements that it holds are left out.
use Rattle.std.specs.Prelude.{ℕ, zero, suc, ◌+◌, ◌*◌, max, List, [], ◌∷◌}
use Rattle.xc_tree.specs.Depth.{if_some, highest}
use Rattle.xc_kernel.specs.declared.kernel.Var.{Var}
use Rattle.xc_kernel.specs.Plain as kernel

abbrev mutual
  -- a read and its place count as one
  pub of_expression : kernel.Expression → ℕ
  of_expression (kernel.number v) = 1
  of_expression (kernel.read place) = of_place place
  of_expression (kernel.operation symbol is_unsigned es pos) = suc (of_operands es)

  pub of_operands : kernel.Operands → ℕ
  of_operands kernel.no_operand = 0
  of_operands (kernel.more_operands e es) = of_expression e + of_operands es

  pub of_place : kernel.Place → ℕ
  of_place (kernel.word variable) = 1
  of_place (kernel.element variable index pos) = suc (of_expression index)

abbrev pub of_condition : kernel.Condition → ℕ
of_condition c = of_expression c.value

abbrev pub of_output : kernel.Output → ℕ
of_output o = if_some of_expression o.time + of_expression o.value + if_some of_place o.stamp

abbrev pub of_input : kernel.Input → ℕ
of_input i = if_some of_expression i.time + if_some of_condition i.condition + if_some of_place i.target + if_some of_place i.stamp

-- a case counts one beside its guard and its input
abbrev pub of_cases : kernel.Cases → ℕ
of_cases kernel.no_case = 0
of_cases (kernel.more_cases (kernel.case guard i ss) cs) = suc (if_some of_expression guard + of_input i) + of_cases cs

abbrev pub branch_count : kernel.Branches → ℕ
branch_count kernel.no_branch = 0
branch_count (kernel.more_branches b bs) = suc (branch_count bs)

-- the words of a variable
abbrev pub words_in : List Var → (variable : ℕ) → ℕ
words_in [] v = 0
words_in (w ∷ ws) zero = w.words
words_in (w ∷ ws) (suc v) = words_in ws v

module _ (variables : List Var) where
  abbrev pub of_statement : kernel.Statement → ℕ
  of_statement (kernel.set_zero v) = words_in variables v
  of_statement (kernel.set place e) = of_place place + of_expression e
  of_statement (kernel.output o) = of_output o
  of_statement (kernel.input i) = of_input i
  of_statement (kernel.if_then test a b) = of_expression test
  of_statement (kernel.loop test body next) = of_expression test
  of_statement (kernel.block n ss) = 0
  of_statement (kernel.exit n) = 0
  of_statement (kernel.select cases otherwise pos) = of_cases cases
  of_statement (kernel.par bs) = branch_count bs
  of_statement (kernel.transaction c is_master ss start close) = 0

  -- the greatest count among the statements that a statement holds, and among statements with those that they hold
  abbrev mutual
    pub greatest_held : kernel.Statement → ℕ
    greatest_held (kernel.set_zero v) = 0
    greatest_held (kernel.set place e) = 0
    greatest_held (kernel.output o) = 0
    greatest_held (kernel.input i) = 0
    greatest_held (kernel.if_then test a b) = max (greatest_in a) (greatest_in b)
    greatest_held (kernel.loop test body next) = max (greatest_in body) (greatest_in next)
    greatest_held (kernel.block n ss) = greatest_in ss
    greatest_held (kernel.exit n) = 0
    greatest_held (kernel.select cases otherwise pos) = max (greatest_in_cases cases) (greatest_in_default otherwise)
    greatest_held (kernel.par bs) = greatest_in_branches bs
    greatest_held (kernel.transaction c is_master ss start close) = greatest_in ss

    pub greatest_in : kernel.Statements → ℕ
    greatest_in kernel.no_more = 0
    greatest_in (kernel.more s ss) = max (max (of_statement s) (greatest_held s)) (greatest_in ss)

    pub greatest_in_default : kernel.Default → ℕ
    greatest_in_default kernel.no_default = 0
    greatest_in_default (kernel.default ss) = greatest_in ss

    pub greatest_in_cases : kernel.Cases → ℕ
    greatest_in_cases kernel.no_case = 0
    greatest_in_cases (kernel.more_cases c cs) = max (greatest_in_case c) (greatest_in_cases cs)

    pub greatest_in_case : kernel.Case → ℕ
    greatest_in_case (kernel.case guard i ss) = greatest_in ss

    pub greatest_in_branches : kernel.Branches → ℕ
    greatest_in_branches kernel.no_branch = 0
    greatest_in_branches (kernel.more_branches b bs) = max (greatest_in_branch b) (greatest_in_branches bs)

    pub greatest_in_branch : kernel.Branch → ℕ
    greatest_in_branch (kernel.branch ss pos) = greatest_in ss

  abbrev pub greatest_in_root : kernel.Root → ℕ
  greatest_in_root r = greatest_in r.body

-- the greatest count of a kernel's statements
abbrev pub greatest_count : kernel.Kernel → ℕ
greatest_count K = highest (greatest_in_root K.variables) K.roots

-- a life does at most so many instructions for one step of its family, and as many once more
abbrev pub kernel_bound : kernel.Kernel → ℕ
kernel_bound K = 8 * (greatest_count K + 16)
