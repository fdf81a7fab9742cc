-- How many nodes of expressions, places, exits, branches, inputs, selects, variables to set to 0 and words of these code has.
use Rattle.std.specs.Prelude.{ℕ, ◌+◌, ◌≤◌, List, [], ◌∷◌, Option, Some, None, slice_get}
use Rattle.xc_kernel.specs.declared.kernel.Var.{Var}
use Rattle.xc_kernel.specs.Plain as kernel

-- a reading and its place are one
abbrev mutual
  pub of_expression : kernel.Expression → ℕ
  of_expression (kernel.number v) = 1
  of_expression (kernel.read place) = of_place place
  of_expression (kernel.operation symbol is_unsigned es pos) = of_operands es + 1

  pub of_operands : kernel.Operands → ℕ
  of_operands kernel.no_operand = 0
  of_operands (kernel.more_operands e es) = of_expression e + of_operands es

  pub of_place : kernel.Place → ℕ
  of_place (kernel.word v) = 1
  of_place (kernel.element v i pos) = of_expression i + 1

-- of what may be absent
abbrev pub of_maybe : Option kernel.Expression → ℕ
of_maybe None = 0
of_maybe (Some e) = of_expression e

abbrev pub of_some_place : Option kernel.Place → ℕ
of_some_place None = 0
of_some_place (Some p) = of_place p

abbrev pub of_condition : Option kernel.Condition → ℕ
of_condition None = 0
of_condition (Some w) = of_expression w.value

abbrev pub of_output : kernel.Output → ℕ
of_output o = of_maybe o.time + of_expression o.value + of_some_place o.stamp

-- An input is 1 by itself, since it may have none of these. Also one into nothing, since it has code.
abbrev pub of_input : kernel.Input → ℕ
of_input i =
    of_maybe i.time + of_condition i.condition + of_some_place i.target + of_some_place i.stamp + 1

-- the words of a variable
abbrev pub words_of : Option Var → ℕ
words_of None = 0
words_of (Some v) = v.words

-- by the list of variables
module _ (vs : List Var) where
  abbrev mutual
    pub of_statement : kernel.Statement → ℕ
    of_statement (kernel.set_zero v) = words_of (slice_get vs v) + 1
    of_statement (kernel.set p e) = of_place p + of_expression e
    of_statement (kernel.output o) = of_output o
    of_statement (kernel.input i) = of_input i
    of_statement (kernel.if_then e a b) = of_expression e + of_statements a + of_statements b
    of_statement (kernel.loop e a b) = of_expression e + of_statements a + of_statements b
    of_statement (kernel.block n a) = of_statements a
    of_statement (kernel.exit n) = 1
    of_statement (kernel.select cs d pos) = of_cases cs + of_default d + 1
    of_statement (kernel.par bs) = of_branches bs
    of_statement (kernel.transaction c is_master a start close) = of_statements a

    pub of_statements : kernel.Statements → ℕ
    of_statements kernel.no_more = 0
    of_statements (kernel.more s ss) = of_statement s + of_statements ss

    -- a case is 1 by its input, and so are a `select`, a `default`, a branch and an exit
    pub of_cases : kernel.Cases → ℕ
    of_cases kernel.no_case = 0
    of_cases (kernel.more_cases (kernel.case guard i a) cs) =
        of_maybe guard + of_input i + of_statements a + of_cases cs

    pub of_default : kernel.Default → ℕ
    of_default kernel.no_default = 0
    of_default (kernel.default a) = of_statements a + 1

    pub of_branches : kernel.Branches → ℕ
    of_branches kernel.no_branch = 0
    of_branches (kernel.more_branches (kernel.branch a pos) bs) =
        of_statements a + 1 + of_branches bs

  abbrev pub of_roots : List kernel.Root → ℕ
  of_roots [] = 0
  of_roots (r ∷ rs) = of_statements r.body + 1 + of_roots rs

-- The most parts of what is compiled. Words that are set to 0 count, and before the words of a core are counted (704) there may be too
-- many of them. So the number of parts isn't a part of being well formed. That so many suffice is proved with thirds of a part for
-- each node, statement and word.
abbrev pub most_parts : ℕ
most_parts = 4000000

abbrev pub PartsAreFew : kernel.Kernel → Type 0
PartsAreFew k = of_roots k.variables k.roots ≤ most_parts
