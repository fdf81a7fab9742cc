-- What statements use: variables, ports, timers and channels. An occurrence is a use; what is passed on to a function isn't, and an
-- array is one variable.
use Rattle.std.specs.Prelude.{ℕ, Bool, false, ◌||◌, Option, Some, None, nat_eq}
use Rattle.xc_kernel.specs.declared.statement.KRes.{KRes}
use Rattle.xc_kernel.specs.declared.statement.KRes.TheVariants.{Port, Timer, Chan}
use Rattle.xc_kernel.specs.Plain as kernel

pub data Thing : Type 0 where
  -- a variable is read or changed
  variable : ℕ → Thing
  -- a variable is changed
  change : ℕ → Thing
  port : ℕ → Thing
  timer : ℕ → Thing
  channel : ℕ → Thing

-- Whether this is what is used where a variable is read, or changed, or a resource is used.

abbrev pub by_read : Thing → ℕ → Bool
by_read (variable w) v = nat_eq w v
by_read other v = false

abbrev pub by_change : Thing → ℕ → Bool
by_change (variable w) v = nat_eq w v
by_change (change w) v = nat_eq w v
by_change other v = false

abbrev pub by_channel : Thing → ℕ → Bool
by_channel (channel d) c = nat_eq d c
by_channel other c = false

abbrev pub by_resource : Thing → KRes → Bool
by_resource (port q) (Port p) = nat_eq q p
by_resource (timer u) (Timer t) = nat_eq u t
by_resource (channel d) (Chan c) = nat_eq d c
by_resource th r = false

-- Whether this is used by code.

abbrev mutual
  pub by_expression : Thing → kernel.Expression → Bool
  by_expression th (kernel.number v) = false
  by_expression th (kernel.read place) = by_place th place
  by_expression th (kernel.operation symbol is_unsigned es pos) = by_operands th es

  pub by_operands : Thing → kernel.Operands → Bool
  by_operands th kernel.no_operand = false
  by_operands th (kernel.more_operands e es) = by_expression th e || by_operands th es

  pub by_place : Thing → kernel.Place → Bool
  by_place th (kernel.word v) = by_read th v
  by_place th (kernel.element v index pos) = by_read th v || by_expression th index

-- what is stored at a place changes its variable
abbrev pub by_target : Thing → kernel.Place → Bool
by_target th (kernel.word v) = by_change th v
by_target th (kernel.element v index pos) = by_change th v || by_expression th index

abbrev pub by_some_target : Thing → Option kernel.Place → Bool
by_some_target th None = false
by_some_target th (Some place) = by_target th place

abbrev pub by_some_expression : Thing → Option kernel.Expression → Bool
by_some_expression th None = false
by_some_expression th (Some e) = by_expression th e

abbrev pub by_condition : Thing → Option kernel.Condition → Bool
by_condition th None = false
by_condition th (Some c) = by_expression th c.value

abbrev pub by_output : Thing → kernel.Output → Bool
by_output th o = by_resource th o.resource || (by_some_expression th o.time || (by_expression th o.value || by_some_target th o.stamp))

abbrev pub by_input : Thing → kernel.Input → Bool
by_input th i =
    by_resource th i.resource || (by_some_expression th i.time || (by_condition th i.condition || (by_some_target th i.target || by_some_target th i.stamp)))

abbrev mutual
  -- To set a declared variable to 0 counts as a change. Such a variable is known in its branch alone, so no text is refused by it, and
  -- the laws of runs want it.
  pub by_statement : Thing → kernel.Statement → Bool
  by_statement th (kernel.set_zero v) = by_change th v
  by_statement th (kernel.set place e) = by_target th place || by_expression th e
  by_statement th (kernel.output o) = by_output th o
  by_statement th (kernel.input i) = by_input th i
  by_statement th (kernel.if_then e a b) = by_expression th e || (by_statements th a || by_statements th b)
  by_statement th (kernel.loop e a b) = by_expression th e || (by_statements th a || by_statements th b)
  by_statement th (kernel.block n a) = by_statements th a
  by_statement th (kernel.exit n) = false
  by_statement th (kernel.select cs d pos) = by_cases th cs || by_default th d
  by_statement th (kernel.par bs) = by_branches th bs
  by_statement th (kernel.transaction c is_master a start close) = by_channel th c || by_statements th a

  pub by_statements : Thing → kernel.Statements → Bool
  by_statements th kernel.no_more = false
  by_statements th (kernel.more s ss) = by_statement th s || by_statements th ss

  pub by_case : Thing → kernel.Case → Bool
  by_case th (kernel.case guard i a) = by_some_expression th guard || (by_input th i || by_statements th a)

  pub by_cases : Thing → kernel.Cases → Bool
  by_cases th kernel.no_case = false
  by_cases th (kernel.more_cases c cs) = by_case th c || by_cases th cs

  pub by_default : Thing → kernel.Default → Bool
  by_default th kernel.no_default = false
  by_default th (kernel.default a) = by_statements th a

  pub by_branch : Thing → kernel.Branch → Bool
  by_branch th (kernel.branch a pos) = by_statements th a

  pub by_branches : Thing → kernel.Branches → Bool
  by_branches th kernel.no_branch = false
  by_branches th (kernel.more_branches b bs) = by_branch th b || by_branches th bs
