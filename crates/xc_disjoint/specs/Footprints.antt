-- What code uses beside channels, as functions of the thing, so that sets of numbers are one of them.
use Rattle.std.specs.Prelude.{ℕ, Bool, false, ◌||◌, IsTrue, List, Option, Some, None, nat_eq}
use Rattle.std.specs.List.{list_any}
use Rattle.xc_kernel.specs.declared.statement.KRes.{KRes}
use Rattle.xc_kernel.specs.declared.statement.KRes.TheVariants.{Port, Timer, Chan}
use Rattle.xc_kernel.specs.Plain as kernel
use Rattle.xc_kernel.specs.Things.{Thing, variable, change, port, timer, channel, by_read, by_change}
use Rattle.xc_disjoint.specs.declared.footprint.Footprint.{Footprint}

abbrev pub Uses : Type 0
Uses = Thing → Bool

unfoldable pub nothing : Uses
nothing th = false

unfoldable pub both : Uses → Uses → Uses
both f g th = f th || g th

-- a variable that is read, and one that is changed
unfoldable pub read_of : ℕ → Uses
read_of v th = by_read th v

unfoldable pub change_of : ℕ → Uses
change_of v th = by_change th v

-- `port_of` and `timer_of`, by the thing
abbrev pub is_port : Thing → ℕ → Bool
is_port (port q) p = nat_eq q p
is_port other p = false

abbrev pub is_timer : Thing → ℕ → Bool
is_timer (timer u) t = nat_eq u t
is_timer other t = false

unfoldable pub port_of : ℕ → Uses
port_of p th = is_port th p

unfoldable pub timer_of : ℕ → Uses
timer_of t th = is_timer th t

abbrev pub of_resource : KRes → Uses
of_resource (Port p) = port_of p
of_resource (Timer t) = timer_of t
of_resource (Chan c) = nothing

-- sets of numbers

abbrev pub Numbers : Type 0
Numbers = ℕ → Bool

unfoldable pub members : List ℕ → Numbers
members ns n = list_any (nat_eq n) ns

unfoldable pub with_one : Numbers → ℕ → Numbers
with_one f n m = f m || nat_eq m n

unfoldable pub with_all : Numbers → Numbers → Numbers
with_all f g m = f m || g m

-- a number that two sets have
pub record Meet (xs ys : List ℕ) : Type 0 where
  pub n : ℕ
  pub one : IsTrue (members xs n)
  pub other : IsTrue (members ys n)

-- by the sets of a footprint
abbrev pub used_by : Footprint → Thing → Bool
used_by f (variable v) = members f.used.keys v
used_by f (change v) = members f.changed.keys v
used_by f (port p) = members f.ports.keys p
used_by f (timer t) = members f.timers.keys t
used_by f (channel c) = false

unfoldable pub uses_in : Footprint → Uses
uses_in f th = used_by f th

-- of code, in the order of a walk

abbrev mutual
  pub of_expression : kernel.Expression → Uses
  of_expression (kernel.number v) = nothing
  of_expression (kernel.read place) = of_place place
  of_expression (kernel.operation symbol is_unsigned es pos) = of_operands es

  pub of_operands : kernel.Operands → Uses
  of_operands kernel.no_operand = nothing
  of_operands (kernel.more_operands e es) = both (of_expression e) (of_operands es)

  pub of_place : kernel.Place → Uses
  of_place (kernel.word v) = read_of v
  of_place (kernel.element v index pos) = both (read_of v) (of_expression index)

abbrev pub of_target : kernel.Place → Uses
of_target (kernel.word v) = change_of v
of_target (kernel.element v index pos) = both (change_of v) (of_expression index)

abbrev pub of_some_target : Option kernel.Place → Uses
of_some_target None = nothing
of_some_target (Some place) = of_target place

abbrev pub of_some_expression : Option kernel.Expression → Uses
of_some_expression None = nothing
of_some_expression (Some e) = of_expression e

abbrev pub of_condition : Option kernel.Condition → Uses
of_condition None = nothing
of_condition (Some c) = of_expression c.value

abbrev pub of_output : kernel.Output → Uses
of_output o = both (of_resource o.resource) (both (of_some_expression o.time) (both (of_expression o.value) (of_some_target o.stamp)))

abbrev pub of_input : kernel.Input → Uses
of_input i =
    both (of_resource i.resource) (both (of_some_expression i.time) (both (of_condition i.condition) (both (of_some_target i.target) (of_some_target i.stamp))))

abbrev mutual
  pub of_statement : kernel.Statement → Uses
  of_statement (kernel.set_zero v) = change_of v
  of_statement (kernel.set place e) = both (of_target place) (of_expression e)
  of_statement (kernel.output o) = of_output o
  of_statement (kernel.input i) = of_input i
  of_statement (kernel.if_then e a b) = both (of_expression e) (both (of_statements a) (of_statements b))
  of_statement (kernel.loop e a b) = both (of_expression e) (both (of_statements a) (of_statements b))
  of_statement (kernel.block n a) = of_statements a
  of_statement (kernel.exit n) = nothing
  of_statement (kernel.select cs d pos) = both (of_cases cs) (of_default d)
  of_statement (kernel.par bs) = of_branches bs
  of_statement (kernel.transaction c is_master a start close) = of_statements a

  pub of_statements : kernel.Statements → Uses
  of_statements kernel.no_more = nothing
  of_statements (kernel.more s ss) = both (of_statement s) (of_statements ss)

  pub of_case : kernel.Case → Uses
  of_case (kernel.case guard i a) = both (of_some_expression guard) (both (of_input i) (of_statements a))

  pub of_cases : kernel.Cases → Uses
  of_cases kernel.no_case = nothing
  of_cases (kernel.more_cases c cs) = both (of_case c) (of_cases cs)

  pub of_default : kernel.Default → Uses
  of_default kernel.no_default = nothing
  of_default (kernel.default a) = of_statements a

  pub of_branch : kernel.Branch → Uses
  of_branch (kernel.branch a pos) = of_statements a

  pub of_branches : kernel.Branches → Uses
  of_branches kernel.no_branch = nothing
  of_branches (kernel.more_branches b bs) = both (of_branch b) (of_branches bs)
