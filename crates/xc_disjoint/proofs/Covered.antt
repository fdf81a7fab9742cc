-- The uses of code that a footprint keeps are those by the test, of all things but channels.
use Rattle.std.proofs.Common.{◌≡◌, ℕ, Bool, ◌||◌, Option, Some, None, refl, ap, ap₂}
use Rattle.xc_kernel.specs.declared.statement.KRes.{KRes}
use Rattle.xc_kernel.specs.declared.statement.KRes.TheVariants as resource
use Rattle.xc_kernel.specs.Plain as kernel
use Rattle.xc_kernel.specs.Things as things
use Rattle.xc_kernel.specs.Things.{Thing, variable, change, port, timer, channel, by_resource}
use Rattle.xc_disjoint.specs.Clashes.{Clash, changed, used, of_port, of_timer}
use Rattle.xc_disjoint.specs.Footprints.{nothing, both, read_of, change_of, port_of, timer_of, of_resource, of_expression, of_operands, of_place, of_target, of_some_target, of_some_expression, of_condition, of_output, of_input, of_statement, of_statements, of_case, of_cases, of_default, of_branch, of_branches}

-- everything but a channel
abbrev IsKept : Thing → Type 0
IsKept (channel c) = ⊥
IsKept th = Unit {0}

module _ (th : Thing) (kept : IsKept th) where
  two : (a b x y : Bool) → a ≡ x → b ≡ y → (a || b) ≡ (x || y)
  two a b x y e f = ap₂ ◌||◌ e f

  by_the_resource : (t : Thing) → IsKept t → (r : KRes) → of_resource r t ≡ by_resource t r
  unfolding nothing port_of timer_of
  by_the_resource (variable v) k (resource.Port p) = refl
  by_the_resource (change v) k (resource.Port p) = refl
  by_the_resource (port q) k (resource.Port p) = refl
  by_the_resource (timer u) k (resource.Port p) = refl
  by_the_resource (channel c) k r = absurd k
  by_the_resource (variable v) k (resource.Timer t) = refl
  by_the_resource (change v) k (resource.Timer t) = refl
  by_the_resource (port q) k (resource.Timer t) = refl
  by_the_resource (timer u) k (resource.Timer t) = refl
  by_the_resource (variable v) k (resource.Chan c) = refl
  by_the_resource (change v) k (resource.Chan c) = refl
  by_the_resource (port q) k (resource.Chan c) = refl
  by_the_resource (timer u) k (resource.Chan c) = refl

  no_channel : (t : Thing) → IsKept t → (c : ℕ) (x y : Bool) → x ≡ y → x ≡ (things.by_channel t c || y)
  no_channel (variable v) k c x y e = e
  no_channel (change v) k c x y e = e
  no_channel (port q) k c x y e = e
  no_channel (timer u) k c x y e = e
  no_channel (channel d) k c x y e = absurd k

  mutual
    unfolding nothing both read_of

    expression : (e : kernel.Expression) → of_expression e th ≡ things.by_expression th e
    expression (kernel.number v) = refl
    expression (kernel.read p) = place p
    expression (kernel.operation symbol is_unsigned es pos) = operands es

    operands : (es : kernel.Operands) → of_operands es th ≡ things.by_operands th es
    operands kernel.no_operand = refl
    operands (kernel.more_operands e es) = ap₂ ◌||◌ (expression e) (operands es)

    place : (p : kernel.Place) → of_place p th ≡ things.by_place th p
    place (kernel.word v) = refl
    place (kernel.element v index pos) = ap (λ x. things.by_read th v || x) (expression index)

  target : (p : kernel.Place) → of_target p th ≡ things.by_target th p
  unfolding both change_of
  target (kernel.word v) = refl
  target (kernel.element v index pos) = ap (λ x. things.by_change th v || x) (expression index)

  some_target : (p : Option kernel.Place) → of_some_target p th ≡ things.by_some_target th p
  unfolding nothing
  some_target None = refl
  some_target (Some p) = target p

  some_expression : (e : Option kernel.Expression) → of_some_expression e th ≡ things.by_some_expression th e
  unfolding nothing
  some_expression None = refl
  some_expression (Some e) = expression e

  condition : (c : Option kernel.Condition) → of_condition c th ≡ things.by_condition th c
  unfolding nothing
  condition None = refl
  condition (Some c) = expression c.value

  output : (o : kernel.Output) → of_output o th ≡ things.by_output th o
  unfolding both
  output o = ap₂ ◌||◌ (by_the_resource th kept o.resource) (ap₂ ◌||◌ (some_expression o.time) (ap₂ ◌||◌ (expression o.value) (some_target o.stamp)))

  input : (i : kernel.Input) → of_input i th ≡ things.by_input th i
  unfolding both
  input head = ap₂ ◌||◌ (by_the_resource th kept head.resource) (ap₂ ◌||◌ (some_expression head.time) (ap₂ ◌||◌ (condition head.condition) (ap₂ ◌||◌ (some_target head.target) (some_target head.stamp))))

  mutual
    unfolding nothing both change_of

    statement : (s : kernel.Statement) → of_statement s th ≡ things.by_statement th s
    statement (kernel.set_zero v) = refl
    statement (kernel.set p e) = ap₂ ◌||◌ (target p) (expression e)
    statement (kernel.output o) = output o
    statement (kernel.input head) = input head
    statement (kernel.if_then e a b) = ap₂ ◌||◌ (expression e) (ap₂ ◌||◌ (statements a) (statements b))
    statement (kernel.loop e a b) = ap₂ ◌||◌ (expression e) (ap₂ ◌||◌ (statements a) (statements b))
    statement (kernel.block n a) = statements a
    statement (kernel.exit n) = refl
    statement (kernel.select cs d pos) = ap₂ ◌||◌ (cases cs) (default d)
    statement (kernel.par bs) = branches bs
    statement (kernel.transaction c is_master a start close) = no_channel th kept c (of_statements a th) (things.by_statements th a) (statements a)

    pub statements : (ss : kernel.Statements) → of_statements ss th ≡ things.by_statements th ss
    statements kernel.no_more = refl
    statements (kernel.more s ss) = ap₂ ◌||◌ (statement s) (statements ss)

    case : (c : kernel.Case) → of_case c th ≡ things.by_case th c
    case (kernel.case guard head a) = ap₂ ◌||◌ (some_expression guard) (ap₂ ◌||◌ (input head) (statements a))

    cases : (cs : kernel.Cases) → of_cases cs th ≡ things.by_cases th cs
    cases kernel.no_case = refl
    cases (kernel.more_cases c cs) = ap₂ ◌||◌ (case c) (cases cs)

    default : (d : kernel.Default) → of_default d th ≡ things.by_default th d
    default kernel.no_default = refl
    default (kernel.default a) = statements a

    branch : (b : kernel.Branch) → of_branch b th ≡ things.by_branch th b
    branch (kernel.branch a pos) = statements a

    branches : (bs : kernel.Branches) → of_branches bs th ≡ things.by_branches th bs
    branches kernel.no_branch = refl
    branches (kernel.more_branches b bs) = ap₂ ◌||◌ (branch b) (branches bs)

pub covered_first : (one : Thing) (ss : kernel.Statements) {other : Thing} → Clash one other → of_statements ss one ≡ things.by_statements one ss
covered_first one ss (changed v) = statements (change v) tt ss
covered_first one ss (used v) = statements (variable v) tt ss
covered_first one ss (of_port p) = statements (port p) tt ss
covered_first one ss (of_timer t) = statements (timer t) tt ss

pub covered_second : (one other : Thing) → Clash one other → (ss : kernel.Statements) → of_statements ss other ≡ things.by_statements other ss
covered_second one other (changed v) ss = statements (variable v) tt ss
covered_second one other (used v) ss = statements (change v) tt ss
covered_second one other (of_port p) ss = statements (port p) tt ss
covered_second one other (of_timer t) ss = statements (timer t) tt ss
