-- Where roots keep apart, each variable that a root uses is on the root's core.
use Rattle.std.proofs.Common.{◌≡◌, ℕ, suc, Bool, true, false, ◌||◌, List, [], ◌∷◌, Contains, Option, Some, None, nat_eq, refl, sym, ⊎_elim, ◌∙◌, true≢false, arith}
use Rattle.std.proofs.lemmas.Bool.Decides.{nat_tests}
use Rattle.xc_kernel.specs.declared.kernel.Timer.{Timer}
use Rattle.xc_kernel.specs.Plain as kernel
use Rattle.xc_kernel.specs.Things.{variable, by_expression, by_operands, by_place, by_target, by_some_target, by_some_expression, by_condition, by_output, by_input, by_statement, by_statements, by_case, by_cases, by_default, by_branches, by_resource}
use Rattle.xc_wellformed.specs.Each.{AnyNumber, EachMaybe, EachPlace, EachCondition, EachOutput, EachInput, EachStatement, EachOf, EachCase, EachDefault, EachBranch, EachRootOn}
use Rattle.xc_wellformed.specs.Numbers.{NumbersInExpression, NumbersInOperands, NumbersInPlace}
use Rattle.xc_wellformed.specs.Cores.{VariableOn, OutputOn, InputOn, IsOn, RootsKeepApart, CoresAreRight, CoresAreOwn}

orl : (a b : Bool) → a ≡ true → (a || b) ≡ true
orl true b e = refl
orl false b e = absurd (true≢false (sym e))

orr : (a b : Bool) → b ≡ true → (a || b) ≡ true
orr true b e = refl
orr false b e = e

itself : (a : ℕ) → nat_eq a a ≡ true
itself a = by (nat_eq a a) refl
  where
    by : (b : Bool) → nat_eq a a ≡ b → b ≡ true
    by true e = refl
    by false e = grind (arith, nat_tests)

-- U tells which variables are used, A and B what holds of them
module _ (U A B : ℕ → Type 0) (ts : List Timer) (core : ℕ) (narrow : (v : ℕ) → U v → A v → B v) where
  abbrev OfA : ℕ → Bool → Type 0
  OfA v is_array = A v

  abbrev OfB : ℕ → Bool → Type 0
  OfB v is_array = B v

  mutual
    expression : (e : kernel.Expression) → ((v : ℕ) → by_expression (variable v) e ≡ true → U v) → NumbersInExpression OfA e → NumbersInExpression OfB e
    expression (kernel.number w) u h = tt
    expression (kernel.read p) u h = place p u h
    expression (kernel.operation symbol is_unsigned es pos) u h = operands es u h

    operands : (es : kernel.Operands) → ((v : ℕ) → by_operands (variable v) es ≡ true → U v) → NumbersInOperands OfA es → NumbersInOperands OfB es
    operands kernel.no_operand u h = tt
    operands (kernel.more_operands e es) u h = (expression e (λ v k. u v (orl _ _ k)) h.0, operands es (λ v k. u v (orr (by_expression (variable v) e) _ k)) h.1)

    place : (p : kernel.Place) → ((v : ℕ) → by_place (variable v) p ≡ true → U v) → NumbersInPlace OfA p → NumbersInPlace OfB p
    place (kernel.word w) u h = narrow w (u w (itself w)) h
    place (kernel.element w i pos) u h = (narrow w (u w (orl _ _ (itself w))) h.0, expression i (λ v k. u v (orr (nat_eq v w) _ k)) h.1)

  target : (p : kernel.Place) → ((v : ℕ) → by_target (variable v) p ≡ true → U v) → NumbersInPlace OfA p → NumbersInPlace OfB p
  target (kernel.word w) u h = narrow w (u w (itself w)) h
  target (kernel.element w i pos) u h = (narrow w (u w (orl _ _ (itself w))) h.0, expression i (λ v k. u v (orr (nat_eq v w) _ k)) h.1)

  abbrev Out : kernel.Output → Type 0
  Out = OutputOn ts core

  abbrev In : kernel.Input → Type 0
  In = InputOn ts core

  maybe : (o : Option kernel.Expression) → ((v : ℕ) → by_some_expression (variable v) o ≡ true → U v) → EachMaybe (NumbersInExpression OfA) (NumbersInPlace OfA) A Out In AnyNumber o → EachMaybe (NumbersInExpression OfB) (NumbersInPlace OfB) B Out In AnyNumber o
  maybe None u h = tt
  maybe (Some e) u h = expression e u h

  some_target : (o : Option kernel.Place) → ((v : ℕ) → by_some_target (variable v) o ≡ true → U v) → EachPlace (NumbersInExpression OfA) (NumbersInPlace OfA) A Out In AnyNumber o → EachPlace (NumbersInExpression OfB) (NumbersInPlace OfB) B Out In AnyNumber o
  some_target None u h = tt
  some_target (Some p) u h = target p u h

  condition : (o : Option kernel.Condition) → ((v : ℕ) → by_condition (variable v) o ≡ true → U v) → EachCondition (NumbersInExpression OfA) (NumbersInPlace OfA) A Out In AnyNumber o → EachCondition (NumbersInExpression OfB) (NumbersInPlace OfB) B Out In AnyNumber o
  condition None u h = tt
  condition (Some w) u h = expression w.value u h

  output : (o : kernel.Output) → ((v : ℕ) → by_output (variable v) o ≡ true → U v) → EachOutput (NumbersInExpression OfA) (NumbersInPlace OfA) A Out In AnyNumber o → EachOutput (NumbersInExpression OfB) (NumbersInPlace OfB) B Out In AnyNumber o
  output o u h = (
    h.0,
    (
      maybe o.time (λ v k. u v (orr (by_resource (variable v) o.resource) _ (orl _ _ k))) h.1.0,
      (
        expression o.value (λ v k. u v (orr (by_resource (variable v) o.resource) _ (orr (by_some_expression (variable v) o.time) _ (orl _ _ k)))) h.1.1.0,
        some_target o.stamp (λ v k. u v (orr (by_resource (variable v) o.resource) _ (orr (by_some_expression (variable v) o.time) _ (orr (by_expression (variable v) o.value) _ k)))) h.1.1.1,
      ),
    ),
  )

  input : (i : kernel.Input) → ((v : ℕ) → by_input (variable v) i ≡ true → U v) → EachInput (NumbersInExpression OfA) (NumbersInPlace OfA) A Out In AnyNumber i → EachInput (NumbersInExpression OfB) (NumbersInPlace OfB) B Out In AnyNumber i
  input i u h = (
    h.0,
    (
      maybe i.time (λ v k. u v (orr (by_resource (variable v) i.resource) _ (orl _ _ k))) h.1.0,
      (
        condition i.condition (λ v k. u v (orr (by_resource (variable v) i.resource) _ (orr (by_some_expression (variable v) i.time) _ (orl _ _ k)))) h.1.1.0,
        (
          some_target i.target (λ v k. u v (orr (by_resource (variable v) i.resource) _ (orr (by_some_expression (variable v) i.time) _ (orr (by_condition (variable v) i.condition) _ (orl _ _ k))))) h.1.1.1.0,
          some_target i.stamp (λ v k. u v (orr (by_resource (variable v) i.resource) _ (orr (by_some_expression (variable v) i.time) _ (orr (by_condition (variable v) i.condition) _ (orr (by_some_target (variable v) i.target) _ k))))) h.1.1.1.1,
        ),
      ),
    ),
  )

  mutual
    statement : (s : kernel.Statement) → ((v : ℕ) → by_statement (variable v) s ≡ true → U v) → EachStatement (NumbersInExpression OfA) (NumbersInPlace OfA) A Out In AnyNumber s → EachStatement (NumbersInExpression OfB) (NumbersInPlace OfB) B Out In AnyNumber s
    statement (kernel.set_zero w) u h = narrow w (u w (itself w)) h
    statement (kernel.set p e) u h = (target p (λ v k. u v (orl _ _ k)) h.0, expression e (λ v k. u v (orr (by_target (variable v) p) _ k)) h.1)
    statement (kernel.output o) u h = output o u h
    statement (kernel.input i) u h = input i u h
    statement (kernel.if_then e a b) u h = (expression e (λ v k. u v (orl _ _ k)) h.0, (statements a (λ v k. u v (orr (by_expression (variable v) e) _ (orl _ _ k))) h.1.0, statements b (λ v k. u v (orr (by_expression (variable v) e) _ (orr (by_statements (variable v) a) _ k))) h.1.1))
    statement (kernel.loop e a b) u h = (expression e (λ v k. u v (orl _ _ k)) h.0, (statements a (λ v k. u v (orr (by_expression (variable v) e) _ (orl _ _ k))) h.1.0, statements b (λ v k. u v (orr (by_expression (variable v) e) _ (orr (by_statements (variable v) a) _ k))) h.1.1))
    statement (kernel.block n a) u h = statements a u h
    statement (kernel.exit n) u h = tt
    statement (kernel.select cs d pos) u h = (cases cs (λ v k. u v (orl _ _ k)) h.0, default d (λ v k. u v (orr (by_cases (variable v) cs) _ k)) h.1)
    statement (kernel.par bs) u h = branches bs u h
    statement (kernel.transaction c is_master a start close) u h = (tt, statements a u h.1)

    statements : (ss : kernel.Statements) → ((v : ℕ) → by_statements (variable v) ss ≡ true → U v) → EachOf (NumbersInExpression OfA) (NumbersInPlace OfA) A Out In AnyNumber ss → EachOf (NumbersInExpression OfB) (NumbersInPlace OfB) B Out In AnyNumber ss
    statements kernel.no_more u h = tt
    statements (kernel.more s ss) u h = (statement s (λ v k. u v (orl _ _ k)) h.0, statements ss (λ v k. u v (orr (by_statement (variable v) s) _ k)) h.1)

    cases : (cs : kernel.Cases) → ((v : ℕ) → by_cases (variable v) cs ≡ true → U v) → EachCase (NumbersInExpression OfA) (NumbersInPlace OfA) A Out In AnyNumber cs → EachCase (NumbersInExpression OfB) (NumbersInPlace OfB) B Out In AnyNumber cs
    cases kernel.no_case u h = tt
    cases (kernel.more_cases (kernel.case guard i a) cs) u h = (
      (
        maybe guard (λ v k. u v (orl _ _ (orl _ _ k))) h.0.0,
        (input i (λ v k. u v (orl _ _ (orr (by_some_expression (variable v) guard) _ (orl _ _ k)))) h.0.1.0, statements a (λ v k. u v (orl _ _ (orr (by_some_expression (variable v) guard) _ (orr (by_input (variable v) i) _ k)))) h.0.1.1),
      ),
      cases cs (λ v k. u v (orr (by_case (variable v) (kernel.case guard i a)) _ k)) h.1,
    )

    default : (d : kernel.Default) → ((v : ℕ) → by_default (variable v) d ≡ true → U v) → EachDefault (NumbersInExpression OfA) (NumbersInPlace OfA) A Out In AnyNumber d → EachDefault (NumbersInExpression OfB) (NumbersInPlace OfB) B Out In AnyNumber d
    default kernel.no_default u h = tt
    default (kernel.default a) u h = statements a u h

    branches : (bs : kernel.Branches) → ((v : ℕ) → by_branches (variable v) bs ≡ true → U v) → EachBranch (NumbersInExpression OfA) (NumbersInPlace OfA) A Out In AnyNumber bs → EachBranch (NumbersInExpression OfB) (NumbersInPlace OfB) B Out In AnyNumber bs
    branches kernel.no_branch u h = tt
    branches (kernel.more_branches (kernel.branch a pos) bs) u h = (statements a (λ v k. u v (orl _ _ k)) h.0, branches bs (λ v k. u v (orr (by_statements (variable v) a) _ k)) h.1)

module _ (K : kernel.Kernel) (apart : RootsKeepApart K) where
  of_root : (r : kernel.Root) → Contains K.roots r → (v : ℕ) → by_statements (variable v) r.body ≡ true → VariableOn K.variables K.roots r.core v → IsOn K.variables r.core v
  of_root r c v u h = record { variable = h.variable; there = h.there; place = ⊎_elim (λ e. e) (λ w. sym w.there ∙ apart w.root r v w.among c w.changes u) h.place }

  of_roots : (rs : List kernel.Root) → ((r : kernel.Root) → Contains rs r → Contains K.roots r) →
      EachRootOn (λ core. NumbersInExpression (λ v is_array. VariableOn K.variables K.roots core v)) (λ core. NumbersInPlace (λ v is_array. VariableOn K.variables K.roots core v)) (VariableOn K.variables K.roots) (OutputOn K.timers) (InputOn K.timers) (λ core. AnyNumber) rs →
      EachRootOn (λ core. NumbersInExpression (λ v is_array. IsOn K.variables core v)) (λ core. NumbersInPlace (λ v is_array. IsOn K.variables core v)) (IsOn K.variables) (OutputOn K.timers) (InputOn K.timers) (λ core. AnyNumber) rs
  of_roots [] f h = tt
  of_roots (r ∷ rs) f h = (
    statements (λ v. by_statements (variable v) r.body ≡ true) (VariableOn K.variables K.roots r.core) (IsOn K.variables r.core) K.timers r.core (of_root r (f r (0, omega arith, refl))) r.body (λ v k. k) h.0,
    of_roots rs (λ x c. f x (let l = c.1 in (suc c.0, omega arith, c.2))) h.1,
  )

  pub own : CoresAreRight K → CoresAreOwn K
  own h = of_roots K.roots (λ r c. c) h
