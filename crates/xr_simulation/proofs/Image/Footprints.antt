-- The plan of a root's core has all that the root's code uses, so each of its statements fits the core.
use Rattle.std.proofs.Common.{eq-eqb, zero, suc, [], ◌∷◌, ap, ◌≡◌, ℕ, ◌+◌, ◌<◌, ◌≤◌, Bool, true, false, List, length, Option, Some, None, Contains, slice_get, refl, sym, subst, ◌∙◌, arith}
use Rattle.std.specs.Prelude.{max, nat_eq, ◌&&◌}
use Rattle.xc_tree.specs.Depth.{if_some}
use Rattle.xc_tree.specs.declared.tree.TreeDir.{TreeDir}
use Rattle.xc_tree.specs.declared.tree.TreeDir.TheVariants.{In, Out, Both}
use Rattle.xc_tree.specs.Types.Entities.{drives, reads}
use Rattle.xs_instr.specs.Ports.{can_receive, can_send}
use Rattle.xc_kernel.specs.declared.kernel.PortUse.{PortUse}
use Rattle.xc_kernel.specs.declared.kernel.Var.{Var}
use Rattle.xc_kernel.specs.declared.statement.KRes.{KRes}
use Rattle.xc_kernel.specs.declared.statement.KRes.TheVariants.{Port, Timer, Chan}
use Rattle.xc_kernel.specs.Plain as kernel
use Rattle.xc_kernel.specs.Things.{Thing, variable, port, timer, channel, by_read, by_change, by_resource, by_expression, by_operands, by_place, by_target, by_condition, by_some_expression, by_some_target, by_input, by_case, by_cases, by_default, by_statement, by_statements, by_branches}
use Rattle.xc_meaning.specs.Counts.KernelCounts.{of_cases, of_expression, of_input, of_statement, greatest_held, greatest_in, greatest_in_branches, greatest_in_cases, greatest_in_default, words_in}
use Rattle.xc_meaning.proofs.Basics.{none_given, same_number, or_left, or_right}
use Rattle.xc_disjoint.specs.Checked.{IsChecked}
use Rattle.xc_wellformed.specs.Each.{AnyExpression, AnyPlace, AnyNumber, AnyOutput, AnyInput, EachBranch, EachCase, EachCondition, EachDefault, EachMaybe, EachPlace, EachStatement, EachOf}
use Rattle.xc_wellformed.specs.Numbers.{IsVariable, IsListed, NumbersInExpression, NumbersInOperands, NumbersInPlace}
use Rattle.xc_wellformed.specs.Transfers.{GoesOut, ComesIn, InputComes, IsNothing, OutputGoes}
use Rattle.xl_expr.specs.declared.plan.VarPlan.{VarPlan}
use Rattle.xl_expr.specs.Frames.{HasVars, HaveVars, HasPlace, variable_of}
use Rattle.xl_expr.specs.Plans.{var_in}
use Rattle.xl_image.specs.Images.{dir_of}
use Rattle.xl_plan.specs.Layout.{is_used_by}
use Rattle.xl_plan.proofs.Lists.{contained_at, some_given}
use Rattle.xl_plan.proofs.UsedResources.{port_used, timer_used}
use Rattle.xr_simulation.specs.Fits.{AsksRightly, ChangesAt, TakesInAt, UsesCondition, UsesSome, InputFits, IsChanged, PutsOutAt, Fits, AllFit, BranchesFit, CasesFit, DefaultFits, greatest}
use Rattle.xr_simulation.specs.Runners.{Setting, Runner, IsChannel, anyone, plan}

-- The statements of a root fit its core.

-- a port that drives takes outputs
sends : (d : TreeDir) → drives d ≡ true → can_send (dir_of d) ≡ true
sends In h = h
sends Out h = h
sends Both h = h

-- and one that reads takes inputs
receives : (d : TreeDir) → reads d ≡ true → can_receive (dir_of d) ≡ true
receives In h = h
receives Out h = h
receives Both h = h

-- a timer's input has no time
no_time : (time : Option kernel.Expression) → IsNothing time → time ≡ None
no_time None h = refl
no_time (Some x) h = absurd h

left_within : (a b n : ℕ) → max a b ≤ n → a ≤ n
left_within a b n h = grind arith

right_within : (a b n : ℕ) → max a b ≤ n → b ≤ n
right_within a b n h = grind arith

-- of the count of a select's cases: the first one's input, and the others
input_within : (guard input others n : ℕ) → suc (guard + input) + others ≤ n → input ≤ n
input_within guard input others n h = omega (arith, h)

others_within : (guard input others n : ℕ) → suc (guard + input) + others ≤ n → others ≤ n
others_within guard input others n h = omega (arith, h)

-- where a root on a core uses a channel, the core does
pub used_by_root : (core c : ℕ) (rs : List kernel.Root) (i : ℕ) (root : kernel.Root) → slice_get rs i ≡ Some root → root.core ≡ core → by_statements (channel c) root.body ≡ true → is_used_by core c rs ≡ true
used_by_root core c [] i root e here u = absurd (none_given e)
used_by_root core c (r ∷ rs) zero root e here u =
    let same = some_given e in
    or_left (nat_eq r.core core && by_statements (channel c) r.body) (is_used_by core c rs)
    (ap (λ (x : kernel.Root). nat_eq x.core core && by_statements (channel c) x.body) same
    ∙ ap (λ n. nat_eq n core && by_statements (channel c) root.body) here
    ∙ ap (λ b. b && by_statements (channel c) root.body) (eq-eqb core core refl) ∙ u)
used_by_root core c (r ∷ rs) (suc i) root e here u = or_right (nat_eq r.core core && by_statements (channel c) r.body) (is_used_by core c rs) (used_by_root core c rs i root e here u)

-- how many words a variable has
pub words_there : (vs : List Var) (v : ℕ) (x : Var) → slice_get vs v ≡ Some x → words_in vs v ≡ x.words
words_there [] v x e = absurd (none_given e)
words_there (y ∷ vs) zero x e = ap (λ (z : Var). z.words) (some_given e)
words_there (y ∷ vs) (suc v) x e = words_there vs v x e

-- what a plan has for variables that some code uses
pub record HasAll (variables : List Var) (vars : List (Option VarPlan)) (body : kernel.Statements) : Type 0 where
  pub there : (v : ℕ) → by_statements (variable v) body ≡ true → (found : VarPlan) × (var_in vars v ≡ Some found)
  pub words : (v : ℕ) (found : VarPlan) (x : Var) → var_in vars v ≡ Some found → slice_get variables v ≡ Some x → found.words ≡ x.words

module _ (g : Setting) (checked : IsChecked g.program) (core : ℕ) (root : kernel.Root) (among : Contains g.program.roots root) (here : root.core ≡ core) where
  abbrev r : Runner
  r = anyone core

  abbrev V : ℕ → Bool → Type 0
  V = IsVariable g.program.variables

  -- what this uses the root uses
  abbrev AreOf : (Thing → Bool) → Type 0
  AreOf by = (th : Thing) → by th ≡ true → by_statements th root.body ≡ true

  module _ (has : HasAll g.program.variables (plan g r).vars root.body) (long : (v : ℕ) (x : Var) → slice_get g.program.variables v ≡ Some x → 0 < x.words) where
    -- the one word of a variable
    word_there : (v : ℕ) → V v false → by_statements (variable v) root.body ≡ true → HasPlace (plan g r).vars r.footprint.uses (kernel.word v)
    word_there v is u =
        let f = has.there v u in
        let n = has.words v f.0 is.variable f.1 is.there in
        let one = is.one_word refl in
        (f.0, f.1, omega (arith, n, one), refl)

    mutual
      expression_fits : (e : kernel.Expression) → NumbersInExpression V e → AreOf (λ th. by_expression th e) → HasVars (plan g r).vars r.footprint.uses e
      expression_fits (kernel.number w) h k = tt
      expression_fits (kernel.read p) h k = place_fits p h k
      expression_fits (kernel.operation o u es pos) h k = operands_fit es h k

      operands_fit : (es : kernel.Operands) → NumbersInOperands V es → AreOf (λ th. by_operands th es) → HaveVars (plan g r).vars r.footprint.uses es
      operands_fit kernel.no_operand h k = tt
      operands_fit (kernel.more_operands e es) h k = (expression_fits e h.0 (λ th u. k th (or_left _ _ u)), operands_fit es h.1 (λ th u. k th (or_right _ _ u)))

      place_fits : (p : kernel.Place) → NumbersInPlace V p → AreOf (λ th. by_place th p) → HasPlace (plan g r).vars r.footprint.uses p
      place_fits (kernel.word v) h k = word_there v h (k (variable v) (same_number v))
      place_fits (kernel.element v i pos) h k =
          let u = k (variable v) (or_left _ _ (same_number v)) in
          let f = has.there v u in
          (expression_fits i h.1 (λ th q. k th (or_right (by_read th v) _ q)), (f.0, f.1, refl))

    target_fits : (p : kernel.Place) → NumbersInPlace V p → AreOf (λ th. by_target th p) → HasPlace (plan g r).vars r.footprint.uses p × (r.footprint.changes (variable_of p) ≡ true)
    target_fits (kernel.word v) h k = (word_there v h (k (variable v) (same_number v)), refl)
    target_fits (kernel.element v i pos) h k =
        let u = k (variable v) (or_left _ _ (same_number v)) in
        let f = has.there v u in
        ((expression_fits i h.1 (λ th q. k th (or_right (by_change th v) _ q)), (f.0, f.1, refl)), refl)

    some_fits : (e : Option kernel.Expression) → EachMaybe (NumbersInExpression V) (NumbersInPlace V) (IsListed g.program.variables) AnyOutput AnyInput AnyNumber e → AreOf (λ th. by_some_expression th e) → UsesSome g r e
    some_fits None h k = tt
    some_fits (Some e) h k = expression_fits e h k

    condition_fits : (c : Option kernel.Condition) →
        EachCondition (NumbersInExpression V) (NumbersInPlace V) (IsListed g.program.variables) AnyOutput AnyInput AnyNumber c →
        AreOf (λ th. by_condition th c) → UsesCondition g r c
    condition_fits None h k = tt
    condition_fits (Some c) h k = expression_fits c.value h k

    dest_fits : (p : Option kernel.Place) → EachPlace (NumbersInExpression V) (NumbersInPlace V) (IsListed g.program.variables) AnyOutput AnyInput AnyNumber p → AreOf (λ th. by_some_target th p) → ChangesAt g r p
    dest_fits None h k = tt
    dest_fits (Some p) h k = target_fits p h k

    -- a channel that the root uses is one of its core's
    channel_fits : (c : ℕ) → c < length g.program.channels → by_statements (channel c) root.body ≡ true → IsChannel g r c
    channel_fits c lt u =
        let at = contained_at g.program.roots root among in
        record { mine = refl; known = lt; used = used_by_root core c g.program.roots at.0 root at.1 here u }

    input_fits : (s : KRes) (time : Option kernel.Expression) (condition : Option kernel.Condition) (stamp : Option kernel.Place) →
        InputComes g.program.ports (length g.program.channels) (length g.program.timers) s time condition stamp → AreOf (λ th. by_resource th s) → TakesInAt g r s
    input_fits (Port p) time condition stamp h k =
        let u = k (port p) (same_number p) in
        let x = port_used g.program checked root among p u in
        let same : h.0.port ≡ x.0 = some_given (sym h.0.there ∙ x.1) in
        record {
          listed = x.0;
          is = record { mine = refl; known = x.1; core = x.2 ∙ here };
          receives = receives x.0.dir (subst (λ (y : PortUse). reads y.dir ≡ true) same h.0.direction);
        }
    input_fits (Timer t) time condition stamp h k =
        let x = timer_used g.program checked root among t (k (timer t) (same_number t)) in
        record { listed = x.timer; is = record { mine = refl; known = x.there; core = x.place ∙ here } }
    input_fits (Chan c) time condition stamp h k = channel_fits c h.0 (k (channel c) (same_number c))

    asks_fit : (s : KRes) (time : Option kernel.Expression) (condition : Option kernel.Condition) (stamp : Option kernel.Place) →
        InputComes g.program.ports (length g.program.channels) (length g.program.timers) s time condition stamp →
        AsksRightly g r s time condition
    asks_fit (Port p) time condition stamp h = h.1.1
    asks_fit (Timer t) time condition stamp h = (no_time time h.1.0, h.1.1.0)
    asks_fit (Chan c) time condition stamp h = tt

    resource_fits : (s : KRes) (time : Option kernel.Expression) (stamp : Option kernel.Place) →
        OutputGoes g.program.ports (length g.program.channels) (length g.program.timers) s time stamp → AreOf (λ th. by_resource th s) → PutsOutAt g r s
    resource_fits (Port p) time stamp h k =
        let u = k (port p) (same_number p) in
        let x = port_used g.program checked root among p u in
        let same : h.port ≡ x.0 = some_given (sym h.there ∙ x.1) in
        record {
          listed = x.0;
          is = record { mine = refl; known = x.1; core = x.2 ∙ here };
          sends = sends x.0.dir (subst (λ (y : PortUse). drives y.dir ≡ true) same h.direction);
        }
    resource_fits (Timer t) time stamp h k = tt
    resource_fits (Chan c) time stamp h k = channel_fits c h.0 (k (channel c) (same_number c))

    zero_fits : (v : ℕ) → IsListed g.program.variables v → AreOf (λ th. by_change th v) → IsChanged g r v
    zero_fits v is k =
        let u = k (variable v) (same_number v) in
        let f = has.there v u in
        let n = has.words v f.0 is.variable f.1 is.there in
        let l = long v is.variable is.there in
        record { found = f.0; known = f.1; some = omega (arith, n, l); words = n ∙ sym (words_there g.program.variables v is.variable is.there); uses = refl; changes = refl }

    abbrev Numbers : kernel.Statement → Type 0
    Numbers = EachStatement (NumbersInExpression V) (NumbersInPlace V) (IsListed g.program.variables) AnyOutput AnyInput AnyNumber

    abbrev Goes : kernel.Statement → Type 0
    Goes = EachStatement AnyExpression AnyPlace AnyNumber (GoesOut g.program) (ComesIn g.program) AnyNumber

    abbrev AllNumbers : kernel.Statements → Type 0
    AllNumbers = EachOf (NumbersInExpression V) (NumbersInPlace V) (IsListed g.program.variables) AnyOutput AnyInput AnyNumber

    abbrev AllGo : kernel.Statements → Type 0
    AllGo = EachOf AnyExpression AnyPlace AnyNumber (GoesOut g.program) (ComesIn g.program) AnyNumber

    abbrev AllCaseNumbers : kernel.Cases → Type 0
    AllCaseNumbers = EachCase (NumbersInExpression V) (NumbersInPlace V) (IsListed g.program.variables) AnyOutput AnyInput AnyNumber

    abbrev AllCasesGo : kernel.Cases → Type 0
    AllCasesGo = EachCase AnyExpression AnyPlace AnyNumber (GoesOut g.program) (ComesIn g.program) AnyNumber

    abbrev DefaultNumbers : kernel.Default → Type 0
    DefaultNumbers = EachDefault (NumbersInExpression V) (NumbersInPlace V) (IsListed g.program.variables) AnyOutput AnyInput AnyNumber

    abbrev DefaultGoes : kernel.Default → Type 0
    DefaultGoes = EachDefault AnyExpression AnyPlace AnyNumber (GoesOut g.program) (ComesIn g.program) AnyNumber

    abbrev AllBranchNumbers : kernel.Branches → Type 0
    AllBranchNumbers = EachBranch (NumbersInExpression V) (NumbersInPlace V) (IsListed g.program.variables) AnyOutput AnyInput AnyNumber

    abbrev AllBranchesGo : kernel.Branches → Type 0
    AllBranchesGo = EachBranch AnyExpression AnyPlace AnyNumber (GoesOut g.program) (ComesIn g.program) AnyNumber

    abbrev vs : List Var
    vs = g.program.variables

    whole_input_fits : (i : kernel.Input) → Numbers (kernel.input i) → Goes (kernel.input i) → AreOf (λ th. by_input th i) → InputFits g r i
    whole_input_fits i n t k = record {
      time = some_fits i.time n.1.0
          (λ th u. k th (or_right (by_resource th i.resource) _ (or_left (by_some_expression th i.time) _ u)));
      condition = condition_fits i.condition n.1.1.0 (λ th u. k th
          (or_right (by_resource th i.resource) _
          (or_right (by_some_expression th i.time) _ (or_left (by_condition th i.condition) _ u))));
      stamp = dest_fits i.stamp n.1.1.1.1 (λ th u. k th
          (or_right (by_resource th i.resource) _ (or_right (by_some_expression th i.time) _
          (or_right (by_condition th i.condition) _ (or_right (by_some_target th i.target) _ u)))));
      asks = asks_fit i.resource i.time i.condition i.stamp t.0;
      target = dest_fits i.target n.1.1.1.0 (λ th u. k th (or_right (by_resource th i.resource) _ (or_right (by_some_expression th i.time) _ (or_right (by_condition th i.condition) _ (or_left (by_some_target th i.target) _ u)))));
      from = input_fits i.resource i.time i.condition i.stamp t.0 (λ th u. k th (or_left (by_resource th i.resource) _ u));
    }

    mutual
      statement_fits : (s : kernel.Statement) → Numbers s → Goes s → AreOf (λ th. by_statement th s) → of_statement vs s ≤ greatest g r → greatest_held vs s ≤ greatest g r → Fits g r s
      statement_fits (kernel.set_zero v) n t k one held = (zero_fits v n k, one)
      statement_fits (kernel.set p e) n t k one held =
          let f = target_fits p n.0 (λ th u. k th (or_left _ _ u)) in
          (f.0, expression_fits e n.1 (λ th u. k th (or_right (by_target th p) _ u)), f.1, one)
      statement_fits (kernel.output o) n t k one held = (
        record {
          time = some_fits o.time n.1.0 (λ th u. k th (or_right (by_resource th o.resource) _ (or_left (by_some_expression th o.time) _ u)));
          value = expression_fits o.value n.1.1.0 (λ th u. k th (or_right (by_resource th o.resource) _ (or_right (by_some_expression th o.time) _ (or_left (by_expression th o.value) _ u))));
          stamp = dest_fits o.stamp n.1.1.1 (λ th u. k th
              (or_right (by_resource th o.resource) _
              (or_right (by_some_expression th o.time) _ (or_right (by_expression th o.value) _ u))));
          to = resource_fits o.resource o.time o.stamp t.0 (λ th u. k th (or_left (by_resource th o.resource) _ u));
        },
        one,
      )
      statement_fits (kernel.input i) n t k one held = (whole_input_fits i n t k, one)
      statement_fits (kernel.if_then e a b) n t k one held = (
        expression_fits e n.0 (λ th u. k th (or_left _ _ u)),
        all_fit a n.1.0 t.1.0 (λ th u. k th (or_right (by_expression th e) _ (or_left _ _ u))) (left_within (greatest_in vs a) (greatest_in vs b) (greatest g r) held),
        all_fit b n.1.1 t.1.1 (λ th u. k th (or_right (by_expression th e) _ (or_right (by_statements th a) _ u))) (right_within (greatest_in vs a) (greatest_in vs b) (greatest g r) held),
        one,
      )
      statement_fits (kernel.loop e a b) n t k one held = (
        expression_fits e n.0 (λ th u. k th (or_left _ _ u)),
        all_fit a n.1.0 t.1.0 (λ th u. k th (or_right (by_expression th e) _ (or_left _ _ u))) (left_within (greatest_in vs a) (greatest_in vs b) (greatest g r) held),
        all_fit b n.1.1 t.1.1 (λ th u. k th (or_right (by_expression th e) _ (or_right (by_statements th a) _ u))) (right_within (greatest_in vs a) (greatest_in vs b) (greatest g r) held),
        one,
      )
      statement_fits (kernel.block m a) n t k one held = all_fit a n t k held
      statement_fits (kernel.exit m) n t k one held = tt
      statement_fits (kernel.select cs d pos) n t k one held = (
        cases_fit cs n.0 t.0 (λ th u. k th (or_left _ _ u)) one (left_within (greatest_in_cases vs cs) (greatest_in_default vs d) (greatest g r) held),
        default_fits d n.1 t.1 (λ th u. k th (or_right (by_cases th cs) _ u)) (right_within (greatest_in_cases vs cs) (greatest_in_default vs d) (greatest g r) held),
        one,
      )
      statement_fits (kernel.par bs) n t k one held = (branches_fit bs n t k held, one)
      statement_fits (kernel.transaction c is_master a start close) n t k one held = tt

      pub all_fit : (ss : kernel.Statements) → AllNumbers ss → AllGo ss → AreOf (λ th. by_statements th ss) → greatest_in vs ss ≤ greatest g r → AllFit g r ss
      all_fit kernel.no_more n t k most = tt
      all_fit (kernel.more s ss) n t k most =
          let own = left_within (max (of_statement vs s) (greatest_held vs s)) (greatest_in vs ss) (greatest g r) most in (
            statement_fits s n.0 t.0 (λ th u. k th (or_left _ _ u)) (left_within (of_statement vs s) (greatest_held vs s) (greatest g r) own) (right_within (of_statement vs s) (greatest_held vs s) (greatest g r) own),
            all_fit ss n.1 t.1 (λ th u. k th (or_right (by_statement th s) _ u)) (right_within (max (of_statement vs s) (greatest_held vs s)) (greatest_in vs ss) (greatest g r) most),
          )

      cases_fit : (cs : kernel.Cases) → AllCaseNumbers cs → AllCasesGo cs → AreOf (λ th. by_cases th cs) → of_cases cs ≤ greatest g r → greatest_in_cases vs cs ≤ greatest g r → CasesFit g r cs
      cases_fit kernel.no_case n t k one most = tt
      cases_fit (kernel.more_cases (kernel.case guard i ss) cs) n t k one most = (
        (
          some_fits guard n.0.0 (λ th u. k th (or_left _ _ (or_left (by_some_expression th guard) _ u))),
          (
            whole_input_fits i n.0.1.0 t.0.1.0 (λ th u. k th (or_left _ _ (or_right (by_some_expression th guard) _ (or_left (by_input th i) _ u)))),
            input_within (if_some of_expression guard) (of_input i) (of_cases cs) (greatest g r) one,
          ),
          all_fit ss n.0.1.1 t.0.1.1 (λ th u. k th (or_left _ _ (or_right (by_some_expression th guard) _ (or_right (by_input th i) _ u)))) (left_within (greatest_in vs ss) (greatest_in_cases vs cs) (greatest g r) most),
        ),
        cases_fit cs n.1 t.1 (λ th u. k th (or_right (by_case th (kernel.case guard i ss)) _ u)) (others_within (if_some of_expression guard) (of_input i) (of_cases cs) (greatest g r) one) (right_within (greatest_in vs ss) (greatest_in_cases vs cs) (greatest g r) most),
      )

      default_fits : (d : kernel.Default) → DefaultNumbers d → DefaultGoes d → AreOf (λ th. by_default th d) → greatest_in_default vs d ≤ greatest g r → DefaultFits g r d
      default_fits kernel.no_default n t k most = tt
      default_fits (kernel.default ss) n t k most = all_fit ss n t k most

      branches_fit : (bs : kernel.Branches) → AllBranchNumbers bs → AllBranchesGo bs → AreOf (λ th. by_branches th bs) → greatest_in_branches vs bs ≤ greatest g r → BranchesFit g r bs
      branches_fit kernel.no_branch n t k most = tt
      branches_fit (kernel.more_branches (kernel.branch ss pos) bs) n t k most = (
        all_fit ss n.0 t.0 (λ th u. k th (or_left _ _ u)) (left_within (greatest_in vs ss) (greatest_in_branches vs bs) (greatest g r) most),
        branches_fit bs n.1 t.1 (λ th u. k th (or_right (by_statements th ss) _ u)) (right_within (greatest_in vs ss) (greatest_in_branches vs bs) (greatest g r) most),
      )
