-- Whether code uses something, and what holds of all that it uses.
use Rattle.std.proofs.Common.{⊎_elim, ℕ, false, IsTrue, List, [], ◌∷◌, Option, Some, None, sym, subst, true≢false}
use Rattle.std.proofs.lemmas.Bool.{eqb-true}
use Rattle.xc_kernel.specs.declared.statement.KRes.{KRes}
use Rattle.xc_kernel.specs.declared.statement.KRes.TheVariants.{Port, Timer, Chan}
use Rattle.xc_kernel.specs.Plain as kernel
use Rattle.xc_meaning.specs.States.Items.{Body, of_kernel, of_text, Choice, Item, does, says, stores, stamps, mark, awaits, transaction_end, chooses, fixed, ends}
use Rattle.xc_kernel.specs.Things.{Thing, variable, change, port, timer, channel, by_read, by_change, by_channel, by_resource, by_expression, by_operands, by_place, by_target, by_some_target, by_some_expression, by_condition, by_output, by_input, by_statement, by_statements, by_case, by_cases, by_default, by_branch, by_branches}
use Rattle.xc_meaning.specs.Uses.{by_body, by_some_body, by_choices, by_item, by_items}
use Rattle.xc_invariants.specs.Every.{AllItems, EveryResource, EveryExpression, EveryOperands, EveryPlace, EveryTarget, EverySomeTarget, EverySomeExpression, EveryCondition, EveryOutput, EveryInput, EveryStatement, EveryStatements, EveryCase, EveryCases, EveryDefault, EveryBranch, EveryBranches, EveryBody, EverySomeBody, EveryChoices, EveryItem}
use Rattle.xc_invariants.specs.Rules.{AnyThing, AnyPar, AnyTransaction}
use Rattle.xc_meaning.proofs.Basics.{same_number, or_left, or_right, or_cases}

never : {A : Type 0} → IsTrue false → A
never h = absurd (true≢false (sym h))

-- What holds of each thing that is used: from the test.
module _ (F : Thing → Type 0) where
  abbrev Q : kernel.Branches → Type 0
  Q = AnyPar

  abbrev T : ℕ → kernel.Statements → Type 0
  T = AnyTransaction

  of_resource : (r : KRes) → ((th : Thing) → IsTrue (by_resource th r) → F th) → EveryResource F Q T r
  of_resource (Port p) k = k (port p) (same_number p)
  of_resource (Timer t) k = k (timer t) (same_number t)
  of_resource (Chan c) k = k (channel c) (same_number c)

  mutual
    of_expression : (e : kernel.Expression) → ((th : Thing) → IsTrue (by_expression th e) → F th) → EveryExpression F Q T e
    of_expression (kernel.number v) k = tt
    of_expression (kernel.read place) k = of_place place k
    of_expression (kernel.operation symbol is_unsigned es pos) k = of_operands es k

    of_operands : (es : kernel.Operands) → ((th : Thing) → IsTrue (by_operands th es) → F th) → EveryOperands F Q T es
    of_operands kernel.no_operand k = tt
    of_operands (kernel.more_operands e es) k = (of_expression e (λ th u. k th (or_left _ _ u)), of_operands es (λ th u. k th (or_right _ _ u)))

    of_place : (p : kernel.Place) → ((th : Thing) → IsTrue (by_place th p) → F th) → EveryPlace F Q T p
    of_place (kernel.word v) k = k (variable v) (same_number v)
    of_place (kernel.element v index pos) k = (k (variable v) (or_left _ _ (same_number v)), of_expression index (λ th u. k th (or_right _ _ u)))

  of_target : (p : kernel.Place) → ((th : Thing) → IsTrue (by_target th p) → F th) → EveryTarget F Q T p
  of_target (kernel.word v) k = (k (variable v) (same_number v), k (change v) (same_number v))
  of_target (kernel.element v index pos) k =
      (k (variable v) (or_left _ _ (same_number v)), k (change v) (or_left _ _ (same_number v)), of_expression index (λ th u. k th (or_right _ _ u)))

  of_some_target : (p : Option kernel.Place) → ((th : Thing) → IsTrue (by_some_target th p) → F th) → EverySomeTarget F Q T p
  of_some_target None k = tt
  of_some_target (Some p) k = of_target p k

  of_some_expression : (e : Option kernel.Expression) → ((th : Thing) → IsTrue (by_some_expression th e) → F th) → EverySomeExpression F Q T e
  of_some_expression None k = tt
  of_some_expression (Some e) k = of_expression e k

  of_condition : (c : Option kernel.Condition) → ((th : Thing) → IsTrue (by_condition th c) → F th) → EveryCondition F Q T c
  of_condition None k = tt
  of_condition (Some c) k = of_expression c.value k

  of_output : (o : kernel.Output) → ((th : Thing) → IsTrue (by_output th o) → F th) → EveryOutput F Q T o
  of_output o k = record {
    resource = of_resource o.resource (λ th u. k th (or_left (by_resource th o.resource) _ u));
    time = of_some_expression o.time (λ th u. k th (or_right (by_resource th o.resource) _ (or_left (by_some_expression th o.time) _ u)));
    value = of_expression o.value (λ th u. k th (or_right (by_resource th o.resource) _ (or_right (by_some_expression th o.time) _ (or_left (by_expression th o.value) _ u))));
    stamp = of_some_target o.stamp (λ th u. k th (or_right (by_resource th o.resource) _ (or_right (by_some_expression th o.time) _ (or_right (by_expression th o.value) _ (u)))));
  }

  of_input : (i : kernel.Input) → ((th : Thing) → IsTrue (by_input th i) → F th) → EveryInput F Q T i
  of_input input k = record {
    resource = of_resource input.resource (λ th u. k th (or_left (by_resource th input.resource) _ u));
    time = of_some_expression input.time (λ th u. k th (or_right (by_resource th input.resource) _ (or_left (by_some_expression th input.time) _ u)));
    condition = of_condition input.condition (λ th u. k th (or_right (by_resource th input.resource) _ (or_right (by_some_expression th input.time) _ (or_left (by_condition th input.condition) _ u))));
    target = of_some_target input.target (λ th u. k th (or_right (by_resource th input.resource) _ (or_right (by_some_expression th input.time) _ (or_right (by_condition th input.condition) _ (or_left (by_some_target th input.target) _ u)))));
    stamp = of_some_target input.stamp (λ th u. k th (or_right (by_resource th input.resource) _ (or_right (by_some_expression th input.time) _ (or_right (by_condition th input.condition) _ (or_right (by_some_target th input.target) _ (u))))));
  }

  mutual
    of_statement : (s : kernel.Statement) → ((th : Thing) → IsTrue (by_statement th s) → F th) → EveryStatement F Q T s
    of_statement (kernel.set_zero v) k = (k (variable v) (same_number v), k (change v) (same_number v))
    of_statement (kernel.set p e) k = (of_target p (λ th u. k th (or_left _ _ u)), of_expression e (λ th u. k th (or_right _ _ u)))
    of_statement (kernel.output o) k = of_output o k
    of_statement (kernel.input input) k = of_input input k
    of_statement (kernel.if_then e a b) k =
        (of_expression e (λ th u. k th (or_left _ _ u)), of_statements a (λ th u. k th (or_right _ _ (or_left _ _ u))), of_statements b (λ th u. k th (or_right _ _ (or_right _ _ u))))
    of_statement (kernel.loop e a b) k =
        (of_expression e (λ th u. k th (or_left _ _ u)), of_statements a (λ th u. k th (or_right _ _ (or_left _ _ u))), of_statements b (λ th u. k th (or_right _ _ (or_right _ _ u))))
    of_statement (kernel.block n a) k = of_statements a k
    of_statement (kernel.exit n) k = tt
    of_statement (kernel.select cs d pos) k = (of_cases cs (λ th u. k th (or_left _ _ u)), of_default d (λ th u. k th (or_right _ _ u)))
    of_statement (kernel.par bs) k = (tt, of_branches bs k)
    of_statement (kernel.transaction c is_master a start close) k = (k (channel c) (or_left _ _ (same_number c)), tt, of_statements a (λ th u. k th (or_right _ _ u)))

    pub of_statements : (ss : kernel.Statements) → ((th : Thing) → IsTrue (by_statements th ss) → F th) → EveryStatements F Q T ss
    of_statements kernel.no_more k = tt
    of_statements (kernel.more s ss) k = (of_statement s (λ th u. k th (or_left _ _ u)), of_statements ss (λ th u. k th (or_right _ _ u)))

    of_case : (c : kernel.Case) → ((th : Thing) → IsTrue (by_case th c) → F th) → EveryCase F Q T c
    of_case (kernel.case guard input a) k =
        (of_some_expression guard (λ th u. k th (or_left _ _ u)), of_input input (λ th u. k th (or_right _ _ (or_left _ _ u))), of_statements a (λ th u. k th (or_right _ _ (or_right _ _ u))))

    of_cases : (cs : kernel.Cases) → ((th : Thing) → IsTrue (by_cases th cs) → F th) → EveryCases F Q T cs
    of_cases kernel.no_case k = tt
    of_cases (kernel.more_cases c cs) k = (of_case c (λ th u. k th (or_left _ _ u)), of_cases cs (λ th u. k th (or_right _ _ u)))

    of_default : (d : kernel.Default) → ((th : Thing) → IsTrue (by_default th d) → F th) → EveryDefault F Q T d
    of_default kernel.no_default k = tt
    of_default (kernel.default a) k = of_statements a k

    of_branch : (b : kernel.Branch) → ((th : Thing) → IsTrue (by_branch th b) → F th) → EveryBranch F Q T b
    of_branch (kernel.branch a pos) k = of_statements a k

    pub of_branches : (bs : kernel.Branches) → ((th : Thing) → IsTrue (by_branches th bs) → F th) → EveryBranches F Q T bs
    of_branches kernel.no_branch k = tt
    of_branches (kernel.more_branches b bs) k = (of_branch b (λ th u. k th (or_left _ _ u)), of_branches bs (λ th u. k th (or_right _ _ u)))

-- And to the test.
module _ (F : Thing → Type 0) (Q : kernel.Branches → Type 0) (T : ℕ → kernel.Statements → Type 0) where
  read_has : (th : Thing) (v : ℕ) → F (variable v) → IsTrue (by_read th v) → F th
  read_has (variable w) v h u = subst (λ n. F (variable n)) (sym (eqb-true w v u)) h
  read_has (change w) v h u = never u
  read_has (port w) v h u = never u
  read_has (timer w) v h u = never u
  read_has (channel w) v h u = never u

  change_has : (th : Thing) (v : ℕ) → F (variable v) → F (change v) → IsTrue (by_change th v) → F th
  change_has (variable w) v h g u = subst (λ n. F (variable n)) (sym (eqb-true w v u)) h
  change_has (change w) v h g u = subst (λ n. F (change n)) (sym (eqb-true w v u)) g
  change_has (port w) v h g u = never u
  change_has (timer w) v h g u = never u
  change_has (channel w) v h g u = never u

  channel_has : (th : Thing) (c : ℕ) → F (channel c) → IsTrue (by_channel th c) → F th
  channel_has (channel d) c h u = subst (λ n. F (channel n)) (sym (eqb-true d c u)) h
  channel_has (variable w) c h u = never u
  channel_has (change w) c h u = never u
  channel_has (port w) c h u = never u
  channel_has (timer w) c h u = never u

  resource_has : (th : Thing) (r : KRes) → EveryResource F Q T r → IsTrue (by_resource th r) → F th
  resource_has (port q) (Port p) h u = subst (λ n. F (port n)) (sym (eqb-true q p u)) h
  resource_has (port q) (Timer t) h u = never u
  resource_has (port q) (Chan c) h u = never u
  resource_has (timer q) (Port p) h u = never u
  resource_has (timer q) (Timer t) h u = subst (λ n. F (timer n)) (sym (eqb-true q t u)) h
  resource_has (timer q) (Chan c) h u = never u
  resource_has (channel q) (Port p) h u = never u
  resource_has (channel q) (Timer t) h u = never u
  resource_has (channel q) (Chan c) h u = subst (λ n. F (channel n)) (sym (eqb-true q c u)) h
  resource_has (variable q) r h u = never u
  resource_has (change q) r h u = never u

  mutual
    expression_has : (th : Thing) (e : kernel.Expression) → EveryExpression F Q T e → IsTrue (by_expression th e) → F th
    expression_has th (kernel.number v) h u = never u
    expression_has th (kernel.read place) h u = place_has th place h u
    expression_has th (kernel.operation symbol is_unsigned es pos) h u = operands_has th es h u

    operands_has : (th : Thing) (es : kernel.Operands) → EveryOperands F Q T es → IsTrue (by_operands th es) → F th
    operands_has th kernel.no_operand h u = never u
    operands_has th (kernel.more_operands e es) h u = ⊎_elim (expression_has th e h.0) (operands_has th es h.1) (or_cases _ _ u)

    place_has : (th : Thing) (p : kernel.Place) → EveryPlace F Q T p → IsTrue (by_place th p) → F th
    place_has th (kernel.word v) h u = read_has th v h u
    place_has th (kernel.element v index pos) h u = ⊎_elim (read_has th v h.0) (expression_has th index h.1) (or_cases _ _ u)

  target_has : (th : Thing) (p : kernel.Place) → EveryTarget F Q T p → IsTrue (by_target th p) → F th
  target_has th (kernel.word v) h u = change_has th v h.0 h.1 u
  target_has th (kernel.element v index pos) h u = ⊎_elim (change_has th v h.0 h.1) (expression_has th index h.2) (or_cases _ _ u)

  some_target_has : (th : Thing) (p : Option kernel.Place) → EverySomeTarget F Q T p → IsTrue (by_some_target th p) → F th
  some_target_has th None h u = never u
  some_target_has th (Some p) h u = target_has th p h u

  some_expression_has : (th : Thing) (e : Option kernel.Expression) → EverySomeExpression F Q T e → IsTrue (by_some_expression th e) → F th
  some_expression_has th None h u = never u
  some_expression_has th (Some e) h u = expression_has th e h u

  condition_has : (th : Thing) (c : Option kernel.Condition) → EveryCondition F Q T c → IsTrue (by_condition th c) → F th
  condition_has th None h u = never u
  condition_has th (Some c) h u = expression_has th c.value h u

  output_has : (th : Thing) (o : kernel.Output) → EveryOutput F Q T o → IsTrue (by_output th o) → F th
  output_has th o h u =
      ⊎_elim (resource_has th o.resource h.resource) (λ v. ⊎_elim (some_expression_has th o.time h.time) (λ w. ⊎_elim (expression_has th o.value h.value) (some_target_has th o.stamp h.stamp) (or_cases _ _ w)) (or_cases _ _ v)) (or_cases _ _ u)

  input_has : (th : Thing) (i : kernel.Input) → EveryInput F Q T i → IsTrue (by_input th i) → F th
  input_has th input h u =
      ⊎_elim (resource_has th input.resource h.resource)
      (λ v. ⊎_elim (some_expression_has th input.time h.time)
      (λ w. ⊎_elim (condition_has th input.condition h.condition)
      (λ x. ⊎_elim (some_target_has th input.target h.target) (some_target_has th input.stamp h.stamp) (or_cases _ _ x)) (or_cases _ _ w)) (or_cases _ _ v)) (or_cases _ _ u)

  mutual
    statement_has : (th : Thing) (s : kernel.Statement) → EveryStatement F Q T s → IsTrue (by_statement th s) → F th
    statement_has th (kernel.set_zero v) h u = change_has th v h.0 h.1 u
    statement_has th (kernel.set p e) h u = ⊎_elim (target_has th p h.0) (expression_has th e h.1) (or_cases _ _ u)
    statement_has th (kernel.output o) h u = output_has th o h u
    statement_has th (kernel.input input) h u = input_has th input h u
    statement_has th (kernel.if_then e a b) h u = ⊎_elim (expression_has th e h.0) (λ v. ⊎_elim (statements_has th a h.1) (statements_has th b h.2) (or_cases _ _ v)) (or_cases _ _ u)
    statement_has th (kernel.loop e a b) h u = ⊎_elim (expression_has th e h.0) (λ v. ⊎_elim (statements_has th a h.1) (statements_has th b h.2) (or_cases _ _ v)) (or_cases _ _ u)
    statement_has th (kernel.block n a) h u = statements_has th a h u
    statement_has th (kernel.exit n) h u = never u
    statement_has th (kernel.select cs d pos) h u = ⊎_elim (cases_has th cs h.0) (default_has th d h.1) (or_cases _ _ u)
    statement_has th (kernel.par bs) h u = branches_has th bs h.1 u
    statement_has th (kernel.transaction c is_master a start close) h u = ⊎_elim (channel_has th c h.0) (statements_has th a h.2) (or_cases _ _ u)

    pub statements_has : (th : Thing) (ss : kernel.Statements) → EveryStatements F Q T ss → IsTrue (by_statements th ss) → F th
    statements_has th kernel.no_more h u = never u
    statements_has th (kernel.more s ss) h u = ⊎_elim (statement_has th s h.0) (statements_has th ss h.1) (or_cases _ _ u)

    case_has : (th : Thing) (c : kernel.Case) → EveryCase F Q T c → IsTrue (by_case th c) → F th
    case_has th (kernel.case guard input a) h u =
        ⊎_elim (some_expression_has th guard h.0) (λ v. ⊎_elim (input_has th input h.1) (statements_has th a h.2) (or_cases _ _ v)) (or_cases _ _ u)

    cases_has : (th : Thing) (cs : kernel.Cases) → EveryCases F Q T cs → IsTrue (by_cases th cs) → F th
    cases_has th kernel.no_case h u = never u
    cases_has th (kernel.more_cases c cs) h u = ⊎_elim (case_has th c h.0) (cases_has th cs h.1) (or_cases _ _ u)

    default_has : (th : Thing) (d : kernel.Default) → EveryDefault F Q T d → IsTrue (by_default th d) → F th
    default_has th kernel.no_default h u = never u
    default_has th (kernel.default a) h u = statements_has th a h u

    branch_has : (th : Thing) (b : kernel.Branch) → EveryBranch F Q T b → IsTrue (by_branch th b) → F th
    branch_has th (kernel.branch a pos) h u = statements_has th a h u

    branches_has : (th : Thing) (bs : kernel.Branches) → EveryBranches F Q T bs → IsTrue (by_branches th bs) → F th
    branches_has th kernel.no_branch h u = never u
    branches_has th (kernel.more_branches b bs) h u = ⊎_elim (branch_has th b h.0) (branches_has th bs h.1) (or_cases _ _ u)

  body_has : (th : Thing) (b : Body) → EveryBody F Q T b → IsTrue (by_body th b) → F th
  body_has th (of_kernel ss) h u = statements_has th ss h u
  body_has th (of_text i) h u = absurd h

  some_body_has : (th : Thing) (b : Option Body) → EverySomeBody F Q T b → IsTrue (by_some_body th b) → F th
  some_body_has th None h u = never u
  some_body_has th (Some b) h u = body_has th b h u

  choices_has : (th : Thing) (cs : List Choice) → EveryChoices F Q T cs → IsTrue (by_choices th cs) → F th
  choices_has th [] h u = never u
  choices_has th (c ∷ cs) h u = ⊎_elim (input_has th c.input h.0) (λ v. ⊎_elim (body_has th c.body h.1) (choices_has th cs h.2) (or_cases _ _ v)) (or_cases _ _ u)

  pub item_has : (th : Thing) (item : Item) → EveryItem F Q T item → IsTrue (by_item th item) → F th
  item_has th (does s) h u = statement_has th s h u
  item_has th (says i) h u = absurd h
  item_has th (stores p v) h u = target_has th p h u
  item_has th (stamps resource p v) h u = ⊎_elim (resource_has th resource h.0) (target_has th p h.1) (or_cases _ _ u)
  item_has th (mark n) h u = never u
  item_has th (awaits c pos) h u = channel_has th c h u
  item_has th (transaction_end c is_master pos) h u = channel_has th c h u
  item_has th (chooses choices otherwise) h u = ⊎_elim (choices_has th choices h.0) (some_body_has th otherwise h.1) (or_cases _ _ u)
  item_has th (fixed input v counter) h u = input_has th input h u
  item_has th ends h u = never u

  pub items_have : (th : Thing) (items : List Item) → AllItems (EveryItem F Q T) items → IsTrue (by_items th items) → F th
  items_have th [] h u = never u
  items_have th (item ∷ items) h u = ⊎_elim (item_has th item h.0) (items_have th items h.1) (or_cases _ _ u)

-- From the test, of items; they are no text's where something holds of each of them.
module _ (F : Thing → Type 0) where
  of_body : (b : Body) → EveryBody AnyThing AnyPar AnyTransaction b → ((th : Thing) → IsTrue (by_body th b) → F th) → EveryBody F AnyPar AnyTransaction b
  of_body (of_kernel ss) h k = of_statements F ss k
  of_body (of_text i) h k = absurd h

  of_some_body : (b : Option Body) → EverySomeBody AnyThing AnyPar AnyTransaction b → ((th : Thing) → IsTrue (by_some_body th b) → F th) → EverySomeBody F AnyPar AnyTransaction b
  of_some_body None h k = tt
  of_some_body (Some b) h k = of_body b h k

  of_choices : (cs : List Choice) → EveryChoices AnyThing AnyPar AnyTransaction cs → ((th : Thing) → IsTrue (by_choices th cs) → F th) → EveryChoices F AnyPar AnyTransaction cs
  of_choices [] h k = tt
  of_choices (c ∷ cs) h k =
      (of_input F c.input (λ th u. k th (or_left _ _ u)), of_body c.body h.1 (λ th u. k th (or_right _ _ (or_left _ _ u))), of_choices cs h.2 (λ th u. k th (or_right _ _ (or_right _ _ u))))

  pub of_item : (item : Item) → EveryItem AnyThing AnyPar AnyTransaction item → ((th : Thing) → IsTrue (by_item th item) → F th) → EveryItem F AnyPar AnyTransaction item
  of_item (does s) h k = of_statement F s k
  of_item (says i) h k = absurd h
  of_item (stores p v) h k = of_target F p k
  of_item (stamps resource p v) h k = (of_resource F resource (λ th u. k th (or_left (by_resource th resource) _ u)), of_target F p (λ th u. k th (or_right (by_resource th resource) _ u)))
  of_item (mark n) h k = tt
  of_item (awaits c pos) h k = k (channel c) (same_number c)
  of_item (transaction_end c is_master pos) h k = k (channel c) (same_number c)
  of_item (chooses choices otherwise) h k = (of_choices choices h.0 (λ th u. k th (or_left _ _ u)), of_some_body otherwise h.1 (λ th u. k th (or_right _ _ u)))
  of_item (fixed input v counter) h k = of_input F input k
  of_item ends h k = tt

  pub of_items : (items : List Item) → AllItems (EveryItem AnyThing AnyPar AnyTransaction) items → ((th : Thing) → IsTrue (by_items th items) → F th) → AllItems (EveryItem F AnyPar AnyTransaction) items
  of_items [] h k = tt
  of_items (item ∷ items) h k = (of_item item h.0 (λ th u. k th (or_left _ _ u)), of_items items h.1 (λ th u. k th (or_right _ _ u)))
