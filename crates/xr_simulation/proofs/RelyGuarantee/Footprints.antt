-- What a branch uses becomes less as it goes on, and what it needs of its runner holds all the while.
use Rattle.std.proofs.Common.{◌≡◌, ℕ, zero, suc, ◌+◌, Bool, true, false, ◌||◌, List, [], ◌∷◌, Option, Some, None, refl, sym, subst, ◌∙◌}
use Rattle.xw_words.specs.declared.pos.Pos.{Pos}
use Rattle.xs_instr.specs.declared.image.Home.{Home}
use Rattle.xs_instr.specs.declared.state.Regs.{Regs}
use Rattle.xs_instr.specs.declared.state.Thread.{Thread}
use Rattle.xs_instr.specs.Registers.{reg_set}
use Rattle.xc_kernel.specs.declared.kernel.PortUse.{PortUse}
use Rattle.xc_kernel.specs.declared.statement.KRes.{KRes}
use Rattle.xc_kernel.specs.declared.statement.KRes.TheVariants.{Port, Timer, Chan}
use Rattle.xc_kernel.specs.Plain as kernel
use Rattle.xc_kernel.specs.Things.{Thing, variable, change, port, timer, channel, by_read, by_change, by_resource, by_expression, by_operands, by_place, by_target, by_some_target, by_some_expression, by_condition, by_output, by_input, by_statement, by_statements, by_case, by_cases, by_default, by_branch, by_branches}
use Rattle.xc_invariants.specs.Rules.{code_at}
use Rattle.xc_invariants.specs.Sided.{BodyIs, DefaultIs, EachChoice}
use Rattle.xc_meaning.specs.States.Items.{Body, of_kernel, of_text, Choice, Item, does, says, stores, stamps, mark, awaits, transaction_end, chooses, fixed, ends, todo}
use Rattle.xc_meaning.specs.Uses.{by_body, by_choices, by_item, by_items, by_some_body}
use Rattle.xc_meaning.proofs.Basics.{none_given, or_left, or_right, same_number, some_given}
use Rattle.xl_chan.specs.Protocols.{Act, ActsAll, Behind, sends, takes, takes_word}
use Rattle.xl_expr.specs.declared.plan.VarPlan.{VarPlan}
use Rattle.xl_expr.specs.Frames.{HaveVars, variable_of}
use Rattle.xl_expr.specs.Plans.{var_in}
use Rattle.xl_plan.specs.Layout.{is_used_on}
use Rattle.xr_simulation.specs.Fits.{AllFit, AsksRightly, BranchesFit, CasesFit, ChangesAt, CountedInputFits, DefaultFits, FitOn, Fits, InputFits, IsChanged, ItemFits, ItemsFit, OutputFits, PutsOutAt, StampsAt, TakesInAt, Uses, UsesCondition, UsesAt, UsesSome}
use Rattle.xr_simulation.specs.Runners.{Activation, Footprint, Setting, Runner, IsChannel, IsPort, anyone, end_place, footprint_of, home, outside, places, plan, plan_in, shrunk}
use Rattle.xr_simulation.specs.ThreadViews.{ThreadView, running}
use Rattle.xr_simulation.specs.Transfers.{Transfer, acts_left, items_behind}
use Rattle.xr_simulation.specs.NextStep.{Has, HoldsStore, InTransfer, IsBehind, PortsStand, Rest}
use Rattle.xr_simulation.proofs.RelyGuarantee.Stands.{stands_on}

-- one footprint is within another
pub record IsWithin (smaller larger : Footprint) : Type 0 where
  pub uses : (v : ℕ) → smaller.uses v ≡ true → larger.uses v ≡ true
  pub changes : (v : ℕ) → smaller.changes v ≡ true → larger.changes v ≡ true
  pub ports : (p : ℕ) → smaller.ports p ≡ true → larger.ports p ≡ true
  pub timers : (t : ℕ) → smaller.timers t ≡ true → larger.timers t ≡ true
  pub channels : (c : ℕ) → smaller.channels c ≡ true → larger.channels c ≡ true

-- items that use no more have no more
pub within_of_uses : (items others : List Item) → ((th : Thing) → by_items th items ≡ true → by_items th others ≡ true) → IsWithin (footprint_of items) (footprint_of others)
within_of_uses items others h = record {
  uses = λ v u. h (variable v) u;
  changes = λ v u. h (change v) u;
  ports = λ p u. h (port p) u;
  timers = λ t u. h (timer t) u;
  channels = λ c u. h (channel c) u;
}

-- What is changed is used.

both_or : (a b c d : Bool) → (a ≡ true → c ≡ true) → (b ≡ true → d ≡ true) → (a || b) ≡ true → (c || d) ≡ true
both_or true b c d f g e = or_left c d (f refl)
both_or false b c d f g e = or_right c d (g e)

module _ (v : ℕ) where
  mutual
    expression_used : (e : kernel.Expression) → by_expression (change v) e ≡ true → by_expression (variable v) e ≡ true
    expression_used (kernel.number w) h = h
    expression_used (kernel.read p) h = place_used p h
    expression_used (kernel.operation o u es pos) h = operands_used es h

    operands_used : (es : kernel.Operands) → by_operands (change v) es ≡ true → by_operands (variable v) es ≡ true
    operands_used kernel.no_operand h = h
    operands_used (kernel.more_operands e es) h = both_or _ _ _ _ (expression_used e) (operands_used es) h

    place_used : (p : kernel.Place) → by_place (change v) p ≡ true → by_place (variable v) p ≡ true
    place_used (kernel.word w) h = absurd cc
    place_used (kernel.element w i pos) h = both_or (by_read (change v) w) _ (by_read (variable v) w) _ (λ e. absurd cc) (expression_used i) h

  target_used : (p : kernel.Place) → by_target (change v) p ≡ true → by_target (variable v) p ≡ true
  target_used (kernel.word w) h = h
  target_used (kernel.element w i pos) h = both_or _ _ _ _ (λ e. e) (expression_used i) h

  some_target_used : (p : Option kernel.Place) → by_some_target (change v) p ≡ true → by_some_target (variable v) p ≡ true
  some_target_used None h = h
  some_target_used (Some p) h = target_used p h

  some_expression_used : (e : Option kernel.Expression) → by_some_expression (change v) e ≡ true → by_some_expression (variable v) e ≡ true
  some_expression_used None h = h
  some_expression_used (Some e) h = expression_used e h

  condition_used : (c : Option kernel.Condition) → by_condition (change v) c ≡ true → by_condition (variable v) c ≡ true
  condition_used None h = h
  condition_used (Some c) h = expression_used c.value h

  output_used : (o : kernel.Output) → by_output (change v) o ≡ true → by_output (variable v) o ≡ true
  output_used o h =
      both_or (by_resource (change v) o.resource) _ (by_resource (variable v) o.resource) _ (λ e. absurd cc)
      (both_or (by_some_expression (change v) o.time) _ (by_some_expression (variable v) o.time) _ (some_expression_used o.time)
      (both_or (by_expression (change v) o.value) _ (by_expression (variable v) o.value) _ (expression_used o.value) (some_target_used o.stamp))) h

  input_used : (i : kernel.Input) → by_input (change v) i ≡ true → by_input (variable v) i ≡ true
  input_used i h =
      both_or (by_resource (change v) i.resource) _ (by_resource (variable v) i.resource) _ (λ e. absurd cc)
      (both_or (by_some_expression (change v) i.time) _ (by_some_expression (variable v) i.time) _ (some_expression_used i.time)
      (both_or (by_condition (change v) i.condition) _ (by_condition (variable v) i.condition) _ (condition_used i.condition)
      (both_or (by_some_target (change v) i.target) _ (by_some_target (variable v) i.target) _ (some_target_used i.target) (some_target_used i.stamp)))) h

  mutual
    statement_used : (s : kernel.Statement) → by_statement (change v) s ≡ true → by_statement (variable v) s ≡ true
    statement_used (kernel.set_zero w) h = h
    statement_used (kernel.set p e) h = both_or _ _ _ _ (target_used p) (expression_used e) h
    statement_used (kernel.output o) h = output_used o h
    statement_used (kernel.input i) h = input_used i h
    statement_used (kernel.if_then e a b) h = both_or _ _ _ _ (expression_used e) (both_or _ _ _ _ (statements_used a) (statements_used b)) h
    statement_used (kernel.loop e a b) h = both_or _ _ _ _ (expression_used e) (both_or _ _ _ _ (statements_used a) (statements_used b)) h
    statement_used (kernel.block n a) h = statements_used a h
    statement_used (kernel.exit n) h = h
    statement_used (kernel.select cs d pos) h = both_or _ _ _ _ (cases_used cs) (default_used d) h
    statement_used (kernel.par bs) h = branches_used bs h
    statement_used (kernel.transaction c is_master a start close) h = statements_used a h

    statements_used : (ss : kernel.Statements) → by_statements (change v) ss ≡ true → by_statements (variable v) ss ≡ true
    statements_used kernel.no_more h = h
    statements_used (kernel.more s ss) h = both_or _ _ _ _ (statement_used s) (statements_used ss) h

    case_used : (c : kernel.Case) → by_case (change v) c ≡ true → by_case (variable v) c ≡ true
    case_used (kernel.case guard i a) h =
        both_or (by_some_expression (change v) guard) _ (by_some_expression (variable v) guard) _ (some_expression_used guard)
        (both_or (by_input (change v) i) _ (by_input (variable v) i) _ (input_used i) (statements_used a)) h

    cases_used : (cs : kernel.Cases) → by_cases (change v) cs ≡ true → by_cases (variable v) cs ≡ true
    cases_used kernel.no_case h = h
    cases_used (kernel.more_cases c cs) h = both_or _ _ _ _ (case_used c) (cases_used cs) h

    default_used : (d : kernel.Default) → by_default (change v) d ≡ true → by_default (variable v) d ≡ true
    default_used kernel.no_default h = h
    default_used (kernel.default a) h = statements_used a h

    branch_used : (b : kernel.Branch) → by_branch (change v) b ≡ true → by_branch (variable v) b ≡ true
    branch_used (kernel.branch a pos) h = statements_used a h

    branches_used : (bs : kernel.Branches) → by_branches (change v) bs ≡ true → by_branches (variable v) bs ≡ true
    branches_used kernel.no_branch h = h
    branches_used (kernel.more_branches b bs) h = both_or _ _ _ _ (branch_used b) (branches_used bs) h

  -- of items
  body_used : (b : Body) → by_body (change v) b ≡ true → by_body (variable v) b ≡ true
  body_used (of_kernel ss) h = statements_used ss h
  body_used (of_text i) h = refl

  some_body_used : (b : Option Body) → by_some_body (change v) b ≡ true → by_some_body (variable v) b ≡ true
  some_body_used None h = h
  some_body_used (Some b) h = body_used b h

  choices_used : (cs : List Choice) → by_choices (change v) cs ≡ true → by_choices (variable v) cs ≡ true
  choices_used [] h = h
  choices_used (c ∷ cs) h =
      both_or (by_input (change v) c.input) _ (by_input (variable v) c.input) _ (input_used c.input)
      (both_or (by_body (change v) c.body) _ (by_body (variable v) c.body) _ (body_used c.body) (choices_used cs)) h

  item_used : (i : Item) → by_item (change v) i ≡ true → by_item (variable v) i ≡ true
  item_used (does s) h = statement_used s h
  item_used (says i) h = refl
  item_used (stores place w) h = target_used place h
  item_used (stamps resource place w) h = target_used place h
  item_used (mark n) h = h
  item_used (awaits c pos) h = absurd cc
  item_used (transaction_end c is_master pos) h = absurd cc
  item_used (chooses choices otherwise) h = both_or _ _ _ _ (choices_used choices) (some_body_used otherwise) h
  item_used (fixed i w counter) h = input_used i h
  item_used ends h = h

  items_used : (items : List Item) → by_items (change v) items ≡ true → by_items (variable v) items ≡ true
  items_used [] h = h
  items_used (i ∷ items) h = both_or _ _ _ _ (item_used i) (items_used items) h

pub changed_used_items : (items : List Item) (v : ℕ) → (footprint_of items).changes v ≡ true → (footprint_of items).uses v ≡ true
changed_used_items items v h = items_used v items h

-- What items need of one runner they need of another one of its core that has all that they use.
module _ (g : Setting) (r s : Runner) (same : s.core ≡ r.core) (block : s.block ≡ r.block) where
  -- it has a thing
  abbrev IsHad : Thing → Type 0
  IsHad (variable v) = s.footprint.uses v ≡ true
  IsHad (change v) = s.footprint.changes v ≡ true
  IsHad (port p) = s.footprint.ports p ≡ true
  IsHad (timer t) = s.footprint.timers t ≡ true
  IsHad (channel c) = s.footprint.channels c ≡ true

  -- all that is used
  abbrev AreHad : (Thing → Bool) → Type 0
  AreHad by = (th : Thing) → by th ≡ true → IsHad th

  moved : (v : ℕ) (found : VarPlan) → var_in (plan g r).vars v ≡ Some found → var_in (plan g s).vars v ≡ Some found
  moved v found known =
      subst (λ k. var_in (plan_in (g.plans k) s.block.plan).vars v ≡ Some found) (sym same)
      (subst (λ (b : Activation). var_in (plan_in (g.plans r.core) b.plan).vars v ≡ Some found) (sym block) known)

  mutual
    expression_here : (e : kernel.Expression) → Uses g r e → AreHad (λ th. by_expression th e) → Uses g s e
    expression_here (kernel.number w) h k = tt
    expression_here (kernel.read p) h k = place_here p h k
    expression_here (kernel.operation o u es pos) h k = operands_here es h k

    operands_here : (es : kernel.Operands) → HaveVars (plan g r).vars r.footprint.uses es → AreHad (λ th. by_operands th es) → HaveVars (plan g s).vars s.footprint.uses es
    operands_here kernel.no_operand h k = tt
    operands_here (kernel.more_operands e es) h k = (expression_here e h.0 (λ th u. k th (or_left _ _ u)), operands_here es h.1 (λ th u. k th (or_right _ _ u)))

    place_here : (p : kernel.Place) → UsesAt g r p → AreHad (λ th. by_place th p) → UsesAt g s p
    place_here (kernel.word v) h k = (h.0, moved v h.0 h.1, h.2, k (variable v) (same_number v))
    place_here (kernel.element v i pos) h k =
        let f = h.1 in
        (expression_here i h.0 (λ th q. k th (or_right (by_read th v) _ q)), (f.0, moved v f.0 f.1, k (variable v) (or_left _ _ (same_number v))))

  target_here : (p : kernel.Place) → UsesAt g r p → AreHad (λ th. by_target th p) → UsesAt g s p × (s.footprint.changes (variable_of p) ≡ true)
  target_here (kernel.word v) h k = ((h.0, moved v h.0 h.1, h.2, k (variable v) (same_number v)), k (change v) (same_number v))
  target_here (kernel.element v i pos) h k =
      let f = h.1 in
      ((expression_here i h.0 (λ th q. k th (or_right (by_change th v) _ q)), (f.0, moved v f.0 f.1, k (variable v) (or_left _ _ (same_number v)))), k (change v) (or_left _ _ (same_number v)))

  some_here : (e : Option kernel.Expression) → UsesSome g r e → AreHad (λ th. by_some_expression th e) → UsesSome g s e
  some_here None h k = tt
  some_here (Some e) h k = expression_here e h k

  condition_here : (c : Option kernel.Condition) → UsesCondition g r c → AreHad (λ th. by_condition th c) → UsesCondition g s c
  condition_here None h k = tt
  condition_here (Some c) h k = expression_here c.value h k

  some_target_here : (p : Option kernel.Place) → ChangesAt g r p → AreHad (λ th. by_some_target th p) → ChangesAt g s p
  some_target_here None h k = tt
  some_target_here (Some p) h k = target_here p h.0 k

  channel_here : (c : ℕ) → IsChannel g r c → s.footprint.channels c ≡ true → IsChannel g s c
  channel_here c h mine =
      record { mine = mine; known = h.known; used = subst (λ k. is_used_on g.program k c ≡ true) (sym same) h.used }

  resource_here : (o : KRes) → PutsOutAt g r o → AreHad (λ th. by_resource th o) → PutsOutAt g s o
  resource_here (Port p) h k = record {
    listed = h.listed;
    is = record { mine = k (port p) (same_number p); known = h.is.known; core = h.is.core ∙ sym same };
    sends = h.sends;
  }
  resource_here (Timer t) h k = tt
  resource_here (Chan c) h k = channel_here c h (k (channel c) (same_number c))

  source_here : (o : KRes) → TakesInAt g r o → AreHad (λ th. by_resource th o) → TakesInAt g s o
  source_here (Port p) h k = record {
    listed = h.listed;
    is = record { mine = k (port p) (same_number p); known = h.is.known; core = h.is.core ∙ sym same };
    receives = h.receives;
  }
  source_here (Timer t) h k = record {
    listed = h.listed;
    is = record { mine = k (timer t) (same_number t); known = h.is.known; core = h.is.core ∙ sym same };
  }
  source_here (Chan c) h k = channel_here c h (k (channel c) (same_number c))

  -- what is asked for doesn't depend on the runner
  asks_here : (o : KRes) (time : Option kernel.Expression) (condition : Option kernel.Condition) → AsksRightly g r o time condition →
      AsksRightly g s o time condition
  asks_here (Port p) time condition h = h
  asks_here (Timer t) time condition h = h
  asks_here (Chan c) time condition h = tt

  stamp_here : (o : KRes) → StampsAt g r o → AreHad (λ th. by_resource th o) → StampsAt g s o
  stamp_here (Port p) h k = (h.0, record { mine = k (port p) (same_number p); known = h.1.known; core = h.1.core ∙ sym same })
  stamp_here (Timer t) h k = absurd h
  stamp_here (Chan c) h k = absurd h

  zero_here : (v : ℕ) → IsChanged g r v → AreHad (λ th. by_change th v) → IsChanged g s v
  zero_here v h k = record {
    found = h.found;
    known = subst (λ k. var_in (places g k) v ≡ Some h.found) (sym same) h.known;
    words = h.words;
    some = h.some;
    uses = k (variable v) (same_number v);
    changes = k (change v) (same_number v);
  }

  output_here : (o : kernel.Output) → OutputFits g r o → AreHad (λ th. by_output th o) → OutputFits g s o
  output_here o h k = record {
    time = some_here o.time h.time (λ th u. k th (or_right (by_resource th o.resource) _ (or_left (by_some_expression th o.time) _ u)));
    value = expression_here o.value h.value (λ th u. k th (or_right (by_resource th o.resource) _ (or_right (by_some_expression th o.time) _ (or_left (by_expression th o.value) _ u))));
    stamp = some_target_here o.stamp h.stamp
        (λ th u. k th
        (or_right (by_resource th o.resource) _
        (or_right (by_some_expression th o.time) _ (or_right (by_expression th o.value) _ u))));
    to = resource_here o.resource h.to (λ th u. k th (or_left (by_resource th o.resource) _ u));
  }

  input_here : (i : kernel.Input) → InputFits g r i → AreHad (λ th. by_input th i) → InputFits g s i
  input_here i h k = record {
    time = some_here i.time h.time (λ th u. k th (or_right (by_resource th i.resource) _ (or_left (by_some_expression th i.time) _ u)));
    condition = condition_here i.condition h.condition
        (λ th u. k th
        (or_right (by_resource th i.resource) _
        (or_right (by_some_expression th i.time) _ (or_left (by_condition th i.condition) _ u))));
    target = some_target_here i.target h.target
        (λ th u. k th (or_right (by_resource th i.resource) _ (or_right (by_some_expression th i.time) _ (or_right (by_condition th i.condition) _ (or_left (by_some_target th i.target) _ u)))));
    stamp = some_target_here i.stamp h.stamp
        (λ th u. k th
        (or_right (by_resource th i.resource) _ (or_right (by_some_expression th i.time) _
        (or_right (by_condition th i.condition) _ (or_right (by_some_target th i.target) _ u)))));
    from = source_here i.resource h.from (λ th u. k th (or_left (by_resource th i.resource) _ u));
    asks = asks_here i.resource i.time i.condition h.asks;
  }

  mutual
    statement_here : (t : kernel.Statement) → Fits g r t → AreHad (λ th. by_statement th t) → Fits g s t
    statement_here (kernel.set_zero v) h k = (zero_here v h.0 k, h.1)
    statement_here (kernel.set p e) h k =
        let f = target_here p h.0 (λ th u. k th (or_left _ _ u)) in
        (f.0, expression_here e h.1 (λ th u. k th (or_right (by_target th p) _ u)), f.1, h.3)
    statement_here (kernel.output o) h k = (output_here o h.0 k, h.1)
    statement_here (kernel.input i) h k = (input_here i h.0 k, h.1)
    statement_here (kernel.if_then e a b) h k = (
      expression_here e h.0 (λ th u. k th (or_left _ _ u)),
      all_here a h.1 (λ th u. k th (or_right (by_expression th e) _ (or_left _ _ u))),
      all_here b h.2 (λ th u. k th (or_right (by_expression th e) _ (or_right (by_statements th a) _ u))),
      h.3,
    )
    statement_here (kernel.loop e a b) h k = (
      expression_here e h.0 (λ th u. k th (or_left _ _ u)),
      all_here a h.1 (λ th u. k th (or_right (by_expression th e) _ (or_left _ _ u))),
      all_here b h.2 (λ th u. k th (or_right (by_expression th e) _ (or_right (by_statements th a) _ u))),
      h.3,
    )
    statement_here (kernel.block m a) h k = all_here a h k
    statement_here (kernel.exit m) h k = tt
    statement_here (kernel.select cs d pos) h k =
        (cases_here cs h.0 (λ th u. k th (or_left _ _ u)), default_here d h.1 (λ th u. k th (or_right (by_cases th cs) _ u)), h.2)
    statement_here (kernel.par bs) h k = (branches_here bs h.0 k, h.1)
    statement_here (kernel.transaction c is_master a start close) h k = tt

    all_here : (ss : kernel.Statements) → AllFit g r ss → AreHad (λ th. by_statements th ss) → AllFit g s ss
    all_here kernel.no_more h k = tt
    all_here (kernel.more t ss) h k = (statement_here t h.0 (λ th u. k th (or_left _ _ u)), all_here ss h.1 (λ th u. k th (or_right (by_statement th t) _ u)))

    cases_here : (cs : kernel.Cases) → CasesFit g r cs → AreHad (λ th. by_cases th cs) → CasesFit g s cs
    cases_here kernel.no_case h k = tt
    cases_here (kernel.more_cases (kernel.case guard i ss) cs) h k = (
      (
        some_here guard h.0.0 (λ th u. k th (or_left _ _ (or_left (by_some_expression th guard) _ u))),
        (input_here i h.0.1.0 (λ th u. k th (or_left _ _ (or_right (by_some_expression th guard) _ (or_left (by_input th i) _ u)))), h.0.1.1),
        all_here ss h.0.2 (λ th u. k th (or_left _ _ (or_right (by_some_expression th guard) _ (or_right (by_input th i) _ u)))),
      ),
      cases_here cs h.1 (λ th u. k th (or_right (by_case th (kernel.case guard i ss)) _ u)),
    )

    default_here : (d : kernel.Default) → DefaultFits g r d → AreHad (λ th. by_default th d) → DefaultFits g s d
    default_here kernel.no_default h k = tt
    default_here (kernel.default ss) h k = all_here ss h k

    branches_here : (bs : kernel.Branches) → BranchesFit g r bs → AreHad (λ th. by_branches th bs) → BranchesFit g s bs
    branches_here kernel.no_branch h k = tt
    branches_here (kernel.more_branches (kernel.branch ss pos) bs) h k =
        (all_here ss h.0 (λ th u. k th (or_left _ _ u)), branches_here bs h.1 (λ th u. k th (or_right (by_statements th ss) _ u)))

  -- of a select whose enabled cases are known, and of the input of one that was taken
  body_here : (b : Body) → BodyIs (AllFit g r) b → AreHad (λ th. by_body th b) → BodyIs (AllFit g s) b
  body_here (of_kernel ss) h k = all_here ss h k
  body_here (of_text i) h k = absurd h

  some_body_here : (b : Option Body) → DefaultIs (AllFit g r) b → AreHad (λ th. by_some_body th b) → DefaultIs (AllFit g s) b
  some_body_here None h k = tt
  some_body_here (Some b) h k = body_here b h k

  choices_here : (cs : List Choice) → EachChoice (CountedInputFits g r) (AllFit g r) cs → AreHad (λ th. by_choices th cs) →
      EachChoice (CountedInputFits g s) (AllFit g s) cs
  choices_here [] h k = tt
  choices_here (c ∷ cs) h k = (
    (input_here c.input h.0.0 (λ th u. k th (or_left (by_input th c.input) _ u)), h.0.1),
    body_here c.body h.1 (λ th u. k th (or_right (by_input th c.input) _ (or_left (by_body th c.body) _ u))),
    choices_here cs h.2 (λ th u. k th (or_right (by_input th c.input) _ (or_right (by_body th c.body) _ u))),
  )

  item_here : (i : Item) → ItemFits g r i → AreHad (λ th. by_item th i) → ItemFits g s i
  item_here (does t) h k = statement_here t h k
  item_here (says i) h k = tt
  item_here (stores place w) h k = (target_here place h.0.0 k, h.1)
  item_here (stamps resource place w) h k = (
    stamp_here resource h.0 (λ th u. k th (or_left (by_resource th resource) _ u)),
    target_here place h.1.0 (λ th u. k th (or_right (by_resource th resource) _ u)),
    h.2,
  )
  item_here (mark n) h k = tt
  item_here (awaits c pos) h k = channel_here c h (k (channel c) (same_number c))
  item_here (transaction_end c is_master pos) h k = tt
  item_here (chooses choices otherwise) h k =
      (choices_here choices h.0 (λ th u. k th (or_left _ _ u)), some_body_here otherwise h.1 (λ th u. k th (or_right (by_choices th choices) _ u)))
  item_here (fixed i w counter) h k = (input_here i h.0 k, h.1)
  item_here ends h k = tt

  items_here : (items : List Item) → ItemsFit g r items → AreHad (λ th. by_items th items) → ItemsFit g s items
  items_here [] h k = tt
  items_here (i ∷ items) h k = (item_here i h.0 (λ th u. k th (or_left _ _ u)), items_here items h.1 (λ th u. k th (or_right (by_item th i) _ u)))

-- what items need of their runner they need of their core, and the other way round where the runner's footprint is theirs
all_had : (g : Setting) (r : Runner) (block : outside ≡ r.block) (th : Thing) → IsHad g r (anyone r.core) refl block th
all_had g r block (variable v) = refl
all_had g r block (change v) = refl
all_had g r block (port p) = refl
all_had g r block (timer t) = refl
all_had g r block (channel c) = refl

pub fits_everywhere : (g : Setting) (r : Runner) (items : List Item) → r.block ≡ outside → ItemsFit g r items → FitOn g r.core items
fits_everywhere g r items block h = items_here g r (anyone r.core) refl (sym block) items h (λ th u. all_had g r (sym block) th)

own_had : (g : Setting) (r s : Runner) (core : s.core ≡ r.core) (block : s.block ≡ r.block) (items : List Item) →
    s.footprint ≡ footprint_of items → (th : Thing) → by_items th items ≡ true → IsHad g r s core block th
own_had g r s core block items e (variable v) u = subst (λ (f : Footprint). f.uses v ≡ true) (sym e) u
own_had g r s core block items e (change v) u = subst (λ (f : Footprint). f.changes v ≡ true) (sym e) u
own_had g r s core block items e (port p) u = subst (λ (f : Footprint). f.ports p ≡ true) (sym e) u
own_had g r s core block items e (timer t) u = subst (λ (f : Footprint). f.timers t ≡ true) (sym e) u
own_had g r s core block items e (channel c) u = subst (λ (f : Footprint). f.channels c ≡ true) (sym e) u

-- so items fit a runner in the same block of the same core
pub fits_moved : (g : Setting) (r s : Runner) (items : List Item) → s.core ≡ r.core → s.block ≡ r.block →
    s.footprint ≡ footprint_of items → ItemsFit g r items → ItemsFit g s items
fits_moved g r s items core block e h = items_here g r s core block items h (λ th u. own_had g r s core block items e th u)

pub fits_here : (g : Setting) (r : Runner) (items : List Item) → r.block ≡ outside → FitOn g r.core items →
    r.footprint ≡ footprint_of items → ItemsFit g r items
fits_here g r items block h e = fits_moved g (anyone r.core) r items refl block e h

-- the branches of a `par`, and what is left behind it

pub todo_fits : (g : Setting) (r : Runner) (ss : kernel.Statements) (rest : List Item) → AllFit g r ss → ItemsFit g r rest → ItemsFit g r (todo ss rest)
todo_fits g r kernel.no_more rest h k = k
todo_fits g r (kernel.more s ss) rest h k = (h.0, todo_fits g r ss rest h.1 k)

code_fits : (g : Setting) (r : Runner) (bs : kernel.Branches) → BranchesFit g r bs → (i : ℕ) (ss : kernel.Statements) → code_at bs i ≡ Some ss → AllFit g r ss
code_fits g r kernel.no_branch h i ss e = absurd (none_given e)
code_fits g r (kernel.more_branches (kernel.branch code pos) bs) h zero ss e = subst (AllFit g r) (some_given e) h.0
code_fits g r (kernel.more_branches (kernel.branch code pos) bs) h (suc i) ss e = code_fits g r bs h.1 i ss e

pub branch_fits : (g : Setting) (core : ℕ) (bs : kernel.Branches) (rest : List Item) → FitOn g core (does (kernel.par bs) ∷ rest) →
    (i : ℕ) (ss : kernel.Statements) → code_at bs i ≡ Some ss → FitOn g core (todo ss (ends ∷ []))
branch_fits g core bs rest h i ss e = todo_fits g (anyone core) ss (ends ∷ []) (code_fits g (anyone core) bs h.0.0 i ss e) (tt, tt)

pub rest_fits : (g : Setting) (core : ℕ) (item : Item) (rest : List Item) → FitOn g core (item ∷ rest) → FitOn g core rest
rest_fits g core item rest h = h.1

-- what holds behind the steps of a protocol
module _ (home : Home) (t e : ℕ) (thread : Thread) (pos : Pos) where
  behind_map : (act : Act) (P Q : Regs → Type 0) → ((regs : Regs) → P regs → Q regs) → (regs : Regs) → Behind home t e thread pos act P regs → Behind home t e thread pos act Q regs
  behind_map (sends tokens) P Q f regs h = f regs h
  behind_map (takes_word to) P Q f regs h = λ v. f (reg_set regs to v) (h v)
  behind_map (takes control) P Q f regs h = f regs h

  pub acts_map : (acts : List Act) (P Q : ℕ → Regs → Type 0) → ((index : ℕ) (regs : Regs) → P index regs → Q index regs) → (index : ℕ) (regs : Regs) → ActsAll home t e thread pos acts P index regs → ActsAll home t e thread pos acts Q index regs
  acts_map [] P Q f index regs h = f index regs h
  acts_map (act ∷ acts) P Q f index regs h =
      (h.0, behind_map act (ActsAll home t e thread pos acts P (index + 1)) (ActsAll home t e thread pos acts Q (index + 1)) (acts_map acts P Q f (index + 1)) regs h.1)

-- a runner with less
module _ (g : Setting) (r : Runner) (items : List Item) (less : IsWithin (footprint_of items) r.footprint) where
  pub store_shrinks : (z : ThreadView) → HoldsStore g r z → HoldsStore g (shrunk r items) z
  store_shrinks z h = record {
    holds = record {
      lengths = λ v n found near uses. h.holds.lengths v n found near (less.uses v uses);
      values = λ v n i x found near uses there. h.holds.values v n i x found near (less.uses v uses) there;
    };
    room = h.room;
  }

  pub port_shrinks : (p : ℕ) (listed : PortUse) → IsPort g (shrunk r items) p listed → IsPort g r p listed
  port_shrinks p listed is = record { mine = less.ports p is.mine; known = is.known; core = is.core }

  pub ports_shrink : (z : ThreadView) → PortsStand g r z → PortsStand g (shrunk r items) z
  ports_shrink z h p listed is = let q = h p listed (port_shrinks p listed is) in record { port = q.port; there = q.there; declared = q.declared }

  pub has_shrinks : (these : List Item) (z : ThreadView) → Has g r these z → Has g (shrunk r items) these z
  has_shrinks these z h = record { branch = h.branch; runs = h.runs; core = h.core; holds = store_shrinks z h.holds; ports = ports_shrink z h.ports }

  pub rest_shrinks : (j : ℕ) (z : ThreadView) → Rest g r items j z → Rest g (shrunk r items) items j z
  rest_shrinks j z h = record {
    pc = h.pc;
    regs = h.regs;
    here = h.here;
    bases = h.bases;
    stands = stands_on g r (footprint_of items) r.transfer items j h.pc h.regs z.core h.stands;
    fits = fits_moved g r (shrunk r items) items refl refl refl h.fits;
    has = has_shrinks items z h.has;
  }

  -- what stands behind a transfer is the same code
  behind_shrinks : (these : List Item) (j index : ℕ) (regs : Regs) → IsBehind g r these j index regs → IsBehind g (shrunk r items) these j index regs
  behind_shrinks these j index regs
      h = (h.0, h.1, λ core. stands_on g r (footprint_of items) r.transfer these j index regs core (h.2 core))

  pub transfer_shrinks : (transfer : Transfer) (j : ℕ) (z : ThreadView) → InTransfer g r transfer items j z →
      InTransfer g (shrunk r items) transfer items j z
  transfer_shrinks transfer j z h = record {
    pos = h.pos;
    left = h.left;
    stands_in = h.stands_in;
    no_hand = h.no_hand;
    pc = h.pc;
    regs = h.regs;
    here = h.here;
    steps = acts_map (home g r) r.thread (end_place g r transfer.channel transfer.side) (running r.tie h.pc h.regs) h.pos
        (acts_left transfer.phase) (IsBehind g r (items_behind transfer.phase items) j)
        (IsBehind g (shrunk r items) (items_behind transfer.phase items) j) (behind_shrinks (items_behind transfer.phase items) j) h.pc
        h.regs h.steps;
    fits = fits_moved g r (shrunk r items) items refl refl refl h.fits;
    has = has_shrinks items z h.has;
  }
