-- A tree that is no deeper than 200 and whose calls end has the shape that the walk asks for.
use Rattle.std.proofs.Common.{◌≡◌, ℕ, zero, suc, ◌≤◌, Bool, true, false, List, [], ◌∷◌, Option, Some, None, refl, sym, ap, subst, ◌∙◌, arith}
use Rattle.xc_tree.specs.Plain as tree
use Rattle.xc_tree.specs.Depth as depth
use Rattle.xc_tree.specs.Derives.{deepest}
use Rattle.xc_kernel.specs.Programs.{Function, functions, function_by, function_named}
use Rattle.xc_meaning.specs.Texts.Called.{EachRight, EachMaybeRight, EachKind, EachName, EachCall, EachIn, EachMaybe, EachOf, EachOne, EachBranch, EachCase, EachInFunction, GoesWithin}
use Rattle.xc_wellformed.specs.Operands.{IsProper}
use Rattle.xc_wellformed.proofs.Shaped.{IsProperLval, Assigns, AnyCall, ShapedArguments, ShapedRight, ShapedMaybeRight, ShapedMaybeExpression, ShapedTime, ShapedStamp, ShapedCondition, ShapedTarget, ShapedOutput, ShapedInput, ShapedMaybeInput, ShapedKind, ShapedDeclarations, ShapedStatement, ShapedAction, ShapedMaybe, ShapedStatements, ShapedBranch, ShapedBranches, ShapedCases, OnlyValue, IsStepAtMost, Deep}
use Rattle.xc_wellformed.proofs.Grammar.{AllOf, Shape, ItemShape}
use Rattle.xc_wellformed.proofs.Right.{IsShallow, IsShallowLval}

module _ (Holds C : tree.Call → Type 0) (from : (c : tree.Call) → Holds c → C c) where
  arguments : (xs : List tree.Argument) → ShapedArguments IsProper IsProperLval Assigns AnyCall xs → depth.highest depth.of_argument xs ≤ deepest → ShapedArguments IsShallow IsShallowLval Assigns C xs
  arguments [] h d = tt
  arguments (x ∷ xs) h d = ((h.0, omega arith), arguments xs h.1 (omega arith))

  right : (r : tree.RightSide) → ShapedRight IsProper IsProperLval Assigns AnyCall r → depth.of_right r ≤ deepest → EachRight Holds r → ShapedRight IsShallow IsShallowLval Assigns C r
  right (tree.value e) h d k = (h, d)
  right (tree.result call) h d k = (from call k, arguments call.arguments h.1 d)

  maybe_right : (o : Option tree.RightSide) → ShapedMaybeRight IsProper IsProperLval Assigns AnyCall o → depth.if_some depth.of_right o ≤ deepest → EachMaybeRight Holds o → ShapedMaybeRight IsShallow IsShallowLval Assigns C o
  maybe_right None h d k = tt
  maybe_right (Some r) h d k = right r h d k

  maybe_expression : (o : Option tree.Expression) → ShapedMaybeExpression IsProper IsProperLval Assigns AnyCall o → depth.if_some depth.of_expression o ≤ deepest → ShapedMaybeExpression IsShallow IsShallowLval Assigns C o
  maybe_expression None h d = tt
  maybe_expression (Some e) h d = (h, d)

  the_time : (o : Option tree.Timing) → ShapedTime IsProper IsProperLval Assigns AnyCall o → depth.if_some depth.of_timing o ≤ deepest → ShapedTime IsShallow IsShallowLval Assigns C o
  the_time None h d = tt
  the_time (Some t) h d = (h, d)

  the_stamp : (o : Option tree.Timing) → ShapedStamp IsProper IsProperLval Assigns AnyCall o → depth.if_some depth.of_timing o ≤ deepest → ShapedStamp IsShallow IsShallowLval Assigns C o
  the_stamp None h d = tt
  the_stamp (Some t) h d = (h.0, (h.1, d))

  the_condition : (o : Option tree.Condition) → ShapedCondition IsProper IsProperLval Assigns AnyCall o → depth.if_some depth.of_condition o ≤ deepest → ShapedCondition IsShallow IsShallowLval Assigns C o
  the_condition None h d = tt
  the_condition (Some w) h d = (h, d)

  the_target : (t : tree.Target) → ShapedTarget IsProper IsProperLval Assigns AnyCall t → depth.of_target t ≤ deepest → ShapedTarget IsShallow IsShallowLval Assigns C t
  the_target (tree.to e) h d = (h.0, (h.1, d))
  the_target tree.dropped h d = tt
  the_target (tree.fresh u name) h d = tt

  the_output : (o : tree.Output) → ShapedOutput IsProper IsProperLval Assigns AnyCall o → depth.of_output o ≤ deepest → ShapedOutput IsShallow IsShallowLval Assigns C o
  the_output o h d = (the_time o.time h.0 (omega arith), ((h.1.0, omega arith), the_stamp o.stamp h.1.1 (omega arith)))

  the_input : (i : tree.Input) → ShapedInput IsProper IsProperLval Assigns AnyCall i → depth.of_input i ≤ deepest → ShapedInput IsShallow IsShallowLval Assigns C i
  the_input i h d = (h.0, (the_time i.time h.1.0 (omega arith), (the_condition i.condition h.1.1.0 (omega arith), (the_target i.target h.1.1.1.0 (omega arith), the_stamp i.stamp h.1.1.1.1 (omega arith)))))

  maybe_input : (o : Option tree.Input) → ShapedMaybeInput IsProper IsProperLval Assigns AnyCall o → depth.if_some depth.of_input o ≤ deepest → ShapedMaybeInput IsShallow IsShallowLval Assigns C o
  maybe_input None h d = tt
  maybe_input (Some i) h d = the_input i h d

  the_kind : (kind : tree.Kind) → ShapedKind IsProper IsProperLval Assigns AnyCall kind → depth.of_kind kind ≤ deepest → EachKind Holds kind → ShapedKind IsShallow IsShallowLval Assigns C kind
  the_kind (tree.word u r) h d k = maybe_right r h d k
  the_kind (tree.array u l p) h d k = tt
  the_kind (tree.channel s) h d k = tt
  the_kind tree.timer h d k = tt

  declarations : (ds : List tree.Declaration) → ShapedDeclarations IsProper IsProperLval Assigns AnyCall ds → depth.highest depth.of_declaration ds ≤ deepest → EachName Holds ds → ShapedDeclarations IsShallow IsShallowLval Assigns C ds
  declarations [] h d k = tt
  declarations (x ∷ ds) h d k = (the_kind x.kind h.0 (omega arith) k.0, declarations ds h.1 (omega arith) k.1)

  only_value : (b : Bool) (r : tree.RightSide) → OnlyValue IsProper IsProperLval Assigns AnyCall b r → OnlyValue IsShallow IsShallowLval Assigns C b r
  only_value true r h = tt
  only_value false (tree.value e) h = tt
  only_value false (tree.result call) h = h

  steps : (x : tree.Maybe) → IsStepAtMost IsProper IsProperLval Assigns AnyCall x → IsStepAtMost IsShallow IsShallowLval Assigns C x
  steps tree.absent h = tt
  steps (tree.present (tree.statement (tree.assign to symbol at r) p close own)) h = tt
  steps (tree.present (tree.statement (tree.step to symbol) p close own)) h = tt
  steps (tree.present (tree.statement other p close own)) h = absurd h

  mutual
    pub statement : (s : tree.Statement) → ShapedStatement IsProper IsProperLval Assigns AnyCall s → depth.of_statement s ≤ deepest → EachCall Holds s → ShapedStatement IsShallow IsShallowLval Assigns C s
    statement (tree.statement a p close own) h d k = action a h (omega arith) k

    action : (a : tree.Action) → ShapedAction IsProper IsProperLval Assigns AnyCall a → depth.of_action a ≤ deepest → EachIn Holds a → ShapedAction IsShallow IsShallowLval Assigns C a
    action tree.empty h d k = tt
    action (tree.block ss) h d k = statements ss h d k
    action (tree.declare ds) h d k = declarations ds h d k
    action (tree.assign to symbol at r) h d k = ((h.0.0, (h.0.1, omega arith)), (h.1.0, (right r h.1.1.0 (omega arith) k, only_value _ r h.1.1.1)))
    action (tree.step to symbol) h d k = ((h.0.0, (h.0.1, d)), h.1)
    action (tree.perform r) h d k = right r h d k
    action (tree.output o) h d k = the_output o h d
    action (tree.input i) h d k = the_input i h d
    action (tree.if_then test a b) h d k = ((h.0, omega arith), (statement a h.1.0 (omega arith) k.0, maybe b h.1.1 (omega arith) k.1))
    action (tree.while_loop test body) h d k = ((h.0, omega arith), statement body h.1 (omega arith) k)
    action (tree.do_while body test) h d k = (statement body h.0 (omega arith) k, (h.1, omega arith))
    action (tree.for_loop first test next body) h d k =
        (maybe first h.0 (omega arith) k.0, (maybe_expression test h.1.0 (omega arith), ((maybe next h.1.1.0.0 (omega arith) k.1, steps next h.1.1.0.1), statement body h.1.1.1 (omega arith) k.2)))
    action (tree.return_with r) h d k = maybe_right r h d k
    action tree.break_out h d k = tt
    action tree.continue_on h d k = tt
    action (tree.par bs) h d k = branches bs h d k
    action (tree.replicated a b c x y body) h d k = branch body h d k
    action (tree.select cs) h d k = cases cs h d k
    action (tree.transaction m ss) h d k = statements ss h d k

    maybe : (x : tree.Maybe) → ShapedMaybe IsProper IsProperLval Assigns AnyCall x → depth.of_maybe x ≤ deepest → EachMaybe Holds x → ShapedMaybe IsShallow IsShallowLval Assigns C x
    maybe tree.absent h d k = tt
    maybe (tree.present s) h d k = statement s h d k

    statements : (ss : tree.Statements) → ShapedStatements IsProper IsProperLval Assigns AnyCall ss → depth.of_statements ss ≤ deepest → EachOf Holds ss → ShapedStatements IsShallow IsShallowLval Assigns C ss
    statements tree.no_more h d k = tt
    statements (tree.more s ss) h d k = (statement s h.0 (omega arith) k.0, statements ss h.1 (omega arith) k.1)

    branch : (b : tree.Branch) → ShapedBranch IsProper IsProperLval Assigns AnyCall b → depth.of_branch b ≤ deepest → EachOne Holds b → ShapedBranch IsShallow IsShallowLval Assigns C b
    branch (tree.branch p s) h d k = statement s h (omega arith) k

    branches : (bs : tree.Branches) → ShapedBranches IsProper IsProperLval Assigns AnyCall bs → depth.of_branches bs ≤ deepest → EachBranch Holds bs → ShapedBranches IsShallow IsShallowLval Assigns C bs
    branches tree.no_branch h d k = tt
    branches (tree.more_branches b bs) h d k = (branch b h.0 (omega arith) k.0, branches bs h.1 (omega arith) k.1)

    cases : (cs : tree.Cases) → ShapedCases IsProper IsProperLval Assigns AnyCall cs → depth.of_cases cs ≤ deepest → EachCase Holds cs → ShapedCases IsShallow IsShallowLval Assigns C cs
    cases tree.no_case h d k = tt
    cases (tree.more_cases (tree.case p g i ss) cs) h d k =
        ((maybe_expression g h.0.0 (omega arith), (maybe_input i h.0.1.0 (omega arith), statements ss h.0.1.1 (omega arith) k.0)), cases cs h.1 (omega arith) k.1)

-- the shape and depth of functions
pub record IsGrown (f : Function) : Type 0 where
  pub shape : Shape f.body
  pub low : depth.of_statement f.body ≤ deepest

pub all_grown : (items : List tree.Item) → AllOf ItemShape items → depth.of_program items ≤ deepest → AllOf IsGrown (functions items)
all_grown [] h d = tt
all_grown (tree.port p ∷ items) h d = all_grown items h.1 (omega arith)
all_grown (tree.function head body ∷ items) h d = (record { shape = h.0; low = omega arith }, all_grown items h.1 (omega arith))

pub grown_named : (fs : List Function) → AllOf IsGrown fs → (t : List ℕ) (f : Function) → function_named fs t ≡ Some f → IsGrown f
grown_named [] h t f e = absurd (none_some f e)
  where
    none_some : (x : Function) → None ≡ Some x → ⊥
    none_some x q = cc
grown_named (g ∷ fs) h t f e = by _ e (grown_named fs h.1 t f)
  where
    some_same : (x y : Function) → Some x ≡ Some y → x ≡ y
    some_same x y q = cc

    by : (b : Bool) → function_by b g (function_named fs t) ≡ Some f → (function_named fs t ≡ Some f → IsGrown f) → IsGrown f
    by true q k = subst IsGrown (some_same g f q) h.0
    by false q k = k q

-- calls that go so deep
module _ (fs : List Function) (grown : AllOf IsGrown fs) where
  abbrev pub Calls : ℕ → tree.Call → Type 0
  Calls m = Deep IsShallow IsShallowLval Assigns fs m

  none_is : (o : Option Function) → Rattle.std.specs.Prelude.IsNone o → o ≡ None
  none_is None h = refl
  none_is (Some f) h = absurd (Rattle.std.proofs.Common.true≢false h)

  pub deep : (m : ℕ) (c : tree.Call) → GoesWithin fs m c → Calls m c
  deep zero c h = none_is (function_named fs c.called.text) h
  deep (suc m) c h = λ f e.
      let g = grown_named fs grown c.called.text f e in
      statement (GoesWithin fs m) (Calls m) (deep m) f.body g.shape g.low (subst (λ (o : Option Function). EachInFunction (GoesWithin fs m) o) e h)

  -- main's body
  pub body_shaped : (m : ℕ) (f : Function) → IsGrown f → EachCall (GoesWithin fs m) f.body → ShapedStatement IsShallow IsShallowLval Assigns (Calls m) f.body
  body_shaped m f g k = statement (GoesWithin fs m) (Calls m) (deep m) f.body g.shape g.low k

-- what holds of each call holds of all in a statement
module _ (Holds : tree.Call → Type 0) (each : (c : tree.Call) → Holds c) where
  any_right : (r : tree.RightSide) → EachRight Holds r
  any_right (tree.value e) = tt
  any_right (tree.result call) = each call

  any_maybe_right : (o : Option tree.RightSide) → EachMaybeRight Holds o
  any_maybe_right None = tt
  any_maybe_right (Some r) = any_right r

  any_kind : (kind : tree.Kind) → EachKind Holds kind
  any_kind (tree.word u r) = any_maybe_right r
  any_kind (tree.array u l p) = tt
  any_kind (tree.channel s) = tt
  any_kind tree.timer = tt

  any_names : (ds : List tree.Declaration) → EachName Holds ds
  any_names [] = tt
  any_names (d ∷ ds) = (any_kind d.kind, any_names ds)

  mutual
    pub any_statement : (s : tree.Statement) → EachCall Holds s
    any_statement (tree.statement a p close own) = any_action a

    any_action : (a : tree.Action) → EachIn Holds a
    any_action tree.empty = tt
    any_action (tree.block ss) = any_statements ss
    any_action (tree.declare ds) = any_names ds
    any_action (tree.assign to symbol at r) = any_right r
    any_action (tree.step to symbol) = tt
    any_action (tree.perform r) = any_right r
    any_action (tree.output o) = tt
    any_action (tree.input i) = tt
    any_action (tree.if_then test a b) = (any_statement a, any_maybe b)
    any_action (tree.while_loop test body) = any_statement body
    any_action (tree.do_while body test) = any_statement body
    any_action (tree.for_loop first test next body) = (any_maybe first, any_maybe next, any_statement body)
    any_action (tree.return_with r) = any_maybe_right r
    any_action tree.break_out = tt
    any_action tree.continue_on = tt
    any_action (tree.par bs) = any_branches bs
    any_action (tree.replicated a b c x y body) = any_branch body
    any_action (tree.select cs) = any_cases cs
    any_action (tree.transaction m ss) = any_statements ss

    any_maybe : (x : tree.Maybe) → EachMaybe Holds x
    any_maybe tree.absent = tt
    any_maybe (tree.present s) = any_statement s

    any_statements : (ss : tree.Statements) → EachOf Holds ss
    any_statements tree.no_more = tt
    any_statements (tree.more s ss) = (any_statement s, any_statements ss)

    any_branch : (b : tree.Branch) → EachOne Holds b
    any_branch (tree.branch p s) = any_statement s

    any_branches : (bs : tree.Branches) → EachBranch Holds bs
    any_branches tree.no_branch = tt
    any_branches (tree.more_branches b bs) = (any_branch b, any_branches bs)

    any_cases : (cs : tree.Cases) → EachCase Holds cs
    any_cases tree.no_case = tt
    any_cases (tree.more_cases (tree.case p g i ss) cs) = (any_statements ss, any_cases cs)
