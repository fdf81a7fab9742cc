-- The copies of statements of no later form: their code has none either.
use Rattle.std.proofs.Common.{ℕ, zero, suc, ◌+◌, ◌-◌, Bool, true, false, List, [], ◌∷◌, ◌++◌, Option, None, Some, nat_eq, bytes_eq}
use Rattle.xw_words.specs.declared.pos.Pos.{Pos}
use Rattle.xc_tree.specs.declared.tree.Param.{Param}
use Rattle.xc_tree.specs.declared.tree.ParamKind.{ParamKind}
use Rattle.xc_tree.specs.declared.tree.ParamKind.TheVariants as param
use Rattle.xc_tree.specs.Plain as tree
use Rattle.xc_tree.specs.Symbols.{equals}
use Rattle.xc_kernel.specs.Plain as kernel
use Rattle.xc_kernel.specs.Paths.{Path, path_at}
use Rattle.xc_kernel.specs.Scopes.{Scope, Entity, an_array, a_constant, entity_of, with_name}
use Rattle.xc_kernel.specs.Programs.{Function, function_by, function_named}
use Rattle.xc_kernel.specs.Copy.{Copy, joined}
use Rattle.xc_kernel.specs.Context.{Context, in_branch, in_loop, in_case, in_function}
use Rattle.xc_kernel.specs.Parameters.{by_element, form_by_reference, by_reference, by_name, passed, all_passed}
use Rattle.xc_kernel.specs.Calls.{CopiesCall, called, call_by, right_copy, result_copy, function_copy, path_of_call}
use Rattle.xc_kernel.specs.Declarations.{initial_copy, kind_copy, declarations_copy}
use Rattle.xc_kernel.specs.Flow.{Branched, and_branch, par_copy, numbered_copy, replicated, Cased, and_case, case_scope}
use Rattle.xc_kernel.specs.Statements.{pos_of_branch, assign_by, return_copy, statement_copy, action_copy, maybe_copy, statements_copy, branch_copy, branches_copy, cases_copy, calls_copy}
use Rattle.xc_wellformed.proofs.Grammar.{AllOf, MaybeOf}
use Rattle.xl_image.proofs.TodayEarly.{IsEarly, IsEarlyAction, IsMaybeEarly, AreEarly, AreEarlyCases, IsEarlyBranch, AreEarlyBranches}

-- no transaction
abbrev mutual
  pub IsEarlyCode : kernel.Statement → Type 0
  IsEarlyCode (kernel.if_then test a b) = AreEarlyCode a × AreEarlyCode b
  IsEarlyCode (kernel.loop test a b) = AreEarlyCode a × AreEarlyCode b
  IsEarlyCode (kernel.block n a) = AreEarlyCode a
  IsEarlyCode (kernel.select cs d pos) = CasesHaveEarlyCode cs × DefaultHasEarlyCode d
  IsEarlyCode (kernel.par bs) = HaveEarlyCode bs
  IsEarlyCode (kernel.transaction c is_master a start close) = ⊥
  IsEarlyCode other = Unit {0}

  pub AreEarlyCode : kernel.Statements → Type 0
  AreEarlyCode kernel.no_more = Unit {0}
  AreEarlyCode (kernel.more s ss) = IsEarlyCode s × AreEarlyCode ss

  pub HaveEarlyCode : kernel.Branches → Type 0
  HaveEarlyCode kernel.no_branch = Unit {0}
  HaveEarlyCode (kernel.more_branches (kernel.branch ss pos) bs) = AreEarlyCode ss × HaveEarlyCode bs

  pub CasesHaveEarlyCode : kernel.Cases → Type 0
  CasesHaveEarlyCode kernel.no_case = Unit {0}
  CasesHaveEarlyCode (kernel.more_cases (kernel.case guard i ss) cs) = AreEarlyCode ss × CasesHaveEarlyCode cs

  pub DefaultHasEarlyCode : kernel.Default → Type 0
  DefaultHasEarlyCode kernel.no_default = Unit {0}
  DefaultHasEarlyCode (kernel.default ss) = AreEarlyCode ss

-- so is the code of a copy
abbrev pub IsEarlyCopy : Copy → Type 0
IsEarlyCopy copy = AllOf IsEarlyCode copy.code

-- so are branches
abbrev IsEarlyBranched : Branched → Type 0
IsEarlyBranched b = HaveEarlyCode b.branches

-- so are cases and the `default`
abbrev AreEarlyCased : Cased → Type 0
AreEarlyCased s = CasesHaveEarlyCode s.cases × DefaultHasEarlyCode s.otherwise

-- a function with such a body
abbrev pub IsEarlyFunction : Function → Type 0
IsEarlyFunction f = IsEarly f.body

pub as_statements : (ss : List kernel.Statement) → AllOf IsEarlyCode ss → AreEarlyCode (kernel.statements ss)
as_statements [] h = tt
as_statements (s ∷ ss) h = (h.0, as_statements ss h.1)

both_code : (ss ts : List kernel.Statement) → AllOf IsEarlyCode ss → AllOf IsEarlyCode ts → AllOf IsEarlyCode (ss ++ ts)
both_code [] ts h g = g
both_code (s ∷ ss) ts h g = (h.0, both_code ss ts h.1 g)

both : (a b : Copy) → IsEarlyCopy a → IsEarlyCopy b → IsEarlyCopy (joined a b)
both a b h g = both_code a.code b.code h g

-- Branches.

and_branch_early : (pos : Pos) (copy : Copy) (others : Branched) → IsEarlyCopy copy → IsEarlyBranched others → IsEarlyBranched (and_branch pos copy others)
and_branch_early pos copy others h g = (as_statements copy.code h, g)

replicated_early : (copy : ℕ → ℕ → Copy) → ((index number : ℕ) → IsEarlyCopy (copy index number)) → (pos : Pos) (scope : Scope) (count index number : ℕ) → IsEarlyBranched (replicated copy pos scope count index number)
replicated_early copy h pos scope zero index number = tt
replicated_early copy h pos scope (suc count) index number =
    and_branch_early pos (copy index number) (replicated copy pos scope count (index + 1) (number + 1)) (h index number)
    (replicated_early copy h pos scope count (index + 1) (number + 1))

-- a `par` of them
par_early : (b : Branched) → IsEarlyBranched b → IsEarlyCopy (par_copy b)
par_early b h = (h, tt)

-- Cases.

and_case_early : (c : Context) (scope : Scope) (pos : Pos) (guard : Option tree.Expression) (i : Option tree.Input) (body : Copy) (others : Cased) → IsEarlyCopy body → AreEarlyCased others → AreEarlyCased (and_case c scope pos guard i body others)
and_case_early c scope pos guard None body others h g = (g.0, (as_statements body.code h, tt))
and_case_early c scope pos guard (Some i) body others h g = (((as_statements body.code h, tt), g.0), g.1)

-- Arguments.

by_element_early : (c : Context) (scope : Scope) (own : Path) (pos : Pos) (i : tree.Expression) (at : Pos) (x : Entity) → AllOf IsEarlyCode (by_element c scope own pos i at x).code
by_element_early c scope own pos i at (an_array path length u) = (tt, tt)
by_element_early c scope own pos i at other = tt

by_form_early : (c : Context) (scope : Scope) (own : Path) (pos at : Pos) (f : tree.Form) → AllOf IsEarlyCode (form_by_reference c scope own pos at f).code
by_form_early c scope own pos at (tree.index text i) = by_element_early c scope own pos i at (entity_of scope text)
by_form_early c scope own pos at (tree.name text) = tt
by_form_early c scope own pos at other = tt

by_reference_early : (c : Context) (scope : Scope) (own : Path) (pos : Pos) (e : tree.Expression) → AllOf IsEarlyCode (by_reference c scope own pos e).code
by_reference_early c scope own pos (tree.expression f at) = by_form_early c scope own pos at f

by_name_early : (scope : Scope) (e : tree.Expression) → AllOf IsEarlyCode (by_name scope e).code
by_name_early scope (tree.expression (tree.name text) at) = tt
by_name_early scope (tree.expression (tree.number v u) at) = tt
by_name_early scope (tree.expression (tree.index t i) at) = tt
by_name_early scope (tree.expression (tree.unary o a) at) = tt
by_name_early scope (tree.expression (tree.binary o a b) at) = tt
by_name_early scope (tree.expression (tree.choice c a b) at) = tt
by_name_early scope (tree.expression (tree.cast u a) at) = tt

passed_early : (c : Context) (scope : Scope) (own : Path) (pos : Pos) (k : ParamKind) (e : tree.Expression) → AllOf IsEarlyCode (passed c scope own pos k e).code
passed_early c scope own pos (param.Value u) e = (tt, tt)
passed_early c scope own pos (param.Ref u) e = by_reference_early c scope own pos e
passed_early c scope own pos (param.Array u l) e = by_name_early scope e
passed_early c scope own pos (param.End s) e = by_name_early scope e
passed_early c scope own pos (param.Port d) e = by_name_early scope e

arguments_early : (c : Context) (scope : Scope) (own : Path) (ps : List Param) (args : List tree.Argument) → IsEarlyCopy (all_passed c scope own ps args)
arguments_early c scope own [] args = tt
arguments_early c scope own (p ∷ ps) [] = tt
arguments_early c scope own (p ∷ ps) (a ∷ args) =
    both_code _ _ (passed_early c scope own p.name.pos p.kind a.value) (arguments_early c scope own ps args)

-- Calls.

-- the function of a name
named_by : (b : Bool) (f : Function) (others : Option Function) → IsEarlyFunction f → MaybeOf IsEarlyFunction others → MaybeOf IsEarlyFunction (function_by b f others)
named_by true f others h g = h
named_by false f others h g = g

pub named_early : (fs : List Function) (name : List ℕ) → AllOf IsEarlyFunction fs → MaybeOf IsEarlyFunction (function_named fs name)
named_early [] name h = tt
named_early (f ∷ fs) name h = named_by (bytes_eq f.head.name.text name) f (function_named fs name) h.0 (named_early fs name h.1)

-- the copies of calls are so where all functions are
abbrev pub CallsEarly : CopiesCall → Type 0
CallsEarly copies = (c : Context) (scope : Scope) (f : Function) (pos : Pos) (args : List tree.Argument) → AllOf IsEarlyFunction c.functions → IsEarlyFunction f → IsEarlyCopy (copies c scope f pos args)

result_early : (c : Context) (path : Path) (pos : Pos) (scope : Scope) (r : Option Bool) → IsEarlyCopy (result_copy c path pos scope r)
result_early c path pos scope None = tt
result_early c path pos scope (Some u) = (tt, tt)

module _ (copies : CopiesCall) (calls : CallsEarly copies) where
  call_early : (c : Context) (scope : Scope) (pos : Pos) (args : List tree.Argument) (o : Option Function) → AllOf IsEarlyFunction c.functions → MaybeOf IsEarlyFunction o → IsEarlyCopy (call_by copies c scope pos args o)
  call_early c scope pos args None fs h = tt
  call_early c scope pos args (Some f) fs h = calls c scope f pos args fs h

  right_early : (c : Context) (scope : Scope) (r : tree.RightSide) → AllOf IsEarlyFunction c.functions → IsEarlyCopy (right_copy copies c scope r)
  right_early c scope (tree.value e) fs = tt
  right_early c scope (tree.result call) fs = call_early c scope call.called.pos call.arguments (called c call) fs (named_early c.functions call.called.text fs)

  -- some statements behind a right side
  set_early : (c : Context) (scope : Scope) (r : tree.RightSide) (ss : List kernel.Statement) → AllOf IsEarlyFunction c.functions →
      AllOf IsEarlyCode ss → AllOf IsEarlyCode ((right_copy copies c scope r).code ++ ss)
  set_early c scope r ss fs h = both_code (right_copy copies c scope r).code ss (right_early c scope r fs) h

  assign_early : (c : Context) (scope : Scope) (to : tree.Expression) (symbol : ℕ) (pos : Pos) (r : tree.RightSide) (b : Bool) → AllOf IsEarlyFunction c.functions → IsEarlyCopy (assign_by copies c scope to symbol pos r b)
  assign_early c scope to symbol pos r true fs = set_early c scope r _ fs (tt, tt)
  assign_early c scope to symbol pos r false fs = (tt, tt)

  return_early : (c : Context) (scope : Scope) (r : Option tree.RightSide) → AllOf IsEarlyFunction c.functions → IsEarlyCopy (return_copy copies c scope r)
  return_early c scope None fs = (tt, tt)
  return_early c scope (Some r) fs = set_early c scope r _ fs (tt, (tt, tt))

  initial_early : (c : Context) (path : Path) (r : Option tree.RightSide) (scope : Scope) → AllOf IsEarlyFunction c.functions → IsEarlyCopy (initial_copy copies c path r scope)
  initial_early c path None scope fs = (tt, tt)
  initial_early c path (Some r) scope fs = set_early c scope r _ fs (tt, tt)

  kind_early : (c : Context) (scope : Scope) (name : List ℕ) (pos : Pos) (k : tree.Kind) →
      AllOf IsEarlyFunction c.functions → IsEarlyCopy (kind_copy copies c scope name pos k)
  kind_early c scope name pos (tree.word u r) fs = initial_early c (path_at c.path pos) r _ fs
  kind_early c scope name pos (tree.array u length at) fs = (tt, tt)
  kind_early c scope name pos (tree.channel s) fs = tt
  kind_early c scope name pos tree.timer fs = tt

  declarations_early : (c : Context) (ds : List tree.Declaration) (scope : Scope) →
      AllOf IsEarlyFunction c.functions → IsEarlyCopy (declarations_copy copies c ds scope)
  declarations_early c [] scope fs = tt
  declarations_early c (d ∷ ds) scope fs =
      let first = kind_copy copies c scope d.name.text d.name.pos d.kind in
      both first (declarations_copy copies c ds first.scope) (kind_early c scope d.name.text d.name.pos d.kind fs)
      (declarations_early c ds first.scope fs)

  -- Statements.

  mutual
    pub statement_early : (s : tree.Statement) (c : Context) (scope : Scope) →
        AllOf IsEarlyFunction c.functions → IsEarly s → IsEarlyCopy (statement_copy copies s c scope)
    statement_early (tree.statement a pos close own) c scope fs h = action_early a pos close c scope fs h

    action_early : (a : tree.Action) (pos close : Pos) (c : Context) (scope : Scope) →
        AllOf IsEarlyFunction c.functions → IsEarlyAction a → IsEarlyCopy (action_copy copies a pos close c scope)
    action_early tree.empty pos close c scope fs h = tt
    action_early (tree.block ss) pos close c scope fs h = statements_early ss c scope fs h
    action_early (tree.declare ds) pos close c scope fs h = declarations_early c ds scope fs
    action_early (tree.assign to symbol at r) pos close c scope fs h = assign_early c scope to symbol at r (nat_eq symbol equals) fs
    action_early (tree.step to symbol) pos close c scope fs h = (tt, tt)
    action_early (tree.perform r) pos close c scope fs h = right_early c scope r fs
    action_early (tree.output o) pos close c scope fs h = (tt, tt)
    action_early (tree.input i) pos close c scope fs h = (tt, tt)
    action_early (tree.if_then test a b) pos close c scope fs h =
        let ca = statement_copy copies a c scope in
        let cb = maybe_copy copies b c ca.scope in
        let first = statement_early a c scope fs h.0 in
        let second = maybe_early b c ca.scope fs h.1 in
        ((as_statements ca.code first, as_statements cb.code second), tt)
    action_early (tree.while_loop test s) pos close c scope fs h =
        let body = statement_early s (in_loop c pos) scope fs h in
        ((((as_statements (statement_copy copies s (in_loop c pos) scope).code body, tt), tt), tt), tt)
    action_early (tree.do_while s test) pos close c scope fs h =
        let cs = statement_copy copies s (in_loop c pos) scope in
        let body = statement_early s (in_loop c pos) scope fs h in
        ((((as_statements cs.code body, ((tt, (tt, tt)), tt)), tt), tt), tt)
    action_early (tree.for_loop first test step s) pos close c scope fs h =
        let cf = maybe_copy copies first c scope in
        let ct = maybe_copy copies step c cf.scope in
        let cs = statement_copy copies s (in_loop c pos) cf.scope in
        let before = maybe_early first c scope fs h.0 in
        let then = maybe_early step c cf.scope fs h.1.0 in
        let body = statement_early s (in_loop c pos) cf.scope fs h.1.1 in
        both_code cf.code _ before ((((as_statements cs.code body, tt), as_statements ct.code then), tt), tt)
    action_early (tree.return_with r) pos close c scope fs h = return_early c scope r fs
    action_early tree.break_out pos close c scope fs h = (tt, tt)
    action_early tree.continue_on pos close c scope fs h = (tt, tt)
    action_early (tree.par bs) pos close c scope fs h = par_early (branches_copy copies bs 0 c scope) (branches_early bs 0 c scope fs h)
    action_early (tree.replicated x y z from until b) pos close c scope fs h =
        let copy = numbered_copy (branch_copy copies b) c scope x.text in
        par_early (replicated copy (pos_of_branch b) scope (until - from) 0 from)
        (replicated_early copy (λ index number. branch_early b (in_branch c index) (with_name scope x.text (a_constant number)) fs h)
        (pos_of_branch b) scope (until - from) 0 from)
    action_early (tree.select cs) pos close c scope fs h = (cases_early cs c scope fs h, tt)
    action_early (tree.transaction is_master ss) pos close c scope fs h = absurd h

    maybe_early : (s : tree.Maybe) (c : Context) (scope : Scope) →
        AllOf IsEarlyFunction c.functions → IsMaybeEarly s → IsEarlyCopy (maybe_copy copies s c scope)
    maybe_early tree.absent c scope fs h = tt
    maybe_early (tree.present s) c scope fs h = statement_early s c scope fs h

    statements_early : (ss : tree.Statements) (c : Context) (scope : Scope) →
        AllOf IsEarlyFunction c.functions → AreEarly ss → IsEarlyCopy (statements_copy copies ss c scope)
    statements_early tree.no_more c scope fs h = tt
    statements_early (tree.more s ss) c scope fs h =
        let first = statement_copy copies s c scope in
        both first (statements_copy copies ss c first.scope) (statement_early s c scope fs h.0) (statements_early ss c first.scope fs h.1)

    pub branch_early : (b : tree.Branch) (c : Context) (scope : Scope) →
        AllOf IsEarlyFunction c.functions → IsEarlyBranch b → IsEarlyCopy (branch_copy copies b c scope)
    branch_early (tree.branch place s) c scope fs h = statement_early s c scope fs h

    branches_early : (bs : tree.Branches) (index : ℕ) (c : Context) (scope : Scope) →
        AllOf IsEarlyFunction c.functions → AreEarlyBranches bs → IsEarlyBranched (branches_copy copies bs index c scope)
    branches_early tree.no_branch index c scope fs h = tt
    branches_early (tree.more_branches b bs) index c scope fs h =
        let first = branch_copy copies b (in_branch c index) scope in
        and_branch_early (pos_of_branch b) first (branches_copy copies bs (index + 1) c first.scope)
        (branch_early b (in_branch c index) scope fs h.0) (branches_early bs (index + 1) c first.scope fs h.1)

    cases_early : (cs : tree.Cases) (c : Context) (scope : Scope) →
        AllOf IsEarlyFunction c.functions → AreEarlyCases cs → AreEarlyCased (cases_copy copies cs c scope)
    cases_early tree.no_case c scope fs h = (tt, tt)
    cases_early (tree.more_cases (tree.case pos guard i ss) cs) c scope fs h =
        let inner = case_scope c scope i in
        and_case_early c scope pos guard i (statements_copy copies ss (in_case c pos) inner) (cases_copy copies cs c scope)
        (statements_early ss (in_case c pos) inner fs h.0) (cases_early cs c scope fs h.1)

  -- the instance of a function
  pub function_early : (c : Context) (scope : Scope) (own : Path) (f : Function) (args : List tree.Argument) → AllOf IsEarlyFunction c.functions → IsEarlyFunction f → IsEarlyCopy (function_copy (statement_copy copies) c scope own f args)
  function_early c scope own f args fs h =
      let given = all_passed c scope own f.head.params args in
      let result = result_early c (path_at own f.head.name.pos) f.head.name.pos scope f.head.result in
      let arguments = arguments_early c scope own f.head.params args in
      let d = in_function c own f in
      let body = statement_early f.body d given.scope fs h in
      both_code _ _ result (both_code given.code _ arguments (as_statements (statement_copy copies f.body d given.scope).code body, tt))

-- calls that go at most so deep
pub calls_early : (depth : ℕ) → CallsEarly (calls_copy depth)
calls_early zero c scope f pos args fs h = tt
calls_early (suc depth) c scope f pos args fs h = function_early (calls_copy depth) (calls_early depth) c scope (path_of_call c pos) f args fs h
