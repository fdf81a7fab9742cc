-- The instances that a copy makes don't depend on the numbers that stand in its statements.
use Rattle.std.proofs.Common.{◌≡◌, ℕ, zero, suc, ◌+◌, ◌-◌, Bool, true, false, List, [], ◌∷◌, ◌++◌, length, Option, Some, None, nat_eq, refl, subst}
use Rattle.xw_words.specs.declared.pos.Pos.{Pos}
use Rattle.xc_tree.specs.declared.tree.Param.{Param}
use Rattle.xc_tree.specs.declared.tree.ParamKind.{ParamKind}
use Rattle.xc_tree.specs.declared.tree.ParamKind.TheVariants.{Value, Ref, Array, End, Port}
use Rattle.xc_tree.specs.Plain as tree
use Rattle.xc_kernel.specs.Plain as kernel
use Rattle.xc_tree.specs.Symbols.{equals}
use Rattle.xc_kernel.specs.Paths.{Path, path_at, path_of_turn}
use Rattle.xc_kernel.specs.Numbering.{Numbering}
use Rattle.xc_kernel.specs.Scopes.{Scope, Entity, a_word, an_array, an_element, a_channel, a_timer, a_port, a_constant, nothing_known, a_constant, entity_of, with_name}
use Rattle.xc_kernel.specs.Programs.{Function}
use Rattle.xc_kernel.specs.Copy.{Copy, no_copy, one_statement, joined, followed_by, in_scope_of, with_code, with_block}
use Rattle.xc_kernel.specs.Context.{Context, in_branch, in_loop, in_case, in_function, declares_word}
use Rattle.xc_kernel.specs.Parameters.{Passed, by_element, form_by_reference, by_reference, passed, and_passed, all_passed}
use Rattle.xc_kernel.specs.Calls.{CopiesCall, instance_of, result_copy, body_copy, naming_none, function_copy, path_of_call, called, call_by, right_copy}
use Rattle.xc_kernel.specs.Declarations.{array_copy, channel_copy, timer_copy, initial_copy, kind_copy, declarations_copy}
use Rattle.xc_kernel.specs.Transfers.{output_copy, input_names}
use Rattle.xc_kernel.specs.Flow.{for_parts, numbered_copy, replicated, Cased, case_scope, and_case}
use Rattle.xc_kernel.specs.Statements.{pos_of_branch, assign_by, return_copy, statement_copy, action_copy, maybe_copy, statements_copy, branch_copy, branches_copy, cases_copy, case_copy, calls_copy}

-- two copies make the same instances, and the same names are known behind them
pub record SameInstances (a b : Copy) : Type 0 where
  pub scope : a.scope ≡ b.scope
  pub variables : a.variables ≡ b.variables
  pub channels : a.channels ≡ b.channels
  pub timers : a.timers ≡ b.timers
  pub blocks : a.blocks ≡ b.blocks
  pub instances : a.instances ≡ b.instances
  pub named : a.named ≡ b.named

-- with other statements

pub as_it_is : (a : Copy) (xs ys : List kernel.Statement) → SameInstances (with_code a xs) (with_code a ys)
as_it_is a xs ys = record { scope = refl; variables = refl; channels = refl; timers = refl; blocks = refl; instances = refl; named = refl }

pub same_statement : (scope : Scope) (s t : kernel.Statement) → SameInstances (one_statement scope s) (one_statement scope t)
same_statement scope s t = record { scope = refl; variables = refl; channels = refl; timers = refl; blocks = refl; instances = refl; named = refl }

pub same_coded : {a b : Copy} (xs ys : List kernel.Statement) → SameInstances a b → SameInstances (with_code a xs) (with_code b ys)
same_coded xs ys s = record { scope = s.scope; variables = s.variables; channels = s.channels; timers = s.timers; blocks = s.blocks; instances = s.instances; named = s.named }

pub same_joined : {a b c d : Copy} → SameInstances a b → SameInstances c d → SameInstances (joined a c) (joined b d)
same_joined s t = record {
  scope = t.scope;
  variables = λ i. s.variables i ++ t.variables i;
  channels = λ i. s.channels i ++ t.channels i;
  timers = λ i. s.timers i ++ t.timers i;
  blocks = λ i. s.blocks i ++ t.blocks i;
  instances = λ i. s.instances i ++ t.instances i;
  named = λ i. s.named i ++ t.named i;
}

pub same_followed : {a b : Copy} (next other : Scope → Copy) → SameInstances a b → ((scope : Scope) → SameInstances (next scope) (other scope)) → SameInstances (followed_by a next) (followed_by b other)
same_followed {a} {b} next other s t = same_joined s (subst (λ scope. SameInstances (next a.scope) (other scope)) s.scope (t a.scope))

pub same_scoped : {a b : Copy} (scope : Scope) → SameInstances a b → SameInstances (in_scope_of scope a) (in_scope_of scope b)
same_scoped scope s = record { scope = refl; variables = s.variables; channels = s.channels; timers = s.timers; blocks = s.blocks; instances = s.instances; named = s.named }

pub same_block : {a b : Copy} (path : Path) → SameInstances a b → SameInstances (with_block a path) (with_block b path)
same_block path s = record { scope = s.scope; variables = s.variables; channels = s.channels; timers = s.timers; blocks = λ i. path ∷ s.blocks i; instances = s.instances; named = s.named }

pub same_unnamed : {a b : Copy} → SameInstances a b → SameInstances (naming_none a) (naming_none b)
same_unnamed s = record { scope = s.scope; variables = s.variables; channels = s.channels; timers = s.timers; blocks = s.blocks; instances = s.instances; named = refl }

-- of replicated branches, by those of each
pub same_replicated : (copy other : ℕ → ℕ → Copy) (pos : Pos) (scope : Scope) → ((index number : ℕ) → SameInstances (copy index number) (other index number)) → (count index number : ℕ) → SameInstances (replicated copy pos scope count index number).made (replicated other pos scope count index number).made
same_replicated copy other pos scope each zero index number = as_it_is (no_copy scope) [] []
same_replicated copy other pos scope each (suc count) index number =
    same_joined (same_coded [] [] (each index number)) (same_replicated copy other pos scope each count (index + 1) (number + 1))

-- a context with another numbering
abbrev pub renumbered : Context → Numbering → Context
renumbered c n = record c { numbering = n }

-- how a call is copied has instances that don't depend on the numbering
pub record IsBlind (copies : CopiesCall) : Type 0 where
  pub same : (c : Context) (n m : Numbering) (scope : Scope) (f : Function) (pos : Pos) (args : List tree.Argument) → SameInstances (copies (renumbered c n) scope f pos args) (copies (renumbered c m) scope f pos args)

module _ (copies : CopiesCall) (blind : IsBlind copies) (n m : Numbering) where
  same_call_by : (c : Context) (scope : Scope) (pos : Pos) (args : List tree.Argument) (f : Option Function) → SameInstances (call_by copies (renumbered c n) scope pos args f) (call_by copies (renumbered c m) scope pos args f)
  same_call_by c scope pos args None = as_it_is (no_copy scope) [] []
  same_call_by c scope pos args (Some f) = blind.same c n m scope f pos args

  pub same_right : (c : Context) (scope : Scope) (r : tree.RightSide) → SameInstances (right_copy copies (renumbered c n) scope r) (right_copy copies (renumbered c m) scope r)
  same_right c scope (tree.value e) = as_it_is (no_copy scope) [] []
  same_right c scope (tree.result call) = same_call_by c scope call.called.pos call.arguments (called c call)

  -- declarations

  same_initial : (c : Context) (path : Path) (r : Option tree.RightSide) (scope : Scope) → SameInstances (initial_copy copies (renumbered c n) path r scope) (initial_copy copies (renumbered c m) path r scope)
  same_initial c path None scope = same_statement scope _ _
  same_initial c path (Some r) scope = same_joined (same_right c scope r) (same_statement scope _ _)

  same_kind : (c : Context) (scope : Scope) (name : List ℕ) (pos : Pos) (k : tree.Kind) → SameInstances (kind_copy copies (renumbered c n) scope name pos k) (kind_copy copies (renumbered c m) scope name pos k)
  same_kind c scope name pos (tree.word u r) =
      same_followed (initial_copy copies (renumbered c n) (path_at c.path pos) r) (initial_copy copies (renumbered c m) (path_at c.path pos) r)
      (as_it_is (declares_word c name pos u scope) [] []) (same_initial c (path_at c.path pos) r)
  same_kind c scope name pos (tree.array u length at) = as_it_is (array_copy c scope name pos (path_at c.path pos) u length) _ _
  same_kind c scope name pos (tree.channel streaming) = as_it_is (channel_copy scope name pos (path_at c.path pos) streaming) [] []
  same_kind c scope name pos tree.timer = as_it_is (timer_copy c scope name pos (path_at c.path pos)) [] []

  pub same_declarations : (c : Context) (ds : List tree.Declaration) (scope : Scope) → SameInstances (declarations_copy copies (renumbered c n) ds scope) (declarations_copy copies (renumbered c m) ds scope)
  same_declarations c [] scope = as_it_is (no_copy scope) [] []
  same_declarations c (d ∷ ds) scope =
      same_followed (declarations_copy copies (renumbered c n) ds) (declarations_copy copies (renumbered c m) ds)
      (same_kind c scope d.name.text d.name.pos d.kind) (same_declarations c ds)

  -- transfers

  same_names : (c : Context) (scope : Scope) (i : tree.Input) → SameInstances (input_names (renumbered c n) scope i) (input_names (renumbered c m) scope i)
  same_names c scope i = as_it_is (input_names c scope i) _ _

  -- what assigns, and `return`

  same_assign : (c : Context) (scope : Scope) (to : tree.Expression) (symbol : ℕ) (pos : Pos) (r : tree.RightSide) (b : Bool) → SameInstances (assign_by copies (renumbered c n) scope to symbol pos r b) (assign_by copies (renumbered c m) scope to symbol pos r b)
  same_assign c scope to symbol pos r true = same_joined (same_right c scope r) (same_statement scope _ _)
  same_assign c scope to symbol pos r false = same_statement scope _ _

  same_return : (c : Context) (scope : Scope) (r : Option tree.RightSide) → SameInstances (return_copy copies (renumbered c n) scope r) (return_copy copies (renumbered c m) scope r)
  same_return c scope None = same_statement scope _ _
  same_return c scope (Some r) = same_joined (same_right c scope r) (same_joined (same_statement scope _ _) (same_statement scope _ _))

  -- statements

  same_case : (c : Context) (scope : Scope) (pos : Pos) (guard : Option tree.Expression) (i : Option tree.Input) {body body' : Copy} (others others' : Cased) → SameInstances body body' → SameInstances others.made others'.made → SameInstances (and_case (renumbered c n) scope pos guard i body others).made (and_case (renumbered c m) scope pos guard i body' others').made
  same_case c scope pos guard None others others' s t = same_joined (same_block (path_at c.path pos) (same_coded [] [] s)) t
  same_case c scope pos guard (Some i) others others' s t =
      same_joined (same_joined (same_names c scope i) (same_block (path_at c.path pos) (same_coded [] [] s))) t

  -- a loop's two blocks come before all that it holds
  same_loop : (path : Path) {held held' : Copy} (xs ys : List kernel.Statement) → SameInstances held held' → SameInstances (with_block (with_block (with_code held xs) (path_of_turn path)) path) (with_block (with_block (with_code held' ys) (path_of_turn path)) path)
  same_loop path xs ys s = same_block path (same_block (path_of_turn path) (same_coded xs ys s))

  mutual
    pub same_of_statement : (s : tree.Statement) (c : Context) (scope : Scope) → SameInstances (statement_copy copies s (renumbered c n) scope) (statement_copy copies s (renumbered c m) scope)
    same_of_statement (tree.statement action pos close own) c scope = same_of_action action pos close c scope

    same_of_action : (a : tree.Action) (pos close : Pos) (c : Context) (scope : Scope) → SameInstances (action_copy copies a pos close (renumbered c n) scope) (action_copy copies a pos close (renumbered c m) scope)
    same_of_action tree.empty pos close c scope = as_it_is (no_copy scope) [] []
    same_of_action (tree.block ss) pos close c scope = same_scoped scope (same_of_statements ss c scope)
    same_of_action (tree.declare ds) pos close c scope = same_declarations c ds scope
    same_of_action (tree.assign to symbol at r) pos close c scope = same_assign c scope to symbol at r (nat_eq symbol equals)
    same_of_action (tree.step to symbol) pos close c scope = same_statement scope _ _
    same_of_action (tree.perform r) pos close c scope = same_right c scope r
    same_of_action (tree.output o) pos close c scope = as_it_is (output_copy c scope o) _ _
    same_of_action (tree.input i) pos close c scope = same_coded _ _ (same_names c scope i)
    same_of_action (tree.if_then test a b) pos close c scope =
        same_coded _ _ (same_followed (maybe_copy copies b (renumbered c n)) (maybe_copy copies b (renumbered c m)) (same_of_statement a c scope) (same_of_maybe b c))
    same_of_action (tree.while_loop test body) pos close c scope = same_loop (path_at c.path pos) _ _ (same_of_statement body (in_loop c pos) scope)
    same_of_action (tree.do_while body test) pos close c scope = same_loop (path_at c.path pos) _ _ (same_of_statement body (in_loop c pos) scope)
    same_of_action (tree.for_loop first test next body) pos close c scope =
        same_scoped scope (same_followed (for_parts (renumbered c n) pos test (maybe_copy copies next (renumbered c n)) (statement_copy copies body (in_loop (renumbered c n) pos)))
        (for_parts (renumbered c m) pos test (maybe_copy copies next (renumbered c m)) (statement_copy copies body (in_loop (renumbered c m) pos)))
        (same_of_maybe first c scope)
        (λ inner. same_loop (path_at c.path pos) _ _ (same_joined (same_of_maybe next c inner) (same_of_statement body (in_loop c pos) inner))))
    same_of_action (tree.return_with r) pos close c scope = same_return c scope r
    same_of_action tree.break_out pos close c scope = same_statement scope _ _
    same_of_action tree.continue_on pos close c scope = same_statement scope _ _
    same_of_action (tree.par bs) pos close c scope = same_coded _ _ (same_of_branches bs 0 c scope)
    same_of_action (tree.replicated first second third from until b) pos close c scope =
        same_coded _ _ (same_replicated (numbered_copy (branch_copy copies b) (renumbered c n) scope first.text) (numbered_copy (branch_copy copies b) (renumbered c m) scope first.text) (pos_of_branch b) scope
        (λ index number. same_scoped scope (same_of_branch b (in_branch c index) (with_name scope first.text (a_constant number)))) (until - from) 0 from)
    same_of_action (tree.select cs) pos close c scope = same_scoped scope (same_coded _ _ (same_of_cases cs c scope))
    same_of_action (tree.transaction is_master ss) pos close c scope = same_scoped scope (same_coded _ _ (same_of_statements ss c scope))

    same_of_maybe : (s : tree.Maybe) (c : Context) (scope : Scope) → SameInstances (maybe_copy copies s (renumbered c n) scope) (maybe_copy copies s (renumbered c m) scope)
    same_of_maybe tree.absent c scope = as_it_is (no_copy scope) [] []
    same_of_maybe (tree.present s) c scope = same_of_statement s c scope

    same_of_statements : (ss : tree.Statements) (c : Context) (scope : Scope) → SameInstances (statements_copy copies ss (renumbered c n) scope) (statements_copy copies ss (renumbered c m) scope)
    same_of_statements tree.no_more c scope = as_it_is (no_copy scope) [] []
    same_of_statements (tree.more s ss) c scope =
        same_followed (statements_copy copies ss (renumbered c n)) (statements_copy copies ss (renumbered c m)) (same_of_statement s c scope) (same_of_statements ss c)

    pub same_of_branch : (b : tree.Branch) (c : Context) (scope : Scope) → SameInstances (branch_copy copies b (renumbered c n) scope) (branch_copy copies b (renumbered c m) scope)
    same_of_branch (tree.branch place s) c scope = same_of_statement s c scope

    same_of_branches : (bs : tree.Branches) (index : ℕ) (c : Context) (scope : Scope) → SameInstances (branches_copy copies bs index (renumbered c n) scope).made (branches_copy copies bs index (renumbered c m) scope).made
    same_of_branches tree.no_branch index c scope = as_it_is (no_copy scope) [] []
    same_of_branches (tree.more_branches b bs) index c scope =
        let first = same_of_branch b (in_branch c index) scope in
        same_joined (same_coded [] [] first)
        (subst (λ inner. SameInstances (branches_copy copies bs (index + 1) (renumbered c n) (branch_copy copies b (in_branch (renumbered c n) index) scope).scope).made (branches_copy copies bs (index + 1) (renumbered c m) inner).made) first.scope
        (same_of_branches bs (index + 1) c (branch_copy copies b (in_branch (renumbered c n) index) scope).scope))

    same_of_cases : (cs : tree.Cases) (c : Context) (scope : Scope) → SameInstances (cases_copy copies cs (renumbered c n) scope).made (cases_copy copies cs (renumbered c m) scope).made
    same_of_cases tree.no_case c scope = as_it_is (no_copy scope) [] []
    same_of_cases (tree.more_cases a cs) c scope = same_of_case a c scope (cases_copy copies cs (renumbered c n) scope) (cases_copy copies cs (renumbered c m) scope) (same_of_cases cs c scope)

    same_of_case : (a : tree.Case) (c : Context) (scope : Scope) (others others' : Cased) → SameInstances others.made others'.made → SameInstances (case_copy copies a (renumbered c n) scope others).made (case_copy copies a (renumbered c m) scope others').made
    same_of_case (tree.case pos guard None ss) c scope others others' t = same_case c scope pos guard None others others' (same_of_statements ss (in_case c pos) scope) t
    same_of_case (tree.case pos guard (Some i) ss) c scope others others' t =
        same_case c scope pos guard (Some i) others others' (same_of_statements ss (in_case c pos) (case_scope c scope (Some i))) t

-- Calls.

-- two parameters stand for the same, and have the same variables
record SamePassed (p q : Passed) : Type 0 where
  pub entity : p.entity ≡ q.entity
  pub variables : p.variables ≡ q.variables

module _ (n m : Numbering) (c : Context) (scope : Scope) (own : Path) where
  same_element : (pos : Pos) (i : tree.Expression) (at : Pos) (e : Entity) → SamePassed (by_element (renumbered c n) scope own pos i at e) (by_element (renumbered c m) scope own pos i at e)
  same_element pos i at (an_array path length u) = record { entity = refl; variables = refl }
  same_element pos i at (a_word path u) = record { entity = refl; variables = refl }
  same_element pos i at (an_element array index u) = record { entity = refl; variables = refl }
  same_element pos i at (a_channel path) = record { entity = refl; variables = refl }
  same_element pos i at (a_timer path) = record { entity = refl; variables = refl }
  same_element pos i at (a_port number) = record { entity = refl; variables = refl }
  same_element pos i at (a_constant v) = record { entity = refl; variables = refl }
  same_element pos i at nothing_known = record { entity = refl; variables = refl }

  same_form : (pos at : Pos) (f : tree.Form) → SamePassed (form_by_reference (renumbered c n) scope own pos at f) (form_by_reference (renumbered c m) scope own pos at f)
  same_form pos at (tree.name text) = record { entity = refl; variables = refl }
  same_form pos at (tree.index text i) = same_element pos i at (entity_of scope text)
  same_form pos at (tree.number v u) = record { entity = refl; variables = refl }
  same_form pos at (tree.unary symbol a) = record { entity = refl; variables = refl }
  same_form pos at (tree.binary symbol a b) = record { entity = refl; variables = refl }
  same_form pos at (tree.choice test a b) = record { entity = refl; variables = refl }
  same_form pos at (tree.cast u a) = record { entity = refl; variables = refl }

  same_reference : (pos : Pos) (e : tree.Expression) → SamePassed (by_reference (renumbered c n) scope own pos e) (by_reference (renumbered c m) scope own pos e)
  same_reference pos (tree.expression form at) = same_form pos at form

  same_passed : (pos : Pos) (k : ParamKind) (e : tree.Expression) → SamePassed (passed (renumbered c n) scope own pos k e) (passed (renumbered c m) scope own pos k e)
  same_passed pos (Value u) e = record { entity = refl; variables = refl }
  same_passed pos (Ref u) e = same_reference pos e
  same_passed pos (Array u length) e = record { entity = refl; variables = refl }
  same_passed pos (End streaming) e = record { entity = refl; variables = refl }
  same_passed pos (Port dir) e = record { entity = refl; variables = refl }

  same_and_passed : (name : List ℕ) {p q : Passed} {a b : Copy} → SamePassed p q → SameInstances a b → SameInstances (and_passed name p a) (and_passed name q b)
  same_and_passed name s t = record {
    scope = λ i. with_name (t.scope i) name (s.entity i);
    variables = λ i. s.variables i ++ t.variables i;
    channels = t.channels;
    timers = t.timers;
    blocks = t.blocks;
    instances = t.instances;
    named = t.named;
  }

  same_all_passed : (ps : List Param) (args : List tree.Argument) → SameInstances (all_passed (renumbered c n) scope own ps args) (all_passed (renumbered c m) scope own ps args)
  same_all_passed [] args = as_it_is (no_copy c.ports) [] []
  same_all_passed (p ∷ ps) [] = as_it_is (no_copy c.ports) [] []
  same_all_passed (p ∷ ps) (a ∷ args) = same_and_passed p.name.text (same_passed p.name.pos p.kind a.value) (same_all_passed ps args)

  same_result : (result : Path) (pos : Pos) (r : Option Bool) → SameInstances (result_copy (renumbered c n) result pos scope r) (result_copy (renumbered c m) result pos scope r)
  same_result result pos None = as_it_is (no_copy scope) [] []
  same_result result pos (Some u) = as_it_is (result_copy c result pos scope (Some u)) _ _

-- an instance of a function, by how calls in it are copied
pub same_function : (copies : CopiesCall) → IsBlind copies → (n m : Numbering) (c : Context) (scope : Scope) (own : Path) (f : Function) (args : List tree.Argument) → SameInstances (function_copy (statement_copy copies) (renumbered c n) scope own f args) (function_copy (statement_copy copies) (renumbered c m) scope own f args)
same_function copies blind n m c scope own f args =
    same_scoped scope (same_unnamed (same_joined (as_it_is (instance_of c f scope) [] [])
    (same_joined (same_result n m c scope own (path_at own f.head.name.pos) f.head.name.pos f.head.result)
    (same_followed (body_copy (statement_copy copies) (renumbered c n) own f) (body_copy (statement_copy copies) (renumbered c m) own f)
    (same_all_passed n m c scope own f.head.params args)
    (λ inner. same_block own (same_coded _ _ (same_of_statement copies blind n m f.body (in_function c own f) inner)))))))

pub calls_are_blind : (depth : ℕ) → IsBlind (calls_copy depth)
calls_are_blind zero = record { same = λ c n m scope f pos args. as_it_is (no_copy scope) [] [] }
calls_are_blind (suc depth) = record {
  same = λ c n m scope f pos args. same_function (calls_copy depth) (calls_are_blind depth) n m c scope (path_of_call c pos) f args;
}
