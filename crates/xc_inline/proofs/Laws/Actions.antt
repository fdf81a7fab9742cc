-- A statement, a branch and a case, by what they hold.
use Rattle.std.proofs.Common.{◌≡◌, ℕ, zero, suc, ◌+◌, ◌<◌, ◌≤◌, Bool, List, [], ◌∷◌, Result, Ok, Err, IfOk, length, get_or, map, arith, ap, sym, ◌∙◌}
use Rattle.std.specs.declared.boxed.Box.{Box}
use Rattle.std.specs.declared.alloc.Global.{Global}
use Rattle.xw_words.specs.declared.memory.Memory.{Memory}
use Rattle.xc_tree.proofs.Forms.{statement-Stmt, branch-Branch, case-Case, action-Block, action-Decl, action-Par, action-Repl, action-Select, action-Tran}
use Rattle.xc_tree.specs.declared.tree.Branch.{Branch}
use Rattle.xc_tree.specs.declared.tree.Case.{Case, out-Case}
use Rattle.xc_tree.specs.declared.tree.Declared.{Declared}
use Rattle.xc_tree.specs.declared.tree.Id.{Id}
use Rattle.xc_tree.specs.declared.tree.St.{St, Block, Decl, Par, Repl, Select, Tran}
use Rattle.xc_tree.specs.declared.tree.Stmt.{Stmt}
use Rattle.xc_tree.specs.Plain as tree
use Rattle.xc_tree.specs.Trees.{action_of, branch_of, case_of, declaration_of, statement_of}
use Rattle.xc_kernel.specs.Calls.{CopiesCall}
use Rattle.xc_kernel.specs.Context.{Context}
use Rattle.xc_kernel.specs.Copy.{Copy}
use Rattle.xc_kernel.specs.Scopes.{Scope}
use Rattle.xc_kernel.specs.Statements.{pos_of, pos_of_branch, action_copy, branch_copy, statement_copy}
use Rattle.xc_inline.specs.Copied.{copy_of}
use Rattle.xc_tree.specs.Heights.{height, height_of_action, height_of_statements, height_of_branch, height_of_branches, height_of_case, height_of_cases}
use Rattle.xc_inline.specs.declared.copied.Copied.{Copied}

-- what is said of a copy, where it is made
pub copied_as : {actual expected : Copy} (scope : Scope) (r : Result Copied Memory) → actual ≡ expected → IfOk r (λ copied. copy_of copied scope ≡ actual) → IfOk r (λ copied. copy_of copied scope ≡ expected)
copied_as scope (Ok copied) e h = h ∙ e
copied_as scope (Err why) e h = h

pub copied_in : {x y : Context} (scope : Scope) (copy : Context → Scope → Copy) (after : Scope) (r : Result Copied Memory) → x ≡ y → IfOk r (λ copied. copy_of copied after ≡ copy x scope) → IfOk r (λ copied. copy_of copied after ≡ copy y scope)
copied_in scope copy after r e h = copied_as after r (ap (λ x. copy x scope) e) h

module _ (copies : CopiesCall) (s : Stmt) (c : Context) (before : Scope) where
  action_copied : {read k : St} {a : tree.Action} → read ≡ s.kind.value → read ≡ k → action_of k ≡ a → action_copy copies a s.pos s.close c before ≡ statement_copy copies (statement_of s) c before
  action_copied boxed e f =
      sym (ap (λ x. statement_copy copies x c before) (statement-Stmt s) ∙ ap (λ a. action_copy copies a s.pos s.close c before) (ap action_of (sym boxed ∙ e) ∙ f))

  pub by_action : {read k : St} {a : tree.Action} → read ≡ s.kind.value → read ≡ k → action_of k ≡ a → {made : Copy} → made ≡ action_copy copies a s.pos s.close c before → made ≡ statement_copy copies (statement_of s) c before
  by_action boxed e f h = h ∙ action_copied boxed e f

  pub call_by_action : {read k : St} {a : tree.Action} → read ≡ s.kind.value → read ≡ k → action_of k ≡ a → (after : Scope) (r : Result Copied Memory) →
      IfOk r (λ copied. copy_of copied after ≡ action_copy copies a s.pos s.close c before) → IfOk r (λ copied. copy_of copied after ≡ statement_copy copies (statement_of s) c before)
  call_by_action boxed e f after r h = copied_as after r (action_copied boxed e f) h

-- heights

pub height_by_action : (s : Stmt) {read k : St} {a : tree.Action} → read ≡ s.kind.value → read ≡ k → action_of k ≡ a → height (statement_of s) ≡ height_of_action a + 1
height_by_action s boxed e f = ap height (statement-Stmt s) ∙ ap (λ a. height_of_action a + 1) (ap action_of (sym boxed ∙ e) ∙ f)

pub height_in_branch : (b : Branch) → height_of_branch (branch_of b) ≡ height (statement_of b.body)
height_in_branch b = ap height_of_branch (branch-Branch b)

pub height_in_case : (x : Case) → height_of_case (case_of x) ≡ height_of_statements (tree.statements (map statement_of (out-Case x).body))
height_in_case x = ap height_of_case (case-Case x)

pub height_in_statements : (ss : List Stmt) (i : ℕ) (s : Stmt) → s ≡ get_or ss i s → i < length ss → height (statement_of s) ≤ height_of_statements (tree.statements (map statement_of ss))
height_in_statements [] i s e h = absurd (omega (arith, h))
height_in_statements (x ∷ xs) zero s e h = let same = ap (λ y. height (statement_of y)) e in omega (arith, same)
height_in_statements (x ∷ xs) (suc i) s e h = let rest = height_in_statements xs i s e (omega (arith, h)) in omega (arith, rest)

pub height_in_branches : (bs : List Branch) (i : ℕ) (b : Branch) → b ≡ get_or bs i b → i < length bs → height_of_branch (branch_of b) ≤ height_of_branches (tree.branches (map branch_of bs))
height_in_branches [] i b e h = absurd (omega (arith, h))
height_in_branches (x ∷ xs) zero b e h = let same = ap (λ y. height_of_branch (branch_of y)) e in omega (arith, same)
height_in_branches (x ∷ xs) (suc i) b e h = let rest = height_in_branches xs i b e (omega (arith, h)) in omega (arith, rest)

pub height_in_cases : (cs : List Case) (i : ℕ) (a : Case) → a ≡ get_or cs i a → i < length cs → height_of_case (case_of a) ≤ height_of_cases (tree.cases (map case_of cs))
height_in_cases [] i a e h = absurd (omega (arith, h))
height_in_cases (x ∷ xs) zero a e h = let same = ap (λ y. height_of_case (case_of y)) e in omega (arith, same)
height_in_cases (x ∷ xs) (suc i) a e h = let rest = height_in_cases xs i a e (omega (arith, h)) in omega (arith, rest)

-- the statement of a branch

pub in_branch_of : (copies : CopiesCall) (b : Branch) (c : Context) (scope : Scope) → statement_copy copies (statement_of b.body) c scope ≡ branch_copy copies (branch_of b) c scope
in_branch_of copies b c scope = sym (ap (λ x. branch_copy copies x c scope) (branch-Branch b))

pub begins_at : (b : Branch) → b.body.pos ≡ pos_of_branch (branch_of b)
begins_at b = sym (ap pos_of_branch (branch-Branch b) ∙ ap pos_of (statement-Stmt b.body))

-- actions, by their parts

pub action_block : (ss : List Stmt) {xs : List Stmt} → xs ≡ ss → action_of (Block ss) ≡ tree.block (tree.statements (map statement_of xs))
action_block ss e = action-Block ss ∙ ap (λ ys. tree.block (tree.statements (map statement_of ys))) (sym e)

pub action_declare : (ds : List Declared) {xs : List Declared} → xs ≡ ds → action_of (Decl ds) ≡ tree.declare (map declaration_of xs)
action_declare ds e = action-Decl ds ∙ ap (λ ys. tree.declare (map declaration_of ys)) (sym e)

pub action_par : (bs : List Branch) {xs : List Branch} → xs ≡ bs → action_of (Par bs) ≡ tree.par (tree.branches (map branch_of xs))
action_par bs e = action-Par bs ∙ ap (λ ys. tree.par (tree.branches (map branch_of ys))) (sym e)

pub action_replicated : (first second third : Id) (from until : ℕ) (body : Box Branch Global) {b : Branch} → b ≡ body.value → action_of (Repl first second third from until body) ≡ tree.replicated first second third from until (branch_of b)
action_replicated first second third from until body e = action-Repl first second third from until body ∙ ap (λ x. tree.replicated first second third from until (branch_of x)) (sym e)

pub action_select : (cs : List Case) {xs : List Case} → xs ≡ cs → action_of (Select cs) ≡ tree.select (tree.cases (map case_of xs))
action_select cs e = action-Select cs ∙ ap (λ ys. tree.select (tree.cases (map case_of ys))) (sym e)

pub action_transaction : (is_master : Bool) (ss : List Stmt) {xs : List Stmt} → xs ≡ ss → action_of (Tran is_master ss) ≡ tree.transaction is_master (tree.statements (map statement_of xs))
action_transaction is_master ss e = action-Tran is_master ss ∙ ap (λ ys. tree.transaction is_master (tree.statements (map statement_of ys))) (sym e)
