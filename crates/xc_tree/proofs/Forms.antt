-- What the declared types of a tree stand for, by their variants: `forms` for a tree that is read, `made` for one that is
-- built.
use Rattle.std.proofs.Common.{◌≡◌, ℕ, Bool, List, Option, Some, None, map, option_map, sym, ap, ◌∙◌}
use Rattle.std.specs.declared.boxed.Box.{Box}
use Rattle.std.specs.declared.alloc.Global.{Global}
use Rattle.xw_words.specs.declared.pos.Pos.{Pos}
use Rattle.xc_tree.specs.declared.tree.Id.{Id}
use Rattle.xc_tree.specs.declared.tree.Rhs.{Rhs}
use Rattle.xc_tree.specs.declared.tree.Send.{Send}
use Rattle.xc_tree.specs.declared.tree.Head.{Head}
use Rattle.xc_tree.specs.declared.tree.Declared.{Declared}
use Rattle.xc_tree.specs.declared.tree.Expr.{Expr, roll-Expr, fold_out-Expr, fold-roll-Expr}
use Rattle.xc_tree.specs.declared.tree.Ex.TheOpen as E
use Rattle.xc_tree.specs.declared.tree.Ex.{Ex, Num, Name, Index, Un, Bin, Cond, Cast, fold-roll-Ex}
use Rattle.xc_tree.specs.declared.tree.Ex.TheVariants.{rolls-Num, rolls-Name, rolls-Index, rolls-Un, rolls-Bin, rolls-Cond, rolls-Cast}
use Rattle.xc_tree.specs.declared.tree.Stmt.{Stmt, roll-Stmt, fold_out-Stmt, fold-roll-Stmt}
use Rattle.xc_tree.specs.declared.tree.Branch.{Branch, roll-Branch, fold_out-Branch, fold-roll-Branch}
use Rattle.xc_tree.specs.declared.tree.Case.{Case, out-Case, roll-Case, fold_out-Case, fold-roll-Case}
use Rattle.xc_tree.specs.declared.tree.St.TheOpen as S
use Rattle.xc_tree.specs.declared.tree.St.{St, Empty, Block, Decl, Assign, Step, Do, Output, Input, If, While, DoWhile, For, Return, Break, Continue, Par, Repl, Select, Tran, fold-roll-St}
use Rattle.xc_tree.specs.declared.tree.St.TheVariants.{rolls-Empty, rolls-Block, rolls-Decl, rolls-Assign, rolls-Step, rolls-Do, rolls-Output, rolls-Input, rolls-If, rolls-While, rolls-DoWhile, rolls-For, rolls-Return, rolls-Break, rolls-Continue, rolls-Par, rolls-Repl, rolls-Select, rolls-Tran}
use Rattle.xc_tree.specs.Plain as plain
use Rattle.xc_tree.specs.Trees.{expression_of, form_of, form_step, expression_step, right_of, output_of, input_of, declaration_of, place_of, statement_of, action_of, branch_of, case_of, maybe_of, action_step, branch_step, case_step, statement_step}

pub expression-Expr : (e : Expr) → expression_of e ≡ plain.expression (form_of e.kind) e.pos
unfolding expression_of form_of
expression-Expr = fold_out-Expr plain.Form plain.Expression form_step expression_step

pub form-Num : (v : ℕ) → (u : Bool) → form_of (Num v u) ≡ plain.number v u
unfolding form_of expression_of
form-Num v u = ap form_of (sym (rolls-Num v u)) ∙ fold-roll-Ex plain.Form plain.Expression form_step expression_step (E.Num v u)

pub form-Name : (t : List ℕ) → form_of (Name t) ≡ plain.name t
unfolding form_of expression_of
form-Name t = ap form_of (sym (rolls-Name t)) ∙ fold-roll-Ex plain.Form plain.Expression form_step expression_step (E.Name t)

pub form-Index : (t : List ℕ) → (i : Box Expr Global) → form_of (Index t i) ≡ plain.index t (expression_of i.value)
unfolding form_of expression_of
form-Index t i = ap form_of (sym (rolls-Index t i)) ∙ fold-roll-Ex plain.Form plain.Expression form_step expression_step (E.Index t i)

pub form-Un : (o : ℕ) → (a : Box Expr Global) → form_of (Un o a) ≡ plain.unary o (expression_of a.value)
unfolding form_of expression_of
form-Un o a = ap form_of (sym (rolls-Un o a)) ∙ fold-roll-Ex plain.Form plain.Expression form_step expression_step (E.Un o a)

pub form-Bin : (o : ℕ) → (a : Box Expr Global) → (b : Box Expr Global) → form_of (Bin o a b) ≡ plain.binary o (expression_of a.value) (expression_of b.value)
unfolding form_of expression_of
form-Bin o a b = ap form_of (sym (rolls-Bin o a b)) ∙ fold-roll-Ex plain.Form plain.Expression form_step expression_step (E.Bin o a b)

pub form-Cond : (c : Box Expr Global) → (a : Box Expr Global) → (b : Box Expr Global) → form_of (Cond c a b) ≡ plain.choice (expression_of c.value) (expression_of a.value) (expression_of b.value)
unfolding form_of expression_of
form-Cond c a b = ap form_of (sym (rolls-Cond c a b)) ∙ fold-roll-Ex plain.Form plain.Expression form_step expression_step (E.Cond c a b)

pub form-Cast : (u : Bool) → (a : Box Expr Global) → form_of (Cast u a) ≡ plain.cast u (expression_of a.value)
unfolding form_of expression_of
form-Cast u a = ap form_of (sym (rolls-Cast u a)) ∙ fold-roll-Ex plain.Form plain.Expression form_step expression_step (E.Cast u a)

pub statement-Stmt : (s : Stmt) → statement_of s ≡ plain.statement (action_of s.kind.value) s.pos s.close s.own
unfolding statement_of action_of
statement-Stmt = fold_out-Stmt plain.Action plain.Branch plain.Case plain.Statement action_step branch_step case_step statement_step

pub action-Empty : action_of Empty ≡ plain.empty
unfolding statement_of action_of branch_of case_of
action-Empty = ap action_of (sym rolls-Empty) ∙ fold-roll-St plain.Action plain.Branch plain.Case plain.Statement action_step branch_step case_step statement_step S.Empty

pub action-Block : (ss : List Stmt) → action_of (Block ss) ≡ plain.block (plain.statements (map statement_of ss))
unfolding statement_of action_of branch_of case_of
action-Block ss = ap action_of (sym (rolls-Block ss)) ∙ fold-roll-St plain.Action plain.Branch plain.Case plain.Statement action_step branch_step case_step statement_step (S.Block ss)

pub action-Decl : (ds : List Declared) → action_of (Decl ds) ≡ plain.declare (map declaration_of ds)
unfolding statement_of action_of branch_of case_of
action-Decl ds = ap action_of (sym (rolls-Decl ds)) ∙ fold-roll-St plain.Action plain.Branch plain.Case plain.Statement action_step branch_step case_step statement_step (S.Decl ds)

pub action-Assign : (l : Expr) → (o : ℕ) → (p : Pos) → (r : Rhs) → action_of (Assign l o p r) ≡ plain.assign (expression_of l) o p (right_of r)
unfolding statement_of action_of branch_of case_of
action-Assign l o p r = ap action_of (sym (rolls-Assign l o p r)) ∙ fold-roll-St plain.Action plain.Branch plain.Case plain.Statement action_step branch_step case_step statement_step (S.Assign l o p r)

pub action-Step : (l : Expr) → (o : ℕ) → action_of (Step l o) ≡ plain.step (expression_of l) o
unfolding statement_of action_of branch_of case_of
action-Step l o = ap action_of (sym (rolls-Step l o)) ∙ fold-roll-St plain.Action plain.Branch plain.Case plain.Statement action_step branch_step case_step statement_step (S.Step l o)

pub action-Do : (r : Rhs) → action_of (Do r) ≡ plain.perform (right_of r)
unfolding statement_of action_of branch_of case_of
action-Do r = ap action_of (sym (rolls-Do r)) ∙ fold-roll-St plain.Action plain.Branch plain.Case plain.Statement action_step branch_step case_step statement_step (S.Do r)

pub action-Output : (o : Send) → action_of (Output o) ≡ plain.output (output_of o)
unfolding statement_of action_of branch_of case_of
action-Output o = ap action_of (sym (rolls-Output o)) ∙ fold-roll-St plain.Action plain.Branch plain.Case plain.Statement action_step branch_step case_step statement_step (S.Output o)

pub action-Input : (i : Head) → action_of (Input i) ≡ plain.input (input_of i)
unfolding statement_of action_of branch_of case_of
action-Input i = ap action_of (sym (rolls-Input i)) ∙ fold-roll-St plain.Action plain.Branch plain.Case plain.Statement action_step branch_step case_step statement_step (S.Input i)

pub action-If : (c : Expr) → (s : Stmt) → (o : Option Stmt) → action_of (If c s o) ≡ plain.if_then (expression_of c) (statement_of s) (maybe_of o)
unfolding statement_of action_of branch_of case_of
action-If c s None = ap action_of (sym (rolls-If c s None)) ∙ fold-roll-St plain.Action plain.Branch plain.Case plain.Statement action_step branch_step case_step statement_step (S.If c s None)
action-If c s (Some o) = ap action_of (sym (rolls-If c s (Some o))) ∙ fold-roll-St plain.Action plain.Branch plain.Case plain.Statement action_step branch_step case_step statement_step (S.If c s (Some o))

pub action-While : (c : Expr) → (s : Stmt) → action_of (While c s) ≡ plain.while_loop (expression_of c) (statement_of s)
unfolding statement_of action_of branch_of case_of
action-While c s = ap action_of (sym (rolls-While c s)) ∙ fold-roll-St plain.Action plain.Branch plain.Case plain.Statement action_step branch_step case_step statement_step (S.While c s)

pub action-DoWhile : (s : Stmt) → (c : Expr) → action_of (DoWhile s c) ≡ plain.do_while (statement_of s) (expression_of c)
unfolding statement_of action_of branch_of case_of
action-DoWhile s c = ap action_of (sym (rolls-DoWhile s c)) ∙ fold-roll-St plain.Action plain.Branch plain.Case plain.Statement action_step branch_step case_step statement_step (S.DoWhile s c)

pub action-For : (a : Option Stmt) → (c : Option Expr) → (b : Option Stmt) → (s : Stmt) → action_of (For a c b s) ≡ plain.for_loop (maybe_of a) (option_map expression_of c) (maybe_of b) (statement_of s)
unfolding statement_of action_of branch_of case_of
action-For None c None s = ap action_of (sym (rolls-For None c None s)) ∙ fold-roll-St plain.Action plain.Branch plain.Case plain.Statement action_step branch_step case_step statement_step (S.For None c None s)
action-For None c (Some b) s = ap action_of (sym (rolls-For None c (Some b) s)) ∙ fold-roll-St plain.Action plain.Branch plain.Case plain.Statement action_step branch_step case_step statement_step (S.For None c (Some b) s)
action-For (Some a) c None s = ap action_of (sym (rolls-For (Some a) c None s)) ∙ fold-roll-St plain.Action plain.Branch plain.Case plain.Statement action_step branch_step case_step statement_step (S.For (Some a) c None s)
action-For (Some a) c (Some b) s = ap action_of (sym (rolls-For (Some a) c (Some b) s)) ∙ fold-roll-St plain.Action plain.Branch plain.Case plain.Statement action_step branch_step case_step statement_step (S.For (Some a) c (Some b) s)

pub action-Return : (r : Option Rhs) → action_of (Return r) ≡ plain.return_with (option_map right_of r)
unfolding statement_of action_of branch_of case_of
action-Return r = ap action_of (sym (rolls-Return r)) ∙ fold-roll-St plain.Action plain.Branch plain.Case plain.Statement action_step branch_step case_step statement_step (S.Return r)

pub action-Break : action_of Break ≡ plain.break_out
unfolding statement_of action_of branch_of case_of
action-Break = ap action_of (sym rolls-Break) ∙ fold-roll-St plain.Action plain.Branch plain.Case plain.Statement action_step branch_step case_step statement_step S.Break

pub action-Continue : action_of Continue ≡ plain.continue_on
unfolding statement_of action_of branch_of case_of
action-Continue = ap action_of (sym rolls-Continue) ∙ fold-roll-St plain.Action plain.Branch plain.Case plain.Statement action_step branch_step case_step statement_step S.Continue

pub action-Par : (bs : List Branch) → action_of (Par bs) ≡ plain.par (plain.branches (map branch_of bs))
unfolding statement_of action_of branch_of case_of
action-Par bs = ap action_of (sym (rolls-Par bs)) ∙ fold-roll-St plain.Action plain.Branch plain.Case plain.Statement action_step branch_step case_step statement_step (S.Par bs)

pub action-Repl : (a : Id) → (b : Id) → (c : Id) → (f : ℕ) → (t : ℕ) → (body : Box Branch Global) → action_of (Repl a b c f t body) ≡ plain.replicated a b c f t (branch_of body.value)
unfolding statement_of action_of branch_of case_of
action-Repl a b c f t body = ap action_of (sym (rolls-Repl a b c f t body)) ∙ fold-roll-St plain.Action plain.Branch plain.Case plain.Statement action_step branch_step case_step statement_step (S.Repl a b c f t body)

pub action-Select : (cs : List Case) → action_of (Select cs) ≡ plain.select (plain.cases (map case_of cs))
unfolding statement_of action_of branch_of case_of
action-Select cs = ap action_of (sym (rolls-Select cs)) ∙ fold-roll-St plain.Action plain.Branch plain.Case plain.Statement action_step branch_step case_step statement_step (S.Select cs)

pub action-Tran : (m : Bool) → (ss : List Stmt) → action_of (Tran m ss) ≡ plain.transaction m (plain.statements (map statement_of ss))
unfolding statement_of action_of branch_of case_of
action-Tran m ss = ap action_of (sym (rolls-Tran m ss)) ∙ fold-roll-St plain.Action plain.Branch plain.Case plain.Statement action_step branch_step case_step statement_step (S.Tran m ss)

pub branch-Branch : (b : Branch) → branch_of b ≡ plain.branch (option_map place_of b.place) (statement_of b.body)
unfolding branch_of statement_of
branch-Branch = fold_out-Branch plain.Action plain.Branch plain.Case plain.Statement action_step branch_step case_step statement_step

pub case-Case : (c : Case) → case_of c ≡ plain.case (out-Case c).pos (option_map expression_of (out-Case c).guard) (option_map input_of (out-Case c).head) (plain.statements (map statement_of (out-Case c).body))
unfolding case_of statement_of
case-Case = fold_out-Case plain.Action plain.Branch plain.Case plain.Statement action_step branch_step case_step statement_step

pub expression-made : (e : E.Expr-F Ex Expr) → expression_of (roll-Expr e) ≡ plain.expression (form_of e.kind) e.pos
unfolding expression_of form_of
expression-made = fold-roll-Expr plain.Form plain.Expression form_step expression_step

pub statement-made : (s : S.Stmt-F St Branch Case Stmt) → statement_of (roll-Stmt s) ≡ plain.statement (action_of s.kind.value) s.pos s.close s.own
unfolding statement_of action_of
statement-made = fold-roll-Stmt plain.Action plain.Branch plain.Case plain.Statement action_step branch_step case_step statement_step

pub branch-made : (b : S.Branch-F St Branch Case Stmt) → branch_of (roll-Branch b) ≡ plain.branch (option_map place_of b.place) (statement_of b.body)
unfolding branch_of statement_of
branch-made = fold-roll-Branch plain.Action plain.Branch plain.Case plain.Statement action_step branch_step case_step statement_step

pub case-made : (c : S.Case-F St Branch Case Stmt) → case_of (roll-Case c) ≡ plain.case c.pos (option_map expression_of c.guard) (option_map input_of c.head) (plain.statements (map statement_of c.body))
unfolding case_of statement_of
case-made = fold-roll-Case plain.Action plain.Branch plain.Case plain.Statement action_step branch_step case_step statement_step

pub ruleset forms = (expression-Expr, statement-Stmt, branch-Branch, case-Case, form-Num, form-Name, form-Index, form-Un, form-Bin, form-Cond, form-Cast, action-Empty, action-Block, action-Decl, action-Assign, action-Step, action-Do, action-Output, action-Input, action-If, action-While, action-DoWhile, action-For, action-Return, action-Break, action-Continue, action-Par, action-Repl, action-Select, action-Tran)

pub ruleset made = (expression-made, statement-made, branch-made, case-made, form-Num, form-Name, form-Index, form-Un, form-Bin, form-Cond, form-Cast, action-Empty, action-Block, action-Decl, action-Assign, action-Step, action-Do, action-Output, action-Input, action-If, action-While, action-DoWhile, action-For, action-Return, action-Break, action-Continue, action-Par, action-Repl, action-Select, action-Tran)
