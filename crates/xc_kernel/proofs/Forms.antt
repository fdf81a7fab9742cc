-- What the declared types of a kernel stand for, by their variants: `forms` for a kernel that is read, `made` for one that is
-- built.
use Rattle.std.proofs.Common.{◌≡◌, ℕ, Bool, List, Option, Some, None, map, sym, ap, ◌∙◌}
use Rattle.std.specs.declared.boxed.Box.{Box}
use Rattle.std.specs.declared.alloc.Global.{Global}
use Rattle.std.specs.Prelude.{option_map}
use Rattle.xw_words.specs.declared.pos.Pos.{Pos}
use Rattle.xc_kernel.specs.declared.statement.KOut.{KOut}
use Rattle.xc_kernel.specs.declared.statement.KHead.{KHead}
use Rattle.xc_kernel.specs.declared.statement.Kx.{Kx, fold-roll-Kx}
use Rattle.xc_kernel.specs.declared.statement.Kx as E
use Rattle.xc_kernel.specs.declared.statement.Kx.TheOpen as X
use Rattle.xc_kernel.specs.declared.statement.Kx.TheVariants.{rolls-Num, rolls-Read, rolls-Op}
use Rattle.xc_kernel.specs.declared.statement.Place.{Place, fold-roll-Place}
use Rattle.xc_kernel.specs.declared.statement.Place as P
use Rattle.xc_kernel.specs.declared.statement.Place.TheVariants.{rolls-Word, rolls-Elem}
use Rattle.xc_kernel.specs.declared.statement.Kst.{Kst, fold-roll-Kst}
use Rattle.xc_kernel.specs.declared.statement.Kst as T
use Rattle.xc_kernel.specs.declared.statement.Kst.TheOpen as S
use Rattle.xc_kernel.specs.declared.statement.Kst.TheVariants.{rolls-Zero, rolls-Set, rolls-Out, rolls-In, rolls-If, rolls-Loop, rolls-Block, rolls-Exit, rolls-Select, rolls-Par, rolls-Tran}
use Rattle.xc_kernel.specs.declared.statement.KBranch.{KBranch, roll-KBranch, fold-roll-KBranch, fold_out-KBranch}
use Rattle.xc_kernel.specs.declared.statement.KCase.{KCase, roll-KCase, fold-roll-KCase, fold_out-KCase}
use Rattle.xc_kernel.specs.declared.statement.KSelect.{KSelect, roll-KSelect, fold-roll-KSelect, out-KSelect, roll-out-KSelect}
use Rattle.xc_kernel.specs.Plain as plain
use Rattle.xc_kernel.specs.Kernels.{expression_step, place_step, statement_step, branch_step, case_step, select_step, expression_of, place_of, output_of, input_of, statement_of, branch_of, case_of, select_of, default_of}

pub expression-Num : (v : ℕ) → expression_of (E.Num v) ≡ plain.number v
unfolding expression_of place_of
expression-Num v = ap expression_of (sym (rolls-Num v)) ∙ fold-roll-Kx plain.Expression plain.Place expression_step place_step (X.Num v)

pub expression-Read : (p : Place) → expression_of (E.Read p) ≡ plain.read (place_of p)
unfolding expression_of place_of
expression-Read p = ap expression_of (sym (rolls-Read p)) ∙ fold-roll-Kx plain.Expression plain.Place expression_step place_step (X.Read p)

pub expression-Op : (o : ℕ) (u : Bool) (es : List Kx) (p : Pos) → expression_of (E.Op o u es p) ≡ plain.operation o u (plain.operands (map expression_of es)) p
unfolding expression_of place_of
expression-Op o u es p = ap expression_of (sym (rolls-Op o u es p)) ∙ fold-roll-Kx plain.Expression plain.Place expression_step place_step (X.Op o u es p)

pub place-Word : (v : ℕ) → place_of (P.Word v) ≡ plain.word v
unfolding expression_of place_of
place-Word v = ap place_of (sym (rolls-Word v)) ∙ fold-roll-Place plain.Expression plain.Place expression_step place_step (X.Word v)

pub place-Elem : (v : ℕ) (i : Box Kx Global) (p : Pos) → place_of (P.Elem v i p) ≡ plain.element v (expression_of i.value) p
unfolding expression_of place_of
place-Elem v i p = ap place_of (sym (rolls-Elem v i p)) ∙ fold-roll-Place plain.Expression plain.Place expression_step place_step (X.Elem v i p)

pub statement-Zero : (v : ℕ) → statement_of (T.Zero v) ≡ plain.set_zero v
unfolding statement_of branch_of case_of select_of
statement-Zero v = ap statement_of (sym (rolls-Zero v)) ∙ fold-roll-Kst plain.Statement plain.Branch plain.Case plain.Statement statement_step branch_step case_step select_step (S.Zero v)

pub statement-Set : (p : Place) (e : Kx) → statement_of (T.Set p e) ≡ plain.set (place_of p) (expression_of e)
unfolding statement_of branch_of case_of select_of
statement-Set p e = ap statement_of (sym (rolls-Set p e)) ∙ fold-roll-Kst plain.Statement plain.Branch plain.Case plain.Statement statement_step branch_step case_step select_step (S.Set p e)

pub statement-Out : (o : KOut) → statement_of (T.Out o) ≡ plain.output (output_of o)
unfolding statement_of branch_of case_of select_of
statement-Out o = ap statement_of (sym (rolls-Out o)) ∙ fold-roll-Kst plain.Statement plain.Branch plain.Case plain.Statement statement_step branch_step case_step select_step (S.Out o)

pub statement-In : (h : KHead) → statement_of (T.In h) ≡ plain.input (input_of h)
unfolding statement_of branch_of case_of select_of
statement-In h = ap statement_of (sym (rolls-In h)) ∙ fold-roll-Kst plain.Statement plain.Branch plain.Case plain.Statement statement_step branch_step case_step select_step (S.In h)

pub statement-If : (e : Kx) (a : List Kst) (b : List Kst) → statement_of (T.If e a b) ≡ plain.if_then (expression_of e) (plain.statements (map statement_of a)) (plain.statements (map statement_of b))
unfolding statement_of branch_of case_of select_of
statement-If e a b = ap statement_of (sym (rolls-If e a b)) ∙ fold-roll-Kst plain.Statement plain.Branch plain.Case plain.Statement statement_step branch_step case_step select_step (S.If e a b)

pub statement-Loop : (e : Kx) (a : List Kst) (b : List Kst) → statement_of (T.Loop e a b) ≡ plain.loop (expression_of e) (plain.statements (map statement_of a)) (plain.statements (map statement_of b))
unfolding statement_of branch_of case_of select_of
statement-Loop e a b = ap statement_of (sym (rolls-Loop e a b)) ∙ fold-roll-Kst plain.Statement plain.Branch plain.Case plain.Statement statement_step branch_step case_step select_step (S.Loop e a b)

pub statement-Block : (n : ℕ) (a : List Kst) → statement_of (T.Block n a) ≡ plain.block n (plain.statements (map statement_of a))
unfolding statement_of branch_of case_of select_of
statement-Block n a = ap statement_of (sym (rolls-Block n a)) ∙ fold-roll-Kst plain.Statement plain.Branch plain.Case plain.Statement statement_step branch_step case_step select_step (S.Block n a)

pub statement-Exit : (n : ℕ) → statement_of (T.Exit n) ≡ plain.exit n
unfolding statement_of branch_of case_of select_of
statement-Exit n = ap statement_of (sym (rolls-Exit n)) ∙ fold-roll-Kst plain.Statement plain.Branch plain.Case plain.Statement statement_step branch_step case_step select_step (S.Exit n)

pub statement-Select : (s : KSelect) → statement_of (T.Select s) ≡ select_of s
unfolding statement_of branch_of case_of select_of
statement-Select s = ap statement_of (sym (rolls-Select s)) ∙ fold-roll-Kst plain.Statement plain.Branch plain.Case plain.Statement statement_step branch_step case_step select_step (S.Select s)

pub statement-Par : (bs : List KBranch) → statement_of (T.Par bs) ≡ plain.par (plain.branches (map branch_of bs))
unfolding statement_of branch_of case_of select_of
statement-Par bs = ap statement_of (sym (rolls-Par bs)) ∙ fold-roll-Kst plain.Statement plain.Branch plain.Case plain.Statement statement_step branch_step case_step select_step (S.Par bs)

pub statement-Tran : (c : ℕ) (m : Bool) (a : List Kst) (o : Pos) (e : Pos) → statement_of (T.Tran c m a o e) ≡ plain.transaction c m (plain.statements (map statement_of a)) o e
unfolding statement_of branch_of case_of select_of
statement-Tran c m a o e = ap statement_of (sym (rolls-Tran c m a o e)) ∙ fold-roll-Kst plain.Statement plain.Branch plain.Case plain.Statement statement_step branch_step case_step select_step (S.Tran c m a o e)

pub branch-KBranch : (b : KBranch) → branch_of b ≡ plain.branch (plain.statements (map statement_of b.body)) b.pos
unfolding statement_of branch_of case_of select_of
branch-KBranch = fold_out-KBranch plain.Statement plain.Branch plain.Case plain.Statement statement_step branch_step case_step select_step

pub case-KCase : (c : KCase) → case_of c ≡ plain.case (option_map expression_of c.guard) (input_of c.head) (plain.statements (map statement_of c.body))
unfolding statement_of branch_of case_of select_of
case-KCase = fold_out-KCase plain.Statement plain.Branch plain.Case plain.Statement statement_step branch_step case_step select_step

-- of a branch, a case and a `select` that were built of their parts

pub branch-made : (ss : List Kst) (p : Pos) → branch_of (roll-KBranch (record { body = ss; pos = p })) ≡ plain.branch (plain.statements (map statement_of ss)) p
unfolding statement_of branch_of case_of select_of
branch-made ss p = fold-roll-KBranch plain.Statement plain.Branch plain.Case plain.Statement statement_step branch_step case_step select_step (record { body = ss; pos = p })

pub case-made : (g : Option Kx) (h : KHead) (ss : List Kst) → case_of (roll-KCase (record { guard = g; head = h; body = ss })) ≡ plain.case (option_map expression_of g) (input_of h) (plain.statements (map statement_of ss))
unfolding statement_of branch_of case_of select_of
case-made g h ss = fold-roll-KCase plain.Statement plain.Branch plain.Case plain.Statement statement_step branch_step case_step select_step (record { guard = g; head = h; body = ss })

pub select-made : (cs : List KCase) (o : Option (List Kst)) (p : Pos) → select_of (roll-KSelect (record { cases = cs; otherwise = o; pos = p })) ≡ plain.select (plain.cases (map case_of cs)) (default_of o) p
unfolding statement_of branch_of case_of select_of
select-made cs None p = fold-roll-KSelect plain.Statement plain.Branch plain.Case plain.Statement statement_step branch_step case_step select_step (record { cases = cs; otherwise = None; pos = p })
select-made cs (Some ss) p = fold-roll-KSelect plain.Statement plain.Branch plain.Case plain.Statement statement_step branch_step case_step select_step (record { cases = cs; otherwise = Some ss; pos = p })

-- of a `select` as it stands

pub select-KSelect : (s : KSelect) → select_of s ≡ plain.select (plain.cases (map case_of (out-KSelect s).cases)) (default_of (out-KSelect s).otherwise) (out-KSelect s).pos
select-KSelect s = ap select_of (sym (roll-out-KSelect s)) ∙ select-made (out-KSelect s).cases (out-KSelect s).otherwise (out-KSelect s).pos

pub ruleset forms = (expression-Num, expression-Read, expression-Op, place-Word, place-Elem, statement-Zero, statement-Set, statement-Out, statement-In, statement-If, statement-Loop, statement-Block, statement-Exit, statement-Select, statement-Par, statement-Tran, branch-KBranch, case-KCase, select-KSelect)

pub ruleset made = (branch-made, case-made, select-made, expression-Num, expression-Read, expression-Op, place-Word, place-Elem, statement-Zero, statement-Set, statement-Out, statement-In, statement-If, statement-Loop, statement-Block, statement-Exit, statement-Select, statement-Par, statement-Tran)
