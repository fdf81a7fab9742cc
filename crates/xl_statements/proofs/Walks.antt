-- One statement after another.
use Rattle.std.proofs.Common.{◌≡◌, ℕ, zero, suc, ◌+◌, ◌*◌, ◌<◌, ◌≤◌, add-one, drop-cons, List, [], ◌∷◌, ◌++◌, length, map, drop, get_or, refl, sym, ap, ◌∙◌, subst, arith, append_assoc, append-nil}
use Rattle.xc_kernel.specs.Plain as kernel
use Rattle.xc_kernel.specs.declared.statement.Kst.{Kst}
use Rattle.xc_kernel.specs.Kernels.{statement_of}
use Rattle.xs_instr.specs.Lines.{Line, last_pos}
use Rattle.xl_expr.specs.declared.plan.Plan.{Plan}
use Rattle.xl_ends.specs.Ends.{Sides}
use Rattle.xl_statements.specs.declared.leaving.Leaving.{Leaving}
use Rattle.xl_statements.specs.Built.{AreBuilt, AreNarrow, AreShallow, most, most_of_all, statements_of}
use Rattle.xl_statements.specs.Cells.{Cell, leaves, line_of}
use Rattle.xl_statements.specs.Emits.{AllEmit, Emits, Emitted}
use Rattle.xl_statements.proofs.Parts.{emitted_last, emitted_length, leaves_append, lines_append, lines_length}

-- how much is to be walked
abbrev mutual
  pub weight : kernel.Statement → ℕ
  weight (kernel.if_then test first second) = 1 + weights first + weights second
  weight (kernel.loop test body next) = 1 + weights body + weights next
  weight (kernel.block n ss) = 1 + weights ss
  weight (kernel.select cs otherwise pos) = 1 + case_weights cs + default_weight otherwise
  weight (kernel.par bs) = 1 + branch_weights bs
  weight other = 1

  pub weights : kernel.Statements → ℕ
  weights kernel.no_more = 1
  weights (kernel.more s ss) = 1 + weight s + weights ss

  pub case_weights : kernel.Cases → ℕ
  case_weights kernel.no_case = 1
  case_weights (kernel.more_cases (kernel.case guard i ss) cs) = 1 + weights ss + case_weights cs

  pub default_weight : kernel.Default → ℕ
  default_weight kernel.no_default = 1
  default_weight (kernel.default ss) = 1 + weights ss

  pub branch_weights : kernel.Branches → ℕ
  branch_weights kernel.no_branch = 1
  branch_weights (kernel.more_branches (kernel.branch ss pos) bs) = 1 + weights ss + branch_weights bs

-- the statements from one on
pub statements_at : (ss : List Kst) (i : ℕ) (x : Kst) → x ≡ get_or ss i x → i < length ss → statements_of (drop i ss) ≡ kernel.more (statement_of x) (statements_of (drop (i + 1) ss))
statements_at ss i x is lt =
    let cut : drop i ss ≡ get_or ss i x ∷ drop (i + 1) ss = rw add-one (drop-cons ss i x lt) in
    ap (λ l. statements_of l) cut ∙ ap (λ y. kernel.more (statement_of y) (statements_of (drop (i + 1) ss))) (sym is)

some_weight : (ss : kernel.Statements) → 1 ≤ weights ss
some_weight kernel.no_more = omega arith
some_weight (kernel.more s ss) = omega arith

item_weight : (ss : List Kst) (i : ℕ) (x d : Kst) → get_or ss i d ≡ x → i < length ss → weight (statement_of x) + 1 ≤ weights (statements_of ss)
item_weight [] i x d is lt = absurd (omega arith)
item_weight (s ∷ ss) zero x d is lt = let e = ap (λ y. weight (statement_of y)) is in let l = some_weight (statements_of ss) in omega arith
item_weight (s ∷ ss) (suc i) x d is lt = let l = item_weight ss i x d is (omega arith) in omega arith

pub lighter : (ss : List Kst) (i : ℕ) (x : Kst) → x ≡ get_or ss i x → i < length ss → 2 * weight (statement_of x) + 1 < 2 * weights (statements_of ss)
lighter ss i x is lt = let l = item_weight ss i x x (sym is) lt in omega arith

-- What the loop keeps: the cells so far are those of the statements, once the others' come behind them.
pub record Walked (plan : Plan) (sides : Sides) (all rest : kernel.Statements) (e0 e : List Line) (before left : List Leaving) : Type 0 where
  pub built : AreBuilt rest
  pub shallow : AreShallow rest
  pub narrow : AreNarrow rest
  pub room : length e + most_of_all plan.vars rest ≤ length e0 + most_of_all plan.vars all
  pub cells : List Cell
  pub lines : e ≡ e0 ++ map line_of cells
  pub leaving_ones : left ≡ before ++ leaves cells (length e0)
  pub so : (more : List Cell) → AllEmit plan sides rest (last_pos e) (length e) more → AllEmit plan sides all (last_pos e0) (length e0) (cells ++ more)

pub walk_begins : (plan : Plan) (sides : Sides) (all : kernel.Statements) (e0 : List Line) (before : List Leaving) → AreBuilt all → AreShallow all → AreNarrow all → Walked plan sides all all e0 e0 before before
walk_begins plan sides all e0 before built shallow narrow = record {
  built = built;
  shallow = shallow;
  narrow = narrow;
  room = omega arith;
  cells = [];
  lines = sym (append-nil e0);
  leaving_ones = sym (append-nil before);
  so = λ more h. h;
}

pub walk_goes_on : (plan : Plan) (sides : Sides) (all rest : kernel.Statements) (s : kernel.Statement) (e0 e1 e2 : List Line) (before left1 left2 : List Leaving) → Walked plan sides all (kernel.more s rest) e0 e1 before left1 → Emitted (Emits plan sides s) e1 e2 left1 left2 → length e2 ≤ length e1 + most plan.vars s → Walked plan sides all rest e0 e2 before left2
walk_goes_on plan sides all rest s e0 e1 e2 before left1 left2 h g size = record {
  built = h.built.1;
  shallow = h.shallow.1;
  narrow = h.narrow.1;
  room = let r = h.room in omega arith;
  cells = h.cells ++ g.cells;
  lines = g.lines ∙ ap (λ ls. ls ++ map line_of g.cells) h.lines ∙ append_assoc e0 (map line_of h.cells) (map line_of g.cells) ∙ ap (λ ls. e0 ++ ls) (sym (lines_append h.cells g.cells));
  leaving_ones =
      g.leaving_ones
      ∙ ap (λ l. l ++ leaves g.cells (length e1)) h.leaving_ones
      ∙ append_assoc before (leaves h.cells (length e0)) (leaves g.cells (length e1))
      ∙ ap (λ k. before ++ (leaves h.cells (length e0) ++ leaves g.cells k)) (ap length h.lines ∙ lines_length e0 h.cells)
      ∙ ap (λ l. before ++ l) (sym (leaves_append h.cells g.cells (length e0)));
  so = λ more k.
      subst (AllEmit plan sides all (last_pos e0) (length e0)) (sym (append_assoc h.cells g.cells more))
      (h.so (g.cells ++ more) (record {
        first = g.cells;
        rest = more;
        is = refl;
        first_is = g.so;
        rest_is = subst (λ p. AllEmit plan sides rest p (length e1 + length g.cells) more) (emitted_last (Emits plan sides s) e1 e2 left1 left2 g) (subst (λ n. AllEmit plan sides rest (last_pos e2) n more) (emitted_length (Emits plan sides s) e1 e2 left1 left2 g) k);
      }));
}

pub walk_ends : (plan : Plan) (sides : Sides) (all : kernel.Statements) (e0 e : List Line) (before left : List Leaving) → Walked plan sides all kernel.no_more e0 e before left → Emitted (AllEmit plan sides all) e0 e before left
walk_ends plan sides all e0 e before left h = record {
  cells = h.cells;
  lines = h.lines;
  leaving_ones = h.leaving_ones;
  so = subst (AllEmit plan sides all (last_pos e0) (length e0)) (append-nil h.cells) (h.so [] refl);
}
