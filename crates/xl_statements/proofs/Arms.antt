-- A statement whose code is one piece.
use Rattle.std.proofs.Common.{◌≡◌, ℕ, ◌+◌, ◌<◌, ◌≤◌, refl, List, [], ◌∷◌, ◌++◌, length, Option, Result, Ok, Err, OnOk, OnErr, sym, ap, ◌∙◌, subst, arith, append-nil, length-append}
use Rattle.xw_words.specs.declared.pos.Pos.{Pos}
use Rattle.xc_kernel.specs.Plain as kernel
use Rattle.xc_kernel.specs.declared.statement.KBranch.{KBranch}
use Rattle.xs_instr.specs.Adds.{Adds}
use Rattle.xs_instr.specs.Extends.{Extends}
use Rattle.xs_instr.specs.declared.instr.Instr.TheVariants.{Ssync}
use Rattle.xs_instr.specs.Lines.{Line, last_pos, line}
use Rattle.xl_expr.specs.declared.plan.Plan.{Plan}
use Rattle.xl_expr.specs.declared.plan.VarPlan.{VarPlan}
use Rattle.xl_expr.specs.Targets.{AreAimed}
use Rattle.xl_par.specs.Closing.{EndsSlave}
use Rattle.xl_ends.specs.Ends.{Sides}
use Rattle.xl_statements.specs.declared.leaving.Leaving.{Leaving}
use Rattle.xl_statements.specs.Built.{branches_of, most}
use Rattle.xl_statements.specs.Cells.{Cell}
use Rattle.xl_statements.specs.Emits.{AreLines, Coded, Emits, Emitted, ParEmits, Slave}
use Rattle.xl_statements.proofs.Parts.{emitted_as, piece_emitted}
use Rattle.xl_statements.proofs.Seams.{extends_on}
use Rattle.xl_statements.proofs.Slaves.{slave_emitted}

pub on_ok : {A B : Type 0} (r : Result A B) (P : Type 0) → P → OnOk r P
on_ok (Ok x) P h = h
on_ok (Err x) P h = tt

-- further lines behind further lines, where it is an error
pub on_err_on : {A B : Type 0} (r : Result A B) (old held new : List Line) → Extends old held → OnErr r (Extends held new) → OnErr r (Extends old new)
on_err_on (Ok x) old held new h g = tt
on_err_on (Err x) old held new h g = extends_on old held new h g

pub piece_emits : {A B : Type 0} (r : Result A B) (plan : Plan) (sides : Sides) (s s' : kernel.Statement) (P : ℕ → List Line → Type 0) (old new : List Line) (left : List Leaving) → s ≡ s' → ((last : Pos) (pc : ℕ) (cells : List Cell) → AreLines P last pc cells → Emits plan sides s' last pc cells) → OnOk r (Adds old new (P (length old))) → OnOk r (Adds old new (AreAimed (length old))) → OnOk r (Emitted (Emits plan sides s) old new left left)
piece_emits (Ok x) plan sides s s' P old new left is f h g = subst (λ t. Emitted (Emits plan sides t) old new left left) (sym is) (emitted_as (AreLines P) (Emits plan sides s') old new left left f (piece_emitted P old new left h g))
piece_emits (Err x) plan sides s s' P old new left is f h g = tt

-- a transfer's code, in which there is no jump out of a block
beside : (Code : Coded) (old new : List Line) (left : List Leaving) → Emitted Code old new [] [] → Emitted Code old new left left
beside Code old new left h = record {
  cells = h.cells;
  lines = h.lines;
  leaving_ones = sym (append-nil left) ∙ ap (λ l. left ++ l) h.leaving_ones;
  so = h.so;
}

pub transfer_emits : {A B : Type 0} (r : Result A B) (plan : Plan) (sides : Sides) (s s' : kernel.Statement) (old new : List Line) (left : List Leaving) → s ≡ s' → OnOk r (Emitted (Emits plan sides s') old new [] []) → OnOk r (Emitted (Emits plan sides s) old new left left)
transfer_emits (Ok x) plan sides s s' old new left is h = subst (λ t. Emitted (Emits plan sides t) old new left left) (sym is) (beside (Emits plan sides s') old new left h)
transfer_emits (Err x) plan sides s s' old new left is h = tt

pub ok_as : {A B : Type 0} (r : Result A B) (P Q : Coded) (old new : List Line) (before after : List Leaving) → ((last : Pos) (pc : ℕ) (cells : List Cell) → P last pc cells → Q last pc cells) → OnOk r (Emitted P old new before after) → OnOk r (Emitted Q old new before after)
ok_as (Ok x) P Q old new before after f h = emitted_as P Q old new before after f h
ok_as (Err x) P Q old new before after f h = tt

-- a bound by another word
pub ok_within : {A B : Type 0} (r : Result A B) (n m k : ℕ) → m ≤ k → OnOk r (n ≤ m) → OnOk r (n ≤ k)
ok_within (Ok x) n m k le h = omega (arith, le, h)
ok_within (Err x) n m k le h = tt

-- a statement's code, and its bound, by what the statement is
pub statement_emits : {A B : Type 0} (r : Result A B) (plan : Plan) (sides : Sides) (s s' : kernel.Statement) (Code : Coded) (old new : List Line) (before after : List Leaving) → s ≡ s' → ((last : Pos) (pc : ℕ) (cells : List Cell) → Code last pc cells → Emits plan sides s' last pc cells) → OnOk r (Emitted Code old new before after) → OnOk r (Emitted (Emits plan sides s) old new before after)
statement_emits r plan sides s s' Code old new before after is f h = subst (λ t. OnOk r (Emitted (Emits plan sides t) old new before after)) (sym is) (ok_as r Code (Emits plan sides s') old new before after f h)

pub statement_within : {A B : Type 0} (r : Result A B) (vars : List (Option VarPlan)) (s s' : kernel.Statement) (n m : ℕ) → s ≡ s' → OnOk r (n ≤ m + most vars s') → OnOk r (n ≤ m + most vars s)
statement_within r vars s s' n m is h = subst (λ t. OnOk r (n ≤ m + most vars t)) (sym is) h

-- a `par` without branches
pub no_branch_emits : (plan : Plan) (sides : Sides) (bs : List KBranch) (held : List Line) (left : List Leaving) → length bs < 1 → Emitted (ParEmits plan sides (branches_of bs)) held held left left
no_branch_emits plan sides [] held left none = record { cells = []; lines = sym (append-nil held); leaving_ones = sym (append-nil left); so = refl }
no_branch_emits plan sides (b ∷ bs) held left none = absurd (omega (arith, none))

pub no_more : (n m : ℕ) → n ≤ n + m
no_more n m = omega arith

-- a bound that is a sum
pub ok_summed : {A B : Type 0} (r : Result A B) (n m x a b : ℕ) → OnOk r (n ≤ m + x + a + b + 2) → OnOk r (n ≤ m + (x + a + b + 2))
ok_summed r n m x a b h = ok_within r n (m + x + a + b + 2) (m + (x + a + b + 2)) (omega arith) h

-- one line more
pub ok_one_more : {A B : Type 0} (r : Result A B) (old new : List Line) (l : Line) (n : ℕ) → length old ≤ n → OnOk r (new ≡ old ++ l ∷ []) → OnOk r (length new ≤ n + 1)
ok_one_more (Ok x) old new l n le h = omega (arith, le, ap length h, length-append old (l ∷ []))
ok_one_more (Err x) old new l n le h = tt

-- a branch behind the first, once its end is there
pub slave_ends : {A B : Type 0} (r : Result A B) (Body : Coded) (e1 e2 e3 : List Line) (left0 left1 : List Leaving) → Emitted Body e1 e2 left0 left1 → (pos : Pos) → pos ≡ last_pos e2 → OnOk r (e3 ≡ e2 ++ line Ssync pos ∷ []) → OnOk r (Adds e2 e3 (EndsSlave (length e2))) → OnOk r (Emitted (Slave Body) e1 e3 left0 left1)
slave_ends (Ok x) Body e1 e2 e3 left0 left1 h pos is code ends = slave_emitted Body e1 e2 e3 left0 left1 h (code ∙ ap (λ p. e2 ++ line Ssync p ∷ []) is) ends
slave_ends (Err x) Body e1 e2 e3 left0 left1 h pos is code ends = tt
