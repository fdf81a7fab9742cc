use Rattle.std.proofs.Common.{◌≡◌, ◌++◌, ◌∷◌, [], ◌∙◌, List, Result, Ok, Err, IfOk, OnOk, ap, append_assoc, arith, length, length-append, subst}
use Rattle.xs_instr.specs.Lines.{Line, at_pos, last_pos, open_line}
use Rattle.xs_instr.specs.declared.instr.Instr.TheVariants.{Brfu}
use Rattle.xl_expr.specs.Targets.{AreAimed}
use Rattle.xl_par.specs.Closing.{Closes, closing_instrs}
use Rattle.xl_expr.proofs.Emitted.{on_err}
use Rattle.xl_statements.proofs.Arms.{on_err_on, on_ok}
use Rattle.xl_statements.proofs.Seams.{extends_by}
use Rattle.xl_statements.proofs.Several.{added}
use Rattle.xl_statements.proofs.par.emit_close.Goals as goal

if_ok : {A E : Type 0} {P Q : A → Type 0} (r : Result A E) → ((x : A) → P x → Q x) → IfOk r P → IfOk r Q
if_ok (Ok x) f h = f x h
if_ok (Err e) f h = tt

ok_behind : {A B : Type 0} (r : Result A B) (old held new a b both : List Line) → held ≡ old ++ a → a ++ b ≡ both → OnOk r (new ≡ held ++ b) → OnOk r (new ≡ old ++ both)
ok_behind (Ok x) old held new a b both is same h = h ∙ ap (λ ls. ls ++ b) is ∙ append_assoc old a b ∙ ap (λ ls. old ++ ls) same
ok_behind (Err e) old held new a b both is same h = tt

pub returns-clause-closes : goal.returns-clause-closes
returns-clause-closes c =
    let e0 = c.args.e.now in
    on_ok c.emit_jump.result (Closes (last_pos e0) (length e0) (at_pos (last_pos e0) closing_instrs))
    (subst (λ p. Closes p (length e0) (at_pos p closing_instrs)) c.pos-last.ensures
    (added e0 c.close_par.new.e (at_pos c.pos-last.result closing_instrs) (Closes c.pos-last.result (length e0)) c.in_ok-close_par.ensures.code c.in_ok-close_par.ensures.closes))

pub close_par-requires : goal.close_par-requires
close_par-requires c = omega (arith, c.requires)

pub emit_jump-requires : goal.emit_jump-requires
emit_jump-requires c =
    let pos = c.pos-last.result in
    let size = ap length c.in_ok-close_par.ensures.code ∙ length-append c.args.e.now (at_pos pos closing_instrs) in
    omega (arith, size, c.requires)

pub returns-clause-code : goal.returns-clause-code
returns-clause-code c =
    let pos = c.pos-last.result in
    ok_behind c.emit_jump.result _ _ _ (at_pos pos closing_instrs) (open_line (Brfu 0) pos ∷ []) _ c.in_ok-close_par.ensures.code (ap (λ p. at_pos p closing_instrs ++ open_line (Brfu 0) p ∷ []) c.pos-last.ensures) c.emit_jump.ensures.code

pub returns-clause-past : goal.returns-clause-past
returns-clause-past c =
    let pos = c.pos-last.result in
    let size = ap length c.in_ok-close_par.ensures.code ∙ length-append c.args.e.now (at_pos pos closing_instrs) in
    if_ok c.emit_jump.result (λ past is. is ∙ size) c.emit_jump.ensures.index

pub returns-clause-aimed : goal.returns-clause-aimed
returns-clause-aimed c =
    let e0 = c.args.e.now in
    on_ok c.emit_jump.result (AreAimed (length e0) (at_pos (last_pos e0) closing_instrs))
    (subst (λ p. AreAimed (length e0) (at_pos p closing_instrs)) c.pos-last.ensures
    (added e0 c.close_par.new.e (at_pos c.pos-last.result closing_instrs) (AreAimed (length e0)) c.in_ok-close_par.ensures.code c.in_ok-close_par.ensures.aimed))

pub returns-clause-refused : goal.returns-clause-refused
returns-clause-refused c = on_err_on _ _ _ _ (extends_by _ _ _ c.in_ok-close_par.ensures.code) c.emit_jump.ensures.refused

pub returns-in_err-close_par-clause-refused : goal.returns-in_err-close_par-clause-refused
returns-in_err-close_par-clause-refused c = on_err _ _ c.in_err-close_par.ensures.refused
