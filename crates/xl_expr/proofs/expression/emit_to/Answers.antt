use Rattle.std.proofs.Common.{[], ◌∷◌, ◌++◌, ◌∙◌, ap, arith, length, sym, Option}
use Rattle.xc_kernel.specs.Kernels.{expression_of}
use Rattle.xs_instr.specs.Lines.{last_pos, line}
use Rattle.xs_instr.specs.declared.instr.Instr.{Instr}
use Rattle.xl_expr.specs.declared.direct_operand.Direct.{Direct}
use Rattle.xl_expr.specs.Code.{brought, code_by, expression_code}
use Rattle.xl_expr.proofs.Emitted.{behind_extends, move_emitted, on_code, on_err}
use Rattle.xl_expr.proofs.Evaluates.{some_nodes}
use Rattle.xl_expr.proofs.Sizes.{longer}
use Rattle.xl_expr.proofs.expression.emit_to.Goals as goal

pub put_move-requires : goal.put_move-requires
put_move-requires c =
    let x = expression_of c.args.x.now in
    let n = longer c.args.plan.now.vars x 0 (length c.args.e.now) c.pos-last.result c.args.e.now c.emit_at.new.e c.in_ok-emit_at-in-None.ensures.ok in
    omega (arith, n, some_nodes x, c.requires.room)

pub returns-in_ok-put_move-in-None-clause-code :
    goal.returns-in_ok-put_move-in-None-clause-code
returns-in_ok-put_move-in-None-clause-code c =
    let vars = c.args.plan.now.vars in
    let x = expression_of c.args.x.now in
    let old = c.args.e.now in
    let here = length old in
    let emitted = c.in_ok-emit_at-in-None.ensures.ok ∙ ap (λ p. old ++ expression_code vars x 0 here p) c.pos-last.ensures in
    move_emitted c.args.to c.pos-behind.result old c.emit_at.new.e c.put_move.new.e (expression_code vars x 0 here (last_pos old)) emitted c.pos-behind.ensures c.in_ok-put_move-in-None.ensures.ok
    ∙ ap (λ (d : Option Direct). old ++ code_by d vars x c.args.to here (last_pos old)) (sym c.in-None.is ∙ c.direct_of.ensures)

pub returns-in_err-emit_at-in-None-clause-refused : goal.returns-in_err-emit_at-in-None-clause-refused
returns-in_err-emit_at-in-None-clause-refused c = on_err _ _ c.in_err-emit_at-in-None.ensures.refused

pub returns-in_err-put_move-in-None-clause-refused : goal.returns-in_err-put_move-in-None-clause-refused
returns-in_err-put_move-in-None-clause-refused c = on_err _ _ (behind_extends _ _ _ _ c.in_ok-emit_at-in-None.ensures.ok c.in_err-put_move-in-None.ensures.refused)

pub returns-in-Some-clause-code : goal.returns-in-Some-clause-code
returns-in-Some-clause-code c =
    let to = c.args.to in
    let here = length c.args.e.now in
    on_code _ _ _ _ _
    (ap (λ (i : Instr). line i c.pos-last.result ∷ []) c.brought.ensures
    ∙ ap (λ p. line (brought c.in-Some.operand to) p ∷ []) c.pos-last.ensures
    ∙ ap (λ (d : Option Direct). code_by d c.args.plan.now.vars (expression_of c.args.x.now) to here (last_pos c.args.e.now)) (sym c.in-Some.is ∙ c.direct_of.ensures)) c.put_all.ensures.ok

pub returns-in-Some-clause-refused : goal.returns-in-Some-clause-refused
returns-in-Some-clause-refused c = c.put_all.ensures.refused
