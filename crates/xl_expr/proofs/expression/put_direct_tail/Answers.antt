use Rattle.std.proofs.Common.{ℕ, ◌∙◌, ◌∷◌, ap, arith, sym, Option}
use Rattle.xc_kernel.specs.Meant.{operator_meant}
use Rattle.xs_instr.specs.declared.instr.Instr.{Instr}
use Rattle.xs_instr.specs.declared.instr.Reg.TheVariants.{R11}
use Rattle.xs_instr.specs.Lines.{line, at_pos}
use Rattle.xl_expr.specs.Code.{after_main, brought, direct_tail}
use Rattle.xl_expr.proofs.Emitted.{on_code, on_code_behind, on_err, on_err_behind, two_longer}
use Rattle.xl_expr.proofs.expression.put_direct_tail.Goals as goal

pub put_after_main-requires : goal.put_after_main-requires
put_after_main-requires c =
    let pos = c.args.operation.pos in
    let l = two_longer c.args.e.now c.put_all-in-None.new.self (line c.brought.result pos) (line c.main_instr.result pos) c.in_ok-put_all-in-None.ensures.ok in
    omega (arith, l, c.requires)

pub returns-in_err-put_all-in-None-clause-refused : goal.returns-in_err-put_all-in-None-clause-refused
returns-in_err-put_all-in-None-clause-refused c = on_err _ _ c.in_err-put_all-in-None.ensures.refused

pub returns-in-Some-clause-ok : goal.returns-in-Some-clause-ok
returns-in-Some-clause-ok c =
    let o = operator_meant c.args.operation.operator in
    let u = c.args.operation.is_unsigned in
    on_code _ _ _ _ _ (ap (λ (s : Option ℕ). at_pos c.args.operation.pos (direct_tail o u c.args.operand s c.args.a c.args.b)) (sym c.in-Some.is)) c.put_all.ensures.ok

pub returns-in-Some-clause-refused : goal.returns-in-Some-clause-refused
returns-in-Some-clause-refused c = c.put_all.ensures.refused

pub returns-in_ok-put_all-in-None-clause-ok : goal.returns-in_ok-put_all-in-None-clause-ok
returns-in_ok-put_all-in-None-clause-ok c =
    let pos = c.args.operation.pos in
    let o = operator_meant c.args.operation.operator in
    let u = c.args.operation.is_unsigned in
    let rest = at_pos pos (after_main o c.args.a c.args.b) in
    on_code_behind _ _ _ _ _ _ (λ n. rest) c.in_ok-put_all-in-None.ensures.ok
    (ap (λ (i : Instr). line i pos ∷ line c.main_instr.result pos ∷ rest) c.brought.ensures
    ∙ ap (λ (i : Instr). line (brought c.args.operand R11) pos ∷ line i pos ∷ rest) c.main_instr.ensures
    ∙ ap (λ (s : Option ℕ). at_pos pos (direct_tail o u c.args.operand s c.args.a c.args.b)) (sym c.in-None.is)) c.put_after_main.ensures.ok

pub returns-in_ok-put_all-in-None-clause-refused : goal.returns-in_ok-put_all-in-None-clause-refused
returns-in_ok-put_all-in-None-clause-refused c = on_err_behind _ _ _ _ _ c.in_ok-put_all-in-None.ensures.ok c.put_after_main.ensures.refused
