use Rattle.std.proofs.Common.{ℕ, ◌+◌, ◌∙◌, List, ◌∷◌, ◌++◌, ap, append_assoc, arith, length}
use Rattle.xs_instr.specs.declared.instr.Instr.TheVariants.{Stwsp}
use Rattle.xc_kernel.specs.Kernels.{expression_of}
use Rattle.xs_instr.specs.Lines.{Line, line, at_pos}
use Rattle.xl_expr.specs.Code.{expression_code}
use Rattle.xl_expr.specs.Stores.{element_write}
use Rattle.xl_expr.proofs.Emitted.{behind_extends, behind_line, on_err, one_longer}
use Rattle.xl_expr.proofs.Sizes.{longer}
use Rattle.xl_expr.proofs.store.emit_indexed_write.Goals as goal

pub put_all-requires-2 : goal.put_all-requires-2
put_all-requires-2 c =
    let l = one_longer c.args.e.now c.put_all.new.self (line (Stwsp c.args.from 0) c.args.pos) c.in_ok-put_all.ensures.ok in
    let n = longer c.args.plan.now.vars (expression_of c.args.index.now) 1 (length c.put_all.new.self) c.args.pos c.put_all.new.self c.emit_at.new.e c.in_ok-emit_at.ensures.ok in
    omega (arith, l, n, c.requires.room)

pub returns-in_err-put_all-clause-refused : goal.returns-in_err-put_all-clause-refused
returns-in_err-put_all-clause-refused c = on_err _ _ c.in_err-put_all.ensures.refused

pub returns-in_err-emit_at-clause-refused : goal.returns-in_err-emit_at-clause-refused
returns-in_err-emit_at-clause-refused c = on_err _ _ (behind_extends _ _ _ _ c.in_ok-put_all.ensures.ok c.in_err-emit_at.ensures.refused)

pub returns-in_err-put_all-2-clause-refused : goal.returns-in_err-put_all-2-clause-refused
returns-in_err-put_all-2-clause-refused c = on_err _ _ (behind_extends _ _ _ _ c.in_ok-put_all.ensures.ok (behind_extends _ _ _ _ c.in_ok-emit_at.ensures.ok c.in_err-put_all-2.ensures.refused))

pub returns-clause-code : goal.returns-clause-code
returns-clause-code c =
    let old = c.args.e.now in
    let b : ℕ → List Line = λ n. expression_code c.args.plan.now.vars (expression_of c.args.index.now) 1 n c.args.pos in
    let l = line (Stwsp c.args.from 0) c.args.pos in
    let tail = at_pos c.args.pos (element_write c.args.base c.args.words) in
    c.in_ok-put_all-2.ensures.ok
    ∙ ap (λ (ls : List Line). ls ++ tail) (behind_line old c.put_all.new.self c.emit_at.new.e l b c.in_ok-put_all.ensures.ok c.in_ok-emit_at.ensures.ok)
    ∙ append_assoc old (l ∷ b (length old + 1)) tail
