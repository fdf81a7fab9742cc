use Rattle.std.proofs.Common.{◌≤◌, arith, length}
use Rattle.xc_kernel.specs.Kernels.{expression_of}
use Rattle.xs_instr.specs.Lines.{last_pos}
use Rattle.xl_expr.specs.Code.{code_to}
use Rattle.xl_expr.specs.Measures.{depth}
use Rattle.xl_expr.proofs.Evaluates.{code_evaluates}
use Rattle.xl_expr.proofs.GoodCode.{code_aimed}
use Rattle.xl_expr.proofs.Sizes.{moved_longer}
use Rattle.xl_expr.proofs.expression.emit_expr.Goals as goal

pub returns-clause-size : goal.returns-clause-size
returns-clause-size c =
    moved_longer c.args.plan.now.vars (expression_of c.args.x.now) c.args.to (length c.args.e.now) (last_pos c.args.e.now) c.args.e.now c.emit_to.new.e c.in_ok-emit_to.ensures.code

pub returns-clause-evaluates : goal.returns-clause-evaluates
returns-clause-evaluates c =
    let vars = c.args.plan.now.vars in
    let x = expression_of c.args.x.now in
    let here = length c.args.e.now in
    let last = last_pos c.args.e.now in
    let shallow : depth x ≤ 512 = omega (arith, c.requires.shallow) in
    record { lines = code_to vars x c.args.to here last; is = c.in_ok-emit_to.ensures.code; so = code_evaluates vars x c.args.to here last shallow }

pub returns-clause-aimed : goal.returns-clause-aimed
returns-clause-aimed c =
    let vars = c.args.plan.now.vars in
    let x = expression_of c.args.x.now in
    let here = length c.args.e.now in
    let last = last_pos c.args.e.now in
    record { lines = code_to vars x c.args.to here last; is = c.in_ok-emit_to.ensures.code; so = code_aimed vars x c.args.to here last }
