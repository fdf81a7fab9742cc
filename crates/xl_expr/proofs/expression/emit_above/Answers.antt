use Rattle.std.proofs.Common.{◌+◌, ◌≤◌, arith, length}
use Rattle.xc_kernel.specs.Kernels.{expression_of}
use Rattle.xl_expr.specs.Code.{expression_code}
use Rattle.xl_expr.specs.Measures.{depth}
use Rattle.xl_expr.proofs.Above.{code_above_aimed, code_evaluates_above}
use Rattle.xl_expr.proofs.Sizes.{longer}
use Rattle.xl_expr.proofs.expression.emit_above.Goals as goal

pub returns-clause-size : goal.returns-clause-size
returns-clause-size c =
    longer c.args.plan.now.vars (expression_of c.args.x.now) c.args.k (length c.args.e.now) c.pos-last.result c.args.e.now c.emit_at.new.e c.in_ok-emit_at.ensures.ok

pub returns-clause-evaluates : goal.returns-clause-evaluates
returns-clause-evaluates c =
    let vars = c.args.plan.now.vars in
    let x = expression_of c.args.x.now in
    let k = c.args.k in
    let here = length c.args.e.now in
    let last = c.pos-last.result in
    let fits : k + depth x ≤ 512 = omega (arith, c.requires.shallow, c.requires.inside) in
    record { lines = expression_code vars x k here last; is = c.in_ok-emit_at.ensures.ok; so = code_evaluates_above vars x k here last fits }

pub returns-clause-aimed : goal.returns-clause-aimed
returns-clause-aimed c =
    let vars = c.args.plan.now.vars in
    let x = expression_of c.args.x.now in
    let k = c.args.k in
    let here = length c.args.e.now in
    let last = c.pos-last.result in
    record { lines = expression_code vars x k here last; is = c.in_ok-emit_at.ensures.ok; so = code_above_aimed vars x k here last }
