use Rattle.std.proofs.Common.{ap, arith, length, length-append}
use Rattle.xl_expr.specs.Plans.{var_in}
use Rattle.xl_flow.specs.Zeros.{zero_code}
use Rattle.xl_flow.proofs.ZeroSteps.{room_is}
use Rattle.xl_flow.proofs.ZeroCode.{zero_aimed}
use Rattle.xl_flow.proofs.ZeroLast.{code_zeroes}
use Rattle.xl_flow.proofs.zero.emit_zero.Goals as goal

pub returns-clause-zeroes : goal.returns-clause-zeroes
returns-clause-zeroes c =
    let vars = c.args.plan.now.vars in
    let last = c.pos-last.result in
    record {
      lines = zero_code vars c.args.v last;
      is = c.in_ok-put_zero.ensures.code;
      so = code_zeroes vars c.args.v (length c.args.e.now) last;
    }

pub returns-clause-aimed : goal.returns-clause-aimed
returns-clause-aimed c =
    let vars = c.args.plan.now.vars in
    let last = c.pos-last.result in
    record {
      lines = zero_code vars c.args.v last;
      is = c.in_ok-put_zero.ensures.code;
      so = zero_aimed vars c.args.v (length c.args.e.now) last;
    }

pub returns-clause-size : goal.returns-clause-size
returns-clause-size c =
    let lines = zero_code c.args.plan.now.vars c.args.v c.pos-last.result in
    omega (arith, ap length c.in_ok-put_zero.ensures.code, length-append c.args.e.now lines, room_is c.pos-last.result (var_in c.args.plan.now.vars c.args.v))
