use Rattle.xt_code.proofs.Aimed.{aimed_on}
use Rattle.xt_code.proofs.machine.add_expression.Goals as goal

pub returns-clause-aimed : goal.returns-clause-aimed
returns-clause-aimed c = aimed_on c.args.e.now c.emit_expr.new.e c.requires.aimed c.in_ok-emit_expr.ensures.aimed
