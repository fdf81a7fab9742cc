use Rattle.xl_expr.proofs.GoodCode.{nothing_aimed}
use Rattle.xl_port.proofs.stamp.emit_stamp.Goals as goal

pub returns-in-None-clause-aimed : goal.returns-in-None-clause-aimed
returns-in-None-clause-aimed c = nothing_aimed c.args.e.now
