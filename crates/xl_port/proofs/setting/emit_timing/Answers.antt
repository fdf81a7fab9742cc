use Rattle.xl_expr.proofs.GoodCode.{nothing_aimed}
use Rattle.xl_port.proofs.setting.emit_timing.Goals as goal

pub returns-in-None-cond-clause-aimed : goal.returns-in-None-cond-clause-aimed
returns-in-None-cond-clause-aimed c = nothing_aimed c.args.e.now
