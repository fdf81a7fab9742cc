use Rattle.xt_code.proofs.Aimed.{one_aimed}
use Rattle.xt_code.proofs.machine.add.Goals as goal

pub returns-clause-aimed : goal.returns-clause-aimed
returns-clause-aimed c = one_aimed c.args.e.now c.put.new.self c.args.instr (record { line = 1; col = 1 }) c.requires.aimed c.requires.plain c.in_ok-put.ensures.ok
