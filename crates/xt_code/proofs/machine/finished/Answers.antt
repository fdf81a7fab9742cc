use Rattle.xt_code.proofs.Aimed.{whole_closed}
use Rattle.xt_code.proofs.machine.finished.Goals as goal

pub finish-requires : goal.finish-requires
finish-requires c = whole_closed c.args.e c.put.new.self (record { line = 1; col = 1 }) c.requires.aimed c.in_ok-put.ensures.ok
