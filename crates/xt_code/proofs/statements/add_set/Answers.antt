use Rattle.xt_code.proofs.Aimed.{aimed_on}
use Rattle.xt_code.proofs.statements.add_set.Goals as goal

pub returns : goal.returns
returns c = record { aimed = aimed_on c.args.e.now c.emit_set-set.new.e c.requires.aimed c.in_ok-set.ensures.aimed }
