use Rattle.xt_code.proofs.Aimed.{aimed_on}
use Rattle.xt_code.proofs.transfers.add_timer_in.Goals as goal

pub returns : goal.returns
returns c = record { aimed = aimed_on c.args.e.now c.emit_timer_in-added.new.e c.requires.aimed c.in_ok-added.ensures.aimed }
