use Rattle.xt_code.proofs.Aimed.{aimed_on}
use Rattle.xt_code.proofs.transfers.add_port_out.Goals as goal

pub returns : goal.returns
returns c = record { aimed = aimed_on c.args.e.now c.emit_port_out-added.new.e c.requires.aimed c.in_ok-added.ensures.aimed }
