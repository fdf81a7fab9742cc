use Rattle.xt_code.proofs.Aimed.{aimed_on}
use Rattle.xt_code.proofs.transfers.add_entry.Goals as goal

pub returns : goal.returns
returns c = record { aimed = aimed_on c.args.e.now c.open_case-added.new.e c.requires.aimed c.in_ok-added.ensures.aimed }
