use Rattle.std.proofs.Common.{length}
use Rattle.xs_instr.specs.Lines.{at_pos}
use Rattle.xl_par.specs.Closing.{closing_instrs}
use Rattle.xl_par.proofs.Joining.{closing_closes}
use Rattle.xl_par.proofs.closing.close_par.Goals as goal

pub returns-clause-closes : goal.returns-clause-closes
returns-clause-closes c = record {
  lines = at_pos c.args.pos closing_instrs;
  is = c.in_ok-put_all.ensures.ok;
  so = closing_closes c.args.pos (length c.args.e.now);
}
