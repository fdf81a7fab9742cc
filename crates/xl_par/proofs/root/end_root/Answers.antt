use Rattle.std.proofs.Common.{[], ◌∷◌, length}
use Rattle.xs_instr.specs.declared.instr.Instr.TheVariants.{Freet}
use Rattle.xs_instr.specs.Lines.{line}
use Rattle.xl_expr.proofs.GoodCode.{plain_aimed}
use Rattle.xl_par.proofs.Freeing.{freet_ends}
use Rattle.xl_par.proofs.root.end_root.Goals as goal

pub returns-clause-ends : goal.returns-clause-ends
returns-clause-ends c = record {
  lines = line Freet c.args.pos ∷ [];
  is = c.in_ok-put.ensures.ok;
  so = freet_ends (length c.args.e.now) c.args.pos;
}

pub returns-clause-aimed : goal.returns-clause-aimed
returns-clause-aimed c = record {
  lines = line Freet c.args.pos ∷ [];
  is = c.in_ok-put.ensures.ok;
  so = plain_aimed c.args.pos (Freet ∷ []) (length c.args.e.now) ((λ size n. tt), tt);
}
