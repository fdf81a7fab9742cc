use Rattle.std.proofs.Common.{ap, ◌∙◌}
use Rattle.xc_disjoint.specs.Uses.{Shares}
use Rattle.xc_disjoint.specs.UseTables.{shares_in, uses_in, updated, with_ones}
use Rattle.xc_disjoint.proofs.UseEntries.{larger}
use Rattle.xc_disjoint.proofs.use_tables.ParTable.add_larger.Goals as goal

pub returns : goal.returns
returns c =
    let branch = uses_in c.args.branch.now in
    rw c.swap.ensures.x_after
    (ap (λ (f : Shares). with_ones f branch) (c.in_ok-self.ensures ∙ ap (λ (f : Shares). updated c.args.pos f branch) c.in_ok-spell_out.ensures)
    ∙ larger c.args.pos (shares_in c.args.self.now) branch)
