use Rattle.std.proofs.Common.{Some, ap, ◌∙◌}
use Rattle.xc_disjoint.specs.UseTables.{found, uses_in}
use Rattle.xc_disjoint.specs.Uses.{some_after}
use Rattle.xc_disjoint.proofs.UseEntries.{on_ok, followed}
use Rattle.xc_disjoint.proofs.use_tables.UseTable.follow.Goals as goal

pub returns : goal.returns
unfolding found
returns c =
    on_ok c.put.result
    (λ e. followed c.args.channel c.args.next (uses_in c.args.self.now) (found c.put.new.entries.entries) c.joined-joined.result (c.joined-joined.ensures ∙ ap (λ s. some_after s (Some c.args.next)) c.get.ensures.value) e)
    c.put.ensures
