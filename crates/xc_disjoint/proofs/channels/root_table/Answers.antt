use Rattle.std.proofs.Common.{List, map, ap, ◌∙◌}
use Rattle.xc_kernel.specs.declared.statement.Kst.{Kst}
use Rattle.xc_kernel.specs.Kernels.{statement_of}
use Rattle.xc_kernel.specs.Plain as plain
use Rattle.xc_disjoint.specs.Uses.{Uses, all_after, of_statements}
use Rattle.xc_disjoint.specs.UseTables.{uses_in}
use Rattle.xc_disjoint.proofs.ChannelSteps.{none_before}
use Rattle.xc_disjoint.proofs.channels.root_table.Goals as goal

pub returns : goal.returns
returns c =
    let body = of_statements (plain.statements (map statement_of c.args.root.now.body)) in
    ap (λ (u : Uses). record { core = c.args.root.now.core; uses = u })
    (c.in_ok-statements.ensures
    ∙ ap (λ (ss : List Kst). all_after (uses_in c.new-uses.result) (of_statements (plain.statements (map statement_of ss)))) c.as_slice.ensures
    ∙ ap (λ (u : Uses). all_after u body) c.new-uses.ensures ∙ none_before body)
