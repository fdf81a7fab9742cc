use Rattle.std.proofs.Common.{sym, ◌∙◌}
use Rattle.xc_names.proofs.Identifiers.{found_row, passed_row, no_row}
use Rattle.xc_names.proofs.ports.is_among.Goals as goal

pub returns-then-eq : goal.returns-then-eq
returns-then-eq c =
    found_row c.args.table.now c.args.text.now c.loop-row.row-index _ c.loop-row-test.true (sym c.eq.ensures ∙ c.if-eq.true) ∙ c.loop-row.invariant

pub loop-row-preserved : goal.loop-row-preserved
loop-row-preserved c =
    passed_row c.args.table.now c.args.text.now c.loop-row.row-index _ c.loop-row-test.true (sym c.eq.ensures ∙ c.if-eq.false) ∙ c.loop-row.invariant

pub returns : goal.returns
returns c = no_row c.args.table.now c.args.text.now c.loop-row.row-index c.loop-row-test.false ∙ c.loop-row.invariant
