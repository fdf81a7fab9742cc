use Rattle.std.proofs.Common.{sym, ◌∙◌}
use Rattle.xw_words.proofs.Rows.{found_row, passed_row, no_row}
use Rattle.xw_words.proofs.tables.place_in.Goals as goal

pub returns-then-eq : goal.returns-then-eq
returns-then-eq c =
    found_row c.args.table.now c.args.row.now c.loop-k.k _ c.loop-k-test.true (sym c.eq.ensures ∙ c.if-eq.true) ∙ c.loop-k.invariant

pub loop-k-preserved : goal.loop-k-preserved
loop-k-preserved c =
    passed_row c.args.table.now c.args.row.now c.loop-k.k _ c.loop-k-test.true (sym c.eq.ensures ∙ c.if-eq.false) ∙ c.loop-k.invariant

pub returns : goal.returns
returns c = no_row c.args.table.now c.args.row.now c.loop-k.k c.loop-k-test.false ∙ c.loop-k.invariant
