use Rattle.std.proofs.Common.{drop, ◌+◌, sym, ap, ◌∙◌}
use Rattle.xc_disjoint.specs.Footprints.{Numbers, members}
use Rattle.xc_disjoint.proofs.Sets.{with_each, each_is_all}
use Rattle.xw_words.proofs.Lists.{drop_found}
use Rattle.std.proofs.lemmas.List.{drop_all}
use Rattle.xc_disjoint.proofs.footprint.insert_each.Goals as goal

pub loop-at-preserved : goal.loop-at-preserved
loop-at-preserved c =
    c.loop-at.invariant
    ∙ ap (with_each (members c.loop-at.numbers.keys)) (drop_found c.args.others.now.keys c.loop-at.at c.number_at.result c.number_at.ensures)
    ∙ ap (λ (s : Numbers). with_each s (drop (c.loop-at.at + 1) c.args.others.now.keys)) (sym c.in_ok-insert.ensures)

pub returns : goal.returns
returns c =
    sym (c.loop-at.invariant ∙ ap (with_each (members c.loop-at.numbers.keys)) (drop_all c.loop-at.at c.args.others.now.keys (rw (← c.len-at-end.ensures.len) c.loop-at-test.false)))
    ∙ each_is_all (members c.args.numbers.now.keys) c.args.others.now.keys
