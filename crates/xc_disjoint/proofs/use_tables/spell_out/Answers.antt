use Rattle.std.proofs.Common.{Some, drop, ◌+◌, sym, ap, ◌∙◌}
use Rattle.xc_disjoint.specs.Uses.{Shares}
use Rattle.xc_disjoint.specs.UseTables.{found, or_one}
use Rattle.xc_disjoint.proofs.UseEntries.{ones_each, all_ones, spelt}
use Rattle.xw_words.proofs.Lists.{drop_found}
use Rattle.std.proofs.lemmas.List.{drop_all}
use Rattle.xc_disjoint.proofs.use_tables.spell_out.Goals as goal

pub loop-at-preserved : goal.loop-at-preserved
unfolding found
loop-at-preserved c =
    let entries = c.args.largest.now.entries.entries in
    let u = c.entry_at-channel.result.1 in
    c.loop-at.invariant
    ∙ ap (ones_each (found c.loop-at.shared.entries)) (drop_found entries c.loop-at.at c.entry_at-channel.result c.entry_at-channel.ensures)
    ∙ ap (λ (f : Shares). ones_each f (drop (c.loop-at.at + 1) entries))
    (sym (spelt c.entry_at-channel.result.0 u (found c.loop-at.shared.entries) (found c.put.new.entries.entries) c.share_or-share.result (c.share_or-share.ensures ∙ ap (λ s. or_one s (Some u)) c.get.ensures.value) c.in_ok-put.ensures))

pub returns : goal.returns
returns c =
    sym (c.loop-at.invariant ∙ ap (ones_each (found c.loop-at.shared.entries)) (drop_all c.loop-at.at c.args.largest.now.entries.entries (rw (← c.len-at-end.ensures.len) c.loop-at-test.false)))
    ∙ all_ones (found c.args.shared.now.entries) c.args.largest.now.entries.entries c.len-at-end.ensures.unique
