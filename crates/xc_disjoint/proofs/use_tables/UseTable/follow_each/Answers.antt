use Rattle.std.proofs.Common.{drop, ◌+◌, sym, ap, ◌∙◌}
use Rattle.xc_disjoint.specs.Uses.{Uses}
use Rattle.xc_disjoint.specs.UseTables.{uses_in}
use Rattle.xc_disjoint.proofs.UseEntries.{after_entries, all_uses}
use Rattle.xw_words.proofs.Lists.{drop_found}
use Rattle.std.proofs.lemmas.List.{drop_all}
use Rattle.xc_disjoint.proofs.use_tables.UseTable.follow_each.Goals as goal

pub loop-at-preserved : goal.loop-at-preserved
loop-at-preserved c =
    c.loop-at.invariant
    ∙ ap (after_entries (uses_in c.loop-at.self)) (drop_found c.args.next.now.entries.entries c.loop-at.at c.entry_at-channel.result c.entry_at-channel.ensures)
    ∙ ap (λ (f : Uses). after_entries f (drop (c.loop-at.at + 1) c.args.next.now.entries.entries)) (sym c.in_ok-follow.ensures)

pub returns : goal.returns
returns c =
    sym (c.loop-at.invariant ∙ ap (after_entries (uses_in c.loop-at.self)) (drop_all c.loop-at.at c.args.next.now.entries.entries (rw (← c.len-at-end.ensures.len) c.loop-at-test.false)))
    ∙ all_uses (uses_in c.args.self.now) c.args.next.now.entries.entries c.len-at-end.ensures.unique
