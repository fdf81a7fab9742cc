use Rattle.std.proofs.Common.{drop, ◌+◌, sym, ap, ◌∙◌}
use Rattle.xc_disjoint.specs.Uses.{Shares, with_use}
use Rattle.xc_disjoint.specs.UseTables.{found, uses_in, with_ones}
use Rattle.xc_disjoint.proofs.UseEntries.{with_entries, all_shares, added}
use Rattle.xw_words.proofs.Lists.{drop_found}
use Rattle.std.proofs.lemmas.List.{drop_all}
use Rattle.xc_disjoint.proofs.use_tables.add_each.Goals as goal

pub loop-at-preserved : goal.loop-at-preserved
loop-at-preserved c =
    let entries = c.args.branch.now.entries.entries in
    let channel = c.entry_at-channel.result.0 in
    let u = c.entry_at-channel.result.1 in
    c.loop-at.invariant
    ∙ ap (with_entries c.args.pos (with_ones (found c.loop-at.shared.entries) (uses_in c.args.largest.now))) (drop_found entries c.loop-at.at c.entry_at-channel.result c.entry_at-channel.ensures)
    ∙ ap (λ (f : Shares). with_entries c.args.pos f (drop (c.loop-at.at + 1) entries))
    (sym (added channel u c.args.pos (uses_in c.args.largest.now) (found c.loop-at.shared.entries) (found c.put.new.entries.entries) c.with_branch-share.result (c.with_branch-share.ensures ∙ ap (λ s. with_use c.args.pos s u) c.share_of.ensures) c.in_ok-put.ensures))

pub returns : goal.returns
returns c =
    let start = with_ones (found c.args.shared.now.entries) (uses_in c.args.largest.now) in
    sym (c.loop-at.invariant ∙ ap (with_entries c.args.pos (with_ones (found c.loop-at.shared.entries) (uses_in c.args.largest.now))) (drop_all c.loop-at.at c.args.branch.now.entries.entries (rw (← c.len-at-end.ensures.len) c.loop-at-test.false)))
    ∙ all_shares c.args.pos start c.args.branch.now.entries.entries c.len-at-end.ensures.unique
