use Rattle.std.proofs.Common.{ℕ, drop, ◌+◌, sym, ap, ◌∙◌}
use Rattle.xc_disjoint.specs.declared.uses.Share.{Share}
use Rattle.xc_disjoint.specs.Uses.{Shares}
use Rattle.xc_disjoint.specs.UseTables.{found, uses_in, updated_by, with_entry}
use Rattle.xc_disjoint.proofs.UseEntries.{put_all, all_updated, empty_shares}
use Rattle.xw_words.proofs.Lists.{drop_found}
use Rattle.std.proofs.lemmas.List.{drop_all}
use Rattle.xc_disjoint.proofs.use_tables.with_larger.Goals as goal

pub loop-at-preserved : goal.loop-at-preserved
unfolding found
loop-at-preserved c =
    let entries = c.args.shared.now.entries in
    let by = λ (k : ℕ) (s : Share). updated_by c.args.pos s (uses_in c.args.branch.now k) in
    let e = c.entry_at-channel.result in
    c.loop-at.invariant
    ∙ ap (put_all by (found c.loop-at.all.entries)) (drop_found entries c.loop-at.at e c.entry_at-channel.ensures)
    ∙ ap (λ (w : Share). put_all by (with_entry (found c.loop-at.all.entries) e.0 w) (drop (c.loop-at.at + 1) entries)) (sym (c.with_any-joined.ensures ∙ ap (updated_by c.args.pos e.1) c.get.ensures.value))
    ∙ ap (λ (f : Shares). put_all by f (drop (c.loop-at.at + 1) entries)) (sym c.in_ok-put.ensures)

pub returns : goal.returns
returns c =
    let by = λ (k : ℕ) (s : Share). updated_by c.args.pos s (uses_in c.args.branch.now k) in
    sym (c.loop-at.invariant ∙ ap (put_all by (found c.loop-at.all.entries)) (drop_all c.loop-at.at c.args.shared.now.entries (rw (← c.len-at-end.ensures.len) c.loop-at-test.false)))
    ∙ all_updated c.args.pos (uses_in c.args.branch.now) c.args.shared.now.entries c.len-at-end.ensures.unique

pub loop-at-init : goal.loop-at-init
loop-at-init c = ap (λ (f : Shares). put_all (λ (k : ℕ) (s : Share). updated_by c.args.pos s (uses_in c.args.branch.now k)) f c.args.shared.now.entries) (sym (empty_shares c.new-all.result.entries c.new-all.ensures.empty))
