use Rattle.std.proofs.Common.{ℕ, drop, ◌+◌, sym, ap, ◌∙◌}
use Rattle.xc_disjoint.specs.declared.uses.Use.{Use}
use Rattle.xc_disjoint.specs.declared.uses.Share.{Share}
use Rattle.xc_disjoint.specs.Uses.{Uses, use_of}
use Rattle.xc_disjoint.specs.UseTables.{uses_in, with_entry}
use Rattle.xc_disjoint.proofs.UseEntries.{put_all, all_used}
use Rattle.xw_words.proofs.Lists.{drop_found}
use Rattle.std.proofs.lemmas.List.{drop_all}
use Rattle.xc_disjoint.proofs.use_tables.settle.Goals as goal

pub loop-at-preserved : goal.loop-at-preserved
loop-at-preserved c =
    let entries = c.args.shared.now.entries in
    let by = λ (k : ℕ) (s : Share). use_of s in
    let e = c.entry_at-channel.result in
    c.loop-at.invariant
    ∙ ap (put_all by (uses_in c.loop-at.largest)) (drop_found entries c.loop-at.at e c.entry_at-channel.ensures)
    ∙ ap (λ (w : Use). put_all by (with_entry (uses_in c.loop-at.largest) e.0 w) (drop (c.loop-at.at + 1) entries)) (sym c.use_of.ensures)
    ∙ ap (λ (f : Uses). put_all by f (drop (c.loop-at.at + 1) entries)) (sym c.in_ok-put.ensures)

pub returns : goal.returns
returns c =
    let by = λ (k : ℕ) (s : Share). use_of s in
    let entries = c.args.shared.now.entries in
    sym (c.loop-at.invariant ∙ ap (put_all by (uses_in c.loop-at.largest)) (drop_all c.loop-at.at entries (rw (← c.len-at-end.ensures.len) c.loop-at-test.false)))
    ∙ all_used (uses_in c.args.largest.now) entries c.len-at-end.ensures.unique
