use Rattle.std.proofs.Common.{ℕ, List, [], ap, subst, ◌∙◌}
use Rattle.xc_kernel.specs.declared.kernel.Chan.{Chan}
use Rattle.xc_kernel.specs.Kernels.{kernel_of}
use Rattle.xc_disjoint.proofs.FirstSoFar.{Goes, goes_end}
use Rattle.xc_disjoint.specs.declared.uses.Use.{Use}
use Rattle.xc_disjoint.specs.Judged.{rule_of}
use Rattle.xc_disjoint.proofs.Judging.{AnyOf, of_all, channel_go}
use Rattle.std.proofs.lemmas.List.{drop_all}
use Rattle.xc_disjoint.proofs.judge.first_of.Goals as goal

pub returns : goal.returns
returns c =
    let k = kernel_of c.args.kernel.now in
    let es = c.args.table.now.entries.entries in
    of_all k es c.requires c.loop-at.best
    (goes_end (AnyOf k es) (AnyOf k []) c.loop-at.best (λ b h. h)
    (subst (λ (xs : List (ℕ × Use)). Goes (AnyOf k es) (AnyOf k xs) c.loop-at.best) (drop_all c.loop-at.at es (rw (← c.len-at-end.ensures.len) c.loop-at-test.false)) c.loop-at.invariant))

pub loop-at-preserved : goal.loop-at-preserved
loop-at-preserved c =
    let k = kernel_of c.args.kernel.now in
    let es = c.args.table.now.entries.entries in
    let e = c.entry_at-channel.result in
    rw c.earlier-best.ensures
    (channel_go k es c.requires c.len-at-end.ensures.unique c.loop-at.at e c.entry_at-channel.ensures c.loop-at.best c.rule_of.result
    (c.rule_of.ensures ∙ ap (λ (xs : List Chan). rule_of xs e.0 e.1) c.as_slice-channels.ensures)
    c.loop-at.invariant)
