use Rattle.std.proofs.Common.{ap, sym, ◌∙◌, arith}
use Rattle.xc_kernel.specs.Paths.{with_all}
use Rattle.xc_inline.proofs.Laws.Results.{on_error}
use Rattle.xc_inline.proofs.Laws.PathSets.{few_more, kept_more, nothing_left}
use Rattle.xc_inline.proofs.numbers.keep_all.Goals as goal

pub keep-requires : goal.keep-requires
keep-requires g c = c.sights.invariant.1

pub sights-preserved : goal.sights-preserved
sights-preserved g c =
    let inv = c.sights.invariant in
    let x = c.in-Some.instance in
    let rest = c.pop_front.new.self.items in
    let kept = c.in_ok-keep.ensures in
    (kept_more g.T.HasPath.path_of c.sights.once.items.items x rest c.in-Some.ensures.items kept.items inv.0, kept.paths, few_more x rest _ _ _ c.in-Some.ensures.items kept.few inv.2)

pub returns-in_err-keep-clause-items : goal.returns-in_err-keep-clause-items
returns-in_err-keep-clause-items g c = on_error c.from_residual.result _ c.from_residual.ensures.0

pub returns-in_err-keep-clause-paths : goal.returns-in_err-keep-clause-paths
returns-in_err-keep-clause-paths g c = on_error c.from_residual.result _ c.from_residual.ensures.0

pub returns-in_err-keep-clause-few : goal.returns-in_err-keep-clause-few
returns-in_err-keep-clause-few g c = on_error c.from_residual.result _ c.from_residual.ensures.0

pub returns-clause-items : goal.returns-clause-items
returns-clause-items g c =
    let none = nothing_left c.sights.seen.items c.in_default.ensures.items c.in_default.ensures.rest in
    sym (ap (with_all g.T.HasPath.path_of c.sights.once.items.items) none) ∙ c.sights.invariant.0

pub returns-clause-paths : goal.returns-clause-paths
returns-clause-paths g c = c.sights.invariant.1

pub returns-clause-few : goal.returns-clause-few
returns-clause-few g c = let few = c.sights.invariant.2 in omega (arith, few)
