use Rattle.xc_inline.proofs.Laws.PathSets.{few_kept, known_kept, known_paths, new_kept, new_paths}
use Rattle.xc_inline.proofs.Laws.Results.{given_on_ok, if_given, on_error}
use Rattle.xc_inline.proofs.numbers.keep.Goals as goal

pub returns-in_err-add-clause-items : goal.returns-in_err-add-clause-items
returns-in_err-add-clause-items g c = on_error c.from_residual.result _ c.from_residual.ensures.0

pub returns-in_err-add-clause-paths : goal.returns-in_err-add-clause-paths
returns-in_err-add-clause-paths g c = on_error c.from_residual.result _ c.from_residual.ensures.0

pub returns-in_err-add-clause-few : goal.returns-in_err-add-clause-few
returns-in_err-add-clause-few g c = on_error c.from_residual.result _ c.from_residual.ensures.0

pub returns-then-not-branch-clause-items : goal.returns-then-not-branch-clause-items
returns-then-not-branch-clause-items g c =
    known_kept g.T.HasPath.path_of c.args.once.now.items.items c.args.instance c.path.result.now c.path.ensures c.requires c.in_ok-add.ensures.paths
    c.in_ok-add.field-0 c.in_ok-add.ensures.new c.if-not-branch.true

pub returns-then-not-branch-clause-paths : goal.returns-then-not-branch-clause-paths
returns-then-not-branch-clause-paths g c =
    known_paths g.T.HasPath.path_of c.args.once.now.items.items c.args.instance c.path.result.now c.path.ensures c.requires c.in_ok-add.ensures.paths
    c.in_ok-add.field-0 c.in_ok-add.ensures.new c.if-not-branch.true

pub returns-then-not-branch-clause-few : goal.returns-then-not-branch-clause-few
returns-then-not-branch-clause-few g c =
    few_kept g.T.HasPath.path_of c.args.once.now.items.items c.args.instance c.path.result.now c.path.ensures c.requires c.in_ok-add.ensures.paths

pub returns-clause-items : goal.returns-clause-items
returns-clause-items g c = given_on_ok c.push.result c.push.ensures
    (new_kept g.T.HasPath.path_of c.args.once.now.items.items c.args.instance c.path.result.now c.path.ensures c.requires c.in_ok-add.ensures.paths
    c.in_ok-add.field-0 c.in_ok-add.ensures.new c.if-not-branch.false)

pub returns-clause-paths : goal.returns-clause-paths
returns-clause-paths g c = given_on_ok c.push.result c.push.ensures
    (new_paths g.T.HasPath.path_of c.args.once.now.items.items c.args.instance c.path.result.now c.path.ensures c.requires c.in_ok-add.ensures.paths
    c.in_ok-add.field-0 c.in_ok-add.ensures.new c.if-not-branch.false)

pub returns-clause-few : goal.returns-clause-few
returns-clause-few g c = if_given c.push.result
    (few_kept g.T.HasPath.path_of c.args.once.now.items.items c.args.instance c.path.result.now c.path.ensures c.requires c.in_ok-add.ensures.paths)
