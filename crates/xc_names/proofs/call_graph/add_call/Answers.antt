use Rattle.std.proofs.Common.{subst}
use Rattle.xc_names.specs.Callees.{FoundCall}
use Rattle.xc_names.proofs.Graphs.{longer_push, none_there, one_there}
use Rattle.xc_names.proofs.call_graph.add_call.Goals as goal

pub returns-in-None-clause-added : goal.returns-in-None-clause-added
returns-in-None-clause-added c = none_there c.args.marks.now c.args.meant.now c.args.f c.args.at _ (subst (FoundCall c.args.marks.now c.args.meant.now c.args.at) c.in-None.is c.call_at.ensures.found)

pub returns-in_ok-push-in-Some-clause-kept : goal.returns-in_ok-push-in-Some-clause-kept
returns-in_ok-push-in-Some-clause-kept c = longer_push _ _ _ c.in_ok-push-in-Some.ensures.ok

pub returns-in_ok-push-in-Some-clause-added : goal.returns-in_ok-push-in-Some-clause-added
returns-in_ok-push-in-Some-clause-added c = one_there c.args.marks.now c.args.meant.now c.args.f c.args.at _ _ c.in-Some.call (subst (FoundCall c.args.marks.now c.args.meant.now c.args.at) c.in-Some.is c.call_at.ensures.found) c.in_ok-push-in-Some.ensures.ok
