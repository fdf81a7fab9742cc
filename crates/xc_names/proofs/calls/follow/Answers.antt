use Rattle.std.proofs.Common.{subst}
use Rattle.xc_names.specs.Callees.{FoundCall}
use Rattle.xc_names.proofs.Searches.{adds_none, back_none, adds_one, back_one}
use Rattle.xc_names.proofs.calls.follow.Goals as goal

pub returns-in-None-clause-adds : goal.returns-in-None-clause-adds
returns-in-None-clause-adds c = adds_none c.args.marks.now c.args.meant.now c.args.at c.args.reached.now.keys (subst (FoundCall c.args.marks.now c.args.meant.now c.args.at) c.in-None.is c.call_at.ensures.found)

pub returns-in-None-clause-back : goal.returns-in-None-clause-back
returns-in-None-clause-back c = back_none c.args.marks.now c.args.meant.now c.args.at c.args.goal (subst (FoundCall c.args.marks.now c.args.meant.now c.args.at) c.in-None.is c.call_at.ensures.found)

pub returns-in_ok-add-in-Some-clause-adds : goal.returns-in_ok-add-in-Some-clause-adds
returns-in_ok-add-in-Some-clause-adds c = adds_one c.args.marks.now c.args.meant.now c.args.at c.args.reached.now.keys c.add.new.reached.keys c.in-Some.call (subst (FoundCall c.args.marks.now c.args.meant.now c.args.at) c.in-Some.is c.call_at.ensures.found) c.in-Some.ensures.small c.in_ok-add-in-Some.ensures

pub returns-in_ok-add-in-Some-clause-back : goal.returns-in_ok-add-in-Some-clause-back
returns-in_ok-add-in-Some-clause-back c = rw c.back_at.ensures (back_one c.args.marks.now c.args.meant.now c.args.at c.args.goal c.in-Some.call (subst (FoundCall c.args.marks.now c.args.meant.now c.args.at) c.in-Some.is c.call_at.ensures.found))
