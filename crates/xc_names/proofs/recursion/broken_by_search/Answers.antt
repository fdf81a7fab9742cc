use Rattle.xc_names.proofs.Searches.{no_goal, next_goal}
use Rattle.xc_names.proofs.recursion.broken_by_search.Goals as goal

pub loop-goal-init : goal.loop-goal-init
loop-goal-init c = no_goal c.args.marks.now c.args.meant.now c.args.starts.now

pub loop-goal-preserved : goal.loop-goal-preserved
loop-goal-preserved c =
    rw c.earlier-best.ensures
    (next_goal c.args.marks.now c.args.meant.now c.args.starts.now c.loop-goal.goal c.loop-goal.best c.in_ok-broken_into.field-0 c.loop-goal.invariant c.in_ok-broken_into.ensures)
