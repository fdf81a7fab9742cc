use Rattle.std.proofs.Common.{arith}
use Rattle.xc_names.proofs.News.{mark_at}
use Rattle.xc_names.proofs.Numbers.{counted, room_for}
use Rattle.xc_names.proofs.uses.numbers.Goals as goal

pub loop-mark-preserved : goal.loop-mark-preserved
loop-mark-preserved c =
    rw (c.count_in-count.ensures, c.in_ok-push.ensures.ok)
    (counted c.args.marks.now c.loop-mark.mark-index c.loop-mark.count c.loop-mark.numbers c.mark-item.result (mark_at _ _ _ c.mark-item.is c.loop-mark-test.true) c.loop-mark.invariant)

pub overflow_add-count : goal.overflow_add-count
overflow_add-count c =
    let h = room_for c.args.marks.now c.loop-mark.mark-index c.loop-mark.count c.loop-mark.numbers c.mark-item.result (mark_at _ _ _ c.mark-item.is c.loop-mark-test.true) c.loop-mark.invariant in
    let e = c.count_in-count.ensures in
    omega (arith, c.requires)
