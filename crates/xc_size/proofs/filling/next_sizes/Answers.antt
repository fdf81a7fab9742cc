use Rattle.xc_size.proofs.Filled.{next_more}
use Rattle.xc_size.proofs.filling.next_sizes.Goals as goal

pub loop-number-preserved : goal.loop-number-preserved
loop-number-preserved c =
    next_more c.args.sizes.now c.loop-number.each c.push.new.self c.loop-number.number c.index-as_slice-number.result c.function-size.result
    (rw c.as_slice.ensures at c.index-as_slice-number.is)
    (rw c.len-number-end.ensures at c.loop-number-test.true)
    c.in_ok-push.ensures.ok
    (record { statements = c.function-size.ensures.statements; nodes = c.function-size.ensures.nodes; depth = c.function-size.ensures.depth })
    c.loop-number.invariant
