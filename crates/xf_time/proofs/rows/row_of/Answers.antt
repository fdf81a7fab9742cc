use Rattle.std.proofs.Common.{ap, length, arith}
use Rattle.xf_time.proofs.Filling.{begun, next_turn}
use Rattle.xf_time.proofs.rows.row_of.Goals as goal

pub fill-requires-clause-old : goal.fill-requires-clause-old
fill-requires-clause-old c =
    begun c.args.code.now c.args.to c.from_vec-row.result
    (omega (arith, ap length c.from_vec-row.ensures, c.in_ok-numbers.ensures.len))

pub fill-requires-in-loop-left-clause-old : goal.fill-requires-in-loop-left-clause-old
fill-requires-in-loop-left-clause-old c = next_turn c.args.code.now c.args.to c.loop-left.left c.loop-left.row c.loop-left.invariant
