use Rattle.std.proofs.Common.{◌≡◌, ◌-◌, length, subst, arith}
use Rattle.xf_time.proofs.Filling.{fill_turn}
use Rattle.xf_time.specs.Rows.{IsFilledFrom}
use Rattle.xf_time.proofs.rows.fill.Goals as goal

pub loop-filled-init : goal.loop-filled-init
loop-filled-init c =
    let all : length c.args.code.now.instrs ≡ length c.args.code.now.instrs - 0 = omega arith in
    subst (λ i. IsFilledFrom c.args.code.now c.args.to c.args.left i c.args.row.now) all c.requires.old

pub loop-filled-preserved : goal.loop-filled-preserved
loop-filled-preserved c =
    fill_turn c.args.code.now c.args.to c.args.left c.len-size.result c.loop-filled.filled c.loop-filled.row c.as_slice.result.now c.set.new.self
    c.number_at-number.result c.requires.good (omega arith) c.len-size.ensures c.loop-filled-test.true c.loop-filled.invariant c.as_slice.ensures
    c.number_at-number.ensures c.set.ensures
