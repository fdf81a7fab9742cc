use Rattle.xc_kernel.specs.Kernels.{input_of}
use Rattle.xl_select.specs.OpeningCode.{arming_lines}
use Rattle.xl_select.proofs.Opened.{tested_joined}
use Rattle.xl_select.proofs.opening.put_tested.Goals as goal

pub returns-in_ok-start-clause-code : goal.returns-in_ok-start-clause-code
returns-in_ok-start-clause-code c =
    tested_joined c.args.flag c.args.head.now.pos (arming_lines c.args.plan.now c.args.end (input_of c.args.head.now)) c.args.e.now c.put.new.self c.hole.new.self c.put-then-flag.new.self c.put_arming.new.e c.land.new.self c.in_ok-past.past.index
    c.if-flag.true c.in_ok-put.ensures.ok c.in_ok-past.ensures.index c.in_ok-past.ensures.ok c.in_ok-put-2.ensures.ok c.in_ok-start.ensures.code c.land.ensures
