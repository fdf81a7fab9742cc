use Rattle.std.proofs.Common.{◌≡◌, ◌∙◌, ap, arith}
use Rattle.xs_core.proofs.boot.threads.Goals as goal
use Rattle.xs_core.proofs.Starting.{all_started, started_next}
use Rattle.xs_core.specs.Start.{started}

pub loop-t-preserved : goal.loop-t-preserved
loop-t-preserved c =
    started_next c.args.roots.now c.loop-t.t c.loop-t.threads c.thread_for.result c.loop-t.invariant
    (c.thread_for.ensures ∙ ap started c.get.ensures) (omega arith)

pub returns : goal.returns
returns c =
    let done : c.loop-t.t ≡ 8 = omega arith in
    rw (← done) (c.loop-t.invariant ∙ rw done (all_started c.args.roots.now 8))
