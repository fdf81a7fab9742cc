use Rattle.std.proofs.Common.{◌∙◌, ap, arith, slice_set}
use Rattle.xs_core.proofs.Changed.{changed_next}
use Rattle.xs_core.proofs.pool_rows.join_all.Goals as goal
use Rattle.xs_instr.specs.Machine.{unused_thread}
use Rattle.xs_instr.specs.Pool.{is_tied, joined_by}

pub loop-k-preserved : goal.loop-k-preserved
loop-k-preserved c =
    ap (slice_set c.loop-k.threads c.loop-k.k) c.freed.ensures
    ∙ changed_next (λ x. joined_by x (is_tied x c.args.n)) c.args.threads.now c.loop-k.threads c.loop-k.k unused_thread c.loop-k.invariant (omega arith)
