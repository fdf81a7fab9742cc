use Rattle.xs_core.proofs.pool_rows.hold.Goals as goal
use Rattle.xs_core.proofs.Found.{holds, lock_absent, lock_found, lock_step, not_taken, waits_to_hold}
use Rattle.xs_instr.specs.declared.trace.Trap.TheVariants.{Resource}
use Rattle.xs_instr.specs.Did.{Paused, Traps}
use Rattle.xs_instr.specs.Pool.{lock_held}

pub returns-in_default-clause-means : goal.returns-in_default-clause-means
returns-in_default-clause-means c t x = lock_absent _ _ _ _ c.in_default.ensures.lookup.0

pub returns-then-not-lock-clause-means : goal.returns-then-not-lock-clause-means
returns-then-not-lock-clause-means c t x =
    lock_found _ _ _ _ c.in-Some.lock.now (Traps Resource) c.in-Some.ensures.lookup.0 c.in-Some.ensures.lookup.1 (not_taken (lock_held c.args.state.now.locks t c.args.name c.args.n) c.in-Some.lock.now c.if-not-lock.true)

pub returns-in-None-clause-steps : goal.returns-in-None-clause-steps
returns-in-None-clause-steps c t x =
    lock_step _ _ _ _ c.in-Some.lock.now c.in-Some.ensures.lookup.0 c.in-Some.ensures.lookup.1 (holds _ _ _ _ _ c.if-not-lock.false c.in-None.is)

pub returns-in-Some-holder-clause-means : goal.returns-in-Some-holder-clause-means
returns-in-Some-holder-clause-means c t x =
    lock_found _ _ _ _ c.in-Some.lock.now Paused c.in-Some.ensures.lookup.0 c.in-Some.ensures.lookup.1 (waits_to_hold _ _ _ _ _ _ c.if-not-lock.false c.in-Some-holder.is)
