use Rattle.std.proofs.Common.{ap, refl}
use Rattle.xs_core.proofs.PoolRows.{all_joined_made, all_started_made, end_made, lock_freed_made, lock_given_made, lock_got_made, lock_held_made, pc_set_made, reg_set_made, sync_freed_made, sync_got_made, thread_got_made, wait_made}
use Rattle.xs_core.proofs.pool_rows.apply.Goals as goal
use Rattle.xs_core.specs.Seen.{thread_at}
use Rattle.xs_instr.specs.declared.state.Regs.{Regs}

pub returns-in-FreeLock-clause-made : goal.returns-in-FreeLock-clause-made
returns-in-FreeLock-clause-made c = lock_freed_made c.args.state.now c.args.t c.in-FreeLock.n c.args.step c.pass-in-FreeLock.new.threads c.unheld.result c.in-FreeLock.is c.requires.fits c.unheld.ensures c.pass-in-FreeLock.ensures

pub returns-in-SetPc-clause-made : goal.returns-in-SetPc-clause-made
returns-in-SetPc-clause-made c = pc_set_made c.args.state.now c.args.t c.in-SetPc.n c.in-SetPc.k c.args.step c.put_next.new.threads c.in-SetPc.is c.requires.fits c.put_next.ensures

pub returns-in-SetReg-clause-made : goal.returns-in-SetReg-clause-made
returns-in-SetReg-clause-made c = reg_set_made c.args.state.now c.args.t c.in-SetReg.n c.in-SetReg.value c.in-SetReg.r c.args.step c.put_next-in-SetReg.new.threads _ c.in-SetReg.is c.requires.fits (ap (λ (r : Regs). record (thread_at c.args.state.now.threads c.in-SetReg.n) { regs = r }) c.set.ensures) c.put_next-in-SetReg.ensures

pub returns-in-GiveBack-clause-made : goal.returns-in-GiveBack-clause-made
returns-in-GiveBack-clause-made c = lock_given_made c.args.state.now c.args.t c.in-GiveBack.n c.args.step c.pass-in-GiveBack.new.threads c.unheld-in-GiveBack.result c.in-GiveBack.is c.requires.fits c.unheld-in-GiveBack.ensures c.pass-in-GiveBack.ensures

pub returns-in-GetSync-clause-made : goal.returns-in-GetSync-clause-made
returns-in-GetSync-clause-made c = sync_got_made c.args.state.now c.args.t c.core.result c.take_sync-name.result c.in-GetSync.d c.args.step
    c.pass_with.new.threads c.take_sync-name.new.pool c.in-GetSync.is c.core.ensures c.take_sync-name.ensures.name c.pass_with.ensures

pub returns-in-GetLock-clause-made : goal.returns-in-GetLock-clause-made
returns-in-GetLock-clause-made c = lock_got_made c.args.state.now c.args.t c.core-in-GetLock.result c.take_lock-name.result c.in-GetLock.d
    c.args.step c.pass_with-in-GetLock.new.threads c.take_lock-name.new.locks c.in-GetLock.is c.core-in-GetLock.ensures c.take_lock-name.ensures.name
    c.pass_with-in-GetLock.ensures

pub returns-in-GetThread-clause-made : goal.returns-in-GetThread-clause-made
returns-in-GetThread-clause-made c = thread_got_made c.args.state.now c.args.t c.core-in-GetThread.result c.take_thread-name.result c.in-GetThread.n
    c.in-GetThread.d c.args.step c.take_thread-name.new.threads c.put_with.new.threads c.in-GetThread.is c.requires.fits c.core-in-GetThread.ensures
    c.take_thread-name.ensures.name c.put_with.ensures

pub returns-in-Start-clause-made : goal.returns-in-Start-clause-made
returns-in-Start-clause-made c = all_started_made c.args.state.now c.args.t c.in-Start.n c.args.step c.start_all.new.threads
    c.put_next-in-Start.new.threads c.in-Start.is c.requires.fits c.start_all.ensures c.put_next-in-Start.ensures

pub returns-in-Join-clause-made : goal.returns-in-Join-clause-made
returns-in-Join-clause-made c = all_joined_made c.args.state.now c.args.t c.in-Join.n c.args.step c.join_all.new.threads
    c.put_next-in-Join.new.threads c.in-Join.is c.requires.fits c.join_all.ensures c.put_next-in-Join.ensures

pub returns-in-Wait-clause-made : goal.returns-in-Wait-clause-made
returns-in-Wait-clause-made c = wait_made c.args.state.now c.args.t c.args.step c.in_mode.result c.put_next-in-Wait.new.threads c.in-Wait.is
    c.requires.fits c.in_mode.ensures c.put_next-in-Wait.ensures

pub returns-in-End-clause-made : goal.returns-in-End-clause-made
returns-in-End-clause-made c = end_made c.args.state.now c.args.t c.saturating_sub-state.result c.args.step c.in_mode-in-End.result
    c.put_next-in-End.new.threads c.in-End.is c.requires.fits c.in_mode-in-End.ensures c.put_next-in-End.ensures c.saturating_sub-state.ensures

pub returns-in-Hold-clause-made : goal.returns-in-Hold-clause-made
returns-in-Hold-clause-made c = lock_held_made c.args.state.now c.args.t c.in-Hold.n c.in-Hold.name c.in-Hold.d c.args.step
    c.pass_with-in-Hold.new.threads c.in-Hold.is c.requires.fits c.pass_with-in-Hold.ensures

pub returns-in-FreeSync-clause-made : goal.returns-in-FreeSync-clause-made
returns-in-FreeSync-clause-made c = sync_freed_made c.args.state.now c.args.t c.in-FreeSync.n c.args.step c.pass.new.threads c.free.new.self
    c.free.result c.in-FreeSync.is c.requires.fits c.free.ensures.was_taken c.free.ensures.freed c.pass.ensures

pub returns-in-GetSync-clause-keeps : goal.returns-in-GetSync-clause-keeps
returns-in-GetSync-clause-keeps c = record { fixed = refl; core = refl; stim = refl; ends = refl }

pub returns-in-GetLock-clause-keeps : goal.returns-in-GetLock-clause-keeps
returns-in-GetLock-clause-keeps c = record { fixed = refl; core = refl; stim = refl; ends = refl }

pub returns-in-GetThread-clause-keeps : goal.returns-in-GetThread-clause-keeps
returns-in-GetThread-clause-keeps c = record { fixed = refl; core = refl; stim = refl; ends = refl }

pub returns-in-FreeSync-clause-keeps : goal.returns-in-FreeSync-clause-keeps
returns-in-FreeSync-clause-keeps c = record { fixed = refl; core = refl; stim = refl; ends = refl }

pub returns-in-FreeLock-clause-keeps : goal.returns-in-FreeLock-clause-keeps
returns-in-FreeLock-clause-keeps c = record { fixed = refl; core = refl; stim = refl; ends = refl }

pub returns-in-SetPc-clause-keeps : goal.returns-in-SetPc-clause-keeps
returns-in-SetPc-clause-keeps c = record { fixed = refl; core = refl; stim = refl; ends = refl }

pub returns-in-SetReg-clause-keeps : goal.returns-in-SetReg-clause-keeps
returns-in-SetReg-clause-keeps c = record { fixed = refl; core = refl; stim = refl; ends = refl }

pub returns-in-Start-clause-keeps : goal.returns-in-Start-clause-keeps
returns-in-Start-clause-keeps c = record { fixed = refl; core = refl; stim = refl; ends = refl }

pub returns-in-Join-clause-keeps : goal.returns-in-Join-clause-keeps
returns-in-Join-clause-keeps c = record { fixed = refl; core = refl; stim = refl; ends = refl }

pub returns-in-Wait-clause-keeps : goal.returns-in-Wait-clause-keeps
returns-in-Wait-clause-keeps c = record { fixed = refl; core = refl; stim = refl; ends = refl }

pub returns-in-End-clause-keeps : goal.returns-in-End-clause-keeps
returns-in-End-clause-keeps c = record { fixed = refl; core = refl; stim = refl; ends = refl }

pub returns-in-Hold-clause-keeps : goal.returns-in-Hold-clause-keeps
returns-in-Hold-clause-keeps c = record { fixed = refl; core = refl; stim = refl; ends = refl }

pub returns-in-GiveBack-clause-keeps : goal.returns-in-GiveBack-clause-keeps
returns-in-GiveBack-clause-keeps c = record { fixed = refl; core = refl; stim = refl; ends = refl }
