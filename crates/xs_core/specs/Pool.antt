-- What a thread does with threads, synchronisers and locks.
use Rattle.std.specs.Prelude.{◌≡◌, ◌<◌, ℕ, Bool, true, false, None, length}
use Rattle.xs_core.specs.declared.pool_rows.PoolStep.{PoolStep}
use Rattle.xs_core.specs.declared.pool_rows.PoolStep.TheVariants.{GetSync, GetLock, GetThread, FreeSync, FreeLock, SetPc, SetReg, Start, Join, Wait, End, Hold, GiveBack}
use Rattle.xs_core.specs.Seen.{lock_at, thread_at}
use Rattle.xs_instr.specs.declared.image.Home.{Home}
use Rattle.xs_instr.specs.declared.instr.GetKind.TheVariants.{Sync as KindSync, Lock as KindLock}
use Rattle.xs_instr.specs.declared.state.CoreState.{CoreState}
use Rattle.xs_instr.specs.declared.state.Thread.{Thread}
use Rattle.xs_instr.specs.Did.{Did, map_did}
use Rattle.xs_instr.specs.Pool.{all_wait, is_waiting, joined, prepared, some_tied, synced, thread_got, with_pc, with_reg}
use Rattle.xs_instr.specs.Resources.{ALock, ASync, AThread, is_num, on_sync, on_thread}
use Rattle.xs_instr.specs.Rows.{end_row, free_row, get_row, gets_with, goes_with, in_row, out_row, put_threads, wait_row}
use Rattle.xs_instr.specs.Slot.{is_there}
use Rattle.xs_pool.specs.Taken.{taken_at}

-- the row of a step, for the thread, synchroniser or lock of that number
abbrev pub pool_did : Home → CoreState → ℕ → Thread → PoolStep → Did CoreState
pool_did home core t x (GetSync d) = get_row home core t x d KindSync
pool_did home core t x (GetLock d) = get_row home core t x d KindLock
pool_did home core t x (GetThread d n) =
    map_did (gets_with put_threads core t x d) (on_sync core (thread_got home.number core.threads) (ASync n))
pool_did home core t x (FreeSync n) = free_row core t x (ASync n)
pool_did home core t x (FreeLock n) = free_row core t x (ALock n)
pool_did home core t x (SetPc n k) =
    map_did (goes_with put_threads core t x) (on_thread core (prepared (with_pc k) core.threads) (AThread n))
pool_did home core t x (SetReg n r v) =
    map_did (goes_with put_threads core t x) (on_thread core (prepared (with_reg r v) core.threads) (AThread n))
pool_did home core t x (Start n) = map_did (goes_with put_threads core t x) (on_sync core (synced core.threads) (ASync n))
pool_did home core t x (Join n) = map_did (goes_with put_threads core t x) (on_sync core (joined core.threads) (ASync n))
pool_did home core t x Wait = wait_row core t x x.tie
pool_did home core t x End = end_row core t x x.tie
pool_did home core t x (Hold d n name) = in_row home core t x d name (ALock n)
pool_did home core t x (GiveBack n) = out_row home core t x 0 (ALock n)

-- the synchroniser is taken
abbrev pub sync_is_taken : CoreState → ℕ → Bool
sync_is_taken core n = taken_at core.syncs n

-- the lock is taken and nobody holds it
pub record IsUnheld (core : CoreState) (n : ℕ) : Type 0 where
  pub there : n < length core.locks
  pub taken : (lock_at core.locks n).taken ≡ true
  pub holder : (lock_at core.locks n).holder ≡ None

-- the lock is taken, and thread t holds it
pub record IsHeldBy (core : CoreState) (t n : ℕ) : Type 0 where
  pub there : n < length core.locks
  pub taken : (lock_at core.locks n).taken ≡ true
  pub holder : is_num (lock_at core.locks n).holder t ≡ true

-- the thread is there and waits
pub record IsWaiting (core : CoreState) (n : ℕ) : Type 0 where
  pub there : n < length core.threads
  pub waits : is_waiting (thread_at core.threads n).mode ≡ true

-- what the step needs is there, so that it neither pauses nor traps
abbrev pub PoolFits : CoreState → ℕ → Thread → PoolStep → Type 0
PoolFits core t x (GetSync d) = Unit {0}
PoolFits core t x (GetLock d) = Unit {0}
PoolFits core t x (GetThread d n) = sync_is_taken core n ≡ true
PoolFits core t x (FreeSync n) = (sync_is_taken core n ≡ true) × (some_tied core.threads n ≡ false)
PoolFits core t x (FreeLock n) = IsUnheld core n
PoolFits core t x (SetPc n k) = IsWaiting core n
PoolFits core t x (SetReg n r v) = IsWaiting core n
PoolFits core t x (Start n) = (sync_is_taken core n ≡ true) × (all_wait core.threads n ≡ true)
PoolFits core t x (Join n) = (sync_is_taken core n ≡ true) × (all_wait core.threads n ≡ true)
PoolFits core t x Wait = is_there x.tie ≡ true
PoolFits core t x End = x.tie ≡ None
PoolFits core t x (Hold d n name) = IsUnheld core n
PoolFits core t x (GiveBack n) = IsHeldBy core t n
