-- The steps of threads, synchronisers and locks, from what fits to what is made.
use Rattle.std.proofs.Common.{◌≡◌, ◌<◌, ◌-◌, ℕ, Bool, true, false, List, Option, Some, None, length, refl, sym, ap, ◌∙◌, subst}
use Rattle.std.specs.Bool.{OnTrue}
use Rattle.std.specs.Prelude.{slice_get, slice_set}
use Rattle.xs_core.proofs.EndRows.{next, next_with}
use Rattle.xs_core.proofs.There.{there}
use Rattle.xs_core.specs.declared.pool_rows.PoolStep.{PoolStep}
use Rattle.xs_core.specs.declared.pool_rows.PoolStep.TheVariants.{GetSync, GetLock, GetThread, FreeSync, FreeLock, SetPc, SetReg, Start, Join, Wait, End, Hold, GiveBack}
use Rattle.xs_core.specs.declared.state.State.{State}
use Rattle.xs_core.specs.Pool.{IsWaiting, PoolFits, pool_did}
use Rattle.xs_core.specs.Seen.{home_of, state_of, lock_at, thread_at}
use Rattle.xs_core.specs.SlotResults.{IsMade}
use Rattle.xs_instr.specs.declared.instr.Reg.{Reg}
use Rattle.xs_instr.specs.declared.state.CoreState.{CoreState}
use Rattle.xs_instr.specs.declared.state.Lock.{Lock}
use Rattle.xs_instr.specs.declared.state.Mode.TheVariants.{Unused, Waiting}
use Rattle.xs_instr.specs.declared.state.Thread.{Thread}
use Rattle.xs_instr.specs.Did.{Did, makes, map_did}
use Rattle.xs_instr.specs.Machine.{unused_thread}
use Rattle.xs_instr.specs.Pool.{all_joined, all_started, first_free, held_by_none, joined, joined_when, lock_free, lock_freed, lock_freed_by, lock_given, lock_given_by, lock_got, lock_held, lock_held_by, lock_there, locks_taken, prepared, prepared_by, sync_freed, sync_freed_by, sync_got, synced, synced_by, thread_got, thread_got_by, threads_taken, where_lock, with_pc, with_reg}
use Rattle.xs_instr.specs.Resources.{usable, where_taken}
use Rattle.xs_instr.specs.Rows.{end_row, gets_with, goes_with, put_locks, put_syncs, put_threads, wait_row}
use Rattle.xs_instr.specs.Slot.{is_there}
use Rattle.xs_pool.specs.declared.pool.Pool.{Pool}
use Rattle.xs_pool.specs.declared.pool.PoolKind.TheVariants.{Sync}
use Rattle.xs_pool.specs.Taken.{taken_at, there_and_taken, with_taken}

-- the step makes that, where it is that step
as_step : (s : State) (t : ℕ) (new : CoreState) (step is_step : PoolStep) → step ≡ is_step → IsMade (pool_did (home_of s) (state_of s) t (thread_at s.threads t) is_step) new None → IsMade (pool_did (home_of s) (state_of s) t (thread_at s.threads t) step) new None
as_step s t new step is_step is h =
    subst (λ k. IsMade (pool_did (home_of s) (state_of s) t (thread_at s.threads t) k) new None) (sym is) h

-- a change that is made is told of the core
pub told_made : {A : Type 0} (put : A → CoreState) (did : Did A) (left : A) (new : CoreState) → did ≡ makes left → new ≡ put left → IsMade (map_did put did) new None
told_made put did left new is e = subst (λ d. IsMade (map_did put d) new None) (sym is) (e, refl, refl)

lock_is : {A : Type 0} (go : Lock → Did A) (locks : List Lock) (n : ℕ) → n < length locks → (lock_at locks n).taken ≡ true → lock_there go (slice_get locks n) ≡ go (lock_at locks n)
lock_is go locks n lt taken = ap (lock_there go) (there locks n lock_free lt) ∙ ap (where_lock go (lock_at locks n)) taken

-- a lock is free again
pub lock_freed_made : (s : State) (t n : ℕ) (step : PoolStep) (threads : List Thread) (lock : Lock) → step ≡ FreeLock n → PoolFits (state_of s) t (thread_at s.threads t) step → lock ≡ lock_free → threads ≡ slice_set s.threads t (next (thread_at s.threads t)) → IsMade (pool_did (home_of s) (state_of s) t (thread_at s.threads t) step) (state_of (record s { threads = threads; locks = slice_set s.locks n lock })) None
lock_freed_made s t n step threads lock is fits free set =
    let fit : PoolFits (state_of s) t (thread_at s.threads t) (FreeLock n) = subst (PoolFits (state_of s) t (thread_at s.threads t)) is fits in
    as_step s t _ step (FreeLock n) is
    (told_made (goes_with put_locks (state_of s) t (thread_at s.threads t)) _ (slice_set s.locks n lock_free) _
    (lock_is (lock_freed s.locks n) s.locks n fit.there fit.taken ∙ ap (lock_freed_by s.locks n) fit.holder)
    (ap (λ l. state_of (record s { threads = threads; locks = slice_set s.locks n l })) free ∙ ap (λ l. state_of (record s { threads = l; locks = slice_set s.locks n lock_free })) set))

-- a lock is given back
pub lock_given_made : (s : State) (t n : ℕ) (step : PoolStep) (threads : List Thread) (lock : Lock) → step ≡ GiveBack n → PoolFits (state_of s) t (thread_at s.threads t) step → lock ≡ held_by_none → threads ≡ slice_set s.threads t (next (thread_at s.threads t)) → IsMade (pool_did (home_of s) (state_of s) t (thread_at s.threads t) step) (state_of (record s { threads = threads; locks = slice_set s.locks n lock })) None
lock_given_made s t n step threads lock is fits free set =
    let fit : PoolFits (state_of s) t (thread_at s.threads t) (GiveBack n) = subst (PoolFits (state_of s) t (thread_at s.threads t)) is fits in
    as_step s t _ step (GiveBack n) is
    (told_made (goes_with put_locks (state_of s) t (thread_at s.threads t)) _ (slice_set s.locks n held_by_none) _
    (lock_is (lock_given s.locks t n) s.locks n fit.there fit.taken ∙ ap (lock_given_by s.locks n) fit.holder)
    (ap (λ l. state_of (record s { threads = threads; locks = slice_set s.locks n l })) free ∙ ap (λ l. state_of (record s { threads = l; locks = slice_set s.locks n held_by_none })) set))

-- a waiting thread is changed
thread_set : (s : State) (t n : ℕ) (change : Thread → Thread) (threads : List Thread) (changed : Thread) → IsWaiting (state_of s) n → changed ≡ change (thread_at s.threads n) → threads ≡ slice_set (slice_set s.threads n changed) t (next (thread_at s.threads t)) → IsMade (map_did (goes_with put_threads (state_of s) t (thread_at s.threads t)) (usable (prepared change s.threads n) (slice_get s.threads n))) (state_of (record s { threads = threads })) None
thread_set s t n change threads changed fit to set =
    told_made (goes_with put_threads (state_of s) t (thread_at s.threads t)) _ (slice_set s.threads n (change (thread_at s.threads n))) _
    (ap (usable (prepared change s.threads n)) (there s.threads n unused_thread fit.there) ∙ ap (prepared_by change s.threads n (thread_at s.threads n)) fit.waits)
    (ap (λ l. state_of (record s { threads = l })) (set ∙ ap (λ y. slice_set (slice_set s.threads n y) t (next (thread_at s.threads t))) to))

pub pc_set_made : (s : State) (t n k : ℕ) (step : PoolStep) (threads : List Thread) → step ≡ SetPc n k → PoolFits (state_of s) t (thread_at s.threads t) step → threads ≡ slice_set (slice_set s.threads n (with_pc k (thread_at s.threads n))) t (next (thread_at s.threads t)) → IsMade (pool_did (home_of s) (state_of s) t (thread_at s.threads t) step) (state_of (record s { threads = threads })) None
pc_set_made s t n k step threads is fits set =
    let fit : PoolFits (state_of s) t (thread_at s.threads t) (SetPc n k) = subst (PoolFits (state_of s) t (thread_at s.threads t)) is fits in
    as_step s t _ step (SetPc n k) is (thread_set s t n (with_pc k) threads _ fit refl set)

pub reg_set_made : (s : State) (t n v : ℕ) (r : Reg) (step : PoolStep) (threads : List Thread) (changed : Thread) → step ≡ SetReg n r v → PoolFits (state_of s) t (thread_at s.threads t) step → changed ≡ with_reg r v (thread_at s.threads n) → threads ≡ slice_set (slice_set s.threads n changed) t (next (thread_at s.threads t)) → IsMade (pool_did (home_of s) (state_of s) t (thread_at s.threads t) step) (state_of (record s { threads = threads })) None
reg_set_made s t n v r step threads changed is fits to set =
    let fit : PoolFits (state_of s) t (thread_at s.threads t) (SetReg n r v) = subst (PoolFits (state_of s) t (thread_at s.threads t)) is fits in
    as_step s t _ step (SetReg n r v) is (thread_set s t n (with_reg r v) threads changed fit to set)

-- a synchroniser is taken, where one is free, and a register gets its name
pub sync_got_made : (s : State) (t core v : ℕ) (d : Reg) (step : PoolStep) (threads : List Thread) (pool : Pool) → step ≡ GetSync d →
    core ≡ s.ports.core → record { left = pool.syncs; value = v } ≡ sync_got core s.pool.syncs (first_free s.pool.syncs 0) →
    threads ≡ slice_set s.threads t (next_with d v (thread_at s.threads t)) →
    IsMade (pool_did (home_of s) (state_of s) t (thread_at s.threads t) step) (state_of (record s { threads = threads; pool = pool })) None
sync_got_made s t core v d step threads pool is at got set =
    as_step s t _ step (GetSync d) is (
      ap (λ l. state_of (record s { threads = l; pool = pool })) set
          ∙ ap (gets_with put_syncs (state_of s) t (thread_at s.threads t) d) (got ∙ ap (λ k. sync_got k s.pool.syncs (first_free s.pool.syncs 0)) at),
      refl,
      refl,
    )

-- so is a lock
pub lock_got_made : (s : State) (t core v : ℕ) (d : Reg) (step : PoolStep) (threads : List Thread) (locks : List Lock) → step ≡ GetLock d →
    core ≡ s.ports.core → record { left = locks; value = v } ≡ lock_got core s.locks (first_free (locks_taken s.locks) 0) →
    threads ≡ slice_set s.threads t (next_with d v (thread_at s.threads t)) →
    IsMade (pool_did (home_of s) (state_of s) t (thread_at s.threads t) step) (state_of (record s { threads = threads; locks = locks })) None
lock_got_made s t core v d step threads locks is at got set =
    as_step s t _ step (GetLock d) is (
      ap (λ l. state_of (record s { threads = l; locks = locks })) set
          ∙ ap (gets_with put_locks (state_of s) t (thread_at s.threads t) d) (got ∙ ap (λ k. lock_got k s.locks (first_free (locks_taken s.locks) 0)) at),
      refl,
      refl,
    )

-- what is done with a synchroniser that is taken
taken_goes : {B : Type 0} (did : Did B) (o : Option Bool) → there_and_taken o ≡ true → where_taken did o ≡ did
taken_goes did None h = cc
taken_goes did (Some false) h = cc
taken_goes did (Some true) h = refl

-- a thread is tied to a synchroniser, where one is unused, and a register gets its name
pub thread_got_made : (s : State) (t core v n : ℕ) (d : Reg) (step : PoolStep) (tied threads : List Thread) → step ≡ GetThread d n →
    PoolFits (state_of s) t (thread_at s.threads t) step → core ≡ s.ports.core →
    record { left = tied; value = v } ≡ thread_got_by core s.threads n (first_free (threads_taken s.threads) 0) →
    threads ≡ slice_set tied t (next_with d v (thread_at s.threads t)) →
    IsMade (pool_did (home_of s) (state_of s) t (thread_at s.threads t) step) (state_of (record s { threads = threads })) None
thread_got_made s t core v n d step tied threads is fits at got set =
    let fit : PoolFits (state_of s) t (thread_at s.threads t) (GetThread d n) = subst (PoolFits (state_of s) t (thread_at s.threads t)) is fits in
    as_step s t _ step (GetThread d n) is
    (told_made (gets_with put_threads (state_of s) t (thread_at s.threads t) d) _
    (thread_got_by s.ports.core s.threads n (first_free (threads_taken s.threads) 0)) _
    (taken_goes (thread_got s.ports.core s.threads n) (slice_get s.pool.syncs n) fit)
    (ap (λ l. state_of (record s { threads = l })) set
    ∙ ap (gets_with put_threads (state_of s) t (thread_at s.threads t) d)
    (got ∙ ap (λ k. thread_got_by k s.threads n (first_free (threads_taken s.threads) 0)) at)))

-- a synchroniser is free again
pub sync_freed_made : (s : State) (t n : ℕ) (step : PoolStep) (threads : List Thread) (pool : Pool) (gone : Bool) → step ≡ FreeSync n →
    PoolFits (state_of s) t (thread_at s.threads t) step → gone ≡ taken_at s.pool.syncs n → OnTrue gone (pool ≡ with_taken s.pool Sync n false) →
    threads ≡ slice_set s.threads t (next (thread_at s.threads t)) →
    IsMade (pool_did (home_of s) (state_of s) t (thread_at s.threads t) step) (state_of (record s { threads = threads; pool = pool })) None
sync_freed_made s t n step threads pool gone is fits was freed set =
    let fit : PoolFits (state_of s) t (thread_at s.threads t) (FreeSync n) = subst (PoolFits (state_of s) t (thread_at s.threads t)) is fits in
    let free : pool ≡ with_taken s.pool Sync n false = subst (λ b. OnTrue b (pool ≡ with_taken s.pool Sync n false)) (was ∙ fit.0) freed in
    as_step s t _ step (FreeSync n) is
    (told_made (goes_with put_syncs (state_of s) t (thread_at s.threads t)) _ (slice_set s.pool.syncs n false) _
    (taken_goes (sync_freed s.threads s.pool.syncs n) (slice_get s.pool.syncs n) fit.0 ∙ ap (sync_freed_by s.pool.syncs n) fit.1)
    (ap (λ l. state_of (record s { threads = l; pool = pool })) set ∙ ap
    (λ (p : Pool). state_of (record s { threads = slice_set s.threads t (next (thread_at s.threads t)); pool = p })) free))

-- all threads are changed at once, and thread t goes on
all_set : (s : State) (t n : ℕ) (did : Did (List Thread)) (left changed threads : List Thread) → there_and_taken (slice_get s.pool.syncs n) ≡ true →
    did ≡ makes left → changed ≡ left → threads ≡ slice_set changed t (next (thread_at s.threads t)) →
    IsMade (map_did (goes_with put_threads (state_of s) t (thread_at s.threads t)) (where_taken did (slice_get s.pool.syncs n)))
    (state_of (record s { threads = threads })) None
all_set s t n did left changed threads taken is to set =
    told_made (goes_with put_threads (state_of s) t (thread_at s.threads t)) _ left _
    (taken_goes did (slice_get s.pool.syncs n) taken ∙ is)
    (ap (λ l. state_of (record s { threads = l })) (set ∙ ap (λ l. slice_set l t (next (thread_at s.threads t))) to))

-- a synchroniser's threads run
pub all_started_made : (s : State) (t n : ℕ) (step : PoolStep) (changed threads : List Thread) → step ≡ Start n →
    PoolFits (state_of s) t (thread_at s.threads t) step → changed ≡ all_started s.threads n →
    threads ≡ slice_set changed t (next (thread_at s.threads t)) →
    IsMade (pool_did (home_of s) (state_of s) t (thread_at s.threads t) step) (state_of (record s { threads = threads })) None
all_started_made s t n step changed threads is fits to set =
    let fit : PoolFits (state_of s) t (thread_at s.threads t) (Start n) = subst (PoolFits (state_of s) t (thread_at s.threads t)) is fits in
    as_step s t _ step (Start n) is (all_set s t n (synced s.threads n) (all_started s.threads n) changed threads fit.0
    (ap (synced_by s.threads n) fit.1) to set)

-- they are unused again
pub all_joined_made : (s : State) (t n : ℕ) (step : PoolStep) (changed threads : List Thread) → step ≡ Join n →
    PoolFits (state_of s) t (thread_at s.threads t) step → changed ≡ all_joined s.threads n →
    threads ≡ slice_set changed t (next (thread_at s.threads t)) →
    IsMade (pool_did (home_of s) (state_of s) t (thread_at s.threads t) step) (state_of (record s { threads = threads })) None
all_joined_made s t n step changed threads is fits to set =
    let fit : PoolFits (state_of s) t (thread_at s.threads t) (Join n) = subst (PoolFits (state_of s) t (thread_at s.threads t)) is fits in
    as_step s t _ step (Join n) is (all_set s t n (joined s.threads n) (all_joined s.threads n) changed threads fit.0
    (ap (joined_when s.threads n) fit.1) to set)

-- a thread that is tied waits, for whichever synchroniser
waits_by : (s : State) (t : ℕ) (x : Thread) (threads : List Thread) (tie : Option ℕ) → is_there tie ≡ true →
    threads ≡ slice_set s.threads t (next (record x { mode = Waiting })) →
    IsMade (wait_row (state_of s) t x tie) (state_of (record s { threads = threads })) None
waits_by s t x threads None h set = cc
waits_by s t x threads (Some n) h set = (ap (λ l. state_of (record s { threads = l })) set, refl, refl)

-- the thread waits
pub wait_made : (s : State) (t : ℕ) (step : PoolStep) (waiting : Thread) (threads : List Thread) → step ≡ Wait →
    PoolFits (state_of s) t (thread_at s.threads t) step → waiting ≡ record (thread_at s.threads t) { mode = Waiting } →
    threads ≡ slice_set s.threads t (next waiting) → IsMade (pool_did (home_of s) (state_of s) t (thread_at s.threads t) step)
    (state_of (record s { threads = threads })) None
wait_made s t step waiting threads is fits to set =
    let fit : PoolFits (state_of s) t (thread_at s.threads t) Wait = subst (PoolFits (state_of s) t (thread_at s.threads t)) is fits in
    as_step s t _ step Wait is (waits_by s t (thread_at s.threads t) threads (thread_at s.threads t).tie fit
    (set ∙ ap (λ y. slice_set s.threads t (next y)) to))

-- the thread is unused, and a root has ended
pub end_made : (s : State) (t roots : ℕ) (step : PoolStep) (unused : Thread) (threads : List Thread) → step ≡ End →
    PoolFits (state_of s) t (thread_at s.threads t) step → unused ≡ record (thread_at s.threads t) { mode = Unused } →
    threads ≡ slice_set s.threads t (next unused) → roots ≡ s.roots - 1 →
    IsMade (pool_did (home_of s) (state_of s) t (thread_at s.threads t) step) (state_of (record s { roots = roots; threads = threads })) None
end_made s t roots step unused threads is fits to set fewer =
    let x = thread_at s.threads t in
    let fit : PoolFits (state_of s) t x End = subst (PoolFits (state_of s) t x) is fits in
    as_step s t _ step End is
    (subst (λ tie. IsMade (end_row (state_of s) t x tie) (state_of (record s { roots = roots; threads = threads })) None) (sym fit) (
      ap (λ l. state_of (record s { roots = roots; threads = l })) (set ∙ ap (λ y. slice_set s.threads t (next y)) to)
          ∙ ap (λ n. state_of (record s { roots = n; threads = slice_set s.threads t (next (record x { mode = Unused })) })) fewer,
      refl,
      refl,
    ))

-- a lock is held, and a register gets its name
pub lock_held_made : (s : State) (t n name : ℕ) (d : Reg) (step : PoolStep) (threads : List Thread) → step ≡ Hold d n name →
    PoolFits (state_of s) t (thread_at s.threads t) step → threads ≡ slice_set s.threads t (next_with d name (thread_at s.threads t)) →
    IsMade (pool_did (home_of s) (state_of s) t (thread_at s.threads t) step)
    (state_of (record s { threads = threads; locks = slice_set s.locks n (record (lock_at s.locks n) { holder = Some t }) })) None
lock_held_made s t n name d step threads is fits set =
    let fit : PoolFits (state_of s) t (thread_at s.threads t) (Hold d n name) = subst (PoolFits (state_of s) t (thread_at s.threads t)) is fits in
    as_step s t _ step (Hold d n name) is
    (told_made (gets_with put_locks (state_of s) t (thread_at s.threads t) d) _
    (record { left = slice_set s.locks n (record { taken = true; holder = Some t }); value = name }) _
    (lock_is (lock_held s.locks t name n) s.locks n fit.there fit.taken ∙ ap (lock_held_by s.locks t name n) fit.holder)
    (ap (λ l. state_of (record s { threads = l; locks = slice_set s.locks n (record (lock_at s.locks n) { holder = Some t }) })) set
    ∙ ap (λ b. state_of (record s {
      threads = slice_set s.threads t (next_with d name (thread_at s.threads t));
      locks = slice_set s.locks n
          (record { taken = b; holder = Some t });
    })) fit.taken))
