-- Synchronisers and locks as what a core has of them.
use Rattle.std.specs.Prelude.{◌≡◌, ℕ, Bool, true, false, List, [], ◌∷◌, Some, None, refl}
use Rattle.xs_instr.specs.declared.instr.GetKind.TheVariants.{Sync as GetSync, Lock as GetLock}
use Rattle.xs_instr.specs.declared.instr.Instr.TheVariants.{Getr, Freer, Out, In}
use Rattle.xs_instr.specs.declared.instr.Reg.TheVariants.{R0, R1, R2}
use Rattle.xs_instr.specs.declared.state.CoreState.{CoreState}
use Rattle.xs_instr.specs.declared.state.Lock.{Lock}
use Rattle.xs_instr.specs.declared.state.Mode.TheVariants.{Waiting}
use Rattle.xs_instr.specs.declared.state.Regs.{Regs}
use Rattle.xs_instr.specs.declared.trace.Trap.TheVariants.{Resource}
use Rattle.xs_instr.specs.Did.{makes, Paused, Traps}
use Rattle.xt_rows.proofs.Sample.{comes_of, lock_0, lock_1, running, sample, sync_0, sync_1, thread_1, three}

-- thread 0 at an index with these registers, which synchronisers are taken, and the locks
abbrev pool : ℕ → Regs → List Bool → List Lock → CoreState
pool pc regs syncs locks = record sample { threads = running pc regs ∷ []; syncs = syncs; locks = locks }

-- a lock that is not taken
abbrev free : Lock
free = record { taken = false; holder = None }

-- a lock that nobody holds
abbrev idle : Lock
idle = record { taken = true; holder = None }

-- a lock that a thread holds
abbrev held_by : ℕ → Lock
held_by t = record { taken = true; holder = Some t }

-- GETR: the least free one

getr-sync :
    comes_of (Getr R0 GetSync) (pool 2 (three 7 5 1) (true ∷ false ∷ false ∷ []) [])
    ≡ makes (pool 3 (three sync_1 5 1) (true ∷ true ∷ false ∷ []) [])
getr-sync = refl

getr-sync-none :
    comes_of (Getr R0 GetSync) (pool 2 (three 7 5 1) (true ∷ true ∷ []) [])
    ≡ makes (pool 3 (three 0 5 1) (true ∷ true ∷ []) [])
getr-sync-none = refl

getr-lock :
    comes_of (Getr R0 GetLock) (pool 2 (three 7 5 1) [] (idle ∷ free ∷ free ∷ []))
    ≡ makes (pool 3 (three lock_1 5 1) [] (idle ∷ idle ∷ free ∷ []))
getr-lock = refl

getr-lock-none :
    comes_of (Getr R0 GetLock) (pool 2 (three 7 5 1) [] (idle ∷ held_by 3 ∷ []))
    ≡ makes (pool 3 (three 0 5 1) [] (idle ∷ held_by 3 ∷ []))
getr-lock-none = refl

-- FREER

freer-sync :
    comes_of (Freer R1) (pool 2 (three 7 sync_1 1) (true ∷ true ∷ []) [])
    ≡ makes (pool 3 (three 7 sync_1 1) (true ∷ false ∷ []) [])
freer-sync = refl

freer-sync-free : comes_of (Freer R1) (pool 2 (three 7 sync_1 1) (true ∷ false ∷ []) []) ≡ Traps Resource
freer-sync-free = refl

freer-sync-tied :
    comes_of (Freer R1) (record sample { threads = running 2 (three 7 sync_0 1) ∷ record (running 0 (three 0 0 0)) { mode = Waiting; tie = Some 0 } ∷ []; syncs = true ∷ [] })
    ≡ Traps Resource
freer-sync-tied = refl

freer-lock : comes_of (Freer R1) (pool 2 (three 7 lock_1 1) [] (idle ∷ idle ∷ [])) ≡ makes (pool 3 (three 7 lock_1 1) [] (idle ∷ free ∷ []))
freer-lock = refl

freer-lock-held : comes_of (Freer R1) (pool 2 (three 7 lock_0 1) [] (held_by 0 ∷ [])) ≡ Traps Resource
freer-lock-held = refl

freer-lock-free : comes_of (Freer R1) (pool 2 (three 7 lock_1 1) [] (idle ∷ free ∷ [])) ≡ Traps Resource
freer-lock-free = refl

-- neither of the two, or one of core 0

freer-thread : comes_of (Freer R1) (pool 2 (three 7 thread_1 1) (true ∷ true ∷ []) (idle ∷ idle ∷ [])) ≡ Traps Resource
freer-thread = refl

freer-elsewhere : comes_of (Freer R1) (pool 2 (three 7 3 1) (true ∷ true ∷ []) (idle ∷ idle ∷ [])) ≡ Traps Resource
freer-elsewhere = refl

-- IN and OUT on a lock

in-lock :
    comes_of (In R0 R1) (pool 2 (three 7 lock_1 1) [] (free ∷ idle ∷ []))
    ≡ makes (pool 3 (three lock_1 lock_1 1) [] (free ∷ held_by 0 ∷ []))
in-lock = refl

in-lock-held : comes_of (In R0 R1) (pool 2 (three 7 lock_0 1) [] (held_by 3 ∷ [])) ≡ Paused
in-lock-held = refl

in-lock-own : comes_of (In R0 R1) (pool 2 (three 7 lock_0 1) [] (held_by 0 ∷ [])) ≡ Paused
in-lock-own = refl

in-lock-free : comes_of (In R0 R1) (pool 2 (three 7 lock_0 1) [] (free ∷ [])) ≡ Traps Resource
in-lock-free = refl

out-lock : comes_of (Out R1 R2) (pool 2 (three 7 lock_0 1) [] (held_by 0 ∷ [])) ≡ makes (pool 3 (three 7 lock_0 1) [] (idle ∷ []))
out-lock = refl

out-lock-other : comes_of (Out R1 R2) (pool 2 (three 7 lock_0 1) [] (held_by 3 ∷ [])) ≡ Traps Resource
out-lock-other = refl

out-lock-nobody : comes_of (Out R1 R2) (pool 2 (three 7 lock_0 1) [] (idle ∷ [])) ≡ Traps Resource
out-lock-nobody = refl

out-lock-free : comes_of (Out R1 R2) (pool 2 (three 7 lock_0 1) [] (free ∷ [])) ≡ Traps Resource
out-lock-free = refl

-- IN and OUT on a synchroniser

in-sync : comes_of (In R0 R1) (pool 2 (three 7 sync_0 1) (true ∷ []) []) ≡ Traps Resource
in-sync = refl

out-sync : comes_of (Out R1 R2) (pool 2 (three 7 sync_0 1) (true ∷ []) []) ≡ Traps Resource
out-sync = refl
