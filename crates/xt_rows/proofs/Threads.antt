-- Threads that are made, started and joined.
use Rattle.std.specs.Prelude.{◌≡◌, ℕ, true, false, List, [], ◌∷◌, Some, None, refl}
use Rattle.xs_instr.specs.declared.instr.Instr.TheVariants.{Getst, Tinitpc, Tinitdp, Tinitsp, Msync, Ssync, Mjoin, Freet}
use Rattle.xs_instr.specs.declared.instr.Reg.TheVariants.{R0, R1, R2}
use Rattle.xs_instr.specs.declared.state.CoreState.{CoreState}
use Rattle.xs_instr.specs.declared.state.Mode.{Mode}
use Rattle.xs_instr.specs.declared.state.Mode.TheVariants.{Unused, Waiting, Running, Trapped}
use Rattle.xs_instr.specs.declared.state.Regs.{Regs}
use Rattle.xs_instr.specs.declared.state.Thread.{Thread}
use Rattle.xs_instr.specs.declared.trace.Trap.TheVariants.{Resource}
use Rattle.xs_instr.specs.Did.{makes, Paused, Traps}
use Rattle.xs_instr.specs.Registers.{no_regs}
use Rattle.xt_rows.proofs.Sample.{comes_of, lock_0, running, sample, sync_0, sync_1, thread_1, three}

-- these threads, where synchroniser 0 is taken and synchroniser 1 isn't
abbrev threads : List Thread → CoreState
threads all = record sample { threads = all; syncs = true ∷ false ∷ [] }

-- a thread that is tied to synchroniser 0
abbrev child : Mode → ℕ → Regs → Thread
child mode pc regs = record { mode = mode; pc = pc; regs = regs; event_bit = false; tie = Some 0 }

-- a thread that has ended, and that left its event bit
abbrev ended : Thread
ended = record { mode = Unused; pc = 9; regs = three 1 2 3; event_bit = true; tie = None }

-- the same, as it waits once it was got
abbrev got : Thread
got = record { mode = Waiting; pc = 0; regs = no_regs; event_bit = true; tie = Some 0 }

-- a child that was joined
abbrev joined : ℕ → Thread
joined pc = record { mode = Unused; pc = pc; regs = three 1 2 3; event_bit = false; tie = None }

-- GETST: the least unused thread, with registers and index 0; its event bit stays

getst :
    comes_of (Getst R0 R1) (threads (running 2 (three 7 sync_0 1) ∷ ended ∷ ended ∷ []))
    ≡ makes (threads (running 3 (three thread_1 sync_0 1) ∷ got ∷ ended ∷ []))
getst = refl

getst-least :
    comes_of (Getst R0 R1) (threads (running 2 (three 7 sync_0 1) ∷ child Running 4 (three 1 2 3) ∷ ended ∷ []))
    ≡ makes (threads (running 3 (three 16777732 sync_0 1) ∷ child Running 4 (three 1 2 3) ∷ got ∷ []))
getst-least = refl

getst-none :
    comes_of (Getst R0 R1) (threads (running 2 (three 7 sync_0 1) ∷ child Trapped 4 (three 1 2 3) ∷ []))
    ≡ makes (threads (running 3 (three 0 sync_0 1) ∷ child Trapped 4 (three 1 2 3) ∷ []))
getst-none = refl

getst-free : comes_of (Getst R0 R1) (threads (running 2 (three 7 sync_1 1) ∷ ended ∷ [])) ≡ Traps Resource
getst-free = refl

getst-lock : comes_of (Getst R0 R1) (threads (running 2 (three 7 lock_0 1) ∷ ended ∷ [])) ≡ Traps Resource
getst-lock = refl

-- TINITPC, TINITDP, TINITSP: of a waiting thread alone

tinitpc :
    comes_of (Tinitpc R1 1) (threads (running 2 (three 7 thread_1 9) ∷ child Waiting 4 (three 1 2 3) ∷ []))
    ≡ makes (threads (running 3 (three 7 thread_1 9) ∷ child Waiting 1 (three 1 2 3) ∷ []))
tinitpc = refl

tinitpc-running : comes_of (Tinitpc R1 1) (threads (running 2 (three 7 thread_1 9) ∷ child Running 4 (three 1 2 3) ∷ [])) ≡ Traps Resource
tinitpc-running = refl

tinitpc-unused : comes_of (Tinitpc R1 1) (threads (running 2 (three 7 thread_1 9) ∷ ended ∷ [])) ≡ Traps Resource
tinitpc-unused = refl

tinitpc-trapped : comes_of (Tinitpc R1 1) (threads (running 2 (three 7 thread_1 9) ∷ child Trapped 4 (three 1 2 3) ∷ [])) ≡ Traps Resource
tinitpc-trapped = refl

tinitpc-sync : comes_of (Tinitpc R1 1) (threads (running 2 (three 7 sync_0 1) ∷ child Waiting 4 (three 1 2 3) ∷ [])) ≡ Traps Resource
tinitpc-sync = refl

tinitdp :
    comes_of (Tinitdp R1 R2) (threads (running 2 (three 7 thread_1 9) ∷ child Waiting 4 (three 1 2 3) ∷ []))
    ≡ makes (threads (running 3 (three 7 thread_1 9) ∷ child Waiting 4 (record (three 1 2 3) { dp = 9 }) ∷ []))
tinitdp = refl

tinitdp-running : comes_of (Tinitdp R1 R2) (threads (running 2 (three 7 thread_1 9) ∷ child Running 4 (three 1 2 3) ∷ [])) ≡ Traps Resource
tinitdp-running = refl

tinitdp-sync : comes_of (Tinitdp R1 R2) (threads (running 2 (three 7 sync_0 1) ∷ child Waiting 4 (three 1 2 3) ∷ [])) ≡ Traps Resource
tinitdp-sync = refl

tinitsp :
    comes_of (Tinitsp R1 R2) (threads (running 2 (three 7 thread_1 9) ∷ child Waiting 4 (three 1 2 3) ∷ []))
    ≡ makes (threads (running 3 (three 7 thread_1 9) ∷ child Waiting 4 (record (three 1 2 3) { sp = 9 }) ∷ []))
tinitsp = refl

tinitsp-running : comes_of (Tinitsp R1 R2) (threads (running 2 (three 7 thread_1 9) ∷ child Running 4 (three 1 2 3) ∷ [])) ≡ Traps Resource
tinitsp-running = refl

tinitsp-sync : comes_of (Tinitsp R1 R2) (threads (running 2 (three 7 sync_0 1) ∷ child Waiting 4 (three 1 2 3) ∷ [])) ≡ Traps Resource
tinitsp-sync = refl

-- MSYNC: once all that are tied wait, they run

msync :
    comes_of (Msync R1) (threads (running 2 (three 7 sync_0 1) ∷ child Waiting 4 (three 1 2 3) ∷ ended ∷ child Waiting 8 (three 1 2 3) ∷ []))
    ≡ makes (threads (running 3 (three 7 sync_0 1) ∷ child Running 4 (three 1 2 3) ∷ ended ∷ child Running 8 (three 1 2 3) ∷ []))
msync = refl

msync-none :
    comes_of (Msync R1) (threads (running 2 (three 7 sync_0 1) ∷ ended ∷ []))
    ≡ makes (threads (running 3 (three 7 sync_0 1) ∷ ended ∷ []))
msync-none = refl

msync-early :
    comes_of (Msync R1) (threads (running 2 (three 7 sync_0 1) ∷ child Waiting 4 (three 1 2 3) ∷ child Running 4 (three 1 2 3) ∷ []))
    ≡ Paused
msync-early = refl

msync-own : comes_of (Msync R1) (threads (child Running 2 (three 7 sync_0 1) ∷ child Waiting 4 (three 1 2 3) ∷ [])) ≡ Paused
msync-own = refl

msync-free : comes_of (Msync R1) (threads (running 2 (three 7 sync_1 1) ∷ child Waiting 4 (three 1 2 3) ∷ [])) ≡ Traps Resource
msync-free = refl

-- SSYNC

ssync : comes_of Ssync (threads (child Running 2 (three 7 sync_0 1) ∷ [])) ≡ makes (threads (child Waiting 3 (three 7 sync_0 1) ∷ []))
ssync = refl

ssync-untied : comes_of Ssync (threads (running 2 (three 7 sync_0 1) ∷ [])) ≡ Traps Resource
ssync-untied = refl

-- MJOIN: once all that are tied wait, they are unused

mjoin :
    comes_of (Mjoin R1) (threads (running 2 (three 7 sync_0 1) ∷ child Waiting 4 (three 1 2 3) ∷ ended ∷ child Waiting 8 (three 1 2 3) ∷ []))
    ≡ makes (threads (running 3 (three 7 sync_0 1) ∷ joined 4 ∷ ended ∷ joined 8 ∷ []))
mjoin = refl

mjoin-none :
    comes_of (Mjoin R1) (threads (running 2 (three 7 sync_0 1) ∷ ended ∷ []))
    ≡ makes (threads (running 3 (three 7 sync_0 1) ∷ ended ∷ []))
mjoin-none = refl

mjoin-early :
    comes_of (Mjoin R1) (threads (running 2 (three 7 sync_0 1) ∷ child Waiting 4 (three 1 2 3) ∷ child Running 4 (three 1 2 3) ∷ []))
    ≡ Paused
mjoin-early = refl

mjoin-trapped : comes_of (Mjoin R1) (threads (running 2 (three 7 sync_0 1) ∷ child Trapped 4 (three 1 2 3) ∷ [])) ≡ Paused
mjoin-trapped = refl

mjoin-free : comes_of (Mjoin R1) (threads (running 2 (three 7 sync_1 1) ∷ child Waiting 4 (three 1 2 3) ∷ [])) ≡ Traps Resource
mjoin-free = refl

-- FREET: a root has ended

freet :
    comes_of Freet (threads (running 2 (three 7 sync_0 1) ∷ []))
    ≡ makes (record (threads (record (running 3 (three 7 sync_0 1)) { mode = Unused } ∷ [])) { roots = 0 })
freet = refl

freet-tied : comes_of Freet (threads (child Running 2 (three 7 sync_0 1) ∷ [])) ≡ Traps Resource
freet-tied = refl
