-- Turns without a row, and what a trap leaves.
use Rattle.std.specs.Prelude.{◌≡◌, true, false, refl}
use Rattle.xs_instr.specs.declared.instr.Instr.TheVariants.{Add, Ecallf}
use Rattle.xs_instr.specs.declared.instr.Reg.TheVariants.{R0, R1, R2}
use Rattle.xs_instr.specs.declared.state.Mode.TheVariants.{Unused, Waiting, Running, Trapped}
use Rattle.xs_instr.specs.declared.trace.Record.TheVariants.{Fault}
use Rattle.xs_instr.specs.declared.trace.Trap.TheVariants.{Index, Code}
use Rattle.xs_instr.specs.Did.{Idle, Paused, Traps}
use Rattle.xs_instr.specs.Slot.{fault_of, is_ready, slot, trapped}
use Rattle.xt_rows.proofs.Sample.{alone, comes_of, home, running, three}

-- past the code

turn-past : comes_of (Add R0 R1 R2) (alone (record (running 3 (three 7 5 1)) { mode = Running })) ≡ Traps Code
turn-past = refl

-- a thread that waits pauses; one that is unused or trapped has no turn, nor has one that isn't there

turn-waiting : comes_of (Add R0 R1 R2) (alone (record (running 2 (three 7 5 1)) { mode = Waiting })) ≡ Paused
turn-waiting = refl

turn-unused : comes_of (Add R0 R1 R2) (alone (record (running 2 (three 7 5 1)) { mode = Unused })) ≡ Idle
turn-unused = refl

turn-trapped : comes_of (Add R0 R1 R2) (alone (record (running 2 (three 7 5 1)) { mode = Trapped })) ≡ Idle
turn-trapped = refl

turn-none : slot (home (Add R0 R1 R2)) (alone (record (running 2 (three 7 5 1)) { mode = Running })) 1 ≡ Idle
turn-none = refl

-- a thread is ready where its turn is a step, and a trap is one

ready : is_ready (home (Add R0 R1 R2)) (alone (record (running 2 (three 7 5 1)) { mode = Running })) 0 ≡ true
ready = refl

ready-past : is_ready (home (Add R0 R1 R2)) (alone (record (running 3 (three 7 5 1)) { mode = Running })) 0 ≡ true
ready-past = refl

ready-waiting : is_ready (home (Add R0 R1 R2)) (alone (record (running 2 (three 7 5 1)) { mode = Waiting })) 0 ≡ false
ready-waiting = refl

ready-trapped : is_ready (home (Add R0 R1 R2)) (alone (record (running 2 (three 7 5 1)) { mode = Trapped })) 0 ≡ false
ready-trapped = refl

-- a trap halts the thread, and changes nothing else

trap-leaves :
    trapped (alone (record (running 2 (three 7 5 1)) { mode = Running })) 0
    ≡ (alone (record (running 2 (three 7 5 1)) { mode = Trapped }))
trap-leaves = refl

-- its record has the place of the instruction, and past the code none

trap-record :
    fault_of (home (Ecallf R0)) (alone (record (running 2 (three 7 5 1)) { mode = Running })) 0 Index
    ≡ Fault 1 (record { line = 9; col = 3 }) Index
trap-record = refl

trap-record-past :
    fault_of (home (Ecallf R0)) (alone (record (running 3 (three 7 5 1)) { mode = Running })) 0 Code
    ≡ Fault 1 (record { line = 0; col = 0 }) Code
trap-record-past = refl
