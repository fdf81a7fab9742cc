-- Events: vectors, enables, the event bit, and the taking of an event. The clock is 70000, so the counter is 4464, and the pins of
-- 4A are 5.
use Rattle.std.specs.Prelude.{◌≡◌, ℕ, true, [], ◌∷◌, Option, Some, None, refl}
use Rattle.xs_instr.specs.declared.image.Dir.TheVariants.{In as DirIn}
use Rattle.xs_instr.specs.declared.instr.Cond.TheVariants.{None as CondNone, After as CondAfter}
use Rattle.xs_instr.specs.declared.instr.Instr.TheVariants.{Add, Setv, Eeu, Edu, Clre, Waiteu, Setsr, Clrsr}
use Rattle.xs_instr.specs.declared.instr.Reg.TheVariants.{R0, R1, R2}
use Rattle.xs_instr.specs.declared.state.ChanEnd.{ChanEnd}
use Rattle.xs_instr.specs.declared.state.CoreState.{CoreState}
use Rattle.xs_instr.specs.declared.state.Mode.TheVariants.{Running}
use Rattle.xs_instr.specs.declared.state.Port.{Port}
use Rattle.xs_instr.specs.declared.state.Regs.{Regs}
use Rattle.xs_instr.specs.declared.state.Thread.{Thread}
use Rattle.xs_instr.specs.declared.state.Timer.{Timer}
use Rattle.xs_instr.specs.declared.state.Watch.{Watch}
use Rattle.xs_instr.specs.declared.trace.Trap.TheVariants.{Resource}
use Rattle.xs_instr.specs.Did.{makes, Paused, Traps}
use Rattle.xs_instr.specs.Ends.{control_token, data_token}
use Rattle.xt_rows.proofs.Sample.{comes_of, end_0, end_1, lock_0, port_0, running, sample, three, timer_0}

-- thread 0, a port, a timer and an end, and what is watched for each of the three
abbrev all_three : Thread → Port → Timer → ChanEnd → Watch → Watch → Watch → CoreState
all_three thread port timer end wp wt we = record sample {
  threads = thread ∷ [];
  ports = port ∷ [];
  timers = timer ∷ [];
  ends = end ∷ [];
  events = record { ports = wp ∷ []; timers = wt ∷ []; ends = we ∷ [] };
}

-- a vector, and the thread that enabled the resource
abbrev watched : ℕ → Option ℕ → Watch
watched vector owner = record { vector = vector; owner = owner }

-- no vector was set, and nobody enabled it
abbrev off : Watch
off = watched 0 None

-- a thread that runs with its event bit set
abbrev alert : ℕ → Regs → Thread
alert pc regs = record { mode = Running; pc = pc; regs = regs; event_bit = true; tie = None }

-- the port 4A
abbrev port : Port
port = record { decl = record { port = 16; dir = DirIn }; cond = CondNone; datum = 0; time = None; latch = None; stamp = 11 }

-- its time has come
abbrev due_port : Port
due_port = record port { time = Some 4464 }

-- its time has not come
abbrev late_port : Port
late_port = record port { time = Some 4465 }

-- its event was taken
abbrev latched_port : Port
latched_port = record port { latch = Some (record { value = 5; stamp = 4464 }) }

-- a timer
abbrev timer : Timer
timer = record { cond = CondNone; datum = 70000; latch = None }

-- it waits until the clock is past 70000
abbrev late_timer : Timer
late_timer = record timer { cond = CondAfter }

-- its event was taken
abbrev latched_timer : Timer
latched_timer = record timer { latch = Some 70000 }

-- an end without tokens
abbrev empty : ChanEnd
empty = record { tokens = []; credits = 8 }

-- an end with a token
abbrev full : ChanEnd
full = record { tokens = data_token 4 ∷ []; credits = 8 }

-- an end with a control token
abbrev closing : ChanEnd
closing = record { tokens = control_token 1 ∷ []; credits = 8 }

-- two timers: of the first the vector is 1, and of the second, which thread 0 enabled, 0
abbrev two_timers : Thread → Timer → Timer → Option ℕ → CoreState
two_timers thread first second owner = record sample {
  threads = thread ∷ [];
  timers = first ∷ second ∷ [];
  events = record { ports = []; timers = watched 1 owner ∷ watched 0 (Some 0) ∷ []; ends = [] };
}

-- SETV: the owner stays

setv-port :
    comes_of (Setv R1 1) (all_three (running 2 (three 7 port_0 1)) port timer empty (watched 4 (Some 3)) off off)
    ≡ makes (all_three (running 3 (three 7 port_0 1)) port timer empty (watched 1 (Some 3)) off off)
setv-port = refl

setv-timer :
    comes_of (Setv R1 1) (all_three (running 2 (three 7 timer_0 1)) port timer empty off off off)
    ≡ makes (all_three (running 3 (three 7 timer_0 1)) port timer empty off (watched 1 None) off)
setv-timer = refl

setv-end :
    comes_of (Setv R1 1) (all_three (running 2 (three 7 end_0 1)) port timer empty off off off)
    ≡ makes (all_three (running 3 (three 7 end_0 1)) port timer empty off off (watched 1 None))
setv-end = refl

setv-lock :
    comes_of (Setv R1 1) (record (all_three (running 2 (three 7 lock_0 1)) port timer empty off off off) { locks = record { taken = true; holder = None } ∷ [] })
    ≡ Traps Resource
setv-lock = refl

setv-none : comes_of (Setv R1 1) (all_three (running 2 (three 7 end_1 1)) port timer empty off off off) ≡ Traps Resource
setv-none = refl

-- EEU: for this thread and no other

eeu-port :
    comes_of (Eeu R1) (all_three (running 2 (three 7 port_0 1)) port timer empty (watched 1 None) off off)
    ≡ makes (all_three (running 3 (three 7 port_0 1)) port timer empty (watched 1 (Some 0)) off off)
eeu-port = refl

eeu-timer :
    comes_of (Eeu R1) (all_three (running 2 (three 7 timer_0 1)) port timer empty off (watched 1 (Some 3)) off)
    ≡ makes (all_three (running 3 (three 7 timer_0 1)) port timer empty off (watched 1 (Some 0)) off)
eeu-timer = refl

eeu-end :
    comes_of (Eeu R1) (all_three (running 2 (three 7 end_0 1)) port timer empty off off (watched 1 None))
    ≡ makes (all_three (running 3 (three 7 end_0 1)) port timer empty off off (watched 1 (Some 0)))
eeu-end = refl

eeu-lock :
    comes_of (Eeu R1) (record (all_three (running 2 (three 7 lock_0 1)) port timer empty off off off) { locks = record { taken = true; holder = None } ∷ [] })
    ≡ Traps Resource
eeu-lock = refl

-- EDU: whichever thread enabled it

edu-port :
    comes_of (Edu R1) (all_three (running 2 (three 7 port_0 1)) port timer empty (watched 1 (Some 0)) off off)
    ≡ makes (all_three (running 3 (three 7 port_0 1)) port timer empty (watched 1 None) off off)
edu-port = refl

edu-timer :
    comes_of (Edu R1) (all_three (running 2 (three 7 timer_0 1)) port timer empty off (watched 1 (Some 3)) off)
    ≡ makes (all_three (running 3 (three 7 timer_0 1)) port timer empty off (watched 1 None) off)
edu-timer = refl

edu-end :
    comes_of (Edu R1) (all_three (running 2 (three 7 end_0 1)) port timer empty off off (watched 1 (Some 0)))
    ≡ makes (all_three (running 3 (three 7 end_0 1)) port timer empty off off (watched 1 None))
edu-end = refl

edu-lock :
    comes_of (Edu R1) (record (all_three (running 2 (three 7 lock_0 1)) port timer empty off off off) { locks = record { taken = true; holder = None } ∷ [] })
    ≡ Traps Resource
edu-lock = refl

-- CLRE: all of this thread

clre :
    comes_of Clre (all_three (running 2 (three 7 5 1)) port timer empty (watched 1 (Some 0)) (watched 1 (Some 3)) (watched 1 (Some 0)))
    ≡ makes (all_three (running 3 (three 7 5 1)) port timer empty (watched 1 None) (watched 1 (Some 3)) (watched 1 None))
clre = refl

-- SETSR and CLRSR: the event bit, by 1 alone

setsr :
    comes_of (Setsr 1) (all_three (running 2 (three 7 5 1)) port timer empty off off off)
    ≡ makes (all_three (alert 3 (three 7 5 1)) port timer empty off off off)
setsr = refl

setsr-other :
    comes_of (Setsr 3) (all_three (running 2 (three 7 5 1)) port timer empty off off off)
    ≡ makes (all_three (running 3 (three 7 5 1)) port timer empty off off off)
setsr-other = refl

clrsr :
    comes_of (Clrsr 1) (all_three (alert 2 (three 7 5 1)) port timer empty off off off)
    ≡ makes (all_three (running 3 (three 7 5 1)) port timer empty off off off)
clrsr = refl

clrsr-other :
    comes_of (Clrsr 2) (all_three (alert 2 (three 7 5 1)) port timer empty off off off)
    ≡ makes (all_three (alert 3 (three 7 5 1)) port timer empty off off off)
clrsr-other = refl

-- WAITEU: nothing of this thread is enabled and ready

waiteu : comes_of Waiteu (all_three (running 2 (three 7 5 1)) port timer empty off off off) ≡ Paused
waiteu = refl

waiteu-other : comes_of Waiteu (all_three (running 2 (three 7 5 1)) port timer empty (watched 1 (Some 3)) (watched 1 (Some 3)) off) ≡ Paused
waiteu-other = refl

waiteu-not-ready :
    comes_of Waiteu (all_three (running 2 (three 7 5 1)) late_port late_timer empty (watched 1 (Some 0)) (watched 1 (Some 0)) (watched 1 (Some 0)))
    ≡ Paused
waiteu-not-ready = refl

-- an event is taken: on at its vector, and the enables stay; a port's pins and counter are latched, and its time is cleared

event-port :
    comes_of Waiteu (all_three (running 2 (three 7 5 1)) due_port timer empty (watched 1 (Some 0)) off off)
    ≡ makes (all_three (running 1 (three 7 5 1)) latched_port timer empty (watched 1 (Some 0)) off off)
event-port = refl

event-timer :
    comes_of Waiteu (all_three (running 2 (three 7 5 1)) port timer empty off (watched 1 (Some 0)) off)
    ≡ makes (all_three (running 1 (three 7 5 1)) port latched_timer empty off (watched 1 (Some 0)) off)
event-timer = refl

event-end :
    comes_of Waiteu (all_three (running 2 (three 7 5 1)) port timer full off off (watched 1 (Some 0)))
    ≡ makes (all_three (running 1 (three 7 5 1)) port timer full off off (watched 1 (Some 0)))
event-end = refl

-- a control token is a token too

event-end-control :
    comes_of Waiteu (all_three (running 2 (three 7 5 1)) port timer closing off off (watched 1 (Some 0)))
    ≡ makes (all_three (running 1 (three 7 5 1)) port timer closing off off (watched 1 (Some 0)))
event-end-control = refl

-- with the event bit in place of any instruction, and the bit is cleared

event-bit :
    comes_of (Add R0 R1 R2) (all_three (alert 2 (three 7 5 1)) port timer empty off (watched 1 (Some 0)) off)
    ≡ makes (all_three (running 1 (three 7 5 1)) port latched_timer empty off (watched 1 (Some 0)) off)
event-bit = refl

event-bit-past :
    comes_of (Add R0 R1 R2) (all_three (alert 3 (three 7 5 1)) port timer empty off (watched 1 (Some 0)) off)
    ≡ makes (all_three (running 1 (three 7 5 1)) port latched_timer empty off (watched 1 (Some 0)) off)
event-bit-past = refl

-- without anything ready the instruction is executed, and the bit stays

event-bit-none :
    comes_of (Add R0 R1 R2) (all_three (alert 2 (three 7 5 1)) port timer empty off off (watched 1 (Some 0)))
    ≡ makes (all_three (alert 3 (three 6 5 1)) port timer empty off off (watched 1 (Some 0)))
event-bit-none = refl

-- without the bit it is executed, whatever is ready

event-no-bit :
    comes_of (Add R0 R1 R2) (all_three (running 2 (three 7 5 1)) port timer empty (watched 1 (Some 0)) (watched 1 (Some 0)) off)
    ≡ makes (all_three (running 3 (three 6 5 1)) port timer empty (watched 1 (Some 0)) (watched 1 (Some 0)) off)
event-no-bit = refl

-- a port comes before a timer, a timer before an end

event-first :
    comes_of Waiteu (all_three (running 2 (three 7 5 1)) port timer full (watched 1 (Some 0)) (watched 2 (Some 0)) (watched 3 (Some 0)))
    ≡ makes (all_three (running 1 (three 7 5 1)) latched_port timer full (watched 1 (Some 0)) (watched 2 (Some 0)) (watched 3 (Some 0)))
event-first = refl

event-second :
    comes_of Waiteu (all_three (running 2 (three 7 5 1)) late_port timer full (watched 1 (Some 0)) (watched 2 (Some 0)) (watched 3 (Some 0)))
    ≡ makes (all_three (running 2 (three 7 5 1)) late_port latched_timer full (watched 1 (Some 0)) (watched 2 (Some 0)) (watched 3 (Some 0)))
event-second = refl

-- of several the least number that is ready and that this thread enabled

event-least :
    comes_of Waiteu (two_timers (running 2 (three 7 5 1)) timer timer (Some 0))
    ≡ makes (two_timers (running 1 (three 7 5 1)) latched_timer timer (Some 0))
event-least = refl

event-least-other :
    comes_of Waiteu (two_timers (running 2 (three 7 5 1)) timer timer (Some 3))
    ≡ makes (two_timers (running 0 (three 7 5 1)) timer latched_timer (Some 3))
event-least-other = refl

event-least-late :
    comes_of Waiteu (two_timers (running 2 (three 7 5 1)) late_timer timer (Some 0))
    ≡ makes (two_timers (running 0 (three 7 5 1)) late_timer latched_timer (Some 0))
event-least-late = refl
