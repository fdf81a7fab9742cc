-- Timers. The clock is 70000.
use Rattle.std.specs.Prelude.{◌≡◌, ℕ, [], ◌∷◌, Option, Some, None, refl}
use Rattle.xs_instr.specs.declared.instr.Cond.{Cond}
use Rattle.xs_instr.specs.declared.instr.Cond.TheVariants.{None as CondNone, Eq as CondEq, Neq as CondNeq, After as CondAfter}
use Rattle.xs_instr.specs.declared.instr.Instr.TheVariants.{Out, In, Setc, Setd}
use Rattle.xs_instr.specs.declared.instr.Reg.TheVariants.{R0, R1, R2}
use Rattle.xs_instr.specs.declared.state.CoreState.{CoreState}
use Rattle.xs_instr.specs.declared.state.Regs.{Regs}
use Rattle.xs_instr.specs.declared.state.Timer.{Timer}
use Rattle.xs_instr.specs.declared.trace.Trap.TheVariants.{Resource}
use Rattle.xs_instr.specs.Did.{makes, Paused, Traps}
use Rattle.xt_rows.proofs.Sample.{comes_of, running, sample, three, timer_0}

-- thread 0 at an index with these registers, and timer 0
abbrev with_timer : ℕ → Regs → Timer → CoreState
with_timer pc regs own = record sample { threads = running pc regs ∷ []; timers = own ∷ [] }

-- a timer with its condition, its data and what is latched
abbrev timer : Cond → ℕ → Option ℕ → Timer
timer cond datum latch = record { cond = cond; datum = datum; latch = latch }

-- IN: the clock, and no record

in-timer :
    comes_of (In R0 R1) (with_timer 2 (three 7 timer_0 30) (timer CondNone 0 None))
    ≡ makes (with_timer 3 (three 70000 timer_0 30) (timer CondNone 0 None))
in-timer = refl

in-timer-after :
    comes_of (In R0 R1) (with_timer 2 (three 7 timer_0 30) (timer CondAfter 69999 None))
    ≡ makes (with_timer 3 (three 70000 timer_0 30) (timer CondAfter 69999 None))
in-timer-after = refl

in-timer-early : comes_of (In R0 R1) (with_timer 2 (three 7 timer_0 30) (timer CondAfter 70000 None)) ≡ Paused
in-timer-early = refl

in-timer-none : comes_of (In R0 R1) (with_timer 2 (three 7 16777473 30) (timer CondNone 0 None)) ≡ Traps Resource
in-timer-none = refl

-- the clock is past a time that is less than 2^31 ticks behind: -1 is behind 70000, and 70000 + 2^31 isn't

in-timer-around :
    comes_of (In R0 R1) (with_timer 2 (three 7 timer_0 30) (timer CondAfter 4294967295 None))
    ≡ makes (with_timer 3 (three 70000 timer_0 30) (timer CondAfter 4294967295 None))
in-timer-around = refl

in-timer-far : comes_of (In R0 R1) (with_timer 2 (three 7 timer_0 30) (timer CondAfter 2147553648 None)) ≡ Paused
in-timer-far = refl

-- what is latched comes first

in-timer-latched :
    comes_of (In R0 R1) (with_timer 2 (three 7 timer_0 30) (timer CondAfter 70000 (Some 123)))
    ≡ makes (with_timer 3 (three 123 timer_0 30) (timer CondAfter 70000 None))
in-timer-latched = refl

-- a timer has no output

out-timer : comes_of (Out R1 R2) (with_timer 2 (three 7 timer_0 30) (timer CondNone 0 None)) ≡ Traps Resource
out-timer = refl

-- SETC clears what is latched

setc-timer-after :
    comes_of (Setc R1 CondAfter) (with_timer 2 (three 7 timer_0 30) (timer CondNone 8 (Some 123)))
    ≡ makes (with_timer 3 (three 7 timer_0 30) (timer CondAfter 8 None))
setc-timer-after = refl

setc-timer-none :
    comes_of (Setc R1 CondNone) (with_timer 2 (three 7 timer_0 30) (timer CondAfter 8 (Some 123)))
    ≡ makes (with_timer 3 (three 7 timer_0 30) (timer CondNone 8 None))
setc-timer-none = refl

setc-timer-eq : comes_of (Setc R1 CondEq) (with_timer 2 (three 7 timer_0 30) (timer CondNone 0 None)) ≡ Traps Resource
setc-timer-eq = refl

setc-timer-neq : comes_of (Setc R1 CondNeq) (with_timer 2 (three 7 timer_0 30) (timer CondNone 0 None)) ≡ Traps Resource
setc-timer-neq = refl

setd-timer :
    comes_of (Setd R1 R2) (with_timer 2 (three 7 timer_0 30) (timer CondAfter 8 (Some 123)))
    ≡ makes (with_timer 3 (three 7 timer_0 30) (timer CondAfter 30 (Some 123)))
setd-timer = refl
