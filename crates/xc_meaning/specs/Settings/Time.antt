-- Clocks, counters and pins, and when a transfer of a port or timer may pass.
use Rattle.std.specs.Prelude.{ℕ, zero, suc, ◌+◌, Bool, true, not, List, [], ◌∷◌, Option, Some, None, nat_eq, nat_lt, if◌then◌else◌, slice_index, slice_set}
use Rattle.xw_words.specs.declared.pos.Pos.{Pos}
use Rattle.xw_words.specs.Words.{is_after}
use Rattle.xs_instr.specs.Ports.{counter, low_bits, pins_from}
use Rattle.xs_instr.specs.Slot.{last_clock}
use Rattle.xc_tree.specs.Words.{pinseq_word, pinsneq_word}
use Rattle.xc_kernel.specs.declared.kernel.PortUse.{PortUse}
use Rattle.xc_kernel.specs.Plain as kernel
use Rattle.xc_kernel.specs.Values.{Value, word, error, ErrorKind}
use Rattle.xc_kernel.specs.Eval.{Store, eval}
use Rattle.xc_meaning.specs.States.Items.{When, now, at_time, pins_equal, pins_differ, after_time}
use Rattle.xc_meaning.specs.States.Worlds.{World, only_if}
use Rattle.xc_meaning.specs.Settings.Setting.{Setting, errs, kind_of}

-- a core's clock goes up by one, where it isn't at its last value
abbrev pub ticks : World → (core clock : ℕ) → Option World
ticks x core clock = only_if (nat_lt clock last_clock) (record x { clocks = slice_set x.clocks core (clock + 1) })

-- The clock of the branch's core, and the counter that its ports have. A port's and a timer's core is that of the branch that uses
-- them. In accepted programs it is the port's own.
abbrev pub clock_of : Setting → ℕ
clock_of s = slice_index s.world.clocks s.branch.core

abbrev pub counter_of : Setting → ℕ
counter_of s = counter (clock_of s)

-- the identifier of a port among those of a kernel
abbrev pub identifier_in : List PortUse → (port : ℕ) → ℕ
identifier_in [] p = 0
identifier_in (u ∷ us) zero = u.id
identifier_in (u ∷ us) (suc p) = identifier_in us p

abbrev pub identifier_of : Setting → (port : ℕ) → ℕ
identifier_of s p = identifier_in s.program.ports p

-- a port's pins at this moment: the last line that the stimulus has for it, else 0
abbrev pub pins_of : Setting → (port : ℕ) → ℕ
pins_of s p = pins_from s.stimulus.lines s.branch.core (identifier_of s p) (clock_of s) 0

-- when a transfer may pass, or the error of its time or condition
pub data Timing : Type 0 where
  passes : When → Timing
  fails : ErrorKind → Pos → Timing

abbrev pub timing_by : Value → (ℕ → When) → Timing
timing_by (word v) make = passes (make v)
timing_by (error kind pos) make = fails kind pos

-- what a test of a word waits for; the third test is `timerafter`
abbrev pub when_tested : (test : ℕ) → ℕ → When
when_tested test v = if nat_eq test pinseq_word then pins_equal v else if nat_eq test pinsneq_word then pins_differ v else after_time v

-- by a transfer's time or condition; without either it may pass at once
abbrev pub timing : Store → Option kernel.Expression → Option kernel.Condition → Timing
timing store (Some time) condition = timing_by (eval store time) at_time
timing store None (Some condition) = timing_by (eval store condition.value) (when_tested condition.test)
timing store None None = passes now

-- it goes on by when the transfer may pass, or errs as its time or condition does
abbrev pub with_timing : Setting → Timing → (When → Option World) → Option World
with_timing s (passes when) go = go when
with_timing s (fails kind pos) go = errs s (kind_of kind) pos

-- Whether a port's transfer may pass at this moment. Of a time and of a word for the pins the low bits count. A test that doesn't
-- belong to the resource, or a time of a timer's, holds nothing up.
abbrev pub port_may_pass : Setting → (port : ℕ) → When → Bool
port_may_pass s p now = true
port_may_pass s p (at_time time) = nat_eq (counter_of s) (counter time)
port_may_pass s p (pins_equal v) = nat_eq (pins_of s p) (low_bits v (identifier_of s p))
port_may_pass s p (pins_differ v) = not (nat_eq (pins_of s p) (low_bits v (identifier_of s p)))
port_may_pass s p (after_time time) = true

-- whether a timer's input may pass at this moment
abbrev pub timer_may_pass : Setting → When → Bool
timer_may_pass s (after_time time) = is_after (clock_of s) time
timer_may_pass s when = true
