-- Outputs and inputs of ports, timers and channels.
use Rattle.std.specs.Prelude.{ℕ, Option, Some, None}
use Rattle.xs_instr.specs.Ports.{low_bits}
use Rattle.xs_instr.specs.declared.trace.Record.{Record}
use Rattle.xs_instr.specs.declared.trace.Record.TheVariants.{PortOut, PortIn}
use Rattle.xc_kernel.specs.declared.statement.KRes.{KRes}
use Rattle.xc_kernel.specs.declared.statement.KRes.TheVariants.{Port, Timer, Chan}
use Rattle.xc_kernel.specs.Plain as kernel
use Rattle.xc_meaning.specs.States.Items.{When, stamping, storing}
use Rattle.xc_meaning.specs.States.Worlds.{World, only_if, with_record}
use Rattle.xc_meaning.specs.Settings.Setting.{Setting, goes_to, with_word_of}
use Rattle.xc_meaning.specs.Settings.Channels.{outputs_word, inputs_word}
use Rattle.xc_meaning.specs.Settings.Time.{clock_of, counter_of, identifier_of, pins_of, timing, with_timing, port_may_pass, timer_may_pass}

-- the record of a port's output at this moment
abbrev pub output_record : Setting → (port : ℕ) → ℕ → Record
output_record s p v = PortOut s.branch.core (identifier_of s p) (counter_of s) (low_bits v (identifier_of s p))

-- a port's output passes, and its counter is to be stored next
abbrev pub drives : Setting → kernel.Output → (port : ℕ) → When → ℕ → Option World
drives s o p when v =
    only_if (port_may_pass s p when) (with_record (goes_to s (stamping o.resource o.stamp (counter_of s) s.rest)) (output_record s p v))

-- A port's output; its time comes before its value. A transfer evaluates its time, condition and value at its own step. So a timed
-- output whose value is an error errs at once, and not only when its time has come.
abbrev pub outputs_to_port : Setting → kernel.Output → (port : ℕ) → Option World
outputs_to_port s o p = with_timing s (timing s.world.store o.time None) (λ when. with_word_of s o.value (drives s o p when))

-- a port's input passes with a value and a counter, which are to be stored next
abbrev pub samples : Setting → kernel.Input → (port : ℕ) → (value counter : ℕ) → World
samples s i p v counter =
    with_record (goes_to s (storing i.target v (stamping i.resource i.stamp counter s.rest))) (PortIn s.branch.core (identifier_of s p) counter v)

-- a port's input
abbrev pub inputs_from_port : Setting → kernel.Input → (port : ℕ) → Option World
inputs_from_port s i p =
    with_timing s (timing s.world.store i.time i.condition)
    (λ when. only_if (port_may_pass s p when) (samples s i p (pins_of s p) (counter_of s)))

-- a timer's input passes, which has no record
abbrev pub reads_clock : Setting → kernel.Input → (clock : ℕ) → World
reads_clock s i clock = goes_to s (storing i.target clock s.rest)

-- a timer's input
abbrev pub inputs_from_timer : Setting → kernel.Input → Option World
inputs_from_timer s i =
    with_timing s (timing s.world.store i.time i.condition) (λ when. only_if (timer_may_pass s when) (reads_clock s i (clock_of s)))

-- An output by its resource; a timer has none. What the rules refuse is never possible.
abbrev pub outputs_to : Setting → kernel.Output → KRes → Option World
outputs_to s o (Port p) = outputs_to_port s o p
outputs_to s o (Timer t) = None
outputs_to s o (Chan c) = with_word_of s o.value (outputs_word s c o.pos)

-- an input by its resource
abbrev pub inputs_from : Setting → kernel.Input → KRes → Option World
inputs_from s i (Port p) = inputs_from_port s i p
inputs_from s i (Timer t) = inputs_from_timer s i
inputs_from s i (Chan c) = inputs_word s c i.target i.pos

-- the input of a case that was taken with this value and counter; a channel's case has none
abbrev pub inputs_fixed : Setting → kernel.Input → (value counter : ℕ) → KRes → Option World
inputs_fixed s i v counter (Port p) = Some (samples s i p v counter)
inputs_fixed s i v counter (Timer t) = Some (reads_clock s i v)
inputs_fixed s i v counter (Chan c) = None
