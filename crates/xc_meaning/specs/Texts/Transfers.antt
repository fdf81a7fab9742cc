-- The outputs and inputs of a text.
use Rattle.std.specs.Prelude.{Option, Some, None}
use Rattle.xc_tree.specs.Plain as tree
use Rattle.xc_kernel.specs.declared.statement.KRes.{KRes}
use Rattle.xc_kernel.specs.declared.statement.KRes.TheVariants.{Port, Timer, Chan}
use Rattle.xc_kernel.specs.Eval.{Store}
use Rattle.xc_kernel.specs.Scopes.{Scope}
use Rattle.xc_kernel.specs.Context.{Context}
use Rattle.xc_kernel.specs.Transfers.{output_of, input_of}
use Rattle.xc_meaning.specs.States.Items.{now, at_time}
use Rattle.xc_meaning.specs.States.Worlds.{World, only_if}
use Rattle.xc_meaning.specs.Settings.Setting.{Setting, with_value}
use Rattle.xc_meaning.specs.Settings.Channels.{outputs_word, inputs_word}
use Rattle.xc_meaning.specs.Settings.Time.{Timing, passes, timing_by, when_tested, with_timing, clock_of, counter_of, pins_of, port_may_pass, timer_may_pass}
use Rattle.xc_meaning.specs.Settings.Transfers.{drives, samples, reads_clock}
use Rattle.xc_meaning.specs.Texts.Words.{value_in}

-- when a transfer may pass: by its time or condition, and without either at once
abbrev pub timing_in : Context → Scope → Store → Option tree.Timing → Option tree.Condition → Timing
timing_in c scope store (Some time) condition = timing_by (value_in c scope store time.value) at_time
timing_in c scope store None (Some w) = timing_by (value_in c scope store w.value) (when_tested w.test)
timing_in c scope store None None = passes now

-- an output by its resource, its time before its value; a timer has none
abbrev pub outputs_text : Setting → Context → Scope → tree.Output → KRes → Option World
outputs_text s c scope o (Port p) =
    with_timing s (timing_in c scope s.world.store o.time None)
    (λ when. with_value s (value_in c scope s.world.store o.value) (drives s (output_of c scope o) p when))
outputs_text s c scope o (Timer t) = None
outputs_text s c scope o (Chan channel) = with_value s (value_in c scope s.world.store o.value) (outputs_word s channel o.name.pos)

-- an input by its resource
abbrev pub inputs_text : Setting → Context → Scope → tree.Input → KRes → Option World
inputs_text s c scope i (Port p) =
    with_timing s (timing_in c scope s.world.store i.time i.condition)
    (λ when. only_if (port_may_pass s p when) (samples s (input_of c scope i) p (pins_of s p) (counter_of s)))
inputs_text s c scope i (Timer t) =
    with_timing s (timing_in c scope s.world.store i.time i.condition)
    (λ when. only_if (timer_may_pass s when) (reads_clock s (input_of c scope i) (clock_of s)))
inputs_text s c scope i (Chan channel) = inputs_word s channel (input_of c scope i).target i.name.pos
