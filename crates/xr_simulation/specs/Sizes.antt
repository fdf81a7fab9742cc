-- How many words, timers, channel ends and watches a core has. No step changes that, so what the image plans a place for is there at
-- each moment.
use Rattle.std.specs.Prelude.{ℕ, length}
use Rattle.xs_instr.specs.declared.image.CoreImage.{CoreImage}
use Rattle.xs_instr.specs.declared.state.CoreState.{CoreState}

pub record Sizes : Type 0 where
  pub words : ℕ
  pub timers : ℕ
  pub ends : ℕ
  pub port_watches : ℕ
  pub timer_watches : ℕ
  pub end_watches : ℕ

abbrev pub sizes_of : CoreState → Sizes
sizes_of core = record {
  words = length core.words;
  timers = length core.timers;
  ends = length core.ends;
  port_watches = length core.events.ports;
  timer_watches = length core.events.timers;
  end_watches = length core.events.ends;
}

-- the watches that a core has for each kind of resource
abbrev pub most_watches : ℕ
most_watches = 32

-- what a core's part of the image gives it
abbrev pub sizes_in : CoreImage → Sizes
sizes_in parts = record {
  words = parts.words;
  timers = parts.timers;
  ends = parts.ends;
  port_watches = most_watches;
  timer_watches = most_watches;
  end_watches = most_watches;
}
