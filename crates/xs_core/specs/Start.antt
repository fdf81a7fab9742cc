-- How a core's threads start.
use Rattle.std.specs.Prelude.{ℕ, Option, None, Some}
use Rattle.xs_instr.specs.declared.state.Thread.{Thread}
use Rattle.xs_instr.specs.Machine.{root_thread, unused_thread}

-- a thread starts at its root, and is unused where there is none
abbrev pub started : Option ℕ → Thread
started None = unused_thread
started (Some root) = root_thread root
