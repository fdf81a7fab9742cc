-- What contracts see of a core's pins and ports.
use Rattle.std.specs.Prelude.{ℕ, List}
use Rattle.xs_instr.specs.declared.image.StimLine.{StimLine}
use Rattle.xs_instr.specs.declared.state.Port.{Port}

-- what the pins hang on: the stimulus, the core and the clock
pub record Outside : Type 0 where
  pub stim : List StimLine
  pub core : ℕ
  pub clock : ℕ

-- the ports and the clock, and what never changes: the stimulus and the core
pub record PortsState : Type 0 where
  pub ports : List Port
  pub clock : ℕ
  pub stim : List StimLine
  pub core : ℕ
