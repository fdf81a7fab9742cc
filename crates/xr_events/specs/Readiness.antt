-- Which resources of a core are ready for an event, and a machine beside a program at one moment.
use Rattle.std.specs.Prelude.{◌≡◌, Bool}
use Rattle.xs_instr.specs.declared.image.Home.{Home}
use Rattle.xs_instr.specs.declared.state.CoreState.{CoreState}
use Rattle.xs_instr.specs.declared.state.Res.{Res}
use Rattle.xs_instr.specs.declared.state.Res.TheVariants.{Port as ResPort, Timer as ResTimer, End as ResEnd}
use Rattle.xs_instr.specs.Events.{port_ready, timer_ready, end_ready}
use Rattle.xc_meaning.specs.Settings.Setting.{Setting}
use Rattle.xc_meaning.specs.Settings.Time.{clock_of}

abbrev pub is_ready_for : Home → CoreState → Res → Bool
is_ready_for home core (ResPort n) = port_ready home core n
is_ready_for home core (ResTimer n) = timer_ready core n
is_ready_for home core (ResEnd n) = end_ready core n

-- A core and the setting of a branch on it have the same clock, and the same stimulus for the same core.
pub record SameMoment (home : Home) (core : CoreState) (s : Setting) : Type 0 where
  pub clock : clock_of s ≡ core.clock
  pub number : home.number ≡ s.branch.core
  pub lines : home.stim ≡ s.stimulus.lines
