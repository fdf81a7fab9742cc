-- A thread whose select is set up: what it has enabled, and how the ports and timers of the enabled cases are set.
use Rattle.std.specs.Prelude.{◌≡◌, ℕ, List, Some, slice_get}
use Rattle.xs_instr.specs.declared.state.CoreState.{CoreState}
use Rattle.xs_instr.specs.declared.state.Port.{Port as PortState}
use Rattle.xs_instr.specs.declared.state.Res.{Res}
use Rattle.xs_instr.specs.declared.state.Res.TheVariants.{Port as ResPort, Timer as ResTimer, End as ResEnd}
use Rattle.xs_instr.specs.declared.state.Timer.{Timer as TimerState}
use Rattle.xs_instr.specs.Events.{end_ready}
use Rattle.xc_kernel.specs.declared.statement.KRes.{KRes}
use Rattle.xc_kernel.specs.declared.statement.KRes.TheVariants.{Port, Timer, Chan}
use Rattle.xc_meaning.specs.States.Branches.{side_of}
use Rattle.xc_meaning.specs.States.Items.{Choice, When}
use Rattle.xc_meaning.specs.Settings.Select.{has_arrived}
use Rattle.xc_meaning.specs.Settings.Setting.{Setting}
use Rattle.xc_meaning.specs.Settings.Time.{identifier_of}
use Rattle.xl_expr.specs.ResourceParts.{IsEnabledFor}
use Rattle.xl_port.specs.Timings.{port_set, timer_set}

-- where a branch's resources stand on its core; a channel's end is that of the branch's own side
pub record Places : Type 0 where
  pub port : ℕ → ℕ
  pub timer : ℕ → ℕ
  pub end : (channel : ℕ) → ℕ

abbrev pub res_of : Places → KRes → Res
res_of places (Port p) = ResPort (places.port p)
res_of places (Timer t) = ResTimer (places.timer t)
res_of places (Chan c) = ResEnd (places.end c)

-- The resource of a case is set for what the case waits for, and has no latch. A channel has nothing to be set.
abbrev pub IsSetFor : Places → CoreState → When → KRes → Type 0
IsSetFor places core when (Port p) = (port : PortState) × (slice_get core.ports (places.port p) ≡ Some (port_set when port))
IsSetFor places core when (Timer t) = (timer : TimerState) × (slice_get core.timers (places.timer t) ≡ Some (timer_set when timer))
IsSetFor places core when (Chan c) = Unit {0}

-- A resource of the core is the program's: a port has its identifier, and a channel's end is ready exactly where something has arrived.
abbrev pub StandsFor : CoreState → Setting → Places → KRes → Type 0
StandsFor core s places (Port p) =
    (port : PortState) → slice_get core.ports (places.port p) ≡ Some port → port.decl.port ≡ identifier_of s p
StandsFor core s places (Timer t) = Unit {0}
StandsFor core s places (Chan c) = end_ready core (places.end c) ≡ has_arrived s c (side_of s.branch c)

-- it is the resource of one of these cases
abbrev pub IsOfCase : Places → List Choice → Res → Type 0
IsOfCase places choices res =
    (n : ℕ) × (c : Choice) × (slice_get choices n ≡ Some c) × (res ≡ res_of places c.input.resource)

-- For a thread the resources of these cases, and no others, are enabled, each one set for its case.
pub record IsArmed (places : Places) (thread : ℕ) (choices : List Choice) (core : CoreState) : Type 0 where
  pub only : (res : Res) → IsEnabledFor thread core.events res → IsOfCase places choices res
  pub enabled : (n : ℕ) (c : Choice) → slice_get choices n ≡ Some c →
      IsEnabledFor thread core.events (res_of places c.input.resource)
  pub set : (n : ℕ) (c : Choice) → slice_get choices n ≡ Some c → IsSetFor places core c.when c.input.resource
