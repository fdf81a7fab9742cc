-- The enabled cases of a select, as they are set up for a thread.
use Rattle.std.specs.Prelude.{◌≡◌, ℕ, zero, suc, List, Option, Some, None, slice_get}
use Rattle.xs_instr.specs.declared.state.CoreState.{CoreState}
use Rattle.xs_instr.specs.declared.state.Port.{Port as PortState}
use Rattle.xs_instr.specs.declared.state.Res.{Res}
use Rattle.xs_instr.specs.declared.state.Res.TheVariants.{Port as ResPort, Timer as ResTimer, End as ResEnd}
use Rattle.xs_instr.specs.declared.state.Timer.{Timer as TimerState}
use Rattle.xs_instr.specs.Events.{vector_of}
use Rattle.xc_kernel.specs.declared.statement.KRes.{KRes}
use Rattle.xc_kernel.specs.Plain as kernel
use Rattle.xc_meaning.specs.States.Items.{Choice, When, of_kernel}
use Rattle.xl_expr.specs.ResourceParts.{IsEnabledFor}
use Rattle.xl_port.specs.Timings.{port_set, timer_set}

-- the case at a place
abbrev pub case_in : kernel.Cases → (place : ℕ) → Option kernel.Case
case_in kernel.no_case n = None
case_in (kernel.more_cases c cs) zero = Some c
case_in (kernel.more_cases c cs) (suc n) = case_in cs n

-- a port or timer is set for what a case waits for, and has no latch; a channel end needs no setting
abbrev pub IsSetFor : CoreState → When → Res → Type 0
IsSetFor core when (ResPort n) = (port : PortState) × (slice_get core.ports n ≡ Some (port_set when port))
IsSetFor core when (ResTimer n) = (timer : TimerState) × (slice_get core.timers n ≡ Some (timer_set when timer))
IsSetFor core when (ResEnd n) = Unit {0}

-- a vector is the target of a case with this input and body
pub record LeadsTo (cases : kernel.Cases) (targets : List ℕ) (c : Choice) (vector : ℕ) : Type 0 where
  pub place : ℕ
  pub guard : Option kernel.Expression
  pub body : kernel.Statements
  pub case_is : case_in cases place ≡ Some (kernel.case guard c.input body)
  pub body_is : c.body ≡ of_kernel body
  pub target_is : slice_get targets place ≡ Some vector

-- Resources stand at these places of a core. A thread has enabled those of the choices and no other; each is set for what its choice waits
-- for, and its event leads to the target of that choice's case.
pub record Armed
    (places : KRes → Res) (thread : ℕ) (cases : kernel.Cases) (targets : List ℕ)
    (choices : List Choice) (core : CoreState) : Type 0 where
  pub only : (res : Res) → IsEnabledFor thread core.events res →
      (n : ℕ) × (c : Choice) × (slice_get choices n ≡ Some c) × (res ≡ places c.input.resource)
  pub enabled : (n : ℕ) (c : Choice) → slice_get choices n ≡ Some c → IsEnabledFor thread core.events (places c.input.resource)
  pub set : (n : ℕ) (c : Choice) → slice_get choices n ≡ Some c → IsSetFor core c.when (places c.input.resource)
  pub leads : (n : ℕ) (c : Choice) → slice_get choices n ≡ Some c →
      LeadsTo cases targets c (vector_of core.events (places c.input.resource))
