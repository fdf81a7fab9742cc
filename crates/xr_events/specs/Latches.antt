-- What the taking of an event leaves at its resource, for the input of the case that was taken, and how that is read.
use Rattle.std.specs.Prelude.{◌≡◌, ℕ, List, [], Some, None, slice_get}
use Rattle.xs_instr.specs.declared.image.Home.{Home}
use Rattle.xs_instr.specs.declared.state.CoreState.{CoreState}
use Rattle.xs_instr.specs.declared.state.Port.{Port as PortState}
use Rattle.xs_instr.specs.declared.state.Timer.{Timer as TimerState}
use Rattle.xs_instr.specs.declared.trace.Record.{Record}
use Rattle.xs_instr.specs.declared.trace.Record.TheVariants.{PortIn}
use Rattle.xs_instr.specs.Did.{Made, makes}
use Rattle.xs_instr.specs.Ports.{given_port, reads}
use Rattle.xs_instr.specs.Timers.{clock_read, given_timer}
use Rattle.xc_kernel.specs.declared.statement.KRes.{KRes}
use Rattle.xc_kernel.specs.declared.statement.KRes.TheVariants.{Port, Timer, Chan}
use Rattle.xc_kernel.specs.Plain as kernel
use Rattle.xc_meaning.specs.Settings.Setting.{Setting, goes_to}
use Rattle.xc_meaning.specs.Settings.Time.{identifier_of}
use Rattle.xc_meaning.specs.Settings.Transfers.{inputs_fixed}
use Rattle.xc_meaning.specs.States.Items.{Item, fixed, stamping, storing}
use Rattle.xc_meaning.specs.States.Worlds.{with_record}
use Rattle.xr_events.specs.Armed.{Places}

-- A port has latched a value and a counter, and a timer a value. A channel's end latches nothing: its tokens stay.
abbrev pub HasLatched : Places → CoreState → KRes → (value counter : ℕ) → Type 0
HasLatched places core (Port p) v n =
    (port : PortState) × (slice_get core.ports (places.port p) ≡ Some port) × (port.latch ≡ Some (record { value = v; stamp = n }))
HasLatched places core (Timer t) v n =
    (timer : TimerState) × (slice_get core.timers (places.timer t) ≡ Some timer) × (timer.latch ≡ Some v)
HasLatched places core (Chan c) v n = Unit {0}

-- what is fixed for an item is latched
abbrev pub LatchIsOf : Places → CoreState → Item → Type 0
LatchIsOf places core (fixed i v counter) = HasLatched places core i.resource v counter
LatchIsOf places core item = Unit {0}

-- the record of the program's input
abbrev pub fixed_record : Setting → (port value counter : ℕ) → Record
fixed_record s p v counter = PortIn s.branch.core (identifier_of s p) counter v

-- How a port is read that has latched these, whatever its pins are by then: the value is given, and the counter is its stamp. The record is
-- the program's, whose branch then has both to store.
pub record PortReadsFixed (home : Home) (s : Setting) (i : kernel.Input) (p : ℕ) (port : PortState) (v counter : ℕ) : Type 0 where
  pub machine : (clock : ℕ) (ports : List PortState) (n : ℕ) → reads home clock ports n port ≡
      Made (given_port ports n (record port { latch = None; stamp = counter }) v) (Some (fixed_record s p v counter)) []
  pub program : inputs_fixed s i v counter (Port p) ≡
      Some (with_record (goes_to s (storing i.target v (stamping i.resource i.stamp counter s.rest))) (fixed_record s p v counter))

-- and how a timer is
pub record TimerReadsFixed (s : Setting) (i : kernel.Input) (t : ℕ) (timer : TimerState) (v counter : ℕ) : Type 0 where
  pub machine : (clock : ℕ) (timers : List TimerState) (n : ℕ) →
      clock_read clock timers n timer ≡ makes (given_timer timers n (record timer { latch = None }) v)
  pub program : inputs_fixed s i v counter (Timer t) ≡ Some (goes_to s (storing i.target v s.rest))
