-- What the code of an input from a port does.
use Rattle.std.specs.Prelude.{◌≡◌, ℕ, ◌+◌, ◌*◌, ◌≤◌, Bool, true, false, List, [], ◌++◌, length, max, Some, slice_get, slice_set}
use Rattle.xw_words.specs.declared.pos.Pos.{Pos}
use Rattle.xs_instr.specs.declared.image.Home.{Home}
use Rattle.xs_instr.specs.declared.instr.Reg.{Reg}
use Rattle.xs_instr.specs.declared.instr.Reg.TheVariants.{R0}
use Rattle.xs_instr.specs.declared.state.CoreState.{CoreState}
use Rattle.xs_instr.specs.declared.state.Port.{Port}
use Rattle.xs_instr.specs.declared.state.Regs.{Regs}
use Rattle.xs_instr.specs.declared.state.Thread.{Thread}
use Rattle.xs_instr.specs.declared.trace.Record.{Record}
use Rattle.xs_instr.specs.declared.trace.Record.TheVariants.{PortIn}
use Rattle.xs_instr.specs.Did.{Made, Paused}
use Rattle.xs_instr.specs.Lines.{Line}
use Rattle.xs_instr.specs.OwnSteps.{HasRoom, IsApart, RunsAt, StandAt, temporary}
use Rattle.xs_instr.specs.Ports.{can_receive, counter, meets, moved_at, pins_of}
use Rattle.xs_instr.specs.Registers.{reg_get, reg_set}
use Rattle.xs_instr.specs.Rows.{put_ports, with_thread}
use Rattle.xs_instr.specs.Slot.{slot}
use Rattle.xc_kernel.specs.Conditions.{AsksForPins}
use Rattle.xc_kernel.specs.Plain as kernel
use Rattle.xc_kernel.specs.Eval.{Store}
use Rattle.xc_meaning.specs.Settings.Time.{Timing, fails, passes, timing}
use Rattle.xc_meaning.specs.States.Items.{When}
use Rattle.xl_expr.specs.declared.plan.Plan.{Plan}
use Rattle.xl_expr.specs.Destinations.{WritesTo, dest_depth, dest_nodes}
use Rattle.xl_expr.specs.PartSteps.{KeptParts, WithinParts}
use Rattle.xl_expr.specs.Plans.{resource_in}
use Rattle.xl_expr.specs.ResourceParts.{port_alone}
use Rattle.xl_expr.specs.Stores.{is_working}
use Rattle.xl_expr.specs.Works.{Errs}
use Rattle.xl_port.specs.Resources.{PortStands}
use Rattle.xl_port.specs.Stamps.{StampsTo}
use Rattle.xl_port.specs.Timings.{TimeIsLaid, port_set, time_depth, time_nodes, timing_expression}

-- how many nodes the time or condition has, and how many with those of the target and the stamp

abbrev pub waiting_nodes : kernel.Input → ℕ
waiting_nodes i = time_nodes (timing_expression i.time i.condition)

abbrev pub input_nodes : kernel.Input → ℕ
input_nodes i = waiting_nodes i + dest_nodes i.target + dest_nodes i.stamp

-- how deep they are

abbrev pub waiting_depth : kernel.Input → ℕ
waiting_depth i = time_depth (timing_expression i.time i.condition)

abbrev pub input_depth : kernel.Input → ℕ
input_depth i = max (max (waiting_depth i) (dest_depth i.target)) (dest_depth i.stamp)

-- the pins that a port has at this moment
abbrev pub pins_at : Home → CoreState → Port → ℕ
pins_at home core port = pins_of home core.clock port.decl.port

-- the core once the pins of port p were read to r0, and thread t went on
abbrev pub come_in : Home → CoreState → (t p : ℕ) → Thread → Port → CoreState
come_in home core t p thread port =
    put_ports (with_thread core t (record thread { regs = reg_set thread.regs R0 (pins_at home core port) }))
    (slice_set core.ports p (moved_at port (counter core.clock)))

-- the record of it
abbrev pub in_record : Home → CoreState → Port → Record
in_record home core port = PortIn home.number port.decl.port (counter core.clock) (pins_at home core port)

-- The thread's next step reads the pins of port p to r0 and goes on to pc, once they and the port's counter are what it waits for, and
-- pauses till then. Its temporary words are there, its registers but r0, r10 and r11 are as they were, and so are all words that it relies
-- on but its temporary ones.
pub record ReadsPins
    (home : Home) (relied : ℕ → Bool) (s t : ℕ) (thread : Thread) (old : List ℕ)
    (p : ℕ) (port : Port) (pos : Pos) (pc : ℕ) (when : When) (b : CoreState) : Type 0 where
  pub index : ℕ
  pub regs : Regs
  pub here : slice_get b.threads t ≡ Some (record thread { pc = index; regs = regs })
  pub place : slice_get home.parts.code.«at» index ≡ Some pos
  pub others : (r : Reg) → is_working r ≡ false → reg_get regs r ≡ reg_get thread.regs r
  pub within : s + temporary ≤ length b.words
  pub words : (w : ℕ) → relied w ≡ true → IsApart s w → slice_get b.words w ≡ slice_get old w
  pub port_is : slice_get b.ports p ≡ Some (port_set when port)
  pub waits : meets home b.clock (port_set when port) ≡ false → slot home b t ≡ Paused
  pub goes : meets home b.clock (port_set when port) ≡ true →
      slot home b t ≡ Made
      (come_in home b t p (record thread { pc = pc; regs = regs }) (port_set when port))
      (Some (in_record home b port))
      []

-- where the code of a transfer leads: by what it waits for, or to the error of that
module _
    (home : Home) (relied : ℕ → Bool) (s t : ℕ) (thread : Thread) (old : List ℕ)
    (p : ℕ) (port : Port) (pos : Pos) (pc : ℕ) where
  abbrev pub SampleOutcome : Timing → CoreState → Type 0
  SampleOutcome (passes when) b =
      (c : CoreState) → KeptParts relied (port_alone p) t b c → ReadsPins home relied s t thread old p port pos pc when c
  SampleOutcome (fails kind at_pos') b = (c : CoreState) → KeptParts relied (port_alone p) t b c → Errs home t kind at_pos' c

-- The lines read a port's pins to r0: wherever they stand from index pc on, in each state of the core in which the plan's layout
-- holds, and whatever other threads do in between that leaves what this one relies on, the thread stands after at most 8 own steps
-- for each node of the time or condition and four more where its next step reads the pins as soon as it may, or traps with the error of
-- the time or condition.
pub record SamplesPort (plan : Plan) (i : kernel.Input) (pc : ℕ) (lines : List Line) : Type 0 where
  pub by : (home : Home) (relied : ℕ → Bool) (s t p : ℕ) (port : Port) (thread : Thread) (store : Store) (a : CoreState) →
      StandAt home.parts.code pc lines → RunsAt t pc thread a → HasRoom relied s thread.regs a.words →
      TimeIsLaid plan.vars relied s thread.regs.dp a.words store (timing_expression i.time i.condition) →
      AsksForPins i.condition →
      PortStands home relied s thread.regs.dp (resource_in plan.ports plan.timers i.resource) p port a →
      can_receive port.decl.dir ≡ true →
      WithinParts home relied (IsApart s) (port_alone p) t
      (SampleOutcome home relied s t thread a.words p port i.pos (pc + length lines) (timing store i.time i.condition))
      (8 * waiting_nodes i + 4) a

-- An input waits at its own instruction, which pauses exactly as long as the port's counter and pins aren't what it waits for. The whole
-- word of a condition is handed over: the machine takes those of its bits that the port has.

-- The lines of an input: those of its transfer, then those that write the value, which stands in r0, and then those that write the port's
-- counter, each where there is a place for it.
pub record Inputs (plan : Plan) (i : kernel.Input) (pc : ℕ) (lines : List Line) : Type 0 where
  pub transfer : List Line
  pub write : List Line
  pub stamp : List Line
  pub is : lines ≡ transfer ++ (write ++ stamp)
  pub samples : SamplesPort plan i pc transfer
  pub writes : WritesTo plan.vars i.target (pc + length transfer) write
  pub stamps : StampsTo plan i.resource i.stamp (pc + length transfer + length write) stamp
