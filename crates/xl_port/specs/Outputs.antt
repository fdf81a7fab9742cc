-- What the code of an output to a port does.
use Rattle.std.specs.Prelude.{◌≡◌, ℕ, ◌+◌, ◌*◌, ◌%◌, ◌^◌, ◌≤◌, Bool, true, false, List, [], ◌++◌, length, max, Option, Some, None, option_map, slice_get, slice_set}
use Rattle.xw_words.specs.declared.pos.Pos.{Pos}
use Rattle.xs_instr.specs.declared.image.Home.{Home}
use Rattle.xs_instr.specs.declared.instr.Cond.TheVariants.{None as NoCond}
use Rattle.xs_instr.specs.declared.instr.Reg.{Reg}
use Rattle.xs_instr.specs.declared.state.CoreState.{CoreState}
use Rattle.xs_instr.specs.declared.state.Port.{Port}
use Rattle.xs_instr.specs.declared.state.Regs.{Regs}
use Rattle.xs_instr.specs.declared.state.Thread.{Thread}
use Rattle.xs_instr.specs.declared.trace.Record.{Record}
use Rattle.xs_instr.specs.declared.trace.Record.TheVariants.{PortOut}
use Rattle.xs_instr.specs.Did.{Made, Paused}
use Rattle.xs_instr.specs.Lines.{Line}
use Rattle.xs_instr.specs.OwnSteps.{HasRoom, IsApart, RunsAt, StandAt, temporary}
use Rattle.xs_instr.specs.Ports.{can_send, counter, low_bits, moved_at, time_meets}
use Rattle.xs_instr.specs.Registers.{reg_get}
use Rattle.xs_instr.specs.Rows.{put_ports, with_thread}
use Rattle.xs_instr.specs.Slot.{slot}
use Rattle.xc_kernel.specs.Plain as kernel
use Rattle.xc_kernel.specs.Values.{Value, word, error}
use Rattle.xc_kernel.specs.Eval.{Store, eval}
use Rattle.xl_expr.specs.declared.plan.Plan.{Plan}
use Rattle.xl_expr.specs.Destinations.{dest_depth, dest_nodes}
use Rattle.xl_expr.specs.Measures.{depth, nodes}
use Rattle.xl_expr.specs.PartSteps.{KeptParts, WithinParts}
use Rattle.xl_expr.specs.Plans.{resource_in}
use Rattle.xl_expr.specs.ResourceParts.{port_alone}
use Rattle.xl_expr.specs.Stores.{is_working}
use Rattle.xl_expr.specs.Works.{Errs, IsLaid}
use Rattle.xl_port.specs.Resources.{PortStands}
use Rattle.xl_port.specs.Stamps.{StampsTo}
use Rattle.xl_port.specs.Timings.{TimeIsLaid, time_depth, time_nodes}

-- how many nodes time and value have, and how many with the stamp's

abbrev pub driving_nodes : kernel.Output → ℕ
driving_nodes o = time_nodes o.time + nodes o.value

abbrev pub output_nodes : kernel.Output → ℕ
output_nodes o = driving_nodes o + dest_nodes o.stamp

-- how deep they are

abbrev pub driving_depth : kernel.Output → ℕ
driving_depth o = max (time_depth o.time) (depth o.value)

abbrev pub output_depth : kernel.Output → ℕ
output_depth o = max (driving_depth o) (dest_depth o.stamp)

-- the time that a port gets of a word
abbrev pub time_of : Option ℕ → Option ℕ
time_of None = None
time_of (Some time) = Some (time % 2 ^ 16)

-- a port that is set for an output
abbrev pub set_for : (time : Option ℕ) → Port → Port
set_for time port = record port { cond = NoCond; latch = None; time = time_of time }

-- whether the port's counter is the time, if there is one
abbrev pub is_due : (time : Option ℕ) → CoreState → Bool
is_due time core = time_meets (time_of time) (counter core.clock)

-- the core once a word went out on port p, and thread t went on
abbrev pub gone_out : CoreState → (t p : ℕ) → Thread → Port → CoreState
gone_out core t p thread port =
    put_ports (with_thread core t thread) (slice_set core.ports p (moved_at port (counter core.clock)))

-- the record of it
abbrev pub out_record : Home → CoreState → (v : ℕ) → Port → Record
out_record home core v port = PortOut home.number port.decl.port (counter core.clock) (low_bits v port.decl.port)

-- The thread's next step puts v out on port p and goes on to pc, once the port's counter is the time, if there is one, and pauses till
-- then. Its temporary words are there, its registers but r0, r10 and r11 are as they were, and so are all words that it relies on but
-- its temporary ones.
pub record PutsOut
    (home : Home) (relied : ℕ → Bool) (s t : ℕ) (thread : Thread) (old : List ℕ)
    (p : ℕ) (port : Port) (pos : Pos) (pc : ℕ) (time : Option ℕ) (v : ℕ) (b : CoreState) : Type 0 where
  pub index : ℕ
  pub regs : Regs
  pub here : slice_get b.threads t ≡ Some (record thread { pc = index; regs = regs })
  pub place : slice_get home.parts.code.«at» index ≡ Some pos
  pub others : (r : Reg) → is_working r ≡ false → reg_get regs r ≡ reg_get thread.regs r
  pub within : s + temporary ≤ length b.words
  pub words : (w : ℕ) → relied w ≡ true → IsApart s w → slice_get b.words w ≡ slice_get old w
  pub port_is : slice_get b.ports p ≡ Some (set_for time port)
  pub waits : is_due time b ≡ false → slot home b t ≡ Paused
  pub goes : is_due time b ≡ true →
      slot home b t ≡ Made
      (gone_out b t p (record thread { pc = pc; regs = regs }) (set_for time port))
      (Some (out_record home b v port))
      []

-- where the code of a transfer leads: the time's error comes first, then the value's
module _
    (home : Home) (relied : ℕ → Bool) (s t : ℕ) (thread : Thread) (old : List ℕ)
    (p : ℕ) (port : Port) (pos : Pos) (pc : ℕ) where
  abbrev pub ValueOutcome : (time : Option ℕ) → Value → CoreState → Type 0
  ValueOutcome time (word v) b =
      (c : CoreState) → KeptParts relied (port_alone p) t b c → PutsOut home relied s t thread old p port pos pc time v c
  ValueOutcome time (error kind at_pos') b = (c : CoreState) → KeptParts relied (port_alone p) t b c → Errs home t kind at_pos' c

  abbrev pub OutputOutcome : (time : Option Value) → Value → CoreState → Type 0
  OutputOutcome None value b = ValueOutcome None value b
  OutputOutcome (Some (word time)) value b = ValueOutcome (Some time) value b
  OutputOutcome (Some (error kind at_pos')) value b =
      (c : CoreState) → KeptParts relied (port_alone p) t b c → Errs home t kind at_pos' c

-- The lines put a value out on a port: wherever they stand from index pc on, in each state of the core in which the plan's layout
-- holds, and whatever other threads do in between that leaves what this one relies on, the thread stands after at most 8 own steps
-- for each node of time and value and four more where its next step puts the value out as soon as it may, or traps with the first error.
pub record DrivesPort (plan : Plan) (o : kernel.Output) (pc : ℕ) (lines : List Line) : Type 0 where
  pub by : (home : Home) (relied : ℕ → Bool) (s t p : ℕ) (port : Port) (thread : Thread) (store : Store) (a : CoreState) →
      StandAt home.parts.code pc lines → RunsAt t pc thread a → HasRoom relied s thread.regs a.words →
      TimeIsLaid plan.vars relied s thread.regs.dp a.words store o.time →
      IsLaid plan.vars relied s thread.regs.dp a.words store o.value →
      PortStands home relied s thread.regs.dp (resource_in plan.ports plan.timers o.resource) p port a →
      can_send port.decl.dir ≡ true →
      WithinParts home relied (IsApart s) (port_alone p) t
      (OutputOutcome home relied s t thread a.words p port o.pos (pc + length lines)
      (option_map (eval store) o.time) (eval store o.value))
      (8 * driving_nodes o + 4) a

-- The lines of an output: those of its transfer, and then those that write the port's counter, where there is a place for it.
pub record Outputs (plan : Plan) (o : kernel.Output) (pc : ℕ) (lines : List Line) : Type 0 where
  pub transfer : List Line
  pub stamp : List Line
  pub is : lines ≡ transfer ++ stamp
  pub drives : DrivesPort plan o pc transfer
  pub stamps : StampsTo plan o.resource o.stamp (pc + length transfer) stamp
