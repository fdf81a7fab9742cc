-- What the code does at which a case of a select begins, once it was taken.
use Rattle.std.specs.Prelude.{◌≡◌, ℕ, ◌+◌, ◌≤◌, Bool, true, false, List, [], ◌++◌, length, max, Some, None, slice_get, slice_set}
use Rattle.xw_words.specs.declared.pos.Pos.{Pos}
use Rattle.xs_instr.specs.declared.image.Home.{Home}
use Rattle.xs_instr.specs.declared.instr.Reg.{Reg}
use Rattle.xs_instr.specs.declared.instr.Reg.TheVariants.{R0}
use Rattle.xs_instr.specs.declared.state.CoreState.{CoreState}
use Rattle.xs_instr.specs.declared.state.Port.{Port}
use Rattle.xs_instr.specs.declared.state.PortGot.{PortGot}
use Rattle.xs_instr.specs.declared.state.Regs.{Regs}
use Rattle.xs_instr.specs.declared.state.Thread.{Thread}
use Rattle.xs_instr.specs.declared.state.Timer.{Timer}
use Rattle.xs_instr.specs.declared.trace.Record.{Record}
use Rattle.xs_instr.specs.declared.trace.Record.TheVariants.{PortIn}
use Rattle.xs_instr.specs.Did.{Made, makes}
use Rattle.xs_instr.specs.Lines.{Line}
use Rattle.xs_instr.specs.OwnSteps.{HasRoom, IsApart, RunsAt, StandAt, temporary}
use Rattle.xs_instr.specs.Ports.{can_receive}
use Rattle.xs_instr.specs.Registers.{reg_get, reg_set}
use Rattle.xs_instr.specs.Rows.{put_ports, put_timers, with_thread}
use Rattle.xs_instr.specs.Slot.{slot}
use Rattle.xc_kernel.specs.declared.statement.KRes.{KRes}
use Rattle.xc_kernel.specs.declared.statement.KRes.TheVariants.{Port as ToPort, Timer as ToTimer, Chan as ToChan}
use Rattle.xc_kernel.specs.Plain as kernel
use Rattle.xl_chan.specs.Transfers.{Receives}
use Rattle.xl_expr.specs.declared.plan.Plan.{Plan}
use Rattle.xl_expr.specs.Destinations.{WritesTo, dest_depth, dest_nodes}
use Rattle.xl_expr.specs.PartSteps.{KeptParts, WithinParts}
use Rattle.xl_expr.specs.Plans.{resource_in}
use Rattle.xl_expr.specs.ResourceParts.{port_alone, timer_alone}
use Rattle.xl_expr.specs.Stores.{is_working}
use Rattle.xl_port.specs.Resources.{PortStands, TimerStands}
use Rattle.xl_port.specs.Stamps.{StampsTo}

-- how many nodes the target and the stamp have, and how deep they are

abbrev pub entry_nodes : kernel.Input → ℕ
entry_nodes i = dest_nodes i.target + dest_nodes i.stamp

abbrev pub entry_depth : kernel.Input → ℕ
entry_depth i = max (dest_depth i.target) (dest_depth i.stamp)

-- the core once the pins that port p latched came to r0, and thread t went on; the counter of the event is that of the transfer
abbrev pub port_latch_read : CoreState → (t p : ℕ) → Thread → Port → PortGot → CoreState
port_latch_read core t p thread port got =
    put_ports (with_thread core t (record thread { regs = reg_set thread.regs R0 got.value }))
    (slice_set core.ports p (record port { latch = None; stamp = got.stamp }))

-- the record of it
abbrev pub latch_record : Home → Port → PortGot → Record
latch_record home port got = PortIn home.number port.decl.port got.stamp got.value

-- the core once the clock that timer n latched came to r0, and thread t went on
abbrev pub timer_latch_read : CoreState → (t n : ℕ) → Thread → Timer → (clock : ℕ) → CoreState
timer_latch_read core t n thread timer clock =
    put_timers (with_thread core t (record thread { regs = reg_set thread.regs R0 clock }))
    (slice_set core.timers n (record timer { latch = None }))

-- The thread's next step reads to r0 what port p latched, and goes on to pc. Its temporary words are there, its registers but r0, r10 and
-- r11 are as they were, and so are all words that it relies on but its temporary ones.
pub record AtPortLatch
    (home : Home) (relied : ℕ → Bool) (s t : ℕ) (thread : Thread) (old : List ℕ)
    (p : ℕ) (port : Port) (got : PortGot) (pos : Pos) (pc : ℕ) (b : CoreState) : Type 0 where
  pub index : ℕ
  pub regs : Regs
  pub here : slice_get b.threads t ≡ Some (record thread { pc = index; regs = regs })
  pub place : slice_get home.parts.code.«at» index ≡ Some pos
  pub others : (r : Reg) → is_working r ≡ false → reg_get regs r ≡ reg_get thread.regs r
  pub within : s + temporary ≤ length b.words
  pub words : (w : ℕ) → relied w ≡ true → IsApart s w → slice_get b.words w ≡ slice_get old w
  pub port_is : slice_get b.ports p ≡ Some port
  pub goes : slot home b t ≡ Made
      (port_latch_read b t p (record thread { pc = pc; regs = regs }) port got)
      (Some (latch_record home port got))
      []

-- and the same of timer n, of which there is no record
pub record AtTimerLatch
    (home : Home) (relied : ℕ → Bool) (s t : ℕ) (thread : Thread) (old : List ℕ)
    (n : ℕ) (timer : Timer) (clock : ℕ) (pos : Pos) (pc : ℕ) (b : CoreState) : Type 0 where
  pub index : ℕ
  pub regs : Regs
  pub here : slice_get b.threads t ≡ Some (record thread { pc = index; regs = regs })
  pub place : slice_get home.parts.code.«at» index ≡ Some pos
  pub others : (r : Reg) → is_working r ≡ false → reg_get regs r ≡ reg_get thread.regs r
  pub within : s + temporary ≤ length b.words
  pub words : (w : ℕ) → relied w ≡ true → IsApart s w → slice_get b.words w ≡ slice_get old w
  pub timer_is : slice_get b.timers n ≡ Some timer
  pub goes : slot home b t ≡ makes (timer_latch_read b t n (record thread { pc = pc; regs = regs }) timer clock)

-- The taking of the case latched the port or timer. Nothing sets it anew in front of the input, since that would lose the latch.

-- The lines read a port's latch to r0: wherever they stand from index pc on, in each state of the core in which the plan's identifier names
-- a port that latched something, and whatever other threads do in between that leaves what this one relies on, the thread stands after at
-- most two own steps where its next step reads the latch, whatever the pins are by then.
pub record ReadsPortLatch (plan : Plan) (i : kernel.Input) (pc : ℕ) (lines : List Line) : Type 0 where
  pub by : (home : Home) (relied : ℕ → Bool) (s t p : ℕ) (port : Port) (got : PortGot) (thread : Thread) (a : CoreState) →
      StandAt home.parts.code pc lines → RunsAt t pc thread a → HasRoom relied s thread.regs a.words →
      PortStands home relied s thread.regs.dp (resource_in plan.ports plan.timers i.resource) p port a →
      can_receive port.decl.dir ≡ true → port.latch ≡ Some got →
      WithinParts home relied (IsApart s) (port_alone p) t
      (λ b. (c : CoreState) → KeptParts relied (port_alone p) t b c →
      AtPortLatch home relied s t thread a.words p port got i.pos (pc + length lines) c)
      2 a

-- and the same of a timer
pub record ReadsTimerLatch (plan : Plan) (i : kernel.Input) (pc : ℕ) (lines : List Line) : Type 0 where
  pub by : (home : Home) (relied : ℕ → Bool) (s t n : ℕ) (timer : Timer) (clock : ℕ) (thread : Thread) (a : CoreState) →
      StandAt home.parts.code pc lines → RunsAt t pc thread a → HasRoom relied s thread.regs a.words →
      TimerStands home relied s thread.regs.dp (resource_in plan.ports plan.timers i.resource) n timer a →
      timer.latch ≡ Some clock →
      WithinParts home relied (IsApart s) (timer_alone n) t
      (λ b. (c : CoreState) → KeptParts relied (timer_alone n) t b c →
      AtTimerLatch home relied s t thread a.words n timer clock i.pos (pc + length lines) c)
      2 a

-- The lines of a port's case: those that read the latch, then those that write the value, which stands in r0, and then those that write
-- the counter of the event, each where there is a place for it.
pub record EntersPortCase (plan : Plan) (i : kernel.Input) (pc : ℕ) (lines : List Line) : Type 0 where
  pub transfer : List Line
  pub write : List Line
  pub stamp : List Line
  pub is : lines ≡ transfer ++ (write ++ stamp)
  pub reads : ReadsPortLatch plan i pc transfer
  pub writes : WritesTo plan.vars i.target (pc + length transfer) write
  pub stamps : StampsTo plan i.resource i.stamp (pc + length transfer + length write) stamp

-- The lines of a timer's case: those that read the latch, and then those that write the clock, where there is a place for it.
pub record EntersTimerCase (plan : Plan) (i : kernel.Input) (pc : ℕ) (lines : List Line) : Type 0 where
  pub transfer : List Line
  pub write : List Line
  pub is : lines ≡ transfer ++ write
  pub reads : ReadsTimerLatch plan i pc transfer
  pub writes : WritesTo plan.vars i.target (pc + length transfer) write

-- The lines of a case, by its resource. A channel latches nothing, so its case begins with a whole input.
module _ (plan : Plan) (i : kernel.Input) (end : ℕ) (plain : Bool) where
  abbrev pub EntersFrom : KRes → (pc : ℕ) → List Line → Type 0
  EntersFrom (ToPort p) pc lines = EntersPortCase plan i pc lines
  EntersFrom (ToTimer n) pc lines = EntersTimerCase plan i pc lines
  EntersFrom (ToChan c) pc lines = Receives plan end i.target plain i.pos pc lines

  abbrev pub EntersCase : (pc : ℕ) → List Line → Type 0
  EntersCase pc lines = EntersFrom i.resource pc lines
