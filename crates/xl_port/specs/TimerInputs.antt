-- What the code of an input from a timer does.
use Rattle.std.specs.Prelude.{◌≡◌, ℕ, ◌+◌, ◌*◌, ◌≤◌, Bool, true, false, List, ◌++◌, length, Some, None, slice_get, slice_set}
use Rattle.xw_words.specs.declared.pos.Pos.{Pos}
use Rattle.xs_instr.specs.declared.image.Home.{Home}
use Rattle.xs_instr.specs.declared.instr.Reg.{Reg}
use Rattle.xs_instr.specs.declared.instr.Reg.TheVariants.{R0}
use Rattle.xs_instr.specs.declared.state.CoreState.{CoreState}
use Rattle.xs_instr.specs.declared.state.Regs.{Regs}
use Rattle.xs_instr.specs.declared.state.Thread.{Thread}
use Rattle.xs_instr.specs.declared.state.Timer.{Timer}
use Rattle.xs_instr.specs.Did.{Paused, makes}
use Rattle.xs_instr.specs.Lines.{Line}
use Rattle.xs_instr.specs.OwnSteps.{HasRoom, IsApart, RunsAt, StandAt, temporary}
use Rattle.xs_instr.specs.Registers.{reg_get, reg_set}
use Rattle.xs_instr.specs.Rows.{put_timers, with_thread}
use Rattle.xs_instr.specs.Slot.{slot}
use Rattle.xs_instr.specs.Timers.{timer_meets}
use Rattle.xc_kernel.specs.Conditions.{AsksForTime}
use Rattle.xc_kernel.specs.Plain as kernel
use Rattle.xc_kernel.specs.Eval.{Store}
use Rattle.xc_meaning.specs.Settings.Time.{Timing, fails, passes, timing}
use Rattle.xc_meaning.specs.States.Items.{When}
use Rattle.xl_expr.specs.declared.plan.Plan.{Plan}
use Rattle.xl_expr.specs.Destinations.{WritesTo}
use Rattle.xl_expr.specs.PartSteps.{KeptParts, WithinParts}
use Rattle.xl_expr.specs.Plans.{resource_in}
use Rattle.xl_expr.specs.ResourceParts.{timer_alone}
use Rattle.xl_expr.specs.Stores.{is_working}
use Rattle.xl_expr.specs.Works.{Errs}
use Rattle.xl_port.specs.Inputs.{waiting_nodes}
use Rattle.xl_port.specs.Resources.{TimerStands}
use Rattle.xl_port.specs.Timings.{TimeIsLaid, timer_set, timing_expression}

-- whether a timer's input may pass at this moment
abbrev pub is_past : CoreState → Timer → Bool
is_past core timer = timer_meets timer.cond core.clock timer.datum

-- the core once the clock was read to r0 by timer n, and thread t went on
abbrev pub clock_come_in : CoreState → (t n : ℕ) → Thread → Timer → CoreState
clock_come_in core t n thread timer =
    put_timers (with_thread core t (record thread { regs = reg_set thread.regs R0 core.clock })) (slice_set core.timers n timer)

-- The thread's next step reads the clock to r0 and goes on to pc, once the clock is past what it waits for, and pauses till then. Its
-- temporary words are there, its registers but r0, r10 and r11 are as they were, and so are all words that it relies on but its temporary
-- ones.
pub record ReadsClock
    (home : Home) (relied : ℕ → Bool) (s t : ℕ) (thread : Thread) (old : List ℕ)
    (n : ℕ) (timer : Timer) (pos : Pos) (pc : ℕ) (when : When) (b : CoreState) : Type 0 where
  pub index : ℕ
  pub regs : Regs
  pub here : slice_get b.threads t ≡ Some (record thread { pc = index; regs = regs })
  pub place : slice_get home.parts.code.«at» index ≡ Some pos
  pub others : (r : Reg) → is_working r ≡ false → reg_get regs r ≡ reg_get thread.regs r
  pub within : s + temporary ≤ length b.words
  pub words : (w : ℕ) → relied w ≡ true → IsApart s w → slice_get b.words w ≡ slice_get old w
  pub timer_is : slice_get b.timers n ≡ Some (timer_set when timer)
  pub waits : is_past b (timer_set when timer) ≡ false → slot home b t ≡ Paused
  pub goes : is_past b (timer_set when timer) ≡ true →
      slot home b t ≡ makes (clock_come_in b t n (record thread { pc = pc; regs = regs }) (timer_set when timer))

-- where the code of a transfer leads: by what it waits for, or to the error of that
module _
    (home : Home) (relied : ℕ → Bool) (s t : ℕ) (thread : Thread) (old : List ℕ)
    (n : ℕ) (timer : Timer) (pos : Pos) (pc : ℕ) where
  abbrev pub ClockOutcome : Timing → CoreState → Type 0
  ClockOutcome (passes when) b =
      (c : CoreState) → KeptParts relied (timer_alone n) t b c → ReadsClock home relied s t thread old n timer pos pc when c
  ClockOutcome (fails kind at_pos') b = (c : CoreState) → KeptParts relied (timer_alone n) t b c → Errs home t kind at_pos' c

-- A timer has no time to be set. That its input has none, and that its condition asks for the clock, are premises, which a well-formed
-- kernel meets.

-- The lines read the clock to r0: wherever they stand from index pc on, in each state of the core in which the plan's layout holds, and
-- whatever other threads do in between that leaves what this one relies on, the thread stands after at most 8 own steps for each node of
-- the condition and four more where its next step reads the clock as soon as it may, or traps with the condition's error.
pub record ReadsTimer (plan : Plan) (i : kernel.Input) (pc : ℕ) (lines : List Line) : Type 0 where
  pub by : (home : Home) (relied : ℕ → Bool) (s t n : ℕ) (timer : Timer) (thread : Thread) (store : Store) (a : CoreState) →
      StandAt home.parts.code pc lines → RunsAt t pc thread a → HasRoom relied s thread.regs a.words →
      TimeIsLaid plan.vars relied s thread.regs.dp a.words store (timing_expression i.time i.condition) →
      i.time ≡ None → AsksForTime i.condition →
      TimerStands home relied s thread.regs.dp (resource_in plan.ports plan.timers i.resource) n timer a →
      WithinParts home relied (IsApart s) (timer_alone n) t
      (ClockOutcome home relied s t thread a.words n timer i.pos (pc + length lines) (timing store i.time i.condition))
      (8 * waiting_nodes i + 4) a

-- The lines of a timer's input: those of its transfer, and then those that write the clock, which stands in r0, where there is a place
-- for it.
pub record TimerInputs (plan : Plan) (i : kernel.Input) (pc : ℕ) (lines : List Line) : Type 0 where
  pub transfer : List Line
  pub write : List Line
  pub is : lines ≡ transfer ++ write
  pub reads : ReadsTimer plan i pc transfer
  pub writes : WritesTo plan.vars i.target (pc + length transfer) write
