-- What the code does that opens a select.
use Rattle.std.specs.Prelude.{◌≡◌, ℕ, ◌+◌, ◌*◌, ◌<◌, ◌≤◌, Bool, true, false, List, [], ◌∷◌, ◌++◌, length, Option, Some, None, slice_get}
use Rattle.xw_words.specs.declared.pos.Pos.{Pos}
use Rattle.xs_instr.specs.declared.image.Home.{Home}
use Rattle.xs_instr.specs.declared.instr.Instr.TheVariants.{Brfu, Clrsr, Waiteu}
use Rattle.xs_instr.specs.declared.instr.Reg.{Reg}
use Rattle.xs_instr.specs.declared.instr.Reg.TheVariants.{R0, R9, R10, R11}
use Rattle.xs_instr.specs.declared.state.CoreState.{CoreState}
use Rattle.xs_instr.specs.declared.state.Port.{Port as PortState}
use Rattle.xs_instr.specs.declared.state.Regs.{Regs}
use Rattle.xs_instr.specs.declared.state.Res.{Res}
use Rattle.xs_instr.specs.declared.state.Res.TheVariants.{Port as ResPort, Timer as ResTimer, End as ResEnd}
use Rattle.xs_instr.specs.declared.state.Thread.{Thread}
use Rattle.xs_instr.specs.declared.state.Timer.{Timer as TimerState}
use Rattle.xs_instr.specs.declared.state.Watch.{Watch}
use Rattle.xs_instr.specs.declared.state.ChanEnd.{ChanEnd}
use Rattle.xs_instr.specs.Did.{makes}
use Rattle.xs_instr.specs.Events.{watch_of}
use Rattle.xs_instr.specs.Lines.{Line}
use Rattle.xs_instr.specs.OwnSteps.{HasRoom, IsApart, RunsAt, StandAt, temporary}
use Rattle.xs_instr.specs.Registers.{reg_get}
use Rattle.xs_instr.specs.Resources.{Named, APort, ATimer, AnEnd, named}
use Rattle.xs_instr.specs.Rows.{with_thread}
use Rattle.xs_instr.specs.Slot.{slot}
use Rattle.xc_kernel.specs.declared.statement.KRes.{KRes}
use Rattle.xc_kernel.specs.declared.statement.KRes.TheVariants.{Port, Timer, Chan}
use Rattle.xc_kernel.specs.Conditions.{AsksForPins, AsksForTime}
use Rattle.xc_kernel.specs.Plain as kernel
use Rattle.xc_kernel.specs.Eval.{Store}
use Rattle.xc_meaning.specs.Settings.Select.{Enabled, these, wrong, enabled}
use Rattle.xc_meaning.specs.States.Items.{Choice}
use Rattle.xl_expr.specs.declared.plan.Plan.{Plan}
use Rattle.xl_expr.specs.declared.plan.VarPlan.{VarPlan}
use Rattle.xl_expr.specs.Leads.{Leads}
use Rattle.xl_expr.specs.PartSteps.{KeptParts, PartsStep}
use Rattle.xl_expr.specs.Targets.{AreGoodLines}
use Rattle.xl_expr.specs.Works.{Errs}
use Rattle.xl_par.specs.Opening.{AreBelow, filled}
use Rattle.xl_port.specs.Resources.{ResourceIs}
use Rattle.xl_port.specs.Timings.{TimeIsLaid, timing_expression}
use Rattle.xl_select.specs.Armed.{Armed, case_in}
use Rattle.xl_select.specs.OpeningCode.{case_count, cases_parts, first_end, other_ends, resource_name}

-- the registers that the code changes
abbrev pub is_arming : Reg → Bool
is_arming R0 = true
is_arming R9 = true
is_arming R10 = true
is_arming R11 = true
is_arming _ = false

-- a resource stands at a place of its kind, where a watch is for it

abbrev pub IsOfKind : KRes → Res → Type 0
IsOfKind (Port p) (ResPort n) = Unit {0}
IsOfKind (Timer t) (ResTimer n) = Unit {0}
IsOfKind (Chan c) (ResEnd n) = Unit {0}
IsOfKind r res = ⊥

abbrev pub named_at : Res → Named
named_at (ResPort n) = APort n
named_at (ResTimer n) = ATimer n
named_at (ResEnd n) = AnEnd n

abbrev pub IsThere : CoreState → Res → Type 0
IsThere core (ResPort n) = (port : PortState) × (slice_get core.ports n ≡ Some port)
IsThere core (ResTimer n) = (timer : TimerState) × (slice_get core.timers n ≡ Some timer)
IsThere core (ResEnd n) = (end : ChanEnd) × (slice_get core.ends n ≡ Some end)

-- what a case waits for fits its resource, as the rules of types have it
abbrev pub CaseFits : kernel.Input → KRes → Type 0
CaseFits i (Port p) = AsksForPins i.condition
CaseFits i (Timer t) = (i.time ≡ None) × AsksForTime i.condition
CaseFits i (Chan c) = Unit {0}

-- the layout of a select's guards, times and conditions: where their words stand, by the plan
abbrev pub CasesAreLaid : List (Option VarPlan) → (ℕ → Bool) → (s dp : ℕ) → List ℕ → Store → kernel.Cases → Type 0
CasesAreLaid vars relied s dp words store kernel.no_case = Unit {0}
CasesAreLaid vars relied s dp words store (kernel.more_cases (kernel.case guard i ss) cs) =
    TimeIsLaid vars relied s dp words store guard
    × TimeIsLaid vars relied s dp words store (timing_expression i.time i.condition)
    × CasesAreLaid vars relied s dp words store cs

module _ (home : Home) (relied : ℕ → Bool) (s dp : ℕ) (plan : Plan) (places : KRes → Res) (a : CoreState) where
  -- the resource of a case stands at its place, and the plan names it, of a channel by an end
  pub record CaseStands (end : ℕ) (i : kernel.Input) : Type 0 where
    pub name : ℕ
    pub name_is : ResourceIs relied s dp a.words (resource_name plan end i.resource) name
    pub names : named home.number name ≡ named_at (places i.resource)
    pub kind : IsOfKind i.resource (places i.resource)
    pub there : IsThere a (places i.resource)
    pub watch : Watch
    pub watched : watch_of a.events (places i.resource) ≡ Some watch
    pub fits : CaseFits i i.resource

  abbrev pub CasesStand : (ends : List ℕ) → kernel.Cases → Type 0
  CasesStand ends kernel.no_case = Unit {0}
  CasesStand ends (kernel.more_cases (kernel.case guard i ss) cs) =
      CaseStands (first_end ends) i × CasesStand (other_ends ends) cs

-- a case names this resource
abbrev pub IsNamedBy : kernel.Cases → KRes → Type 0
IsNamedBy cases r = (n : ℕ) × (guard : Option kernel.Expression) × (i : kernel.Input) × (ss : kernel.Statements) ×
    (case_in cases n ≡ Some (kernel.case guard i ss)) × (r ≡ i.resource)

-- the thread's own resources: those that the cases name
abbrev pub IsOfCases : (places : KRes → Res) → kernel.Cases → Res → Type 0
IsOfCases places cases res = (r : KRes) × IsNamedBy cases r × (res ≡ places r)

-- different ones stand at different places
pub record AreApart (places : KRes → Res) (cases : kernel.Cases) : Type 0 where
  pub by : (q r : KRes) → IsNamedBy cases q → IsNamedBy cases r → places q ≡ places r → q ≡ r

-- what stands where an event is taken: a look, behind which the default's target follows, or the waiting for an event
abbrev pub TakingStands : (home : Home) → (otherwise : Bool) → (target : ℕ) → Pos → (index end : ℕ) → Type 0
TakingStands home true target pos index end =
    (slice_get home.parts.code.instrs index ≡ Some (Clrsr 1)) × (slice_get home.parts.code.«at» index ≡ Some pos)
    × (slice_get home.parts.code.instrs (index + 1) ≡ Some (Brfu target)) × (slice_get home.parts.code.«at» (index + 1) ≡ Some pos)
    × (index + 2 ≡ end)
TakingStands home false target pos index end =
    (slice_get home.parts.code.instrs index ≡ Some Waiteu) × (slice_get home.parts.code.«at» index ≡ Some pos) × (index + 1 ≡ end)

-- The thread's next step lets it take events, at the select's place, and the instruction behind it is where it takes one. The enabled cases
-- are set up. Ports are declared as they were; registers but r0, r9, r10 and r11, and all words relied on but temporary ones, are as they
-- were too.
pub record OpensTo
    (home : Home) (relied : ℕ → Bool) (s t : ℕ) (thread : Thread) (first : CoreState) (places : KRes → Res) (cases : kernel.Cases)
    (targets : List ℕ) (otherwise : Bool) (default_target : ℕ) (pos : Pos) (end : ℕ)
    (choices : List Choice) (b : CoreState) : Type 0 where
  pub index : ℕ
  pub regs : Regs
  pub here : slice_get b.threads t ≡ Some (record thread { pc = index; regs = regs })
  pub place : slice_get home.parts.code.«at» index ≡ Some pos
  pub others : (r : Reg) → is_arming r ≡ false → reg_get regs r ≡ reg_get thread.regs r
  pub within : s + temporary ≤ length b.words
  pub words : (w : ℕ) → relied w ≡ true → IsApart s w → slice_get b.words w ≡ slice_get first.words w
  pub armed : Armed places t cases targets choices b
  pub declared : (n : ℕ) (port : PortState) → IsOfCases places cases (ResPort n) → slice_get first.ports n ≡ Some port →
      (port' : PortState) × (slice_get b.ports n ≡ Some port') × (port'.decl ≡ port.decl)
  pub goes : slot home b t ≡ makes (with_thread b t (record thread { pc = index + 1; regs = regs; event_bit = true }))
  pub takes : TakingStands home otherwise default_target pos (index + 1) end

module _
    (home : Home) (relied : ℕ → Bool) (s t : ℕ) (thread : Thread) (first : CoreState) (places : KRes → Res) (cases : kernel.Cases)
    (targets : List ℕ) (otherwise : Bool) (default_target : ℕ) (pos : Pos) (end : ℕ) where
  abbrev pub OpeningOutcome : Enabled → CoreState → Type 0
  OpeningOutcome (these choices) b =
      (c : CoreState) → KeptParts relied (IsOfCases places cases) t b c →
      OpensTo home relied s t thread first places cases targets otherwise default_target pos end choices c
  OpeningOutcome (wrong kind at_pos') b =
      (c : CoreState) → KeptParts relied (IsOfCases places cases) t b c → Errs home t kind at_pos' c

-- the target of a default, where there is one
abbrev pub default_targets : (otherwise : Bool) → (target : ℕ) → List ℕ
default_targets true target = target ∷ []
default_targets false target = []

-- The rely of an opening: beside what code on resources relies on, others leave the resources of the cases there, each with a watch. A part
-- of a core says neither: that of a channel end is its vector alone, which is 0 where there is no watch.
pub record CasesKept (relied : ℕ → Bool) (places : KRes → Res) (cases : kernel.Cases) (t : ℕ) (a b : CoreState) : Type 0 where
  pub own : KeptParts relied (IsOfCases places cases) t a b
  pub there : (r : KRes) → IsNamedBy cases r → IsThere b (places r)
  pub watched : (r : KRes) → IsNamedBy cases r → (watch : Watch) × (watch_of b.events (places r) ≡ Some watch)

-- The lines open a select: wherever they stand from index pc on, with any targets for the events of its cases and for its default, in each
-- state of the core in which the plan's layout holds, and whatever other threads do in between that leaves what this one relies on and the
-- resources of the cases, the thread stands after at most 8 own steps for each part of a case and two more where it begins to take events,
-- with the enabled cases set up; or its next step traps with the first error of a guard, time or condition. What the thread had enabled
-- before doesn't count.
pub record Opens
    (plan : Plan) (ends : List ℕ) (cases : kernel.Cases) (otherwise : Bool) (pos : Pos)
    (pc : ℕ) (lines : List Line) : Type 0 where
  pub by : (home : Home) (relied : ℕ → Bool) (s t : ℕ) (thread : Thread) (store : Store) (places : KRes → Res) (targets : List ℕ)
      (default_target : ℕ) (a : CoreState) →
      length targets ≡ case_count cases →
      StandAt home.parts.code pc (filled lines (targets ++ default_targets otherwise default_target)) →
      RunsAt t pc thread a → HasRoom relied s thread.regs a.words →
      CasesAreLaid plan.vars relied s thread.regs.dp a.words store cases →
      CasesStand home relied s thread.regs.dp plan places a ends cases → AreApart places cases →
      Leads (CasesKept relied places cases t) (PartsStep home (IsApart s) (IsOfCases places cases) t)
      (OpeningOutcome home relied s t thread a places cases targets otherwise default_target pos (pc + length lines) (enabled store cases))
      (8 * cases_parts cases + 2) a

-- the target of a default, where there is one, is an index of the code, and not in front of this one
abbrev pub IsBehind : (otherwise : Bool) → (end target size : ℕ) → Type 0
IsBehind true end target size = (end ≤ target) × (target < size)
IsBehind false end target size = Unit {0}

-- With targets for the cases' events that are indices of the code, and one for the default that lies behind the lines, they may stand in
-- any code that goes on behind them: no target is open, and each jump leads ahead.
pub record AreAimedWith (cases : ℕ) (otherwise : Bool) (pc : ℕ) (lines : List Line) : Type 0 where
  pub by : (targets : List ℕ) (default_target size : ℕ) →
      length targets ≡ cases → AreBelow size targets → IsBehind otherwise (pc + length lines) default_target size →
      pc + length lines < size → AreGoodLines size pc (filled lines (targets ++ default_targets otherwise default_target))
