-- What is always true of events and selects, in few words.
use Rattle.std.specs.Prelude.{◌≡◌, ℕ, true, false, List, ◌∷◌, Option, Some, None, slice_get}
use Rattle.xw_words.specs.declared.pos.Pos.{Pos}
use Rattle.xs_instr.specs.declared.image.Home.{Home}
use Rattle.xs_instr.specs.declared.image.Stim.{Stim}
use Rattle.xs_instr.specs.declared.instr.Instr.TheVariants.{Setsr}
use Rattle.xs_instr.specs.declared.state.CoreState.{CoreState}
use Rattle.xs_instr.specs.declared.state.Mode.TheVariants.{Running}
use Rattle.xs_instr.specs.declared.state.Port.{Port}
use Rattle.xs_instr.specs.declared.state.Res.{Res}
use Rattle.xs_instr.specs.declared.state.Thread.{Thread}
use Rattle.xs_instr.specs.declared.state.Timer.{Timer}
use Rattle.xs_instr.specs.Events.{pick}
use Rattle.xs_instr.specs.Ports.{can_receive, meets}
use Rattle.xs_instr.specs.Slot.{event_taken, instr_at}
use Rattle.xs_instr.specs.Timers.{timer_meets}
use Rattle.xc_kernel.specs.Plain as kernel
use Rattle.xc_kernel.specs.Values.{ErrorKind}
use Rattle.xc_meaning.specs.Settings.Select.{default_of, enabled, input_taken, these, wrong}
use Rattle.xc_meaning.specs.Settings.Setting.{Setting, errs, kind_of}
use Rattle.xc_meaning.specs.Settings.Time.{identifier_of, port_may_pass, timer_may_pass}
use Rattle.xc_meaning.specs.States.Items.{Body, Choice, Item, When, chooses, does, fixed}
use Rattle.xc_meaning.specs.States.Branches.{Branch}
use Rattle.xc_meaning.specs.States.Worlds.{World, go}
use Rattle.xc_meaning.specs.Runs.{acts, step_of}
use Rattle.xl_expr.specs.ResourceParts.{IsEnabledFor, OwnPartsStay}
use Rattle.xl_port.specs.Timings.{port_set, timer_set}
use Rattle.xr_events.specs.Armed.{IsArmed, IsOfCase, IsSetFor, Places, StandsFor, res_of}
use Rattle.xr_events.specs.Latches.{LatchIsOf, PortReadsFixed, TimerReadsFixed}
use Rattle.xr_events.specs.Readiness.{SameMoment, is_ready_for}
use Rattle.xr_events.specs.Takings.{EventLeaves, alone}
use Rattle.xr_events.specs.Turns.{BranchRuns, SelectBegins, SelectTurn, ThreadAtSelect}

-- An event that is picked for a thread is of a resource that the thread enabled and that is ready.
abbrev pub PickedIsReady : Type 0
PickedIsReady =
    (home : Home) (core : CoreState) (t : ℕ) (res : Res) → pick home core t ≡ Some res →
    IsEnabledFor t core.events res × (is_ready_for home core res ≡ true)

-- Where none is picked, no resource that the thread enabled is ready.
abbrev pub NoneIsReady : Type 0
NoneIsReady =
    (home : Home) (core : CoreState) (t : ℕ) → pick home core t ≡ None → (res : Res) → IsEnabledFor t core.events res →
    is_ready_for home core res ≡ false

-- A port that is set for a transfer is ready exactly where the program's transfer may pass now.
abbrev pub PortsAgree : Type 0
PortsAgree =
    (home : Home) (core : CoreState) (s : Setting) → SameMoment home core s → (when : When) (p : ℕ) (port : Port) →
    port.decl.port ≡ identifier_of s p → meets home core.clock (port_set when port) ≡ port_may_pass s p when

-- And so is a timer.
abbrev pub TimersAgree : Type 0
TimersAgree =
    (home : Home) (core : CoreState) (s : Setting) → SameMoment home core s → (when : When) (timer : Timer) →
    timer_meets (timer_set when timer).cond core.clock (timer_set when timer).datum ≡ timer_may_pass s when

-- Where a thread takes an event of a resource that is set for an input, what is latched then is what the program fixes for this input.
abbrev pub TakenIsFixed : Type 0
TakenIsFixed =
    (home : Home) (core : CoreState) (s : Setting) → SameMoment home core s →
    (places : Places) (when : When) (i : kernel.Input) → IsSetFor places core when i.resource →
    StandsFor core s places i.resource → (t : ℕ) (x : Thread) →
    LatchIsOf places (event_taken home core t x (res_of places i.resource)) (input_taken s i i.resource)

-- The taking of an event leaves all of the core but its thread and its resource.
abbrev pub TakingLeavesOthers : Type 0
TakingLeavesOthers =
    (home : Home) (core : CoreState) (t : ℕ) (x : Thread) (res : Res) → slice_get core.threads t ≡ Some x →
    EventLeaves t x res core (event_taken home core t x res)

-- Where a select's cases are set up, those that are enabled by its guards, a thread begins to take events as its branch begins the select.
abbrev pub BeginsAgree : Type 0
BeginsAgree =
    (K : kernel.Kernel) (stim : Stim) (world : World) (b : ℕ) (branch : Branch) (cases : kernel.Cases)
    (otherwise : kernel.Default) (pos : Pos) (rest : List Item) →
    BranchRuns world b branch (does (kernel.select cases otherwise pos) ∷ rest) → (choices : List Choice) →
    enabled world.store cases ≡ these choices → (home : Home) (core : CoreState) (places : Places) (t : ℕ) (x : Thread) →
    slice_get core.threads t ≡ Some x → x.mode ≡ Running → x.event_bit ≡ false → instr_at home x.pc ≡ Some (Setsr 1) →
    IsArmed places t choices core →
    SelectBegins home core places t x (step_of K stim world b branch rest) choices (default_of otherwise)

-- Where a guard, time or condition of a select errs, the branch errs so.
abbrev pub SelectErrs : Type 0
SelectErrs =
    (K : kernel.Kernel) (stim : Stim) (world : World) (b : ℕ) (branch : Branch) (cases : kernel.Cases)
    (otherwise : kernel.Default) (pos : Pos) (rest : List Item) →
    BranchRuns world b branch (does (kernel.select cases otherwise pos) ∷ rest) → (kind : ErrorKind) (place : Pos) →
    enabled world.store cases ≡ wrong kind place →
    acts K stim world (go b) ≡ errs (step_of K stim world b branch rest) (kind_of kind) place

-- Of a thread whose select is set up the turn takes an event where the branch takes a case, and otherwise it pauses where the branch can do
-- nothing, or goes on where the branch takes its default.
abbrev pub TurnsAgree : Type 0
TurnsAgree =
    (K : kernel.Kernel) (stim : Stim) (world : World) (b : ℕ) (branch : Branch) (choices : List Choice)
    (otherwise : Option Body) (rest : List Item) →
    BranchRuns world b branch (chooses choices otherwise ∷ rest) →
    (home : Home) (core : CoreState) (places : Places) (t : ℕ) (x : Thread) →
    ThreadAtSelect home core places t x (step_of K stim world b branch rest) choices otherwise →
    SelectTurn home core places t x (step_of K stim world b branch rest) choices otherwise

-- The input of a case that was taken reads what its port has latched as the program does what it has fixed.
abbrev pub LatchedPortsAgree : Type 0
LatchedPortsAgree =
    (home : Home) (s : Setting) → home.number ≡ s.branch.core → (i : kernel.Input) (p : ℕ) (port : Port) →
    port.decl.port ≡ identifier_of s p → can_receive port.decl.dir ≡ true → (v counter : ℕ) →
    port.latch ≡ Some (record { value = v; stamp = counter }) → PortReadsFixed home s i p port v counter

-- And so it does of a timer.
abbrev pub LatchedTimersAgree : Type 0
LatchedTimersAgree =
    (s : Setting) (i : kernel.Input) (t : ℕ) (timer : Timer) (v counter : ℕ) → timer.latch ≡ Some v →
    TimerReadsFixed s i t timer v counter

-- A select stays set up whatever others do that leaves the resources of its cases to the thread.
abbrev pub ArmedStays : Type 0
ArmedStays =
    (places : Places) (t : ℕ) (choices : List Choice) (a b : CoreState) → OwnPartsStay (IsOfCase places choices) t a b →
    IsArmed places t choices a → IsArmed places t choices b

-- What is latched for the input of a case that was taken stays so whatever others do that leaves its resource to the thread.
abbrev pub LatchesStay : Type 0
LatchesStay =
    (places : Places) (t : ℕ) (i : kernel.Input) (v counter : ℕ) (a b : CoreState) →
    OwnPartsStay (alone (res_of places i.resource)) t a b →
    LatchIsOf places a (fixed i v counter) → LatchIsOf places b (fixed i v counter)
