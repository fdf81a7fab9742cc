-- The turn of a thread at its select, beside the actions of its branch.
use Rattle.std.specs.Prelude.{◌≡◌, ℕ, ◌+◌, true, false, List, ◌∷◌, Option, Some, None, slice_get}
use Rattle.xs_instr.specs.declared.image.Home.{Home}
use Rattle.xs_instr.specs.declared.instr.Instr.TheVariants.{Waiteu, Clrsr}
use Rattle.xs_instr.specs.declared.state.CoreState.{CoreState}
use Rattle.xs_instr.specs.declared.state.Mode.TheVariants.{Running}
use Rattle.xs_instr.specs.declared.state.Res.{Res}
use Rattle.xs_instr.specs.declared.state.Thread.{Thread}
use Rattle.xs_instr.specs.Did.{makes, Paused}
use Rattle.xs_instr.specs.Events.{vector_of}
use Rattle.xs_instr.specs.Rows.{with_thread}
use Rattle.xs_instr.specs.Slot.{event_taken, instr_at, slot}
use Rattle.xc_meaning.specs.Runs.{acts}
use Rattle.xc_meaning.specs.Settings.Select.{input_taken}
use Rattle.xc_meaning.specs.Settings.Setting.{Setting, goes_to}
use Rattle.xc_meaning.specs.States.Branches.{Branch, runs}
use Rattle.xc_meaning.specs.States.Items.{Body, Choice, Item, body_items, chooses}
use Rattle.xc_meaning.specs.States.Worlds.{World, default, go, take}
use Rattle.xr_events.specs.Armed.{IsArmed, Places, StandsFor, res_of}
use Rattle.xr_events.specs.Latches.{LatchIsOf}
use Rattle.xr_events.specs.Readiness.{SameMoment}

-- Branch b of a world runs, with these items.
pub record BranchRuns (world : World) (b : ℕ) (branch : Branch) (items : List Item) : Type 0 where
  pub known : slice_get world.branches b ≡ Some branch
  pub running : branch.mode ≡ runs
  pub items_are : branch.items ≡ items

-- Without a default a thread waits for events, and with one it looks for them once, as the instruction clears its event bit.
abbrev pub WaitsAt : Home → (pc : ℕ) → (otherwise : Option Body) → Type 0
WaitsAt home pc None = instr_at home pc ≡ Some Waiteu
WaitsAt home pc (Some body) = instr_at home pc ≡ Some (Clrsr 1)

module _ (home : Home) (core : CoreState) (places : Places) (thread : ℕ) (x : Thread) (s : Setting) where
  -- The first step of a select, once its cases are set up: from then on the thread takes events, and the branch has its enabled cases.
  pub record SelectBegins (choices : List Choice) (otherwise : Option Body) : Type 0 where
    pub turn : slot home core thread ≡ makes (with_thread core thread (record x { pc = x.pc + 1; event_bit = true }))
    pub armed : IsArmed places thread choices (with_thread core thread (record x { pc = x.pc + 1; event_bit = true }))
    pub action : acts s.program s.stimulus s.world (go s.number) ≡ Some (goes_to s (chooses choices otherwise ∷ s.rest))

  -- The thread: the enabled cases are set up, and it takes events at the instruction that is for that.
  pub record ThreadAtSelect (choices : List Choice) (otherwise : Option Body) : Type 0 where
    pub moment : SameMoment home core s
    pub armed : IsArmed places thread choices core
    pub stands : (n : ℕ) (c : Choice) → slice_get choices n ≡ Some c → StandsFor core s places c.input.resource
    pub here : slice_get core.threads thread ≡ Some x
    pub running : x.mode ≡ Running
    pub takes_events : x.event_bit ≡ true
    pub code : WaitsAt home x.pc otherwise

  -- It takes the event of a case, is at the event's vector then, and the branch takes this case: its input and its body come next, and what
  -- is fixed for the input is latched.
  pub record TakesCase (n : ℕ) (choice : Choice) (res : Res) : Type 0 where
    pub resource : res ≡ res_of places choice.input.resource
    pub turn : slot home core thread ≡ makes (event_taken home core thread x res)
    pub leads : slice_get (event_taken home core thread x res).threads thread ≡
        Some (record x { pc = vector_of core.events res; event_bit = false })
    pub latched : LatchIsOf places (event_taken home core thread x res) (input_taken s choice.input choice.input.resource)
    pub action : acts s.program s.stimulus s.world (take s.number n) ≡
        Some (goes_to s (input_taken s choice.input choice.input.resource ∷ body_items choice.body s.rest))

  -- it pauses, and the branch can do nothing
  pub record Waits : Type 0 where
    pub turn : slot home core thread ≡ Paused
    pub no_go : acts s.program s.stimulus s.world (go s.number) ≡ None
    pub no_take : (n : ℕ) → acts s.program s.stimulus s.world (take s.number n) ≡ None
    pub no_default : acts s.program s.stimulus s.world (default s.number) ≡ None

  -- it goes on to the next instruction, and the branch to its default
  pub record TakesDefault (body : Body) : Type 0 where
    pub turn : slot home core thread ≡ makes (with_thread core thread (record x { pc = x.pc + 1; event_bit = false }))
    pub action : acts s.program s.stimulus s.world (default s.number) ≡ Some (goes_to s (body_items body s.rest))

  pub data SelectTurn (choices : List Choice) (otherwise : Option Body) : Type 0 where
    takes_case : (n : ℕ) (choice : Choice) (res : Res) → slice_get choices n ≡ Some choice → TakesCase n choice res →
        SelectTurn choices otherwise
    waits : otherwise ≡ None → Waits → SelectTurn choices otherwise
    takes_default : (body : Body) → otherwise ≡ Some body → TakesDefault body → SelectTurn choices otherwise
