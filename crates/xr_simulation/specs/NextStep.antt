-- What a thread's next step is, once it stands at the own instruction of its branch's first item, and the branch's action that goes with it.
use Rattle.std.specs.Prelude.{◌≡◌, ◌⊎◌, ℕ, zero, suc, ◌+◌, ◌*◌, ◌-◌, ◌<◌, ◌≤◌, Bool, true, false, List, [], ◌∷◌, Option, Some, None, length, slice_get, slice_index_or, slice_set, nat_eq, ◌||◌}
use Rattle.xw_words.specs.declared.pos.Pos.{Pos}
use Rattle.xs_instr.specs.declared.state.CoreState.{CoreState}
use Rattle.xs_instr.specs.declared.instr.Reg.{Reg}
use Rattle.xs_instr.specs.declared.instr.Reg.TheVariants.{R0, R1, R2, R3, R4, R5, R6, R7}
use Rattle.xs_instr.specs.declared.state.Mode.TheVariants.{Unused, Waiting}
use Rattle.xs_instr.specs.declared.state.Port.{Port}
use Rattle.xs_instr.specs.declared.state.Regs.{Regs}
use Rattle.xs_instr.specs.declared.state.Res.{Res}
use Rattle.xs_instr.specs.declared.state.Res.TheVariants.{End as ResEnd, Port as ResPort, Timer as ResTimer}
use Rattle.xs_instr.specs.declared.state.Thread.{Thread}
use Rattle.xs_instr.specs.declared.state.Timer.{Timer}
use Rattle.xs_instr.specs.declared.trace.Record.{Record}
use Rattle.xs_instr.specs.declared.trace.Record.TheVariants.{Fault}
use Rattle.xs_instr.specs.declared.trace.Trap.{Trap}
use Rattle.xs_instr.specs.Did.{Made, Paused, Traps, makes}
use Rattle.xs_instr.specs.Events.{vector_of}
use Rattle.xs_instr.specs.Machine.{noted}
use Rattle.xs_instr.specs.OwnSteps.{temporary}
use Rattle.xs_instr.specs.Pool.{all_joined, all_started, all_wait, is_tied, some_tied}
use Rattle.xs_instr.specs.Registers.{reg_get}
use Rattle.xs_instr.specs.Resources.{sync_name}
use Rattle.xs_instr.specs.Rows.{goes_on as row_goes_on, put_syncs, put_threads}
use Rattle.xs_instr.specs.Slot.{slot, fault_of}
use Rattle.xc_kernel.specs.declared.kernel.PortUse.{PortUse}
use Rattle.xc_kernel.specs.declared.statement.KRes.{KRes}
use Rattle.xc_kernel.specs.declared.statement.KRes.TheVariants as resource
use Rattle.xc_kernel.specs.Plain as kernel
use Rattle.xc_kernel.specs.Values.{word}
use Rattle.xc_kernel.specs.Eval.{eval, words_of}
use Rattle.xc_kernel.specs.Things.{change}
use Rattle.xc_meaning.specs.Counts.KernelCounts.{branch_count}
use Rattle.xc_meaning.specs.Settings.Sides.{sides_in}
use Rattle.xc_meaning.specs.States.Channels.{Side, offer}
use Rattle.xc_meaning.specs.States.Items.{Body, Choice, Item, body_items, chooses, does, fixed, ends, stores, stamps, storing, todo}
use Rattle.xc_meaning.specs.States.Branches.{Branch, runs, ended, erred}
use Rattle.xc_meaning.specs.States.Worlds.{World, Action, go, take, default}
use Rattle.xc_meaning.specs.Runs.{acts}
use Rattle.xc_meaning.specs.Uses.{by_item}
use Rattle.xl_chan.specs.Protocols.{Act, ActsAll, input_acts, output_acts}
use Rattle.xl_expr.specs.ResourceParts.{resource_state}
use Rattle.xl_expr.specs.Stores.{Stores}
use Rattle.xl_ends.specs.Ends.{Sides, codes_in}
use Rattle.xl_par.specs.Acquired.{Acquired, IsAmong, nothing_acquired}
use Rattle.xl_port.specs.Stamps.{Stamps}
use Rattle.xl_image.specs.Images.{decl_of}
use Rattle.xl_plan.specs.Layout.{core_of, port_number, timer_number}
use Rattle.xl_select.specs.Entry.{EntersPortCase, EntersTimerCase}
use Rattle.xr_events.specs.Armed.{IsArmed, Places, res_of}
use Rattle.xr_events.specs.Latches.{HasLatched}
use Rattle.xr_events.specs.Turns.{WaitsAt}
use Rattle.xr_channels.specs.Phases.{awaits_ack, offers, sends_end}
use Rattle.xr_simulation.specs.Items.{EndAt, ItemsAt}
use Rattle.xr_simulation.specs.Parents.{Parent, syncs_of}
use Rattle.xl_statements.specs.Pieces.{Exit, LinesAt, PieceAt}
use Rattle.xr_simulation.specs.Fits.{Fits, ItemsFit, greatest}
use Rattle.xr_simulation.specs.Runners.{HoldsPlaces, Activation, Setting, Runner, IsLaidOut, IsMine, IsPort, code, end_place, home, plan, port_place, timer_place}
use Rattle.xr_simulation.specs.Sizes.{sizes_in, sizes_of}
use Rattle.xr_simulation.specs.Transfers.{Transfer, AwaitsNothing, GoesWith, acts_left, items_behind}
use Rattle.xr_simulation.specs.ThreadViews.{ThreadView, Rely, Guarantee, LeadsIn, after, giving_back, running, running_so}

-- an unused thread, which takes no events and isn't tied
pub record IsFreeThread (thread : Thread) : Type 0 where
  pub unused : thread.mode ≡ Unused
  pub no_events : thread.event_bit ≡ false
  pub untied : thread.tie ≡ None

abbrev pub IsFree : Option Thread → Type 0
IsFree None = ⊥
IsFree (Some thread) = IsFreeThread thread

-- a thread that waits and is tied to a synchroniser
pub record IsTiedThread (sync : ℕ) (thread : Thread) : Type 0 where
  pub waits : thread.mode ≡ Waiting
  pub no_events : thread.event_bit ≡ false
  pub tied : thread.tie ≡ Some sync

abbrev pub IsWaitingTied : (sync : ℕ) → Option Thread → Type 0
IsWaitingTied n None = ⊥
IsWaitingTied n (Some thread) = IsTiedThread n thread

-- the code of a branch, and the sides of channels in which it stands
pub record Placed : Type 0 where
  pub sides : Sides
  pub code : kernel.Statements

-- the branches of a `par` whose maker stands in these sides, behind those with this code, of which the last one is first
abbrev pub placed_in : Sides → (before : List kernel.Statements) → kernel.Branches → List Placed
placed_in sides before kernel.no_branch = []
placed_in sides before (kernel.more_branches (kernel.branch ss pos) bs) =
    record { sides = sides_in 0 before ss (codes_in bs) sides; code = ss } ∷ placed_in sides (ss ∷ before) bs

-- the last one first, before others
abbrev pub backwards_on : {A : Type 0} → List A → List A → List A
backwards_on [] ys = ys
backwards_on (x ∷ xs) ys = backwards_on xs (x ∷ ys)

abbrev pub backwards : {A : Type 0} → List A → List A
backwards xs = backwards_on xs []

abbrev pub failed : Branch → Branch
failed b = record b { mode = erred; items = [] }

abbrev pub finished : Branch → Branch
finished b = record b { mode = ended; items = [] }

-- what a branch has in hand before it does its first item: for a `par` of several branches it lacks a thread for each behind the first
abbrev pub hand_for : kernel.Branches → Option Acquired
hand_for kernel.no_branch = None
hand_for (kernel.more_branches b kernel.no_branch) = None
hand_for (kernel.more_branches b (kernel.more_branches c bs)) = Some (nothing_acquired (branch_count (kernel.more_branches c bs)))

abbrev pub first_hand : List Item → Option Acquired
first_hand (does (kernel.par bs) ∷ rest) = hand_for bs
first_hand items = None

-- a branch takes an event next: its first item is a `select` whose enabled cases are known
abbrev pub is_watching : List Item → Bool
is_watching (chooses choices otherwise ∷ rest) = true
is_watching items = false

-- an action of a branch's own: it does its first item, takes a case of a `select`, or its default
pub data OwnAction (b : ℕ) : Action → Type 0 where
  own_go : OwnAction b (go b)
  own_take : (n : ℕ) → OwnAction b (take b n)
  own_default : OwnAction b (default b)

-- the first item changes a variable
abbrev pub first_changes : List Item → (variable : ℕ) → Bool
first_changes [] v = false
first_changes (item ∷ rest) v = by_item (change v) item

-- branch b of a state runs, with these items
pub record Runs (x : World) (b : ℕ) (branch : Branch) (items : List Item) : Type 0 where
  pub known : slice_get x.branches b ≡ Some branch
  pub running : branch.mode ≡ runs
  pub items_are : branch.items ≡ items

-- the register in which the name of the synchroniser at a place stands, among those of the branches that wait
abbrev pub name_register : ℕ → Reg
name_register zero = R1
name_register (suc zero) = R2
name_register (suc (suc zero)) = R3
name_register (suc (suc (suc zero))) = R4
name_register (suc (suc (suc (suc zero)))) = R5
name_register (suc (suc (suc (suc (suc zero))))) = R6
name_register more = R7

pub record HoldsNames (core : ℕ) (syncs : List ℕ) (regs : Regs) : Type 0 where
  pub by : (place n : ℕ) → slice_get syncs place ≡ Some n → place < 7 → reg_get regs (name_register place) ≡ sync_name core n

-- the port with this number
abbrev pub is_port_number : (n : ℕ) → Res → Bool
is_port_number n (ResPort m) = nat_eq n m
is_port_number n (ResTimer m) = false
is_port_number n (ResEnd m) = false

-- and the timer
abbrev pub is_timer_number : (n : ℕ) → Res → Bool
is_timer_number n (ResPort m) = false
is_timer_number n (ResTimer m) = nat_eq n m
is_timer_number n (ResEnd m) = false

-- the port or timer of an input on a core
abbrev pub is_latched_by : Setting → (core : ℕ) → KRes → Res → Bool
is_latched_by g core (resource.Port p) part = is_port_number (port_number core g.program.ports p) part
is_latched_by g core (resource.Timer t) part = is_timer_number (timer_number core g.program.timers t) part
is_latched_by g core (resource.Chan c) part = false

-- A thread stands on a part of its core where what it does next is to find it as it is: a port whose stamp one of the first items has
-- still to store, or the port or timer that has latched what the first item has fixed.
abbrev pub stands_on_part : Setting → (core : ℕ) → List Item → Res → Bool
stands_on_part g core (stores place v ∷ rest) part = stands_on_part g core rest part
stands_on_part g core (stamps (resource.Port p) place v ∷ rest) part =
    is_port_number (port_number core g.program.ports p) part || stands_on_part g core rest part
stands_on_part g core (fixed i v counter ∷ rest) part = is_latched_by g core i.resource part
stands_on_part g core items part = false

-- two cores have the same of each of these parts
abbrev pub SameParts : Setting → (core : ℕ) → List Item → (a b : CoreState) → Type 0
SameParts g core items a b = (part : Res) → stands_on_part g core items part ≡ true → resource_state b part ≡ resource_state a part

-- A piece of code on a channel: it puts a word out, or takes one in.
pub data Piece : Type 0 where
  puts_out : (output : kernel.Output) (value : ℕ) → Piece
  takes_in : (input : kernel.Input) → Piece

-- the statement whose code it is, the resource and the place that this names, and the steps of its protocol
abbrev pub statement_of : Piece → kernel.Statement
statement_of (puts_out o v) = kernel.output o
statement_of (takes_in i) = kernel.input i

abbrev pub resource_of : Piece → KRes
resource_of (puts_out o v) = o.resource
resource_of (takes_in i) = i.resource

abbrev pub pos_of : Piece → Pos
pos_of (puts_out o v) = o.pos
pos_of (takes_in i) = i.pos

abbrev pub piece_acts : Piece → List Act
piece_acts (puts_out o v) = output_acts v true
piece_acts (takes_in i) = input_acts R0 true

-- what is left to the branch behind its last step, where the thread has these registers then: a word that has come is in r0, and is
-- stored next
abbrev pub left_behind : Piece → List Item → Regs → List Item
left_behind (puts_out o v) rest last = rest
left_behind (takes_in i) rest last = storing i.target last.r0 rest

-- The value of an output is this word. What follows an input awaits nothing.
abbrev pub IsReady : Piece → World → List Item → Type 0
IsReady (puts_out o v) x rest = eval x.store o.value ≡ word v
IsReady (takes_in i) x rest = AwaitsNothing rest

-- Of an output whose word is on a link the offer isn't put yet: the branch has the output to do still, with this word for its value.
pub record IsUnput (transfer : Transfer) (pos : Pos) (items : List Item) (x : World) : Type 0 where
  pub output : kernel.Output
  pub value : ℕ
  pub rest : List Item
  pub late : transfer.late ≡ offer value ∷ []
  pub phase : (transfer.phase ≡ sends_end value) ⊎ (transfer.phase ≡ awaits_ack (offers value))
  pub items_are : items ≡ does (kernel.output output) ∷ rest
  pub on_channel : output.resource ≡ resource.Chan transfer.channel
  pub place : output.pos ≡ pos
  pub ready : eval x.store output.value ≡ word value

-- What is left to the branch of a thread inside a transfer: nothing is late, and it goes with the phase; or the offer isn't put yet.
pub data LeftTo (transfer : Transfer) (pos : Pos) (items : List Item) (x : World) : Type 0 where
  on_time : transfer.late ≡ [] → GoesWith transfer.phase transfer.channel pos items → LeftTo transfer pos items x
  unput : IsUnput transfer pos items x → LeftTo transfer pos items x

-- dp names a block's base and sp a word, and from r1 on stand the names of these synchronisers of a core, the first one's first
pub record HasBasesBy (block : Activation) (stack_word core : ℕ) (syncs : List ℕ) (regs : Regs) : Type 0 where
  pub base : regs.dp ≡ 4 * block.base
  pub stack : regs.sp ≡ 4 * stack_word
  pub names : HoldsNames core syncs regs

module _ (g : Setting) (r : Runner) where
  -- the runner's thread is at an index with these registers
  abbrev pub IsAt : ThreadView → ℕ → Regs → Type 0
  IsAt z pc regs = slice_get z.core.threads r.thread ≡ Some (running r.tie pc regs)

  -- the same where its branch has these items to do: it takes events where the first of them waits for one
  abbrev pub IsAtItems : List Item → ThreadView → ℕ → Regs → Type 0
  IsAtItems items z pc regs = slice_get z.core.threads r.thread ≡ Some (running_so (is_watching items) r.tie pc regs)

  -- dp and sp are the runner's, and the names are those of the branches that wait, the innermost one's first
  abbrev pub HasBases : Regs → Type 0
  HasBases regs = HasBasesBy r.block r.stack r.core (syncs_of r.parents) regs

  -- the words of the variables that the branch may use are those of the store, and the temporary words are there
  pub record HoldsStore (z : ThreadView) : Type 0 where
    pub holds : HoldsPlaces g r.core r.footprint.uses z.core.words z.world.store
    pub room : r.stack + temporary ≤ length z.core.words

  -- a port stands at its place as it is declared
  pub record PortIs (p : ℕ) (listed : PortUse) (z : ThreadView) : Type 0 where
    pub port : Port
    pub there : slice_get z.core.ports (port_place g r p) ≡ Some port
    pub declared : port.decl ≡ decl_of listed

  abbrev pub PortsStand : ThreadView → Type 0
  PortsStand z = (p : ℕ) (listed : PortUse) → IsPort g r p listed → PortIs p listed z

  -- a timer is at its place
  pub record TimerIs (t : ℕ) (z : ThreadView) : Type 0 where
    pub timer : Timer
    pub there : slice_get z.core.timers (timer_place g r t) ≡ Some timer

  -- the core has as many words, timers, channel ends and watches as its part of the image gives it
  abbrev pub IsSized : ThreadView → Type 0
  IsSized z = sizes_of z.core ≡ sizes_in (home g r).parts

  -- port p of the core has this stamp
  abbrev pub HasStamp : (p stamp : ℕ) → CoreState → Type 0
  HasStamp p stamp core =
      (port : Port) × (slice_get core.ports (port_place g r p) ≡ Some port) × (port.stamp ≡ stamp)

  -- what stands where the runner's branch ends
  abbrev pub EndOf : (pc j : ℕ) → Type 0
  EndOf pc j = EndAt (plan g r) (code g r) r.tie r.parents pc j

  -- the code of items stands at an index
  abbrev pub ItemsFrom : List Item → List Exit → (pc j : ℕ) → Type 0
  ItemsFrom items exits pc j = ItemsAt (plan g r) (code g r) r.sides EndOf items exits pc j

  -- where the runner's resources are on its core; the end of a channel is that of the side in which it stands
  abbrev pub end_on : Option Side → (channel : ℕ) → ℕ
  end_on None c = 0
  end_on (Some side) c = end_place g r c side

  abbrev pub resources_here : Places
  resources_here = record {
    port = port_place g r;
    timer = timer_place g r;
    end = λ c. end_on (slice_index_or r.sides c None) c;
  }

  -- the code at which a case begins that was taken, from one index to another, where its resource has latched something
  abbrev pub EntersAt : KRes → kernel.Input → (pc pc' : ℕ) → Type 0
  EntersAt (resource.Port p) i pc pc' = LinesAt (code g r) (EntersPortCase (plan g r) i) pc pc'
  EntersAt (resource.Timer t) i pc pc' = LinesAt (code g r) (EntersTimerCase (plan g r) i) pc pc'
  EntersAt (resource.Chan c) i pc pc' = ⊥

  -- The code of a case's input stands at an index, and behind it that of what follows the input, with at most so many jumps. A port's or
  -- timer's is entered with what was latched, and a channel's is a whole input.
  abbrev pub CaseAt : KRes → kernel.Input → (behind : List Item) → (most index : ℕ) → Type 0
  CaseAt (resource.Chan c) i behind most index =
      (exits : List Exit) × (jumps : ℕ) × (jumps ≤ most) × ItemsFrom (does (kernel.input i) ∷ behind) exits index jumps
  CaseAt res i behind most index =
      (entered : ℕ) × (exits : List Exit) × (jumps : ℕ) × (jumps ≤ most)
      × EntersAt i.resource i index entered × ItemsFrom behind exits entered jumps

  -- and that of the default, where there is one
  abbrev pub DefaultAt : Option Body → List Item → (most index : ℕ) → Type 0
  DefaultAt None rest most index = Unit {0}
  DefaultAt (Some body) rest most index =
      (exits : List Exit) × (jumps : ℕ) × (jumps ≤ most) × ItemsFrom (body_items body rest) exits index jumps

  -- a transfer over a channel is on a side of it in which the branch stands, whose end is on the runner's core
  abbrev pub IsOnSide : KRes → Type 0
  IsOnSide (resource.Port p) = Unit {0}
  IsOnSide (resource.Timer t) = Unit {0}
  IsOnSide (resource.Chan c) =
      (side : Side) × (slice_index_or r.sides c None ≡ Some side) × (core_of g.program c side ≡ r.core)

  -- A thread stands at its select, with j jumps between what is left: it takes events there, its enabled cases are set up, each one's
  -- vector leads to the case's code, and the default's stands behind the instruction that looks for an event once.
  pub record StandsAtSelect (choices : List Choice) (otherwise : Option Body) (rest : List Item) (j pc : ℕ)
      (core : CoreState) : Type 0 where
    pub code : WaitsAt (home g r) pc otherwise
    pub armed : IsArmed resources_here r.thread choices core
    pub ends : (n : ℕ) (c : Choice) → slice_get choices n ≡ Some c → IsOnSide c.input.resource
    pub at_cases : (n : ℕ) (c : Choice) → slice_get choices n ≡ Some c →
        CaseAt c.input.resource c.input (body_items c.body rest) (j + 1) (vector_of core.events (res_of resources_here c.input.resource))
    pub at_default : DefaultAt otherwise rest (j + 1) (pc + 1)

  -- Where a thread stands between two own steps, at an index with these registers: at the code of its branch's items, with j jumps
  -- between them. A store is what an earlier item left to be done: its word is in r0, and behind its code, with whatever registers,
  -- stands what comes next, which takes no event, as long as the parts of the core stay on which that stands. So is a stamp: its port
  -- has it, and what comes behind its code stands on no part of the core. The input of a case that was taken stands at the case's
  -- code, and its port or timer has latched what the input has fixed. A select that has begun stands where the thread takes events.
  abbrev pub IsPlacedAt : List Item → (j pc : ℕ) → Regs → CoreState → Type 0
  IsPlacedAt (stores place v ∷ rest) j pc regs core =
      (stored : ℕ) × (regs.r0 ≡ v) × LinesAt (code g r) (Stores (plan g r).vars place R0) pc stored × (is_watching rest ≡ false)
      × ((regs' : Regs) (core' : CoreState) → HasBases regs' → SameParts g r.core rest core core' → IsPlacedAt rest j stored regs' core')
  IsPlacedAt (stamps (resource.Port p) place v ∷ rest) j pc regs core =
      (stored : ℕ) × HasStamp p v core × LinesAt (code g r) (Stamps (plan g r) (resource.Port p) place) pc stored
      × (is_watching rest ≡ false) × ((regs' : Regs) (core' : CoreState) → HasBases regs' → IsPlacedAt rest j stored regs' core')
  IsPlacedAt (fixed i v counter ∷ rest) j pc regs core =
      (entered : ℕ) × (exits : List Exit) × HasLatched resources_here core i.resource v counter
      × EntersAt i.resource i pc entered × ItemsFrom rest exits entered j
  IsPlacedAt (chooses choices otherwise ∷ rest) j pc regs core = StandsAtSelect choices otherwise rest j pc core
  IsPlacedAt items j pc regs core = (exits : List Exit) × ItemsFrom items exits pc j

  -- the branch has these items, and the core has its words and ports
  pub record Has (items : List Item) (z : ThreadView) : Type 0 where
    pub branch : Branch
    pub runs : Runs z.world r.branch branch items
    pub core : branch.core ≡ r.core
    pub holds : HoldsStore z
    pub ports : PortsStand z

  -- The thread stands where its branch's items are to be done.
  pub record Rest (items : List Item) (j : ℕ) (z : ThreadView) : Type 0 where
    pub pc : ℕ
    pub regs : Regs
    pub here : IsAtItems items z pc regs
    pub bases : HasBases regs
    pub stands : IsPlacedAt items j pc regs z.core
    pub fits : ItemsFit g r items
    pub has : Has items z

  -- The thread is at the instruction that gives a synchroniser back, and behind it at the code of its branch's items, with j jumps between them.
  pub record GivesBack (items : List Item) (j : ℕ) (z : ThreadView) : Type 0 where
    pub sync : ℕ
    pub in_hand : z.hand ≡ giving_back sync
    pub pc : ℕ
    pub regs : Regs
    pub exits : List Exit
    pub here : IsAt z pc regs
    pub bases : HasBases regs
    pub at_code : ItemsFrom items exits (pc + 1) j
    pub fits : ItemsFit g r items
    pub has : Has items z
    pub frees : (c : CoreState) → slice_get c.threads r.thread ≡ Some (running r.tie pc regs) → slice_get c.syncs sync ≡ Some true →
        some_tied c.threads sync ≡ false →
        slot (home g r) c r.thread ≡ makes (row_goes_on (put_syncs c (slice_set c.syncs sync false)) r.thread (running r.tie pc regs) regs)

  -- The thread is at the instruction that joins the branches behind the first, whose maker is the innermost that waits; behind it stand the one that
  -- gives the synchroniser back, and the code of what is left to the maker.
  pub record JoinsAt (p : Parent) (ps : List Parent) (j : ℕ) (z : ThreadView) : Type 0 where
    pub sync : ℕ
    pub sync_is : p.sync ≡ Some sync
    pub no_hand : z.hand ≡ None
    pub pc : ℕ
    pub regs : Regs
    pub exits : List Exit
    pub here : IsAt z pc regs
    pub bases : HasBasesBy r.block r.stack r.core (syncs_of ps) regs
    pub at_code : ItemsAt (plan g r) (code g r) p.sides (EndAt (plan g r) (code g r) r.tie ps) p.items exits (pc + 2) j
    pub pauses : all_wait z.core.threads sync ≡ false → slot (home g r) z.core r.thread ≡ Paused
    pub joins : all_wait z.core.threads sync ≡ true → slot (home g r) z.core r.thread
        ≡ makes (row_goes_on (put_threads z.core (all_joined z.core.threads sync)) r.thread (running r.tie pc regs) regs)
    pub frees : (c : CoreState) → slice_get c.threads r.thread ≡ Some (running r.tie (pc + 1) regs) → slice_get c.syncs sync ≡ Some true →
        some_tied c.threads sync ≡ false →
        slot (home g r) c r.thread ≡ makes (row_goes_on (put_syncs c (slice_set c.syncs sync false)) r.thread (running r.tie (pc + 1) regs) regs)

  -- whatever the others do before it
  abbrev pub Joins : Parent → List Parent → ℕ → ThreadView → Type 0
  Joins p ps j z = (y : ThreadView) → Rely g r z y → JoinsAt p ps j y

  -- in at most n silent steps the thread is there, with j jumps to be done behind it
  abbrev pub IsJoining : Parent → List Parent → (most : ℕ) → ThreadView → Type 0
  IsJoining p ps most z = (n : ℕ) × (j : ℕ) × (n + j ≤ most) × LeadsIn g r (Joins p ps j) n z

  -- an action of a branch leaves this state: the branch is another, and only variables that its first item changes have other words
  pub record IsNext (x y : World) (branch next : Branch) (made : Option Record) : Type 0 where
    pub clocks : y.clocks ≡ x.clocks
    pub branches : y.branches ≡ slice_set x.branches r.branch next
    pub store : (v : ℕ) → first_changes branch.items v ≡ false → words_of y.store v ≡ words_of x.store v
    pub trace : y.trace ≡ noted x.trace made

  -- the branch acts, by an action of its own
  pub record Acts (x : World) (next : Branch → Branch) (made : Option Record) : Type 0 where
    pub branch : Branch
    pub known : slice_get x.branches r.branch ≡ Some branch
    pub mode : branch.mode ≡ runs
    pub core : branch.core ≡ r.core
    pub world : World
    pub action : Action
    pub own : OwnAction r.branch action
    pub acted : acts g.program g.stimulus x action ≡ Some world
    pub is_next : IsNext x world branch (next branch) made
    pub inboxes : world.inboxes ≡ x.inboxes

  -- the thread traps, and the branch errs
  pub record Errs (y : ThreadView) : Type 0 where
    pub kind : Trap
    pub pos : Pos
    pub traps : slot (home g r) y.core r.thread ≡ Traps kind
    pub fault : fault_of (home g r) y.core r.thread kind ≡ Fault r.core pos kind
    pub holds : HoldsStore y
    pub ports : PortsStand y
    pub no_hand : y.hand ≡ None
    pub acts : Acts y.world failed (Some (Fault r.core pos kind))
    pub store : acts.world.store ≡ y.world.store

  -- the thread of a root is freed, and the branch has ended
  pub record Frees (y : ThreadView) : Type 0 where
    pub root : r.tie ≡ None
    pub outermost : r.parents ≡ []
    pub left : CoreState
    pub made_is : slot (home g r) y.core r.thread ≡ Made left None []
    pub guarantee : Guarantee g r y (after g r y left)
    pub roots : left.roots ≡ y.core.roots - 1
    pub syncs : left.syncs ≡ y.core.syncs
    pub words : left.words ≡ y.core.words
    pub ports : left.ports ≡ y.core.ports
    pub channel_ends : left.ends ≡ y.core.ends
    pub unused : IsFree (slice_get left.threads r.thread)
    pub no_hand : y.hand ≡ None
    pub acts : Acts y.world finished None
    pub store : acts.world.store ≡ y.world.store
    pub rest : List Item
    pub has : Has (ends ∷ rest) y

  -- a tied thread waits from now on, and the branch has ended
  pub record Waits (y : ThreadView) : Type 0 where
    pub sync : ℕ
    pub tied : r.tie ≡ Some sync
    pub outermost : r.parents ≡ []
    pub left : CoreState
    pub made_is : slot (home g r) y.core r.thread ≡ Made left None []
    pub guarantee : Guarantee g r y (after g r y left)
    pub roots : left.roots ≡ y.core.roots
    pub syncs : left.syncs ≡ y.core.syncs
    pub words : left.words ≡ y.core.words
    pub ports : left.ports ≡ y.core.ports
    pub channel_ends : left.ends ≡ y.core.ends
    pub waits : IsWaitingTied sync (slice_get left.threads r.thread)
    pub no_hand : y.hand ≡ None
    pub acts : Acts y.world finished None
    pub store : acts.world.store ≡ y.world.store
    pub rest : List Item
    pub has : Has (ends ∷ rest) y

  -- The thread does the first item's own instruction, the branch does the item, and the thread is at the code of what is left. At most
  -- one more jump is to be done.
  pub record Goes (j : ℕ) (y : ThreadView) : Type 0 where
    pub left : CoreState
    pub made : Option Record
    pub made_is : slot (home g r) y.core r.thread ≡ Made left made []
    pub guarantee : Guarantee g r y (after g r y left)
    pub roots : left.roots ≡ y.core.roots
    pub syncs : left.syncs ≡ y.core.syncs
    pub channel_ends : left.ends ≡ y.core.ends
    pub no_hand : y.hand ≡ None
    pub items : List Item
    pub acts : Acts y.world (λ b. record b { items = items }) made
    pub jumps : ℕ
    pub fewer : jumps ≤ j + 1
    pub rest : Rest items jumps (record { core = left; world = acts.world; hand = None })

  -- a branch behind the first of a `par` that is set off: its thread stands at its code
  pub record IsSetOff (left : CoreState) (sync u : ℕ) (placed : Placed) : Type 0 where
    pub pc : ℕ
    pub regs : Regs
    pub here : slice_get left.threads u ≡ Some (running (Some sync) pc regs)
    pub base : regs.dp ≡ 4 * r.block.base
    pub stack : regs.sp ≡ 4 * ((plan g r).first_stack + temporary * u)
    pub at_code : ItemsAt (plan g r) (code g r) placed.sides (EndAt (plan g r) (code g r) (Some sync) []) (todo placed.code (ends ∷ [])) [] pc 0

  -- each of them, by the threads that were got, the last one first
  abbrev pub AreSetOff : (left : CoreState) → (sync : ℕ) → (threads : List ℕ) → List Placed → Type 0
  AreSetOff left sync [] [] = Unit {0}
  AreSetOff left sync [] (placed ∷ others) = ⊥
  AreSetOff left sync (u ∷ us) [] = ⊥
  AreSetOff left sync (u ∷ us) (placed ∷ others) = IsSetOff left sync u placed × AreSetOff left sync us others

  -- The thread sets off the branches of a `par` of several, and goes on with the first. At most one more jump is to be done behind that.
  pub record Begins (j : ℕ) (y : ThreadView) : Type 0 where
    pub hand : Acquired
    pub in_hand : y.hand ≡ Some hand
    pub sync : ℕ
    pub sync_is : hand.sync ≡ Some sync
    pub few_sync : sync < 8
    pub no_lack : hand.lacks ≡ 0
    pub branch : Branch
    pub first : kernel.Statements
    pub first_pos : Pos
    pub others : kernel.Branches
    pub several : 1 ≤ branch_count others
    pub rest : List Item
    pub does_par : Runs y.world r.branch branch (does (kernel.par (kernel.more_branches (kernel.branch first first_pos) others)) ∷ rest)
    pub tied : (u : ℕ) (x : Thread) → slice_get y.core.threads u ≡ Some x → is_tied x sync ≡ true → IsAmong hand.threads u
    pub pc : ℕ
    pub regs : Regs
    pub here : IsAt y pc regs
    pub bases : HasBasesBy r.block r.stack r.core (sync ∷ syncs_of r.parents) regs
    pub goes : slot (home g r) y.core r.thread ≡ makes (row_goes_on (put_threads y.core (all_started y.core.threads sync)) r.thread (running r.tie pc regs) regs)
    pub jumps : ℕ
    pub fewer : jumps ≤ j + 1
    pub own_code : (from count : ℕ) → ItemsAt (plan g r) (code g r) (sides_in 0 [] first (codes_in others) r.sides)
        (EndAt (plan g r) (code g r) r.tie
        (record {
          branch = r.branch;
          from = from;
          count = count;
          sync = Some sync;
          items = rest;
          sides = r.sides;
          inside = r.inside;
        } ∷ r.parents))
        (todo first (ends ∷ [])) [] (pc + 1) jumps
    pub set_off : AreSetOff (row_goes_on (put_threads y.core (all_started y.core.threads sync)) r.thread (running r.tie pc regs) regs)
        sync hand.threads (backwards (placed_in r.sides (first ∷ []) others))
    pub fits : ItemsFit g r (does (kernel.par (kernel.more_branches (kernel.branch first first_pos) others)) ∷ rest)
    pub has : Has (does (kernel.par (kernel.more_branches (kernel.branch first first_pos) others)) ∷ rest) y

  -- Behind the last step of a transfer the thread stands at an index with these registers, whatever the core is then, and takes no event.
  abbrev pub IsBehind : List Item → (j index : ℕ) → Regs → Type 0
  IsBehind items j index regs = HasBases regs × (is_watching items ≡ false) × ((core : CoreState) → IsPlacedAt items j index regs core)

  -- the branch has this transfer to do next, on a side of its channel in which it stands, whose end is on the runner's core
  pub record IsOnChannel (used : KRes) : Type 0 where
    pub channel : ℕ
    pub is_channel : used ≡ resource.Chan channel
    pub side : Side
    pub stands_in : slice_index_or r.sides channel None ≡ Some side
    pub here : core_of g.program channel side ≡ r.core

  -- from an index on the thread takes these steps on an end of its core, and then P holds of the index and the registers there
  abbrev pub TakesSteps : (channel : ℕ) → Side → Pos → List Act → (P : ℕ → Regs → Type 0) → (pc : ℕ) → Regs → Type 0
  TakesSteps c side pos acts P pc regs =
      ActsAll (home g r) r.thread (end_place g r c side) (running r.tie pc regs) pos acts P pc regs

  -- The thread is at the first step of a piece of code on a channel; behind the last one follows what is left to the branch.
  pub record Communicates (piece : Piece) (j : ℕ) (y : ThreadView) : Type 0 where
    pub rest : List Item
    pub on : IsOnChannel (resource_of piece)
    pub ready : IsReady piece y.world rest
    pub no_hand : y.hand ≡ None
    pub pc : ℕ
    pub regs : Regs
    pub here : IsAt y pc regs
    pub steps : TakesSteps on.channel on.side (pos_of piece) (piece_acts piece)
        (λ index last. IsBehind (left_behind piece rest last) j index last) pc regs
    pub fits : ItemsFit g r (does (statement_of piece) ∷ rest)
    pub has : Has (does (statement_of piece) ∷ rest) y

  -- The thread is inside a transfer, and takes the steps that are left of it; behind them follows what is left to the branch.
  pub record InTransfer (transfer : Transfer) (items : List Item) (j : ℕ) (z : ThreadView) : Type 0 where
    pub pos : Pos
    pub left : LeftTo transfer pos items z.world
    pub stands_in : slice_index_or r.sides transfer.channel None ≡ Some transfer.side
    pub no_hand : z.hand ≡ None
    pub pc : ℕ
    pub regs : Regs
    pub here : IsAt z pc regs
    pub steps : TakesSteps transfer.channel transfer.side pos (acts_left transfer.phase)
        (IsBehind (items_behind transfer.phase items) j) pc regs
    pub fits : ItemsFit g r items
    pub has : Has items z

  -- The thread is at its select, whose cases are on resources of the runner's own. Which cases are ready isn't said.
  pub record Selects (j : ℕ) (y : ThreadView) : Type 0 where
    pub choices : List Choice
    pub otherwise : Option Body
    pub rest : List Item
    pub no_hand : y.hand ≡ None
    pub pc : ℕ
    pub regs : Regs
    pub here : IsAtItems (chooses choices otherwise ∷ rest) y pc regs
    pub bases : HasBases regs
    pub stands : StandsAtSelect choices otherwise rest j pc y.core
    pub own : (n : ℕ) (c : Choice) → slice_get choices n ≡ Some c → IsMine g r (res_of resources_here c.input.resource)
    pub fits : ItemsFit g r (chooses choices otherwise ∷ rest)
    pub has : Has (chooses choices otherwise ∷ rest) y

  -- the branch can do nothing now
  pub record CannotAct (x : World) : Type 0 where
    pub goes : acts g.program g.stimulus x (go r.branch) ≡ None
    pub takes : (n : ℕ) → acts g.program g.stimulus x (take r.branch n) ≡ None
    pub takes_default : acts g.program g.stimulus x (default r.branch) ≡ None

  -- the thread's turn, beside what the branch can do
  pub data NextStep (j : ℕ) (y : ThreadView) : Type 0 where
    pauses : slot (home g r) y.core r.thread ≡ Paused → CannotAct y.world → NextStep j y
    errs : Errs y → NextStep j y
    goes_on : Goes j y → NextStep j y
    frees : Frees y → NextStep j y
    waits_tied : Waits y → NextStep j y
    begins : Begins j y → NextStep j y
    communicates : (piece : Piece) → Communicates piece j y → NextStep j y
    at_select : Selects j y → NextStep j y

  -- whatever the others do before it
  abbrev pub StableNextStep : ℕ → ThreadView → Type 0
  StableNextStep j z = (y : ThreadView) → Rely g r z y → NextStep j y

  -- in at most n silent steps the thread is at the own instruction of the first item, with j jumps to be done behind it
  abbrev pub Leads : (n j : ℕ) → ThreadView → Type 0
  Leads n j z = LeadsIn g r (StableNextStep j) n z

  -- a statement costs at most so many silent steps
  abbrev pub cost : ℕ
  cost = 8 * greatest g r + 8

  -- each case of a select is on a side of its channel
  abbrev pub CasesOnSides : kernel.Cases → Type 0
  CasesOnSides kernel.no_case = Unit {0}
  CasesOnSides (kernel.more_cases (kernel.case guard i ss) cs) = IsOnSide i.resource × CasesOnSides cs

  -- so are the enabled cases of a select
  abbrev pub ChoicesOnSides : List Choice → Type 0
  ChoicesOnSides [] = Unit {0}
  ChoicesOnSides (c ∷ cs) = IsOnSide c.input.resource × ChoicesOnSides cs

  abbrev pub StandsInSides : kernel.Statement → Type 0
  StandsInSides (kernel.output o) = IsOnSide o.resource
  StandsInSides (kernel.input i) = IsOnSide i.resource
  StandsInSides (kernel.select cs otherwise pos) = CasesOnSides cs
  StandsInSides other = Unit {0}

  -- From the code of a statement whose branch has it to do next, the thread comes soon to the statement's own instruction.
  abbrev pub StatementLeads : kernel.Statement → Type 0
  StatementLeads t =
      (rest : List Item) (exits : List Exit) (pc pc' j : ℕ) (z : ThreadView) (regs : Regs) →
      IsLaidOut g r → PieceAt (code g r) (plan g r) r.sides t exits pc pc' → Fits g r t → StandsInSides t →
      ItemsFrom rest exits pc' j → ItemsFit g r rest →
      Has (does t ∷ rest) z → IsSized z → IsAt z pc regs → HasBases regs → z.hand ≡ first_hand (does t ∷ rest) → Leads cost j z
