-- What the code of a transfer over a channel does.
use Rattle.std.specs.Prelude.{◌≡◌, ℕ, ◌+◌, ◌-◌, ◌*◌, ◌≤◌, Bool, true, false, List, ◌++◌, length, Option, Some, None, slice_get}
use Rattle.xw_words.specs.declared.pos.Pos.{Pos}
use Rattle.xs_instr.specs.declared.image.Home.{Home}
use Rattle.xs_instr.specs.declared.instr.Reg.{Reg}
use Rattle.xs_instr.specs.declared.instr.Reg.TheVariants.{R0}
use Rattle.xs_instr.specs.declared.state.CoreState.{CoreState}
use Rattle.xs_instr.specs.declared.state.Regs.{Regs}
use Rattle.xs_instr.specs.declared.state.Thread.{Thread}
use Rattle.xs_instr.specs.Lines.{Line}
use Rattle.xs_instr.specs.OwnSteps.{HasRoom, IsApart, Kept, RunsAt, StandAt, Within, temporary}
use Rattle.xs_instr.specs.Registers.{reg_get}
use Rattle.xs_instr.specs.Resources.{AnEnd, named}
use Rattle.xc_kernel.specs.Plain as kernel
use Rattle.xc_kernel.specs.Values.{Value, word, error}
use Rattle.xc_kernel.specs.Eval.{Store, eval}
use Rattle.xl_expr.specs.declared.plan.Plan.{Plan}
use Rattle.xl_expr.specs.declared.plan.ResAt.{ResAt}
use Rattle.xl_expr.specs.declared.plan.VarPlan.{VarPlan}
use Rattle.xl_expr.specs.Destinations.{WritesTo}
use Rattle.xl_expr.specs.Identifiers.{IsIdentifier}
use Rattle.xl_expr.specs.Measures.{nodes, nodes_at}
use Rattle.xl_expr.specs.Plans.{end_in}
use Rattle.xl_expr.specs.Stores.{StoreOutcome, index_in, is_working}
use Rattle.xl_expr.specs.Works.{Errs, IsLaid, PlaceIsLaid}
use Rattle.xl_chan.specs.Protocols.{Act, ActsAll, at_index, input_acts, output_acts}

-- the layout: the plan's identifier of an end names end e of the core
pub record EndStands
    (home : Home) (relied : ℕ → Bool) (s dp : ℕ) (plan : Plan) (end : ℕ)
    (e : ℕ) (words : List ℕ) : Type 0 where
  pub place : ResAt
  pub planned : end_in plan.ends end ≡ Some place
  pub name : ℕ
  pub name_is : IsIdentifier relied s dp words place name
  pub names : named home.number name ≡ AnEnd e

-- where a protocol ends: at the index behind the lines
abbrev pub EndsAt : (pc index : ℕ) → Regs → Type 0
EndsAt pc index regs = index ≡ pc

-- The thread stands at the first step of a protocol; its temporary words are there, its registers but r0, r10 and r11 are as they
-- were, and so are all words that it relies on but its temporary ones. From there on it takes the protocol's steps, and Q says what
-- follows them, by the index and the registers there.
pub record AtProtocol
    (home : Home) (relied : ℕ → Bool) (s t e : ℕ) (thread : Thread) (old : List ℕ) (pos : Pos)
    (acts : List Act) (Q : ℕ → Regs → Type 0) (b : CoreState) : Type 0 where
  pub index : ℕ
  pub regs : Regs
  pub here : slice_get b.threads t ≡ Some (at_index thread index regs)
  pub others : (r : Reg) → is_working r ≡ false → reg_get regs r ≡ reg_get thread.regs r
  pub within : s + temporary ≤ length b.words
  pub words : (w : ℕ) → relied w ≡ true → IsApart s w → slice_get b.words w ≡ slice_get old w
  pub steps : ActsAll home t e thread pos acts Q index regs

-- The lines lead to a protocol on the channel of an end: wherever they stand from index pc on, in each state of the core in which the
-- plan's layout holds, and whatever other threads do in between that leaves what this one relies on, the thread stands after at most
-- so many own steps at the first step of the protocol, whose last step leads behind the lines. The steps are told by the registers
-- that it began with. Of its end it relies on nothing but that it is there.
pub record ReachesProtocol
    (plan : Plan) (end : ℕ) (acts : Regs → List Act) (most : ℕ) (pos : Pos) (pc : ℕ) (lines : List Line) : Type 0 where
  pub by : (home : Home) (relied : ℕ → Bool) (s t e : ℕ) (thread : Thread) (a : CoreState) →
      StandAt home.parts.code pc lines → RunsAt t pc thread a → HasRoom relied s thread.regs a.words →
      EndStands home relied s thread.regs.dp plan end e a.words →
      Within home relied (IsApart s) t
      (AtProtocol home relied s t e thread a.words pos (acts thread.regs) (EndsAt (pc + length lines)))
      most a

-- the lines send a register's word over a channel
abbrev pub Sends : Plan → (end : ℕ) → (value : Reg) → (plain : Bool) → Pos → (pc : ℕ) → List Line → Type 0
Sends plan end value plain pos pc lines =
    ReachesProtocol plan end (λ regs. output_acts (reg_get regs value) plain) 3 pos pc lines

-- and take a word from it to a register
abbrev pub Takes : Plan → (end : ℕ) → (to : Reg) → (plain : Bool) → Pos → (pc : ℕ) → List Line → Type 0
Takes plan end to plain pos pc lines = ReachesProtocol plan end (λ regs. input_acts to plain) 3 pos pc lines

-- an output of a value: the value's error comes first

abbrev pub OutputReaches : Home → (ℕ → Bool) → (s t e : ℕ) → Thread → List ℕ → (plain : Bool) → Pos → (pc : ℕ) → Value → CoreState → Type 0
OutputReaches home relied s t e thread old plain pos pc (word v) b =
    AtProtocol home relied s t e thread old pos (output_acts v plain) (EndsAt pc) b
OutputReaches home relied s t e thread old plain pos pc (error kind at_pos') b =
    (c : CoreState) → Kept relied t b c → Errs home t kind at_pos' c

-- The lines send an expression's word over a channel: the thread stands after at most 8 own steps for each node and three more at
-- the first step of the protocol of an output of `eval`'s word, or its next step traps with `eval`'s error.
pub record SendsValue
    (plan : Plan) (end : ℕ) (x : kernel.Expression) (plain : Bool) (pos : Pos) (pc : ℕ) (lines : List Line) : Type 0 where
  pub by : (home : Home) (relied : ℕ → Bool) (s t e : ℕ) (thread : Thread) (store : Store) (a : CoreState) →
      StandAt home.parts.code pc lines → RunsAt t pc thread a → HasRoom relied s thread.regs a.words →
      IsLaid plan.vars relied s thread.regs.dp a.words store x →
      EndStands home relied s thread.regs.dp plan end e a.words →
      Within home relied (IsApart s) t
      (OutputReaches home relied s t e thread a.words plain pos (pc + length lines) (eval store x))
      (8 * nodes x + 3) a

-- what follows an input's protocol: nothing, or the word in r0 is written to a place, whose index comes behind the transfer and by the
-- variables of then
abbrev pub StoresFrom : List (Option VarPlan) → Home → (ℕ → Bool) → (s t : ℕ) → Thread → Option kernel.Place → (pc index : ℕ) → Regs → Type 0
StoresFrom vars home relied s t thread None pc index regs = EndsAt pc index regs
StoresFrom vars home relied s t thread (Some place) pc index regs =
    (store : Store) (c : CoreState) →
    slice_get c.threads t ≡ Some (at_index thread index regs) → HasRoom relied s regs c.words →
    PlaceIsLaid vars relied s regs.dp c.words store place →
    Within home relied (IsApart s) t
    (StoreOutcome vars home relied s t (at_index thread index regs) c.words place regs.r0 pc (index_in store place))
    (8 * nodes_at place - 1) c

-- The lines of an input: those of its transfer, and then those that write the word, which stands in r0, where there is a place for it.
pub record Receives
    (plan : Plan) (end : ℕ) (dest : Option kernel.Place) (plain : Bool) (pos : Pos) (pc : ℕ) (lines : List Line) : Type 0 where
  pub transfer : List Line
  pub write : List Line
  pub is : lines ≡ transfer ++ write
  pub takes : Takes plan end R0 plain pos pc transfer
  pub writes : WritesTo plan.vars dest (pc + length transfer) write

-- The lines take a word from a channel and write it to a place, where there is one: the thread stands after at most three own steps
-- at the first step of the protocol of an input to r0, behind which it writes the word or traps with the error of the place's index.
pub record TakesTo
    (plan : Plan) (end : ℕ) (dest : Option kernel.Place) (plain : Bool) (pos : Pos) (pc : ℕ) (lines : List Line) : Type 0 where
  pub by : (home : Home) (relied : ℕ → Bool) (s t e : ℕ) (thread : Thread) (a : CoreState) →
      StandAt home.parts.code pc lines → RunsAt t pc thread a → HasRoom relied s thread.regs a.words →
      EndStands home relied s thread.regs.dp plan end e a.words →
      Within home relied (IsApart s) t
      (AtProtocol home relied s t e thread a.words pos
      (input_acts R0 plain) (StoresFrom plan.vars home relied s t thread dest (pc + length lines)))
      3 a
