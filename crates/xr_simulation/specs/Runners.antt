-- What is fixed for a whole run: the program, its image, and the plan of each core; and how a thread runs a branch.
use Rattle.std.specs.Prelude.{◌≡◌, ℕ, zero, suc, ◌+◌, ◌<◌, ◌≤◌, Bool, true, false, ◌&&◌, ◌||◌, List, [], length, Option, Some, None, nat_le, nat_lt, slice_get, slice_index_or}
use Rattle.xs_instr.specs.declared.image.Code.{Code}
use Rattle.xs_instr.specs.declared.image.Home.{Home}
use Rattle.xs_instr.specs.declared.image.Image.{Image}
use Rattle.xs_instr.specs.declared.image.Stim.{Stim}
use Rattle.xs_instr.specs.Machine.{home_of}
use Rattle.xs_instr.specs.OwnSteps.{temporary}
use Rattle.xs_instr.specs.Resources.{AnEnd, APort, ATimer, named}
use Rattle.xs_instr.specs.declared.state.Res.TheVariants.{End as ResEnd, Port as ResPort, Timer as ResTimer}
use Rattle.xs_instr.specs.declared.state.Res.{Res}
use Rattle.xc_kernel.specs.declared.kernel.PortUse.{PortUse}
use Rattle.xc_kernel.specs.Plain as kernel
use Rattle.xc_kernel.specs.Eval.{Store}
use Rattle.xl_expr.specs.declared.plan.Plan.{Plan}
use Rattle.xl_expr.specs.declared.plan.ResAt.TheVariants.{Fixed}
use Rattle.xl_expr.specs.declared.plan.VarAt.{VarAt}
use Rattle.xl_expr.specs.declared.plan.VarAt.TheVariants.{Near, Far, Through}
use Rattle.xl_expr.specs.declared.plan.VarPlan.{VarPlan}
use Rattle.xl_expr.specs.Frames.{Frame, Holds, IsNear}
use Rattle.xl_expr.specs.Plans.{end_in, resource_at, var_in}
use Rattle.xl_plan.specs.Layout.{core_of, end_name, end_number, is_used_on, port_name, port_number, timer_name, timer_number}
use Rattle.xc_kernel.specs.Things.{channel, timer, variable, change, port}
use Rattle.xc_kernel.specs.declared.kernel.Timer.{Timer}
use Rattle.xc_meaning.specs.States.Channels.{Side}
use Rattle.xc_meaning.specs.States.Items.{Item}
use Rattle.xc_meaning.specs.Uses.{by_items}
use Rattle.xl_ends.specs.Ends.{Sides, end_of_side}
use Rattle.xr_simulation.specs.Parents.{Parent}
use Rattle.xr_simulation.specs.Sizes.{most_watches}
use Rattle.xr_simulation.specs.Transfers.{Transfer}

-- a program, its image, a stimulus, and the plan of each core
pub record Setting : Type 0 where
  pub program : kernel.Kernel
  pub image : Image
  pub stimulus : Stim
  pub plans : (core : ℕ) → Plan

-- what a branch may use and change for what is left to it: variables, ports, timers and channels of the kernel by number
pub record Footprint : Type 0 where
  pub uses : (variable : ℕ) → Bool
  pub changes : (variable : ℕ) → Bool
  pub ports : (port : ℕ) → Bool
  pub timers : (timer : ℕ) → Bool
  pub channels : (channel : ℕ) → Bool

-- what some items use and change
abbrev pub footprint_of : List Item → Footprint
footprint_of items = record {
  uses = λ v. by_items (variable v) items;
  changes = λ v. by_items (change v) items;
  ports = λ p. by_items (port p) items;
  timers = λ t. by_items (timer t) items;
  channels = λ c. by_items (channel c) items;
}

-- all that there is
abbrev pub everything : Footprint
everything = record { uses = λ v. true; changes = λ v. true; ports = λ p. true; timers = λ t. true; channels = λ c. true }

-- How a thread's code addresses variables, ports and ends: the word that dp names, and its own plan or else the core's.
pub record Activation : Type 0 where
  pub base : ℕ
  pub plan : Option Plan

-- the outermost one
abbrev pub outside : Activation
outside = record { base = 0; plan = None }

abbrev pub plan_in : (of_core : Plan) → (own : Option Plan) → Plan
plan_in of_core None = of_core
plan_in of_core (Some own) = own

-- where the variables of a core stand, whatever code sees of them: the words are counted from word 0 on
abbrev pub places : Setting → (core : ℕ) → List (Option VarPlan)
places g core = (g.plans core).vars

-- the words of these variables of a core are those of a store
abbrev pub HoldsPlaces : Setting → (core : ℕ) → (uses : ℕ → Bool) → (words : List ℕ) → Store → Type 0
HoldsPlaces g core uses words store = Holds (places g core) uses 0 words store

-- A hardware thread that runs a branch: its code stands in a block, and its temporary words begin at word `stack`. Its steps count for a
-- family. Other branches may wait for that one, the innermost first. It stands in sides of channels and inside transactions, and its
-- thread may be inside a transfer.
pub record Runner : Type 0 where
  pub core : ℕ
  pub thread : ℕ
  pub tie : Option ℕ
  pub branch : ℕ
  pub family : ℕ
  pub block : Activation
  pub stack : ℕ
  pub footprint : Footprint
  pub parents : List Parent
  pub sides : Sides
  pub inside : List ℕ
  pub transfer : Option Transfer

-- some thread of a core, with all variables and ports
abbrev pub anyone : (core : ℕ) → Runner
anyone core = record {
  core = core;
  thread = 0;
  tie = None;
  branch = 0;
  family = 0;
  block = outside;
  stack = 0;
  footprint = everything;
  parents = [];
  sides = [];
  inside = [];
  transfer = None;
}

-- the runner with what some items use and change
abbrev pub shrunk : Runner → List Item → Runner
shrunk r items = record r { footprint = footprint_of items }

-- a word among so many from one on
abbrev pub is_among_words : (first words w : ℕ) → Bool
is_among_words first words w = nat_le first w && nat_lt w (first + words)

-- a word of a variable that stands near, with dp at a word
abbrev pub is_word_at : (base : ℕ) → VarAt → (words w : ℕ) → Bool
is_word_at base (Near n) words w = is_among_words (base + n) words w
is_word_at base (Far n) words w = false
is_word_at base (Through n) words w = false

abbrev pub is_word_of : (base : ℕ) → Option VarPlan → (w : ℕ) → Bool
is_word_of base None w = false
is_word_of base (Some found) w = is_word_at base found.place found.words w

-- a word of one of the first variables, among those of which this is so
abbrev pub is_word_among : (base : ℕ) → List (Option VarPlan) → (is_meant : ℕ → Bool) → (variables w : ℕ) → Bool
is_word_among base vars is_meant zero w = false
is_word_among base vars is_meant (suc v) w =
    (is_meant v && is_word_of base (var_in vars v) w) || is_word_among base vars is_meant v w

module _ (g : Setting) (r : Runner) where
  -- what no event changes of a runner's core
  abbrev pub home : Home
  home = home_of g.image g.stimulus r.core

  abbrev pub code : Code
  code = home.parts.code

  abbrev pub plan : Plan
  plan = plan_in (g.plans r.core) r.block.plan

  -- the words that a runner relies on: its temporary ones, and those of the variables that it uses
  abbrev pub relied : (w : ℕ) → Bool
  relied w =
      is_among_words r.stack temporary w || is_word_among 0 (places g r.core) r.footprint.uses (length (places g r.core)) w

  -- the words that it may change
  pub data MayChange (w : ℕ) : Type 0 where
    of_variable : (v n i : ℕ) (found : VarPlan) → IsNear (places g r.core) v n found → r.footprint.changes v ≡ true → i < found.words →
        w ≡ n + i → MayChange w
    of_stack : (k : ℕ) → k < temporary → w ≡ r.stack + k → MayChange w

  -- the places of a port and of a timer on the runner's core
  abbrev pub port_place : (port : ℕ) → ℕ
  port_place p = port_number r.core g.program.ports p

  abbrev pub timer_place : (timer : ℕ) → ℕ
  timer_place t = timer_number r.core g.program.timers t

  -- the number of a side's end on the runner's core
  abbrev pub end_place : (channel : ℕ) → Side → ℕ
  end_place c side = end_number g.program r.core c side

  -- a channel of the runner's, which its core uses
  pub record IsChannel (c : ℕ) : Type 0 where
    pub mine : r.footprint.channels c ≡ true
    pub known : c < length g.program.channels
    pub used : is_used_on g.program r.core c ≡ true

  -- the plan has the identifier of a side's end on the runner's core
  pub record EndIsPlanned (c : ℕ) (side : Side) : Type 0 where
    pub place : ℕ
    pub is : end_of_side (slice_get plan.channels c) (Some side) ≡ Some place
    pub identifier : end_in plan.ends place ≡ Some (Fixed (end_name r.core (end_place c side)))
    pub names : named home.number (end_name r.core (end_place c side)) ≡ AnEnd (end_place c side)
    pub there : end_place c side < home.parts.ends

  -- a port of the runner's, as the kernel has it
  pub record IsPort (p : ℕ) (listed : PortUse) : Type 0 where
    pub mine : r.footprint.ports p ≡ true
    pub known : slice_get g.program.ports p ≡ Some listed
    pub core : listed.core ≡ r.core

  -- and a timer
  pub record IsTimer (t : ℕ) (listed : Timer) : Type 0 where
    pub mine : r.footprint.timers t ≡ true
    pub known : slice_get g.program.timers t ≡ Some listed
    pub core : listed.core ≡ r.core

  -- and the end of the side in which it stands of a channel
  pub record IsEnd (c : ℕ) (side : Side) : Type 0 where
    pub channel : IsChannel c
    pub stands_in : slice_index_or r.sides c None ≡ Some side
    pub here : core_of g.program c side ≡ r.core

  -- Its resources on its core, by their numbers there.

  pub record IsOwnPort (n : ℕ) : Type 0 where
    pub port : ℕ
    pub listed : PortUse
    pub is : IsPort port listed
    pub place : n ≡ port_place port

  pub record IsOwnTimer (n : ℕ) : Type 0 where
    pub timer : ℕ
    pub listed : Timer
    pub is : IsTimer timer listed
    pub place : n ≡ timer_place timer

  pub record IsOwnEnd (n : ℕ) : Type 0 where
    pub channel : ℕ
    pub side : Side
    pub is : IsEnd channel side
    pub place : n ≡ end_place channel side

  abbrev pub IsMine : Res → Type 0
  IsMine (ResPort n) = IsOwnPort n
  IsMine (ResTimer n) = IsOwnTimer n
  IsMine (ResEnd n) = IsOwnEnd n

  -- Its block is the outermost, the variables of its core stand near, no two of them share a word, and none is a temporary one of
  -- the runner's. Its ports, its timers and the ends of its channels' sides on its core have the identifiers that the plan gives them, and
  -- are among those of the core. Different ones have different places, for each of which there is a watch.
  pub record IsLaidOut : Type 0 where
    pub block : r.block ≡ outside
    pub frame : Frame (places g r.core) relied r.footprint.uses r.stack 0
    pub changes : (v : ℕ) → r.footprint.changes v ≡ true → r.footprint.uses v ≡ true
    pub small : r.stack + temporary ≤ 16384
    pub identifiers : (p : ℕ) (listed : PortUse) → IsPort p listed →
        resource_at plan.ports p ≡ Some (Fixed (port_name r.core (port_place p)))
    pub names : (p : ℕ) (listed : PortUse) → IsPort p listed → named home.number (port_name r.core (port_place p)) ≡ APort (port_place p)
    pub timer_identifiers : (t : ℕ) (listed : Timer) → IsTimer t listed →
        resource_at plan.timers t ≡ Some (Fixed (timer_name r.core (timer_place t)))
    pub timer_names : (t : ℕ) (listed : Timer) → IsTimer t listed →
        named home.number (timer_name r.core (timer_place t)) ≡ ATimer (timer_place t)
    pub timers : (t : ℕ) (listed : Timer) → IsTimer t listed → timer_place t < home.parts.timers
    pub ends : (c : ℕ) (side : Side) → IsChannel c → core_of g.program c side ≡ r.core → EndIsPlanned c side
    pub few_ports : (p : ℕ) (listed : PortUse) → IsPort p listed → port_place p < most_watches
    pub few_timers : (t : ℕ) (listed : Timer) → IsTimer t listed → timer_place t < most_watches
    pub few_ends : (c : ℕ) (side : Side) → IsChannel c → core_of g.program c side ≡ r.core → end_place c side < most_watches
    pub ports_differ : (p q : ℕ) (listed other : PortUse) → IsPort p listed → IsPort q other → port_place p ≡ port_place q → p ≡ q
    pub timers_differ : (t u : ℕ) (listed other : Timer) → IsTimer t listed → IsTimer u other → timer_place t ≡ timer_place u → t ≡ u
    pub ends_differ : (c d : ℕ) (side other : Side) → IsChannel c → core_of g.program c side ≡ r.core → IsChannel d →
        core_of g.program d other ≡ r.core → end_place c side ≡ end_place d other → c ≡ d
