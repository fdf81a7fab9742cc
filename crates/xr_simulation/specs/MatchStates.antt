-- What stands between the machine and the program at each moment: each thread is on its way to what its branch does next.
use Rattle.std.specs.Prelude.{◌≡◌, ◌⊎◌, ℕ, ◌+◌, ◌*◌, ◌<◌, ◌≤◌, Bool, true, false, not, ◌&&◌, List, [], ◌∷◌, map, length, Option, Some, None, nat_eq, slice_get}
use Rattle.xs_instr.specs.declared.state.CoreState.{CoreState}
use Rattle.xs_instr.specs.declared.state.Mode.{Mode as ThreadMode}
use Rattle.xs_instr.specs.declared.state.Mode.TheVariants.{Running, Trapped, Waiting}
use Rattle.xs_instr.specs.declared.state.Thread.{Thread}
use Rattle.xs_instr.specs.Machine.{parts_in}
use Rattle.xc_kernel.specs.declared.kernel.PortUse.{PortUse}
use Rattle.xc_kernel.specs.Things.{variable}
use Rattle.xc_meaning.specs.Counts.KernelCounts.{kernel_bound}
use Rattle.xc_meaning.specs.States.Branches.{Birth, Branch, Mode, has_ended, runs, waits, ended, erred}
use Rattle.xc_meaning.specs.States.Channels.{Parcel}
use Rattle.xc_meaning.specs.States.Items.{Item}
use Rattle.xc_meaning.specs.States.Worlds.{World}
use Rattle.xc_meaning.specs.Uses.{by_items}
use Rattle.xl_par.specs.Acquired.{Acquired, IsAmong}
use Rattle.xc_disjoint.specs.Needs.{threads_on}
use Rattle.xc_invariants.specs.Lawful.{Lawful}
use Rattle.xc_invariants.specs.Tree.{IsChild}
use Rattle.xr_match.specs.Implements.{clock_of}
use Rattle.xr_match.specs.Lives.{Life, Watched}
use Rattle.xr_match.specs.Meanings.{of_kernel}
use Rattle.xr_match.specs.Sources.{Counted}
use Rattle.xr_match.specs.Systems.{SomeIs}
use Rattle.xr_simulation.specs.Parents.{Parent}
use Rattle.xr_simulation.specs.Roles.{AreRoles, AreUsedSo, AcquiredFits, HasReserves, IsParent, ParentsWait, Role, Roles, got_by, own_branches, unused, used_by}
use Rattle.xr_simulation.specs.Runners.{HoldsPlaces, Setting, Runner, IsPort, anyone, footprint_of}
use Rattle.xr_simulation.specs.Sizes.{sizes_in, sizes_of}
use Rattle.xr_simulation.specs.ThreadViews.{ThreadView}
use Rattle.xr_simulation.specs.Plain.{ArePlain}
use Rattle.xr_simulation.specs.Transfers.{StopsIn, Transfer, spared, steps_left}
use Rattle.xr_simulation.specs.NextStep.{GivesBack, InTransfer, IsJoining, Leads, PortIs, Rest, cost, is_watching}
use Rattle.xr_simulation.specs.Wired.{AreWired, HasAlone}

-- one variable alone
abbrev pub only : ℕ → ℕ → Bool
only v w = nat_eq v w

-- how a branch's thread is, by how the branch is: one that has ended waits where it is tied, or goes on where another waits for it
abbrev pub ThreadIs : List Parent → Mode → ThreadMode → Type 0
ThreadIs ps runs mode = mode ≡ Running
ThreadIs ps (waits from count) mode = ⊥
ThreadIs [] ended mode = mode ≡ Waiting
ThreadIs (p ∷ ps) ended mode = mode ≡ Running
ThreadIs ps erred mode = mode ≡ Trapped

-- Whether its thread takes events: where the first item waits for one; not once the branch has ended; of one that has erred nothing is said.
abbrev pub EventsAre : Mode → List Item → (takes_events : Bool) → Type 0
EventsAre runs items bit = bit ≡ is_watching items
EventsAre (waits from count) items bit = ⊥
EventsAre ended items bit = bit ≡ false
EventsAre erred items bit = Unit {0}

module _ (g : Setting) (r : Runner) where
  -- The first item's own instruction is reached soon, and then few jumps are still to be done; `most` bounds both together.
  abbrev pub IsOnItsWay : (most : ℕ) → ThreadView → Type 0
  IsOnItsWay most z = (n : ℕ) × (j : ℕ) × (n + j ≤ most) × Leads g r n j z

  -- a synchroniser is given back next, and then the code of items follows
  abbrev pub IsResuming : List Item → (most : ℕ) → ThreadView → Type 0
  IsResuming items most z = (j : ℕ) × (1 + j + cost g r ≤ most) × GivesBack g r items j z

  -- the thread is at the code of items, of which some may be done without an instruction
  abbrev pub IsAtRest : List Item → (most : ℕ) → ThreadView → Type 0
  IsAtRest items most z = (j : ℕ) × (j + cost g r ≤ most) × (z.hand ≡ None) × Rest g r items j z

  -- where the branch has ended, and others wait for it
  abbrev pub HasEnded : List Parent → (left : ℕ) → ThreadView → Type 0
  HasEnded [] left z = z.hand ≡ None
  HasEnded (p ∷ ps) left z = IsJoining g r p ps left z

  abbrev pub IfTrue : Bool → Type 0 → Type 0
  IfTrue true A = A
  IfTrue false A = ⊥

  -- the silent steps behind a transfer, where nothing is late; else an action of the branch pays for them
  abbrev pub cost_behind : (late : List Parcel) → ℕ
  cost_behind [] = cost g r
  cost_behind (p ∷ ps) = 0

  -- the thread is inside a transfer
  abbrev pub IsTransferring : Transfer → List Item → (most : ℕ) → ThreadView → Type 0
  IsTransferring transfer items most z =
      (j : ℕ) × (steps_left transfer.phase + j + cost_behind transfer.late ≤ most) × InTransfer g r transfer items j z

  -- by whether it is inside one
  abbrev pub ProgressWith : (may_rest : Bool) → Option Transfer → List Item → (left : ℕ) → ThreadView → Type 0
  ProgressWith may_rest None items left z = IsOnItsWay left z ⊎ (IsResuming items left z ⊎ IfTrue may_rest (IsAtRest items left z))
  ProgressWith may_rest (Some transfer) items left z = IsTransferring transfer items left z

  -- what a thread does, by how its branch is, with so many steps left to it before the branch's next one; it may stand at rest, or not
  abbrev pub ProgressBy : (may_rest : Bool) → List Item → Mode → (left : ℕ) → ThreadView → Type 0
  ProgressBy may_rest items runs left z = ProgressWith may_rest r.transfer items left z
  ProgressBy may_rest items (waits from count) left z = ⊥
  ProgressBy may_rest items ended left z = HasEnded r.parents left z
  ProgressBy may_rest items erred left z = z.hand ≡ None

  -- the thread that runs the branch
  pub record HasThread (mode : Mode) (items : List Item) (a : CoreState) : Type 0 where
    pub thread : Thread
    pub there : slice_get a.threads r.thread ≡ Some thread
    pub tied : thread.tie ≡ r.tie
    pub events : EventsAre mode items thread.event_bit
    pub is : ThreadIs r.parents mode thread.mode

  -- The thread runs this branch, in a life whose steps, with those that are left to it before the branch's next one and those that are
  -- spared for a late offer, are within the bound.
  pub record RunsBranch
      (may_rest : Bool) (hand : Option Acquired) (a : CoreState) (x : World) (life : Life) (actions : (family : ℕ) → ℕ)
      (branch : Branch) : Type 0 where
    pub core : branch.core ≡ r.core
    pub family : branch.family ≡ r.family
    pub footprint : r.footprint ≡ footprint_of branch.items
    pub parents : ParentsWait g x r.core r.family r.parents r.branch
    pub thread : HasThread branch.mode branch.items a
    pub in_hand : AcquiredFits branch.items hand
    pub sides : branch.sides ≡ r.sides
    pub inside : branch.inside ≡ r.inside
    pub done : branch.mode ≡ ended → r.transfer ≡ None
    pub stops : branch.mode ≡ erred → StopsIn r.transfer
    pub ends_tied : branch.mode ≡ ended → r.parents ≡ [] → (n : ℕ) × (r.tie ≡ Some n)
    pub left : ℕ
    pub bound : life.steps + (left + spared r.transfer) ≤ kernel_bound g.program * (actions r.family + 1)
    pub by : ProgressBy may_rest branch.items branch.mode left (record { core = a; world = x; hand = hand })

-- what thread t of a core does: where it runs a branch it does that branch's work
abbrev pub ThreadRel : Setting → (may_rest : Bool) → CoreState → World → Life → (actions : ℕ → ℕ) → Role → Type 0
ThreadRel g may_rest a x life actions unused = Unit {0}
ThreadRel g may_rest a x life actions (got_by t) = life.steps ≡ 0
ThreadRel g may_rest a x life actions (used_by r hand) =
    SomeIs (slice_get x.branches r.branch) (RunsBranch g r may_rest hand a x life actions)

-- What nobody may change is as the program has it, where a branch that waits uses it.

abbrev pub NobodyChanges : Roles → (core variable : ℕ) → Type 0
NobodyChanges who c v = (t : ℕ) (r : Runner) (hand : Option Acquired) → who c t ≡ used_by r hand → r.footprint.changes v ≡ false

abbrev pub NobodyHas : Roles → (core port : ℕ) → Type 0
NobodyHas who c p = (t : ℕ) (r : Runner) (hand : Option Acquired) → who c t ≡ used_by r hand → r.footprint.ports p ≡ false

-- a branch of a core that waits uses the variable
pub record IsWanted (who : Roles) (c v : ℕ) : Type 0 where
  pub thread : ℕ
  pub runner : Runner
  pub hand : Option Acquired
  pub runs : who c thread ≡ used_by runner hand
  pub parent : Parent
  pub waits : IsParent runner.parents parent
  pub uses : by_items (variable v) parent.items ≡ true

pub record AreLoose (g : Setting) (who : Roles) (c : ℕ) (a : CoreState) (x : World) : Type 0 where
  pub variables : (v : ℕ) → NobodyChanges who c v → IsWanted who c v → HoldsPlaces g c (only v) a.words x.store
  pub ports : (p : ℕ) (listed : PortUse) → IsPort g (anyone c) p listed → NobodyHas who c p →
      PortIs g (anyone c) p listed (record { core = a; world = x; hand = None })

-- 1 for a root's branch on a core that has not ended, else 0
abbrev pub is_of_root : Option Birth → Bool
is_of_root None = true
is_of_root (Some birth) = false

abbrev pub one_where : Bool → ℕ
one_where true = 1
one_where false = 0

abbrev pub counts : (c : ℕ) → Branch → ℕ
counts c b = one_where (nat_eq b.core c && (not (has_ended b.mode) && is_of_root b.birth))

-- how many roots of a core have not ended
abbrev pub living_on : ℕ → List Branch → ℕ
living_on c [] = 0
living_on c (b ∷ bs) = counts c b + living_on c bs

-- a thread runs the branch, or waits with it
pub record IsRun (who : Roles) (b : ℕ) : Type 0 where
  pub core : ℕ
  pub thread : ℕ
  pub runner : Runner
  pub hand : Option Acquired
  pub runs : who core thread ≡ used_by runner hand
  pub branch : IsAmong (own_branches runner) b

-- a branch that has not ended is a root's, or another waits for it
abbrev pub IsMade : (roots : ℕ) → List Branch → (b : ℕ) → Type 0
IsMade roots bs b = (b < roots) ⊎ ((n : ℕ) × IsChild bs n b)

-- The two sides have the same clocks and trace, each thread does what it should, the channels are wired so, whatever is on links, and as
-- many roots as branches of roots go on. Some threads may stand at rest.
pub record MatchStates
    (g : Setting) (may_rest : (core thread : ℕ) → Bool) (who : Roles) (w : Watched) (x : Counted (of_kernel g.program)) : Type 0 where
  pub clocks : map clock_of w.machine.cores ≡ x.state.clocks
  pub trace : w.machine.trace ≡ x.state.trace
  pub cores : length w.machine.cores ≡ 4
  pub lawful : Lawful g.program x.state
  pub plain : ArePlain x.state.branches
  pub roles : AreRoles g who
  pub reserves : HasReserves g who x.state
  pub used : (c : ℕ) (a : CoreState) → slice_get w.machine.cores c ≡ Some a → AreUsedSo who c a
  pub threads : (c t : ℕ) (a : CoreState) → slice_get w.machine.cores c ≡ Some a →
      ThreadRel g (may_rest c t) a x.state (w.lives c t) x.actions (who c t)
  pub loose : (c : ℕ) (a : CoreState) → slice_get w.machine.cores c ≡ Some a → 1 ≤ threads_on g.program c → AreLoose g who c a x.state
  pub sizes : (c : ℕ) (a : CoreState) → slice_get w.machine.cores c ≡ Some a → sizes_of a ≡ sizes_in (parts_in g.image.cores c)
  pub wired : AreWired g who w.machine x.state
  pub alone : (c t : ℕ) (r : Runner) (hand : Option Acquired) (transfer : Transfer) → who c t ≡ used_by r hand →
      r.transfer ≡ Some transfer → HasAlone x.state.branches transfer.channel transfer.side r.branch
  pub roots : (c : ℕ) (a : CoreState) → slice_get w.machine.cores c ≡ Some a → a.roots ≡ living_on c x.state.branches
  pub placed : (b : ℕ) (branch : Branch) → slice_get x.state.branches b ≡ Some branch → branch.core < 4
  pub run : (b : ℕ) (branch : Branch) → slice_get x.state.branches b ≡ Some branch → has_ended branch.mode ≡ false → IsRun who b
  pub made : (b : ℕ) (branch : Branch) → slice_get x.state.branches b ≡ Some branch → has_ended branch.mode ≡ false →
      IsMade (length g.program.roots) x.state.branches b

-- nobody stands at rest
abbrev pub none_rests : (core thread : ℕ) → Bool
none_rests c t = false
