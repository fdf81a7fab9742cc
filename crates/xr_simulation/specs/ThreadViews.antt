-- A thread on its way, by steps that nobody sees, whatever the others do in between.
use Rattle.std.specs.Prelude.{◌≡◌, ◌≢◌, ◌⊎◌, ℕ, zero, suc, ◌≤◌, Bool, true, List, [], Option, Some, None, false, length, slice_get, slice_set}
use Rattle.xs_instr.specs.declared.state.CoreState.{CoreState}
use Rattle.xs_instr.specs.declared.state.Mode.TheVariants.{Running}
use Rattle.xs_instr.specs.declared.state.Regs.{Regs}
use Rattle.xs_instr.specs.declared.state.Thread.{Thread}
use Rattle.xs_instr.specs.Did.{makes}
use Rattle.xs_instr.specs.Pool.{first_free, is_tied, threads_taken, tied_to}
use Rattle.xs_instr.specs.Slot.{slot}
use Rattle.xc_kernel.specs.Eval.{words_of}
use Rattle.xc_meaning.specs.States.Worlds.{World}
use Rattle.xl_par.specs.Acquired.{Acquired, HasSpare, IsAmong, with_sync, with_thread_got}
use Rattle.xr_simulation.specs.Parents.{branches_of, syncs_of}
use Rattle.xr_simulation.specs.Runners.{IsMine, Setting, Runner, MayChange, home, relied}
use Rattle.xr_simulation.specs.Sizes.{sizes_of}
use Rattle.xl_expr.specs.ResourceParts.{OtherPartsStay, OwnPartsStay}

-- a runner's core and the program's state at one moment, and what the runner has got for a `par` that it opens, or has still to give back
pub record ThreadView : Type 0 where
  pub core : CoreState
  pub world : World
  pub hand : Option Acquired

-- a synchroniser that is still to be given back
abbrev pub giving_back : (n : ℕ) → Option Acquired
giving_back n = Some (record { sync = Some n; threads = []; lacks = 0 })

abbrev pub held_in : Option Acquired → List ℕ
held_in None = []
held_in (Some hand) = hand.threads

abbrev pub sync_in : Option Acquired → Option ℕ
sync_in None = None
sync_in (Some hand) = hand.sync

abbrev pub SpareFor : Option Acquired → CoreState → Type 0
SpareFor None core = Unit {0}
SpareFor (Some hand) core = HasSpare hand core

-- a thread that runs, and takes events or not
abbrev pub running_so : (takes_events : Bool) → Option ℕ → ℕ → Regs → Thread
running_so takes_events tie pc regs = record { mode = Running; pc = pc; regs = regs; event_bit = takes_events; tie = tie }

-- one that takes none
abbrev pub running : Option ℕ → ℕ → Regs → Thread
running tie pc regs = running_so false tie pc regs

-- a synchroniser is one of the runner's: of a branch that waits, or in its hand
abbrev pub Owns : Runner → Option Acquired → (n : ℕ) → Type 0
Owns r hand n = IsAmong (syncs_of r.parents) n ⊎ (sync_in hand ≡ Some n)

module _ (g : Setting) (r : Runner) where
  -- the rely: what others leave of all that the runner stands on, and that what it lacks for a `par` is there
  pub record Rely (z y : ThreadView) : Type 0 where
    pub thread : slice_get y.core.threads r.thread ≡ slice_get z.core.threads r.thread
    pub words : (w : ℕ) → relied g r w ≡ true → slice_get y.core.words w ≡ slice_get z.core.words w
    pub resources : OwnPartsStay (IsMine g r) r.thread z.core y.core
    pub sizes : sizes_of y.core ≡ sizes_of z.core
    pub branch : slice_get y.world.branches r.branch ≡ slice_get z.world.branches r.branch
    pub parents : (b : ℕ) → IsAmong (branches_of r.parents) b → slice_get y.world.branches b ≡ slice_get z.world.branches b
    pub store : (v : ℕ) → r.footprint.uses v ≡ true → words_of y.world.store v ≡ words_of z.world.store v
    pub clock : slice_get y.world.clocks r.core ≡ Some y.core.clock
    pub hand : y.hand ≡ z.hand
    pub syncs : (n : ℕ) → Owns r z.hand n → slice_get y.core.syncs n ≡ slice_get z.core.syncs n
    pub held : (u : ℕ) → IsAmong (held_in z.hand) u → slice_get y.core.threads u ≡ slice_get z.core.threads u
    pub tied : (n u : ℕ) (x : Thread) → sync_in z.hand ≡ Some n → slice_get y.core.threads u ≡ Some x → is_tied x n ≡ true →
        slice_get z.core.threads u ≡ Some x
    pub spare : SpareFor z.hand y.core

  -- the guarantee: what a step of the runner leaves as it is
  pub record Guarantee (y z : ThreadView) : Type 0 where
    pub clock : z.core.clock ≡ y.core.clock
    pub others : (u : ℕ) → u ≢ r.thread → (IsAmong (held_in z.hand) u → ⊥) → slice_get z.core.threads u ≡ slice_get y.core.threads u
    pub as_many : length z.core.threads ≡ length y.core.threads
    pub words : (w : ℕ) → (MayChange g r w → ⊥) → slice_get z.core.words w ≡ slice_get y.core.words w
    pub sizes : sizes_of z.core ≡ sizes_of y.core
    pub resources : OtherPartsStay (IsMine g r) r.thread y.core z.core

  -- the other threads are what they were, and tied as before
  pub record SameUse (y z : ThreadView) : Type 0 where
    pub by : (u : ℕ) (x : Thread) → u ≢ r.thread → slice_get y.core.threads u ≡ Some x →
        (x' : Thread) × (slice_get z.core.threads u ≡ Some x') × (x'.mode ≡ x.mode) × (x'.tie ≡ x.tie) × (x'.event_bit ≡ x.event_bit)

  -- what a step makes of the runner's hand
  pub data HandChange (y z : ThreadView) : Type 0 where
    keeps : z.hand ≡ y.hand → z.core.syncs ≡ y.core.syncs → SameUse y z → HandChange y z
    gets_sync : (hand : Acquired) (n : ℕ) → y.hand ≡ Some hand → hand.sync ≡ None → slice_get y.core.syncs n ≡ Some false →
        z.core.syncs ≡ slice_set y.core.syncs n true → z.hand ≡ Some (with_sync hand n) → SameUse y z → HandChange y z
    gets_thread : (hand : Acquired) (n u : ℕ) (x : Thread) → y.hand ≡ Some hand → hand.sync ≡ Some n → 1 ≤ hand.lacks →
        first_free (threads_taken y.core.threads) 0 ≡ Some u → slice_get y.core.threads u ≡ Some x → z.core.syncs ≡ y.core.syncs →
        z.hand ≡ Some (with_thread_got hand u) → slice_get z.core.threads u ≡ Some (tied_to n x) →
        ((v : ℕ) → v ≢ r.thread → v ≢ u → slice_get z.core.threads v ≡ slice_get y.core.threads v) → HandChange y z

  -- the runner's thread runs, and takes no events
  pub record StillRuns (a : CoreState) : Type 0 where
    pub thread : Thread
    pub there : slice_get a.threads r.thread ≡ Some thread
    pub runs : thread.mode ≡ Running
    pub tied : thread.tie ≡ r.tie
    pub no_events : thread.event_bit ≡ false

  -- a step that writes nothing down, sends nothing and ends no root; the program does nothing
  pub record IsSilentStep (y z : ThreadView) : Type 0 where
    pub made : slot (home g r) y.core r.thread ≡ makes z.core
    pub world : z.world ≡ y.world
    pub roots : z.core.roots ≡ y.core.roots
    pub channel_ends : z.core.ends ≡ y.core.ends
    pub guarantee : Guarantee y z
    pub hand : HandChange y z
    pub was : StillRuns y.core
    pub on : StillRuns z.core

  abbrev pub after : ThreadView → CoreState → ThreadView
  after z b = record z { core = b }

  -- at most n silent steps, whatever happens between them, lead to where Q holds
  abbrev pub LeadsIn : (Q : ThreadView → Type 0) → ℕ → ThreadView → Type 0
  LeadsIn Q zero z = Q z
  LeadsIn Q (suc n) z =
      Q z ⊎ ((y : ThreadView) → Rely z y → (x : ThreadView) × IsSilentStep y x × LeadsIn Q n x)

  -- what others do leaves it so
  abbrev pub IsStable : (ThreadView → Type 0) → Type 0
  IsStable Q = (z y : ThreadView) → Rely z y → Q z → Q y
