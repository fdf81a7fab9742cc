-- What lemmas on an event are told of: a moment at which the two sides stand so, a thread that runs a branch then, and that branch.
use Rattle.std.proofs.Common.{◌≡◌, ℕ, Option, Some}
use Rattle.std.specs.Prelude.{Bool, slice_get}
use Rattle.xs_instr.specs.declared.state.CoreState.{CoreState}
use Rattle.xc_meaning.specs.States.Branches.{Branch}
use Rattle.xl_par.specs.Acquired.{Acquired}
use Rattle.xr_match.specs.Lives.{Watched}
use Rattle.xr_match.specs.Meanings.{of_kernel}
use Rattle.xr_match.specs.Sources.{Counted}
use Rattle.xr_simulation.specs.Images.{IsImageOf}
use Rattle.xr_simulation.specs.Roles.{Roles, used_by}
use Rattle.xr_simulation.specs.Runners.{Runner, Setting}
use Rattle.xr_simulation.specs.MatchStates.{RunsBranch, MatchStates}

-- a program with its image, a machine with that image, and a state of the program that stand so; `first` is who did what at the start
pub record Moment (rests : (core thread : ℕ) → Bool) : Type 0 where
  pub setting : Setting
  pub first : Roles
  pub image : IsImageOf setting first
  pub roles : Roles
  pub watched : Watched
  pub told : Counted (of_kernel setting.program)
  pub standing : MatchStates setting rests roles watched told

-- a thread of the machine then, and its core, whose role it is to run a branch with this in hand
pub record ThreadAt {rests : (core thread : ℕ) → Bool} (moment : Moment rests) (hand : Option Acquired) : Type 0 where
  pub core : ℕ
  pub thread : ℕ
  pub state : CoreState
  pub at_core : slice_get moment.watched.machine.cores core ≡ Some state
  pub runner : Runner
  pub runs : moment.roles core thread ≡ used_by runner hand

-- the branch that it runs, and how the thread stands to it
pub record BranchAt {rests : (core thread : ℕ) → Bool} {moment : Moment rests} {hand : Option Acquired}
    (thread_at : ThreadAt moment hand) : Type 0 where
  pub branch : Branch
  pub known : slice_get moment.told.state.branches thread_at.runner.branch ≡ Some branch
  pub stand : RunsBranch moment.setting thread_at.runner (rests thread_at.core thread_at.thread) hand thread_at.state moment.told.state
      (moment.watched.lives thread_at.core thread_at.thread) moment.told.actions branch

-- The same, made of their parts.

abbrev pub moment_of : {rests : (core thread : ℕ) → Bool} (g : Setting) (first : Roles) → IsImageOf g first → (who : Roles) (w : Watched)
    (x : Counted (of_kernel g.program)) → MatchStates g rests who w x → Moment rests
moment_of g first is who w x st = record { setting = g; first = first; image = is; roles = who; watched = w; told = x; standing = st }

abbrev pub thread_of : {rests : (core thread : ℕ) → Bool} (moment : Moment rests) (c t : ℕ) (a : CoreState) →
    slice_get moment.watched.machine.cores c ≡ Some a → (r : Runner) (hand : Option Acquired) → moment.roles c t ≡ used_by r hand →
    ThreadAt moment hand
thread_of moment c t a at_c r hand runs_r = record { core = c; thread = t; state = a; at_core = at_c; runner = r; runs = runs_r }

abbrev pub branch_of : {rests : (core thread : ℕ) → Bool} {moment : Moment rests} {hand : Option Acquired} (thread_at : ThreadAt moment hand)
    (branch : Branch) →
    slice_get moment.told.state.branches thread_at.runner.branch ≡ Some branch →
    RunsBranch moment.setting thread_at.runner (rests thread_at.core thread_at.thread) hand thread_at.state moment.told.state
    (moment.watched.lives thread_at.core thread_at.thread) moment.told.actions branch →
    BranchAt thread_at
branch_of thread_at branch known stand = record { branch = branch; known = known; stand = stand }
