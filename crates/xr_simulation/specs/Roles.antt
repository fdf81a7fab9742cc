-- What each thread of a machine is there for, and that the threads and synchronisers of its cores are used so and no other way.
use Rattle.std.specs.Prelude.{◌≡◌, ◌≢◌, ◌⊎◌, ℕ, ◌+◌, ◌<◌, ◌≤◌, true, List, [], ◌∷◌, length, Option, Some, None, slice_get}
use Rattle.xs_instr.specs.declared.state.CoreState.{CoreState}
use Rattle.xc_kernel.specs.Plain as kernel
use Rattle.xc_meaning.specs.Counts.KernelCounts.{branch_count}
use Rattle.xc_meaning.specs.States.Branches.{Branch, waits}
use Rattle.xc_meaning.specs.States.Items.{Item, does}
use Rattle.xc_meaning.specs.States.Worlds.{World}
use Rattle.xc_disjoint.specs.Needs.{threads_on}
use Rattle.xc_invariants.specs.Needs.{Budgeted}
use Rattle.xl_par.specs.Acquired.{Acquired, IsAmong}
use Rattle.xl_plan.specs.Layout.{temporary_of}
use Rattle.xr_simulation.specs.Fits.{FitOn}
use Rattle.xr_simulation.specs.Parents.{Parent, branches_of, syncs_of}
use Rattle.xr_simulation.specs.Runners.{Setting, Runner, outside}
use Rattle.xr_simulation.specs.ThreadViews.{Owns, giving_back, held_in, sync_in}
use Rattle.xr_simulation.specs.NextStep.{IsFree, IsWaitingTied}

-- A thread is unused; or it was got by another one of its core for a `par` that that one is opening; or it runs a branch, with what it has in
-- hand. Which thread runs which branch is a part of what stands between the two sides, and not fixed for a run: a `par` makes and
-- takes back threads.
pub data Role : Type 0 where
  unused : Role
  got_by : (thread : ℕ) → Role
  used_by : Runner → Option Acquired → Role

abbrev pub Roles : Type 0
Roles = (core thread : ℕ) → Role

-- a number that stands nowhere twice
abbrev pub IsOnce : List ℕ → Type 0
IsOnce [] = Unit {0}
IsOnce (n ∷ ns) = (IsAmong ns n → ⊥) × IsOnce ns

-- the branches that a runner stands for: the one that it runs, and those that wait for it
abbrev pub own_branches : Runner → List ℕ
own_branches r = r.branch ∷ branches_of r.parents

-- the branch with which the thread began
abbrev pub outermost : (branch : ℕ) → List Parent → ℕ
outermost b [] = b
outermost b (p ∷ ps) = outermost p.branch ps

-- one of the branches that wait
abbrev pub IsParent : List Parent → Parent → Type 0
IsParent [] p = ⊥
IsParent (q ∷ qs) p = (p ≡ q) ⊎ IsParent qs p

-- One that waits, for those of its `par`, of which the first has this number. It has a synchroniser where these are several.
pub record ParentWaits (g : Setting) (x : World) (core family : ℕ) (p : Parent) (first : ℕ) : Type 0 where
  pub branch : Branch
  pub known : slice_get x.branches p.branch ≡ Some branch
  pub mode : branch.mode ≡ waits p.from p.count
  pub items : branch.items ≡ p.items
  pub on_core : branch.core ≡ core
  pub of_family : branch.family ≡ family
  pub first_is : p.from ≡ first
  pub one : p.sync ≡ None → p.count ≡ 1
  pub several : (n : ℕ) → p.sync ≡ Some n → 2 ≤ p.count
  pub fits : FitOn g core p.items
  pub sides : branch.sides ≡ p.sides
  pub inside : branch.inside ≡ p.inside

abbrev pub ParentsWait : Setting → World → (core family : ℕ) → List Parent → (first : ℕ) → Type 0
ParentsWait g x core family [] first = Unit {0}
ParentsWait g x core family (p ∷ ps) first = ParentWaits g x core family p first × ParentsWait g x core family ps p.branch

-- what a runner has in hand goes with what its branch has to do next: it is opening a `par` of several branches, or has nothing in hand but a
-- synchroniser to be given back
pub data AcquiredFits (items : List Item) (hand : Option Acquired) : Type 0 where
  empty : hand ≡ None → AcquiredFits items hand
  gives_back : (n : ℕ) → hand ≡ Some (record { sync = Some n; threads = []; lacks = 0 }) → AcquiredFits items hand
  opens : (h : Acquired) (bs : kernel.Branches) (rest : List Item) → hand ≡ Some h → items ≡ does (kernel.par bs) ∷ rest →
      1 + length h.threads + h.lacks ≡ branch_count bs → 2 ≤ branch_count bs → (h.sync ≡ None → h.threads ≡ []) → AcquiredFits items hand

-- which runner has which role, whose threads were got, and which synchronisers are whose; the j-th branch of a `par` behind the first is run by
-- a thread that is tied to its synchroniser, and each tied thread began as one
pub record AreRoles (g : Setting) (who : Roles) : Type 0 where
  pub core : (c t : ℕ) (r : Runner) (hand : Option Acquired) → who c t ≡ used_by r hand → r.core ≡ c
  pub there : (c t : ℕ) (r : Runner) (hand : Option Acquired) → who c t ≡ used_by r hand → c < 4
  pub thread : (c t : ℕ) (r : Runner) (hand : Option Acquired) → who c t ≡ used_by r hand → r.thread ≡ t
  pub few : (c t : ℕ) → who c t ≢ unused → t < 8
  pub inside : (c t : ℕ) → who c t ≢ unused → t < threads_on g.program c
  pub block : (c t : ℕ) (r : Runner) (hand : Option Acquired) → who c t ≡ used_by r hand → r.block ≡ outside
  pub stack : (c t : ℕ) (r : Runner) (hand : Option Acquired) → who c t ≡ used_by r hand → r.stack ≡ temporary_of g.program c t
  pub started : (c t : ℕ) (r : Runner) (hand : Option Acquired) → who c t ≡ used_by r hand → outermost r.branch r.parents ≡ r.family
  pub branches : (c t c' t' b : ℕ) (r s : Runner) (hand other : Option Acquired) → who c t ≡ used_by r hand → who c' t' ≡ used_by s other →
      IsAmong (own_branches r) b → IsAmong (own_branches s) b → (c' ≡ c) × (t' ≡ t)
  pub got : (c u t : ℕ) → who c u ≡ got_by t → (r : Runner) × (hand : Option Acquired) × (who c t ≡ used_by r hand) × IsAmong (held_in hand) u
  pub held : (c t u : ℕ) (r : Runner) (hand : Option Acquired) → who c t ≡ used_by r hand → IsAmong (held_in hand) u → who c u ≡ got_by t
  pub held_once : (c t : ℕ) (r : Runner) (hand : Option Acquired) → who c t ≡ used_by r hand → IsOnce (held_in hand)
  pub owner : (c t t' n : ℕ) (r s : Runner) (hand other : Option Acquired) → who c t ≡ used_by r hand → who c t' ≡ used_by s other →
      Owns r hand n → Owns s other n → t' ≡ t
  pub owned_once : (c t : ℕ) (r : Runner) (hand : Option Acquired) → who c t ≡ used_by r hand → IsOnce (syncs_of r.parents)
  pub owned_apart : (c t n : ℕ) (r : Runner) (hand : Option Acquired) → who c t ≡ used_by r hand → IsAmong (syncs_of r.parents) n →
      sync_in hand ≢ Some n
  pub kids : (c t n j : ℕ) (r : Runner) (hand : Option Acquired) (p : Parent) → who c t ≡ used_by r hand → IsParent r.parents p → p.sync ≡ Some n →
      1 ≤ j → j < p.count →
      (u : ℕ) × (s : Runner) × (other : Option Acquired) × (who c u ≡ used_by s other) × (s.tie ≡ Some n) × (s.family ≡ p.from + j)
  pub tied : (c u n : ℕ) (s : Runner) (other : Option Acquired) → who c u ≡ used_by s other → s.tie ≡ Some n →
      (t : ℕ) × (j : ℕ) × (r : Runner) × (hand : Option Acquired) × (p : Parent) × (who c t ≡ used_by r hand) × IsParent r.parents p
      × (p.sync ≡ Some n) × (1 ≤ j) × (j < p.count) × (s.family ≡ p.from + j)
  pub untied : (c u : ℕ) (s : Runner) (other : Option Acquired) → who c u ≡ used_by s other → s.tie ≡ None → s.family < length g.program.roots

-- the threads and synchronisers of a core, beside the threads that run branches
pub record AreUsedSo (who : Roles) (c : ℕ) (a : CoreState) : Type 0 where
  pub threads : length a.threads ≡ 8
  pub syncs : length a.syncs ≡ 7
  pub unused : (u : ℕ) → u < 8 → who c u ≡ unused → IsFree (slice_get a.threads u)
  pub got : (u t n : ℕ) (r : Runner) (hand : Option Acquired) → who c u ≡ got_by t → who c t ≡ used_by r hand → sync_in hand ≡ Some n →
      IsWaitingTied n (slice_get a.threads u)
  pub taken : (n : ℕ) → slice_get a.syncs n ≡ Some true → (t : ℕ) × (r : Runner) × (hand : Option Acquired) × (who c t ≡ used_by r hand) × Owns r hand n
  pub owned : (t n : ℕ) (r : Runner) (hand : Option Acquired) → who c t ≡ used_by r hand → Owns r hand n → slice_get a.syncs n ≡ Some true

-- Each branch has threads in reserve, as the laws of runs have it. One whose thread has still to give a synchroniser back has two at least: it
-- has back what it gave to the branches of its `par`. So the synchronisers of a core are no more than its threads.
pub record HasReserves (g : Setting) (who : Roles) (x : World) : Type 0 where
  pub budget : ℕ → ℕ
  pub budgeted : Budgeted g.program.roots budget x.branches
  pub there : (c t n : ℕ) (r : Runner) → who c t ≡ used_by r (giving_back n) → r.branch < length x.branches
  pub gives_back : (c t n : ℕ) (r : Runner) → who c t ≡ used_by r (giving_back n) → 2 ≤ budget r.branch
