-- What is asked of an image, so that it does what its kernel means: each root has a thread of its own, with its code, and no two of them are in each
-- other's way.
use Rattle.std.specs.Prelude.{◌≡◌, ℕ, ◌+◌, ◌<◌, ◌≤◌, true, [], ◌∷◌, length, Some, None, slice_get}
use Rattle.xs_instr.specs.declared.image.Pair.{Pair}
use Rattle.xs_instr.specs.Machine.{parts_in}
use Rattle.xs_instr.specs.OwnSteps.{temporary}
use Rattle.xs_instr.specs.Valid.{Valid}
use Rattle.xc_kernel.specs.declared.kernel.PortUse.{PortUse}
use Rattle.xc_kernel.specs.Plain as kernel
use Rattle.xc_disjoint.specs.Needs.{threads_on}
use Rattle.xc_invariants.specs.Lawful.{Obeys}
use Rattle.xc_invariants.specs.Needs.{needed_on}
use Rattle.xc_meaning.specs.Counts.KernelCounts.{words_in}
use Rattle.xc_meaning.specs.Runs.{kernel_start}
use Rattle.xc_meaning.specs.States.Branches.{Branch}
use Rattle.xc_meaning.specs.States.Channels.{Side}
use Rattle.xc_meaning.specs.States.Items.{ends, todo}
use Rattle.xl_expr.specs.declared.plan.VarPlan.{VarPlan}
use Rattle.xl_expr.specs.Frames.{IsNear}
use Rattle.xl_image.specs.Images.{RootAt, decl_of, pair_of, root_sides}
use Rattle.xl_plan.specs.Layout.{is_used_on, temporary_of}
use Rattle.xr_match.specs.Meanings.{root_among}
use Rattle.xr_simulation.specs.Fits.{FitOn}
use Rattle.xr_simulation.specs.Roles.{Role, Roles, unused, used_by}
use Rattle.xr_simulation.specs.Runners.{Setting, Runner, IsLaidOut, IsPort, IsTimer, anyone, footprint_of, home, outside, places, plan, port_place, timer_place}
use Rattle.xr_simulation.specs.Plain.{ArePlain}
use Rattle.xr_simulation.specs.MatchStates.{living_on}
use Rattle.xr_simulation.specs.Wired.{IsLine}
use Rattle.xr_channels.specs.Channels.{IsWired, end_of_side}
use Rattle.xc_kernel.specs.declared.kernel.Timer.{Timer}

-- What is so of a core of which threads are needed, whoever runs there: each thread of which it has need, with any footprint, is laid out, and has
-- its temporary words; the variables, ports and timers are there.
pub record IsCoreOf (g : Setting) (c : ℕ) : Type 0 where
  pub laid : (r : Runner) → r.core ≡ c → r.thread < threads_on g.program c → r.block ≡ outside →
      r.stack ≡ temporary_of g.program c r.thread →
      ((v : ℕ) → r.footprint.changes v ≡ true → r.footprint.uses v ≡ true) → IsLaidOut g r
  pub room : (t : ℕ) → t < threads_on g.program c → temporary_of g.program c t + temporary ≤ (parts_in g.image.cores c).words
  pub stacks : (g.plans c).first_stack ≡ temporary_of g.program c 0
  pub sizes : (v n : ℕ) (found : VarPlan) → IsNear (places g c) v n found →
      (found.words ≡ words_in g.program.variables v) × (n + found.words ≤ (parts_in g.image.cores c).words)
  pub ports : (p : ℕ) (listed : PortUse) → IsPort g (anyone c) p listed →
      slice_get (parts_in g.image.cores c).ports (port_place g (anyone c) p) ≡ Some (decl_of listed)
  pub timers : (t : ℕ) (listed : Timer) → IsTimer g (anyone c) t listed → timer_place g (anyone c) t < (parts_in g.image.cores c).timers
  pub ports_differ : (p q : ℕ) (listed other : PortUse) → IsPort g (anyone c) p listed → IsPort g (anyone c) q other →
      port_place g (anyone c) p ≡ port_place g (anyone c) q → p ≡ q

-- A root's thread: its code stands where the thread starts, and fits the core.
pub record IsRoot (g : Setting) (r : Runner) (root : kernel.Root) : Type 0 where
  pub known : slice_get g.program.roots r.branch ≡ Some root
  pub core : root.core ≡ r.core
  pub family : r.family ≡ r.branch
  pub numbered : root_among r.core 0 g.program.roots r.thread ≡ Some r.branch
  pub block : r.block ≡ outside
  pub tie : r.tie ≡ None
  pub alone : r.parents ≡ []
  pub sides : r.sides ≡ root_sides g.program r.branch
  pub outside : r.inside ≡ []
  pub no_transfer : r.transfer ≡ None
  pub footprint : r.footprint ≡ footprint_of (todo root.body (ends ∷ []))
  pub inside : r.thread < threads_on g.program r.core
  pub stack : r.stack ≡ temporary_of g.program r.core r.thread
  pub code : RootAt g.program (plan g r) (home g r).parts r.core r.thread root (root_sides g.program r.branch)
  pub fits : FitOn g r.core (todo root.body (ends ∷ []))

-- a thread that runs nothing is unused, one that runs something is a root's, with nothing in hand
abbrev pub IsRootRole : Setting → Role → Type 0
IsRootRole g unused = Unit {0}
IsRootRole g (used_by r None) = (root : kernel.Root) × IsRoot g r root
IsRootRole g other = ⊥

-- Each channel with two sides has its line in the image, with the ends of its sides.
pub record AreLines (g : Setting) : Type 0 where
  pub valid : Valid g.image
  pub wired : IsWired g.image.chans
  pub line : (line c : ℕ) → IsLine g.program line c → slice_get g.image.chans line ≡ Some (pair_of g.program c)
  pub channel : (line : ℕ) (p : Pair) → slice_get g.image.chans line ≡ Some p → (c : ℕ) × IsLine g.program line c
  pub used : (core c : ℕ) → c < length g.program.channels → is_used_on g.program core c ≡ true → (line : ℕ) × IsLine g.program line c
  pub ends : (line : ℕ) (p : Pair) (side : Side) → slice_get g.image.chans line ≡ Some p →
      (end_of_side p side).end < (parts_in g.image.cores (end_of_side p side).core).ends

-- The image has the code of the kernel's roots, each for a thread of its core.
pub record IsImageOf (g : Setting) (who : Roles) : Type 0 where
  pub obeys : Obeys g.program
  pub plain : ArePlain (kernel_start g.program).branches
  pub sides : (n : ℕ) (b : Branch) → slice_get (kernel_start g.program).branches n ≡ Some b → b.sides ≡ root_sides g.program n
  pub lines : AreLines g
  pub roles : (c t : ℕ) → IsRootRole g (who c t)
  pub core : (c t : ℕ) (r : Runner) → who c t ≡ used_by r None → r.core ≡ c
  pub thread : (c t : ℕ) (r : Runner) → who c t ≡ used_by r None → r.thread ≡ t
  pub cores : (c : ℕ) → c < 4 → 1 ≤ threads_on g.program c → IsCoreOf g c
  pub few : (c : ℕ) → c < 4 → threads_on g.program c ≤ 8
  pub needed : (c : ℕ) → needed_on c g.program.roots ≡ threads_on g.program c
  pub count : (c : ℕ) → c < 4 → length (parts_in g.image.cores c).roots ≡ living_on c (kernel_start g.program).branches
  pub placed : (b : ℕ) (root : kernel.Root) → slice_get g.program.roots b ≡ Some root → root.core < 4
  pub run : (b : ℕ) (root : kernel.Root) → slice_get g.program.roots b ≡ Some root →
      (c : ℕ) × (t : ℕ) × (r : Runner) × (who c t ≡ used_by r None) × (r.branch ≡ b)
  pub roots_differ : (c t c' t' : ℕ) (r s : Runner) → who c t ≡ used_by r None → who c' t' ≡ used_by s None → s.branch ≡ r.branch → (c' ≡ c) × (t' ≡ t)
