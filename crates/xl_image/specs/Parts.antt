-- A core's part of the image, with its code line by line.
use Rattle.std.specs.Prelude.{◌≡◌, ℕ, zero, suc, ◌+◌, ◌^◌, ◌<◌, Bool, true, false, List, [], ◌∷◌, ◌++◌, Option, Some, filter, length, map, sum_by}
use Rattle.xc_kernel.specs.Plain as kernel
use Rattle.xc_disjoint.specs.Needs.{words_on, timers_on, ends_on}
use Rattle.xs_instr.specs.declared.image.CoreImage.{CoreImage}
use Rattle.xs_instr.specs.declared.image.Pair.{Pair}
use Rattle.xs_instr.specs.Lines.{Line, instr_of, pos_of}
use Rattle.xl_expr.specs.declared.plan.Plan.{Plan}
use Rattle.xl_plan.specs.declared.channels.SideCores.{SideCores}
use Rattle.xl_plan.specs.Layout.{ends_there, first_there}
use Rattle.xl_plan.specs.Planned.{ports_on}
use Rattle.xl_statements.specs.Inside.{StandAlone}
use Rattle.xl_image.specs.Images.{IsPlan, decl_of, roots_on, sided_on, sided_roots}
use Rattle.xl_image.specs.Roots.{AreRoots}

-- The code is that of the core's roots in the kernel's order, with their indices, by a plan of the core. The targets of jumps lie in it.
pub record HasRoots (k : kernel.Kernel) (core : ℕ) (part : CoreImage) : Type 0 where
  pub plan : Plan
  pub planned : IsPlan k core plan
  pub lines : List Line
  pub instrs : part.code.instrs ≡ map instr_of lines
  pub places : part.code.«at» ≡ map pos_of lines
  pub roots : AreRoots k core plan (sided_on core (sided_roots k)) 0 0 lines part.roots
  pub alone : StandAlone 0 lines
  pub few : length lines < 2 ^ 32

-- A core has the words, timers and channel ends that the kernel needs there, its declared ports in the kernel's order, and the code of
-- its roots.
pub record IsPartOf (k : kernel.Kernel) (core : ℕ) (part : CoreImage) : Type 0 where
  pub number : part.number ≡ core
  pub words : part.words ≡ words_on k core
  pub timers : part.timers ≡ timers_on k core
  pub ends : part.ends ≡ ends_on k core
  pub ports : part.ports ≡ map decl_of (ports_on core k.ports)
  pub code : HasRoots k core part

-- the numbers below n, ascending
abbrev pub below : ℕ → List ℕ
below zero = []
below (suc n) = below n ++ n ∷ []

-- how many cores there are
abbrev pub core_count : ℕ
core_count = 4

abbrev pub is_some_root : List kernel.Root → Bool
is_some_root [] = false
is_some_root (r ∷ rs) = true

-- whether some root is on a core
abbrev pub has_root : kernel.Kernel → (core : ℕ) → Bool
has_root k core = is_some_root (roots_on core k.roots)

-- the cores that have a root, ascending
abbrev pub cores_of : kernel.Kernel → List ℕ
cores_of k = filter (has_root k) (below core_count)

abbrev pub number_of : CoreImage → ℕ
number_of part = part.number

-- A channel whose sides are on these cores, by the cores of the channels before it: each side's end stands behind theirs, the second one's
-- behind the first one's where both are on one core.
abbrev pub pair_behind : (before : List (Option SideCores)) → SideCores → Pair
pair_behind before cores = record {
  core = cores.first;
  end = sum_by (ends_there cores.first) before;
  peer_core = cores.second;
  peer_end = sum_by (ends_there cores.second) before + first_there cores.second (Some cores);
}
