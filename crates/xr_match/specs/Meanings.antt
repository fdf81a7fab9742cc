-- The meanings of a kernel and of a text.
use Rattle.std.specs.Prelude.{◌≡◌, ◌≤◌, ◌+◌, ℕ, Bool, true, List, [], ◌∷◌, Option, Some, None, nat_eq, slice_get}
use Rattle.xs_instr.specs.declared.image.Image.{Image}
use Rattle.xs_instr.specs.declared.image.Stim.{Stim}
use Rattle.xs_instr.specs.Machine.{and_then}
use Rattle.xc_tree.specs.Depth.{highest}
use Rattle.xc_tree.specs.Plain as tree
use Rattle.xc_tree.specs.Types.Named.{NamedProgram}
use Rattle.xc_kernel.specs.Copies.{copy_of, Copies}
use Rattle.xc_kernel.specs.Plain as kernel
use Rattle.xc_kernel.specs.Sound.{IsTyped}
use Rattle.xc_meaning.specs.Counts.Families.{child_by, child_family, mover}
use Rattle.xc_meaning.specs.Counts.Fit.{widest_in_root}
use Rattle.xc_meaning.specs.Counts.KernelCounts.{kernel_bound}
use Rattle.xc_meaning.specs.Counts.TextCounts.{program_bound}
use Rattle.xc_meaning.specs.Follows.{ExitsMeet}
use Rattle.xc_meaning.specs.Quiet.{IsQuiet}
use Rattle.xc_meaning.specs.Runs.{acts, kernel_start, program_start}
use Rattle.xc_meaning.specs.States.Branches.{all_ended}
use Rattle.xc_meaning.specs.States.Channels.{Parcel, Side}
use Rattle.xc_meaning.specs.States.Worlds.{World, Action, clock, inbox}
use Rattle.xr_match.specs.Implements.{Implements, ImplementsWholly}
use Rattle.xr_match.specs.Lives.{Family, of_root, of_child}
use Rattle.xr_match.specs.Sides.{two_sided}
use Rattle.xr_match.specs.Sources.{Source}

-- The number of the root with a place among those of a core: the roots of a core in an image are the kernel's roots on that core, in the
-- kernel's order.
abbrev pub root_among : (core number : ℕ) → List kernel.Root → (place : ℕ) → Option ℕ
root_among core number [] place = None
root_among core number (root ∷ roots) place =
    child_by (nat_eq root.core core) (Some number) place (root_among core (number + 1) roots)

-- the number of a family
abbrev pub family_in : kernel.Kernel → World → Family → Option ℕ
family_in K x (of_root core place) = root_among core 0 K.roots place
family_in K x (of_child maker par index) = and_then (family_in K x maker) (λ family. child_family x family par index)

-- something stands in the inbox of a side of a channel, by the channel's place among those with two sides
pub record HasParcel (K : kernel.Kernel) (x : World) (place : ℕ) (side : Side) : Type 0 where
  pub channel : ℕ
  pub is_channel : slice_get (two_sided K) place ≡ Some channel
  pub oldest : Parcel
  pub others : List Parcel
  pub stand : inbox x channel side ≡ oldest ∷ others

-- a meaning over the states of kernels and texts, by the kernel, where it begins, and the bound on steps
abbrev pub of_worlds : kernel.Kernel → World → (bound : ℕ) → Source
of_worlds K start bound = record {
  State = World;
  Action = Action;
  start = start;
  acts = acts K;
  clock = clock;
  clocks = λ x. x.clocks;
  trace = λ x. x.trace;
  HasEnded = λ x. all_ended x.branches ≡ true;
  HasArrived = HasParcel K;
  IsQuiet = IsQuiet K;
  mover = mover;
  family_number = family_in K;
  bound = bound;
}

abbrev pub of_kernel : kernel.Kernel → Source
of_kernel K = of_worlds K (kernel_start K) (kernel_bound K)

-- a text's variables and channels have the numbers that its kernel gives them
abbrev pub of_text : List tree.Item → Source
of_text P = of_worlds (copy_of P) (program_start P) (program_bound P)

-- An image implements wholly each typed program of which this is the kernel.
abbrev pub ImplementsTextsOf : Image → kernel.Kernel → Type 0
ImplementsTextsOf L K =
    (P : List tree.Item) (named : NamedProgram) (types : List Bool) →
    IsTyped P named types → Copies P K → ImplementsWholly L (of_text P)

-- What implements the kernel of a program that breaks no rule of names, types and shapes implements its text.
abbrev pub KernelsCarry : Type 0
KernelsCarry =
    (L : Image) (P : List tree.Item) (K : kernel.Kernel) (named : NamedProgram) (types : List Bool) →
    IsTyped P named types → Copies P K → Implements L (of_kernel K) → Implements L (of_text P)

-- Where besides each exit of the kernel meets its mark, and no `par` of it has more than eight branches, what keeps all that an image
-- promises of the kernel keeps it of the text.
abbrev pub KernelsCarryWholly : Type 0
KernelsCarryWholly =
    (L : Image) (P : List tree.Item) (K : kernel.Kernel) (named : NamedProgram) (types : List Bool) →
    IsTyped P named types → Copies P K → ((s : Stim) → ExitsMeet K s) → highest widest_in_root K.roots ≤ 8 →
    ImplementsWholly L (of_kernel K) → ImplementsWholly L (of_text P)
