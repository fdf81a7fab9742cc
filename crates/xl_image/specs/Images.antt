-- The image of a kernel.
use Rattle.std.specs.Prelude.{◌≡◌, ℕ, zero, suc, ◌+◌, ◌*◌, Bool, true, false, ◌||◌, List, [], ◌∷◌, ◌++◌, length, map, filter, Contains, Option, Some, None, nat_eq, slice_get}
use Rattle.xs_instr.specs.declared.image.CoreImage.{CoreImage}
use Rattle.xs_instr.specs.declared.image.Dir.{Dir}
use Rattle.xs_instr.specs.declared.image.Dir.TheVariants as dir
use Rattle.xs_instr.specs.declared.image.Image.{Image}
use Rattle.xs_instr.specs.declared.image.Pair.{Pair}
use Rattle.xs_instr.specs.declared.image.PortDecl.{PortDecl}
use Rattle.xs_instr.specs.declared.instr.Instr.TheVariants.{Freet, Ldc, Setsp}
use Rattle.xs_instr.specs.declared.instr.Reg.TheVariants.{R0}
use Rattle.xc_tree.specs.declared.tree.TreeDir.{TreeDir}
use Rattle.xc_tree.specs.declared.tree.TreeDir.TheVariants.{In, Out, Both}
use Rattle.xc_kernel.specs.declared.kernel.PortUse.{PortUse}
use Rattle.xc_kernel.specs.Plain as kernel
use Rattle.xc_kernel.specs.Branches.{branches_of}
use Rattle.xc_kernel.specs.Things.{channel, by_statements}
use Rattle.xc_meaning.specs.Runs.{no_side}
use Rattle.xc_meaning.specs.Settings.Sides.{sides_in}
use Rattle.xc_meaning.specs.States.Channels.{first, second}
use Rattle.xc_disjoint.specs.Needs.{ends_on, timers_on, words_on}
use Rattle.xl_expr.specs.declared.plan.Plan.{Plan}
use Rattle.xl_plan.specs.Layout.{core_of, end_number, first_temporary, number_on, temporary_of}
use Rattle.xl_plan.specs.Planned.{HasChannels, HasEnds, HasNoOther, HasPorts, HasTimers, HasUsedPorts, HasUsedTimers, HasUsedVariables, HasVariables, NoneIsTemporary, NoneShare, StandBelow, ports_on}
use Rattle.xl_ends.specs.Ends.{Sides, codes_in}
use Rattle.xl_statements.specs.Pieces.{PiecesAt}
use Rattle.xl_image.specs.Code.{InstrAt}

-- a plan as `plan` makes it
pub record IsPlan (k : kernel.Kernel) (core : ℕ) (plan : Plan) : Type 0 where
  pub variables : HasVariables k core plan.vars
  pub no_other : HasNoOther k core plan.vars
  pub used_variables : HasUsedVariables k core plan.vars
  pub below : StandBelow (first_temporary k core) plan.vars
  pub apart : NoneShare plan.vars
  pub not_temporary : NoneIsTemporary k core plan.vars
  pub ports : HasPorts k core plan.ports
  pub timers : HasTimers k core plan.timers
  pub used_ports : HasUsedPorts k core plan.ports
  pub used_timers : HasUsedTimers k core plan.timers
  pub ends : HasEnds k core plan.ends
  pub channels : HasChannels k core plan.channels
  pub first_stack : plan.first_stack ≡ temporary_of k core 0

-- a port as an image declares it
abbrev pub dir_of : TreeDir → Dir
dir_of In = dir.In
dir_of Out = dir.Out
dir_of Both = dir.Both

abbrev pub decl_of : PortUse → PortDecl
decl_of p = record { port = p.id; dir = dir_of p.dir }

-- the roots on a core, in the kernel's order
abbrev pub roots_on : (core : ℕ) → List kernel.Root → List kernel.Root
roots_on core rs = filter (λ r. nat_eq r.core core) rs

-- the place of a root of this number among its core's
abbrev pub core_of_root : kernel.Root → ℕ
core_of_root r = r.core

abbrev pub thread_of : (core : ℕ) → List kernel.Root → (number : ℕ) → ℕ
thread_of core rs number = number_on core_of_root core rs number

-- outside of all `par`s code stands in no side of a channel
abbrev pub no_sides : kernel.Kernel → Sides
no_sides k = map no_side k.channels

-- A root and the sides of channels in which its code stands.
pub record SidedRoot : Type 0 where
  pub root : kernel.Root
  pub sides : Sides

-- The roots are the branches of one `par`: each has the sides that this makes it, by the code of the roots before it, the last one first,
-- and of those behind it.
abbrev pub sided_from : Sides → (before : List kernel.Statements) → List kernel.Root → List SidedRoot
sided_from sides before [] = []
sided_from sides before (r ∷ rs) =
    record { root = r; sides = sides_in 0 before r.body (codes_in (branches_of rs)) sides }
    ∷ sided_from sides (r.body ∷ before) rs

abbrev pub sided_roots : kernel.Kernel → List SidedRoot
sided_roots k = sided_from (no_sides k) [] k.roots

-- those on a core, in the kernel's order
abbrev pub sided_on : (core : ℕ) → List SidedRoot → List SidedRoot
sided_on core ss = filter (λ s. nat_eq s.root.core core) ss

-- the sides in which the code of the root of a number stands
abbrev pub sides_or : Sides → Option SidedRoot → Sides
sides_or others None = others
sides_or others (Some s) = s.sides

abbrev pub root_sides : kernel.Kernel → (number : ℕ) → Sides
root_sides k number = sides_or (no_sides k) (slice_get (sided_roots k) number)

-- The code of the root at a place among its core's, which stands in these sides: its stack is set to its own temporary words, then its
-- statements stand, and then it ends.
pub record RootAt (k : kernel.Kernel) (plan : Plan) (image : CoreImage) (core place : ℕ) (r : kernel.Root) (sides : Sides) : Type 0 where
  pub index : ℕ
  pub listed : slice_get image.roots place ≡ Some index
  pub stack : InstrAt image.code index (Ldc R0 (4 * temporary_of k core place))
  pub set : InstrAt image.code (index + 1) (Setsp R0)
  pub behind : ℕ
  pub body : PiecesAt image.code plan sides r.body [] (index + 2) behind
  pub end : InstrAt image.code behind Freet

-- a core's part of the image
pub record IsCoreImage (k : kernel.Kernel) (image : CoreImage) : Type 0 where
  pub plan : Plan
  pub planned : IsPlan k image.number plan
  pub words : image.words ≡ words_on k image.number
  pub timers : image.timers ≡ timers_on k image.number
  pub ends : image.ends ≡ ends_on k image.number
  pub ports : image.ports ≡ map decl_of (ports_on image.number k.ports)
  pub as_many : length image.roots ≡ length (roots_on image.number k.roots)
  pub roots : (number : ℕ) (r : kernel.Root) → slice_get k.roots number ≡ Some r → r.core ≡ image.number →
      RootAt k plan image image.number (thread_of image.number k.roots number) r (root_sides k number)

-- whether some root uses a channel
abbrev pub one_root_uses : (channel : ℕ) → List kernel.Root → Bool
one_root_uses c [] = false
one_root_uses c (r ∷ rs) = by_statements (channel c) r.body || one_root_uses c rs

abbrev pub is_used : kernel.Kernel → (channel : ℕ) → Bool
is_used k c = one_root_uses c k.roots

-- the ends of a channel's two sides, each on its side's core
abbrev pub pair_of : kernel.Kernel → (channel : ℕ) → Pair
pair_of k c = record {
  core = core_of k c first;
  end = end_number k (core_of k c first) c first;
  peer_core = core_of k c second;
  peer_end = end_number k (core_of k c second) c second;
}

abbrev pub pair_where : Bool → Pair → List Pair
pair_where true pair = pair ∷ []
pair_where false pair = []

-- Those of the channels below a number that are used, in the kernel's order. A channel without two sides has no line and no end, as
-- the machine has none for it. So line k is the k-th channel that has two sides.
abbrev pub pairs_below : kernel.Kernel → (channels : ℕ) → List Pair
pairs_below k zero = []
pairs_below k (suc c) = pairs_below k c ++ pair_where (is_used k c) (pair_of k c)

-- An image has a part for each core with a root, by number, and the ends of each channel that is used.
pub record IsImage (k : kernel.Kernel) (image : Image) : Type 0 where
  pub cores : (core : ℕ) (r : kernel.Root) → Contains (roots_on core k.roots) r → (part : CoreImage) × Contains image.cores part × (part.number ≡ core)
  pub parts : (part : CoreImage) → Contains image.cores part → IsCoreImage k part
  pub channels : image.chans ≡ pairs_below k (length k.channels)
