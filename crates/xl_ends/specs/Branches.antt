-- The sides in which the branches of a `par` stand.
use Rattle.std.specs.List.{list_any}
use Rattle.std.specs.Prelude.{ℕ, ◌+◌, Bool, false, List, [], ◌∷◌, ◌++◌, Option, Some, None, slice_index_or}
use Rattle.xc_kernel.specs.Plain as kernel
use Rattle.xc_meaning.specs.Settings.Sides.{side_by, sides_in}
use Rattle.xc_meaning.specs.States.Channels.{Side}
use Rattle.xl_ends.specs.Ends.{Sides, codes_in}
use Rattle.xl_ends.specs.Uses.{uses_among}

-- the sides of each branch, by those in which the `par` stands and by the code of the branches before it, the last one first
abbrev pub sides_of_each : Sides → (before : List kernel.Statements) → kernel.Branches → List Sides
sides_of_each sides before kernel.no_branch = []
sides_of_each sides before (kernel.more_branches (kernel.branch code pos) bs) =
    sides_in 0 before code (codes_in bs) sides ∷ sides_of_each sides (code ∷ before) bs

-- By lists that tell of each channel whether some code uses it.

abbrev pub uses_of_branch : (channels : ℕ) → kernel.Branch → List Bool
uses_of_branch n (kernel.branch code pos) = uses_among n code

abbrev pub uses_at : (channel : ℕ) → List Bool → Bool
uses_at c used = slice_index_or used c false

-- whether one of these branches uses a channel
abbrev pub one_uses_at : (channel : ℕ) → List (List Bool) → Bool
one_uses_at c used = list_any (uses_at c) used

-- a branch stands in the side in which its `par` stands; else it is the side that the `par` makes it
abbrev pub side_or_by : (here before behind : Bool) → Option Side → Option Side
side_or_by here before behind (Some side) = Some side
side_or_by here before behind None = side_by here before behind

-- the same for each channel from a number on
abbrev pub sides_by : ℕ → (before : List (List Bool)) (here : List Bool) (behind : List (List Bool)) → Sides → Sides
sides_by c before here behind [] = []
sides_by c before here behind (side ∷ sides) =
    side_or_by (uses_at c here) (one_uses_at c before) (one_uses_at c behind) side ∷ sides_by (c + 1) before here behind sides

-- the same for each of some codes, by the channels that those before it, it itself and those behind it use
abbrev pub sides_by_each : Sides → (before used : List (List Bool)) → List Sides
sides_by_each sides before [] = []
sides_by_each sides before (here ∷ behind) = sides_by 0 before here behind sides ∷ sides_by_each sides (before ++ here ∷ []) behind
