-- A `par` makes its branches, waits for them, and goes on.
use Rattle.std.specs.Prelude.{ℕ, zero, suc, ◌+◌, Bool, true, false, ◌&&◌, List, [], ◌∷◌, ◌++◌, length, Option, Some, None, slice_get}
use Rattle.xc_kernel.specs.Plain as kernel
use Rattle.xc_meaning.specs.States.Channels.{Side}
use Rattle.xc_meaning.specs.States.Items.{Item, ends, todo}
use Rattle.xc_meaning.specs.States.Branches.{runs, waits, has_ended, Branch}
use Rattle.xc_meaning.specs.States.Worlds.{World, only_if}
use Rattle.xc_meaning.specs.Settings.Setting.{Setting, becomes, goes_on}
use Rattle.xc_meaning.specs.Settings.Sides.{sides_in}

-- what a new branch has to do, and its code, which tells the channels that it uses
pub record Begun : Type 0 where
  pub items : List Item
  pub code : kernel.Statements

-- the code of each of some branches
abbrev pub codes_of : List Begun → List kernel.Statements
codes_of [] = []
codes_of (b ∷ bs) = b.code ∷ codes_of bs

-- code to be run by a branch of its own
abbrev pub begun : kernel.Statements → Begun
begun code = record { items = todo code (ends ∷ []); code = code }

-- the branches of a kernel's `par`
abbrev pub all_begun : kernel.Branches → List Begun
all_begun kernel.no_branch = []
all_begun (kernel.more_branches (kernel.branch code pos) bs) = begun code ∷ all_begun bs

-- the first branch of a `par` belongs to the family of the branch that made it, each other one begins its own
abbrev pub family_of : (makers number index : ℕ) → ℕ
family_of makers number zero = makers
family_of makers number (suc index) = number

-- a branch of a `par` by its index, among so many
abbrev pub child : Setting → (among index : ℕ) → List (Option Side) → List Item → Branch
child s among index sides items = record {
  core = s.branch.core;
  mode = runs;
  items = items;
  sides = sides;
  inside = s.branch.inside;
  family = family_of s.branch.family (length s.world.branches + index) index;
  birth = Some (record { family = s.branch.family; index = index; among = among });
}

-- the branches from an index on, behind those with this code
abbrev pub children : Setting → (among index : ℕ) → (before : List kernel.Statements) → List Begun → List Branch
children s among index before [] = []
children s among index before (b ∷ bs) =
    child s among index (sides_in 0 before b.code (codes_of bs) s.branch.sides) b.items
    ∷ children s among (index + 1) (b.code ∷ before) bs

-- a state with more branches
abbrev pub with_branches : World → List Branch → World
with_branches x more = record x { branches = x.branches ++ more }

-- the branch waits for so many new ones
abbrev pub waits_for : Setting → (count : ℕ) → World
waits_for s count = becomes s (record s.branch { mode = waits (length s.world.branches) count; items = s.rest })

-- the branches are made, and waited for; without branches it goes on at once
abbrev pub makes : Setting → List Begun → Option World
makes s [] = Some (goes_on s)
makes s bs = Some (with_branches (waits_for s (length bs)) (children s (length bs) 0 [] bs))

-- whether this branch is there and has ended
abbrev pub is_done : Option Branch → Bool
is_done None = false
is_done (Some b) = has_ended b.mode

-- whether each of so many branches from a number on has ended
abbrev pub all_done : World → (from count : ℕ) → Bool
all_done x from zero = true
all_done x from (suc count) = is_done (slice_get x.branches (from + count)) && all_done x from count

-- the branch goes on behind its `par` once all branches of that have ended
abbrev pub joins : Setting → (from count : ℕ) → Option World
joins s from count = only_if (all_done s.world from count) (becomes s (record s.branch { mode = runs }))
