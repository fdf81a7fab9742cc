-- Families: a branch with the family of the first branch of each `par` that it makes. How many steps each has done.
use Rattle.std.specs.Prelude.{ℕ, zero, suc, ◌+◌, ◌-◌, Bool, true, false, ◌&&◌, List, [], ◌∷◌, Option, Some, None, option_map, nat_eq, nat_lt, if◌then◌else◌, slice_get}
use Rattle.xs_instr.specs.declared.image.Stim.{Stim}
use Rattle.xc_kernel.specs.Plain as kernel
use Rattle.xc_meaning.specs.States.Branches.{Birth, Branch}
use Rattle.xc_meaning.specs.States.Worlds.{World, Action, clock, go, take, default}
use Rattle.xc_meaning.specs.Runs.{acts}

abbrev pub family_of_branch : Branch → ℕ
family_of_branch b = b.family

-- the family of a branch by its number
abbrev pub family_at : World → (branch : ℕ) → Option ℕ
family_at x b = option_map family_of_branch (slice_get x.branches b)

-- the family whose step this is; a clock's step is none's
abbrev pub mover : World → Action → Option ℕ
mover x (clock core) = None
mover x (go b) = family_at x b
mover x (take b n) = family_at x b
mover x (default b) = family_at x b

abbrev pub one_if : Bool → ℕ
one_if true = 1
one_if false = 0

-- 1 for a step of this family, else 0
abbrev pub counted_for : (family : ℕ) → Option ℕ → ℕ
counted_for family None = 0
counted_for family (Some other) = one_if (nat_eq family other)

-- the steps of a family in a list of steps from a state on
abbrev pub steps_of : kernel.Kernel → Stim → (family : ℕ) → Option World → List Action → ℕ
steps_of K s family None ms = 0
steps_of K s family (Some x) [] = 0
steps_of K s family (Some x) (m ∷ ms) = counted_for family (mover x m) + steps_of K s family (acts K s x m) ms

-- whether a branch is the second one of a `par` that the family made; each `par` of two or more branches has one
abbrev pub is_second : (family : ℕ) → Option Birth → Bool
is_second family None = false
is_second family (Some b) = nat_eq b.family family && nat_eq b.index 1

-- The branch with an index, from 1, of the `par` whose second branch is this one: a `par`'s branches have successive numbers.
abbrev pub child_of : (index number : ℕ) → Option Birth → Option ℕ
child_of index number None = None
child_of index number (Some b) = if nat_lt index b.among then Some (number + index - 1) else None

-- `child_among`, by cases
abbrev pub child_by : Bool → (here : Option ℕ) → (j : ℕ) → (others : ℕ → Option ℕ) → Option ℕ
child_by true here zero others = here
child_by true here (suc j) others = others j
child_by false here j others = others j

-- Of the branches from a number on: the one with this index, from 1, in the j-th such `par`, from 0. It begins a family, which
-- has its number.
abbrev pub child_among : (family index number : ℕ) → List Branch → (j : ℕ) → Option ℕ
child_among family index number [] j = None
child_among family index number (b ∷ bs) j =
    child_by (is_second family b.birth) (child_of index number b.birth) j (child_among family index (number + 1) bs)

-- the family of the branch with this index, from 1, in the j-th `par` of two or more branches that a family made
abbrev pub child_family : World → (family j index : ℕ) → Option ℕ
child_family x family j index = child_among family index 0 x.branches j
