-- How many threads are needed for what the branches have still to do.
use Rattle.std.specs.Prelude.{◌≡◌, ◌⊎◌, ℕ, zero, suc, ◌+◌, ◌<◌, ◌≤◌, max, List, [], ◌∷◌, Option, Some, None, nat_eq, slice_get}
use Rattle.xc_kernel.specs.Plain as kernel
use Rattle.xc_meaning.specs.States.Items.{Item, does, says, chooses}
use Rattle.xc_meaning.specs.States.Branches.{Mode, waits, Branch}
use Rattle.xc_disjoint.specs.Cores.{if_so}
use Rattle.xc_disjoint.specs.Threads as threads
use Rattle.xc_invariants.specs.Each.{EachItem}
use Rattle.xc_invariants.specs.Tree.{IsWaiting, IsPresent}
use Rattle.xc_invariants.specs.Sided.{EachChoice, DefaultIs}

abbrev pub AnyInput : kernel.Input → Type 0
AnyInput i = Unit {0}

abbrev pub CodeWithin : ℕ → kernel.Statements → Type 0
CodeWithin most ss = threads.of_statements ss ≤ most

-- an item needs no more threads than this
abbrev pub NeedsWithin : ℕ → Item → Type 0
NeedsWithin most (does s) = threads.of_statement s ≤ most
NeedsWithin most (chooses choices otherwise) = EachChoice AnyInput (CodeWithin most) choices × DefaultIs (CodeWithin most) otherwise
NeedsWithin most (says i) = ⊥
NeedsWithin most item = Unit {0}

-- the sum of so many numbers from one on
abbrev pub sum_from : (ℕ → ℕ) → (from count : ℕ) → ℕ
sum_from f from zero = 0
sum_from f from (suc count) = f from + sum_from f (from + 1) count

-- Each branch has threads, of which it needs some for what is left to it, and of which it gives some to those for which it waits.
-- A root has what it needs.
pub record Budgeted (roots : List kernel.Root) (budget : ℕ → ℕ) (bs : List Branch) : Type 0 where
  pub items : EachItem (λ n sides. NeedsWithin (budget n)) bs
  pub some : (n : ℕ) (b : Branch) → slice_get bs n ≡ Some b → 1 ≤ budget n
  pub shares : (n : ℕ) (b : Branch) (from count : ℕ) → slice_get bs n ≡ Some b → b.mode ≡ waits from count → sum_from budget from count ≤ budget n
  pub roots_have : (j : ℕ) (r : kernel.Root) → slice_get roots j ≡ Some r → budget j ≡ threads.of_statements r.body

pub record HasBudget (roots : List kernel.Root) (bs : List Branch) : Type 0 where
  pub budget : ℕ → ℕ
  pub budgeted : Budgeted roots budget bs

-- Behind a step: branches keep what they had, of so many branches, and new ones have something.
pub record KeepsBudget (roots : List kernel.Root) (budget : ℕ → ℕ) (branches : ℕ) (bs : List Branch) : Type 0 where
  pub next : ℕ → ℕ
  pub budgeted : Budgeted roots next bs
  pub same : (n : ℕ) → n < branches → next n ≡ budget n

-- how many branches a `par` has
abbrev pub branches_in : kernel.Branches → ℕ
branches_in kernel.no_branch = 0
branches_in (kernel.more_branches b bs) = suc (branches_in bs)

-- the threads that a branch takes that doesn't wait: one, or those of the `par` that it is about to begin
abbrev pub takes : List Item → ℕ
takes (does (kernel.par bs) ∷ rest) = max (branches_in bs) 1
takes items = 1

-- The threads that are taken by a branch and by those for which it waits, down to some depth. One that waits takes none itself.

abbrev pub taken_in : (below : ℕ → ℕ) → List Item → Mode → ℕ
taken_in below items (waits from count) = sum_from below from count
taken_in below items mode = takes items

abbrev pub taken_by : (below : ℕ → ℕ) → Option Branch → ℕ
taken_by below None = 0
taken_by below (Some b) = taken_in below b.items b.mode

abbrev pub taken : (depth : ℕ) → List Branch → ℕ → ℕ
taken zero bs n = 0
taken (suc depth) bs n = taken_by (taken depth bs) (slice_get bs n)

-- the threads of a root on a core, and those of all roots there
abbrev pub needed_on : ℕ → List kernel.Root → ℕ
needed_on core [] = 0
needed_on core (r ∷ rs) = if_so (nat_eq r.core core) (threads.of_statements r.body) + needed_on core rs

-- those that are taken on a core, from a root on
abbrev pub taken_on : (depth : ℕ) → List Branch → ℕ → (number : ℕ) → List kernel.Root → ℕ
taken_on depth bs core number [] = 0
taken_on depth bs core number (r ∷ rs) = if_so (nat_eq r.core core) (taken depth bs number) + taken_on depth bs core (number + 1) rs

-- the threads that a branch takes that doesn't wait
abbrev pub takes_of : Option Branch → ℕ
takes_of None = 0
takes_of (Some b) = takes b.items

abbrev pub takes_at : List Branch → ℕ → ℕ
takes_at bs n = takes_of (slice_get bs n)

abbrev pub IsIn : ℕ → List ℕ → Type 0
IsIn n [] = ⊥
IsIn n (m ∷ ms) = (n ≡ m) ⊎ IsIn n ms

-- no number stands twice
abbrev pub AreOnce : List ℕ → Type 0
AreOnce [] = Unit {0}
AreOnce (n ∷ ns) = (IsIn n ns → ⊥) × AreOnce ns

abbrev pub total_of : (ℕ → ℕ) → List ℕ → ℕ
total_of f [] = 0
total_of f (n ∷ ns) = f n + total_of f ns

-- a present branch of a core that doesn't wait
pub record TakesOn (roots : ℕ) (bs : List Branch) (core n : ℕ) : Type 0 where
  pub present : IsPresent roots bs n
  pub branch : Branch
  pub is : slice_get bs n ≡ Some branch
  pub goes : IsWaiting branch.mode → ⊥
  pub on_core : branch.core ≡ core

-- the branches of the roots are on the roots' cores
pub record RootCores (roots : List kernel.Root) (bs : List Branch) : Type 0 where
  pub core : (j : ℕ) (r : kernel.Root) (b : Branch) → slice_get roots j ≡ Some r → slice_get bs j ≡ Some b → b.core ≡ r.core
