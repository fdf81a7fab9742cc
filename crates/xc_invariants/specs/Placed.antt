-- Blocks, transactions and the end of a branch's items.
use Rattle.std.specs.Prelude.{◌≡◌, ℕ, false, IsTrue, List, [], ◌∷◌, ◌++◌, Some, slice_get}
use Rattle.xc_kernel.specs.Plain as kernel
use Rattle.xc_meaning.specs.States.Items.{Item, does, says, mark, transaction_end, chooses, ends}
use Rattle.xc_meaning.specs.States.Branches.{Mode, runs, waits, ended, erred, Branch}
use Rattle.xc_meaning.specs.Settings.Channels.{is_among}
use Rattle.xc_kernel.specs.Things.{channel, by_branches}
use Rattle.xc_meaning.specs.Uses.{by_items}
use Rattle.xc_invariants.specs.Needs.{AnyInput}
use Rattle.xc_invariants.specs.Sided.{EachChoice, DefaultIs}
use Rattle.xc_kernel.specs.Branches.{branches_of}

-- What is asked of a block by its number and those of the blocks around it, and of a `par` by the channels of the transactions around it:
-- nothing,
abbrev pub AnyBlock : ℕ → List ℕ → Type 0
AnyBlock n around = Unit {0}

abbrev pub AnyInside : List ℕ → kernel.Branches → Type 0
AnyInside inside bs = Unit {0}

-- or that the block has another number than those around it, and that the `par` uses none of these channels
abbrev pub IsDistinct : ℕ → List ℕ → Type 0
IsDistinct n around = is_among n around ≡ false

pub record AreUnused (inside : List ℕ) (bs : kernel.Branches) : Type 0 where
  pub unused : (c : ℕ) → IsTrue (is_among c inside) → IsTrue (by_branches (channel c) bs) → ⊥

-- the marks of blocks among items, and of these the ones in front of the end of a transaction
abbrev pub marks_of : List Item → List ℕ
marks_of [] = []
marks_of (mark n ∷ rest) = n ∷ marks_of rest
marks_of (item ∷ rest) = marks_of rest

abbrev pub open_of : List Item → List ℕ
open_of [] = []
open_of (mark n ∷ rest) = n ∷ open_of rest
open_of (transaction_end c is_master pos ∷ rest) = []
open_of (item ∷ rest) = open_of rest

-- the channels of the transactions that end among items
abbrev pub ends_of : List Item → List ℕ
ends_of [] = []
ends_of (transaction_end c is_master pos ∷ rest) = c ∷ ends_of rest
ends_of (item ∷ rest) = ends_of rest

-- the last item, and no other, is the end of the branch
abbrev pub EndsWell : List Item → Type 0
EndsWell [] = ⊥
EndsWell (ends ∷ []) = Unit {0}
EndsWell (ends ∷ item ∷ rest) = ⊥
EndsWell (item ∷ rest) = EndsWell rest

-- of a branch that runs or waits
abbrev pub IfLively : Mode → Type 0 → Type 0
IfLively runs A = A
IfLively (waits from count) A = A
IfLively ended A = Unit {0}
IfLively erred A = Unit {0}

-- A branch stands in the transactions whose ends are among its items, and in those in which the `par` stood that made it.
pub record IsInside (b : Branch) : Type 0 where
  pub outer : List ℕ
  pub is : b.inside ≡ ends_of b.items ++ outer

-- of these last ones it uses no channel
pub record IsAlone (b : Branch) : Type 0 where
  pub outer : List ℕ
  pub is : b.inside ≡ ends_of b.items ++ outer
  pub unused : (c : ℕ) → IsTrue (is_among c outer) → IsTrue (by_items (channel c) b.items) → ⊥

pub record EachAlone (bs : List Branch) : Type 0 where
  pub each : (n : ℕ) (b : Branch) → slice_get bs n ≡ Some b → IfLively b.mode (IsAlone b)

module _ (B : ℕ → List ℕ → Type 0) (A : List ℕ → kernel.Branches → Type 0) where
  -- Code with these blocks around it, of which it may leave some, in the transactions on these channels: what is left is a block
  -- around it in the same branch and transaction.
  abbrev mutual
    pub PlacedStatement : (around free : List ℕ) (inside : List ℕ) → kernel.Statement → Type 0
    PlacedStatement around free inside (kernel.set_zero v) = Unit {0}
    PlacedStatement around free inside (kernel.set p e) = Unit {0}
    PlacedStatement around free inside (kernel.output o) = Unit {0}
    PlacedStatement around free inside (kernel.input i) = Unit {0}
    PlacedStatement around free inside (kernel.if_then e a b) = PlacedStatements around free inside a × PlacedStatements around free inside b
    PlacedStatement around free inside (kernel.loop e a b) = PlacedStatements around free inside a × PlacedStatements around free inside b
    PlacedStatement around free inside (kernel.block n a) = B n around × PlacedStatements (n ∷ around) (n ∷ free) inside a
    PlacedStatement around free inside (kernel.exit n) = IsTrue (is_among n free)
    PlacedStatement around free inside (kernel.select cs d pos) = PlacedCases around free inside cs × PlacedDefault around free inside d
    PlacedStatement around free inside (kernel.par bs) = A inside bs × PlacedBranches bs
    PlacedStatement around free inside (kernel.transaction c is_master a start close) = PlacedStatements around [] (c ∷ inside) a

    pub PlacedStatements : (around free : List ℕ) (inside : List ℕ) → kernel.Statements → Type 0
    PlacedStatements around free inside kernel.no_more = Unit {0}
    PlacedStatements around free inside (kernel.more s ss) = PlacedStatement around free inside s × PlacedStatements around free inside ss

    pub PlacedCases : (around free : List ℕ) (inside : List ℕ) → kernel.Cases → Type 0
    PlacedCases around free inside kernel.no_case = Unit {0}
    PlacedCases around free inside (kernel.more_cases (kernel.case guard i a) cs) = PlacedStatements around free inside a × PlacedCases around free inside cs

    pub PlacedDefault : (around free : List ℕ) (inside : List ℕ) → kernel.Default → Type 0
    PlacedDefault around free inside kernel.no_default = Unit {0}
    PlacedDefault around free inside (kernel.default a) = PlacedStatements around free inside a

    pub PlacedBranches : kernel.Branches → Type 0
    PlacedBranches kernel.no_branch = Unit {0}
    PlacedBranches (kernel.more_branches (kernel.branch a pos) bs) = PlacedStatements [] [] [] a × PlacedBranches bs

  abbrev pub PlacedItem : (around free : List ℕ) (inside : List ℕ) → Item → Type 0
  PlacedItem around free inside (does s) = PlacedStatement around free inside s
  PlacedItem around free inside (says i) = ⊥
  PlacedItem around free inside (mark n) = B n around
  PlacedItem around free inside (chooses choices otherwise) = EachChoice AnyInput (PlacedStatements around free inside) choices × DefaultIs (PlacedStatements around free inside) otherwise
  PlacedItem around free inside item = Unit {0}

  -- each item by what is behind it
  abbrev pub PlacedItems : List Item → Type 0
  PlacedItems [] = Unit {0}
  PlacedItems (item ∷ rest) = PlacedItem (marks_of rest) (open_of rest) (ends_of rest) item × PlacedItems rest

  pub record WellPlaced (b : Branch) : Type 0 where
    pub placed : PlacedItems b.items
    pub ended : EndsWell b.items
    pub inside : IsInside b

  pub record EachPlaced (bs : List Branch) : Type 0 where
    pub each : (n : ℕ) (b : Branch) → slice_get bs n ≡ Some b → IfLively b.mode (WellPlaced b)

  -- a kernel is so at its roots
  pub record IsPlaced (K : kernel.Kernel) : Type 0 where
    pub roots : PlacedBranches (branches_of K.roots)
