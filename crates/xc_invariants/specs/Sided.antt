-- What the rules on the sides of channels leave of a kernel.
use Rattle.std.specs.Prelude.{◌≡◌, ◌⊎◌, ℕ, ◌<◌, ◌≤◌, false, IsTrue, List, [], ◌∷◌, length, Option, Some, None, nat_eq, slice_index_or}
use Rattle.xc_kernel.specs.Plain as kernel
use Rattle.xc_meaning.specs.States.Channels.{Side, first, second}
use Rattle.xc_meaning.specs.States.Items.{Body, of_kernel, of_text, Choice, Item, does, says, stores, stamps, mark, awaits, transaction_end, chooses, fixed, ends}
use Rattle.xc_meaning.specs.States.Branches.{Branch, side_of}
use Rattle.xc_kernel.specs.Things.{channel, by_resource}
use Rattle.xc_meaning.specs.Uses.{by_items}
use Rattle.xc_invariants.specs.Every.{EveryItem, EveryBranches}
use Rattle.xc_invariants.specs.Rules.{AnyThing, AnyTransaction}
use Rattle.xc_kernel.specs.Branches.{branches_of, users}

-- what holds of the input and the body of each case
abbrev pub BodyIs : (kernel.Statements → Type 0) → Body → Type 0
BodyIs B (of_kernel ss) = B ss
BodyIs B (of_text i) = ⊥

abbrev pub DefaultIs : (kernel.Statements → Type 0) → Option Body → Type 0
DefaultIs B None = Unit {0}
DefaultIs B (Some b) = BodyIs B b

abbrev pub EachChoice : (kernel.Input → Type 0) → (kernel.Statements → Type 0) → List Choice → Type 0
EachChoice I B [] = Unit {0}
EachChoice I B (c ∷ cs) = I c.input × BodyIs B c.body × EachChoice I B cs

abbrev pub AtMostOne : ℕ → kernel.Branches → Type 0
AtMostOne c bs = users c bs ≤ 1

-- Code that stands in one side of a channel holds no `par` with two branches that use it.
abbrev pub LoneBranches : ℕ → kernel.Branches → Type 0
LoneBranches c bs = EveryBranches AnyThing (AtMostOne c) AnyTransaction bs

abbrev pub LoneItem : ℕ → Item → Type 0
LoneItem c item = EveryItem AnyThing (AtMostOne c) AnyTransaction item

-- Code that stands in no side of a channel uses it in `par`s alone: each has exactly two branches that use it, which are its sides, or
-- else at most one, where the same holds.
abbrev mutual
  pub UnsidedStatement : ℕ → kernel.Statement → Type 0
  UnsidedStatement c (kernel.set_zero v) = Unit {0}
  UnsidedStatement c (kernel.set p e) = Unit {0}
  UnsidedStatement c (kernel.output o) = by_resource (channel c) o.resource ≡ false
  UnsidedStatement c (kernel.input i) = by_resource (channel c) i.resource ≡ false
  UnsidedStatement c (kernel.if_then e a b) = UnsidedStatements c a × UnsidedStatements c b
  UnsidedStatement c (kernel.loop e a b) = UnsidedStatements c a × UnsidedStatements c b
  UnsidedStatement c (kernel.block n a) = UnsidedStatements c a
  UnsidedStatement c (kernel.exit n) = Unit {0}
  UnsidedStatement c (kernel.select cs d pos) = UnsidedCases c cs × UnsidedDefault c d
  UnsidedStatement c (kernel.par bs) = (AtMostOne c bs × UnsidedBranches c bs) ⊎ ((users c bs ≡ 2) × LoneBranches c bs)
  UnsidedStatement c (kernel.transaction d is_master a start close) = (nat_eq c d ≡ false) × UnsidedStatements c a

  pub UnsidedStatements : ℕ → kernel.Statements → Type 0
  UnsidedStatements c kernel.no_more = Unit {0}
  UnsidedStatements c (kernel.more s ss) = UnsidedStatement c s × UnsidedStatements c ss

  pub UnsidedCase : ℕ → kernel.Case → Type 0
  UnsidedCase c (kernel.case guard i a) = (by_resource (channel c) i.resource ≡ false) × UnsidedStatements c a

  pub UnsidedCases : ℕ → kernel.Cases → Type 0
  UnsidedCases c kernel.no_case = Unit {0}
  UnsidedCases c (kernel.more_cases a cs) = UnsidedCase c a × UnsidedCases c cs

  pub UnsidedDefault : ℕ → kernel.Default → Type 0
  UnsidedDefault c kernel.no_default = Unit {0}
  UnsidedDefault c (kernel.default a) = UnsidedStatements c a

  pub UnsidedBranch : ℕ → kernel.Branch → Type 0
  UnsidedBranch c (kernel.branch a pos) = UnsidedStatements c a

  pub UnsidedBranches : ℕ → kernel.Branches → Type 0
  UnsidedBranches c kernel.no_branch = Unit {0}
  UnsidedBranches c (kernel.more_branches b bs) = UnsidedBranch c b × UnsidedBranches c bs

abbrev pub UnsidedInput : ℕ → kernel.Input → Type 0
UnsidedInput c i = by_resource (channel c) i.resource ≡ false

abbrev pub UnsidedItem : ℕ → Item → Type 0
UnsidedItem c (does s) = UnsidedStatement c s
UnsidedItem c (says i) = ⊥
UnsidedItem c (stores place v) = Unit {0}
UnsidedItem c (stamps resource place v) = Unit {0}
UnsidedItem c (mark n) = Unit {0}
UnsidedItem c (awaits d pos) = nat_eq c d ≡ false
UnsidedItem c (transaction_end d is_master pos) = nat_eq c d ≡ false
UnsidedItem c (chooses choices otherwise) = EachChoice (UnsidedInput c) (UnsidedStatements c) choices × DefaultIs (UnsidedStatements c) otherwise
UnsidedItem c (fixed i v counter) = UnsidedInput c i
UnsidedItem c ends = Unit {0}

-- by whether a branch is on a side of the channel
abbrev pub ItemBySide : ℕ → Option Side → Item → Type 0
ItemBySide c None = UnsidedItem c
ItemBySide c (Some side) = LoneItem c

abbrev pub SidedAt : ℕ → ℕ → List (Option Side) → Item → Type 0
SidedAt c n sides item = ItemBySide c (slice_index_or sides c None) item

-- two sides that are there and differ
abbrev pub Differ : Option Side → Option Side → Type 0
Differ (Some first) (Some second) = Unit {0}
Differ (Some second) (Some first) = Unit {0}
Differ a b = ⊥

-- of two branches that use a channel each is on another side of it
pub record OtherSides (c : ℕ) (b d : Branch) : Type 0 where
  pub differ : IsTrue (by_items (channel c) b.items) → IsTrue (by_items (channel c) d.items) → Differ (side_of b c) (side_of d c)

-- a kernel is so at its roots, of the channels of its list
pub record IsSided (K : kernel.Kernel) : Type 0 where
  pub sided : (c : ℕ) → c < length K.channels → UnsidedStatement c (kernel.par (branches_of K.roots))
