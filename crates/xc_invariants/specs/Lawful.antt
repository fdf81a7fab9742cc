-- What is always true of a kernel's runs.
use Rattle.std.specs.Prelude.{◌≡◌, ◌⊎◌, ℕ, ◌<◌, ◌≤◌, Bool, false, ◌||◌, IsTrue, IsSome, List, [], ◌∷◌, ◌++◌, length, Option, Some, slice_get, nat_eq}
use Rattle.xs_instr.specs.declared.image.Stim.{Stim}
use Rattle.xc_tree.specs.Plain as tree
use Rattle.xc_tree.specs.Types.Named.{NamedProgram}
use Rattle.xc_kernel.specs.declared.kernel.PortUse.{PortUse}
use Rattle.xc_kernel.specs.declared.statement.KRes.TheVariants.{Port}
use Rattle.xc_kernel.specs.Plain as kernel
use Rattle.xc_kernel.specs.Copies.{copy_of, Copies}
use Rattle.xc_kernel.specs.Sound.{IsOfProgram, IsTyped}
use Rattle.xc_kernel.specs.Uses as uses
use Rattle.xc_kernel.specs.Uses.{Use}
use Rattle.xc_meaning.specs.States.Channels.{Side}
use Rattle.xc_meaning.specs.States.Items.{Choice, Item, does, mark, awaits, transaction_end, chooses}
use Rattle.xc_meaning.specs.States.Branches.{runs, Branch, side_of}
use Rattle.xc_meaning.specs.States.Worlds.{World, Action}
use Rattle.xc_meaning.specs.Settings.Channels.{is_among}
use Rattle.xc_meaning.specs.Settings.Transactions.{without_innermost}
use Rattle.xc_meaning.specs.Runs.{step_of, acts, kernel_start, kernel_run}
use Rattle.xc_kernel.specs.Things.{Thing, channel, by_resource}
use Rattle.xc_meaning.specs.Uses.{by_item, by_items}
use Rattle.xc_invariants.specs.Frames.{AgreeOnItems}
use Rattle.xc_meaning.specs.Outline.{Outlined}
use Rattle.xc_disjoint.specs.Disjoint.{NotApart}
use Rattle.xc_disjoint.specs.Checked.{IsChecked}
use Rattle.xc_invariants.specs.Channels.{IsListed}
use Rattle.xw_words.specs.declared.pos.Pos.{Pos}
use Rattle.xw_words.specs.declared.pos.Broken.{Broken}
use Rattle.xc_invariants.specs.Every.{EveryItem}
use Rattle.xc_invariants.specs.Each.{EachItem, EachBranch}
use Rattle.xc_invariants.specs.Tree.{Above, IsWaiting, IsForest, Unrelated}
use Rattle.xc_invariants.specs.Rules.{AnyThing, AnyPar, AnyTransaction, AllApart, AreApart, IsApart}
use Rattle.xc_invariants.specs.OnSides.{side_core, OnItsSide}
use Rattle.xc_invariants.specs.Sided.{SidedAt, Differ, OtherSides, IsSided}
use Rattle.xc_invariants.specs.Needs.{Budgeted, HasBudget, KeepsBudget, takes, taken_on, needed_on, AreOnce, IsIn, TakesOn, total_of, takes_at, RootCores}
use Rattle.xc_invariants.specs.Placed.{AnyBlock, AnyInside, IsDistinct, AreUnused, marks_of, ends_of, open_of, EndsWell, EachPlaced, EachAlone, IsPlaced}
use Rattle.xc_invariants.specs.Nested.{EachInside, EndIsBehind}
use Rattle.xc_invariants.specs.Tidy.{nested_use, TransactionsAreTidy}
use Rattle.xc_invariants.specs.Within.{inside_on, EachErredAlone, BeginsOrEnds}
use Rattle.xc_invariants.specs.Cores.{UsesHere, IsHere, Grows}

-- what the rules promise of a kernel
pub record Obeys (K : kernel.Kernel) : Type 0 where
  pub apart : IsApart K
  pub sided : IsSided K
  pub placed : IsPlaced AnyBlock AnyInside K
  pub here : IsHere K

-- no item is a text's
abbrev pub KernelsAt : ℕ → List (Option Side) → Item → Type 0
KernelsAt n sides = EveryItem AnyThing AnyPar AnyTransaction

-- in each `par` that is left no two branches clash
abbrev pub ApartAt : ℕ → List (Option Side) → Item → Type 0
ApartAt n sides = EveryItem AnyThing AllApart AnyTransaction

abbrev pub BranchesApart : Branch → Branch → Type 0
BranchesApart b c = AreApart b.items c.items

-- each branch has a place for each channel among its sides
pub record EachLong (channels : ℕ) (bs : List Branch) : Type 0 where
  pub long : (n : ℕ) (b : Branch) → slice_get bs n ≡ Some b → length b.sides ≡ channels

pub record Lawful (K : kernel.Kernel) (x : World) : Type 0 where
  pub kernels : EachItem KernelsAt x.branches
  pub forest : IsForest (length K.roots) x.branches
  pub pars : EachItem ApartAt x.branches
  pub apart : Unrelated BranchesApart x.branches
  pub long : EachLong (length K.channels) x.branches
  pub sided : (c : ℕ) → c < length K.channels → EachItem (SidedAt c) x.branches
  pub other_sides : (c : ℕ) → c < length K.channels → Unrelated (OtherSides c) x.branches
  pub on_sides : (c : ℕ) → c < length K.channels → EachBranch (OnItsSide (side_core K c) c) x.branches
  pub budget : HasBudget K.roots x.branches
  pub cores : RootCores K.roots x.branches
  pub placed : EachPlaced AnyBlock AnyInside x.branches
  pub here : EachBranch (UsesHere K) x.branches

-- The laws hold at the start, and each step keeps them.
abbrev pub LawsBegin : Type 0
LawsBegin = (K : kernel.Kernel) → Obeys K → Lawful K (kernel_start K)

abbrev pub LawsAreKept : Type 0
LawsAreKept = (K : kernel.Kernel) (s : Stim) (x y : World) (m : Action) → acts K s x m ≡ Some y → Lawful K x → Lawful K y

abbrev pub LawsHold : Type 0
LawsHold = (K : kernel.Kernel) (s : Stim) (ms : List Action) (x : World) → Obeys K → kernel_run K s ms ≡ Some x → Lawful K x

-- Two more laws hold where no block has the number of one around it, and no `par` uses a channel of a transaction around it.
pub record IsTidy (K : kernel.Kernel) : Type 0 where
  pub placed : IsPlaced IsDistinct AreUnused K

pub record Tidy (x : World) : Type 0 where
  pub placed : EachPlaced IsDistinct AreUnused x.branches
  pub alone : EachAlone x.branches

abbrev pub TidyLawsHold : Type 0
TidyLawsHold = (K : kernel.Kernel) (s : Stim) (ms : List Action) (x : World) → Obeys K → IsTidy K → kernel_run K s ms ≡ Some x → Tidy x

-- A kernel that is checked is so: in a transaction neither a `par` nor a `select` nor a transaction uses its channel.
abbrev pub CheckedSpeakAlone : Type 0
CheckedSpeakAlone = (K : kernel.Kernel) → IsChecked K → TransactionsAreTidy K

abbrev pub CheckedTidy : Type 0
CheckedTidy = (K : kernel.Kernel) → IsChecked K → IsTidy K

-- So each state of a checked kernel's runs is tidy.
abbrev pub CheckedTidyHolds : Type 0
CheckedTidyHolds = (K : kernel.Kernel) (s : Stim) (ms : List Action) (x : World) → IsChecked K → kernel_run K s ms ≡ Some x → Tidy x

-- A branch that runs stands in a transaction whose end is among its items, or uses nothing of the transaction's channel: a `par` that
-- stood in it made the branch.
abbrev pub InsideIsOwn : Type 0
InsideIsOwn =
    (x : World) → Tidy x → (n : ℕ) (b : Branch) → slice_get x.branches n ≡ Some b → b.mode ≡ runs → (c : ℕ) → IsTrue (is_among c b.inside) →
    IsTrue (is_among c (ends_of b.items)) ⊎ (IsTrue (by_items (channel c) b.items) → ⊥)

-- No block has the number of one around it, in what is left of each branch.
pub record BlocksAreDistinct (x : World) : Type 0 where
  pub placed : EachPlaced IsDistinct AnyInside x.branches

-- This is so in each state of a checked kernel's runs.
abbrev pub BlocksAreDistinctHolds : Type 0
BlocksAreDistinctHolds =
    (K : kernel.Kernel) (s : Stim) (ms : List Action) (x : World) →
    IsChecked K → kernel_run K s ms ≡ Some x → BlocksAreDistinct x

-- So the mark of a block stands once among the items of a branch.
abbrev pub MarksStandOnce : Type 0
MarksStandOnce =
    (x : World) → BlocksAreDistinct x → (n : ℕ) (b : Branch) → slice_get x.branches n ≡ Some b → b.mode ≡ runs →
    (front rest : List Item) (k : ℕ) → b.items ≡ front ++ mark k ∷ rest → is_among k (marks_of rest) ≡ false

-- In each state of a checked kernel's runs each branch that runs or waits stands in the transactions
-- whose ends are among its items, and in those in which the one stands that waits for it.
abbrev pub InsideHolds : Type 0
InsideHolds =
    (K : kernel.Kernel) (s : Stim) (ms : List Action) (x : World) → IsChecked K →
    kernel_run K s ms ≡ Some x → EachInside (length K.roots) x.branches

-- So the end of each transaction in which a running branch stands is among its items, or among those
-- of a branch above it.
abbrev pub EndsAreBehind : Type 0
EndsAreBehind =
    (K : kernel.Kernel) (s : Stim) (ms : List Action) (x : World) → IsChecked K →
    kernel_run K s ms ≡ Some x →
    (n : ℕ) (b : Branch) → slice_get x.branches n ≡ Some b → b.mode ≡ runs →
    (c : ℕ) → IsTrue (is_among c b.inside) → EndIsBehind x.branches c n b

-- While a transaction's end is among the items of a branch, each running branch that uses the channel
-- on the same side stands in the transaction: it is the branch itself, or one below it.
abbrev pub UsersAreInside : Type 0
UsersAreInside =
    (K : kernel.Kernel) (s : Stim) (ms : List Action) (x : World) → IsChecked K →
    kernel_run K s ms ≡ Some x →
    (m n : ℕ) (b d : Branch) → slice_get x.branches m ≡ Some b →
    slice_get x.branches n ≡ Some d → d.mode ≡ runs →
    (c : ℕ) → IsTrue (is_among c (ends_of b.items)) → side_of b c ≡ side_of d c →
    IsTrue (by_items (channel c) d.items) →
    ((n ≡ m) ⊎ Above x.branches m n) × IsTrue (is_among c d.inside)

-- A branch that has erred in a transaction keeps its side of the channel to itself, or a branch above it has the transaction's end
-- among its items.
abbrev pub ErredAloneHolds : Type 0
ErredAloneHolds =
    (K : kernel.Kernel) (s : Stim) (ms : List Action) (x : World) → IsChecked K →
    kernel_run K s ms ≡ Some x → (c : ℕ) → c < length K.channels → EachErredAlone c x.branches

-- A running branch that uses a channel on a side stands in a transaction on it exactly where some branch on that side does.
abbrev pub InsideAgrees : Type 0
InsideAgrees =
    (K : kernel.Kernel) (s : Stim) (ms : List Action) (x : World) → IsChecked K →
    kernel_run K s ms ≡ Some x →
    (n : ℕ) (b : Branch) → slice_get x.branches n ≡ Some b → b.mode ≡ runs →
    (c : ℕ) (side : Side) → side_of b c ≡ Some side → IsTrue (by_items (channel c) b.items) →
    is_among c b.inside ≡ inside_on x.branches c side

-- A step that neither begins nor ends a transaction on the channel on this side leaves whether some branch stands in one there.
abbrev pub InsideStays : Type 0
InsideStays =
    (K : kernel.Kernel) (s : Stim) (ms : List Action) (x y : World) (m : Action) → IsChecked K →
    kernel_run K s ms ≡ Some x → acts K s x m ≡ Some y →
    (c : ℕ) → c < length K.channels → (side : Side) →
    (inside_on y.branches c side ≡ inside_on x.branches c side) ⊎ BeginsOrEnds x.branches y.branches c side

-- A transaction that a running branch ends is the innermost in which it stands, and it stands in no other on that channel.
abbrev pub EndsOnce : Type 0
EndsOnce =
    (K : kernel.Kernel) (s : Stim) (ms : List Action) (x : World) → IsChecked K →
    kernel_run K s ms ≡ Some x →
    (n : ℕ) (b : Branch) → slice_get x.branches n ≡ Some b → b.mode ≡ runs →
    (c : ℕ) (is_master : Bool) (pos : Pos) (rest : List Item) →
    b.items ≡ transaction_end c is_master pos ∷ rest →
    (outer : List ℕ) × ((b.inside ≡ c ∷ outer) × (is_among c outer ≡ false))

-- So once it has ended no branch on that side stands in a transaction on the channel.
abbrev pub EndLeavesNone : Type 0
EndLeavesNone =
    (K : kernel.Kernel) (s : Stim) (ms : List Action) (x y : World) (m : Action) → IsChecked K →
    kernel_run K s ms ≡ Some x → acts K s x m ≡ Some y →
    (n : ℕ) (b now : Branch) → slice_get x.branches n ≡ Some b → b.mode ≡ runs → slice_get y.branches n ≡ Some now →
    (c : ℕ) (is_master : Bool) (pos : Pos) (rest : List Item) →
    b.items ≡ transaction_end c is_master pos ∷ rest → now.inside ≡ without_innermost b.inside →
    (side : Side) → side_of b c ≡ Some side → inside_on y.branches c side ≡ false

-- a channel is one of the kernel's
abbrev pub Listed : kernel.Kernel → Thing → Type 0
Listed K (channel c) = c < length K.channels
Listed K th = Unit {0}

abbrev pub ListedAt : kernel.Kernel → ℕ → List (Option Side) → Item → Type 0
ListedAt K n sides = EveryItem (Listed K) AnyPar AnyTransaction

-- Where a kernel uses channels of its list alone, so do the branches of its runs.
abbrev pub ListedHolds : Type 0
ListedHolds = (K : kernel.Kernel) (s : Stim) (ms : List Action) (x : World) → Obeys K → IsListed K → kernel_run K s ms ≡ Some x → EachItem (ListedAt K) x.branches

-- What follows of a state.

-- Of two branches of which none waits, none changes a variable that the other uses, and none uses a port or a timer of the other.
abbrev pub NoneClash : Type 0
NoneClash =
    (K : kernel.Kernel) (x : World) → Lawful K x →
    (n m : ℕ) (b c : Branch) → slice_get x.branches n ≡ Some b → slice_get x.branches m ≡ Some c → (n ≡ m → ⊥) → (IsWaiting b.mode → ⊥) → (IsWaiting c.mode → ⊥) →
    AreApart b.items c.items

-- Of two such branches that use a channel of the kernel's, each is on another side of it.
abbrev pub OneOnEachSide : Type 0
OneOnEachSide =
    (K : kernel.Kernel) (x : World) → Lawful K x →
    (n m : ℕ) (b d : Branch) → slice_get x.branches n ≡ Some b → slice_get x.branches m ≡ Some d → (n ≡ m → ⊥) → (IsWaiting b.mode → ⊥) → (IsWaiting d.mode → ⊥) →
    (c : ℕ) → c < length K.channels → IsTrue (by_items (channel c) b.items) → IsTrue (by_items (channel c) d.items) → Differ (side_of b c) (side_of d c)

-- whether an item is on a channel itself, and not a `par` in it
abbrev pub some_choice_on : ℕ → List Choice → Bool
some_choice_on c [] = false
some_choice_on c (a ∷ others) = by_resource (channel c) a.input.resource || some_choice_on c others

abbrev pub is_on : ℕ → Item → Bool
is_on c (does (kernel.output o)) = by_resource (channel c) o.resource
is_on c (does (kernel.input i)) = by_resource (channel c) i.resource
is_on c (does (kernel.transaction d is_master ss start close)) = nat_eq c d
is_on c (awaits d pos) = nat_eq c d
is_on c (transaction_end d is_master pos) = nat_eq c d
is_on c (chooses choices otherwise) = some_choice_on c choices
is_on c item = false

-- whether a `par`, a select or a transaction that is the item, or stands in it, uses a channel; of a select that has begun, its cases
abbrev pub is_nested : ℕ → Item → Bool
is_nested c (does s) = nested_use c s
is_nested c (chooses choices otherwise) = some_choice_on c choices
is_nested c item = false

-- A running branch whose first item is so stands in no transaction on the channel: so it is where it begins one.
abbrev pub NestedOutside : Type 0
NestedOutside =
    (K : kernel.Kernel) (s : Stim) (ms : List Action) (x : World) → IsChecked K →
    kernel_run K s ms ≡ Some x →
    (n : ℕ) (b : Branch) → slice_get x.branches n ≡ Some b → b.mode ≡ runs →
    (item : Item) (rest : List Item) → b.items ≡ item ∷ rest → (c : ℕ) → IsTrue (is_nested c item) →
    is_among c b.inside ≡ false

-- A branch has a side of each channel of the kernel's on which its first item is.
abbrev pub EachHasSide : Type 0
EachHasSide =
    (K : kernel.Kernel) (x : World) → Lawful K x →
    (n : ℕ) (b : Branch) (item : Item) (rest : List Item) → slice_get x.branches n ≡ Some b → b.items ≡ item ∷ rest → (c : ℕ) → c < length K.channels → IsTrue (is_on c item) → IsSome (side_of b c)

-- Where the end is among its items, the branch is the only one on its side that uses the channel and doesn't wait.
abbrev pub AloneInside : Type 0
AloneInside =
    (K : kernel.Kernel) (x : World) → Lawful K x →
    (n m : ℕ) (b d : Branch) → slice_get x.branches n ≡ Some b → slice_get x.branches m ≡ Some d → (n ≡ m → ⊥) → (IsWaiting b.mode → ⊥) → (IsWaiting d.mode → ⊥) →
    (c : ℕ) → c < length K.channels → IsTrue (is_among c (ends_of b.items)) → side_of b c ≡ side_of d c → IsTrue (by_items (channel c) d.items) → ⊥

-- A branch that runs has an item to do, its items end with the end of the branch, and a block that it leaves next is among them.
abbrev pub EachGoesOn : Type 0
EachGoesOn =
    (K : kernel.Kernel) (x : World) → Lawful K x →
    (n : ℕ) (b : Branch) → slice_get x.branches n ≡ Some b → b.mode ≡ runs → EndsWell b.items × ((k : ℕ) (rest : List Item) → b.items ≡ does (kernel.exit k) ∷ rest → IsTrue (is_among k (open_of rest)))

-- On each core no more threads are taken than its roots need.
abbrev pub ThreadsSuffice : Type 0
ThreadsSuffice = (K : kernel.Kernel) (x : World) → Lawful K x → (depth core : ℕ) → taken_on depth x.branches core 0 K.roots ≤ needed_on core K.roots

-- So the threads that any present branches of a core take that don't wait, each of them once, are at most those that the core needs.
abbrev pub BranchesFit : Type 0
BranchesFit =
    (K : kernel.Kernel) (x : World) → Lawful K x → (core : ℕ) (ns : List ℕ) → AreOnce ns → ((n : ℕ) → IsIn n ns → TakesOn (length K.roots) x.branches core n) →
    total_of (takes_at x.branches) ns ≤ needed_on core K.roots

-- Whatever the branches have in reserve, it lasts: a step leaves each branch what it had.
abbrev pub BudgetsStay : Type 0
BudgetsStay =
    (K : kernel.Kernel) (s : Stim) (x y : World) (m : Action) (budget : ℕ → ℕ) → Lawful K x → Budgeted K.roots budget x.branches → acts K s x m ≡ Some y →
    KeepsBudget K.roots budget (length x.branches) y.branches

-- And it suffices: any present branches of a core that don't wait, each of them once, have together at most what the core needs,
abbrev pub BudgetsFit : Type 0
BudgetsFit =
    (K : kernel.Kernel) (x : World) (budget : ℕ → ℕ) → Lawful K x → Budgeted K.roots budget x.branches → (core : ℕ) (ns : List ℕ) → AreOnce ns →
    ((n : ℕ) → IsIn n ns → TakesOn (length K.roots) x.branches core n) →
    total_of budget ns ≤ needed_on core K.roots

-- and each of them what it takes.
abbrev pub BudgetsSuffice : Type 0
BudgetsSuffice =
    (K : kernel.Kernel) (x : World) (budget : ℕ → ℕ) → Budgeted K.roots budget x.branches → (n : ℕ) (b : Branch) → slice_get x.branches n ≡ Some b →
    (IsWaiting b.mode → ⊥) → takes b.items ≤ budget n

-- Branches stay under their numbers, and one that has ended or erred as it is.
abbrev pub BranchesStay : Type 0
BranchesStay = (K : kernel.Kernel) (s : Stim) (x y : World) (m : Action) → Lawful K x → acts K s x m ≡ Some y → Grows x.branches y.branches

-- What a branch uses after a step it used before, and what a new branch uses, a `par` used that some branch had to do first.
pub data UsedBefore (x : World) (k : ℕ) (c : Branch) : Type 0 where
  by_itself : (b : Branch) → slice_get x.branches k ≡ Some b → ((th : Thing) → IsTrue (by_items th c.items) → IsTrue (by_items th b.items)) → UsedBefore x k c
  by_maker : (n : ℕ) (b : Branch) (bs : kernel.Branches) (rest : List Item) → slice_get x.branches n ≡ Some b → b.items ≡ does (kernel.par bs) ∷ rest →
      ((th : Thing) → IsTrue (by_items th c.items) → IsTrue (by_item th (does (kernel.par bs)))) → UsedBefore x k c

abbrev pub FootprintsShrink : Type 0
FootprintsShrink = (K : kernel.Kernel) (s : Stim) (x y : World) (m : Action) → Lawful K x → acts K s x m ≡ Some y → (k : ℕ) (c : Branch) → slice_get y.branches k ≡ Some c → UsedBefore x k c

-- A step of a branch leaves each other branch as it is, and one that doesn't wait the words of all variables that it uses.
abbrev pub OthersAreLeft : Type 0
OthersAreLeft =
    (K : kernel.Kernel) (s : Stim) (x : World) → Lawful K x → (n : ℕ) (b : Branch) (item : Item) (rest : List Item) (y : World) →
    slice_get x.branches n ≡ Some b → b.mode ≡ runs → b.items ≡ item ∷ rest → Outlined (step_of K s x n b rest) item y →
    (k : ℕ) (c : Branch) → (k ≡ n → ⊥) → slice_get x.branches k ≡ Some c →
    (slice_get y.branches k ≡ Some c) × ((IsWaiting c.mode → ⊥) → AgreeOnItems c.items y.store x.store)

-- A kernel that breaks none of the rules 601 to 606 obeys them.
abbrev pub UnbrokenIsApart : Type 0
UnbrokenIsApart = (K : kernel.Kernel) → ((b : Broken) → NotApart K b → ⊥) → IsApart K

abbrev pub UnbrokenIsSided : Type 0
UnbrokenIsSided = (K : kernel.Kernel) → ((b : Broken) → NotApart K b → ⊥) → IsSided K

-- The kernel of a program that breaks no rule of names, types and shapes leaves blocks of the same branch and transaction alone.
abbrev pub CopiesArePlaced : Type 0
CopiesArePlaced = (P : List tree.Item) (named : NamedProgram) (types : List Bool) → IsTyped P named types → IsPlaced AnyBlock AnyInside (copy_of P)

-- each use of a port in a root is one of the root's core
pub record UsesOwnPorts (K : kernel.Kernel) : Type 0 where
  pub own : (j : ℕ) (r : kernel.Root) → slice_get K.roots j ≡ Some r → (i : ℕ) (u : Use) → slice_get (uses.of_statements r.body) i ≡ Some u →
      (n : ℕ) → u.resource ≡ Port n → (p : PortUse) → slice_get K.ports n ≡ Some p → p.core ≡ r.core

abbrev pub PortsAreHere : Type 0
PortsAreHere = (K : kernel.Kernel) → UsesOwnPorts K → IsHere K

-- So the kernel obeys the rules of a program that breaks no rule of names, types and shapes, where it breaks none of 601 to 606 and uses
-- ports of its roots' cores.
abbrev pub AcceptedObey : Type 0
AcceptedObey =
    (P : List tree.Item) (named : NamedProgram) (types : List Bool) → IsTyped P named types →
    (K : kernel.Kernel) → Copies P K → ((b : Broken) → NotApart K b → ⊥) → UsesOwnPorts K → Obeys K

-- A kernel that is checked is so.
abbrev pub CheckedObey : Type 0
CheckedObey = (K : kernel.Kernel) → IsChecked K → Obeys K

-- The kernel of a program uses channels of its list alone,
abbrev pub KernelsAreListed : Type 0
KernelsAreListed = (K : kernel.Kernel) → IsOfProgram K → IsListed K

-- and so do the branches of its runs, where it is checked.
abbrev pub CheckedListed : Type 0
CheckedListed = (K : kernel.Kernel) (s : Stim) (ms : List Action) (x : World) → IsChecked K → kernel_run K s ms ≡ Some x → EachItem (ListedAt K) x.branches
