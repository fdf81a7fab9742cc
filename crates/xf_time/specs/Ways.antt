-- The ways through a core's code, from an index on.
use Rattle.std.specs.Prelude.{◌≡◌, ◌≤◌, ℕ, suc, ◌+◌, Bool, true, false, Option, Some, None}
use Rattle.xs_instr.specs.declared.image.Home.{Home}
use Rattle.xs_instr.specs.declared.instr.Instr.{Instr}
use Rattle.xs_instr.specs.Slot.{instr_at}
use Rattle.xs_fabric.specs.OwnTurns.{Onward, GoesOn, Waits, MayBranch, Branches, MayBranchBack, BranchesBack, EndsThread}
use Rattle.xs_fabric.specs.OwnTurns.{AwaitsEvent, LeadsElsewhere, onward}

-- what comes behind the instruction at an index; None where ways end and behind the code
abbrev pub Flow : Type 0
Flow = ℕ → Option Onward

-- `flow_of`, by cases
abbrev pub flow_at : Bool → Option Instr → Option Onward
flow_at true instr = None
flow_at false None = None
flow_at false (Some x) = Some (onward x)

-- the flow of a core's code, where it is told at which indices ways end
abbrev pub flow_of : Home → (is_end : ℕ → Bool) → Flow
flow_of home is_end i = flow_at (is_end i) (instr_at home i)

-- from i to j, with so many backward branches taken; where one leads that waits for an event or leads elsewhere isn't said
pub data LeadsTo : Onward → (i taken j : ℕ) → Type 0 where
  goes_on : {i : ℕ} → LeadsTo GoesOn i 0 (i + 1)
  behind_waits : {i : ℕ} → LeadsTo Waits i 0 (i + 1)
  not_branched : {i k : ℕ} → LeadsTo (MayBranch k) i 0 (i + 1)
  branched : {i k : ℕ} → LeadsTo (MayBranch k) i 0 k
  branches : {i k : ℕ} → LeadsTo (Branches k) i 0 k
  not_branched_back : {i k : ℕ} → LeadsTo (MayBranchBack k) i 0 (i + 1)
  branched_back : {i k : ℕ} → LeadsTo (MayBranchBack k) i 1 k
  branches_back : {i k : ℕ} → LeadsTo (BranchesBack k) i 1 k

-- how many backward branches it takes at least
abbrev pub must_branch_back : Onward → ℕ
must_branch_back GoesOn = 0
must_branch_back Waits = 0
must_branch_back (MayBranch k) = 0
must_branch_back (Branches k) = 0
must_branch_back (MayBranchBack k) = 0
must_branch_back (BranchesBack k) = 1
must_branch_back EndsThread = 0
must_branch_back AwaitsEvent = 0
must_branch_back LeadsElsewhere = 0

-- a way from an index, with how many backward branches it takes, its last index those that it must, and how many indices it has
pub data Way (flow : Flow) : (i taken long : ℕ) → Type 0 where
  last : {i : ℕ} (way : Onward) → flow i ≡ Some way → Way flow i (must_branch_back way) 1
  more : {i j u n l : ℕ} (way : Onward) → flow i ≡ Some way → LeadsTo way i u j → Way flow j n l → Way flow i (u + n) (suc l)

-- a thread may be held up there: at an input, an output, CHKCT, a call, a return or SETSR, or where it waits for other threads or for
-- events
abbrev pub holds_up : Onward → Bool
holds_up Waits = true
holds_up AwaitsEvent = true
holds_up LeadsElsewhere = true
holds_up GoesOn = false
holds_up (MayBranch k) = false
holds_up (Branches k) = false
holds_up (MayBranchBack k) = false
holds_up (BranchesBack k) = false
holds_up EndsThread = false

-- a way from an index meets one at which a thread may be held up, with so many backward branches taken before
pub data MeetsHold (flow : Flow) : (i taken : ℕ) → Type 0 where
  held_here : {i : ℕ} (way : Onward) → flow i ≡ Some way → holds_up way ≡ true → MeetsHold flow i 0
  held_later : {i j u n : ℕ} (way : Onward) → flow i ≡ Some way → LeadsTo way i u j → MeetsHold flow j n → MeetsHold flow i (u + n)

-- no way that takes at most so many does
abbrev pub NeverHeld : Flow → (i most : ℕ) → Type 0
NeverHeld flow i most = (n : ℕ) → n ≤ most → MeetsHold flow i n → ⊥
