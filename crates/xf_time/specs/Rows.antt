-- The numbers of a row: for each index of the code the length of the longest way from there, with so many backward branches at most.
-- There is none where such a way meets an index that may hold up its thread.
use Rattle.std.specs.Prelude.{◌≡◌, ◌≤◌, ◌<◌, ◌⊎◌, ℕ, suc, ◌+◌, Bool, true, false, if◌then◌else◌, List, Option, Some, None, length, max, min, slice_get, slice_index_or}
use Rattle.xs_instr.specs.declared.image.Code.{Code}
use Rattle.xs_fabric.specs.OwnTurns.{Onward, GoesOn, Waits, MayBranch, Branches, MayBranchBack, BranchesBack, EndsThread}
use Rattle.xs_fabric.specs.OwnTurns.{AwaitsEvent, LeadsElsewhere, onward}
use Rattle.xs_instr.specs.declared.instr.Instr.{Instr}
use Rattle.xf_time.specs.Routes.{flow_to, is_at}
use Rattle.xf_time.specs.Ways.{Flow, MeetsHold, Way}
use Rattle.xf_time.specs.declared.behind.Behind.{Behind}
use Rattle.xf_time.specs.declared.behind.Behind.TheVariants as code
use Rattle.xw_words.specs.declared.pos.Pos.{Pos}

-- what comes behind an instruction, as the code tells it
abbrev pub onward_of : Behind → Onward
onward_of code.GoesOn = GoesOn
onward_of code.Waits = Waits
onward_of (code.MayBranch k) = MayBranch k
onward_of (code.Branches k) = Branches k
onward_of (code.MayBranchBack k) = MayBranchBack k
onward_of (code.BranchesBack k) = BranchesBack k
onward_of code.EndsThread = EndsThread
onward_of code.AwaitsEvent = AwaitsEvent
onward_of code.LeadsElsewhere = LeadsElsewhere

-- the longest way from an index with at most so many backward branches has so many indices, or there is none and this is 0; and none
-- of them meets an index that may hold up
pub record IsLongestFrom (flow : Flow) (backward i long : ℕ) : Type 0 where
  pub free : (n : ℕ) → n ≤ backward → MeetsHold flow i n → ⊥
  pub most : (n l : ℕ) → n ≤ backward → Way flow i n l → l ≤ long
  pub reached : (long ≡ 0) ⊎ ((n : ℕ) × (n ≤ backward) × Way flow i n long)

-- the number of an index
abbrev pub IsNumber : Flow → (backward i : ℕ) → Option ℕ → Type 0
IsNumber flow backward i (Some long) = IsLongestFrom flow backward i long
IsNumber flow backward i None = (n : ℕ) × (n ≤ backward) × MeetsHold flow i n

-- the number of an index by the row; behind the code it is 0
abbrev pub number_in : List (Option ℕ) → ℕ → Option ℕ
number_in row j = slice_index_or row j (Some 0)

-- from index i on the row has the numbers for so many backward branches, and before it those for one less
pub record IsFilledFrom (code : Code) (to : Pos) (backward i : ℕ) (row : List (Option ℕ)) : Type 0 where
  pub long : length row ≡ length code.instrs
  pub above : (j : ℕ) → i ≤ j → IsNumber (flow_to code to) backward j (number_in row j)
  pub below : (j b : ℕ) → j < i → backward ≡ suc b → IsNumber (flow_to code to) b j (number_in row j)

-- one step more
abbrev pub one_more : Option ℕ → Option ℕ
one_more None = None
one_more (Some n) = Some (min (n + 1) 18446744073709551615)

-- the longer of two ways
abbrev pub longer : Option ℕ → Option ℕ → Option ℕ
longer None m = None
longer (Some n) None = None
longer (Some n) (Some m) = Some (max n m)

-- the number of an index by those of its successors; whether a backward branch is left
abbrev pub number_by : Onward → (i : ℕ) → Bool → (ℕ → Option ℕ) → Option ℕ
number_by GoesOn i is_left number = one_more (number (i + 1))
number_by (MayBranch k) i is_left number = one_more (longer (number (i + 1)) (number k))
number_by (Branches k) i is_left number = one_more (number k)
number_by (MayBranchBack k) i true number = one_more (longer (number (i + 1)) (number k))
number_by (MayBranchBack k) i false number = one_more (number (i + 1))
number_by (BranchesBack k) i true number = one_more (number k)
number_by (BranchesBack k) i false number = Some 0
number_by EndsThread i is_left number = Some 1
number_by Waits i is_left number = None
number_by AwaitsEvent i is_left number = None
number_by LeadsElsewhere i is_left number = None

-- `number_at`, by cases
abbrev pub number_where : Option Onward → (i : ℕ) → Bool → (ℕ → Option ℕ) → Option ℕ
number_where None i is_left number = Some 0
number_where (Some way) i is_left number = number_by way i is_left number

-- that of an index of the code; 0 where ways end
abbrev pub number_at : Code → (to : Pos) → (i : ℕ) → Bool → (ℕ → Option ℕ) → Option ℕ
number_at code to i is_left number = number_where (flow_to code to i) i is_left number

-- the number of an index as an exit; 0 where it is none
abbrev pub exit_number : Code → Pos → List (Option ℕ) → ℕ → Option ℕ
exit_number code from row j = if is_at code from j then Some 0 else number_in row j

-- the longer of the ways from the exits behind an index
abbrev pub exits_by : Onward → (i : ℕ) → (ℕ → Option ℕ) → Option ℕ
exits_by GoesOn i number = number (i + 1)
exits_by Waits i number = number (i + 1)
exits_by (MayBranch k) i number = longer (number (i + 1)) (number k)
exits_by (Branches k) i number = number k
exits_by (MayBranchBack k) i number = longer (number (i + 1)) (number k)
exits_by (BranchesBack k) i number = number k
exits_by EndsThread i number = Some 0
exits_by AwaitsEvent i number = None
exits_by LeadsElsewhere i number = None

-- `exits_at`, by cases
abbrev pub exits_where : Bool → Option Instr → (i : ℕ) → (ℕ → Option ℕ) → Option ℕ
exits_where false instr i number = Some 0
exits_where true None i number = Some 0
exits_where true (Some x) i number = exits_by (onward x) i number

-- the longer of the ways from the exits behind an index, where that is at the place
abbrev pub exits_at : Code → Pos → List (Option ℕ) → ℕ → Option ℕ
exits_at code from row i = exits_where (is_at code from i) (slice_get code.instrs i) i (exit_number code from row)
