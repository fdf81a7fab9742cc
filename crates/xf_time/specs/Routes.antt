-- Routes through a core's code: where they begin, and how long the longest way of one is.
use Rattle.std.specs.Prelude.{◌≡◌, ◌≤◌, ◌<◌, ◌^◌, ◌⊎◌, ℕ, Bool, true, false, ◌&&◌, nat_eq, Option, Some, None, length, slice_get}
use Rattle.xs_instr.specs.declared.image.Code.{Code}
use Rattle.xs_instr.specs.declared.instr.Instr.{Instr}
use Rattle.xs_instr.specs.Valid.{AreGoodInstrs}
use Rattle.xs_fabric.specs.OwnTurns.{Onward, GoesOn, Waits, MayBranch, Branches, MayBranchBack, BranchesBack, EndsThread}
use Rattle.xs_fabric.specs.OwnTurns.{AwaitsEvent, LeadsElsewhere, onward}
use Rattle.xf_time.specs.Ways.{Flow, LeadsTo, MeetsHold, Way, flow_at}
use Rattle.xw_words.specs.declared.pos.Pos.{Pos}

-- what is so of the code of each image that can be run: targets are indices of it on the right side
pub record IsGoodCode (code : Code) : Type 0 where
  pub few : length code.instrs < 2 ^ 32
  pub good : AreGoodInstrs (length code.instrs) 0 code.instrs

-- `is_at`, by cases
abbrev pub is_place : Option Pos → Pos → Bool
is_place None place = false
is_place (Some pos) place = nat_eq pos.line place.line && nat_eq pos.col place.col

-- whether the instruction at an index stands at a place of the text
abbrev pub is_at : Code → Pos → ℕ → Bool
is_at code place i = is_place (slice_get code.«at» i) place

-- the flow of the code, in which ways end at a place
abbrev pub flow_to : Code → Pos → Flow
flow_to code to i = flow_at (is_at code to i) (slice_get code.instrs i)

-- j is a successor of index i, which is at `from`, and isn't at `from` itself
pub record IsExitOf (code : Code) (from : Pos) (i j : ℕ) : Type 0 where
  pub at_from : is_at code from i ≡ true
  pub instr : Instr
  pub instr_is : slice_get code.instrs i ≡ Some instr
  pub taken : ℕ
  pub leads : LeadsTo (onward instr) i taken j
  pub there : j < length code.instrs
  pub apart : is_at code from j ≡ false

-- it is one of an index at `from`
pub record IsExit (code : Code) (from : Pos) (j : ℕ) : Type 0 where
  pub index : ℕ
  pub exit : IsExitOf code from index j

-- where it leads isn't said: it awaits an event, or is a call, a return, SSYNC or SETSR
abbrev pub is_unsaid : Onward → Bool
is_unsaid AwaitsEvent = true
is_unsaid LeadsElsewhere = true
is_unsaid GoesOn = false
is_unsaid Waits = false
is_unsaid (MayBranch k) = false
is_unsaid (Branches k) = false
is_unsaid (MayBranchBack k) = false
is_unsaid (BranchesBack k) = false
is_unsaid EndsThread = false

-- index i is at `from`, and where it leads isn't said
pub record IsUnsaidAt (code : Code) (from : Pos) (i : ℕ) : Type 0 where
  pub at_from : is_at code from i ≡ true
  pub instr : Instr
  pub instr_is : slice_get code.instrs i ≡ Some instr
  pub unsaid : is_unsaid (onward instr) ≡ true

-- a way from an exit to no index at `to`, with at most so many backward branches, and how many indices it has
pub record HasWay (code : Code) (from to : Pos) (backward long : ℕ) : Type 0 where
  pub exit : ℕ
  pub is_exit : IsExit code from exit
  pub taken : ℕ
  pub few : taken ≤ backward
  pub way : Way (flow_to code to) exit taken long

-- an index of such a way may hold up its thread, or where an instruction at `from` leads isn't said
pub data HoldsUp (code : Code) (from to : Pos) (backward : ℕ) : Type 0 where
  on_way : {j taken : ℕ} → IsExit code from j → taken ≤ backward → MeetsHold (flow_to code to) j taken →
      HoldsUp code from to backward
  at_from : {i : ℕ} → IsUnsaidAt code from i → HoldsUp code from to backward

-- nothing holds up, and the longest such way has so many indices, or there is none and this is 0
pub record IsLongest (code : Code) (from to : Pos) (backward long : ℕ) : Type 0 where
  pub not_held : HoldsUp code from to backward → ⊥
  pub most : (l : ℕ) → HasWay code from to backward l → l ≤ long
  pub reached : (long ≡ 0) ⊎ HasWay code from to backward long
