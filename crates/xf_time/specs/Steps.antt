-- The steps of a thread from an index of its code on, round by round.
use Rattle.std.specs.Prelude.{◌≡◌, ◌≢◌, ◌≤◌, ◌<◌, ℕ, suc, ◌-◌, Bool, true, false, List, Option, Some, None, slice_get}
use Rattle.xs_instr.specs.declared.image.Home.{Home}
use Rattle.xs_instr.specs.declared.image.Image.{Image}
use Rattle.xs_instr.specs.declared.image.Stim.{Stim}
use Rattle.xs_instr.specs.declared.instr.Instr.{Instr}
use Rattle.xs_instr.specs.declared.state.CoreState.{CoreState}
use Rattle.xs_instr.specs.declared.state.Mode.TheVariants.{Running, Unused}
use Rattle.xs_instr.specs.declared.state.Sent.{Sent}
use Rattle.xs_instr.specs.declared.state.Thread.{Thread}
use Rattle.xs_instr.specs.declared.trace.Record.{Record}
use Rattle.xs_instr.specs.declared.trace.Trap.{Trap}
use Rattle.xs_instr.specs.declared.trace.Trap.TheVariants.{Code as NoCode}
use Rattle.xs_instr.specs.Did.{Made, Traps}
use Rattle.xs_instr.specs.Machine.{home_of}
use Rattle.xs_instr.specs.OwnSteps.{RunsAt}
use Rattle.xs_instr.specs.Slot.{instr_at, slot}
use Rattle.xs_fabric.specs.AtTurns.{at_turn, RunsAtTurn, StepsOn}
use Rattle.xs_fabric.specs.Lockstep.{Part}
use Rattle.xs_fabric.specs.OwnTurns.{Onward, AwaitsEvent, LeadsElsewhere, IsSuccessor, onward}
use Rattle.xf_time.specs.Ways.{LeadsTo, NeverHeld, Way, flow_of, must_branch_back}

-- thread t of core c runs at index i with its event bit clear, as it has its turn in the round that follows n rounds
pub record StandsAtTurn (L : Image) (s : Stim) (c t n i : ℕ) : Type 0 where
  pub thread : Thread
  pub at_turn : RunsAtTurn L s n c t thread
  pub pc_is : thread.pc ≡ i
  pub no_events : thread.event_bit ≡ false

-- so it executes the instruction at index i there, behind which it still runs, as this thread
pub record Executes (L : Image) (s : Stim) (c t n i : ℕ) (instr : Instr) (after : Thread) : Type 0 where
  pub part : Part
  pub at_part : at_turn L s n c t ≡ Some part
  pub before : Thread
  pub runs_at : RunsAt t i before part.core
  pub instr_is : instr_at (home_of L s c) i ≡ Some instr
  pub left : CoreState
  pub made : Option Record
  pub sent : List Sent
  pub is_made : slot (home_of L s c) part.core t ≡ Made left made sent
  pub here : slice_get left.threads t ≡ Some after
  pub runs : after.mode ≡ Running

-- then it stands behind that instruction at its turn in the next round
abbrev pub StandsBehind : Type 0
StandsBehind =
    (L : Image) (s : Stim) (c t n i : ℕ) (instr : Instr) (after : Thread) → c < 4 → t < 8 →
    Executes L s c t n i instr after → onward instr ≢ AwaitsEvent → onward instr ≢ LeadsElsewhere →
    IsSuccessor (onward instr) i after.pc × StandsAtTurn L s c t (suc n) after.pc

-- the thread's turn is its last: it traps, or is unused then
pub data IsOver (home : Home) (core : CoreState) (t : ℕ) : Type 0 where
  traps : (kind : Trap) → slot home core t ≡ Traps kind → IsOver home core t
  frees : (left : CoreState) (made : Option Record) (sent : List Sent) (thread : Thread) →
      slot home core t ≡ Made left made sent → slice_get left.threads t ≡ Some thread → thread.mode ≡ Unused →
      IsOver home core t

-- From where it stands, in so many rounds and with so many backward branches left, so many steps are counted: one in each round, until
-- the thread arrives where ways end, traps behind the code, traps or ends at an instruction, or takes a backward branch too many. The
-- step that traps behind the code and the one that takes that branch are made, and not counted.
pub data Counts (L : Image) (s : Stim) (c t : ℕ) (is_end : ℕ → Bool) : (rounds n i left counted : ℕ) → Type 0 where
  stands : {n i b : ℕ} → StandsAtTurn L s c t n i → Counts L s c t is_end 0 n i b 0
  arrives : {k n i b : ℕ} → StandsAtTurn L s c t n i → is_end i ≡ true → Counts L s c t is_end k n i b 0
  leaves_code : {k n i b : ℕ} (at : StandsAtTurn L s c t n i) → instr_at (home_of L s c) i ≡ None →
      slot (home_of L s c) at.at_turn.part.core t ≡ Traps NoCode → Counts L s c t is_end (suc k) n i b 0
  steps : {k n i b j u l : ℕ} (way : Onward) → StandsAtTurn L s c t n i → flow_of (home_of L s c) is_end i ≡ Some way →
      StepsOn L s n c t i way → LeadsTo way i u j → u ≤ b → Counts L s c t is_end k (suc n) j (b - u) l →
      Counts L s c t is_end (suc k) n i b (suc l)
  ends : {k n i b : ℕ} (way : Onward) → StandsAtTurn L s c t n i → flow_of (home_of L s c) is_end i ≡ Some way →
      (step : StepsOn L s n c t i way) → IsOver (home_of L s c) step.part.core t → must_branch_back way ≡ 0 →
      Counts L s c t is_end (suc k) n i b 1
  too_many : {k n i j : ℕ} (way : Onward) → StandsAtTurn L s c t n i → flow_of (home_of L s c) is_end i ≡ Some way →
      StepsOn L s n c t i way → LeadsTo way i 1 j → StandsAtTurn L s c t (suc n) j → Counts L s c t is_end (suc k) n i 0 0

-- where no way holds it up, so many steps are counted in any number of rounds, and no more than the longest way has indices
abbrev pub StepsAreCounted : Type 0
StepsAreCounted =
    (L : Image) (s : Stim) (c t n i left most : ℕ) (is_end : ℕ → Bool) → c < 4 → t < 8 → StandsAtTurn L s c t n i →
    NeverHeld (flow_of (home_of L s c) is_end) i left →
    ((taken long : ℕ) → taken ≤ left → Way (flow_of (home_of L s c) is_end) i taken long → long ≤ most) →
    (rounds : ℕ) → (counted : ℕ) × Counts L s c t is_end rounds n i left counted × (counted ≤ most)
