-- What the code of an assignment and of a test does.
use Rattle.std.specs.Prelude.{◌≡◌, ℕ, ◌+◌, ◌-◌, ◌*◌, ◌≤◌, Bool, true, false, List, [], ◌∷◌, ◌++◌, length, Option, Some, slice_get, nat_eq}
use Rattle.xw_words.specs.declared.pos.Pos.{Pos}
use Rattle.xs_instr.specs.declared.image.Home.{Home}
use Rattle.xs_instr.specs.declared.instr.Instr.TheVariants.{Brff}
use Rattle.xs_instr.specs.declared.instr.Reg.{Reg}
use Rattle.xs_instr.specs.declared.instr.Reg.TheVariants.{R0}
use Rattle.xs_instr.specs.declared.state.CoreState.{CoreState}
use Rattle.xs_instr.specs.declared.state.Regs.{Regs}
use Rattle.xs_instr.specs.declared.state.Thread.{Thread}
use Rattle.xs_instr.specs.Did.{makes}
use Rattle.xs_instr.specs.Registers.{reg_get}
use Rattle.xs_instr.specs.Rows.{put_local}
use Rattle.xs_instr.specs.Slot.{slot}
use Rattle.xc_kernel.specs.Plain as kernel
use Rattle.xc_kernel.specs.Values.{Value, word, error}
use Rattle.xc_kernel.specs.Eval.{Store, eval}
use Rattle.xs_instr.specs.Lines.{Line, line, open_line}
use Rattle.xs_instr.specs.OwnSteps.{HasRoom, IsApart, Kept, RunsAt, StandAt, Within, temporary}
use Rattle.xl_expr.specs.declared.plan.VarPlan.{VarPlan}
use Rattle.xl_expr.specs.Measures.{nodes, nodes_at}
use Rattle.xl_expr.specs.Stores.{StoreOutcome, index_in}
use Rattle.xl_expr.specs.Works.{IsLaid, PlaceIsLaid, Errs, is_scratch, steps_before}

-- the right side's error comes first, then the index's
abbrev pub SetOutcome : List (Option VarPlan) → Home → (ℕ → Bool) → ℕ → ℕ → Thread → List ℕ → kernel.Place → ℕ → Value → Value → CoreState → Type 0
SetOutcome vars home relied s t thread old place pc (word v) i b = StoreOutcome vars home relied s t thread old place v pc i b
SetOutcome vars home relied s t thread old place pc (error kind pos) i b = (c : CoreState) → Kept relied t b c → Errs home t kind pos c

-- The lines assign: in fewer than 8 own steps for each node the thread stands where its next step writes the word of the right
-- side at the place's address, or where its next step traps with the first error.
pub record Sets (vars : List (Option VarPlan)) (place : kernel.Place) (x : kernel.Expression) (pc : ℕ) (lines : List Line) : Type 0 where
  pub by : (home : Home) (relied : ℕ → Bool) (s t : ℕ) (thread : Thread) (store : Store) (a : CoreState) →
      StandAt home.parts.code pc lines → RunsAt t pc thread a → HasRoom relied s thread.regs a.words →
      IsLaid vars relied s thread.regs.dp a.words store x →
      PlaceIsLaid vars relied s thread.regs.dp a.words store place →
      Within home relied (IsApart s) t
      (SetOutcome vars home relied s t thread a.words place (pc + length lines) (eval store x) (index_in store place))
      (8 * nodes x + (8 * nodes_at place - 1)) a

-- thread t's next step goes to an index and changes nothing else; until here only r0, r11 and its temporary words, which are there, were
-- changed
pub record Branches (home : Home) (relied : ℕ → Bool) (s t : ℕ) (thread : Thread) (old : List ℕ) (pc : ℕ) (b : CoreState) : Type 0 where
  pub index : ℕ
  pub regs : Regs
  pub here : slice_get b.threads t ≡ Some (record thread { pc = index; regs = regs })
  pub others : (r : Reg) → is_scratch r ≡ false → reg_get regs r ≡ reg_get thread.regs r
  pub within : s + temporary ≤ length b.words
  pub words : (w : ℕ) → relied w ≡ true → IsApart s w → slice_get b.words w ≡ slice_get old w
  pub made : slot home b t ≡ makes (put_local b t (record thread { pc = index; regs = regs }) (record { pc = pc; regs = regs; words = b.words }))

abbrev pub chosen : ℕ → ℕ → Bool → ℕ
chosen target next true = target
chosen target next false = next

abbrev pub TestOutcome : Home → (ℕ → Bool) → ℕ → ℕ → Thread → List ℕ → ℕ → ℕ → Value → CoreState → Type 0
TestOutcome home relied s t thread old target next (word v) b = (c : CoreState) → Kept relied t b c → Branches home relied s t thread old (chosen target next (nat_eq v 0)) c
TestOutcome home relied s t thread old target next (error kind pos) b = (c : CoreState) → Kept relied t b c → Errs home t kind pos c

-- The lines, and a branch behind them, test an expression: after at most 8 own steps for each node the branch is next, which is
-- taken where the word is 0; or after fewer the next step traps with the expression's error.
pub record Tests (vars : List (Option VarPlan)) (x : kernel.Expression) (pc : ℕ) (place : Pos) (lines : List Line) : Type 0 where
  pub by : (target : ℕ) (home : Home) (relied : ℕ → Bool) (s t : ℕ) (thread : Thread) (store : Store) (a : CoreState) →
      StandAt home.parts.code pc (lines ++ line (Brff R0 target) place ∷ []) → RunsAt t pc thread a →
      HasRoom relied s thread.regs a.words →
      IsLaid vars relied s thread.regs.dp a.words store x →
      Within home relied (IsApart s) t
      (TestOutcome home relied s t thread a.words target (pc + length lines + 1) (eval store x))
      (steps_before (eval store x) (8 * nodes x)) a

-- lines were added, and a hole for a branch behind them
pub record AddsTest (old new : List Line) (hole : ℕ) (place : Pos) (P : List Line → Type 0) : Type 0 where
  pub lines : List Line
  pub is : new ≡ old ++ (lines ++ open_line (Brff R0 0) place ∷ [])
  pub index : hole ≡ length old + length lines
  pub so : P lines
