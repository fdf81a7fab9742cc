-- What an expression's code does that has temporary words from a number on, and leaves those below.
use Rattle.std.specs.Prelude.{◌≡◌, ℕ, ◌+◌, ◌*◌, ◌<◌, ◌≤◌, ◌⊎◌, Bool, true, List, length, Option, slice_get}
use Rattle.xs_instr.specs.declared.image.Home.{Home}
use Rattle.xs_instr.specs.declared.instr.Reg.TheVariants.{R0}
use Rattle.xs_instr.specs.declared.state.CoreState.{CoreState}
use Rattle.xs_instr.specs.declared.state.Thread.{Thread}
use Rattle.xc_kernel.specs.Plain as kernel
use Rattle.xc_kernel.specs.Values.{Value, word, error}
use Rattle.xc_kernel.specs.Eval.{Store, eval}
use Rattle.xs_instr.specs.Lines.{Line}
use Rattle.xs_instr.specs.OwnSteps.{HasRoom, IsApart, Kept, RunsAt, StandAt, Within, temporary}
use Rattle.xl_expr.specs.declared.plan.VarPlan.{VarPlan}
use Rattle.xl_expr.specs.Measures.{nodes}
use Rattle.xl_expr.specs.Works.{Errs, Gives, IsLaid}

-- below the k-th temporary word, or above all of them
abbrev pub IsSaved : ℕ → ℕ → ℕ → Type 0
IsSaved s k w = (w < s + k) ⊎ (s + temporary ≤ w)

-- `Gives` in r0, and the temporary words below the k-th are as they were too
pub record GivesAbove
    (relied : ℕ → Bool) (s k t : ℕ) (thread : Thread) (old : List ℕ) (pc v : ℕ) (b : CoreState) : Type 0 where
  pub gives : Gives relied s t thread old R0 pc v b
  pub saved : (w : ℕ) → relied w ≡ true → IsSaved s k w → slice_get b.words w ≡ slice_get old w

abbrev pub OutcomeAbove :
    Home → (ℕ → Bool) → (s k t : ℕ) → Thread → List ℕ → (pc : ℕ) → Value → CoreState → Type 0
OutcomeAbove home relied s k t thread old pc (word v) b = GivesAbove relied s k t thread old pc v b
OutcomeAbove home relied s k t thread old pc (error kind pos) b = (c : CoreState) → Kept relied t b c → Errs home t kind pos c

-- The lines give an expression's word in r0 as those of `Evaluates` do, within 7 own steps for each node; but the temporary words below the
-- k-th are as they were once the word is there.
pub record EvaluatesAbove (vars : List (Option VarPlan)) (x : kernel.Expression) (k pc : ℕ) (lines : List Line) : Type 0 where
  pub by : (home : Home) (relied : ℕ → Bool) (s t : ℕ) (thread : Thread) (store : Store) (a : CoreState) →
      StandAt home.parts.code pc lines → RunsAt t pc thread a → HasRoom relied s thread.regs a.words →
      IsLaid vars relied s thread.regs.dp a.words store x →
      Within home relied (IsApart s) t
      (OutcomeAbove home relied s k t thread a.words (pc + length lines) (eval store x))
      (7 * nodes x) a
