-- An expression's code that uses the temporary words from the k-th on leaves those below it, and takes at most 7 steps for each node.
use Rattle.std.proofs.Common.{ℕ, ◌+◌, ◌*◌, ◌≤◌, inl, inr, Bool, List, length, Option, arith, refl, ◌∙◌}
use Rattle.xw_words.specs.declared.pos.Pos.{Pos}
use Rattle.xs_instr.specs.declared.image.Home.{Home}
use Rattle.xs_instr.specs.declared.instr.Reg.TheVariants.{R0}
use Rattle.xs_instr.specs.declared.state.CoreState.{CoreState}
use Rattle.xs_instr.specs.declared.state.Thread.{Thread}
use Rattle.xc_kernel.specs.Plain as kernel
use Rattle.xc_kernel.specs.Values.{Value, word, error}
use Rattle.xc_kernel.specs.Eval.{Store, eval}
use Rattle.xs_instr.specs.OwnSteps.{HasRoom, IsApart, RunsAt, StandAt, Within, temporary}
use Rattle.xl_expr.specs.declared.plan.VarPlan.{VarPlan}
use Rattle.xl_expr.specs.Measures.{nodes, depth}
use Rattle.xl_expr.specs.Code.{expression_code}
use Rattle.xl_expr.specs.Works.{IsLaid}
use Rattle.xl_expr.specs.Above.{EvaluatesAbove, IsSaved, OutcomeAbove}
use Rattle.xl_expr.proofs.Ways.{own, way_leads, fails_errs}
use Rattle.xl_expr.proofs.Runs.{Runs}
use Rattle.xl_expr.proofs.Evaluates.{gives_by, ready, small, starts}
use Rattle.xl_expr.proofs.Expressions.{expression_means}
use Rattle.xl_expr.proofs.GoodCode.{code_good}
use Rattle.xl_expr.specs.Targets.{AreAimed}

module _ (home : Home) (relied : ℕ → Bool) (s t : ℕ) (thread : Thread) (a : CoreState) (pc : ℕ) (at_work : RunsAt t pc thread a) (room : HasRoom relied s thread.regs a.words) (k : ℕ) where
  apart_saved : (w : ℕ) → IsApart s w → IsSaved s k w
  apart_saved w (inl h) = inl (omega arith)
  apart_saved w (inr h) = inr h

  by_run : (pc' most : ℕ) (v : Value) → Runs home.parts.code relied s thread.regs a.words pc pc' k most v → Within home relied (IsApart s) t (OutcomeAbove home relied s k t thread a.words pc' v) most a
  by_run pc' most (word v) r =
      way_leads home.parts.code relied (IsApart s) home t thread at_work.runs at_work.no_events refl (OutcomeAbove home relied s k t thread a.words pc' (word v)) r.count most (own pc thread.regs a.words) (own pc' r.regs' r.words') r.few r.way
      (λ b f. record {
        gives = gives_by home relied s t thread a pc at_work room R0 pc' v r.regs' r.words' r.keeps.size r.value (λ q e ne. r.keeps.others q e) (λ w h. r.keeps.same w (apart_saved w h)) b f;
        saved = λ w rely h. f.words.by w rely ∙ r.keeps.same w h;
      }) a (starts home relied s t thread a pc at_work room)
  by_run pc' most (error kind pos) r =
      way_leads home.parts.code relied (IsApart s) home t thread at_work.runs at_work.no_events refl (OutcomeAbove home relied s k t thread a.words pc' (error kind pos)) r.count most (own pc thread.regs a.words) r.there r.few r.way
      (λ b f. fails_errs home.parts.code relied (IsApart s) home t thread at_work.runs at_work.no_events refl kind pos r.there r.fails b f) a (starts home relied s t thread a pc at_work room)

  pub evaluates_above : (vars : List (Option VarPlan)) (x : kernel.Expression) (last : Pos) (store : Store) → IsLaid vars relied s thread.regs.dp a.words store x → k + depth x ≤ temporary → StandAt home.parts.code pc (expression_code vars x k pc last) →
      Within home relied (IsApart s) t (OutcomeAbove home relied s k t thread a.words (pc + length (expression_code vars x k pc last)) (eval store x)) (7 * nodes x) a
  evaluates_above vars x last store laid fits st =
      by_run (pc + length (expression_code vars x k pc last)) (7 * nodes x) (eval store x)
      ((expression_means home.parts.code relied s (small home relied s t thread a pc at_work room) room.relied_on thread.regs.dp a.words vars store x laid).by k pc last thread.regs a.words st fits (ready home relied s t thread a pc at_work room))

-- the public clause, from the code alone
pub code_evaluates_above : (vars : List (Option VarPlan)) (x : kernel.Expression) (k pc : ℕ) (last : Pos) → k + depth x ≤ temporary → EvaluatesAbove vars x k pc (expression_code vars x k pc last)
code_evaluates_above vars x k pc last fits = record {
  by = λ home relied s t thread store a st at_work room laid. evaluates_above home relied s t thread a pc at_work room k vars x last store laid fits st;
}

pub code_above_aimed : (vars : List (Option VarPlan)) (x : kernel.Expression) (k pc : ℕ) (last : Pos) → AreAimed pc (expression_code vars x k pc last)
code_above_aimed vars x k pc last = record { by = λ size e. (code_good vars x).by size k pc last e }
