-- The code behind the first operand, by the index where it begins.
use Rattle.std.specs.Prelude.{ℕ, ◌+◌, Bool, List, ◌∷◌, ◌++◌, length, Option}
use Rattle.xw_words.specs.declared.pos.Pos.{Pos}
use Rattle.xs_instr.specs.declared.instr.Instr.{Instr}
use Rattle.xs_instr.specs.declared.instr.Instr.TheVariants.{Brff, Brfu, Ldwsp, Stwsp}
use Rattle.xs_instr.specs.declared.instr.Reg.TheVariants.{R0, R11}
use Rattle.xc_kernel.specs.Plain as kernel
use Rattle.xc_kernel.specs.Operators.{Operator}
use Rattle.xs_instr.specs.Lines.{Line, line, with_target, at_pos}
use Rattle.xl_expr.specs.declared.plan.VarPlan.{VarPlan}
use Rattle.xl_expr.specs.Code.{made_truth, two_tail, expression_code}

-- an instruction that may aim behind a second operand's code, that code, and what follows
abbrev pub aimed_code : (ℕ → Instr) → Pos → (ℕ → List Line) → List Instr → ℕ → List Line
aimed_code middle pos b tail here = (line (middle (here + 1 + length (b (here + 1)))) pos ∷ b (here + 1)) ++ at_pos pos tail

abbrev pub kept_behind : List (Option VarPlan) → Operator → Bool → Pos → kernel.Expression → ℕ → ℕ → List Line
kept_behind vars o u pos second k here = aimed_code (λ target. Stwsp R0 k) pos (λ n. expression_code vars second (k + 1) n pos) (Ldwsp R11 k ∷ two_tail o u R11 R0) here

abbrev pub short_behind : List (Option VarPlan) → Instr → Pos → kernel.Expression → ℕ → ℕ → List Line
short_behind vars jump pos second k here = aimed_code (with_target jump) pos (λ n. expression_code vars second (k + 1) n pos) made_truth here

-- two operands of which one is passed over
abbrev pub either_code : Pos → (ℕ → List Line) → (ℕ → List Line) → ℕ → List Line
either_code pos b d here =
    let cb = b (here + 1) in
    let cd = d (here + 1 + length cb + 1) in
    line (Brff R0 (here + 1 + length cb + 1)) pos ∷ (cb ++ (line (Brfu (here + 1 + length cb + 1 + length cd)) pos ∷ cd))

abbrev pub choice_code : List (Option VarPlan) → Pos → kernel.Expression → kernel.Expression → ℕ → ℕ → List Line
choice_code vars pos second third k here =
    either_code pos (λ n. expression_code vars second (k + 1) n pos) (λ n. expression_code vars third (k + 1) n pos) here
