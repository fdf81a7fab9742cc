-- The clause at cores that there are: x + 2 goes to r3, where x is 7; and an element through a word, where the plan doesn't have its index.
use Rattle.std.proofs.Common.{ℕ, Bool, true, false, List, [], ◌∷◌, map, Option, Some, inl, refl, arith}
use Rattle.std.specs.Prelude.{replicate}
use Rattle.xw_words.specs.declared.pos.Pos.{Pos}
use Rattle.xs_instr.specs.declared.image.CoreImage.{CoreImage}
use Rattle.xs_instr.specs.declared.image.Home.{Home}
use Rattle.xs_instr.specs.declared.instr.Reg.TheVariants.{R3}
use Rattle.xs_instr.specs.declared.state.CoreState.{CoreState}
use Rattle.xs_instr.specs.declared.state.Thread.{Thread}
use Rattle.xs_instr.specs.Machine.{boot_core, no_parts, root_thread}
use Rattle.xs_instr.specs.Registers.{no_regs}
use Rattle.xc_kernel.specs.Plain as kernel
use Rattle.xc_kernel.specs.Values.{word}
use Rattle.xc_kernel.specs.Eval.{Store}
use Rattle.xs_instr.specs.Lines.{Line, instr_of, pos_of}
use Rattle.xs_instr.specs.OwnSteps.{IsApart, Within}
use Rattle.xl_expr.specs.declared.plan.VarAt.TheVariants.{Near, Through}
use Rattle.xl_expr.specs.declared.plan.VarPlan.{VarPlan}
use Rattle.xl_expr.specs.Code.{code_to}
use Rattle.xl_expr.specs.Works.{Outcome}
use Rattle.xl_expr.proofs.Evaluates.{code_evaluates}

abbrev vars : List (Option VarPlan)
vars = Some (record { place = Near 0; words = 1 }) ∷ []

abbrev there : Pos
there = record { line = 1; col = 9 }

abbrev x_and_two : kernel.Expression
x_and_two = kernel.operation 15 false (kernel.more_operands (kernel.read (kernel.word 0)) (kernel.more_operands (kernel.number 2) kernel.no_operand)) there

abbrev lines : List Line
lines = code_to vars x_and_two R3 0 there

abbrev parts : CoreImage
parts = record (no_parts 0) { words = 513; code = record { instrs = map instr_of lines; «at» = map pos_of lines } }

abbrev home : Home
home = record { number = 0; parts = parts; pairs = []; stim = [] }

abbrev thread : Thread
thread = record (root_thread 0) { regs = record no_regs { sp = 4 } }

abbrev words : List ℕ
words = 7 ∷ replicate 512 0

abbrev core : CoreState
core = record (boot_core parts) { threads = thread ∷ []; words = words }

abbrev all : ℕ → Bool
all w = true

abbrev store : Store
store = (7 ∷ []) ∷ []

sum_example : Within home all (IsApart 1) 0 (Outcome home all 1 0 thread words R3 3 (word 9)) 24 core
sum_example =
    (code_evaluates vars x_and_two R3 0 there (omega arith)).by home all 1 0 thread store core
    (refl, refl, (refl, refl, (refl, refl, tt)))
    (record { here = refl; pc_is = refl; runs = refl; no_events = refl })
    (record { sp_is = refl; small = omega arith; within = omega arith; relied_on = λ k h. refl })
    (record { there = refl; relied_on = refl; apart = inl (omega arith) }, (tt, tt))

-- an element whose address word 2 holds, at an index that the plan doesn't have
abbrev one_element : List (Option VarPlan)
one_element = Some (record { place = Through 2; words = 3 }) ∷ []

abbrev x_at_y : kernel.Expression
x_at_y = kernel.read (kernel.element 0 (kernel.read (kernel.word 1)) there)

abbrev element_lines : List Line
element_lines = code_to one_element x_at_y R3 0 there

abbrev element_parts : CoreImage
element_parts = record (no_parts 0) { words = 516; code = record { instrs = map instr_of element_lines; «at» = map pos_of element_lines } }

abbrev element_home : Home
element_home = record { number = 0; parts = element_parts; pairs = []; stim = [] }

abbrev element_thread : Thread
element_thread = record (root_thread 0) { regs = record no_regs { sp = 16 } }

abbrev element_words : List ℕ
element_words = 0 ∷ 0 ∷ 12 ∷ 8 ∷ replicate 512 0

abbrev element_core : CoreState
element_core = record (boot_core element_parts) { threads = element_thread ∷ []; words = element_words }

abbrev two_variables : Store
two_variables = (7 ∷ 8 ∷ 9 ∷ []) ∷ (1 ∷ []) ∷ []

element_example : Within element_home all (IsApart 4) 0 (Outcome element_home all 4 0 element_thread element_words R3 4 (word 8)) 16 element_core
element_example =
    (code_evaluates one_element x_at_y R3 0 there (omega arith)).by element_home all 4 0 element_thread two_variables element_core
    (refl, refl, (refl, refl, (refl, refl, (refl, refl, tt))))
    (record { here = refl; pc_is = refl; runs = refl; no_events = refl })
    (record { sp_is = refl; small = omega arith; within = omega arith; relied_on = λ k h. refl }) (
      refl,
      (
        1,
        12,
        8,
        refl,
        refl,
        record { there = refl; relied_on = refl; apart = inl (omega arith) },
        record { there = refl; relied_on = refl; apart = inl (omega arith) },
      ),
    )
