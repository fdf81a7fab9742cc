-- What a transfer waits for, and the code that sets a port or timer for it.
use Rattle.std.specs.Prelude.{◌≡◌, ℕ, ◌+◌, List, [], ◌∷◌, ◌++◌, length, Option, Some, None, nat_eq, if◌then◌else◌}
use Rattle.xw_words.specs.declared.pos.Pos.{Pos}
use Rattle.xs_instr.specs.declared.instr.Cond.{Cond}
use Rattle.xs_instr.specs.declared.instr.Cond.TheVariants.{None as NoCond, Eq, Neq, After}
use Rattle.xs_instr.specs.declared.instr.Instr.{Instr}
use Rattle.xs_instr.specs.declared.instr.Instr.TheVariants.{In, Setc, Setd, Setpt}
use Rattle.xs_instr.specs.declared.instr.Reg.TheVariants.{R0, R10, R11}
use Rattle.xs_instr.specs.Lines.{Line, at_pos}
use Rattle.xc_tree.specs.Words.{pinseq_word, pinsneq_word}
use Rattle.xc_kernel.specs.Plain as kernel
use Rattle.xc_meaning.specs.States.Items.{When, now, at_time, pins_equal, pins_differ, after_time}
use Rattle.xl_expr.specs.declared.plan.Plan.{Plan}
use Rattle.xl_expr.specs.declared.plan.ResAt.{ResAt}
use Rattle.xl_expr.specs.declared.plan.VarPlan.{VarPlan}
use Rattle.xl_expr.specs.Identifiers.{Identifies}
use Rattle.xl_expr.specs.Plans.{resource_in}
use Rattle.xl_expr.specs.Targets.{AreAimed}
use Rattle.xl_expr.specs.Works.{Evaluates}
use Rattle.xl_port.specs.declared.setting.Test.{Test}
use Rattle.xl_port.specs.declared.setting.Test.TheVariants.{PinsEqual, PinsDiffer, AfterTime}
use Rattle.xl_port.specs.declared.setting.Waits.{Waits}
use Rattle.xl_port.specs.declared.setting.Waits.TheVariants.{AtOnce, Time, Condition}
use Rattle.xl_port.specs.Timings.{timing_expression}

-- the test that a word stands for; the third is `timerafter`
abbrev pub test_named : (test : ℕ) → Test
test_named test = if nat_eq test pinseq_word then PinsEqual else if nat_eq test pinsneq_word then PinsDiffer else AfterTime

-- what a transfer waits for, by its time and its condition
abbrev pub waits_for : Option kernel.Expression → Option kernel.Condition → Waits
waits_for (Some time) condition = Time
waits_for None (Some condition) = Condition (test_named condition.test)
waits_for None None = AtOnce

-- and by the word of that

abbrev pub when_tested_as : Test → (v : ℕ) → When
when_tested_as PinsEqual v = pins_equal v
when_tested_as PinsDiffer v = pins_differ v
when_tested_as AfterTime v = after_time v

abbrev pub when_of : Waits → (v : ℕ) → When
when_of AtOnce v = now
when_of Time v = at_time v
when_of (Condition test) v = when_tested_as test v

-- the machine's condition
abbrev pub cond_of : Test → Cond
cond_of PinsEqual = Eq
cond_of PinsDiffer = Neq
cond_of AfterTime = After

-- The instructions on the port or timer that r11 names: those that set it, by the word in r10, and the transfer's own. The word of the
-- time or condition comes to r10, which an output's value leaves, so both words are there before the resource is touched. It is cleared
-- first (SETC), so nothing has to be known of how it is set between two transfers.

abbrev pub setting_instrs : Waits → List Instr
setting_instrs AtOnce = Setc R11 NoCond ∷ []
setting_instrs Time = Setc R11 NoCond ∷ Setpt R11 R10 ∷ []
setting_instrs (Condition test) = Setc R11 (cond_of test) ∷ Setd R11 R10 ∷ []

abbrev pub transfer_instrs : Waits → (own : Instr) → List Instr
transfer_instrs waits own = setting_instrs waits ++ own ∷ []

-- instructions behind those that give an identifier in r11
pub record NameThen (place : ResAt) (instrs : List Instr) (pos : Pos) (pc : ℕ) (lines : List Line) : Type 0 where
  pub name : List Line
  pub is : lines ≡ name ++ at_pos pos instrs
  pub identifies : Identifies place pc name
  pub aimed : AreAimed pc name

-- what isn't in the plan has no code
abbrev pub UsesName : Option ResAt → List Instr → Pos → (pc : ℕ) → List Line → Type 0
UsesName None instrs pos pc lines = lines ≡ []
UsesName (Some place) instrs pos pc lines = NameThen place instrs pos pc lines

-- the code of a time or condition, where there is one
abbrev pub TimeEvaluates : List (Option VarPlan) → Option kernel.Expression → (pc : ℕ) → List Line → Type 0
TimeEvaluates vars None pc lines = lines ≡ []
TimeEvaluates vars (Some x) pc lines = Evaluates vars x R10 pc lines

-- the code of an input's transfer: the word of its time or condition, and then the name and what uses it
pub record TakesIn (plan : Plan) (i : kernel.Input) (pc : ℕ) (lines : List Line) : Type 0 where
  pub timing : List Line
  pub transfer : List Line
  pub is : lines ≡ timing ++ transfer
  pub evaluates : TimeEvaluates plan.vars (timing_expression i.time i.condition) pc timing
  pub uses : UsesName
      (resource_in plan.ports plan.timers i.resource) (transfer_instrs (waits_for i.time i.condition) (In R0 R11))
      i.pos (pc + length timing) transfer
