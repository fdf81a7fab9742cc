-- What a piece of code does, whatever other threads do between its steps.
use Rattle.std.specs.Prelude.{◌≡◌, ℕ, ◌+◌, ◌-◌, ◌*◌, ◌≤◌, Bool, true, false, List, length, Option, Some, None, slice_get, slice_index, nat_eq}
use Rattle.xw_words.specs.declared.pos.Pos.{Pos}
use Rattle.xs_instr.specs.declared.image.Home.{Home}
use Rattle.xs_instr.specs.declared.instr.Reg.{Reg}
use Rattle.xs_instr.specs.declared.instr.Reg.TheVariants.{R0, R1, R2, R3, R4, R5, R6, R7, R8, R9, R10, R11, Cp, Dp, Sp, Lr}
use Rattle.xs_instr.specs.declared.state.CoreState.{CoreState}
use Rattle.xs_instr.specs.declared.state.Regs.{Regs}
use Rattle.xs_instr.specs.declared.state.Thread.{Thread}
use Rattle.xs_instr.specs.declared.trace.Record.TheVariants.{Fault}
use Rattle.xs_instr.specs.declared.trace.Trap.{Trap}
use Rattle.xs_instr.specs.declared.trace.Trap.TheVariants.{Arithmetic, Index}
use Rattle.xs_instr.specs.Did.{Traps}
use Rattle.xs_instr.specs.Memory.{address_at}
use Rattle.xs_instr.specs.Registers.{reg_get}
use Rattle.xs_instr.specs.Slot.{slot, fault_of}
use Rattle.xc_kernel.specs.Plain as kernel
use Rattle.xc_kernel.specs.Values.{Value, word, error, ErrorKind, arithmetic, index}
use Rattle.xc_kernel.specs.Eval.{Store, words_of, eval}
use Rattle.xs_instr.specs.Lines.{Line}
use Rattle.xl_expr.specs.declared.plan.VarAt.{VarAt}
use Rattle.xl_expr.specs.declared.plan.VarAt.TheVariants.{Near, Far, Through}
use Rattle.xl_expr.specs.declared.plan.VarPlan.{VarPlan}
use Rattle.xl_expr.specs.Plans.{var_in}
use Rattle.xs_instr.specs.OwnSteps.{HasRoom, IsApart, IsWord, Kept, RunsAt, StandAt, Within, temporary}
use Rattle.xl_expr.specs.Measures.{nodes}

-- an element's array, with its index where the index's code is run: not where the plan has that element alone
abbrev pub WithIndex : VarAt → (index_laid array_laid : Type 0) → Type 0
WithIndex (Near n) index_laid array_laid = index_laid × array_laid
WithIndex (Far n) index_laid array_laid = index_laid × array_laid
WithIndex (Through n) index_laid array_laid = array_laid

-- the layout: where the words of an expression's variables stand, by the plan
module _ (vars : List (Option VarPlan)) (relied : ℕ → Bool) (s dp : ℕ) (words : List ℕ) (store : Store) where
  -- the words of a list stand from an address on
  abbrev pub StandFrom : ℕ → List ℕ → Type 0
  StandFrom base xs = (i x : ℕ) → slice_get xs i ≡ Some x → IsWord relied s words (address_at base i) x

  -- the word of a variable
  abbrev pub WordStands : VarAt → ℕ → Type 0
  WordStands (Near n) x = IsWord relied s words (address_at dp n) x
  WordStands (Far n) x = (base : ℕ) × IsWord relied s words (address_at dp n) base × IsWord relied s words (address_at base 0) x
  WordStands (Through n) x = (base : ℕ) × IsWord relied s words (address_at dp n) base × IsWord relied s words (address_at base 0) x

  -- an array, of which the element at an index is read; where the plan has that element alone, the index is that element's
  abbrev pub ArrayStands : VarAt → List ℕ → Value → Type 0
  ArrayStands (Near n) xs i = StandFrom (address_at dp n) xs
  ArrayStands (Far n) xs i = (base : ℕ) × IsWord relied s words (address_at dp n) base × StandFrom base xs
  ArrayStands (Through n) xs i =
      (j base x : ℕ) × (i ≡ word j) × (slice_get xs j ≡ Some x) ×
      IsWord relied s words (address_at dp n) base × IsWord relied s words (address_at base 0) x

  -- `IsLaid`, by cases
  abbrev pub WordIsLaid : Option VarPlan → List ℕ → Type 0
  WordIsLaid None xs = ⊥
  WordIsLaid (Some found) xs = WordStands found.place (slice_index xs 0)

  -- an array of the length that the plan has
  abbrev pub ArrayIsLaid : VarPlan → List ℕ → Value → Type 0
  ArrayIsLaid found xs i = (found.words ≡ length xs) × ArrayStands found.place xs i

  -- an element, with its index where that is to be laid
  abbrev pub ElementIsLaid : Option VarPlan → (index_laid : Type 0) → List ℕ → Value → Type 0
  ElementIsLaid None index_laid xs i = ⊥
  ElementIsLaid (Some found) index_laid xs i = WithIndex found.place index_laid (ArrayIsLaid found xs i)

  abbrev mutual
    pub IsLaid : kernel.Expression → Type 0
    IsLaid (kernel.number v) = Unit {0}
    IsLaid (kernel.read p) = PlaceIsLaid p
    IsLaid (kernel.operation o u es pos) = AreLaid es

    pub AreLaid : kernel.Operands → Type 0
    AreLaid kernel.no_operand = Unit {0}
    AreLaid (kernel.more_operands e es) = IsLaid e × AreLaid es

    pub PlaceIsLaid : kernel.Place → Type 0
    PlaceIsLaid (kernel.word v) = WordIsLaid (var_in vars v) (words_of store v)
    PlaceIsLaid (kernel.element v i pos) = ElementIsLaid (var_in vars v) (IsLaid i) (words_of store v) (eval store i)

-- the trap of an error
abbrev pub trap_of : ErrorKind → Trap
trap_of arithmetic = Arithmetic
trap_of index = Index

-- the registers that an expression's code changes beside the one that gets the word
abbrev pub is_scratch : Reg → Bool
is_scratch R0 = true
is_scratch R11 = true
is_scratch _ = false

-- places of registers, by which they are told apart
abbrev pub reg_place : Reg → ℕ
reg_place R0 = 0
reg_place R1 = 1
reg_place R2 = 2
reg_place R3 = 3
reg_place R4 = 4
reg_place R5 = 5
reg_place R6 = 6
reg_place R7 = 7
reg_place R8 = 8
reg_place R9 = 9
reg_place R10 = 10
reg_place R11 = 11
reg_place Cp = 12
reg_place Dp = 13
reg_place Sp = 14
reg_place Lr = 15

abbrev pub same_reg : Reg → Reg → Bool
same_reg a b = nat_eq (reg_place a) (reg_place b)

-- thread t is at pc with a word in a register; its other registers but r0 and r11 are as they were, and so are all words that it relies
-- on but its temporary ones
pub record Gives (relied : ℕ → Bool) (s t : ℕ) (thread : Thread) (old : List ℕ) (to : Reg) (pc v : ℕ) (b : CoreState) : Type 0 where
  pub regs : Regs
  pub within : s + temporary ≤ length b.words
  pub here : slice_get b.threads t ≡ Some (record thread { pc = pc; regs = regs })
  pub value : reg_get regs to ≡ v
  pub others : (r : Reg) → is_scratch r ≡ false → same_reg r to ≡ false → reg_get regs r ≡ reg_get thread.regs r
  pub words : (w : ℕ) → relied w ≡ true → IsApart s w → slice_get b.words w ≡ slice_get old w

-- the next step of thread t traps, with a record at that place
pub record Errs (home : Home) (t : ℕ) (kind : ErrorKind) (pos : Pos) (b : CoreState) : Type 0 where
  pub traps : slot home b t ≡ Traps (trap_of kind)
  pub record_is : fault_of home b t (trap_of kind) ≡ Fault home.number pos (trap_of kind)

abbrev pub Outcome : Home → (ℕ → Bool) → ℕ → ℕ → Thread → List ℕ → Reg → ℕ → Value → CoreState → Type 0
Outcome home relied s t thread old to pc (word v) b = Gives relied s t thread old to pc v b
Outcome home relied s t thread old to pc (error kind pos) b = (c : CoreState) → Kept relied t b c → Errs home t kind pos c

-- how many own steps come before the outcome, where there are at most so many in all: the step that traps is one of them
abbrev pub steps_before : Value → (most : ℕ) → ℕ
steps_before (word v) most = most
steps_before (error kind pos) most = most - 1

-- The lines give an expression's word in a register, from index pc on: where they stand in a listing, in each state of the
-- core in which the plan's layout holds, and whatever other threads do in between that leaves what this one relies on, the
-- thread stands after at most 8 own steps for each node at the index behind them with `eval`'s word, or after fewer its next
-- step traps with `eval`'s error.
pub record Evaluates (vars : List (Option VarPlan)) (x : kernel.Expression) (to : Reg) (pc : ℕ) (lines : List Line) : Type 0 where
  pub by : (home : Home) (relied : ℕ → Bool) (s t : ℕ) (thread : Thread) (store : Store) (a : CoreState) →
      StandAt home.parts.code pc lines → RunsAt t pc thread a → HasRoom relied s thread.regs a.words →
      IsLaid vars relied s thread.regs.dp a.words store x →
      Within home relied (IsApart s) t
      (Outcome home relied s t thread a.words to (pc + length lines) (eval store x))
      (steps_before (eval store x) (8 * nodes x)) a
