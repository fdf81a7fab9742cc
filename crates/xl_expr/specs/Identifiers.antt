-- The code that gives a resource's identifier in r11, and what it does.
use Rattle.std.specs.Prelude.{◌≡◌, ℕ, ◌+◌, ◌*◌, ◌%◌, ◌^◌, Bool, true, List, [], ◌∷◌, length, Some, slice_get}
use Rattle.xw_words.specs.Words.{word_sum}
use Rattle.xs_instr.specs.declared.image.Home.{Home}
use Rattle.xs_instr.specs.declared.instr.Instr.{Instr}
use Rattle.xs_instr.specs.declared.instr.Instr.TheVariants.{Addi, Ldc, Ldwdp}
use Rattle.xs_instr.specs.declared.instr.Reg.TheVariants.{R11}
use Rattle.xs_instr.specs.declared.state.CoreState.{CoreState}
use Rattle.xs_instr.specs.declared.state.Thread.{Thread}
use Rattle.xs_instr.specs.Lines.{Line}
use Rattle.xs_instr.specs.Memory.{address_at}
use Rattle.xs_instr.specs.OwnSteps.{IsApart, IsWord, RunsAt, StandAt, Within}
use Rattle.xs_instr.specs.Registers.{reg_set}
use Rattle.xl_expr.specs.declared.plan.ResAt.{ResAt}
use Rattle.xl_expr.specs.declared.plan.ResAt.TheVariants.{Fixed, Held}

-- it is given, or it is a word and so many times 256
abbrev pub identifier_instrs : ResAt → List Instr
identifier_instrs (Fixed id) = Ldc R11 id ∷ []
identifier_instrs (Held n j) = Ldwdp R11 n ∷ Addi R11 R11 (j * 256 % 2 ^ 32) ∷ []

-- the layout: which identifier it is
abbrev pub IsIdentifier : (relied : ℕ → Bool) (s dp : ℕ) (words : List ℕ) → ResAt → (name : ℕ) → Type 0
IsIdentifier relied s dp words (Fixed id) name = name ≡ id
IsIdentifier relied s dp words (Held n j) name =
    (first : ℕ) × IsWord relied s words (address_at dp n) first × (name ≡ word_sum first (j * 256 % 2 ^ 32))

-- the thread stands at pc with the identifier in r11; its other registers and all words that it relies on are as they were
pub record Named (relied : ℕ → Bool) (t : ℕ) (thread : Thread) (old : List ℕ) (name pc : ℕ) (b : CoreState) : Type 0 where
  pub here : slice_get b.threads t ≡ Some (record thread { pc = pc; regs = reg_set thread.regs R11 name })
  pub words : (w : ℕ) → relied w ≡ true → slice_get b.words w ≡ slice_get old w

-- The lines give an identifier in r11: wherever they stand, and whatever other threads do in between, the thread comes within two
-- own steps, which leave all words but its temporary ones, to the index behind them; the words that it relies on are then as they
-- were. It has a call of its own, `emit_identifier`, since every piece that uses a resource begins with it.
pub record Identifies (place : ResAt) (pc : ℕ) (lines : List Line) : Type 0 where
  pub by : (home : Home) (relied : ℕ → Bool) (s t name : ℕ) (thread : Thread) (a : CoreState) →
      StandAt home.parts.code pc lines → RunsAt t pc thread a →
      IsIdentifier relied s thread.regs.dp a.words place name →
      Within home relied (IsApart s) t (Named relied t thread a.words name (pc + length lines)) 2 a
