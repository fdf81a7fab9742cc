-- The code that sets all words of a variable to 0, and what it does.
use Rattle.std.specs.Prelude.{◌≡◌, ℕ, zero, suc, ◌+◌, ◌*◌, ◌/◌, ◌%◌, ◌^◌, ◌<◌, Bool, true, false, List, [], ◌∷◌, ◌++◌, length, Option, Some, None, slice_get}
use Rattle.xw_words.specs.declared.pos.Pos.{Pos}
use Rattle.xs_instr.specs.declared.image.Home.{Home}
use Rattle.xs_instr.specs.declared.instr.Instr.{Instr}
use Rattle.xs_instr.specs.declared.instr.Instr.TheVariants.{Ldc, Ldwdp, Stwdp, Stw}
use Rattle.xs_instr.specs.declared.instr.Reg.{Reg}
use Rattle.xs_instr.specs.declared.instr.Reg.TheVariants.{R0, R10, R11}
use Rattle.xs_instr.specs.declared.state.CoreState.{CoreState}
use Rattle.xs_instr.specs.declared.state.Regs.{Regs}
use Rattle.xs_instr.specs.declared.state.Thread.{Thread}
use Rattle.xs_instr.specs.Did.{makes}
use Rattle.xs_instr.specs.Lines.{Line, at_pos}
use Rattle.xs_instr.specs.Memory.{address_at, word_at, word_put}
use Rattle.xs_instr.specs.OwnSteps.{Kept, RunsAt, StandAt, Within}
use Rattle.xs_instr.specs.Registers.{reg_get}
use Rattle.xs_instr.specs.Rows.{put_local}
use Rattle.xs_instr.specs.Slot.{slot}
use Rattle.xl_expr.specs.declared.plan.VarAt.{VarAt}
use Rattle.xl_expr.specs.declared.plan.VarAt.TheVariants.{Near, Far, Through}
use Rattle.xl_expr.specs.declared.plan.VarPlan.{VarPlan}
use Rattle.xl_expr.specs.Plans.{var_in}
use Rattle.xl_expr.specs.Stores.{is_working}

-- the words that are set: those of the variable, or its one element that is used
abbrev pub words_set : VarAt → (words : ℕ) → ℕ
words_set (Near n) words = words
words_set (Far n) words = words
words_set (Through n) words = 1

-- What writes r0 to word i: from dp + 4n on, or from the address in r11 on. So a word next to dp becomes 0 by one instruction, and any
-- other by two, where r10 holds the index.
abbrev pub near_write : (n i : ℕ) → List Instr
near_write n i = Stwdp R0 ((n + i) % 2 ^ 32) ∷ []

abbrev pub far_write : (i : ℕ) → List Instr
far_write i = Ldc R10 i ∷ Stw R0 R11 R10 ∷ []

-- to the first words
abbrev pub writes : (ℕ → List Instr) → (words : ℕ) → List Instr
writes write zero = []
writes write (suc i) = writes write i ++ write i

abbrev pub zero_instrs : VarAt → (words : ℕ) → List Instr
zero_instrs (Near n) words = Ldc R0 0 ∷ writes (near_write n) words
zero_instrs (Far n) words = Ldc R0 0 ∷ Ldwdp R11 n ∷ writes far_write words
zero_instrs (Through n) words = Ldc R0 0 ∷ Ldwdp R11 n ∷ writes far_write 1

abbrev pub zero_of : Option VarPlan → Pos → List Line
zero_of None last = []
zero_of (Some found) last = at_pos last (zero_instrs found.place found.words)

abbrev pub zero_code : List (Option VarPlan) → (variable : ℕ) → Pos → List Line
zero_code vars v last = zero_of (var_in vars v) last

-- Where the words stand: from an address on, each in memory and relied on.
pub record WordsStand (relied : ℕ → Bool) (memory : List ℕ) (base words : ℕ) : Type 0 where
  pub there : (i : ℕ) → i < words → (x : ℕ) × (word_at memory (address_at base i) ≡ Some x)
  pub relied_on : (i : ℕ) → i < words → relied (address_at base i / 4) ≡ true

-- the address from which on they stand
abbrev pub StandsFrom : (relied : ℕ → Bool) (dp : ℕ) (memory : List ℕ) → VarAt → (base : ℕ) → Type 0
StandsFrom relied dp memory (Near n) base = base ≡ address_at dp n
StandsFrom relied dp memory (Far n) base = (word_at memory (address_at dp n) ≡ Some base) × (relied (address_at dp n / 4) ≡ true)
StandsFrom relied dp memory (Through n) base = (word_at memory (address_at dp n) ≡ Some base) × (relied (address_at dp n / 4) ≡ true)

-- a word that is none of them
abbrev pub IsOutside : (base words : ℕ) → ℕ → Type 0
IsOutside base words w = (i : ℕ) → i < words → w ≡ address_at base i / 4 → ⊥

-- The thread stands at pc, the words are 0, and all other words that it relies on and its registers but r0, r10 and r11 are as they were.
-- No word that it relies on is lost, and so neither is the room of its temporary words where there is one.
pub record Zeroed (relied : ℕ → Bool) (t : ℕ) (thread : Thread) (old : List ℕ) (base words pc : ℕ) (b : CoreState) : Type 0 where
  pub regs : Regs
  pub here : slice_get b.threads t ≡ Some (record thread { pc = pc; regs = regs })
  pub zeros : (i : ℕ) → i < words → word_at b.words (address_at base i) ≡ Some 0
  pub others : (r : Reg) → is_working r ≡ false → reg_get regs r ≡ reg_get thread.regs r
  pub kept : (w : ℕ) → relied w ≡ true → IsOutside base words w → slice_get b.words w ≡ slice_get old w
  pub within : (w : ℕ) → relied w ≡ true → w < length old → w < length b.words

-- The thread's next step writes 0 to the last word, when all words before it are 0, and goes on to pc; all other words that it relies
-- on and its registers but r0, r10 and r11 are as they were.
pub record WritesLast
    (home : Home) (relied : ℕ → Bool) (t : ℕ) (thread : Thread) (old : List ℕ) (base last pc : ℕ) (b : CoreState) : Type 0 where
  pub index : ℕ
  pub regs : Regs
  pub here : slice_get b.threads t ≡ Some (record thread { pc = index; regs = regs })
  pub zeros : (i : ℕ) → i < last → word_at b.words (address_at base i) ≡ Some 0
  pub there : (x : ℕ) × (word_at b.words (address_at base last) ≡ Some x)
  pub others : (r : Reg) → is_working r ≡ false → reg_get regs r ≡ reg_get thread.regs r
  pub kept : (w : ℕ) → relied w ≡ true → IsOutside base (last + 1) w → slice_get b.words w ≡ slice_get old w
  pub made : slot home b t ≡
      makes (put_local b t (record thread { pc = index; regs = regs })
      (record { pc = pc; regs = regs; words = word_put b.words (address_at base last) 0 }))

-- The lines set a variable's words to 0: wherever they stand, and whatever other threads do in between, the thread comes within two
-- own steps for each word and two more, which change no other word, to the index behind them. Where there are words, the last of these
-- steps is the one that writes the last of them. There the program's variable becomes 0 as a whole, and till then its words are the
-- thread's own business.
pub record Zeroes (vars : List (Option VarPlan)) (variable pc : ℕ) (lines : List Line) : Type 0 where
  pub by : (found : VarPlan) → var_in vars variable ≡ Some found →
      (home : Home) (relied : ℕ → Bool) (t base : ℕ) (thread : Thread) (a : CoreState) →
      StandAt home.parts.code pc lines → RunsAt t pc thread a →
      StandsFrom relied thread.regs.dp a.words found.place base →
      WordsStand relied a.words base (words_set found.place found.words) →
      Within home relied (IsOutside base (words_set found.place found.words)) t
      (Zeroed relied t thread a.words base (words_set found.place found.words) (pc + length lines))
      (2 * words_set found.place found.words + 2) a
  pub last : (found : VarPlan) (last : ℕ) → var_in vars variable ≡ Some found → words_set found.place found.words ≡ last + 1 →
      (home : Home) (relied : ℕ → Bool) (t base : ℕ) (thread : Thread) (a : CoreState) →
      StandAt home.parts.code pc lines → RunsAt t pc thread a →
      StandsFrom relied thread.regs.dp a.words found.place base →
      WordsStand relied a.words base (last + 1) →
      Within home relied (IsOutside base (last + 1)) t
      (λ b. (c : CoreState) → Kept relied t b c → WritesLast home relied t thread a.words base last (pc + length lines) c)
      (2 * (last + 1) + 1) a

-- how many instructions there are at most
abbrev pub room_of : Option VarPlan → ℕ
room_of None = 0
room_of (Some found) = 2 * words_set found.place found.words + 2
