-- What a thread's code relies on while it runs, its own steps, and where they lead, whatever other threads do between them.
use Rattle.std.specs.Prelude.{◌≡◌, ℕ, zero, suc, ◌+◌, ◌*◌, ◌/◌, ◌<◌, ◌≤◌, ◌⊎◌, Bool, true, false, List, [], ◌∷◌, length, Some, slice_get}
use Rattle.xs_instr.specs.declared.image.Code.{Code}
use Rattle.xs_instr.specs.declared.image.Home.{Home}
use Rattle.xs_instr.specs.declared.state.CoreState.{CoreState}
use Rattle.xs_instr.specs.declared.state.Mode.TheVariants.{Running}
use Rattle.xs_instr.specs.declared.state.Regs.{Regs}
use Rattle.xs_instr.specs.declared.state.Thread.{Thread}
use Rattle.xs_instr.specs.Did.{makes}
use Rattle.xs_instr.specs.Lines.{Line}
use Rattle.xs_instr.specs.Memory.{word_at}
use Rattle.xs_instr.specs.Rows.{Local, put_local}
use Rattle.xs_instr.specs.Slot.{slot}

-- the lines stand in the code from an index on
abbrev pub StandAt : Code → ℕ → List Line → Type 0
StandAt code pc [] = Unit {0}
StandAt code pc (l ∷ ls) = (slice_get code.instrs pc ≡ Some l.instr) × (slice_get code.«at» pc ≡ Some l.pos) × StandAt code (pc + 1) ls

-- each thread has this many words for itself, from sp on
abbrev pub temporary : ℕ
temporary = 512

-- a word that is none of the temporary ones, of which the first is word s
abbrev pub IsApart : ℕ → ℕ → Type 0
IsApart s w = (w < s) ⊎ (s + temporary ≤ w)

-- the rely: what others leave as it is, the thread and the words of `relied`
pub record Kept (relied : ℕ → Bool) (t : ℕ) (a b : CoreState) : Type 0 where
  pub thread : slice_get b.threads t ≡ slice_get a.threads t
  pub words : (w : ℕ) → relied w ≡ true → slice_get b.words w ≡ slice_get a.words w

-- The guarantee: a step of thread t that changes nothing but its pc, its registers and words, leaves these words as they are, and makes
-- no record. It says which words it leaves, so that one definition serves expressions, which change temporary words alone, and code
-- that changes a variable's words while nobody looks at them.
pub record OwnStep (home : Home) (leaves : ℕ → Type 0) (t : ℕ) (a b : CoreState) : Type 0 where
  pub thread : Thread
  pub here : slice_get a.threads t ≡ Some thread
  pub after : Local
  pub made : slot home a t ≡ makes b
  pub left : b ≡ put_local a t thread after
  pub words : (w : ℕ) → leaves w → slice_get after.words w ≡ slice_get a.words w

-- at most n own steps of thread t, whatever happens between them, lead to where Q holds
abbrev pub Within : Home → (ℕ → Bool) → (ℕ → Type 0) → ℕ → (CoreState → Type 0) → ℕ → CoreState → Type 0
Within home relied leaves t Q zero a = Q a
Within home relied leaves t Q (suc n) a =
    Q a ⊎ ((b : CoreState) → Kept relied t a b → (d : CoreState) × OwnStep home leaves t b d × Within home relied leaves t Q n d)

-- thread t runs at pc, and takes no events
pub record RunsAt (t pc : ℕ) (thread : Thread) (a : CoreState) : Type 0 where
  pub here : slice_get a.threads t ≡ Some thread
  pub pc_is : thread.pc ≡ pc
  pub runs : thread.mode ≡ Running
  pub no_events : thread.event_bit ≡ false

-- sp names word s, from which on the thread has its temporary words, and others leave them
pub record HasRoom (relied : ℕ → Bool) (s : ℕ) (regs : Regs) (words : List ℕ) : Type 0 where
  pub sp_is : regs.sp ≡ 4 * s
  pub small : s + temporary ≤ 16384
  pub within : s + temporary ≤ length words
  pub relied_on : (k : ℕ) → k < temporary → relied (s + k) ≡ true

-- at that address stands x; others leave that word, and it is none of the temporary ones
pub record IsWord (relied : ℕ → Bool) (s : ℕ) (words : List ℕ) (address x : ℕ) : Type 0 where
  pub there : word_at words address ≡ Some x
  pub relied_on : relied (address / 4) ≡ true
  pub apart : IsApart s (address / 4)
