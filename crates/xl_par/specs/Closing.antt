-- The code that ends a branch of a `par`, and the code behind its first branch; and what they do.
use Rattle.std.specs.Prelude.{◌≡◌, ℕ, ◌+◌, ◌<◌, Bool, true, false, List, [], ◌∷◌, ◌++◌, length, Some, slice_get, slice_set}
use Rattle.xw_words.specs.declared.pos.Pos.{Pos}
use Rattle.xs_instr.specs.declared.image.Home.{Home}
use Rattle.xs_instr.specs.declared.instr.Instr.{Instr}
use Rattle.xs_instr.specs.declared.instr.Instr.TheVariants.{Freer, Mjoin, Or}
use Rattle.xs_instr.specs.declared.instr.Reg.{Reg}
use Rattle.xs_instr.specs.declared.instr.Reg.TheVariants.{R1, R2, R3, R4, R5, R6, R7, R10}
use Rattle.xs_instr.specs.declared.state.CoreState.{CoreState}
use Rattle.xs_instr.specs.declared.state.Mode.TheVariants.{Waiting}
use Rattle.xs_instr.specs.declared.state.Regs.{Regs}
use Rattle.xs_instr.specs.declared.state.Thread.{Thread}
use Rattle.xs_instr.specs.Did.{Paused, makes}
use Rattle.xs_instr.specs.Lines.{Line}
use Rattle.xs_instr.specs.OwnSteps.{Kept, OwnStep, RunsAt, StandAt}
use Rattle.xs_instr.specs.Pool.{all_joined, all_wait, some_tied}
use Rattle.xs_instr.specs.Registers.{reg_get}
use Rattle.xs_instr.specs.Resources.{sync_name}
use Rattle.xs_instr.specs.Rows.{goes_on, put_syncs, put_threads, with_thread}
use Rattle.xs_instr.specs.Slot.{slot}
use Rattle.xl_expr.specs.Leads.{Leads}

-- The lines end a branch: wherever they stand, the next step of a tied thread at index pc leaves it waiting, tied as before.
pub record EndsSlave (pc : ℕ) (lines : List Line) : Type 0 where
  pub by : (home : Home) (t n : ℕ) (thread : Thread) (a : CoreState) →
      StandAt home.parts.code pc lines → RunsAt t pc thread a → thread.tie ≡ Some n →
      slot home a t ≡ makes (with_thread a t (record thread { mode = Waiting; pc = thread.pc + 1 }))

-- r10 gets the synchroniser that is in r1, and r1 to r6 get back what the next registers hold; then all are waited for, and the
-- synchroniser is given back. The registers move back before the join, so that nothing is left to do once the synchroniser is given
-- back.
abbrev pub taking_back_instrs : List Instr
taking_back_instrs =
    Or R10 R1 R1 ∷ (Or R1 R2 R2 ∷ (Or R2 R3 R3 ∷ (Or R3 R4 R4 ∷ (Or R4 R5 R5 ∷ (Or R5 R6 R6 ∷ (Or R6 R7 R7 ∷ []))))))

abbrev pub closing_instrs : List Instr
closing_instrs = taking_back_instrs ++ Mjoin R10 ∷ (Freer R10 ∷ [])

-- the rely: the thread, the words of `relied` and synchroniser n stay as they are
pub record KeptSync (relied : ℕ → Bool) (t n : ℕ) (a b : CoreState) : Type 0 where
  pub own : Kept relied t a b
  pub sync : slice_get b.syncs n ≡ slice_get a.syncs n

-- the guarantee: a step that changes no word, and nothing else but the thread's pc and registers
abbrev pub QuietStep : Home → (t : ℕ) → (a b : CoreState) → Type 0
QuietStep home t a b = OwnStep home (λ w. Unit {0}) t a b

-- the registers that the code changes, r1 to r6 among them
abbrev pub is_closing : Reg → Bool
is_closing R1 = true
is_closing R2 = true
is_closing R3 = true
is_closing R4 = true
is_closing R5 = true
is_closing R6 = true
is_closing R10 = true
is_closing _ = false

-- r1 to r6 hold what was in the registers behind them
pub record HoldsOuter (old regs : Regs) : Type 0 where
  pub r1 : regs.r1 ≡ old.r2
  pub r2 : regs.r2 ≡ old.r3
  pub r3 : regs.r3 ≡ old.r4
  pub r4 : regs.r4 ≡ old.r5
  pub r5 : regs.r5 ≡ old.r6
  pub r6 : regs.r6 ≡ old.r7

-- The thread's next step pauses till all that are tied to n wait, and then joins them all. In each state where the thread stands behind
-- that, with n taken and nothing tied to it, its next step gives n back and goes on to pc. No word that it relies on has changed.
pub record Joins (home : Home) (relied : ℕ → Bool) (t n : ℕ) (thread : Thread) (old : List ℕ) (pos : Pos) (pc : ℕ) (b : CoreState) : Type 0 where
  pub index : ℕ
  pub regs : Regs
  pub here : slice_get b.threads t ≡ Some (record thread { pc = index; regs = regs })
  pub place : slice_get home.parts.code.«at» index ≡ Some pos
  pub next : index + 2 ≡ pc
  pub outer : HoldsOuter thread.regs regs
  pub others : (r : Reg) → is_closing r ≡ false → reg_get regs r ≡ reg_get thread.regs r
  pub words : (w : ℕ) → relied w ≡ true → slice_get b.words w ≡ slice_get old w
  pub waits : all_wait b.threads n ≡ false → slot home b t ≡ Paused
  pub joins : all_wait b.threads n ≡ true →
      slot home b t ≡ makes (goes_on (put_threads b (all_joined b.threads n)) t (record thread { pc = index; regs = regs }) regs)
  pub frees : (c : CoreState) →
      slice_get c.threads t ≡ Some (record thread { pc = index + 1; regs = regs }) →
      slice_get c.syncs n ≡ Some true → some_tied c.threads n ≡ false →
      slot home c t ≡
      makes (goes_on (put_syncs c (slice_set c.syncs n false)) t (record thread { pc = index + 1; regs = regs }) regs)

-- The lines close a `par`: wherever they stand from index pc on, in each state of a core in which r1 has the identifier of a synchroniser
-- that is taken, and whatever other threads do in between that leaves it and what this thread relies on, the thread comes within seven
-- own steps to where it joins the threads that are tied to it.
pub record Closes (pos : Pos) (pc : ℕ) (lines : List Line) : Type 0 where
  pub by : (home : Home) (relied : ℕ → Bool) (t n : ℕ) (thread : Thread) (a : CoreState) →
      n < 8 → thread.regs.r1 ≡ sync_name home.number n → slice_get a.syncs n ≡ Some true →
      StandAt home.parts.code pc lines → RunsAt t pc thread a →
      Leads (KeptSync relied t n) (QuietStep home t)
      (λ b. (c : CoreState) → KeptSync relied t n b c → Joins home relied t n thread a.words pos (pc + length lines) c)
      7 a
