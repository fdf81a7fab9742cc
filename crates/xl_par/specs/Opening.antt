-- The code that opens a `par`, and what it does.
use Rattle.std.specs.Prelude.{◌≡◌, ℕ, zero, suc, ◌+◌, ◌-◌, ◌*◌, ◌%◌, ◌^◌, ◌<◌, Bool, true, false, List, [], ◌∷◌, ◌++◌, length, map, Some, slice_get}
use Rattle.xw_words.specs.declared.pos.Pos.{Pos}
use Rattle.xs_instr.specs.declared.image.Home.{Home}
use Rattle.xs_instr.specs.declared.instr.GetKind.TheVariants.{Sync as GetSync}
use Rattle.xs_instr.specs.declared.instr.Instr.{Instr}
use Rattle.xs_instr.specs.declared.instr.Instr.TheVariants.{Addi, Getr, Getst, Ldc, Msync, Or, Shl, Shr, Tinitdp, Tinitpc, Tinitsp}
use Rattle.xs_instr.specs.declared.instr.Reg.{Reg}
use Rattle.xs_instr.specs.declared.instr.Reg.TheVariants.{R0, R1, R2, R3, R4, R5, R6, R7, R8, R9, R10, R11, Dp, Sp, Lr, Cp}
use Rattle.xs_instr.specs.declared.state.CoreState.{CoreState}
use Rattle.xs_instr.specs.declared.state.Mode.TheVariants.{Waiting}
use Rattle.xs_instr.specs.declared.state.Regs.{Regs}
use Rattle.xs_instr.specs.declared.state.Thread.{Thread}
use Rattle.xs_instr.specs.Did.{makes}
use Rattle.xs_instr.specs.Lines.{Line, aimed, at_pos, line, open_line}
use Rattle.xs_instr.specs.OwnSteps.{RunsAt, StandAt, temporary}
use Rattle.xs_instr.specs.Pool.{all_started, is_tied}
use Rattle.xs_instr.specs.Registers.{no_regs, reg_get}
use Rattle.xs_instr.specs.Resources.{sync_name}
use Rattle.xs_instr.specs.Rows.{goes_on, put_threads}
use Rattle.xs_instr.specs.Slot.{slot}
use Rattle.xs_instr.specs.declared.emitter.Hole.{Hole}
use Rattle.xl_expr.specs.Targets.{AreGoodLines}
use Rattle.xl_par.specs.Acquired.{Acquired, IsAmong, KeepsAcquired, WithinAcquiring, nothing_acquired}

-- r1 to r7 hold the synchronisers of the `par`s that the thread is in, the innermost in r1: each goes to the next register. Eight
-- threads can't be nested deeper on one of them than seven.
abbrev pub keeping_instrs : List Instr
keeping_instrs = Or R7 R6 R6 ∷ (Or R6 R5 R5 ∷ (Or R5 R4 R4 ∷ (Or R4 R3 R3 ∷ (Or R3 R2 R2 ∷ (Or R2 R1 R1 ∷ [])))))

-- r8 and r9 get what identifiers are shifted by, and a new synchroniser is got in r1
abbrev pub beginning_instrs : List Instr
beginning_instrs = keeping_instrs ++ Ldc R8 8 ∷ (Ldc R9 5 ∷ (Getr R1 GetSync ∷ []))

-- A thread's identifier, without the core's number and times 8, and this are the address of its temporary words, where those of thread 0
-- begin at a word. The machine gives the number within an identifier, from which the address comes by two shifts, so it is the same
-- code on each core.
abbrev pub stack_offset : (stacks : ℕ) → ℕ
stack_offset stacks = (4 * stacks + 2 ^ 32 - 32) % 2 ^ 32

-- the thread that was got last in r0 gets this one's dp, and temporary words of its own
abbrev pub preparing_instrs : (offset : ℕ) → List Instr
preparing_instrs offset = Tinitdp R0 Dp ∷ (Shl R11 R0 R8 ∷ (Shr R11 R11 R9 ∷ (Addi R11 R11 offset ∷ (Tinitsp R0 R11 ∷ []))))

-- a thread is got, whose start is open, and prepared
abbrev pub slave_lines : (offset : ℕ) → Pos → List Line
slave_lines offset pos = line (Getst R0 R1) pos ∷ (open_line (Tinitpc R0 0) pos ∷ at_pos pos (preparing_instrs offset))

-- so many threads
abbrev pub slaves_lines : (offset : ℕ) → Pos → ℕ → List Line
slaves_lines offset pos zero = []
slaves_lines offset pos (suc n) = slave_lines offset pos ++ slaves_lines offset pos n

-- all of it, and then they are set off together
abbrev pub opening_lines : (stacks : ℕ) → Pos → (slaves : ℕ) → List Line
opening_lines stacks pos slaves =
    at_pos pos beginning_instrs ++ (slaves_lines (stack_offset stacks) pos slaves ++ line (Msync R1) pos ∷ [])

-- the indices of the open starts, where that code begins at an index
abbrev pub starts_from : ℕ → (slaves : ℕ) → List ℕ
starts_from pc zero = []
starts_from pc (suc n) = (pc + 1) ∷ starts_from (pc + 7) n

-- `filled`, by cases
abbrev pub filled_on : Line → (is_open : Bool) → List ℕ → (List ℕ → List Line) → List Line
filled_on l true [] more = l ∷ more []
filled_on l true (start ∷ starts) more = aimed l start ∷ more starts
filled_on l false starts more = l ∷ more starts

-- the lines with targets for the open ones, in order
abbrev pub filled : List Line → (starts : List ℕ) → List Line
filled [] starts = []
filled (l ∷ ls) starts = filled_on l l.is_open starts (filled ls)

-- The threads that were got.

-- a thread that waits to begin at an index, tied to a synchroniser, with that dp and its own temporary words
abbrev pub ready_thread : (stacks dp n u start : ℕ) → Thread
ready_thread stacks dp n u start = record {
  mode = Waiting;
  pc = start;
  regs = record no_regs { dp = dp; sp = 4 * (stacks + temporary * u) };
  event_bit = false;
  tie = Some n;
}

-- a thread is got and ready: it is another one than thread t and than those got before it
pub record IsReady (stacks dp n t : ℕ) (before : List ℕ) (u start : ℕ) (core : CoreState) : Type 0 where
  pub there : slice_get core.threads u ≡ Some (ready_thread stacks dp n u start)
  pub other : u ≡ t → ⊥
  pub new : IsAmong before u → ⊥
  pub few : u < 8

-- so are these, the last one first, each with its start
abbrev pub AreReady : (stacks dp n t : ℕ) → (threads starts : List ℕ) → CoreState → Type 0
AreReady stacks dp n t [] [] core = Unit {0}
AreReady stacks dp n t [] (start ∷ starts) core = ⊥
AreReady stacks dp n t (u ∷ us) [] core = ⊥
AreReady stacks dp n t (u ∷ us) (start ∷ starts) core =
    IsReady stacks dp n t us u start core × AreReady stacks dp n t us starts core

-- the other way round, before others
abbrev pub turned : List ℕ → List ℕ → List ℕ
turned [] ys = ys
turned (x ∷ xs) ys = turned xs (x ∷ ys)

-- the registers that the code changes, r1 to r7 among them
abbrev pub is_opening : Reg → Bool
is_opening R10 = false
is_opening Dp = false
is_opening Sp = false
is_opening Lr = false
is_opening Cp = false
is_opening _ = true

-- r1 holds a synchroniser's identifier, and the next registers what was in those before them
pub record HoldsSyncs (core n : ℕ) (old regs : Regs) : Type 0 where
  pub r1 : regs.r1 ≡ sync_name core n
  pub r2 : regs.r2 ≡ old.r1
  pub r3 : regs.r3 ≡ old.r2
  pub r4 : regs.r4 ≡ old.r3
  pub r5 : regs.r5 ≡ old.r4
  pub r6 : regs.r6 ≡ old.r5
  pub r7 : regs.r7 ≡ old.r6

-- The thread's next step sets all off that are tied to its synchroniser, which are those that it has got, each ready at its start; and the
-- thread itself goes on to pc. No word that it relies on has changed.
pub record SetsOff
    (home : Home) (relied : ℕ → Bool) (stacks t : ℕ) (thread : Thread) (old : List ℕ) (starts : List ℕ)
    (pos : Pos) (pc : ℕ) (hand : Acquired) (b : CoreState) : Type 0 where
  pub sync : ℕ
  pub sync_is : hand.sync ≡ Some sync
  pub few : sync < 8
  pub taken : slice_get b.syncs sync ≡ Some true
  pub no_lack : hand.lacks ≡ 0
  pub index : ℕ
  pub regs : Regs
  pub here : slice_get b.threads t ≡ Some (record thread { pc = index; regs = regs })
  pub place : slice_get home.parts.code.«at» index ≡ Some pos
  pub next : index + 1 ≡ pc
  pub syncs : HoldsSyncs home.number sync thread.regs regs
  pub others : (r : Reg) → is_opening r ≡ false → reg_get regs r ≡ reg_get thread.regs r
  pub words : (w : ℕ) → relied w ≡ true → slice_get b.words w ≡ slice_get old w
  pub ready : AreReady stacks thread.regs.dp sync t hand.threads (turned starts []) b
  pub tied : (u : ℕ) (x : Thread) → slice_get b.threads u ≡ Some x → is_tied x sync ≡ true → IsAmong hand.threads u
  pub goes : slot home b t ≡
      makes (goes_on (put_threads b (all_started b.threads sync)) t (record thread { pc = index; regs = regs }) regs)

-- The lines open a `par`: wherever they stand from index pc on, with any starts, in each state of a core that has the threads and the
-- synchroniser for it, and whatever other threads do in between that leaves what this one relies on and what it has got, and of what it
-- lacks as much, the thread comes within so many own steps to where its next one sets all off. A start may be any index, since the
-- holes are landed later.
pub record Opens (stacks slaves : ℕ) (pos : Pos) (pc : ℕ) (lines : List Line) : Type 0 where
  pub by : (home : Home) (relied : ℕ → Bool) (t : ℕ) (thread : Thread) (starts : List ℕ) (a : CoreState) →
      home.number < 4 → length starts ≡ slaves →
      StandAt home.parts.code pc (filled lines starts) → RunsAt t pc thread a →
      WithinAcquiring home relied t
      (λ hand b. (c : CoreState) → KeepsAcquired relied t hand b c →
      SetsOff home relied stacks t thread a.words starts pos (pc + length lines) hand c)
      (7 * slaves + 9) (nothing_acquired slaves) a

-- each is below
abbrev pub AreBelow : (size : ℕ) → List ℕ → Type 0
AreBelow size [] = Unit {0}
AreBelow size (n ∷ ns) = (n < size) × AreBelow size ns

-- with starts that are indices of the code, the lines may stand in code of any size that goes on behind them
pub record AreAimedWith (slaves pc : ℕ) (lines : List Line) : Type 0 where
  pub by : (starts : List ℕ) (size : ℕ) →
      length starts ≡ slaves → AreBelow size starts → AreGoodLines size pc (filled lines starts)

-- these are the indices of holes
abbrev index_of : Hole → ℕ
index_of hole = hole.index

abbrev pub indices_of : List Hole → List ℕ
indices_of holes = map index_of holes
