-- What a thread has got for a `par`, what its code relies on while it gets more, its own steps, and where they lead, whatever other threads
-- do between them.
use Rattle.std.specs.Prelude.{◌≡◌, ℕ, zero, suc, ◌+◌, ◌-◌, ◌≤◌, ◌⊎◌, Bool, true, false, List, [], ◌∷◌, length, Option, Some, None, slice_get, slice_set}
use Rattle.xs_instr.specs.declared.image.Home.{Home}
use Rattle.xs_instr.specs.declared.state.CoreState.{CoreState}
use Rattle.xs_instr.specs.declared.state.Mode.TheVariants.{Unused, Waiting}
use Rattle.xs_instr.specs.declared.state.Regs.{Regs}
use Rattle.xs_instr.specs.declared.state.Thread.{Thread}
use Rattle.xs_instr.specs.Did.{makes}
use Rattle.xs_instr.specs.OwnSteps.{Kept}
use Rattle.xs_instr.specs.Pool.{first_free, is_tied, is_unused, threads_taken, tied_to}
use Rattle.xs_instr.specs.Rows.{Local, goes_on, put_local, put_syncs, put_threads}
use Rattle.xs_instr.specs.Slot.{slot}

-- a number is among others
abbrev pub IsAmong : List ℕ → ℕ → Type 0
IsAmong [] u = ⊥
IsAmong (v ∷ vs) u = (u ≡ v) ⊎ IsAmong vs u

-- what a thread has got for a `par`, a synchroniser and threads, the last one first; and how many threads it lacks
pub record Acquired : Type 0 where
  pub sync : Option ℕ
  pub threads : List ℕ
  pub lacks : ℕ

-- nothing yet
abbrev pub nothing_acquired : (lacks : ℕ) → Acquired
nothing_acquired lacks = record { sync = None; threads = []; lacks = lacks }

-- with a synchroniser, or with one thread more
abbrev pub with_sync : Acquired → ℕ → Acquired
with_sync hand n = record hand { sync = Some n }

abbrev pub with_thread_got : Acquired → ℕ → Acquired
with_thread_got hand u = record { sync = hand.sync; threads = u ∷ hand.threads; lacks = hand.lacks - 1 }

-- how many threads are unused
abbrev pub one_if : Bool → ℕ
one_if true = 1
one_if false = 0

abbrev pub unused_in : List Thread → ℕ
unused_in [] = 0
unused_in (x ∷ xs) = one_if (is_unused x.mode) + unused_in xs

-- A core has what a thread lacks, at least: as many unused threads, and a free synchroniser where it has none. An unused thread takes no
-- events, no thread is tied to a free synchroniser, and there are no more of both than a core has.
pub record HasSpare (hand : Acquired) (core : CoreState) : Type 0 where
  pub threads : hand.lacks ≤ unused_in core.threads
  pub sync : hand.sync ≡ None → (n : ℕ) × (slice_get core.syncs n ≡ Some false)
  pub few_threads : length core.threads ≤ 8
  pub few_syncs : length core.syncs ≤ 8
  pub no_events : (u : ℕ) (x : Thread) → slice_get core.threads u ≡ Some x → x.mode ≡ Unused → x.event_bit ≡ false
  pub untied : (n u : ℕ) (x : Thread) → slice_get core.syncs n ≡ Some false → slice_get core.threads u ≡ Some x → is_tied x n ≡ false

-- The rely: what others leave as it is, the thread, the words of `relied`, and what it has got, to which they tie nothing; and there is
-- still what it lacks. This last is a premise on each state between the steps, and not on the first alone.
pub record KeepsAcquired (relied : ℕ → Bool) (t : ℕ) (hand : Acquired) (a b : CoreState) : Type 0 where
  pub own : Kept relied t a b
  pub sync : (n : ℕ) → hand.sync ≡ Some n → slice_get b.syncs n ≡ slice_get a.syncs n
  pub held : (u : ℕ) → IsAmong hand.threads u → slice_get b.threads u ≡ slice_get a.threads u
  pub tied : (n u : ℕ) (x : Thread) → hand.sync ≡ Some n → slice_get b.threads u ≡ Some x → is_tied x n ≡ true → slice_get a.threads u ≡ Some x
  pub spare : HasSpare hand b

-- what a step changes: the thread's pc and registers alone, with all words as they are; or it gets the first free synchroniser; or the
-- first unused thread, which then waits; or a waiting thread that it has got is prepared
pub data Change (t : ℕ) (thread : Thread) (hand hand' : Acquired) (a b : CoreState) : Type 0 where
  own_only : (after : Local) →
      ((w : ℕ) → slice_get after.words w ≡ slice_get a.words w) →
      b ≡ put_local a t thread after → hand' ≡ hand → Change t thread hand hand' a b
  gets_sync : (n : ℕ) (regs : Regs) →
      hand.sync ≡ None → first_free a.syncs 0 ≡ Some n →
      b ≡ goes_on (put_syncs a (slice_set a.syncs n true)) t thread regs →
      hand' ≡ with_sync hand n → Change t thread hand hand' a b
  gets_thread : (n u : ℕ) (x : Thread) (regs : Regs) →
      1 ≤ hand.lacks → hand.sync ≡ Some n → first_free (threads_taken a.threads) 0 ≡ Some u → slice_get a.threads u ≡ Some x →
      b ≡ goes_on (put_threads a (slice_set a.threads u (tied_to n x))) t thread regs →
      hand' ≡ with_thread_got hand u → Change t thread hand hand' a b
  prepares : (u : ℕ) (x x' : Thread) →
      IsAmong hand.threads u → slice_get a.threads u ≡ Some x → x.mode ≡ Waiting → x'.mode ≡ Waiting → x'.tie ≡ x.tie → x'.event_bit ≡ x.event_bit →
      b ≡ goes_on (put_threads a (slice_set a.threads u x')) t thread thread.regs →
      hand' ≡ hand → Change t thread hand hand' a b

-- the guarantee: a step of thread t that makes one of these changes, and no record
pub record AcquiringStep (home : Home) (t : ℕ) (hand hand' : Acquired) (a b : CoreState) : Type 0 where
  pub thread : Thread
  pub here : slice_get a.threads t ≡ Some thread
  pub made : slot home a t ≡ makes b
  pub change : Change t thread hand hand' a b

-- at most n own steps of thread t, whatever happens between them, lead to where Q holds of what it has got
abbrev pub WithinAcquiring : Home → (ℕ → Bool) → (t : ℕ) → (Acquired → CoreState → Type 0) → ℕ → Acquired → CoreState → Type 0
WithinAcquiring home relied t Q zero hand a = Q hand a
WithinAcquiring home relied t Q (suc n) hand a =
    Q hand a
    ⊎ ((b : CoreState) → KeepsAcquired relied t hand a b →
    (hand' : Acquired) × (d : CoreState) × AcquiringStep home t hand hand' b d × WithinAcquiring home relied t Q n hand' d)
