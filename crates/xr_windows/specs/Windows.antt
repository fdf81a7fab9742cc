-- Windows of eight ticks, and what one core sends to another in them.
use Rattle.std.specs.Prelude.{ℕ, zero, suc, ◌+◌, ◌-◌, ◌*◌, ◌/◌, min, Bool, true, false, List, [], ◌∷◌, ◌++◌, Option, Some, None, nat_le, slice_get}
use Rattle.xs_instr.specs.declared.image.CoreImage.{CoreImage}
use Rattle.xs_instr.specs.declared.image.Home.{Home}
use Rattle.xs_instr.specs.declared.image.Image.{Image}
use Rattle.xs_instr.specs.declared.image.Stim.{Stim}
use Rattle.xs_instr.specs.declared.state.CoreState.{CoreState}
use Rattle.xs_instr.specs.declared.state.Item.{Item}
use Rattle.xs_instr.specs.declared.state.Sent.{Sent}
use Rattle.xs_instr.specs.Machine.{Machine, parts_in, home_of, boot_core, link_of}
use Rattle.xs_fabric.specs.Lockstep.{Part, tick_once, part_at, rounds_at, lockstep}
use Rattle.xr_windows.specs.Alone.{Alone, alone, begins, coming_to, sent_for, stamped}
use Rattle.xr_windows.specs.declared.stamped.Stamped.{Stamped}

-- `core_after`, by cases
abbrev pub core_where : CoreImage → Option CoreState → CoreState
core_where k None = boot_core k
core_where k (Some core) = core

-- a core's state in a machine
abbrev pub core_of : Image → Machine → ℕ → CoreState
core_of L m i = core_where (parts_in L.cores i) (slice_get m.cores i)

-- core i's state after n rounds
abbrev pub core_after : Image → Stim → ℕ → ℕ → CoreState
core_after L s i n = core_of L (lockstep L s n) i

-- core c's part of the round after n rounds
unfoldable pub part_after : Image → Stim → ℕ → ℕ → Part
part_after L s n c =
    let m = rounds_at L s (lockstep L s n) c in part_at (home_of L s c) m c (tick_once (core_of L m c))

-- what core i sends in the n rounds after `from` rounds
unfoldable pub sent_between : Image → Stim → ℕ → ℕ → ℕ → List Sent
sent_between L s i from zero = []
sent_between L s i from (suc n) = sent_between L s i from n ++ (part_after L s (from + n) i).sent

-- what core i writes down in them, with its ticks
unfoldable pub made_between : Image → Stim → ℕ → ℕ → ℕ → List Stamped
made_between L s i from zero = []
made_between L s i from (suc n) = made_between L s i from n ++ stamped (from + n + 1) (part_after L s (from + n) i).made

-- core i by itself, from where it stands after t rounds
abbrev pub alone_from : Image → Stim → ℕ → ℕ → ℕ → Alone
alone_from L s t i n = alone (home_of L s i) (begins (core_after L s i t) (coming_to (lockstep L s t).links i)) n

-- where window k begins, in a run of n ticks
abbrev pub window_start : ℕ → ℕ → ℕ
window_start n k = min (8 * k) n

-- how many windows a run of n ticks has; the last one may be shorter
abbrev pub windows_of : ℕ → ℕ
windows_of n = (n + 7) / 8

-- how many ticks window k has
abbrev pub ticks_in : ℕ → ℕ → ℕ
ticks_in n k = window_start n (k + 1) - window_start n k

-- What core i sends to core j in window k of the run of n ticks. The batch to the own core is empty, so that a part has four lists and
-- no case for itself.
abbrev pub batch : Image → Stim → ℕ → ℕ → ℕ → ℕ → List Item
batch L s n i j k = sent_for j (sent_between L s i (window_start n k) (ticks_in n k))

-- `sent_before`, by cases
abbrev pub before_by : Item → List Item → Bool → List Item
before_by i rest true = i ∷ rest
before_by i rest false = []

-- the first items, as far as they were sent at that tick or before
abbrev pub sent_before : ℕ → List Item → List Item
sent_before tick [] = []
sent_before tick (i ∷ items) = before_by i (sent_before tick items) (nat_le i.tick tick)

-- there is one
abbrev pub has_one : List Sent → Bool
has_one [] = false
has_one (s ∷ ss) = true

-- whether core i sent an item in the last of the first k windows
abbrev pub has_sent_in : Image → Stim → ℕ → ℕ → ℕ → Bool
has_sent_in L s n i zero = false
has_sent_in L s n i (suc k) = has_one (sent_between L s i (window_start n k) (ticks_in n k))

-- core i between two windows: its state, its records with their ticks, what was sent to it in the windows before the last one and isn't delivered yet, by
-- the number of the sender, and whether it sent an item in the last one
pub record Between : Type 0 where
  pub core : CoreState
  pub records : List Stamped
  pub waiting : ℕ → List Item
  pub has_sent : Bool

-- core i after the first k windows of the run of n ticks
unfoldable pub part : Image → Stim → ℕ → ℕ → ℕ → Between
part L s n i k = record {
  core = core_after L s i (window_start n k);
  records = made_between L s i 0 (window_start n k);
  waiting = λ a. sent_before (window_start n (k - 1)) (link_of (lockstep L s (window_start n k)).links a i);
  has_sent = has_sent_in L s n i k;
}

-- the batches to core i of the window before window k, by the number of the sender
abbrev pub batches_before : Image → Stim → ℕ → ℕ → ℕ → ℕ → List Item
batches_before L s n i zero a = []
batches_before L s n i (suc k) a = batch L s n a i k

-- of the four cores
abbrev pub four : (ℕ → List Item) → ℕ → List Item
four f zero = f 0
four f (suc zero) = f 1
four f (suc (suc zero)) = f 2
four f (suc (suc (suc zero))) = f 3
four f (suc (suc (suc (suc a)))) = []

-- a core's window of so many ticks: from where it stands, with what was waiting and what came in batches
abbrev pub window : Home → Between → (ℕ → List Item) → ℕ → Alone
window home p got ticks = alone home (begins p.core (four (λ a. p.waiting a ++ got a))) ticks

-- the core after it
abbrev pub went_on : Between → Alone → Between
went_on p w = record { core = w.core; records = p.records ++ w.made; waiting = w.coming; has_sent = has_one w.sent }
