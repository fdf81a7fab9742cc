-- What a core sends to another in one window of a run.
use Rattle.std.specs.Prelude.{ℕ, zero, suc, ◌≡◌, ◌≢◌, ◌<◌, Bool, true, false, List, [], ◌∷◌, ◌++◌, Option, Some, None, nat_eq}
use Rattle.xr_windows.specs.Windows.{batch}
use Rattle.xs_instr.specs.declared.image.Image.{Image}
use Rattle.xs_instr.specs.declared.image.Stim.{Stim}
use Rattle.xs_instr.specs.declared.state.Item.{Item}

-- a batch, as contracts see it: who sends it, who gets it, the window that it was sent in, and what was sent
pub record Sending : Type 0 where
  pub from : ℕ
  pub to : ℕ
  pub window : ℕ
  pub items : List Item

-- it is what the one core sends to the other in that window of the run of n ticks
pub record IsSent (L : Image) (s : Stim) (n : ℕ) (b : Sending) : Type 0 where
  pub from : b.from < 4
  pub to : b.to < 4
  pub apart : b.from ≢ b.to
  pub items : b.items ≡ batch L s n b.from b.to b.window

-- the batch from core i to core j of window k
abbrev pub sending : Image → Stim → ℕ → ℕ → ℕ → ℕ → Sending
sending L s n i j k = record { from = i; to = j; window = k; items = batch L s n i j k }

-- a batch, unless the core is both sender and receiver
abbrev pub unless : Sending → Bool → List Sending
unless b true = []
unless b false = b ∷ []

-- what the cores below m send to core i in window k
abbrev pub from_below : Image → Stim → ℕ → ℕ → ℕ → ℕ → List Sending
from_below L s n i k zero = []
from_below L s n i k (suc m) = from_below L s n i k m ++ unless (sending L s n m i k) (nat_eq m i)

-- what core i sends to the cores below m in window k
abbrev pub to_below : Image → Stim → ℕ → ℕ → ℕ → ℕ → List Sending
to_below L s n i k zero = []
to_below L s n i k (suc m) = to_below L s n i k m ++ unless (sending L s n i m k) (nat_eq i m)

-- the batches that window k of core i needs: those of the window before from the other cores, by number; window 0 needs none
abbrev pub batches_to : Image → Stim → ℕ → ℕ → ℕ → List Sending
batches_to L s n i zero = []
batches_to L s n i (suc k) = from_below L s n i k 4

-- the batches that core i sends in window k to the other cores, by number
abbrev pub batches_from : Image → Stim → ℕ → ℕ → ℕ → List Sending
batches_from L s n i k = to_below L s n i k 4

-- `needed`, by cases
abbrev pub needed_by : Sending → Bool → Option Sending
needed_by b true = None
needed_by b false = Some b

-- the batch of core j that window k of core i needs: that of the window before, unless they are the same core or the window is the first one
abbrev pub needed : Image → Stim → ℕ → ℕ → ℕ → ℕ → Option Sending
needed L s n j i zero = None
needed L s n j i (suc k) = needed_by (sending L s n j i k) (nat_eq j i)

-- these are what window k of core i needs, by the number of the sender
pub record AreNeeded (L : Image) (s : Stim) (n i k : ℕ) (from0 from1 from2 from3 : Option Sending) : Type 0 where
  pub first : from0 ≡ needed L s n 0 i k
  pub second : from1 ≡ needed L s n 1 i k
  pub third : from2 ≡ needed L s n 2 i k
  pub fourth : from3 ≡ needed L s n 3 i k

-- the items of a batch, where there is one
abbrev pub items_in : Option Sending → List Item
items_in None = []
items_in (Some b) = b.items

-- `latest`, by cases
abbrev pub later_by : Option Sending → Sending → Bool → Option Sending
later_by old b true = Some b
later_by old b false = old

-- the last batch of core j, or else the one that was there before
abbrev pub latest : ℕ → Option Sending → List Sending → Option Sending
latest j old [] = old
latest j old (b ∷ bs) = latest j (later_by old b (nat_eq b.from j)) bs
