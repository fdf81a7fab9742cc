-- What has come for a core.
use Rattle.std.specs.Prelude.{ℕ, ◌+◌, ◌≡◌, ◌≢◌, Bool, true, false, Option, Some, None, nat_eq}
use Rattle.xr_windows.specs.Sending.{Sending, sending}
use Rattle.xs_instr.specs.declared.image.Image.{Image}
use Rattle.xs_instr.specs.declared.image.Stim.{Stim}

-- the two places of a sender: its batch of the window before the next one, and that of the next one
pub record TwoPlaces : Type 0 where
  pub earlier : Option Sending
  pub later : Option Sending

-- nothing has come
abbrev pub empty : TwoPlaces
empty = record { earlier = None; later = None }

-- one window further
abbrev pub moved_up : TwoPlaces → TwoPlaces
moved_up p = record { earlier = p.later; later = None }

-- `lacks`, by cases
abbrev pub lacks_by : ℕ → Option ℕ → Bool → Option ℕ
lacks_by j rest true = rest
lacks_by j rest false = Some j

-- core j, where its place is empty and it isn't core i itself
abbrev pub lacks : ℕ → ℕ → Option Sending → Option ℕ → Option ℕ
lacks i j (Some b) rest = rest
lacks i j None rest = lacks_by j rest (nat_eq i j)

-- the least core other than core i whose place of these is empty
abbrev pub lacking_of : ℕ → Option Sending → Option Sending → Option Sending → Option Sending → Option ℕ
lacking_of i a b c d = lacks i 0 a (lacks i 1 b (lacks i 2 c (lacks i 3 d None)))

-- the least core other than core i whose earlier place is empty
abbrev pub lacking : ℕ → TwoPlaces → TwoPlaces → TwoPlaces → TwoPlaces → Option ℕ
lacking i a b c d = lacking_of i a.earlier b.earlier c.earlier d.earlier

-- `placed`, by cases
abbrev pub put_later : TwoPlaces → Sending → Option Sending → Option TwoPlaces
put_later p b None = Some (record { earlier = p.earlier; later = Some b })
put_later p b (Some old) = None

-- `placed`, by cases
abbrev pub put_earlier : TwoPlaces → Sending → Option Sending → Option TwoPlaces
put_earlier p b None = Some (record { earlier = Some b; later = p.later })
put_earlier p b (Some old) = None

-- `placed`, by cases
abbrev pub place_before : TwoPlaces → Sending → Bool → Option TwoPlaces
place_before p b true = put_earlier p b p.earlier
place_before p b false = None

-- `placed`, by cases
abbrev pub place_by : TwoPlaces → ℕ → Sending → Bool → Option TwoPlaces
place_by p ran b true = put_later p b p.later
place_by p ran b false = place_before p b (nat_eq (b.window + 1) ran)

-- the places of a cell that has run so many windows, with the batch in its own; none where that is taken, or where the batch is
-- neither of the window before the next one nor of the next one
abbrev pub placed : TwoPlaces → ℕ → Sending → Option TwoPlaces
placed p ran b = place_by p ran b (nat_eq b.window ran)

-- the batch is put into its place; where it has none it is given back and nothing changes
abbrev pub IsPlaced : Option TwoPlaces → TwoPlaces → Sending → Option Sending → TwoPlaces → Type 0
IsPlaced (Some p) old b result new = (result ≡ None) × (new ≡ p)
IsPlaced None old b result new = (result ≡ Some b) × (new ≡ old)

-- it is the run's batch of window k from core j to core i
pub record IsFor (L : Image) (s : Stim) (n j i k : ℕ) (b : Sending) : Type 0 where
  pub apart : j ≢ i
  pub is : b ≡ sending L s n j i k

-- what is in the place is the run's batch of the window before window k
abbrev pub FitsEarlier : Image → Stim → ℕ → ℕ → ℕ → ℕ → Option Sending → Type 0
FitsEarlier L s n j i k None = Unit {0}
FitsEarlier L s n j i k (Some b) = (b.window + 1 ≡ k) × IsFor L s n j i b.window b

-- what is in the place is the run's batch of window k
abbrev pub FitsLater : Image → Stim → ℕ → ℕ → ℕ → ℕ → Option Sending → Type 0
FitsLater L s n j i k None = Unit {0}
FitsLater L s n j i k (Some b) = IsFor L s n j i k b

-- what has come from core j for core i, whose next window is window k
pub record Fits (L : Image) (s : Stim) (n j i k : ℕ) (p : TwoPlaces) : Type 0 where
  pub earlier : FitsEarlier L s n j i k p.earlier
  pub later : FitsLater L s n j i k p.later
