-- Four cores that are ready for a window, and what they are in the end.
use Rattle.std.proofs.Common.{◌≡◌, ◌+◌, ℕ, List, [], sym, subst, ◌∙◌}
use Rattle.xr_board.specs.ForCores.{AreReady, IsReady, StartsAs}
use Rattle.xr_windows.specs.Parts.{IsLast, Standing as Part}
use Rattle.xr_windows.specs.Sending.{Sending}
use Rattle.xr_windows.specs.Windows.{windows_of}
use Rattle.xs_instr.specs.declared.image.Image.{Image}
use Rattle.xs_instr.specs.declared.image.Stim.{Stim}

-- by how many windows the first core has run
pub ready_now : (L : Image) (s : Stim) (n k : ℕ) (a b c d : Part) (to0 to1 to2 to3 : List Sending) → AreReady L s n k a b c d to0 to1 to2 to3 → AreReady L s n a.ran a b c d to0 to1 to2 to3
ready_now L s n k a b c d to0 to1 to2 to3 h =
    subst (λ (j : ℕ). AreReady L s n j a b c d to0 to1 to2 to3) (sym h.first.ran) h

-- one window further
pub ready_next : (L : Image) (s : Stim) (n k j : ℕ) (a b c d : Part) (to0 to1 to2 to3 : List Sending) → j ≡ k → AreReady L s n (j + 1) a b c d to0 to1 to2 to3 → AreReady L s n (k + 1) a b c d to0 to1 to2 to3
ready_next L s n k j a b c d to0 to1 to2 to3 e h =
    subst (λ (i : ℕ). AreReady L s n (i + 1) a b c d to0 to1 to2 to3) e h

-- a core that has run all windows
pub last_of : (L : Image) (s : Stim) (n k i : ℕ) (p : Part) (got : List Sending) → k ≡ windows_of n → IsReady L s n k i p got → IsLast L s n i p
last_of L s n k i p got all h = record { part = h.part; number = h.number; all = h.ran ∙ all }

-- before its first window a core needs nothing
pub ready_of : (L : Image) (s : Stim) (n i : ℕ) (p : Part) (got : List Sending) → StartsAs L s n i p → got ≡ [] → IsReady L s n 0 i p got
ready_of L s n i p got h none = record { part = h.part; number = h.number; ran = h.start; needs = none }
