-- What goes to each of four cores.
use Rattle.std.specs.Prelude.{ℕ, ◌≡◌, ◌≤◌, ◌++◌, Bool, true, false, List, [], ◌∷◌, nat_eq}
use Rattle.xr_board.specs.declared.parts.Parts.{Parts}
use Rattle.xr_windows.specs.Parts.{IsPartOf, Standing as Part}
use Rattle.xr_windows.specs.Sending.{Sending, batches_to}
use Rattle.xs_instr.specs.declared.image.Image.{Image}
use Rattle.xs_instr.specs.declared.image.Stim.{Stim}
use Rattle.xs_instr.specs.Valid.{IsGoodStim, Valid}

-- `for_core`, by cases
abbrev pub for_by : Sending → List Sending → Bool → List Sending
for_by b rest true = b ∷ rest
for_by b rest false = rest

-- those to core j
abbrev pub for_core : ℕ → List Sending → List Sending
for_core j [] = []
for_core j (b ∷ bs) = for_by b (for_core j bs) (nat_eq b.to j)

-- each of them is added for its core
pub record AreAdded (out a b c d a' b' c' d' : List Sending) : Type 0 where
  pub to0 : a' ≡ a ++ for_core 0 out
  pub to1 : b' ≡ b ++ for_core 1 out
  pub to2 : c' ≡ c ++ for_core 2 out
  pub to3 : d' ≡ d ++ for_core 3 out

-- a valid image, a good stimulus and a number of ticks within the bounds, which are those of a run
pub record IsTask (L : Image) (s : Stim) (n : ℕ) (image : Image) (stim : Stim) (ticks : ℕ) : Type 0 where
  pub listing : image ≡ L
  pub valid : Valid image
  pub stimulus : stim ≡ s
  pub good : IsGoodStim stim
  pub length : ticks ≡ n
  pub some : 1 ≤ ticks
  pub few : ticks ≤ 200000

-- core i's part of the run before its first window
pub record StartsAs (L : Image) (s : Stim) (n i : ℕ) (p : Part) : Type 0 where
  pub part : IsPartOf L s n p
  pub number : p.home.number ≡ i
  pub start : p.ran ≡ 0

-- all four cores' parts of the run before its first window
pub record AllStart (L : Image) (s : Stim) (n : ℕ) (p : Parts) : Type 0 where
  pub first : StartsAs L s n 0 p.first
  pub second : StartsAs L s n 1 p.second
  pub third : StartsAs L s n 2 p.third
  pub fourth : StartsAs L s n 3 p.fourth

-- core i's part of the run after k windows, and what its next window needs
pub record IsReady (L : Image) (s : Stim) (n k i : ℕ) (p : Part) (got : List Sending) : Type 0 where
  pub part : IsPartOf L s n p
  pub number : p.home.number ≡ i
  pub ran : p.ran ≡ k
  pub needs : got ≡ batches_to L s n i k

-- the same of all four cores
pub record AreReady (L : Image) (s : Stim) (n k : ℕ) (a b c d : Part) (to0 to1 to2 to3 : List Sending) : Type 0 where
  pub first : IsReady L s n k 0 a to0
  pub second : IsReady L s n k 1 b to1
  pub third : IsReady L s n k 2 c to2
  pub fourth : IsReady L s n k 3 d to3
