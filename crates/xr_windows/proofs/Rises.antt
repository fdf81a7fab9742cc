-- A part's records rise.
use Rattle.std.proofs.Common.{ℕ, zero, suc, ◌+◌, ◌≤◌, List, [], ◌∷◌, ◌++◌, arith}
use Rattle.xr_windows.specs.Alone.{stamped}
use Rattle.xr_windows.specs.Rising.{Rising}
use Rattle.xr_windows.specs.Windows.{made_between, part_after}
use Rattle.xr_windows.specs.declared.stamped.Stamped.{Stamped}
use Rattle.xs_instr.specs.declared.image.Image.{Image}
use Rattle.xs_instr.specs.declared.image.Stim.{Stim}
use Rattle.xs_instr.specs.declared.trace.Record.{Record}

-- no tick is above m
abbrev pub UpTo : ℕ → List Stamped → Type 0
UpTo m [] = Unit {0}
UpTo m (r ∷ rs) = (r.tick ≤ m) × UpTo m rs

up_more : (m k : ℕ) (rs : List Stamped) → m ≤ k → UpTo m rs → UpTo k rs
up_more m k [] le up = tt
up_more m k (r ∷ rs) le up = (let h = up.0 in omega arith, up_more m k rs le up.1)

up_stamped : (m u : ℕ) (rs : List Record) → u ≤ m → UpTo m (stamped u rs)
up_stamped m u [] le = tt
up_stamped m u (r ∷ rs) le = (le, up_stamped m u rs le)

up_append : (m : ℕ) (xs ys : List Stamped) → UpTo m xs → UpTo m ys → UpTo m (xs ++ ys)
up_append m [] ys a b = b
up_append m (x ∷ xs) ys a b = (a.0, up_append m xs ys a.1 b)

rises_stamped : (j u : ℕ) (rs : List Record) → j ≤ u → Rising j (stamped u rs)
rises_stamped j u [] le = tt
rises_stamped j u (r ∷ rs) le = (le, rises_stamped u u rs (omega arith))

rises_append : (j u : ℕ) (xs : List Stamped) (rs : List Record) → Rising j xs → UpTo u xs → j ≤ u → Rising j (xs ++ stamped u rs)
rises_append j u [] rs rise up le = rises_stamped j u rs le
rises_append j u (x ∷ xs) rs rise up le = (rise.0, rises_append x.tick u xs rs rise.1 up.1 up.0)

-- the records of the first n rounds rise, up to n
pub made_rises : (L : Image) (s : Stim) (i n : ℕ) → Rising 1 (made_between L s i 0 n) × UpTo n (made_between L s i 0 n)
unfolding made_between
made_rises L s i zero = (tt, tt)
made_rises L s i (suc n) =
    let h = made_rises L s i n in
    let u : ℕ = 0 + n + 1 in
    let le : u ≤ suc n = omega arith in (
      rises_append 1 u (made_between L s i 0 n) (part_after L s (0 + n) i).made h.0 (up_more n u _ (omega arith) h.1) (omega arith),
      up_append (suc n) (made_between L s i 0 n) (stamped u (part_after L s (0 + n) i).made) (up_more n (suc n) _ (omega arith) h.1) (up_stamped (suc n) u _ le),
    )
