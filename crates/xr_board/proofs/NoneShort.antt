-- Where no core is short, each has run its last window.
use Rattle.std.proofs.Common.{◌≡◌, ℕ, Bool, true, false, Option, Some, None, refl, sym, subst}
use Rattle.std.specs.Prelude.{nat_eq}
use Rattle.std.proofs.lemmas.Bool.{eqb-true}
use Rattle.xr_board.specs.CellState.{CellState, IsCell}
use Rattle.xr_board.specs.Gathers.{or_else, short_of}
use Rattle.xr_board.specs.Short.{short_by, short_in}
use Rattle.xr_windows.specs.Parts.{IsLast, Standing as Part}
use Rattle.xr_windows.specs.Windows.{windows_of}
use Rattle.xs_instr.specs.declared.image.Image.{Image}
use Rattle.xs_instr.specs.declared.image.Stim.{Stim}

-- no core is short
pub record NoneIs (x y z w : Option ℕ) : Type 0 where
  pub first : x ≡ None
  pub second : y ≡ None
  pub third : z ≡ None
  pub fourth : w ≡ None

none_by : (x y z w : Option ℕ) → or_else 0 x (or_else 1 y (or_else 2 z (or_else 3 w None))) ≡ None → NoneIs x y z w
none_by None None None None e = record { first = refl; second = refl; third = refl; fourth = refl }
none_by None None None (Some v) e = absurd (cc)
none_by None None (Some v) w e = absurd (cc)
none_by None (Some v) z w e = absurd (cc)
none_by (Some v) y z w e = absurd (cc)

pub none_short : (n a b c d : ℕ) → short_of n a b c d ≡ None → NoneIs (short_in n a) (short_in n b) (short_in n c) (short_in n d)
none_short n a b c d e = none_by (short_in n a) (short_in n b) (short_in n c) (short_in n d) e

all_by : (n r : ℕ) (b : Bool) → nat_eq r (windows_of n) ≡ b → short_by r b ≡ None → r ≡ windows_of n
all_by n r true same e = eqb-true r (windows_of n) same
all_by n r false same e = absurd (cc)

-- the part of such a cell has run all windows
pub last_of : (L : Image) (s : Stim) (n i : ℕ) (c : CellState) (p : Part) → IsCell L s n i c → p ≡ c.part → short_in n c.part.ran ≡ None → IsLast L s n i p
last_of L s n i c p h e none =
    subst (λ (q : Part). IsLast L s n i q) (sym e)
    (record { part = h.part; number = h.number; all = all_by n c.part.ran (nat_eq c.part.ran (windows_of n)) refl none })
