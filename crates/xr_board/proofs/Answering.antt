-- What a cell's turn answers can be an answer of its core.
use Rattle.std.proofs.Common.{◌≡◌, ◌+◌, ◌<◌, ◌≤◌, ℕ, Bool, true, false, List, Option, Some, None, refl, sym, subst, ◌∙◌, arith}
use Rattle.std.specs.Prelude.{◌≢◌, nat_eq}
use Rattle.std.proofs.lemmas.Bool.{eq-eqb}
use Rattle.xr_board.specs.BoardTurns.{CanAnswer, IsAnswer}
use Rattle.xr_board.specs.CellState.{CellState}
use Rattle.xr_board.specs.Inbox.{TwoPlaces, lacking, lacks, lacks_by}
use Rattle.xr_board.specs.declared.board.BoardTurn.{BoardTurn}
use Rattle.xr_board.specs.declared.board.BoardTurn.TheVariants.{Ran, Lacks, AtEnd, Stopped, Memory}
use Rattle.xr_windows.specs.Sending.{Sending}
use Rattle.xr_windows.specs.Windows.{windows_of}
use Rattle.xs_instr.specs.declared.image.Image.{Image}
use Rattle.xs_instr.specs.declared.image.Stim.{Stim}

-- another core than core i, where there is one
abbrev IsOther : ℕ → Option ℕ → Type 0
IsOther i None = Unit {0}
IsOther i (Some j) = (j < 4) × (j ≢ i)

other_by : (i j : ℕ) (rest : Option ℕ) → j < 4 → IsOther i rest → (b : Bool) → nat_eq i j ≡ b → IsOther i (lacks_by j rest b)
other_by i j rest lt is true e = is
other_by i j rest lt is false e = (lt, λ same. absurd (true_false (sym (eq-eqb i j (sym same)) ∙ e)))
  where
    true_false : true ≡ false → ⊥
    true_false h = absurd (cc)

other : (i j : ℕ) (place : Option Sending) (rest : Option ℕ) → j < 4 → IsOther i rest → IsOther i (lacks i j place rest)
other i j (Some b) rest lt is = is
other i j None rest lt is = other_by i j rest lt is (nat_eq i j) refl

other_of : (i from : ℕ) (a b c d : TwoPlaces) → lacking i a b c d ≡ Some from → (from < 4) × (from ≢ i)
other_of i from a b c d e =
    subst (IsOther i) e (other i 0 a.earlier _ (omega arith) (other i 1 b.earlier _ (omega arith) (other i 2 c.earlier _ (omega arith) (other i 3 d.earlier None (omega arith) tt))))

pub can_answer : (L : Image) (s : Stim) (n i : ℕ) (old : CellState) (answer : BoardTurn) (out : List Sending) (new : CellState) → IsAnswer L s n i old answer out new → CanAnswer n i answer
can_answer L s n i old (Ran window) out new h = let is = h.0 in let left = h.1.can.left in omega (arith, is, left)
can_answer L s n i old (Lacks from window) out new h =
    let from_other = other_of i from old.from0 old.from1 old.from2 old.from3 h.1.lacks in
    let is = h.1.before in let left = h.1.can.left in
    (from_other.0, from_other.1, omega (arith, is, left))
can_answer L s n i old AtEnd out new h = tt
can_answer L s n i old Stopped out new h = tt
can_answer L s n i old Memory out new h = tt

-- no run has a window of a greater number
pub window_in_range : (n ran window : ℕ) → n ≤ 200000 → window ≡ ran → ran < windows_of n → window < 25000
window_in_range n ran window few is left = omega (arith, few, is, left)
