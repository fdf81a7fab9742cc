-- The next item of what is on its way from a core.
use Rattle.std.proofs.Common.{◌≡◌, ◌≤◌, ◌<◌, ◌+◌, ◌-◌, ℕ, suc, List, [], ◌∷◌, length, get_or, drop, take, sym, ap, ◌∙◌, add-one, drop-cons, arith}
use Rattle.std.specs.List.{copy_within}
use Rattle.std.proofs.lemmas.Bool.{le-leb, lt-leb}
use Rattle.std.proofs.lemmas.List.{length-drop}
use Rattle.std.proofs.Math.Seq.{take-length}
use Rattle.std.proofs.lemmas.List.Edits.{take-paste}
use Rattle.xs_instr.specs.declared.state.Item.{Item}
use Rattle.xs_fabric.specs.Lockstep.{due_by, due_of, late_by, late_of}

-- it is due
pub due_more : (clock : ℕ) (items : List Item) (k : ℕ) (d : Item) → k < length items → (get_or items k d).tick + 8 ≤ clock → due_of clock (drop k items) ≡ get_or items k d ∷ due_of clock (drop (k + 1) items)
due_more clock items k d lt le =
    rw (add-one, drop-cons items k d lt) (ap (due_by (get_or items k d) (due_of clock (drop (suc k) items))) (le-leb ((get_or items k d).tick + 8) clock le))

pub late_more : (clock : ℕ) (items : List Item) (k : ℕ) (d : Item) → k < length items → (get_or items k d).tick + 8 ≤ clock → late_of clock (drop k items) ≡ late_of clock (drop (k + 1) items)
late_more clock items k d lt le =
    rw (add-one, drop-cons items k d lt) (ap (late_by (get_or items k d ∷ drop (suc k) items) (late_of clock (drop (suc k) items))) (le-leb ((get_or items k d).tick + 8) clock le))

-- it isn't
pub due_none : (clock : ℕ) (items : List Item) (k : ℕ) (d : Item) → k < length items → clock < (get_or items k d).tick + 8 → due_of clock (drop k items) ≡ []
due_none clock items k d lt le =
    rw (drop-cons items k d lt) (ap (due_by (get_or items k d) (due_of clock (drop (suc k) items))) (lt-leb ((get_or items k d).tick + 8) clock le))

pub late_all_left : (clock : ℕ) (items : List Item) (k : ℕ) (d : Item) → k < length items → clock < (get_or items k d).tick + 8 → late_of clock (drop k items) ≡ drop k items
late_all_left clock items k d lt le =
    rw (drop-cons items k d lt) (ap (late_by (get_or items k d ∷ drop (suc k) items) (late_of clock (drop (suc k) items))) (lt-leb ((get_or items k d).tick + 8) clock le))

pub ruleset dues = (due_more, late_more, due_none, late_all_left)

-- what is left after a copy of the rest to the front
pub forgotten : (items : List Item) (k : ℕ) → k ≤ length items → take (length items - k) (copy_within items k (length items) 0) ≡ drop k items
forgotten items k le =
    let n : length (drop k items) ≡ length items - k = length-drop k items in
    let none : length items - k ≡ 0 + (length items - k) = omega arith in
    ap (λ m. take m (copy_within items k (length items) 0)) none
    ∙ take-paste items 0 (drop k items) (length items - k) (omega arith) (omega (arith, n))
    ∙ ap (λ m. take m (drop k items)) (sym n)
    ∙ take-length (drop k items)

pub ruleset forgets = (forgotten)
