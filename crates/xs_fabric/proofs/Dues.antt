-- What is due on a link.
use Rattle.std.proofs.Common.{◌≡◌, ◌<◌, ◌+◌, ℕ, Bool, true, false, List, [], ◌∷◌, length, Some, None, refl, ap, ◌∙◌, arith}
use Rattle.std.proofs.lemmas.Bool.{lt-leb}
use Rattle.std.specs.Prelude.{slice_get}
use Rattle.xs_instr.specs.declared.state.Item.{Item}
use Rattle.xs_fabric.specs.Lockstep.{due_by, due_of, is_due, late_by, late_of}

pub due_none : (clock : ℕ) (items : List Item) → slice_get items 0 ≡ None → due_of clock items ≡ []
due_none clock [] h = refl
due_none clock (i ∷ items) h = cc

pub due_later : (clock : ℕ) (items : List Item) (i : Item) → slice_get items 0 ≡ Some i → clock < i.tick + 8 → due_of clock items ≡ []
due_later clock [] i h lt = refl
due_later clock (x ∷ items) i h lt =
    let same : x ≡ i = cc in
    let tick = ap (λ (y : Item). y.tick) same in
    ap (due_by x (due_of clock items)) (lt-leb (x.tick + 8) clock (omega (arith, tick, lt)))

-- the first item is due
pub due_first : (clock : ℕ) (i : Item) (items : List Item) → is_due clock i ≡ true → due_of clock (i ∷ items) ≡ i ∷ due_of clock items
due_first clock i items h = ap (due_by i (due_of clock items)) h

pub late_first : (clock : ℕ) (i : Item) (items : List Item) → is_due clock i ≡ true → late_of clock (i ∷ items) ≡ late_of clock items
late_first clock i items h = ap (late_by (i ∷ items) (late_of clock items)) h

-- where nothing is due, all is late
pub late_all : (clock : ℕ) (items : List Item) → due_of clock items ≡ [] → late_of clock items ≡ items
late_all clock [] h = refl
late_all clock (i ∷ items) h = go (is_due clock i) h
  where
    go : (b : Bool) → due_by i (due_of clock items) b ≡ [] → late_by (i ∷ items) (late_of clock items) b ≡ i ∷ items
    go true e = cc
    go false e = refl

-- a link whose first item is due
pub due_step : (clock : ℕ) (old : List Item) (i : Item) (new : List Item) → old ≡ i ∷ new → is_due clock i ≡ true → (due_of clock old ≡ i ∷ due_of clock new) × (late_of clock old ≡ late_of clock new) × (length old ≡ length new + 1)
due_step clock old i new is due = (
  ap (due_of clock) is ∙ due_first clock i new due,
  ap (late_of clock) is ∙ late_first clock i new due,
  ap length is ∙ omega arith,
)

pub ruleset dues = (due_none, due_later)
