-- Transactions begin and end in step on both sides.
use Rattle.std.specs.Prelude.{ℕ, Bool, true, false, List, [], ◌∷◌, Option, Some, None}
use Rattle.xw_words.specs.declared.pos.Pos.{Pos}
use Rattle.xc_meaning.specs.States.Channels.{Parcel, opening, closing, taken, Side, other_side}
use Rattle.xc_meaning.specs.States.Items.{Item, awaits}
use Rattle.xc_meaning.specs.States.Worlds.{World, only_if, put, without_parcel}
use Rattle.xc_meaning.specs.Settings.Setting.{Setting, becomes, mismatches}
use Rattle.xc_meaning.specs.Settings.Channels.{on_side, parcel_at, has_room}

-- The branch stands in a transaction, with these items left. Inside a transaction is said of a branch and a channel, and a branch that
-- is made there stands in it too. It stands there no more from the step on that puts or takes the closing.
abbrev pub enters : Setting → (channel : ℕ) → List Item → World
enters s c items = becomes s (record s.branch { items = items; inside = c ∷ s.branch.inside })

abbrev pub without_innermost : List ℕ → List ℕ
without_innermost [] = []
without_innermost (c ∷ cs) = cs

-- it stands in its innermost transaction no more
abbrev pub exits : Setting → List Item → World
exits s items = becomes s (record s.branch { items = items; inside = without_innermost s.branch.inside })

-- a slave takes the opening and answers it
abbrev pub is_opened : Setting → (channel : ℕ) → List Item → Pos → Side → Option Parcel → Option World
is_opened s c items pos side None = None
is_opened s c items pos side (Some opening) = Some (put (without_parcel (enters s c items) c side) c (other_side side) taken)
is_opened s c items pos side (Some parcel) = mismatches s pos

-- a master puts the opening and then waits
abbrev pub opens_by : Bool → Setting → (channel : ℕ) → List Item → Pos → Side → Option World
opens_by true s c items pos side = Some (put (enters s c (awaits c pos ∷ items)) c (other_side side) opening)
opens_by false s c items pos side = is_opened s c items pos side (parcel_at s c side)

-- a transaction begins, with these items inside and behind it
abbrev pub opens : Setting → (channel : ℕ) (is_master : Bool) → List Item → Pos → Option World
opens s c is_master items pos = on_side s c (opens_by is_master s c items pos)

-- a slave takes the closing and answers it
abbrev pub is_closed : Setting → (channel : ℕ) → Pos → Side → Option Parcel → Option World
is_closed s c pos side None = None
is_closed s c pos side (Some closing) = Some (put (without_parcel (exits s s.rest) c side) c (other_side side) taken)
is_closed s c pos side (Some parcel) = mismatches s pos

-- a master puts the closing, where there is room as for a word, and then waits
abbrev pub closes_by : Bool → Setting → (channel : ℕ) → Pos → Side → Option World
closes_by true s c pos side = only_if (has_room s c side) (put (exits s (awaits c pos ∷ s.rest)) c (other_side side) closing)
closes_by false s c pos side = is_closed s c pos side (parcel_at s c side)

-- a transaction ends
abbrev pub closes : Setting → (channel : ℕ) (is_master : Bool) → Pos → Option World
closes s c is_master pos = on_side s c (closes_by is_master s c pos)
