-- Which end of a channel some code uses: that of the side in which it stands.
use Rattle.std.specs.Prelude.{ℕ, List, Option, Some, None, slice_get, slice_index_or}
use Rattle.xc_kernel.specs.Plain as kernel
use Rattle.xc_meaning.specs.Settings.Par.{all_begun, codes_of}
use Rattle.xc_meaning.specs.States.Channels.{Side, first, second}
use Rattle.xl_expr.specs.declared.plan.EndPlaces.{EndPlaces}

-- of each channel, by its number, the side in which some code stands, if it stands in one
abbrev pub Sides : Type 0
Sides = List (Option Side)

-- the place of a side's end
abbrev pub place_of : EndPlaces → Side → ℕ
place_of places first = places.first
place_of places second = places.second

-- `end_at`, by cases
abbrev pub end_of_side : Option EndPlaces → Option Side → Option ℕ
end_of_side None side = None
end_of_side (Some places) None = None
end_of_side (Some places) (Some side) = Some (place_of places side)

-- The place of the end that code uses which stands in these sides, by the places of both sides' ends. Code in no side of a channel has
-- no end. The rules on sides say that no such code stands in a checked kernel, so what it would do is never asked.
abbrev pub end_at : (channels : List EndPlaces) → Sides → (channel : ℕ) → Option ℕ
end_at channels sides c = end_of_side (slice_get channels c) (slice_index_or sides c None)

-- the code of each of some branches
abbrev pub codes_in : kernel.Branches → List kernel.Statements
codes_in bs = codes_of (all_begun bs)
