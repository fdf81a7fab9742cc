-- What the declared sides stand for.
use Rattle.std.specs.Prelude.{List, map, Option, option_map}
use Rattle.xc_meaning.specs.States.Channels as meaning
use Rattle.xl_ends.specs.declared.sides.Side.{Side}
use Rattle.xl_ends.specs.declared.sides.Side.TheVariants.{First, Second}
use Rattle.xl_ends.specs.Ends.{Sides}

abbrev pub side_of : Side → meaning.Side
side_of First = meaning.first
side_of Second = meaning.second

abbrev pub sides_of : List (Option Side) → Sides
sides_of sides = map (option_map side_of) sides
