-- The two sides of a channel: the two branches of the innermost `par` that holds all its uses.
use Rattle.std.specs.Prelude.{ℕ, ◌+◌, Bool, true, false, ◌||◌, List, [], ◌∷◌, Option, Some, None}
use Rattle.xc_kernel.specs.Plain as kernel
use Rattle.xc_kernel.specs.Things.{channel, by_statements}
use Rattle.xc_meaning.specs.States.Channels.{Side, first, second}

-- whether some of these branches uses a channel
abbrev pub one_uses : ℕ → List kernel.Statements → Bool
one_uses c [] = false
one_uses c (b ∷ bs) = by_statements (channel c) b || one_uses c bs

-- By whether a branch uses the channel, one before it does, and one behind it does: where two branches of a `par` use it, the
-- earlier one is its first side. In a `par` of which only one branch uses it, the sides are made further inside.
abbrev pub side_by : (here before behind : Bool) → Option Side
side_by false before behind = None
side_by true true behind = Some second
side_by true false true = Some first
side_by true false false = None

-- A branch stands in the side that its maker is or stands in; else it is the side that its `par` makes it. It keeps that from its
-- birth. A channel that no `par` has in two branches has no sides, and nothing passes on it.
abbrev pub side_in : ℕ → (before : List kernel.Statements) (here : kernel.Statements) (behind : List kernel.Statements) → Option Side → Option Side
side_in c before here behind (Some side) = Some side
side_in c before here behind None = side_by (by_statements (channel c) here) (one_uses c before) (one_uses c behind)

-- the same for each channel from a number on
abbrev pub sides_in : ℕ → (before : List kernel.Statements) (here : kernel.Statements) (behind : List kernel.Statements) → List (Option Side) → List (Option Side)
sides_in c before here behind [] = []
sides_in c before here behind (side ∷ sides) =
    side_in c before here behind side ∷ sides_in (c + 1) before here behind sides
