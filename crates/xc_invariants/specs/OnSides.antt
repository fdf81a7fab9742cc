-- The cores of channels' sides.
use Rattle.std.specs.Prelude.{◌≡◌, ℕ, IsTrue, cond, List, [], ◌∷◌, Some, None}
use Rattle.xc_kernel.specs.Plain as kernel
use Rattle.xc_kernel.specs.Things.{channel, by_statements}
use Rattle.xc_meaning.specs.States.Branches.{Branch, side_of}
use Rattle.xc_meaning.specs.States.Channels.{Side, first, second}
use Rattle.xc_meaning.specs.Uses.{by_items}

-- the core of the first of some roots that uses a channel; where none does, this one
abbrev pub first_core : (channel otherwise : ℕ) → List kernel.Root → ℕ
first_core c otherwise [] = otherwise
first_core c otherwise (r ∷ rs) = cond (by_statements (channel c) r.body) r.core (first_core c otherwise rs)

-- and of the last one
abbrev pub last_core : (channel otherwise : ℕ) → List kernel.Root → ℕ
last_core c otherwise [] = otherwise
last_core c otherwise (r ∷ rs) = last_core c (cond (by_statements (channel c) r.body) r.core otherwise) rs

-- The core of a side of a channel: that of the first root that uses the channel, or of the last one. Where all is in one root they are
-- the same, and of a channel that no root uses the core means nothing.
abbrev pub side_core : kernel.Kernel → (channel : ℕ) → Side → ℕ
side_core K c first = first_core c 0 K.roots
side_core K c second = last_core c 0 K.roots

-- A branch that stands in a side of a channel is on that side's core, and one that uses the channel and stands in no side of it is on
-- the core of both. Here the cores are any that are given for the sides.
pub record OnItsSide (side_cores : Side → ℕ) (c : ℕ) (b : Branch) : Type 0 where
  pub stands : (s : Side) → side_of b c ≡ Some s → side_cores s ≡ b.core
  pub without : side_of b c ≡ None → IsTrue (by_items (channel c) b.items) → (s : Side) → side_cores s ≡ b.core
