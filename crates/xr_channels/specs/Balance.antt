-- The credits of channels, while nothing is on a link.
use Rattle.std.specs.Prelude.{◌≡◌, ◌<◌, ◌+◌, ℕ, List, length, Option, Some, None, slice_get}
use Rattle.xs_instr.specs.declared.image.Pair.{Pair}
use Rattle.xs_instr.specs.declared.state.ChanEnd.{ChanEnd}
use Rattle.xs_instr.specs.declared.state.CoreState.{CoreState}
use Rattle.xs_instr.specs.Ends.{Peer}
use Rattle.xs_instr.specs.Machine.{no_links}
use Rattle.xc_meaning.specs.States.Channels.{Side, other_side, Inboxes}
use Rattle.xr_channels.specs.Channels.{ends_in, tokens_at, end_of_side, Ghosts, Channels}

-- `credits_at`, by cases
abbrev pub credits_in : Option ChanEnd → ℕ
credits_in None = 0
credits_in (Some end) = end.credits

-- the credits at an end
abbrev pub credits_at : List CoreState → (core end : ℕ) → ℕ
credits_at cores c e = credits_in (slice_get (ends_in (slice_get cores c)) e)

-- How many tokens an end may still send, and how many of its tokens stand at another, are eight together.
abbrev pub IsEight : List CoreState → (here there : Peer) → Type 0
IsEight cores here there = credits_at cores here.core here.end + length (tokens_at cores there.core there.end) ≡ 8

-- the law of credits, which holds while no token and no credit is on a link
pub record Balanced (pairs : List Pair) (cores : List CoreState) : Type 0 where
  -- each side of a channel has its end
  pub ends : (k : ℕ) (p : Pair) (side : Side) → slice_get pairs k ≡ Some p →
      (end_of_side p side).end < length (ends_in (slice_get cores (end_of_side p side).core))
  pub eight : (k : ℕ) (p : Pair) (side : Side) → slice_get pairs k ≡ Some p →
      IsEight cores (end_of_side p side) (end_of_side p (other_side side))

-- What stands between the sides of channels while no link has an item.
pub record Local (pairs : List Pair) (cores : List CoreState) (inboxes : List Inboxes) (g : Ghosts) : Type 0 where
  pub wires : Channels pairs cores no_links inboxes g
  pub balanced : Balanced pairs cores
