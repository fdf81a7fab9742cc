-- Room for what comes from another core.
use Rattle.std.specs.Prelude.{◌+◌, ◌<◌, ℕ, Bool, true, false, List, length, nat_eq, slice_get}
use Rattle.xs_core.specs.Room.{Kind, Tokens, Credits, level}
use Rattle.xs_instr.specs.declared.image.Home.{Home}
use Rattle.xs_instr.specs.declared.state.ChanEnd.{ChanEnd}
use Rattle.xs_instr.specs.declared.state.Moved.{Moved}
use Rattle.xs_instr.specs.declared.state.Moved.TheVariants.{Tok, Credit}
use Rattle.xs_instr.specs.Ends.{Peer, peer_of}

-- what an end has, counted where it is on this core
abbrev pub level_if : Kind → List ChanEnd → ℕ → Bool → ℕ
level_if k ends e true = level k (slice_get ends e)
level_if k ends e false = 0

-- what an end's peer has, where it is on the same core
abbrev pub level_near : Home → Kind → List ChanEnd → Peer → ℕ
level_near home k ends q = level_if k ends q.end (nat_eq q.core home.number)

-- the end is there, and has fewer than 8, together with what may still come to it from a peer on the same core
pub record HasRoomAt (home : Home) (k near : Kind) (ends : List ChanEnd) (e : ℕ) : Type 0 where
  pub there : e < length ends
  pub room : level k (slice_get ends e) + level_near home near ends (peer_of home.pairs home.number e) < 8

-- Room for what comes from another core. An end whose peer is on the same core has no room for anything from outside.
abbrev pub HasRoomFrom : Home → List ChanEnd → Moved → Type 0
HasRoomFrom home ends (Tok e k) = HasRoomAt home Tokens Credits ends e
HasRoomFrom home ends (Credit e) = HasRoomAt home Credits Tokens ends e
