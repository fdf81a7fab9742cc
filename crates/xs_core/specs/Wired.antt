-- The ends of a core and their peers.
use Rattle.std.specs.Prelude.{◌≡◌, ◌+◌, ◌<◌, ◌≤◌, ℕ, List, length, slice_get, slice_index_or}
use Rattle.xs_core.specs.declared.state.Peer.{Peer as PeerKept}
use Rattle.xs_core.specs.Room.{level, Tokens, Credits}
use Rattle.xs_instr.specs.declared.image.Pair.{Pair}
use Rattle.xs_instr.specs.declared.state.ChanEnd.{ChanEnd}
use Rattle.xs_instr.specs.Ends.{Peer, peer_of}

-- what is kept of a peer
abbrev pub peer_as : PeerKept → Peer
peer_as p = record { core = p.core; end = p.end }

-- an end's number is below their count, so that this one is never meant
abbrev pub no_peer : PeerKept
no_peer = record { core = 0; end = 0 }

-- the peer that is kept for an end
abbrev pub peer_at : List PeerKept → ℕ → Peer
peer_at peers e = peer_as (slice_index_or peers e no_peer)

-- the peers of so many ends are kept
pub record ArePeers (pairs : List Pair) (number count : ℕ) (peers : List PeerKept) : Type 0 where
  pub one : length peers ≡ count
  pub kept : (e : ℕ) → e < count → peer_at peers e ≡ peer_of pairs number e

-- the peers of a core's ends are kept; one on the same core is there, and its peer is the end itself
pub record IsWired (pairs : List Pair) (number count : ℕ) (peers : List PeerKept) : Type 0 where
  pub one : length peers ≡ count
  pub kept : (e : ℕ) → e < count → peer_at peers e ≡ peer_of pairs number e
  pub there : (e : ℕ) → e < count → (peer_of pairs number e).core ≡ number → (peer_of pairs number e).end < count
  pub back : (e : ℕ) → e < count → (peer_of pairs number e).core ≡ number
      → ((peer_of pairs number (peer_of pairs number e).end).core ≡ number) × ((peer_of pairs number (peer_of pairs number e).end).end ≡ e)

-- the credits of an end and the tokens at its peer on the same core are 8 at most
pub record IsBalanced (pairs : List Pair) (number : ℕ) (ends : List ChanEnd) : Type 0 where
  pub sums : (e : ℕ) → e < length ends → (peer_of pairs number e).core ≡ number
      → level Credits (slice_get ends e) + level Tokens (slice_get ends (peer_of pairs number e).end) ≤ 8
