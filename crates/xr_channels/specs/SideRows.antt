-- The rows on the end of a side of a channel, wherever the other end is: what a row does, and what then stands between the sides.
use Rattle.std.specs.Prelude.{◌≡◌, ◌<◌, ℕ, Bool, false, List, [], ◌∷◌, ◌++◌, length, Some, None, nat_le, slice_get, slice_set}
use Rattle.xs_instr.specs.declared.image.Home.{Home}
use Rattle.xs_instr.specs.declared.image.Pair.{Pair}
use Rattle.xs_instr.specs.declared.instr.Reg.{Reg}
use Rattle.xs_instr.specs.declared.state.ChanEnd.{ChanEnd}
use Rattle.xs_instr.specs.declared.state.CoreState.{CoreState}
use Rattle.xs_instr.specs.declared.state.Sent.{Sent}
use Rattle.xs_instr.specs.declared.state.Thread.{Thread}
use Rattle.xs_instr.specs.declared.state.Token.{Token}
use Rattle.xs_instr.specs.declared.trace.Record.TheVariants.{Com}
use Rattle.xs_instr.specs.declared.trace.Trap.TheVariants.{Mismatch}
use Rattle.xs_instr.specs.Did.{Did, Made, Paused, Traps, map_did}
use Rattle.xs_instr.specs.Ends.{Peer, peer_of, Gone, outs, tokens_go, tokens_taken, ins_word, ins_control, take_word, NotYet, given_ends}
use Rattle.xs_instr.specs.Machine.{on_links}
use Rattle.xs_instr.specs.Rows.{goes_with, gets_with, put_ends}
use Rattle.xc_meaning.specs.States.Channels.{Parcel, taken, Side, other_side, Inboxes}
use Rattle.xr_channels.specs.Phases.{SideState}
use Rattle.xr_channels.specs.ChannelSteps.{parcels, boxed, put_at, moved_to}
use Rattle.xr_channels.specs.Channels.{Links, end_of_side, Ghosts, IsWired}
use Rattle.xr_channels.specs.ChannelsOverLinks.{ChannelsOverLinks}

-- A core's row on the end of a side of a channel.
pub record IsSideEnd (pairs : List Pair) (cores : List CoreState) (k : ℕ) (p : Pair) (side : Side) (home : Home)
    (core : CoreState) (end : ChanEnd) : Type 0 where
  pub channel : slice_get pairs k ≡ Some p
  pub number : home.number ≡ (end_of_side p side).core
  pub same_pairs : home.pairs ≡ pairs
  pub at_core : slice_get cores (end_of_side p side).core ≡ Some core
  pub at_end : slice_get core.ends (end_of_side p side).end ≡ Some end

-- Such an end, and what stands between the sides of all channels: what each of its rows is told of.
pub record SideEnd : Type 0 where
  pub pairs : List Pair
  pub wired : IsWired pairs
  pub cores : List CoreState
  pub links : Links
  pub boxes : List Inboxes
  pub ghosts : Ghosts
  pub over : ChannelsOverLinks pairs cores links boxes ghosts
  pub line : ℕ
  pub pair : Pair
  pub side : Side
  pub home : Home
  pub core : CoreState
  pub end : ChanEnd
  pub is_end : IsSideEnd pairs cores line pair side home core end

module _ (side_end : SideEnd) where
  open side_end use {pairs, cores, links, boxes, ghosts as g, line as k, pair as p, side, home, core, end}

  -- the core and the end, the other side and the peer
  abbrev pub c : ℕ
  c = (end_of_side p side).core

  abbrev pub e : ℕ
  e = (end_of_side p side).end

  abbrev pub other : Side
  other = other_side side

  abbrev pub q : Peer
  q = peer_of home.pairs home.number e

  -- the other end is on the core
  abbrev pub IsWithin : Type 0
  IsWithin = (end_of_side p other).core ≡ c

  -- the side stands so, and this is late to the other
  abbrev pub StandsAt : SideState → Type 0
  StandsAt s = g.side_states k side ≡ s

  abbrev pub late_now : List Parcel
  late_now = g.late k other

  -- these are in its inbox
  abbrev pub Finds : List Parcel → Type 0
  Finds ps = parcels boxes k side ≡ ps

  -- a parcel is put at the other side
  abbrev pub with_parcel : Parcel → List Inboxes
  with_parcel x = put_at boxes k other x

  -- an inbox without its first parcel
  abbrev pub without_first : List Parcel → List Inboxes
  without_first ps = boxed boxes k side ps

  -- and with an answer at the other side
  abbrev pub answered : List Parcel → List Inboxes
  answered ps = boxed (boxed boxes k side ps) k other (parcels boxes k other ++ taken ∷ [])

  -- no inbox changes
  abbrev pub as_before : List Parcel → List Inboxes
  as_before ps = boxes

  -- What a row leaves: as many ends as before, and the channels with what it sent, these inboxes, the side there, and this late.
  pub record Next (left : CoreState) (sent : List Sent) (boxes' : List Inboxes) (s : SideState) (late : List Parcel) : Type 0 where
    pub size : length left.ends ≡ length core.ends
    pub over : ChannelsOverLinks pairs (slice_set cores c left) (on_links links c sent) boxes' (moved_to g k side s late)

  -- A thread of the core.
  module _ (t : ℕ) (thread : Thread) where
    -- OUT and OUTCT: tokens go out.
    module _ (ks : List Token) where
      -- what the row leaves, and what it does
      abbrev pub sent_gone : Gone
      sent_gone = tokens_go home core.clock core.ends e end ks q

      abbrev pub sent_left : CoreState
      sent_left = goes_with put_ends core t thread sent_gone.ends

      abbrev pub sent_did : Did CoreState
      sent_did = map_did (goes_with put_ends core t thread) (outs home core.clock ks core.ends e end)

      -- There are too few credits; or the row goes on, and so stands then.
      pub data SendRow (Then : Type 0) : Type 0 where
        sends_pauses : sent_did ≡ Paused → nat_le (length ks) end.credits ≡ false → SendRow Then
        sends_makes : sent_did ≡ Made sent_left None sent_gone.sent → Then → SendRow Then

      -- what stands then
      abbrev pub SentNext : List Inboxes → SideState → List Parcel → Type 0
      SentNext boxes' s late = Next sent_left sent_gone.sent boxes' s late

      -- What is sent begins a parcel. To an end on the core it is put at once, and to one on another core it is late.
      pub data Begins (x : Parcel) (put not_yet : SideState) (late : List Parcel) : Type 0 where
        is_put : IsWithin → SentNext (with_parcel x) put [] → Begins x put not_yet late
        is_late : (IsWithin → ⊥) → SentNext boxes not_yet late → Begins x put not_yet late

    -- IN and CHKCT: tokens are taken, and this is left of the ends, with the credits that go back.
    abbrev pub taken_gone : ℕ → Gone
    taken_gone n = tokens_taken home core.clock core.ends e end n q

    -- what IN leaves, and what it does
    abbrev pub in_left : Reg → ℕ → CoreState
    in_left d v = gets_with put_ends core t thread d (given_ends (taken_gone 4) v)

    abbrev pub in_did : Reg → Did CoreState
    in_did d = map_did (gets_with put_ends core t thread d) (ins_word home core.clock core.ends e end)

    -- Too few tokens are there; or the word of the parcel that stood first, which is recorded; or another parcel stood first.
    pub data InputRow (d : Reg) (given : ℕ → Parcel) (wanted : Parcel → Bool) (boxes' : List Parcel → List Inboxes)
        (s : SideState) (late : List Parcel) : Type 0 where
      inputs_pauses : in_did d ≡ Paused → take_word end.tokens ≡ NotYet → length end.tokens < 4 →
          InputRow d given wanted boxes' s late
      inputs_makes : (v : ℕ) (ps : List Parcel) →
          in_did d ≡ Made (in_left d v) (Some (Com home.number v)) (taken_gone 4).sent → Finds (given v ∷ ps) →
          Next (in_left d v) (taken_gone 4).sent (boxes' ps) s late → InputRow d given wanted boxes' s late
      inputs_traps : (x : Parcel) (ps : List Parcel) → in_did d ≡ Traps Mismatch → Finds (x ∷ ps) → wanted x ≡ false →
          InputRow d given wanted boxes' s late

    -- what CHKCT leaves, and what it does
    abbrev pub check_left : CoreState
    check_left = goes_with put_ends core t thread (taken_gone 1).ends

    abbrev pub check_did : ℕ → Did CoreState
    check_did n = map_did (goes_with put_ends core t thread) (ins_control home core.clock n core.ends e end)

    -- No token is there; or the awaited parcel stood first, and nothing is late then; or another one did.
    pub data CheckRow (n : ℕ) (given : Parcel) (wanted : Parcel → Bool) (boxes' : List Parcel → List Inboxes)
        (s : SideState) : Type 0 where
      checks_pauses : check_did n ≡ Paused → end.tokens ≡ [] → CheckRow n given wanted boxes' s
      checks_makes : (ps : List Parcel) → check_did n ≡ Made check_left None (taken_gone 1).sent → Finds (given ∷ ps) →
          Next check_left (taken_gone 1).sent (boxes' ps) s [] → CheckRow n given wanted boxes' s
      checks_traps : (x : Parcel) (ps : List Parcel) → check_did n ≡ Traps Mismatch → Finds (x ∷ ps) → wanted x ≡ false →
          CheckRow n given wanted boxes' s

    -- CHKCT END of a plain input: it waits or passes, and never traps.
    pub data EndCheckRow (s : SideState) : Type 0 where
      end_pauses : check_did 1 ≡ Paused → end.tokens ≡ [] → EndCheckRow s
      end_makes : check_did 1 ≡ Made check_left None (taken_gone 1).sent → Next check_left (taken_gone 1).sent boxes s [] →
          EndCheckRow s
