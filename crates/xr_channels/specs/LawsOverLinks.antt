-- What is always true of channels whose ends are on any cores, in few words.
use Rattle.std.specs.Prelude.{◌≡◌, ◌<◌, ℕ, Bool, true, false, List, [], ◌∷◌, ◌++◌, length, Option, Some, None, slice_get, slice_set}
use Rattle.xs_instr.specs.declared.image.Home.{Home}
use Rattle.xs_instr.specs.declared.image.Image.{Image}
use Rattle.xs_instr.specs.declared.image.Pair.{Pair}
use Rattle.xs_instr.specs.declared.image.Stim.{Stim}
use Rattle.xs_instr.specs.declared.instr.Reg.{Reg}
use Rattle.xs_instr.specs.declared.state.ChanEnd.{ChanEnd}
use Rattle.xs_instr.specs.declared.state.CoreState.{CoreState}
use Rattle.xs_instr.specs.declared.state.Sent.{Sent}
use Rattle.xs_instr.specs.declared.state.Thread.{Thread}
use Rattle.xs_instr.specs.declared.trace.Record.{Record}
use Rattle.xs_instr.specs.declared.state.Token.{Token}
use Rattle.xs_instr.specs.Did.{Made}
use Rattle.xs_instr.specs.Ends.{outs, ins_word, ins_byte, ins_control, word_tokens}
use Rattle.xs_instr.specs.Machine.{Machine, Move, boot, does, link_of, on_links}
use Rattle.xs_instr.specs.Valid.{Valid}
use Rattle.xc_meaning.specs.States.Channels.{Parcel, offer, opening, word, closing, taken, Side, Inboxes}
use Rattle.xr_channels.specs.Phases.{END, ACK, OPEN, Question, offers, opens, closes, between, sends_end, awaits_ack, checks_end, sends_ack, was_closed, streams, side_state}
use Rattle.xr_channels.specs.ChannelSteps.{parcels, moved_to, LateKind, is_answer, is_opening, is_closing, is_offer, is_sent_word}
use Rattle.xr_channels.specs.Channels.{Links, ends_in, end_of_side, Ghosts, start_ghosts, IsWired}
use Rattle.xr_channels.specs.Balance.{Local}
use Rattle.xr_channels.specs.CreditsOverLinks.{BalancedOverLinks}
use Rattle.xr_channels.specs.ChannelsOverLinks.{ChannelsOverLinks, Delivered}
use Rattle.xr_channels.specs.SideRows.{IsSideEnd, SideEnd, StandsAt, late_now, Finds, with_parcel, without_first, answered, as_before, SendRow, SentNext, Begins, InputRow, CheckRow, EndCheckRow}

-- Where a machine and a program start, with an inbox for each channel and nothing in any, nothing stands between any sides.
abbrev pub ChannelsBeginOverLinks : Type 0
ChannelsBeginOverLinks =
    (L : Image) (streaming : ℕ → Bool) (inboxes : List Inboxes) → Valid L →
    ((k : ℕ) (side : Side) → parcels inboxes k side ≡ []) →
    ((k : ℕ) (p : Pair) → slice_get L.chans k ≡ Some p → k < length inboxes) →
    ChannelsOverLinks L.chans (boot L).cores (boot L).links inboxes (start_ghosts streaming)

-- A step that leaves the ends of all cores, as a tick and a trap do, keeps what stands between the sides of channels.
abbrev pub OthersKeepChannels : Type 0
OthersKeepChannels =
    (pairs : List Pair) (cores cores' : List CoreState) (links : Links) (inboxes : List Inboxes) (g : Ghosts) →
    ((c : ℕ) → ends_in (slice_get cores' c) ≡ ends_in (slice_get cores c)) →
    ChannelsOverLinks pairs cores links inboxes g → ChannelsOverLinks pairs cores' links inboxes g

-- What comes over a link keeps what stands between the sides of channels, with what the program does then.
abbrev pub DeliveriesAreFollowed : Type 0
DeliveriesAreFollowed =
    (L : Image) (s : Stim) → Valid L → (m m' : Machine) (a b : ℕ) → does L s m (Move a b) ≡ Some m' →
    (inboxes : List Inboxes) (g : Ghosts) → ChannelsOverLinks L.chans m.cores m.links inboxes g →
    Delivered L.chans a b m'.cores m'.links inboxes g

-- no link has an item
abbrev pub AreEmpty : Links → Type 0
AreEmpty links = (a b : ℕ) → link_of links a b ≡ []

-- Where no delivery can happen, nothing is on any link.
abbrev pub NoMoveIsQuiet : Type 0
NoMoveIsQuiet =
    (L : Image) (s : Stim) (m : Machine) → BalancedOverLinks L.chans m.cores m.links →
    ((a b : ℕ) → does L s m (Move a b) ≡ None) → AreEmpty m.links

-- Where nothing is on any link nothing is late.
abbrev pub QuietIsOnTime : Type 0
QuietIsOnTime =
    (pairs : List Pair) → IsWired pairs → (cores : List CoreState) (links : Links) (inboxes : List Inboxes) (g : Ghosts) →
    ChannelsOverLinks pairs cores links inboxes g → AreEmpty links →
    (k : ℕ) (p : Pair) (side : Side) → slice_get pairs k ≡ Some p → g.late k side ≡ []

-- And what stands is what stands within cores.
abbrev pub QuietIsLocal : Type 0
QuietIsLocal =
    (pairs : List Pair) → IsWired pairs → (cores : List CoreState) (links : Links) (inboxes : List Inboxes) (g : Ghosts) →
    ChannelsOverLinks pairs cores links inboxes g → AreEmpty links → Local pairs cores inboxes g

-- A row sends tokens from an end or takes some there: these ends are left, and this is sent over links.
pub data UsesEnd (home : Home) (core : CoreState) (e : ℕ) (end : ChanEnd) (ends : List ChanEnd) (sent : List Sent) : Type 0 where
  sends : (ks : List Token) → outs home core.clock ks core.ends e end ≡ Made ends None sent → UsesEnd home core e end ends sent
  takes_word : (v : ℕ) (r : Option Record) →
      ins_word home core.clock core.ends e end ≡ Made (record { left = ends; value = v }) r sent →
      UsesEnd home core e end ends sent
  takes_byte : (v : ℕ) (r : Option Record) →
      ins_byte home core.clock core.ends e end ≡ Made (record { left = ends; value = v }) r sent →
      UsesEnd home core e end ends sent
  takes_control : (n : ℕ) (r : Option Record) → ins_control home core.clock n core.ends e end ≡ Made ends r sent →
      UsesEnd home core e end ends sent

-- Each such row on the end of a side keeps the law of credits, wherever the other end is.
abbrev pub RowsKeepCredits : Type 0
RowsKeepCredits =
    (pairs : List Pair) → IsWired pairs → (cores : List CoreState) (links : Links) → BalancedOverLinks pairs cores links →
    (k : ℕ) (p : Pair) (side : Side) (home : Home) (core : CoreState) (end : ChanEnd) →
    IsSideEnd pairs cores k p side home core end → (left : CoreState) (sent : List Sent) →
    UsesEnd home core (end_of_side p side).end end left.ends sent →
    BalancedOverLinks pairs (slice_set cores (end_of_side p side).core left) (on_links links (end_of_side p side).core sent)

-- The rows of an output and of an input, outside transactions.
pub record TransferRows (at : SideEnd) (t : ℕ) (thread : Thread) : Type 0 where
  -- OUT: the offer is put, or late
  pub out : (v : ℕ) → StandsAt at (side_state between false) →
      SendRow at t thread (word_tokens v)
      (Begins at t thread (word_tokens v) (offer v) (side_state (sends_end v) false) (side_state (sends_end v) false) (offer v ∷ []))
  -- OUTCT END: nothing in the program
  pub out_end : (v : ℕ) (i : Bool) → StandsAt at (side_state (sends_end v) i) →
      SendRow at t thread (END ∷ [])
      (SentNext at t thread (END ∷ []) at.boxes (side_state (awaits_ack (offers v)) i) (late_now at))
  -- CHKCT ACK: the answer is taken
  pub check_ack : (v : ℕ) (i : Bool) → StandsAt at (side_state (awaits_ack (offers v)) i) →
      CheckRow at t thread 3 taken is_answer (without_first at) (side_state between i)
  -- IN: the offer is taken and answered
  pub in_offer : (d : Reg) → StandsAt at (side_state between false) →
      InputRow at t thread d offer is_offer (answered at) (side_state checks_end false) []
  -- CHKCT END: nothing in the program
  pub check_end : (i : Bool) → StandsAt at (side_state checks_end i) → EndCheckRow at t thread (side_state sends_ack i)
  -- OUTCT ACK: nothing in the program
  pub out_ack : (i : Bool) → StandsAt at (side_state sends_ack i) →
      SendRow at t thread (ACK ∷ []) (SentNext at t thread (ACK ∷ []) at.boxes (side_state between i) [])

-- The rows of a transaction: of a master, of a slave, and of an output and an input inside.
pub record TransactionRows (at : SideEnd) (t : ℕ) (thread : Thread) : Type 0 where
  -- a master's OUTCT OPEN: the opening is put, or late
  pub out_open : StandsAt at (side_state between false) →
      SendRow at t thread (OPEN ∷ [])
      (Begins at t thread (OPEN ∷ []) opening (side_state (awaits_ack opens) true) (side_state (awaits_ack opens) false) (opening ∷ []))
  -- a slave's CHKCT OPEN: it is taken and answered
  pub check_open : StandsAt at (side_state between false) →
      CheckRow at t thread 16 opening is_opening (answered at) (side_state sends_ack true)
  -- the OUTCT ACK behind it is that of an input; a master's CHKCT ACK, at its start and its end: the answer is taken
  pub check_ack : (q : Question) (i : Bool) → StandsAt at (side_state (awaits_ack q) i) →
      CheckRow at t thread 3 taken is_answer (without_first at) (side_state between i)
  -- OUT inside: the word is put
  pub out_word : (v : ℕ) → StandsAt at (side_state between true) →
      SendRow at t thread (word_tokens v) (SentNext at t thread (word_tokens v) (with_parcel at (word v)) (side_state between true) [])
  -- IN inside: it is taken
  pub in_word : (d : Reg) → StandsAt at (side_state between true) →
      InputRow at t thread d word is_sent_word (without_first at) (side_state between true) []
  -- a master's OUTCT END: the closing is put
  pub out_end : StandsAt at (side_state between true) →
      SendRow at t thread (END ∷ [])
      (SentNext at t thread (END ∷ []) (with_parcel at closing) (side_state (awaits_ack closes) false) [])
  -- a slave's CHKCT END: nothing in the program yet
  pub check_end : StandsAt at (side_state between true) →
      CheckRow at t thread 1 closing is_closing (as_before at) (side_state was_closed true)
  -- and its OUTCT ACK: the closing is taken and answered
  pub out_ack : (ps : List Parcel) → StandsAt at (side_state was_closed true) → Finds at (closing ∷ ps) →
      SendRow at t thread (ACK ∷ []) (SentNext at t thread (ACK ∷ []) (answered at ps) (side_state between false) [])

-- The rows on a streaming channel.
pub record StreamRows (at : SideEnd) (t : ℕ) (thread : Thread) : Type 0 where
  -- OUT: the word is put, or late
  pub out : (v : ℕ) → StandsAt at (side_state streams true) →
      SendRow at t thread (word_tokens v)
      (Begins at t thread (word_tokens v) (word v) (side_state streams true) (side_state streams true) (late_now at ++ word v ∷ []))
  -- IN: it is taken
  pub in_word : (d : Reg) → StandsAt at (side_state streams true) →
      InputRow at t thread d word is_sent_word (without_first at) (side_state streams true) (late_now at)

-- Each row of these pauses, goes on or traps, and keeps what stands between the sides of all channels, wherever the other end is.
abbrev pub TransfersAreFollowed : Type 0
TransfersAreFollowed = (at : SideEnd) (t : ℕ) (thread : Thread) → TransferRows at t thread

abbrev pub TransactionsAreFollowed : Type 0
TransactionsAreFollowed = (at : SideEnd) (t : ℕ) (thread : Thread) → TransactionRows at t thread

abbrev pub StreamsAreFollowed : Type 0
StreamsAreFollowed = (at : SideEnd) (t : ℕ) (thread : Thread) → StreamRows at t thread

-- A side awaits an answer, and finds another parcel first: then what is late of what it asked is put, while the machine stands still.
abbrev pub TrapsPut : Type 0
TrapsPut =
    (at : SideEnd) (q : Question) (i : Bool) (x : Parcel) (rest : List Parcel) (y : Parcel) (ps : List Parcel) →
    StandsAt at (side_state (awaits_ack q) i) → late_now at ≡ x ∷ rest → Finds at (y ∷ ps) → is_answer y ≡ false →
    (then_inside : Bool) × LateKind (awaits_ack q) i x rest then_inside ×
    ChannelsOverLinks at.pairs at.cores at.links (with_parcel at x)
    (moved_to at.ghosts at.line at.side (side_state (awaits_ack q) then_inside) rest)
