-- Where the two sides of a channel stand in their pieces of code, and what is then between them: tokens at an end and on a link, and
-- parcels in an inbox. Of a side, by its phase:
--
--   phase          where it stands                    still sends   still takes   has taken   has asked   may still put
--   between        in no piece
--   sends_end v    behind OUT of an output            END                                     offers v    its offer
--   awaits_ack q   before CHKCT ACK                                                           q           its offer or opening
--   checks_end     behind IN of an input              ACK           END
--   sends_ack      behind CHKCT END or CHKCT OPEN     ACK
--   was_closed     behind CHKCT END of a slave's end                              END
--   streams        always, on a streaming channel                                                         its words
--
-- The columns are `unsent`, `unread`, `ahead`, `asked` and `LateBy` below.
use Rattle.std.specs.Prelude.{◌≡◌, ◌⊎◌, ℕ, suc, Bool, true, false, not, List, [], ◌∷◌, ◌++◌, length}
use Rattle.xs_instr.specs.declared.state.Token.{Token}
use Rattle.xs_instr.specs.Ends.{word_tokens, control_token}
use Rattle.xc_meaning.specs.States.Channels.{Parcel, offer, opening, word, closing, taken}

-- the control tokens of the protocols
abbrev pub END : Token
END = control_token 1

abbrev pub ACK : Token
ACK = control_token 3

abbrev pub OPEN : Token
OPEN = control_token 16

-- what waits for an answer
pub data Question : Type 0 where
  offers : (v : ℕ) → Question
  opens : Question
  closes : Question

-- its parcel
abbrev pub parcel_of : Question → Parcel
parcel_of (offers v) = offer v
parcel_of opens = opening
parcel_of closes = closing

-- Where a side stands. Transactions and streaming channels have their phases, though the simulation doesn't have them yet: the
-- relation is stated for all, so that nothing of it has to be proved again.
pub data Phase : Type 0 where
  -- in no piece on the channel
  between : Phase
  -- a plain output behind its OUT
  sends_end : (v : ℕ) → Phase
  -- an output, a master's start or a master's end before its CHKCT ACK
  awaits_ack : Question → Phase
  -- a plain input behind its IN
  checks_end : Phase
  -- a plain input behind its CHKCT END, or a slave's start behind its CHKCT OPEN
  sends_ack : Phase
  -- a slave's end behind its CHKCT END
  was_closed : Phase
  -- a side of a streaming channel, always
  streams : Phase

-- a side: where it stands, and whether its branch is inside a transaction on the channel; a side of a streaming channel always is
pub record SideState : Type 0 where
  pub phase : Phase
  pub inside : Bool

abbrev pub side_state : Phase → Bool → SideState
side_state phase inside = record { phase = phase; inside = inside }

-- the tokens of a parcel
abbrev pub encode : Parcel → List Token
encode (offer v) = word_tokens v ++ END ∷ []
encode opening = OPEN ∷ []
encode (word v) = word_tokens v
encode closing = END ∷ []
encode taken = ACK ∷ []

-- and of several
abbrev pub encodes : List Parcel → List Token
encodes [] = []
encodes (p ∷ ps) = encode p ++ encodes ps

-- the tokens that a side has still to send of what it has begun
abbrev pub unsent : Phase → List Token
unsent between = []
unsent (sends_end v) = END ∷ []
unsent (awaits_ack q) = []
unsent checks_end = ACK ∷ []
unsent sends_ack = ACK ∷ []
unsent was_closed = []
unsent streams = []

-- the tokens that it has still to take of a parcel that its branch has taken
abbrev pub unread : Phase → List Token
unread between = []
unread (sends_end v) = []
unread (awaits_ack q) = []
unread checks_end = END ∷ []
unread sends_ack = []
unread was_closed = []
unread streams = []

-- the tokens that it has taken of a parcel that its branch has still to take
abbrev pub ahead : Phase → List Token
ahead between = []
ahead (sends_end v) = []
ahead (awaits_ack q) = []
ahead checks_end = []
ahead sends_ack = []
ahead was_closed = END ∷ []
ahead streams = []

-- what it has asked and not yet taken the answer of
abbrev pub asked : Phase → List Question
asked between = []
asked (sends_end v) = offers v ∷ []
asked (awaits_ack q) = q ∷ []
asked checks_end = []
asked sends_ack = []
asked was_closed = []
asked streams = []

-- whether the answer leads into a transaction, or out of it
abbrev pub switches_mode : Phase → Bool
switches_mode between = false
switches_mode (sends_end v) = false
switches_mode (awaits_ack (offers v)) = false
switches_mode (awaits_ack opens) = true
switches_mode (awaits_ack closes) = true
switches_mode checks_end = false
switches_mode sends_ack = false
switches_mode was_closed = false
switches_mode streams = false

-- whether what a side reads next is inside a transaction
abbrev pub reads_by : Phase → Bool → Bool
reads_by between inside = inside
reads_by (sends_end v) inside = inside
reads_by (awaits_ack (offers v)) inside = inside
reads_by (awaits_ack opens) inside = false
reads_by (awaits_ack closes) inside = true
reads_by checks_end inside = inside
reads_by sends_ack inside = inside
reads_by was_closed inside = inside
reads_by streams inside = inside

-- the same of the state of a side
abbrev pub reads : SideState → Bool
reads s = reads_by s.phase s.inside

-- words of a transaction or a stream, and nothing else
abbrev pub AreWords : List Parcel → Type 0
AreWords [] = Unit {0}
AreWords (word v ∷ ps) = AreWords ps
AreWords (p ∷ ps) = ⊥

-- What the branch of a side has still to put into the other's inbox of what its thread has begun to send, and whether it is inside.
abbrev pub LateBy : Phase → Bool → List Parcel → Type 0
LateBy between inside late = late ≡ []
LateBy (sends_end v) inside late = (inside ≡ false) × ((late ≡ []) ⊎ (late ≡ offer v ∷ []))
LateBy (awaits_ack (offers v)) inside late = (inside ≡ false) × ((late ≡ []) ⊎ (late ≡ offer v ∷ []))
LateBy (awaits_ack opens) inside late = ((inside ≡ true) × (late ≡ [])) ⊎ ((inside ≡ false) × (late ≡ opening ∷ []))
LateBy (awaits_ack closes) inside late = (inside ≡ false) × (late ≡ [])
LateBy checks_end inside late = (inside ≡ false) × (late ≡ [])
LateBy sends_ack inside late = late ≡ []
LateBy was_closed inside late = (inside ≡ true) × (late ≡ [])
LateBy streams inside late = (inside ≡ true) × AreWords late

-- Parcels lead from outside or inside a transaction to outside or inside: an offer is put outside only, a word inside only, an opening
-- leads in, a closing leads out, and `switches_mode` says of an answer whether it leads to the other of the two.
abbrev pub Path : (switches_mode from : Bool) → List Parcel → (to : Bool) → Type 0
Path switches_mode from [] to = from ≡ to
Path switches_mode false (offer v ∷ ps) to = Path switches_mode false ps to
Path switches_mode true (offer v ∷ ps) to = ⊥
Path switches_mode false (opening ∷ ps) to = Path switches_mode true ps to
Path switches_mode true (opening ∷ ps) to = ⊥
Path switches_mode false (word v ∷ ps) to = ⊥
Path switches_mode true (word v ∷ ps) to = Path switches_mode true ps to
Path switches_mode false (closing ∷ ps) to = ⊥
Path switches_mode true (closing ∷ ps) to = Path switches_mode false ps to
Path false from (taken ∷ ps) to = Path false from ps to
Path true from (taken ∷ ps) to = Path true (not from) ps to

-- the questions among parcels
abbrev pub questions : List Parcel → List Question
questions [] = []
questions (offer v ∷ ps) = offers v ∷ questions ps
questions (opening ∷ ps) = opens ∷ questions ps
questions (word v ∷ ps) = questions ps
questions (closing ∷ ps) = closes ∷ questions ps
questions (taken ∷ ps) = questions ps

-- and how many answers
abbrev pub answers : List Parcel → ℕ
answers [] = 0
answers (taken ∷ ps) = suc (answers ps)
answers (p ∷ ps) = answers ps

-- Of what a side has asked the question stands there, at the other side, or the answer here, at its own.
pub data Asked (phase : Phase) (there here : List Parcel) : Type 0 where
  is_open : questions there ≡ asked phase → answers here ≡ 0 → Asked phase there here
  is_answered : questions there ≡ [] → answers here ≡ length (asked phase) → Asked phase there here

-- One direction of a channel: the tokens at the receiver's end, those on the link to it, the receiver's inbox, and what is to be put there.
pub record Direction : Type 0 where
  pub buffer : List Token
  pub link : List Token
  pub inbox : List Parcel
  pub late : List Parcel

-- What is under way from side s to side r.
pub record Transit (s r : SideState) (l : Direction) : Type 0 where
  -- the tokens of parcels in the inbox that are still to come
  pub more : List Token
  -- On the link, and still to be sent, are these and then the tokens of what is late.
  pub coming : l.link ++ unsent s.phase ≡ more ++ encodes l.late
  -- What was taken of the first parcel, what stands at the end and what is still to come are the tokens of the inbox.
  pub come : ahead r.phase ++ (l.buffer ++ more) ≡ unread r.phase ++ encodes l.inbox
  -- The parcels lead from where the receiver reads to where the sender stands.
  pub path : Path (switches_mode r.phase) (reads r) l.inbox s.inside
  -- What is late is what a sender that stands there may still put.
  pub late : LateBy s.phase s.inside l.late

-- What stands between two sides of a channel: the ways to and fro, and the question of each.
pub record TransitRel (s r : SideState) (go come : Direction) : Type 0 where
  pub outward : Transit s r go
  pub homeward : Transit r s come
  pub mine : Asked s.phase (go.inbox ++ go.late) come.inbox
  pub theirs : Asked r.phase (come.inbox ++ come.late) go.inbox
