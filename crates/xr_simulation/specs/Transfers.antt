-- A transfer over a channel that a thread has begun: on which side of the channel, and where in its protocol the thread stands.
use Rattle.std.specs.Prelude.{◌≡◌, ℕ, true, List, [], ◌∷◌, Option, Some, None, length}
use Rattle.xw_words.specs.declared.pos.Pos.{Pos}
use Rattle.xs_instr.specs.Ends.{control_token}
use Rattle.xc_meaning.specs.States.Channels.{Parcel, Side}
use Rattle.xc_meaning.specs.States.Items.{Item, awaits, chooses}
use Rattle.xl_chan.specs.Protocols.{ACK, Act, input_ends, output_ends, sends, takes}
use Rattle.xr_channels.specs.Phases.{Phase, awaits_ack, between, checks_end, closes, offers, opens, sends_ack, sends_end, streams, was_closed}

-- The output's word goes at OUT, which is the program's offer. It is taken at IN, the program's input. The answer's arrival at CHKCT
-- ACK ends the output. Between these the program stands still.
pub record Transfer : Type 0 where
  pub channel : ℕ
  pub side : Side
  pub phase : Phase
  -- what its branch has still to put in the other side's inbox of what the thread has sent, since that is on a link
  pub late : List Parcel

-- of these parts
abbrev pub owing : (channel : ℕ) → Side → Phase → (late : List Parcel) → Transfer
owing channel side phase late = record { channel = channel; side = side; phase = phase; late = late }

-- with nothing late, as always within a core
abbrev pub in_phase : (channel : ℕ) → Side → Phase → Transfer
in_phase channel side phase = owing channel side phase []

-- the steps of the protocol that are left to a thread that has begun it
abbrev pub acts_left : Phase → List Act
acts_left between = []
acts_left (sends_end v) = output_ends true
acts_left (awaits_ack q) = takes ACK ∷ []
acts_left checks_end = input_ends true
acts_left sends_ack = sends (control_token ACK ∷ []) ∷ []
acts_left was_closed = sends (control_token ACK ∷ []) ∷ []
acts_left streams = []

abbrev pub steps_left : Phase → ℕ
steps_left phase = length (acts_left phase)

-- A thread may do some steps more than its branch's actions pay for, until what is late is put: it sends a word and its END before.
abbrev pub spared_with : (late : List Parcel) → ℕ
spared_with [] = 3
spared_with (p ∷ ps) = 0

abbrev pub spared : Option Transfer → ℕ
spared None = 3
spared (Some transfer) = spared_with transfer.late

-- no answer is waited for, and no event
abbrev pub AwaitsNothing : List Item → Type 0
AwaitsNothing (awaits c pos ∷ rest) = ⊥
AwaitsNothing (chooses choices otherwise ∷ rest) = ⊥
AwaitsNothing items = Unit {0}

-- What is left to the branch: behind an offer it waits for the answer, at the place of the output; an input has been done.
abbrev pub GoesWith : Phase → (channel : ℕ) → Pos → List Item → Type 0
GoesWith between c pos items = ⊥
GoesWith (sends_end v) c pos items = (rest : List Item) × (items ≡ awaits c pos ∷ rest)
GoesWith (awaits_ack (offers v)) c pos items = (rest : List Item) × (items ≡ awaits c pos ∷ rest)
GoesWith (awaits_ack opens) c pos items = ⊥
GoesWith (awaits_ack closes) c pos items = ⊥
GoesWith checks_end c pos items = AwaitsNothing items
GoesWith sends_ack c pos items = AwaitsNothing items
GoesWith was_closed c pos items = ⊥
GoesWith streams c pos items = ⊥

-- Of these what is left behind the transfer: all but the answer that was waited for.

abbrev pub all_but_first : List Item → List Item
all_but_first [] = []
all_but_first (item ∷ rest) = rest

abbrev pub items_behind : Phase → List Item → List Item
items_behind (sends_end v) items = all_but_first items
items_behind (awaits_ack q) items = all_but_first items
items_behind phase items = items

-- a thread that has trapped in a transfer was waiting for the answer to its offer, of which nothing is late then
abbrev pub IsAwaiting : Phase → Type 0
IsAwaiting (awaits_ack (offers v)) = Unit {0}
IsAwaiting phase = ⊥

abbrev pub StopsIn : Option Transfer → Type 0
StopsIn None = Unit {0}
StopsIn (Some transfer) = IsAwaiting transfer.phase × (transfer.late ≡ [])
