-- A question has arrived: an offer or an opening stands in an inbox only once its first token is at the end.
use Rattle.std.specs.Prelude.{◌≡◌, ◌≤◌, ◌⊎◌, ◌+◌, Bool, true, false, List, [], ◌∷◌, ◌++◌, length}
use Rattle.xc_meaning.specs.States.Channels.{Parcel, offer, opening, word, closing, taken}
use Rattle.xr_channels.specs.Phases.{Phase, SideState, encodes, unread, ahead, asked, answers, Direction, TransitRel}

-- what may stand in an inbox before all its tokens have come
abbrev pub may_be_early : Parcel → Bool
may_be_early (offer v) = true
may_be_early opening = true
may_be_early (word v) = false
may_be_early closing = false
may_be_early taken = false

-- A side has asked nothing, or is answered. One that isn't served may wait in vain: the other side put its own question as it trapped
-- on this side's one.
abbrev pub IsServed : Phase → Direction → Type 0
IsServed phase l = (asked phase ≡ []) ⊎ (answers l.inbox ≡ 1)

-- Of each such parcel in the inbox of a side that is served the first token has come, behind the tokens of the parcels before it.
pub record QuestionHasArrived (phase : Phase) (l : Direction) : Type 0 where
  pub come : IsServed phase l → (ps : List Parcel) (x : Parcel) (qs : List Parcel) → l.inbox ≡ ps ++ (x ∷ qs) → may_be_early x ≡ true → length (unread phase) + length (encodes ps) + 1 ≤ length (ahead phase) + length l.buffer

-- both inboxes
pub record QuestionsArrived (s r : SideState) (go come : Direction) : Type 0 where
  pub mine : QuestionHasArrived s.phase come
  pub theirs : QuestionHasArrived r.phase go

-- What stands between two sides of a channel, with questions that have arrived.
pub record ChannelRel (s r : SideState) (go come : Direction) : Type 0 where
  pub talk : TransitRel s r go come
  pub fresh : QuestionsArrived s r go come
