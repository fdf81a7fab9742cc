-- Two sides of a channel that are both outside transactions: how many tokens there can be between them, and what has come where all was sent.
use Rattle.std.proofs.Common.{◌≡◌, ◌≤◌, ℕ, ◌+◌, false, List, [], ◌∷◌, ◌++◌, length, refl, sym, ap, ◌∙◌, subst, arith, append-nil, inl, inr}
use Rattle.std.specs.Prelude.{◌⊎◌}
use Rattle.xc_meaning.specs.States.Channels.{Parcel, words_among}
use Rattle.xr_channels.specs.Phases.{Question, offers, opens, closes, Phase, between, sends_end, awaits_ack, checks_end, sends_ack, was_closed, streams, SideState, encodes, unsent, unread, ahead, asked, switches_mode, reads_by, questions, answers, Asked, is_open, is_answered, Direction, TransitRel}
use Rattle.xr_channels.proofs.Tokens.Lengths.{OnlyOffers, few_answers, length_no_question, length_one_offer, nothing_late, small_unread, steady_reads, unread_length}

-- a phase of an output or an input, or between them
abbrev pub IsPlain : Phase → Type 0
IsPlain between = Unit {0}
IsPlain (sends_end v) = Unit {0}
IsPlain (awaits_ack (offers v)) = Unit {0}
IsPlain (awaits_ack opens) = ⊥
IsPlain (awaits_ack closes) = ⊥
IsPlain checks_end = Unit {0}
IsPlain sends_ack = Unit {0}
IsPlain was_closed = ⊥
IsPlain streams = ⊥

-- such a side turns nowhere, reads where it stands, and has taken nothing that its branch hasn't
plain_reads : (f : Phase) → IsPlain f → (switches_mode f ≡ false) × (reads_by f false ≡ false) × (ahead f ≡ [])
plain_reads between h = (refl, refl, refl)
plain_reads (sends_end v) h = (refl, refl, refl)
plain_reads (awaits_ack (offers v)) h = (refl, refl, refl)
plain_reads (awaits_ack opens) h = absurd h
plain_reads (awaits_ack closes) h = absurd h
plain_reads checks_end h = (refl, refl, refl)
plain_reads sends_ack h = (refl, refl, refl)
plain_reads was_closed h = absurd h
plain_reads streams h = absurd h

-- it has asked nothing, or offered a word
abbrev MayOffer : List Question → Type 0
MayOffer qs = (qs ≡ []) ⊎ ((v : ℕ) × (qs ≡ offers v ∷ []))

plain_asks : (f : Phase) → IsPlain f → MayOffer (asked f)
plain_asks between h = inl refl
plain_asks (sends_end v) h = inr (v, refl)
plain_asks (awaits_ack (offers v)) h = inr (v, refl)
plain_asks (awaits_ack opens) h = absurd h
plain_asks (awaits_ack closes) h = absurd h
plain_asks checks_end h = inl refl
plain_asks sends_ack h = inl refl
plain_asks was_closed h = absurd h
plain_asks streams h = absurd h

-- so no other question of it stands at the other side
asks_there : (f : Phase) (there here : List Parcel) → MayOffer (asked f) → Asked f there here → MayOffer (questions there)
asks_there f there here (inl none) (is_open q a) = inl (q ∙ none)
asks_there f there here (inr (v, one)) (is_open q a) = inr (v, q ∙ one)
asks_there f there here may (is_answered q a) = inl q

-- and none where it asked none
nothing_asked : (f : Phase) (there here : List Parcel) → asked f ≡ [] → Asked f there here → questions there ≡ []
nothing_asked f there here none (is_open q a) = q ∙ none
nothing_asked f there here none (is_answered q a) = q

-- From one such side to the other, with nothing on the link and nothing late.
module _ (s r : SideState) (go come : Direction) (talk : TransitRel s r go come) (s_plain : IsPlain s.phase) (r_plain : IsPlain r.phase) (s_outside : s.inside ≡ false) (r_outside : r.inside ≡ false)
    (link : go.link ≡ []) (late : go.late ≡ []) where
  put : questions (go.inbox ++ go.late) ≡ questions go.inbox
  put = ap (λ l. questions (go.inbox ++ l)) late ∙ ap questions (append-nil go.inbox)

  no_words : OnlyOffers (questions go.inbox) → words_among go.inbox ≡ 0
  no_words only =
      let reads = plain_reads r.phase r_plain in
      (steady_reads r.phase r s go refl reads.0 only talk.outward).1 (ap (reads_by r.phase) r_outside ∙ reads.1)

  few : answers go.inbox ≤ 1
  few = few_answers r.phase (come.inbox ++ come.late) go.inbox talk.theirs

  sum : length (ahead r.phase) + (length go.buffer + length (unsent s.phase)) ≡ length (unread r.phase) + length (encodes go.inbox)
  sum = unread_length s r go talk.outward link late

  -- an answer and an END at most
  few_without : questions go.inbox ≡ [] → length go.buffer ≤ 2
  few_without none =
      let words = no_words (subst OnlyOffers (sym none) tt) in
      let size = length_no_question go.inbox none in
      let owed = small_unread r.phase in
      omega (arith, sum, size, words, few, owed)

  -- and a word with its END
  few_with : (v : ℕ) → questions go.inbox ≡ offers v ∷ [] → length go.buffer ≤ 7
  few_with v one =
      let words = no_words (subst OnlyOffers (sym one) tt) in
      let size = length_one_offer v go.inbox one in
      let owed = small_unread r.phase in
      omega (arith, sum, size, words, few, owed)

  -- seven tokens at most are under way
  pub at_most_seven : length go.buffer ≤ 7
  at_most_seven = by (subst MayOffer put (asks_there s.phase (go.inbox ++ go.late) come.inbox (plain_asks s.phase s_plain) talk.mine))
    where
      by : MayOffer (questions go.inbox) → length go.buffer ≤ 7
      by (inl none) = let two = few_without none in omega (arith, two)
      by (inr (v, one)) = few_with v one

  -- and two, where the sender has asked nothing
  pub at_most_two : asked s.phase ≡ [] → length go.buffer ≤ 2
  at_most_two none = few_without (sym put ∙ nothing_asked s.phase (go.inbox ++ go.late) come.inbox none talk.mine)

-- From a side that has sent all it has begun, with nothing on the link and no token at the end.
module _ (s r : SideState) (go come : Direction) (talk : TransitRel s r go come) (all_sent : unsent r.phase ≡ []) (link : come.link ≡ []) (none : come.buffer ≡ []) where
  -- the inbox of a side that has taken neither more nor less than its branch is empty
  pub nothing_came : ahead s.phase ≡ [] → unread s.phase ≡ [] → come.inbox ≡ []
  nothing_came taken owed = (nothing_late r s come talk.homeward all_sent link).1 none taken owed

  -- and no other side has a token still to take
  pub nothing_owed : length (unread s.phase) ≤ length (ahead s.phase)
  nothing_owed =
      let late = (nothing_late r s come talk.homeward all_sent link).0 in
      let sum = unread_length r s come talk.homeward link late in
      let buffer = ap length none in
      let sent = ap length all_sent in
      omega (arith, sum, buffer, sent)
