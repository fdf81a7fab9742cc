-- How many tokens and parcels there can be between two sides, and what credits say of it.
use Rattle.std.proofs.Common.{◌≡◌, ◌<◌, ◌≤◌, ℕ, ◌+◌, ◌*◌, ◌/◌, ◌%◌, ◌^◌, Bool, true, false, List, [], ◌∷◌, ◌++◌, length, refl, sym, ap, ◌∙◌, subst, arith, append-nil, length-append}
use Rattle.std.specs.Prelude.{nat_le}
use Rattle.std.proofs.lemmas.Bool.{leb-false}
use Rattle.xs_instr.specs.declared.state.Token.{Token}
use Rattle.xs_instr.specs.Ends.{word_tokens, control_token, data_token}
use Rattle.xc_meaning.specs.States.Channels.{Parcel, offer, opening, word, closing, taken, words_among}
use Rattle.xr_channels.specs.Phases.{END, ACK, OPEN, Question, offers, opens, closes, Phase, between, sends_end, awaits_ack, checks_end, sends_ack, was_closed, streams, SideState, side_state, encodes, unsent, unread, ahead, asked, switches_mode, reads_by, Path, questions, answers, Asked, is_open, is_answered, Direction, Transit, TransitRel}
use Rattle.xr_channels.proofs.Tokens.Lines.{no_question, nothing_both}

-- tokens that differ
pub control_no_data : (c b : ℕ) → control_token c ≡ data_token b → ⊥
control_no_data c b e = let z : true ≡ false = ap (λ (t : Token). t.control) e in cc

-- END and ACK
pub end_no_ack : END ≡ ACK → ⊥
end_no_ack e = let z : ◌≡◌ {A = ℕ} 1 3 = ap (λ (t : Token). t.byte) e in absurd (omega (arith, z))

-- END and OPEN
pub end_no_open : END ≡ OPEN → ⊥
end_no_open e = let z : ◌≡◌ {A = ℕ} 1 16 = ap (λ (t : Token). t.byte) e in absurd (omega (arith, z))

-- ACK and OPEN
pub ack_no_open : ACK ≡ OPEN → ⊥
ack_no_open e = let z : ◌≡◌ {A = ℕ} 3 16 = ap (λ (t : Token). t.byte) e in absurd (omega (arith, z))

-- without questions there are words and answers
pub length_no_question : (ps : List Parcel) → questions ps ≡ [] → length (encodes ps) ≡ 4 * words_among ps + answers ps
length_no_question [] h = refl
length_no_question (offer v ∷ ps) h = cc
length_no_question (opening ∷ ps) h = cc
length_no_question (word v ∷ ps) h = let a = length_no_question ps h in omega (arith, a)
length_no_question (closing ∷ ps) h = cc
length_no_question (taken ∷ ps) h = let a = length_no_question ps h in omega (arith, a)

-- with one offer
pub length_one_offer : (v : ℕ) (ps : List Parcel) → questions ps ≡ offers v ∷ [] → length (encodes ps) ≡ 5 + (4 * words_among ps + answers ps)
length_one_offer v [] h = cc
length_one_offer v (offer w ∷ ps) h = let none : questions ps ≡ [] = cc in let a = length_no_question ps none in omega (arith, a)
length_one_offer v (opening ∷ ps) h = cc
length_one_offer v (word w ∷ ps) h = let a = length_one_offer v ps h in omega (arith, a)
length_one_offer v (closing ∷ ps) h = cc
length_one_offer v (taken ∷ ps) h = let a = length_one_offer v ps h in omega (arith, a)

-- each word has four
pub words_fit : (ps : List Parcel) → 4 * words_among ps ≤ length (encodes ps)
words_fit [] = omega arith
words_fit (offer v ∷ ps) = let a = words_fit ps in omega (arith, a)
words_fit (opening ∷ ps) = let a = words_fit ps in omega (arith, a)
words_fit (word v ∷ ps) = let a = words_fit ps in omega (arith, a)
words_fit (closing ∷ ps) = let a = words_fit ps in omega (arith, a)
words_fit (taken ∷ ps) = let a = words_fit ps in omega (arith, a)

-- no question leads into a transaction or out of it
abbrev pub OnlyOffers : List Question → Type 0
OnlyOffers [] = Unit {0}
OnlyOffers (offers v ∷ qs) = OnlyOffers qs
OnlyOffers (opens ∷ qs) = ⊥
OnlyOffers (closes ∷ qs) = ⊥

-- a path without them stays inside or outside
pub stays : (f : Bool) (ps : List Parcel) (to : Bool) → OnlyOffers (questions ps) → Path false f ps to → (f ≡ to) × (f ≡ false → words_among ps ≡ 0)
stays f [] to q h = (h, λ e. refl)
stays false (offer v ∷ ps) to q h = stays false ps to q h
stays true (offer v ∷ ps) to q h = absurd h
stays f (opening ∷ ps) to q h = absurd q
stays false (word v ∷ ps) to q h = absurd h
stays true (word v ∷ ps) to q h = ((stays true ps to q h).0, λ e. cc)
stays f (closing ∷ ps) to q h = absurd q
stays f (taken ∷ ps) to q h = stays f ps to q h

-- what is unread by the receiver, where nothing is on the link
pub unread_length : (s r : SideState) (l : Direction) → Transit s r l → l.link ≡ [] → l.late ≡ [] → length (ahead r.phase) + (length l.buffer + length (unsent s.phase)) ≡ length (unread r.phase) + length (encodes l.inbox)
unread_length s r l h none on_time =
    let more : unsent s.phase ≡ h.more = ap (λ x. x ++ unsent s.phase) (sym none) ∙ h.coming ∙ ap (λ x. h.more ++ encodes x) on_time ∙ append-nil h.more in
    let all = ap length h.come in
    let a = length-append (ahead r.phase) (l.buffer ++ h.more) in
    let b = length-append l.buffer h.more in
    let c = length-append (unread r.phase) (encodes l.inbox) in
    let d = ap length more in
    omega (arith, all, a, b, c, d)

-- with what is on the link too, where nothing is late and nothing is owed
pub room_length : (s r : SideState) (l : Direction) → Transit s r l → unsent s.phase ≡ [] → l.late ≡ [] → length (ahead r.phase) + (length l.buffer + length l.link) ≡ length (unread r.phase) + length (encodes l.inbox)
room_length s r l h none on_time =
    let more : l.link ≡ h.more = sym (append-nil l.link) ∙ ap (λ x. l.link ++ x) (sym none) ∙ h.coming ∙ ap (λ x. h.more ++ encodes x) on_time ∙ append-nil h.more in
    let all = ap length h.come in
    let a = length-append (ahead r.phase) (l.buffer ++ h.more) in
    let b = length-append l.buffer h.more in
    let c = length-append (unread r.phase) (encodes l.inbox) in
    let d = ap length more in
    omega (arith, all, a, b, c, d)

-- OUT and OUTCT END inside a transaction: with credits there is room. At OUT at most 4 tokens are under way, at OUTCT at most 7.
pub has_room : (r : SideState) (go come : Direction) → TransitRel (side_state between true) r go come → length go.buffer + length go.link ≤ 7 → words_among go.inbox < 2
has_room r go come h few = by r.phase refl
  where
    q : questions go.inbox ≡ []
    q = ap questions (sym (append-nil go.inbox)) ∙ ap (λ l. questions (go.inbox ++ l)) (sym h.outward.late) ∙ (no_question (go.inbox ++ go.late) come.inbox h.mine).0

    sum : length (ahead r.phase) + (length go.buffer + length go.link) ≡ length (unread r.phase) + length (encodes go.inbox)
    sum = room_length (side_state between true) r go h.outward refl h.outward.late

    fit : 4 * words_among go.inbox ≤ length (encodes go.inbox)
    fit = words_fit go.inbox

    plainly : (f : Phase) → r.phase ≡ f → length (ahead f) ≡ 0 → words_among go.inbox < 2
    plainly f e z = let x = ap (λ y. length (ahead y)) e in omega (arith, sum, fit, few, x, z)

    by : (f : Phase) → r.phase ≡ f → words_among go.inbox < 2
    by between e = plainly between e refl
    by (sends_end v) e = plainly (sends_end v) e refl
    by (awaits_ack z) e = plainly (awaits_ack z) e refl
    by checks_end e = plainly checks_end e refl
    by sends_ack e = plainly sends_ack e refl
    by streams e = plainly streams e refl
    by was_closed e = absurd (closed go.inbox refl (ap (λ y. ahead y ++ (go.buffer ++ h.outward.more)) (sym e) ∙ h.outward.come ∙ ap (λ y. unread y ++ encodes go.inbox) e))
      where
        closed : (is : List Parcel) → go.inbox ≡ is → END ∷ (go.buffer ++ h.outward.more) ≡ encodes go.inbox → ⊥
        closed [] i k = let z : END ∷ (go.buffer ++ h.outward.more) ≡ [] = k ∙ ap encodes i in cc
        closed (offer v ∷ ps) i k = let z : END ∷ (go.buffer ++ h.outward.more) ≡ data_token (v / 2 ^ 24) ∷ (data_token (v / 2 ^ 16 % 2 ^ 8) ∷ data_token (v / 2 ^ 8 % 2 ^ 8) ∷ data_token (v % 2 ^ 8) ∷ END ∷ encodes ps) = k ∙ ap encodes i in let y : END ≡ data_token (v / 2 ^ 24) = cc in control_no_data 1 (v / 2 ^ 24) y
        closed (opening ∷ ps) i k = let z : opens ∷ questions ps ≡ [] = sym (ap questions i) ∙ q in cc
        closed (word v ∷ ps) i k = let z : END ∷ (go.buffer ++ h.outward.more) ≡ word_tokens v ++ encodes ps = k ∙ ap encodes i in let y : END ≡ data_token (v / 2 ^ 24) = cc in control_no_data 1 (v / 2 ^ 24) y
        closed (closing ∷ ps) i k = let z : closes ∷ questions ps ≡ [] = sym (ap questions i) ∙ q in cc
        closed (taken ∷ ps) i k = let z : END ∷ (go.buffer ++ h.outward.more) ≡ ACK ∷ encodes ps = k ∙ ap encodes i in let y : END ≡ ACK = cc in end_no_ack y

-- one answer at most is there
pub few_answers : (f : Phase) (there here : List Parcel) → Asked f there here → answers here ≤ 1
few_answers f there here (is_open q a) = omega (arith, a)
few_answers between there here (is_answered q a) = omega (arith, a)
few_answers (sends_end v) there here (is_answered q a) = omega (arith, a)
few_answers (awaits_ack z) there here (is_answered q a) = omega (arith, a)
few_answers checks_end there here (is_answered q a) = omega (arith, a)
few_answers sends_ack there here (is_answered q a) = omega (arith, a)
few_answers was_closed there here (is_answered q a) = omega (arith, a)
few_answers streams there here (is_answered q a) = omega (arith, a)

-- and none to a side that asked nothing
pub no_answers : (f : Phase) (there here : List Parcel) → asked f ≡ [] → Asked f there here → answers here ≡ 0
no_answers f there here e (is_open q a) = a
no_answers f there here e (is_answered q a) = a ∙ ap length e

-- with nothing on the link and nothing owed, nothing is late
encodes_none : (ps : List Parcel) → encodes ps ≡ [] → ps ≡ []
encodes_none [] h = refl
encodes_none (offer v ∷ ps) h = cc
encodes_none (opening ∷ ps) h = cc
encodes_none (word v ∷ ps) h = cc
encodes_none (closing ∷ ps) h = cc
encodes_none (taken ∷ ps) h = cc

-- so all that a sender has begun is put, and is at the end
pub nothing_late : (s r : SideState) (l : Direction) → Transit s r l → unsent s.phase ≡ [] → l.link ≡ [] → (l.late ≡ []) × (l.buffer ≡ [] → ahead r.phase ≡ [] → unread r.phase ≡ [] → l.inbox ≡ [])
nothing_late s r l h u link =
    let both = nothing_both h.more (encodes l.late) (sym (ap (λ x. x ++ unsent s.phase) link ∙ u) ∙ h.coming) in
    (encodes_none l.late both.1, λ b a n. encodes_none l.inbox (sym (ap (λ x. x ++ encodes l.inbox) n) ∙ sym h.come ∙ ap (λ x. x ++ (l.buffer ++ h.more)) a ∙ ap (λ x. x ++ h.more) b ∙ both.0))

-- a phase that neither awaits an answer nor turns
pub steady_reads : (f : Phase) (r s : SideState) (l : Direction) → r.phase ≡ f → switches_mode f ≡ false → OnlyOffers (questions l.inbox) → Transit s r l → (reads_by f r.inside ≡ s.inside) × (reads_by f r.inside ≡ false → words_among l.inbox ≡ 0)
steady_reads f r s l e t q h = stays (reads_by f r.inside) l.inbox s.inside q (subst (λ b. Path b (reads_by f r.inside) l.inbox s.inside) t (subst (λ y. Path (switches_mode y) (reads_by y r.inside) l.inbox s.inside) e h.path))

-- at most one token is still to be taken
pub small_unread : (f : Phase) → length (unread f) ≤ 1
small_unread between = omega arith
small_unread (sends_end v) = omega arith
small_unread (awaits_ack q) = omega arith
small_unread checks_end = omega arith
small_unread sends_ack = omega arith
small_unread was_closed = omega arith
small_unread streams = omega arith

-- What credits say, by the law that a side's credits, the tokens under way and at the peer's end, and the credits that come back are 8.
below : (n c : ℕ) → nat_le n c ≡ false → c < n
below n c h = leb-false n c h

-- OUT pauses: five tokens at least are at the other end
pub out_pause_full : (credits tokens : ℕ) → nat_le 4 credits ≡ false → credits + tokens ≡ 8 → 5 ≤ tokens
out_pause_full credits tokens h sum = let b = below 4 credits h in omega (arith, b, sum)

-- OUTCT pauses: eight are
pub outct_pause_full : (credits tokens : ℕ) → nat_le 1 credits ≡ false → credits + tokens ≡ 8 → tokens ≡ 8
outct_pause_full credits tokens h sum = let b = below 1 credits h in omega (arith, b, sum)
