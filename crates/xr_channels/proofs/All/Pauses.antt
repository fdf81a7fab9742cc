-- Where a row pauses and nothing is on a link, the branch cannot do its step, or the other side's own row is enabled.
use Rattle.std.proofs.Common.{◌≡◌, ◌<◌, ◌≤◌, ℕ, suc, ◌+◌, ◌*◌, ◌%◌, ◌^◌, Bool, true, false, List, [], ◌∷◌, ◌++◌, length, refl, sym, ap, ◌∙◌, subst, arith, append-nil, length-append, inl, inr}
use Rattle.std.specs.Prelude.{◌⊎◌}
use Rattle.xs_instr.specs.declared.state.Token.{Token}
use Rattle.xs_instr.specs.Ends.{word_tokens, control_token, data_token, take_word, Control, NotYet}
use Rattle.xc_meaning.specs.States.Channels.{Parcel, offer, opening, word, closing, taken, words_among}
use Rattle.xr_channels.specs.Phases.{END, ACK, OPEN, Question, offers, closes, Phase, between, sends_end, awaits_ack, checks_end, sends_ack, was_closed, streams, SideState, side_state, encode, encodes, unsent, unread, ahead, asked, switches_mode, reads_by, LateBy, Path, questions, answers, Asked, is_open, is_answered, Direction, TransitRel}
use Rattle.xr_channels.proofs.Tokens.Lengths.{control_no_data, end_no_ack, end_no_open, ack_no_open, length_no_question, length_one_offer, OnlyOffers, stays, unread_length, few_answers, no_answers, nothing_late, steady_reads, small_unread}

-- a side in mid-piece whose row doesn't pause
pub data Enabled : Phase → (come : Direction) → (credits : ℕ) → Type 0 where
  may_end : (v : ℕ) (l : Direction) (n : ℕ) → 1 ≤ n → Enabled (sends_end v) l n
  may_check : (q : Question) (l : Direction) (n : ℕ) → 1 ≤ length l.buffer → Enabled (awaits_ack q) l n
  may_check_end : (l : Direction) (n : ℕ) → 1 ≤ length l.buffer → Enabled checks_end l n
  may_answer : (l : Direction) (n : ℕ) → 1 ≤ n → Enabled sends_ack l n
  may_close : (l : Direction) (n : ℕ) → 1 ≤ n → Enabled was_closed l n

-- OUT pauses, or OUTCT OPEN or OUTCT END of a master: at least 5 tokens are unread. The other side's CHKCT ACK is enabled, or two words are
-- unread. The premises hold of a side between pieces and of a streaming one.
pub out_justified : (s r : SideState) (go come : Direction) (n : ℕ) → TransitRel s r go come → unsent s.phase ≡ [] → go.late ≡ [] → go.link ≡ [] → questions go.inbox ≡ [] → 5 ≤ length go.buffer → Enabled r.phase go n ⊎ ((s.inside ≡ true) × (2 ≤ words_among go.inbox))
out_justified s r go come n h u late link q many = by r.phase refl
  where
    sum : length (ahead r.phase) + (length go.buffer + length (unsent s.phase)) ≡ length (unread r.phase) + length (encodes go.inbox)
    sum = unread_length s r go h.outward link late

    len : length (encodes go.inbox) ≡ 4 * words_among go.inbox + answers go.inbox
    len = length_no_question go.inbox q

    few : answers go.inbox ≤ 1
    few = few_answers r.phase (come.inbox ++ come.late) go.inbox h.theirs

    offers_only : OnlyOffers (questions go.inbox)
    offers_only = subst OnlyOffers (sym q) tt

    -- a phase without a turn
    steady : (f : Phase) → r.phase ≡ f → switches_mode f ≡ false → (reads_by f r.inside ≡ false) ⊎ ((answers go.inbox ≡ 0) × (length (unread f) ≡ 0)) → length (unread f) ≤ 1 → Enabled f go n ⊎ ((s.inside ≡ true) × (2 ≤ words_among go.inbox))
    steady f e t which small =
        let path : Path false (reads_by f r.inside) go.inbox s.inside = subst (λ b. Path b (reads_by f r.inside) go.inbox s.inside) t (subst (λ y. Path (switches_mode y) (reads_by y r.inside) go.inbox s.inside) e h.outward.path) in
        let st = stays (reads_by f r.inside) go.inbox s.inside offers_only path in
        let un = ap (λ y. length (unread y)) e in
        inside_by s.inside refl st which un small
      where
        inside_by : (b : Bool) → s.inside ≡ b → (reads_by f r.inside ≡ s.inside) × (reads_by f r.inside ≡ false → words_among go.inbox ≡ 0) → (reads_by f r.inside ≡ false) ⊎ ((answers go.inbox ≡ 0) × (length (unread f) ≡ 0)) → length (unread r.phase) ≡ length (unread f) → length (unread f) ≤ 1 → Enabled f go n ⊎ ((s.inside ≡ true) × (2 ≤ words_among go.inbox))
        inside_by false x st w un small = let none = st.1 (st.0 ∙ x) in absurd (omega (arith, sum, len, few, many, none, un, small))
        inside_by true x st (inl z) un small = let e1 : true ≡ false = sym x ∙ sym st.0 ∙ z in cc
        inside_by true x st (inr z) un small = let a = z.0 in let b = z.1 in inr (x, omega (arith, sum, len, a, b, many, un))

    late_of : (f : Phase) → r.phase ≡ f → LateBy f r.inside come.late
    late_of f e = subst (λ y. LateBy y r.inside come.late) e h.homeward.late

    asks : (f : Phase) → r.phase ≡ f → asked f ≡ [] → answers go.inbox ≡ 0
    asks f e z = no_answers r.phase (come.inbox ++ come.late) go.inbox (ap asked e ∙ z) h.theirs

    by : (f : Phase) → r.phase ≡ f → Enabled r.phase go n ⊎ ((s.inside ≡ true) × (2 ≤ words_among go.inbox))
    by between e = subst (λ y. Enabled y go n ⊎ ((s.inside ≡ true) × (2 ≤ words_among go.inbox))) (sym e) (steady between e refl (inr (asks between e refl, refl)) (omega arith))
    by (sends_end v) e = subst (λ y. Enabled y go n ⊎ ((s.inside ≡ true) × (2 ≤ words_among go.inbox))) (sym e) (steady (sends_end v) e refl (inl (late_of (sends_end v) e).0) (omega arith))
    by (awaits_ack z) e = inl (subst (λ y. Enabled y go n) (sym e) (may_check z go n (omega (arith, many))))
    by checks_end e = subst (λ y. Enabled y go n ⊎ ((s.inside ≡ true) × (2 ≤ words_among go.inbox))) (sym e) (steady checks_end e refl (inl (late_of checks_end e).0) (omega arith))
    by sends_ack e = subst (λ y. Enabled y go n ⊎ ((s.inside ≡ true) × (2 ≤ words_among go.inbox))) (sym e) (steady sends_ack e refl (inr (asks sends_ack e refl, refl)) (omega arith))
    by was_closed e = subst (λ y. Enabled y go n ⊎ ((s.inside ≡ true) × (2 ≤ words_among go.inbox))) (sym e) (steady was_closed e refl (inr (asks was_closed e refl, refl)) (omega arith))
    by streams e = subst (λ y. Enabled y go n ⊎ ((s.inside ≡ true) × (2 ≤ words_among go.inbox))) (sym e) (steady streams e refl (inr (asks streams e refl, refl)) (omega arith))

-- CHKCT ACK pauses: the inbox is empty, or the other side is in a piece and goes on
pub ack_justified : (q : Question) (i : Bool) (r : SideState) (go come : Direction) (n : ℕ) → TransitRel (side_state (awaits_ack q) i) r go come → go.link ≡ [] → come.link ≡ [] → come.buffer ≡ [] → 1 ≤ n → (come.inbox ≡ []) ⊎ Enabled r.phase go n
ack_justified q i r go come n h out_link link buffer some = by r.phase refl
  where
    empty : (f : Phase) → r.phase ≡ f → unsent f ≡ [] → come.inbox ≡ []
    empty f e u = (nothing_late r (side_state (awaits_ack q) i) come h.homeward (ap unsent e ∙ u) link).1 buffer refl refl

    by : (f : Phase) → r.phase ≡ f → (come.inbox ≡ []) ⊎ Enabled r.phase go n
    by between e = inl (empty between e refl)
    by (sends_end v) e = inr (subst (λ y. Enabled y go n) (sym e) (may_end v go n some))
    by (awaits_ack z) e = inl (empty (awaits_ack z) e refl)
    by checks_end e = inr (subst (λ y. Enabled y go n) (sym e) (may_check_end go n has_end))
      where
        has_end : 1 ≤ length go.buffer
        has_end =
            let late = (nothing_late (side_state (awaits_ack q) i) r go h.outward refl out_link).0 in
            let sum = unread_length (side_state (awaits_ack q) i) r go h.outward out_link late in
            let a = ap (λ y. length (ahead y)) e in
            let u = ap (λ y. length (unread y)) e in
            omega (arith, sum, a, u)
    by sends_ack e = inr (subst (λ y. Enabled y go n) (sym e) (may_answer go n some))
    by was_closed e = inl (empty was_closed e refl)
    by streams e = inl (empty streams e refl)

-- CHKCT END of a plain input pauses: the other side has still to send it, and goes on
pub end_check_justified : (i : Bool) (r : SideState) (go come : Direction) (n : ℕ) → TransitRel (side_state checks_end i) r go come → come.link ≡ [] → come.buffer ≡ [] → 1 ≤ n → Enabled r.phase go n
end_check_justified i r go come n h link buffer some = by r.phase refl
  where
    more_is : h.homeward.more ≡ END ∷ encodes come.inbox
    more_is = ap (λ x. x ++ h.homeward.more) (sym buffer) ∙ h.homeward.come

    sent_is : unsent r.phase ≡ END ∷ (encodes come.inbox ++ encodes come.late)
    sent_is = ap (λ x. x ++ unsent r.phase) (sym link) ∙ h.homeward.coming ∙ ap (λ x. x ++ encodes come.late) more_is

    none : (f : Phase) → r.phase ≡ f → unsent f ≡ [] → Enabled f go n
    none f e u = let z : [] ≡ END ∷ (encodes come.inbox ++ encodes come.late) = sym u ∙ sym (ap unsent e) ∙ sent_is in cc

    other : (f : Phase) → r.phase ≡ f → unsent f ≡ ACK ∷ [] → Enabled f go n
    other f e u = let z : ACK ∷ [] ≡ END ∷ (encodes come.inbox ++ encodes come.late) = sym u ∙ sym (ap unsent e) ∙ sent_is in let y : END ≡ ACK = cc in absurd (end_no_ack y)

    by : (f : Phase) → r.phase ≡ f → Enabled r.phase go n
    by between e = subst (λ y. Enabled y go n) (sym e) (none between e refl)
    by (sends_end v) e = subst (λ y. Enabled y go n) (sym e) (may_end v go n some)
    by (awaits_ack z) e = subst (λ y. Enabled y go n) (sym e) (none (awaits_ack z) e refl)
    by checks_end e = subst (λ y. Enabled y go n) (sym e) (other checks_end e refl)
    by sends_ack e = subst (λ y. Enabled y go n) (sym e) (other sends_ack e refl)
    by was_closed e = subst (λ y. Enabled y go n) (sym e) (none was_closed e refl)
    by streams e = subst (λ y. Enabled y go n) (sym e) (none streams e refl)

-- OUTCT ACK of a slave's end pauses: the master awaits it, and a token is there
pub slave_end_justified : (r : SideState) (go come : Direction) (ps : List Parcel) (n : ℕ) → TransitRel (side_state was_closed true) r go come → come.inbox ≡ closing ∷ ps → 1 ≤ length go.buffer → Enabled r.phase go n
slave_end_justified r go come ps n h found many = by r.phase refl h.theirs
  where
    first_q : questions (come.inbox ++ come.late) ≡ closes ∷ questions (ps ++ come.late)
    first_q = ap (λ l. questions (l ++ come.late)) found

    none : (f : Phase) → asked f ≡ [] → Asked f (come.inbox ++ come.late) go.inbox → Enabled f go n
    none f u (is_open q a) = let z : closes ∷ questions (ps ++ come.late) ≡ [] = sym first_q ∙ q ∙ u in cc
    none f u (is_answered q a) = let z : closes ∷ questions (ps ++ come.late) ≡ [] = sym first_q ∙ q in cc

    by : (f : Phase) → r.phase ≡ f → Asked r.phase (come.inbox ++ come.late) go.inbox → Enabled r.phase go n
    by (awaits_ack z) e k = subst (λ y. Enabled y go n) (sym e) (may_check z go n many)
    by between e k = subst (λ y. Enabled y go n) (sym e) (none between refl (subst (λ y. Asked y (come.inbox ++ come.late) go.inbox) e k))
    by checks_end e k = subst (λ y. Enabled y go n) (sym e) (none checks_end refl (subst (λ y. Asked y (come.inbox ++ come.late) go.inbox) e k))
    by sends_ack e k = subst (λ y. Enabled y go n) (sym e) (none sends_ack refl (subst (λ y. Asked y (come.inbox ++ come.late) go.inbox) e k))
    by was_closed e k = subst (λ y. Enabled y go n) (sym e) (none was_closed refl (subst (λ y. Asked y (come.inbox ++ come.late) go.inbox) e k))
    by streams e k = subst (λ y. Enabled y go n) (sym e) (none streams refl (subst (λ y. Asked y (come.inbox ++ come.late) go.inbox) e k))
    by (sends_end v) e k = subst (λ y. Enabled y go n) (sym e) (offering (subst (λ y. Asked y (come.inbox ++ come.late) go.inbox) e k))
      where
        offering : Asked (sends_end v) (come.inbox ++ come.late) go.inbox → Enabled (sends_end v) go n
        offering (is_open q a) = let z : closes ∷ questions (ps ++ come.late) ≡ offers v ∷ [] = sym first_q ∙ q in cc
        offering (is_answered q a) = let z : closes ∷ questions (ps ++ come.late) ≡ [] = sym first_q ∙ q in cc

-- OUTCT END of a plain output pauses: the other side's CHKCT ACK is enabled
pub output_end_justified : (v : ℕ) (i : Bool) (r : SideState) (go come : Direction) (n : ℕ) → TransitRel (side_state (sends_end v) i) r go come → go.link ≡ [] → 8 ≤ length go.buffer → Enabled r.phase go n
output_end_justified v i r go come n h link many = by r.phase refl
  where
    s : SideState
    s = side_state (sends_end v) i

    late : go.late ≡ []
    late = choose h.outward.late.1
      where
        choose : (go.late ≡ []) ⊎ (go.late ≡ offer v ∷ []) → go.late ≡ []
        choose (inl e) = e
        choose (inr e) =
            let all : END ∷ [] ≡ h.outward.more ++ (word_tokens v ++ END ∷ []) = sym (ap (λ x. x ++ END ∷ []) link) ∙ h.outward.coming ∙ ap (λ x. h.outward.more ++ encodes x) e in
            let a = ap length all in
            let b = length-append h.outward.more (word_tokens v ++ END ∷ []) in
            absurd (omega (arith, a, b))

    sum : length (ahead r.phase) + (length go.buffer + 1) ≡ length (unread r.phase) + length (encodes go.inbox)
    sum = unread_length (side_state (sends_end v) i) r go h.outward link late

    few : answers go.inbox ≤ 1
    few = few_answers r.phase (come.inbox ++ come.late) go.inbox h.theirs

    inbox_only : go.inbox ++ go.late ≡ go.inbox
    inbox_only = ap (λ l. go.inbox ++ l) late ∙ append-nil go.inbox

    count : OnlyOffers (questions go.inbox) × (length (encodes go.inbox) ≤ 5 + (4 * words_among go.inbox + answers go.inbox))
    count = choose h.mine
      where
        choose : Asked (sends_end v) (go.inbox ++ go.late) come.inbox → OnlyOffers (questions go.inbox) × (length (encodes go.inbox) ≤ 5 + (4 * words_among go.inbox + answers go.inbox))
        choose (is_open q a) =
            let q1 : questions go.inbox ≡ offers v ∷ [] = sym (ap questions inbox_only) ∙ q in
            let l = length_one_offer v go.inbox q1 in (subst OnlyOffers (sym q1) tt, omega (arith, l))
        choose (is_answered q a) =
            let q1 : questions go.inbox ≡ [] = sym (ap questions inbox_only) ∙ q in
            let l = length_no_question go.inbox q1 in (subst OnlyOffers (sym q1) tt, omega (arith, l))

    never : (f : Phase) → r.phase ≡ f → switches_mode f ≡ false → Enabled f go n
    never f e t =
        let st = steady_reads f r (side_state (sends_end v) i) go e t count.0 h.outward in
        let w = st.1 (st.0 ∙ h.outward.late.0) in
        let c = count.1 in
        let u = small_unread r.phase in
        absurd (omega (arith, sum, few, w, c, u, many))

    by : (f : Phase) → r.phase ≡ f → Enabled r.phase go n
    by between e = subst (λ y. Enabled y go n) (sym e) (never between e refl)
    by (sends_end w) e = subst (λ y. Enabled y go n) (sym e) (never (sends_end w) e refl)
    by (awaits_ack z) e = subst (λ y. Enabled y go n) (sym e) (may_check z go n (omega (arith, many)))
    by checks_end e = subst (λ y. Enabled y go n) (sym e) (never checks_end e refl)
    by sends_ack e = subst (λ y. Enabled y go n) (sym e) (never sends_ack e refl)
    by was_closed e = subst (λ y. Enabled y go n) (sym e) (never was_closed e refl)
    by streams e = subst (λ y. Enabled y go n) (sym e) (never streams e refl)

-- OUTCT ACK of a plain input or of a slave's start pauses: the other side's CHKCT ACK is enabled
pub answer_justified : (i : Bool) (r : SideState) (go come : Direction) (n : ℕ) → TransitRel (side_state sends_ack i) r go come → go.link ≡ [] → length go.buffer ≡ 8 → Enabled r.phase go n
answer_justified i r go come n h link many = by r.phase refl
  where
    late : go.late ≡ []
    late = h.outward.late

    sum : length (ahead r.phase) + (length go.buffer + 1) ≡ length (unread r.phase) + length (encodes go.inbox)
    sum = unread_length (side_state sends_ack i) r go h.outward link late

    few : answers go.inbox ≤ 1
    few = few_answers r.phase (come.inbox ++ come.late) go.inbox h.theirs

    q : questions go.inbox ≡ []
    q = sym (ap questions (ap (λ l. go.inbox ++ l) late ∙ append-nil go.inbox)) ∙ choose h.mine
      where
        choose : Asked sends_ack (go.inbox ++ go.late) come.inbox → questions (go.inbox ++ go.late) ≡ []
        choose (is_open x a) = x
        choose (is_answered x a) = x

    len : length (encodes go.inbox) ≡ 4 * words_among go.inbox + answers go.inbox
    len = length_no_question go.inbox q

    steady : (f : Phase) → r.phase ≡ f → switches_mode f ≡ false → (reads_by f r.inside ≡ i) × (reads_by f r.inside ≡ false → words_among go.inbox ≡ 0)
    steady f e t = steady_reads f r (side_state sends_ack i) go e t (subst OnlyOffers (sym q) tt) h.outward

    outside : (f : Phase) → r.phase ≡ f → switches_mode f ≡ false → reads_by f r.inside ≡ false → Enabled f go n
    outside f e t z =
        let w = (steady f e t).1 z in
        let u = small_unread r.phase in
        absurd (omega (arith, sum, few, w, len, u, many))

    asks_none : (f : Phase) → r.phase ≡ f → asked f ≡ [] → length (unread f) ≡ 0 → Enabled f go n
    asks_none f e z u =
        let a = no_answers r.phase (come.inbox ++ come.late) go.inbox (ap asked e ∙ z) h.theirs in
        let x = ap (λ y. length (unread y)) e in
        parity (ahead_of f) a x u
      where
        ahead_of : (y : Phase) → (length (ahead y) ≡ 0) ⊎ (length (ahead y) ≡ 1)
        ahead_of between = inl refl
        ahead_of (sends_end v) = inl refl
        ahead_of (awaits_ack v) = inl refl
        ahead_of checks_end = inl refl
        ahead_of sends_ack = inl refl
        ahead_of was_closed = inr refl
        ahead_of streams = inl refl

        parity : (length (ahead f) ≡ 0) ⊎ (length (ahead f) ≡ 1) → answers go.inbox ≡ 0 → length (unread r.phase) ≡ length (unread f) → length (unread f) ≡ 0 → Enabled f go n
        parity (inl y) a x u = let p = ap (λ v. length (ahead v)) e in absurd (omega (arith, sum, len, many, a, x, u, y, p))
        parity (inr y) a x u = let p = ap (λ v. length (ahead v)) e in absurd (omega (arith, sum, len, many, a, x, u, y, p))

    late_of : (f : Phase) → r.phase ≡ f → LateBy f r.inside come.late
    late_of f e = subst (λ y. LateBy y r.inside come.late) e h.homeward.late

    by : (f : Phase) → r.phase ≡ f → Enabled r.phase go n
    by between e = subst (λ y. Enabled y go n) (sym e) (asks_none between e refl refl)
    by (sends_end w) e = subst (λ y. Enabled y go n) (sym e) (outside (sends_end w) e refl (late_of (sends_end w) e).0)
    by (awaits_ack z) e = subst (λ y. Enabled y go n) (sym e) (may_check z go n (omega (arith, many)))
    by checks_end e = subst (λ y. Enabled y go n) (sym e) (outside checks_end e refl (late_of checks_end e).0)
    by sends_ack e = subst (λ y. Enabled y go n) (sym e) (asks_none sends_ack e refl refl)
    by was_closed e = subst (λ y. Enabled y go n) (sym e) (asks_none was_closed e refl refl)
    by streams e = subst (λ y. Enabled y go n) (sym e) (asks_none streams e refl refl)

-- IN, or CHKCT of a slave, pauses: the inbox is empty
pub input_justified : (s r : SideState) (go come : Direction) → ahead s.phase ≡ [] → unread s.phase ≡ [] → asked s.phase ≡ [] → switches_mode s.phase ≡ false → TransitRel s r go come → come.link ≡ [] → take_word come.buffer ≡ NotYet → length come.buffer < 4 → come.inbox ≡ []
input_justified s r go come a u k t h link waits few = by come.inbox refl
  where
    near : come.buffer ++ h.homeward.more ≡ encodes come.inbox
    near = sym (ap (λ x. x ++ (come.buffer ++ h.homeward.more)) a) ∙ h.homeward.come ∙ ap (λ x. x ++ encodes come.inbox) u

    sent_is : unsent r.phase ≡ h.homeward.more ++ encodes come.late
    sent_is = sym (ap (λ x. x ++ unsent r.phase) link) ∙ h.homeward.coming

    small : (f : Phase) → length (unsent f) ≤ 1
    small between = omega arith
    small (sends_end v) = omega arith
    small (awaits_ack q) = omega arith
    small checks_end = omega arith
    small sends_ack = omega arith
    small was_closed = omega arith
    small streams = omega arith

    -- what is still owed begins with END or ACK
    owed : (x : Token) (xs : List Token) (f : Phase) → unsent f ≡ x ∷ xs → ((v : ℕ) × (f ≡ sends_end v) × (x ≡ END)) ⊎ (x ≡ ACK)
    owed x xs between e = cc
    owed x xs (sends_end v) e = inl (v, refl, (let z : END ≡ x = cc in sym z))
    owed x xs (awaits_ack q) e = cc
    owed x xs checks_end e = inr (let z : ACK ≡ x = cc in sym z)
    owed x xs sends_ack e = inr (let z : ACK ≡ x = cc in sym z)
    owed x xs was_closed e = cc
    owed x xs streams e = cc

    -- the sender has asked with an offer where it owes END
    no_closing : (v : ℕ) (ps : List Parcel) → come.inbox ≡ closing ∷ ps → r.phase ≡ sends_end v → ⊥
    no_closing v ps i e = so (subst (λ y. Asked y (come.inbox ++ come.late) go.inbox) e h.theirs)
      where
        first_q : questions (come.inbox ++ come.late) ≡ closes ∷ questions (ps ++ come.late)
        first_q = ap (λ l. questions (l ++ come.late)) i

        so : Asked (sends_end v) (come.inbox ++ come.late) go.inbox → ⊥
        so (is_open q x) = let z : closes ∷ questions (ps ++ come.late) ≡ offers v ∷ [] = sym first_q ∙ q in cc
        so (is_answered q x) = let z : closes ∷ questions (ps ++ come.late) ≡ [] = sym first_q ∙ q in cc

    -- where nothing of a parcel has come, its first token is owed
    first_owed : (x : Token) (xs : List Token) → h.homeward.more ≡ x ∷ xs → ((v : ℕ) × (r.phase ≡ sends_end v) × (x ≡ END)) ⊎ (x ≡ ACK)
    first_owed x xs e = owed x (xs ++ encodes come.late) r.phase (sent_is ∙ ap (λ y. y ++ encodes come.late) e)

    more_small : length h.homeward.more ≤ 1
    more_small = let b = ap length sent_is in let c = length-append h.homeward.more (encodes come.late) in let d = small r.phase in omega (arith, b, c, d)

    no_control : (c : ℕ) (p : Parcel) (ps : List Parcel) (b : List Token) → come.buffer ≡ b → come.inbox ≡ p ∷ ps → encode p ≡ control_token c ∷ [] → (h.homeward.more ≡ control_token c ∷ encodes ps → ⊥) → ⊥
    no_control c p ps [] x i e last = last (sym (ap (λ y. y ++ h.homeward.more) x) ∙ near ∙ ap encodes i ∙ ap (λ y. y ++ encodes ps) e)
    no_control c p ps (y ∷ ys) x i e last =
        let z : y ∷ (ys ++ h.homeward.more) ≡ control_token c ∷ encodes ps = sym (ap (λ w. w ++ h.homeward.more) x) ∙ near ∙ ap encodes i ∙ ap (λ w. w ++ encodes ps) e in
        let same : y ≡ control_token c = cc in
        let got : Control c ≡ NotYet = sym (ap (λ w. take_word (w ∷ ys)) same) ∙ sym (ap take_word x) ∙ waits in
        cc

    by_word : (v : ℕ) (ps : List Parcel) → come.inbox ≡ word v ∷ ps → (b : List Token) → come.buffer ≡ b → length b < 4 → b ++ h.homeward.more ≡ word_tokens v ++ encodes ps → ⊥
    by_word v ps i [] x lt e = let n = ap length e in omega (arith, n, more_small)
    by_word v ps i (y0 ∷ []) x lt e = let n = ap length e in omega (arith, n, more_small)
    by_word v ps i (y0 ∷ y1 ∷ []) x lt e = let n = ap length e in omega (arith, n, more_small)
    by_word v ps i (y0 ∷ y1 ∷ y2 ∷ []) x lt e = so (first_owed (data_token (v % 2 ^ 8)) (encodes ps) cc)
      where
        so : ((w : ℕ) × (r.phase ≡ sends_end w) × (data_token (v % 2 ^ 8) ≡ END)) ⊎ (data_token (v % 2 ^ 8) ≡ ACK) → ⊥
        so (inl z) = control_no_data 1 (v % 2 ^ 8) (sym z.2)
        so (inr z) = control_no_data 3 (v % 2 ^ 8) (sym z)
    by_word v ps i (y0 ∷ y1 ∷ y2 ∷ y3 ∷ ys) x lt e = omega arith

    by : (is : List Parcel) → come.inbox ≡ is → come.inbox ≡ []
    by [] i = i
    by (offer v ∷ ps) i =
        let n = ap length (near ∙ ap encodes i) in
        let m = length-append come.buffer h.homeward.more in
        absurd (omega (arith, n, m, more_small, few))
    by (opening ∷ ps) i = absurd (no_control 16 opening ps come.buffer refl i refl (λ e. elim (first_owed OPEN (encodes ps) e) [ inl z ↦ end_no_open (sym z.2) | inr z ↦ ack_no_open (sym z) ]))
    by (word v ∷ ps) i = absurd (by_word v ps i come.buffer refl few (near ∙ ap encodes i))
    by (closing ∷ ps) i = absurd (no_control 1 closing ps come.buffer refl i refl (λ e. elim (first_owed END (encodes ps) e) [ inl z ↦ no_closing z.0 ps i z.1 | inr z ↦ end_no_ack z ]))
    by (taken ∷ ps) i = let z : suc (answers ps) ≡ 0 = sym (ap answers i) ∙ no_answers s.phase (go.inbox ++ go.late) come.inbox k h.mine in absurd (omega (arith, z))
