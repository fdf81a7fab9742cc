-- What stands between two sides once tokens are taken, with the program's step.
use Rattle.std.proofs.Common.{◌≡◌, ℕ, suc, Bool, true, false, List, [], ◌∷◌, ◌++◌, length, refl, sym, ap, ◌∙◌, subst, arith, inl, inr}
use Rattle.xs_instr.specs.declared.state.Token.{Token}
use Rattle.xs_instr.specs.Ends.{word_tokens}
use Rattle.xc_meaning.specs.States.Channels.{Parcel, offer, opening, word, closing, taken}
use Rattle.xr_channels.specs.Phases.{END, ACK, OPEN, Question, offers, opens, closes, parcel_of, Phase, between, sends_end, awaits_ack, checks_end, sends_ack, was_closed, streams, SideState, side_state, encode, encodes, unsent, unread, ahead, asked, switches_mode, reads, reads_by, LateBy, Path, questions, answers, Asked, is_open, is_answered, Direction, Transit, TransitRel}
use Rattle.xr_channels.proofs.Tokens.Lines.{told_coming, put_come, path_on, path_no_answer, one_path, questions_append, answers_append, no_question, asks_put, read_to, told_now}

-- A parcel of the own inbox is taken with its first tokens.
takes_home : (s s' r : SideState) (ts : List Token) (l : Direction) (p : Parcel) (ps : List Parcel) → l.inbox ≡ p ∷ ps → ((more : List Token) → ahead s.phase ++ (l.buffer ++ more) ≡ unread s.phase ++ (encode p ++ encodes ps) → ahead s'.phase ++ (ts ++ more) ≡ unread s'.phase ++ encodes ps) → (Path (switches_mode s.phase) (reads s) (p ∷ ps) r.inside → Path (switches_mode s'.phase) (reads s') ps r.inside) → Transit r s l → Transit r s' (read_to l ts ps)
takes_home s s' r ts l p ps e cut path h = record {
  more = h.more;
  coming = h.coming;
  come = cut h.more (h.come ∙ ap (λ k. unread s.phase ++ encodes k) e);
  path = path (subst (λ k. Path (switches_mode s.phase) (reads s) k r.inside) e h.path);
  late = h.late;
}

-- CHKCT ACK passes: the answer is taken
answered_path : (q : Question) (i : Bool) (ps : List Parcel) (to : Bool) → answers ps ≡ 0 → LateBy (awaits_ack q) i [] → Path (switches_mode (awaits_ack q)) (reads_by (awaits_ack q) i) (taken ∷ ps) to → Path false i ps to
answered_path (offers v) i ps to none late h = h
answered_path opens true ps to none late h = path_no_answer true false true ps to none h
answered_path opens false ps to none (inl late) h = cc
answered_path opens false ps to none (inr late) h = cc
answered_path closes false ps to none late h = path_no_answer true false false ps to none h
answered_path closes true ps to none late h = cc

-- the side goes on behind its CHKCT ACK
pub answer_taken : (q : Question) (i : Bool) (r : SideState) (go come : Direction) (ts : List Token) (ps : List Parcel) → go.late ≡ [] → come.inbox ≡ taken ∷ ps → come.buffer ≡ ACK ∷ ts → TransitRel (side_state (awaits_ack q) i) r go come → TransitRel (side_state between i) r go (read_to come ts ps)
answer_taken q i r go come ts ps on_time e b h =
    let o = h.outward in
    let n = got h.mine in
    record {
      outward = record { more = o.more; coming = o.coming; come = o.come; path = o.path; late = on_time };
      homeward =
          takes_home (side_state (awaits_ack q) i) (side_state between i) r ts come taken ps e
          (λ more k. let k' : ACK ∷ (ts ++ more) ≡ ACK ∷ encodes ps = ap (λ x. x ++ more) (sym b) ∙ k in cc)
          (λ k. answered_path q i ps r.inside n.1 (subst (λ x. LateBy (awaits_ack q) i x) on_time o.late) k)
          h.homeward;
      mine = is_open n.0 n.1;
      theirs = now_theirs h.theirs;
    }
  where
    got : Asked (awaits_ack q) (go.inbox ++ go.late) come.inbox → (questions (go.inbox ++ go.late) ≡ []) × (answers ps ≡ 0)
    got (is_open x a) = let z : suc (answers ps) ≡ 0 = sym (ap answers e) ∙ a in absurd (omega (arith, z))
    got (is_answered x a) = let z : suc (answers ps) ≡ 1 = sym (ap answers e) ∙ a in (x, omega (arith, z))

    now_theirs : Asked r.phase (come.inbox ++ come.late) go.inbox → Asked r.phase (ps ++ come.late) go.inbox
    now_theirs (is_open x a) = is_open (ap (λ k. questions (k ++ come.late)) (sym e) ∙ x) a
    now_theirs (is_answered x a) = is_answered (ap (λ k. questions (k ++ come.late)) (sym e) ∙ x) a

-- what is answered was on time
pub answered_on_time : (q : Question) (i : Bool) (r : SideState) (go come : Direction) (ps : List Parcel) → come.inbox ≡ taken ∷ ps → TransitRel (side_state (awaits_ack q) i) r go come → go.late ≡ []
answered_on_time q i r go come ps e h = by q h.outward.late (none h.mine)
  where
    none : Asked (awaits_ack q) (go.inbox ++ go.late) come.inbox → questions go.inbox ++ questions go.late ≡ []
    none (is_open x a) = let z : suc (answers ps) ≡ 0 = sym (ap answers e) ∙ a in absurd (omega (arith, z))
    none (is_answered x a) = sym (questions_append go.inbox go.late) ∙ x

    some : (qs : List Question) (x : Question) → qs ++ x ∷ [] ≡ [] → ⊥
    some [] x z = cc
    some (y ∷ qs) x z = cc

    by : (z : Question) → LateBy (awaits_ack z) i go.late → questions go.inbox ++ questions go.late ≡ [] → go.late ≡ []
    by (offers v) (out, inl l) n = l
    by (offers v) (out, inr l) n = absurd (some (questions go.inbox) (offers v) (ap (λ k. questions go.inbox ++ questions k) (sym l) ∙ n))
    by opens (inl (within, l)) n = l
    by opens (inr (out, l)) n = absurd (some (questions go.inbox) opens (ap (λ k. questions go.inbox ++ questions k) (sym l) ∙ n))
    by closes (out, l) n = l

-- the one who asked, by the question that stands here
asker : (phase : Phase) (q : Question) (qs : List Question) (there here : List Parcel) → questions there ≡ q ∷ qs → Asked phase there here → (asked phase ≡ q ∷ []) × (qs ≡ []) × (answers here ≡ 0)
asker phase q qs there here e (is_answered x a) = let none : q ∷ qs ≡ [] = sym e ∙ x in cc
asker phase q qs there here e (is_open x a) = by phase (sym x ∙ e)
  where
    by : (f : Phase) → asked f ≡ q ∷ qs → (asked f ≡ q ∷ []) × (qs ≡ []) × (answers here ≡ 0)
    by between k = cc
    by (sends_end v) k = let z : qs ≡ [] = cc in (k ∙ ap (λ l. q ∷ l) z, z, a)
    by (awaits_ack p) k = let z : qs ≡ [] = cc in (k ∙ ap (λ l. q ∷ l) z, z, a)
    by checks_end k = cc
    by sends_ack k = cc
    by was_closed k = cc
    by streams k = cc

-- whether the answer to a question leads into a transaction or out of it
abbrev pub turns_question : Question → Bool
turns_question (offers v) = false
turns_question opens = true
turns_question closes = true

-- as its phase says
asked_turns : (phase : Phase) (q : Question) → asked phase ≡ q ∷ [] → switches_mode phase ≡ turns_question q
asked_turns between q h = cc
asked_turns (sends_end v) (offers w) h = refl
asked_turns (sends_end v) opens h = cc
asked_turns (sends_end v) closes h = cc
asked_turns (awaits_ack (offers v)) (offers w) h = refl
asked_turns (awaits_ack (offers v)) opens h = cc
asked_turns (awaits_ack (offers v)) closes h = cc
asked_turns (awaits_ack opens) (offers w) h = cc
asked_turns (awaits_ack opens) opens h = refl
asked_turns (awaits_ack opens) closes h = refl
asked_turns (awaits_ack closes) (offers w) h = cc
asked_turns (awaits_ack closes) opens h = refl
asked_turns (awaits_ack closes) closes h = refl
asked_turns checks_end q h = cc
asked_turns sends_ack q h = cc
asked_turns was_closed q h = cc
asked_turns streams q h = cc

-- A question is taken and its answer put. The reader's phase goes from one without a question to another such, and it sends ks of the
-- answer at once.
answers_question : (q : Question) (s s' r : SideState) (ks ts : List Token) (go come : Direction) (ps : List Parcel) → come.inbox ≡ parcel_of q ∷ ps → questions (parcel_of q ∷ ps) ≡ q ∷ questions ps → answers (parcel_of q ∷ ps) ≡ answers ps → asked s.phase ≡ [] → asked s'.phase ≡ [] → ((there here : List Parcel) → Asked s.phase there here → (questions there ≡ []) × (answers here ≡ 0)) → go.late ≡ [] → ks ++ unsent s'.phase ≡ unsent s.phase ++ ACK ∷ [] → ((more : List Token) → ahead s.phase ++ (come.buffer ++ more) ≡ unread s.phase ++ (encode (parcel_of q) ++ encodes ps) → ahead s'.phase ++ (ts ++ more) ≡ unread s'.phase ++ encodes ps) → (Path (switches_mode s.phase) (reads s) (parcel_of q ∷ ps) r.inside → Path (switches_mode s'.phase) (reads s') ps r.inside) → Path (turns_question q) s.inside (taken ∷ []) s'.inside → LateBy s'.phase s'.inside go.late → TransitRel s r go come → TransitRel s' r (told_now go ks taken) (read_to come ts ps)
answers_question q s s' r ks ts go come ps e qe ae none none' nothing on_time sends cut path out_path late h =
    let o = h.outward in
    let n = nothing (go.inbox ++ go.late) come.inbox h.mine in
    let there : questions (come.inbox ++ come.late) ≡ q ∷ questions (ps ++ come.late) =
    questions_append come.inbox come.late ∙ ap (λ k. questions k ++ questions come.late) e ∙ ap (λ k. k ++ questions come.late) qe ∙ ap (λ k. q ∷ k) (sym (questions_append ps come.late)) in
    let by = asker r.phase q (questions (ps ++ come.late)) (come.inbox ++ come.late) go.inbox there h.theirs in
    let count = answers_append go.inbox (taken ∷ []) in
    let zero_there = by.2 in
    record {
      outward = record {
        more = o.more ++ ACK ∷ [];
        coming = told_coming go.link o.more ks (unsent s.phase) (unsent s'.phase) taken go.late on_time sends o.coming;
        come = put_come (ahead r.phase) go.buffer o.more (unread r.phase) taken go.inbox o.come;
        path = path_on (switches_mode r.phase) (reads r) go.inbox s.inside s'.inside taken o.path (one_path (switches_mode r.phase) s.inside s'.inside taken (subst (λ t. Path t s.inside (taken ∷ []) s'.inside) (sym (asked_turns r.phase q by.0)) out_path));
        late = late;
      };
      homeward = takes_home s s' r ts come (parcel_of q) ps e cut path h.homeward;
      mine = is_open (asks_put go.inbox go.late taken on_time n.0 ∙ sym none') (sym ae ∙ ap answers (sym e) ∙ n.1);
      theirs = is_answered by.1 (let one : length (asked r.phase) ≡ 1 = ap length by.0 in omega (arith, count, zero_there, one));
    }

-- IN of a plain input
pub offer_taken : (v : ℕ) (r : SideState) (go come : Direction) (ts : List Token) (ps : List Parcel) → come.inbox ≡ offer v ∷ ps → come.buffer ≡ word_tokens v ++ ts → TransitRel (side_state between false) r go come → TransitRel (side_state checks_end false) r (told_now go [] taken) (read_to come ts ps)
offer_taken v r go come ts ps e b h =
    answers_question (offers v) (side_state between false) (side_state checks_end false) r [] ts go come ps e refl refl refl refl no_question h.outward.late refl
    (λ more k. let k' : (word_tokens v ++ ts) ++ more ≡ (word_tokens v ++ END ∷ []) ++ encodes ps = ap (λ x. x ++ more) (sym b) ∙ k in cc)
    (λ k. k) refl (refl, h.outward.late) h

-- CHKCT OPEN of a slave's start passes
pub opening_taken : (r : SideState) (go come : Direction) (ts : List Token) (ps : List Parcel) → come.inbox ≡ opening ∷ ps → come.buffer ≡ OPEN ∷ ts → TransitRel (side_state between false) r go come → TransitRel (side_state sends_ack true) r (told_now go [] taken) (read_to come ts ps)
opening_taken r go come ts ps e b h =
    answers_question opens (side_state between false) (side_state sends_ack true) r [] ts go come ps e refl refl refl refl no_question h.outward.late refl
    (λ more k. let k' : OPEN ∷ (ts ++ more) ≡ OPEN ∷ encodes ps = ap (λ x. x ++ more) (sym b) ∙ k in cc)
    (λ k. k) refl h.outward.late h

-- OUTCT ACK of a slave's end
pub closing_answered : (r : SideState) (go come : Direction) (ps : List Parcel) → come.inbox ≡ closing ∷ ps → TransitRel (side_state was_closed true) r go come → TransitRel (side_state between false) r (told_now go (ACK ∷ []) taken) (read_to come come.buffer ps)
closing_answered r go come ps e h =
    answers_question closes (side_state was_closed true) (side_state between false) r (ACK ∷ []) come.buffer go come ps e refl refl refl refl closed h.outward.late.1 refl
    (λ more k. cc)
    (λ k. k) refl h.outward.late.1 h
  where
    closed : (there here : List Parcel) → Asked was_closed there here → (questions there ≡ []) × (answers here ≡ 0)
    closed there here (is_open q a) = (q, a)
    closed there here (is_answered q a) = (q, a)

-- CHKCT END of a plain input
pub end_taken : (i : Bool) (r : SideState) (go come : Direction) (ts : List Token) → come.buffer ≡ END ∷ ts → TransitRel (side_state checks_end i) r go come → TransitRel (side_state sends_ack i) r go (read_to come ts come.inbox)
end_taken i r go come ts b h =
    let o = h.outward in
    let d = h.homeward in
    record {
      outward = record { more = o.more; coming = o.coming; come = o.come; path = o.path; late = o.late.1 };
      homeward = record {
        more = d.more;
        coming = d.coming;
        come = (let k : END ∷ (ts ++ d.more) ≡ END ∷ encodes come.inbox = ap (λ x. x ++ d.more) (sym b) ∙ d.come in cc);
        path = d.path;
        late = d.late;
      };
      mine = now_mine h.mine;
      theirs = h.theirs;
    }
  where
    now_mine : Asked checks_end (go.inbox ++ go.late) come.inbox → Asked sends_ack (go.inbox ++ go.late) come.inbox
    now_mine (is_open q a) = is_open q a
    now_mine (is_answered q a) = is_answered q a

-- a word is taken
takes_word : (v : ℕ) (s r : SideState) (go come : Direction) (ts : List Token) (ps : List Parcel) → ahead s.phase ≡ [] → unread s.phase ≡ [] → reads s ≡ true → come.inbox ≡ word v ∷ ps → come.buffer ≡ word_tokens v ++ ts → TransitRel s r go come → TransitRel s r go (read_to come ts ps)
takes_word v s r go come ts ps a u in_it e b h = record {
  outward = h.outward;
  homeward =
      takes_home s s r ts come (word v) ps e
      (λ more k.
      let k' : (word_tokens v ++ ts) ++ more ≡ word_tokens v ++ encodes ps = ap (λ x. x ++ more) (sym b) ∙ sym (ap (λ x. x ++ (come.buffer ++ more)) a) ∙ k ∙ ap (λ x. x ++ (word_tokens v ++ encodes ps)) u in
      let m : ts ++ more ≡ encodes ps = cc in ap (λ x. x ++ (ts ++ more)) a ∙ m ∙ sym (ap (λ x. x ++ encodes ps) u))
      (λ k. subst (λ x. Path (switches_mode s.phase) x ps r.inside) (sym in_it) (subst (λ x. Path (switches_mode s.phase) x (word v ∷ ps) r.inside) in_it k))
      h.homeward;
  mine = now_mine h.mine;
  theirs = now_theirs h.theirs;
}
  where
    now_mine : Asked s.phase (go.inbox ++ go.late) come.inbox → Asked s.phase (go.inbox ++ go.late) ps
    now_mine (is_open q x) = is_open q (sym (ap answers e) ∙ x)
    now_mine (is_answered q x) = is_answered q (sym (ap answers e) ∙ x)

    now_theirs : Asked r.phase (come.inbox ++ come.late) go.inbox → Asked r.phase (ps ++ come.late) go.inbox
    now_theirs (is_open q x) = is_open (ap (λ k. questions (k ++ come.late)) (sym e) ∙ q) x
    now_theirs (is_answered q x) = is_answered (ap (λ k. questions (k ++ come.late)) (sym e) ∙ q) x

-- IN inside a transaction, and on a streaming channel
pub word_taken : (v : ℕ) (r : SideState) (go come : Direction) (ts : List Token) (ps : List Parcel) → come.inbox ≡ word v ∷ ps → come.buffer ≡ word_tokens v ++ ts → TransitRel (side_state between true) r go come → TransitRel (side_state between true) r go (read_to come ts ps)
word_taken v r go come ts ps e b h = takes_word v (side_state between true) r go come ts ps refl refl refl e b h

-- on a streaming channel
pub stream_taken : (v : ℕ) (r : SideState) (go come : Direction) (ts : List Token) (ps : List Parcel) → come.inbox ≡ word v ∷ ps → come.buffer ≡ word_tokens v ++ ts → TransitRel (side_state streams true) r go come → TransitRel (side_state streams true) r go (read_to come ts ps)
stream_taken v r go come ts ps e b h = takes_word v (side_state streams true) r go come ts ps refl refl refl e b h

-- CHKCT END of a slave's end passes
pub closing_seen : (r : SideState) (go come : Direction) (ts : List Token) → come.buffer ≡ END ∷ ts → TransitRel (side_state between true) r go come → TransitRel (side_state was_closed true) r go (read_to come ts come.inbox)
closing_seen r go come ts b h =
    let o = h.outward in
    let d = h.homeward in
    record {
      outward = record { more = o.more; coming = o.coming; come = o.come; path = o.path; late = (refl, o.late) };
      homeward = record {
        more = d.more;
        coming = d.coming;
        come = ap (λ x. x ++ d.more) (sym b) ∙ d.come;
        path = d.path;
        late = d.late;
      };
      mine = now_mine h.mine;
      theirs = h.theirs;
    }
  where
    now_mine : Asked between (go.inbox ++ go.late) come.inbox → Asked was_closed (go.inbox ++ go.late) come.inbox
    now_mine (is_open q a) = is_open q a
    now_mine (is_answered q a) = is_answered q a
