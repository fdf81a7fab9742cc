-- What stands between two sides once tokens are sent, with the program's step.
use Rattle.std.proofs.Common.{◌≡◌, ℕ, Bool, true, false, List, [], ◌∷◌, ◌++◌, refl, sym, ap, ◌∙◌, subst, arith, append_assoc, append-nil, inr}
use Rattle.xs_instr.specs.Ends.{word_tokens}
use Rattle.xc_meaning.specs.States.Channels.{Parcel, offer, opening, word, closing, taken}
use Rattle.xr_channels.specs.Phases.{END, ACK, OPEN, offers, opens, closes, Phase, between, sends_end, awaits_ack, sends_ack, streams, SideState, side_state, encodes, unread, ahead, switches_mode, reads, reads_by, AreWords, Path, questions, answers, Asked, is_open, is_answered, Direction, Transit, TransitRel}
use Rattle.xr_channels.proofs.Tokens.Lines.{grows_coming, owed_coming, told_coming, put_come, path_on, path_no_answer, one_path, questions_append, answers_append, no_question, asks_more, asks_put, sent_on, told_late, told_now}

-- seen from the other side
pub talk_flip : (s r : SideState) (go come : Direction) → TransitRel s r go come → TransitRel r s come go
talk_flip s r go come h = record { outward = h.homeward; homeward = h.outward; mine = h.theirs; theirs = h.mine }

-- a side without a question begins one, at which it is outside or goes out
asks_with : (t : Bool) (s r : SideState) (l : Direction) (phase : Phase) → answers l.inbox ≡ 0 → Transit r s l → (switches_mode phase ≡ t) → (e : ahead phase ≡ ahead s.phase) → (u : unread phase ≡ unread s.phase) → (i : Bool) → reads_by phase i ≡ reads s → Transit r (side_state phase i) l
asks_with t s r l phase none h is_t a u i same = record {
  more = h.more;
  coming = h.coming;
  come = ap (λ k. k ++ (l.buffer ++ h.more)) a ∙ h.come ∙ ap (λ k. k ++ encodes l.inbox) (sym u);
  path = path_no_answer (switches_mode s.phase) (switches_mode phase) (reads_by phase i) l.inbox r.inside none (subst (λ b. Path (switches_mode s.phase) b l.inbox r.inside) (sym same) h.path);
  late = h.late;
}

-- OUT of a plain output: the word's tokens go, and the offer is late
pub output_begins : (v : ℕ) (r : SideState) (go come : Direction) → TransitRel (side_state between false) r go come → TransitRel (side_state (sends_end v) false) r (told_late go (word_tokens v) (offer v)) come
output_begins v r go come h =
    let o = h.outward in
    let n = no_question (go.inbox ++ go.late) come.inbox h.mine in
    record {
      outward = record {
        more = o.more;
        coming = grows_coming go.link o.more (word_tokens v) [] (END ∷ []) go.late (offer v ∷ []) refl o.coming;
        come = o.come;
        path = o.path;
        late = (refl, inr (ap (λ l. l ++ offer v ∷ []) o.late));
      };
      homeward = asks_with false (side_state between false) r come (sends_end v) n.1 h.homeward refl refl refl false refl;
      mine = is_open (asks_more go.inbox go.late (offer v) n.0) n.1;
      theirs = h.theirs;
    }

-- OUTCT END of a plain output
pub output_ends : (v : ℕ) (i : Bool) (r : SideState) (go come : Direction) → TransitRel (side_state (sends_end v) i) r go come → TransitRel (side_state (awaits_ack (offers v)) i) r (sent_on go (END ∷ [])) come
output_ends v i r go come h =
    let o = h.outward in
    let b = h.homeward in
    record {
      outward = record {
        more = o.more;
        coming = owed_coming go.link (o.more ++ encodes go.late) (END ∷ []) (END ∷ []) [] refl o.coming;
        come = o.come;
        path = o.path;
        late = o.late;
      };
      homeward = record { more = b.more; coming = b.coming; come = b.come; path = b.path; late = b.late };
      mine = go_asked h.mine;
      theirs = h.theirs;
    }
  where
    go_asked : Asked (sends_end v) (go.inbox ++ go.late) come.inbox → Asked (awaits_ack (offers v)) (go.inbox ++ go.late) come.inbox
    go_asked (is_open q a) = is_open q a
    go_asked (is_answered q a) = is_answered q a

-- OUTCT OPEN of a master's start: the opening is late
pub master_begins : (r : SideState) (go come : Direction) → TransitRel (side_state between false) r go come → TransitRel (side_state (awaits_ack opens) false) r (told_late go (OPEN ∷ []) opening) come
master_begins r go come h =
    let o = h.outward in
    let n = no_question (go.inbox ++ go.late) come.inbox h.mine in
    record {
      outward = record {
        more = o.more;
        coming = grows_coming go.link o.more (OPEN ∷ []) [] [] go.late (opening ∷ []) refl o.coming;
        come = o.come;
        path = o.path;
        late = inr (refl, ap (λ l. l ++ opening ∷ []) o.late);
      };
      homeward = asks_with true (side_state between false) r come (awaits_ack opens) n.1 h.homeward refl refl refl false refl;
      mine = is_open (asks_more go.inbox go.late opening n.0) n.1;
      theirs = h.theirs;
    }

-- OUT inside a transaction: the word is put at once
pub word_put : (v : ℕ) (r : SideState) (go come : Direction) → TransitRel (side_state between true) r go come → TransitRel (side_state between true) r (told_now go (word_tokens v) (word v)) come
word_put v r go come h =
    let o = h.outward in
    let n = no_question (go.inbox ++ go.late) come.inbox h.mine in
    record {
      outward = record {
        more = o.more ++ word_tokens v;
        coming = told_coming go.link o.more (word_tokens v) [] [] (word v) go.late o.late refl o.coming;
        come = put_come (ahead r.phase) go.buffer o.more (unread r.phase) (word v) go.inbox o.come;
        path = path_on (switches_mode r.phase) (reads r) go.inbox true true (word v) o.path (one_path (switches_mode r.phase) true true (word v) refl);
        late = o.late;
      };
      homeward = h.homeward;
      mine = is_open (asks_put go.inbox go.late (word v) o.late n.0) n.1;
      theirs = still_asked h.theirs;
    }
  where
    still_asked : Asked r.phase (come.inbox ++ come.late) go.inbox → Asked r.phase (come.inbox ++ come.late) (go.inbox ++ word v ∷ [])
    still_asked (is_open q a) = let e = answers_append go.inbox (word v ∷ []) in is_open q (omega (arith, e, a))
    still_asked (is_answered q a) = let e = answers_append go.inbox (word v ∷ []) in is_answered q (omega (arith, e, a))

-- OUTCT END of a master's end: the closing is put at once
pub master_ends : (r : SideState) (go come : Direction) → TransitRel (side_state between true) r go come → TransitRel (side_state (awaits_ack closes) false) r (told_now go (END ∷ []) closing) come
master_ends r go come h =
    let o = h.outward in
    let n = no_question (go.inbox ++ go.late) come.inbox h.mine in
    record {
      outward = record {
        more = o.more ++ END ∷ [];
        coming = told_coming go.link o.more (END ∷ []) [] [] closing go.late o.late refl o.coming;
        come = put_come (ahead r.phase) go.buffer o.more (unread r.phase) closing go.inbox o.come;
        path = path_on (switches_mode r.phase) (reads r) go.inbox true false closing o.path (one_path (switches_mode r.phase) true false closing refl);
        late = (refl, o.late);
      };
      homeward = asks_with true (side_state between true) r come (awaits_ack closes) n.1 h.homeward refl refl refl false refl;
      mine = is_open (asks_put go.inbox go.late closing o.late n.0) n.1;
      theirs = still_asked h.theirs;
    }
  where
    still_asked : Asked r.phase (come.inbox ++ come.late) go.inbox → Asked r.phase (come.inbox ++ come.late) (go.inbox ++ closing ∷ [])
    still_asked (is_open q a) = let e = answers_append go.inbox (closing ∷ []) in is_open q (omega (arith, e, a))
    still_asked (is_answered q a) = let e = answers_append go.inbox (closing ∷ []) in is_answered q (omega (arith, e, a))

-- OUTCT ACK of a plain input or a slave's start
pub answer_sent : (i : Bool) (r : SideState) (go come : Direction) → TransitRel (side_state sends_ack i) r go come → TransitRel (side_state between i) r (sent_on go (ACK ∷ [])) come
answer_sent i r go come h =
    let o = h.outward in
    let d = h.homeward in
    record {
      outward = record {
        more = o.more;
        coming = owed_coming go.link (o.more ++ encodes go.late) (ACK ∷ []) (ACK ∷ []) [] refl o.coming;
        come = o.come;
        path = o.path;
        late = o.late;
      };
      homeward = record { more = d.more; coming = d.coming; come = d.come; path = d.path; late = d.late };
      mine = now_mine h.mine;
      theirs = h.theirs;
    }
  where
    now_mine : Asked sends_ack (go.inbox ++ go.late) come.inbox → Asked between (go.inbox ++ go.late) come.inbox
    now_mine (is_open q a) = is_open q a
    now_mine (is_answered q a) = is_answered q a

-- OUT on a streaming channel: the word is late
pub stream_begins : (v : ℕ) (r : SideState) (go come : Direction) → TransitRel (side_state streams true) r go come → TransitRel (side_state streams true) r (told_late go (word_tokens v) (word v)) come
stream_begins v r go come h =
    let o = h.outward in
    record {
      outward = record {
        more = o.more;
        coming = grows_coming go.link o.more (word_tokens v) [] [] go.late (word v ∷ []) refl o.coming;
        come = o.come;
        path = o.path;
        late = (refl, words_on go.late o.late.1);
      };
      homeward = h.homeward;
      mine = now_mine h.mine;
      theirs = h.theirs;
    }
  where
    words_on : (ps : List Parcel) → AreWords ps → AreWords (ps ++ word v ∷ [])
    words_on [] w = tt
    words_on (offer x ∷ ps) w = absurd w
    words_on (opening ∷ ps) w = absurd w
    words_on (word x ∷ ps) w = words_on ps w
    words_on (closing ∷ ps) w = absurd w
    words_on (taken ∷ ps) w = absurd w

    more_words : questions (go.inbox ++ go.late) ≡ [] → questions (go.inbox ++ (go.late ++ word v ∷ [])) ≡ []
    more_words q = ap questions (sym (append_assoc go.inbox go.late (word v ∷ []))) ∙ questions_append (go.inbox ++ go.late) (word v ∷ []) ∙ append-nil (questions (go.inbox ++ go.late)) ∙ q

    now_mine : Asked streams (go.inbox ++ go.late) come.inbox → Asked streams (go.inbox ++ (go.late ++ word v ∷ [])) come.inbox
    now_mine (is_open q a) = is_open (more_words q) a
    now_mine (is_answered q a) = is_answered (more_words q) a
