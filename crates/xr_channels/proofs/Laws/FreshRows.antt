-- The law of fresh questions is kept by each row and by each arrival.
use Rattle.std.proofs.Common.{◌≡◌, ℕ, suc, Bool, true, false, List, [], ◌∷◌, ◌++◌, length, refl, sym, ap, ◌∙◌, subst, arith, append_assoc, append-nil, length-append, inl, inr}
use Rattle.std.specs.Prelude.{◌⊎◌}
use Rattle.xs_instr.specs.declared.state.Token.{Token}
use Rattle.xs_instr.specs.Ends.{word_tokens}
use Rattle.xc_meaning.specs.States.Channels.{Parcel, word, closing, taken}
use Rattle.xr_channels.specs.Phases.{END, ACK, Question, offers, closes, parcel_of, Phase, between, sends_end, awaits_ack, checks_end, sends_ack, was_closed, streams, SideState, side_state, encodes, asked, reads, questions, answers, Asked, is_open, is_answered, Direction, TransitRel}
use Rattle.xr_channels.specs.ChannelRel.{QuestionHasArrived, QuestionsArrived, ChannelRel}
use Rattle.xr_channels.proofs.Tokens.Lines.{no_question, nothing_both, none_there, questions_append, answers_append}
use Rattle.xr_channels.proofs.Sides.Sends.{talk_flip}
use Rattle.xr_channels.proofs.Tokens.Lines.{told_late, told_now, sent_on, read_to, come_on, put_late}
use Rattle.xr_channels.proofs.Laws.Fresh.{fresh_none, fresh_unserved, fresh_token, fresh_put, fresh_told, fresh_closing, fresh_taken, fresh_phase, reader_waits}

-- by inbox and buffer alone
pub fresh_same : (phase : Phase) (l k : Direction) → l.inbox ≡ k.inbox → l.buffer ≡ k.buffer → QuestionHasArrived phase l → QuestionHasArrived phase k
fresh_same phase l k i b h = record {
  come = λ v ps x qs e m.
      let old = h.come (subst (λ y. (asked phase ≡ []) ⊎ (answers y ≡ 1)) (sym i) v) ps x qs (i ∙ e) m in
      let n = ap length b in
      omega (arith, old, n);
}

-- tokens come
pub fresh_tokens : (phase : Phase) (l : Direction) (ks rest : List Token) → QuestionHasArrived phase l → QuestionHasArrived phase (record l { buffer = l.buffer ++ ks; link = rest })
fresh_tokens phase l ks rest h = record {
  come = λ v ps x qs e m.
      let old = h.come v ps x qs e m in
      let n = length-append l.buffer ks in
      omega (arith, old, n);
}

-- seen from the other side
pub fresh_flip : (s r : SideState) (go come : Direction) → QuestionsArrived s r go come → QuestionsArrived r s come go
fresh_flip s r go come h = record { mine = h.theirs; theirs = h.mine }

-- what stands, seen from the other side
pub stands_flip : (s r : SideState) (go come : Direction) → ChannelRel s r go come → ChannelRel r s come go
stands_flip s r go come h = record { talk = talk_flip s r go come h.talk; fresh = fresh_flip s r go come h.fresh }

-- What stands after tokens are sent: they are on their way to another core, or at the other end within the core.
pub record AfterSending (s r : SideState) (go come : Direction) (ks : List Token) (is_near : Type 0) : Type 0 where
  pub talk : TransitRel s r go come
  pub away : (is_near → ⊥) → QuestionsArrived s r go come
  pub close : is_near → QuestionsArrived s r (record go { buffer = go.buffer ++ ks; link = [] }) come

-- where the law holds on the way too
pub sent_any : (s r : SideState) (go come : Direction) (ks : List Token) (is_near : Type 0) → TransitRel s r go come → QuestionsArrived s r go come → AfterSending s r go come ks is_near
sent_any s r go come ks is_near h f = record { talk = h; away = λ n. f; close = λ n. record { mine = f.mine; theirs = fresh_tokens r.phase go ks [] f.theirs } }

-- a side between pieces has asked nothing
pub none_asked : (r : SideState) (go come : Direction) (b : Bool) → TransitRel (side_state between b) r go come → (questions go.inbox ≡ []) × (answers come.inbox ≡ 0)
none_asked r go come b h =
    let n = no_question (go.inbox ++ go.late) come.inbox h.mine in
    (sym (ap questions (ap (λ l. go.inbox ++ l) h.outward.late ∙ append-nil go.inbox)) ∙ n.0, n.1)

-- a question is asked: OUT of a plain output, OUTCT OPEN, with nothing put yet
pub asks_late : (q : Question) (phase : Phase) (i b : Bool) (r : SideState) (go come : Direction) (ks : List Token) (p : Parcel) → asked phase ≡ q ∷ [] → TransitRel (side_state between b) r go come → QuestionsArrived (side_state between b) r go come → QuestionsArrived (side_state phase i) r (told_late go ks p) come
asks_late q phase i b r go come ks p a h f = record {
  mine = fresh_unserved phase come q a (none_asked r go come b h).1;
  theirs = fresh_same r.phase go (told_late go ks p) refl refl f.theirs;
}

-- OUTCT END of a plain output
pub ends_fresh : (v : ℕ) (i : Bool) (r : SideState) (go come : Direction) (ks : List Token) → QuestionsArrived (side_state (sends_end v) i) r go come → QuestionsArrived (side_state (awaits_ack (offers v)) i) r (sent_on go ks) come
ends_fresh v i r go come ks f = record {
  mine = fresh_same (awaits_ack (offers v)) (record come { buffer = come.buffer }) come refl refl (fresh_phase (sends_end v) (awaits_ack (offers v)) come come.buffer (λ s. s) (omega arith) f.mine);
  theirs = fresh_same r.phase go (sent_on go ks) refl refl f.theirs;
}

-- a word inside is put
pub word_fresh : (v : ℕ) (b : Bool) (r : SideState) (go come : Direction) → TransitRel (side_state between b) r go come → QuestionsArrived (side_state between b) r go come → QuestionsArrived (side_state between b) r (told_now go (word_tokens v) (word v)) come
word_fresh v b r go come h f = record {
  mine = f.mine;
  theirs = fresh_told r.phase go (word v) (go.link ++ word_tokens v) (none_asked r go come b h).0 refl;
}

-- a master's closing is put
pub closing_fresh : (b i : Bool) (r : SideState) (go come : Direction) → TransitRel (side_state between b) r go come → QuestionsArrived (side_state between b) r go come → QuestionsArrived (side_state (awaits_ack closes) i) r (told_now go (END ∷ []) closing) come
closing_fresh b i r go come h f = record {
  mine = fresh_unserved (awaits_ack closes) come closes refl (none_asked r go come b h).1;
  theirs = fresh_closing r.phase go (go.link ++ END ∷ []) (none_asked r go come b h).0;
}

-- CHKCT ACK passes
pub ack_fresh : (q : Question) (i j : Bool) (r : SideState) (go come : Direction) (ts : List Token) (ps : List Parcel) → come.inbox ≡ taken ∷ ps → come.buffer ≡ ACK ∷ ts → TransitRel (side_state (awaits_ack q) i) r go come → QuestionsArrived (side_state (awaits_ack q) i) r go come → QuestionsArrived (side_state between j) r go (read_to come ts ps)
ack_fresh q i j r go come ts ps e b h f = record {
  mine = fresh_taken (awaits_ack q) between come taken ps ts e (λ s. inr (one h.mine)) (let n = ap length b in omega (arith, n)) f.mine;
  theirs = f.theirs;
}
  where
    one : Asked (awaits_ack q) (go.inbox ++ go.late) come.inbox → answers come.inbox ≡ 1
    one (is_open x a) = let z : suc (answers ps) ≡ 0 = sym (ap answers e) ∙ a in absurd (omega (arith, z))
    one (is_answered x a) = a

-- a question is taken and answered: IN of a plain input, CHKCT OPEN, OUTCT ACK of a slave's end
pub answers_fresh : (q : Question) (phase phase' : Phase) (b i : Bool) (r : SideState) (go come : Direction) (ks ts : List Token) (ps : List Parcel) → come.inbox ≡ parcel_of q ∷ ps → questions (parcel_of q ∷ ps) ≡ q ∷ questions ps → TransitRel (side_state phase b) r go come → questions go.inbox ≡ [] → QuestionsArrived (side_state phase' i) r (told_now go ks taken) (read_to come ts ps)
answers_fresh q phase phase' b i r go come ks ts ps e qe h none = record {
  mine = fresh_none phase' (read_to come ts ps) (rest h.theirs);
  theirs = fresh_told r.phase go taken (go.link ++ ks) none refl;
}
  where
    there : questions (come.inbox ++ come.late) ≡ q ∷ (questions ps ++ questions come.late)
    there = questions_append come.inbox come.late ∙ ap (λ k. questions k ++ questions come.late) e ∙ ap (λ k. k ++ questions come.late) qe

    first_of : (xs ys : List Question) → xs ++ ys ≡ [] → xs ≡ []
    first_of [] ys z = refl
    first_of (x ∷ xs) ys z = cc

    one : (p : Phase) → q ∷ (questions ps ++ questions come.late) ≡ asked p → questions ps ≡ []
    one between z = cc
    one (sends_end v) z = first_of (questions ps) (questions come.late) cc
    one (awaits_ack w) z = first_of (questions ps) (questions come.late) cc
    one checks_end z = cc
    one sends_ack z = cc
    one was_closed z = cc
    one streams z = cc

    rest : Asked r.phase (come.inbox ++ come.late) go.inbox → questions ps ≡ []
    rest (is_open x a) = one r.phase (sym there ∙ x)
    rest (is_answered x a) = let z : q ∷ (questions ps ++ questions come.late) ≡ [] = sym there ∙ x in cc

-- CHKCT END of a plain input and of a slave
pub end_fresh : (i : Bool) (r : SideState) (go come : Direction) (ts : List Token) → come.buffer ≡ END ∷ ts → QuestionsArrived (side_state checks_end i) r go come → QuestionsArrived (side_state sends_ack i) r go (read_to come ts come.inbox)
end_fresh i r go come ts b f = record {
  mine = fresh_same sends_ack (record come { buffer = ts }) (read_to come ts come.inbox) refl refl (fresh_phase checks_end sends_ack come ts (λ s. inl refl) (let n = ap length b in omega (arith, n)) f.mine);
  theirs = f.theirs;
}

-- of a slave's end
pub seen_fresh : (r : SideState) (go come : Direction) (ts : List Token) → come.buffer ≡ END ∷ ts → QuestionsArrived (side_state between true) r go come → QuestionsArrived (side_state was_closed true) r go (read_to come ts come.inbox)
seen_fresh r go come ts b f = record {
  mine = fresh_same was_closed (record come { buffer = ts }) (read_to come ts come.inbox) refl refl (fresh_phase between was_closed come ts (λ s. inl refl) (let n = ap length b in omega (arith, n)) f.mine);
  theirs = f.theirs;
}

-- OUTCT ACK of a plain input and of a slave's start
pub answer_fresh : (i : Bool) (r : SideState) (go come : Direction) → QuestionsArrived (side_state sends_ack i) r go come → QuestionsArrived (side_state between i) r (sent_on go (ACK ∷ [])) come
answer_fresh i r go come f = record {
  mine = fresh_same between (record come { buffer = come.buffer }) come refl refl (fresh_phase sends_ack between come come.buffer (λ s. inl refl) (omega arith) f.mine);
  theirs = fresh_same r.phase go (sent_on go (ACK ∷ [])) refl refl f.theirs;
}

-- IN inside
pub took_fresh : (v : ℕ) (r : SideState) (go come : Direction) (ts : List Token) (ps : List Parcel) → come.inbox ≡ word v ∷ ps → come.buffer ≡ word_tokens v ++ ts → QuestionsArrived (side_state between true) r go come → QuestionsArrived (side_state between true) r go (read_to come ts ps)
took_fresh v r go come ts ps e b f = record {
  mine = fresh_taken between between come (word v) ps ts e (λ s. inl refl) (let n = ap length b in omega (arith, n)) f.mine;
  theirs = f.theirs;
}

-- A token comes, and what was late may be put before.
pub token_fresh : (s r : SideState) (go come : Direction) (t : Token) (rest : List Token) → QuestionsArrived s r go come → QuestionsArrived s r (come_on go t rest) come
token_fresh s r go come t rest f = record { mine = f.mine; theirs = fresh_token r.phase go t rest f.theirs }

-- the late parcel is put, and its first token comes
pub late_fresh : (s r : SideState) (i : Bool) (go come : Direction) (p : Parcel) (ps : List Parcel) (t : Token) (rest : List Token) (h : TransitRel s r go come) → h.outward.more ≡ [] → answers (p ∷ []) ≡ 0 → QuestionsArrived s r go come → QuestionsArrived (side_state s.phase i) r (come_on (put_late go p ps) t rest) come
late_fresh s r i go come p ps t rest h all none f = record { mine = f.mine; theirs = fresh_put s r go p ps t rest h.outward all none f.theirs }

-- The sender's own trap puts its question early.
pub trap_fresh : (q : Question) (r : SideState) (i : Bool) (go come : Direction) (p : Parcel) (late : List Parcel) (x : Parcel) (ps : List Parcel) → TransitRel (side_state (awaits_ack q) false) r go come → reads (side_state (awaits_ack q) false) ≡ false → come.inbox ≡ x ∷ ps → answers (x ∷ []) ≡ 0 → answers (p ∷ []) ≡ 0 → QuestionsArrived (side_state (awaits_ack q) false) r go come → QuestionsArrived (side_state (awaits_ack q) i) r (put_late go p late) come
trap_fresh q r i go come p late x ps h out e wrong none f =
    let w = reader_waits q r go come x ps h out e wrong in
    let a = answers_append go.inbox (p ∷ []) in
    let z = w.2 in
    record { mine = f.mine; theirs = fresh_unserved r.phase (put_late go p late) w.0 w.1 (omega (arith, a, z, none)) }

-- A question is put within a core: its parcel is put, and all its tokens come.
pub put_close : (q : Question) (phase : Phase) (i b : Bool) (r : SideState) (go come : Direction) (p : Parcel) (t : Token) (ks : List Token) → asked phase ≡ q ∷ [] → answers (p ∷ []) ≡ 0 → go.link ≡ [] → TransitRel (side_state between b) r go come → QuestionsArrived (side_state between b) r go come → QuestionsArrived (side_state phase i) r (record { buffer = go.buffer ++ (t ∷ ks); link = []; inbox = go.inbox ++ p ∷ []; late = [] }) come
put_close q phase i b r go come p t ks a none link h f =
    let more : h.outward.more ≡ [] = (nothing_both h.outward.more (encodes go.late) (sym (ap (λ l. l ++ []) link) ∙ h.outward.coming)).0 in
    let first = fresh_put (side_state between b) r go p [] t [] h.outward more none f.theirs in
    let one : Direction = record go { buffer = go.buffer ++ t ∷ []; link = []; inbox = go.inbox ++ p ∷ []; late = [] } in
    let all = fresh_tokens r.phase one ks [] first in
    record {
      mine = fresh_unserved phase come q a (none_asked r go come b h).1;
      theirs = fresh_same r.phase (record one { buffer = one.buffer ++ ks; link = [] }) (record { buffer = go.buffer ++ (t ∷ ks); link = []; inbox = go.inbox ++ p ∷ []; late = [] }) refl (append_assoc go.buffer (t ∷ []) ks) all;
    }

-- a word of a streaming channel is sent, and put at once or later
pub stream_late : (r : SideState) (go come : Direction) (ks : List Token) (p : Parcel) → QuestionsArrived (side_state streams true) r go come → QuestionsArrived (side_state streams true) r (told_late go ks p) come
stream_late r go come ks p f = record { mine = f.mine; theirs = fresh_same r.phase go (told_late go ks p) refl refl f.theirs }

-- it is put at once
pub stream_told : (v : ℕ) (r : SideState) (go come : Direction) (link : List Token) → TransitRel (side_state streams true) r go come → QuestionsArrived (side_state streams true) r go come → QuestionsArrived (side_state streams true) r (record go { link = link; inbox = go.inbox ++ word v ∷ []; late = [] }) come
stream_told v r go come link h f = record {
  mine = f.mine;
  theirs = fresh_none r.phase (record go { link = link; inbox = go.inbox ++ word v ∷ []; late = [] }) (questions_append go.inbox (word v ∷ []) ∙ append-nil (questions go.inbox) ∙ none_there streams go.inbox go.late come.inbox refl h.mine);
}

-- IN on a streaming channel
pub stream_took : (v : ℕ) (r : SideState) (go come : Direction) (ts : List Token) (ps : List Parcel) → come.inbox ≡ word v ∷ ps → come.buffer ≡ word_tokens v ++ ts → QuestionsArrived (side_state streams true) r go come → QuestionsArrived (side_state streams true) r go (read_to come ts ps)
stream_took v r go come ts ps e b f = record {
  mine = fresh_taken streams streams come (word v) ps ts e (λ s. inl refl) (let n = ap length b in omega (arith, n)) f.mine;
  theirs = f.theirs;
}
