-- What stands between two sides once what was late is put, or a token comes.
use Rattle.std.proofs.Common.{◌≡◌, ℕ, Bool, true, false, List, [], ◌∷◌, ◌++◌, refl, sym, ap, ◌∙◌, subst, arith, append_assoc, inl, inr}
use Rattle.std.specs.Prelude.{◌⊎◌}
use Rattle.xs_instr.specs.declared.state.Token.{Token}
use Rattle.xs_instr.specs.Ends.{word_tokens}
use Rattle.xc_meaning.specs.States.Channels.{Parcel, offer, opening, word, closing, taken}
use Rattle.xr_channels.specs.Phases.{END, ACK, OPEN, opens, sends_end, awaits_ack, streams, SideState, side_state, encode, encodes, unsent, unread, ahead, switches_mode, reads, reads_by, LateBy, AreWords, Path, questions, answers, Asked, is_open, is_answered, Direction, Transit, TransitRel}
use Rattle.xr_channels.proofs.Tokens.Lines.{put_coming, put_come, path_on, one_path, answers_append, come_on, put_late}

-- the first late parcel is put
pub puts_first : (s r : SideState) (i : Bool) (go come : Direction) (p : Parcel) (rest : List Parcel) → go.late ≡ p ∷ rest → answers (p ∷ []) ≡ 0 → Path (switches_mode r.phase) s.inside (p ∷ []) i → LateBy s.phase i rest → reads_by s.phase i ≡ reads s → TransitRel s r go come → TransitRel (side_state s.phase i) r (put_late go p rest) come
puts_first s r i go come p rest e none path late same h =
    let o = h.outward in
    let b = h.homeward in
    record {
      outward = record {
        more = o.more ++ encode p;
        coming = put_coming (go.link ++ unsent s.phase) o.more p rest (o.coming ∙ ap (λ l. o.more ++ encodes l) e);
        come = put_come (ahead r.phase) go.buffer o.more (unread r.phase) p go.inbox o.come;
        path = path_on (switches_mode r.phase) (reads r) go.inbox s.inside i p o.path (one_path (switches_mode r.phase) s.inside i p path);
        late = late;
      };
      homeward = record { more = b.more; coming = b.coming; come = b.come; path = subst (λ x. Path (switches_mode s.phase) x come.inbox r.inside) (sym same) b.path; late = b.late };
      mine = now_mine h.mine;
      theirs = now_theirs h.theirs;
    }
  where
    same_list : (go.inbox ++ p ∷ []) ++ rest ≡ go.inbox ++ go.late
    same_list = append_assoc go.inbox (p ∷ []) rest ∙ ap (λ l. go.inbox ++ l) (sym e)

    now_mine : Asked s.phase (go.inbox ++ go.late) come.inbox → Asked s.phase ((go.inbox ++ p ∷ []) ++ rest) come.inbox
    now_mine (is_open q a) = is_open (ap questions same_list ∙ q) a
    now_mine (is_answered q a) = is_answered (ap questions same_list ∙ q) a

    now_theirs : Asked r.phase (come.inbox ++ come.late) go.inbox → Asked r.phase (come.inbox ++ come.late) (go.inbox ++ p ∷ [])
    now_theirs (is_open q a) = let k = answers_append go.inbox (p ∷ []) in is_open q (omega (arith, k, none, a))
    now_theirs (is_answered q a) = let k = answers_append go.inbox (p ∷ []) in is_answered q (omega (arith, k, none, a))

-- A late offer or opening is put at any time; a side that opens is inside from then on.
pub offer_put_early : (v : ℕ) (r : SideState) (go come : Direction) → go.late ≡ offer v ∷ [] → TransitRel (side_state (sends_end v) false) r go come → TransitRel (side_state (sends_end v) false) r (put_late go (offer v) []) come
offer_put_early v r go come e h = puts_first (side_state (sends_end v) false) r false go come (offer v) [] e refl refl (refl, inl refl) refl h

-- the opening of a master
pub opening_put : (r : SideState) (go come : Direction) → go.late ≡ opening ∷ [] → TransitRel (side_state (awaits_ack opens) false) r go come → TransitRel (side_state (awaits_ack opens) true) r (put_late go opening []) come
opening_put r go come e h = puts_first (side_state (awaits_ack opens) false) r true go come opening [] e refl refl (inl (refl, refl)) refl h

-- a word of a stream
pub stream_put : (v : ℕ) (rest : List Parcel) (r : SideState) (go come : Direction) → go.late ≡ word v ∷ rest → TransitRel (side_state streams true) r go come → TransitRel (side_state streams true) r (put_late go (word v) rest) come
stream_put v rest r go come e h =
    let words : AreWords rest = subst AreWords e h.outward.late.1 in
    puts_first (side_state streams true) r true go come (word v) rest e refl refl (refl, words) refl h

-- a token that belongs to the inbox comes
comes_way : (s r : SideState) (l : Direction) (t : Token) (rest m : List Token) (h : Transit s r l) → l.link ≡ t ∷ rest → h.more ≡ t ∷ m → Transit s r (come_on l t rest)
comes_way s r l t rest m h e k = record {
  more = m;
  coming = (let x : t ∷ (rest ++ unsent s.phase) ≡ t ∷ (m ++ encodes l.late) = ap (λ y. y ++ unsent s.phase) (sym e) ∙ h.coming ∙ ap (λ y. y ++ encodes l.late) k in cc);
  come = ap (λ y. ahead r.phase ++ y) (append_assoc l.buffer (t ∷ []) m ∙ ap (λ y. l.buffer ++ y) (sym k)) ∙ h.come;
  path = h.path;
  late = h.late;
}

-- the first token belongs to what is in the inbox, or something late is to be put first
pub comes_first : (s r : SideState) (l : Direction) (t : Token) (rest : List Token) (h : Transit s r l) → l.link ≡ t ∷ rest → ((m : List Token) × (h.more ≡ t ∷ m)) ⊎ ((h.more ≡ []) × (p : Parcel) × (ps : List Parcel) × (l.late ≡ p ∷ ps))
comes_first s r l t rest h e = by h.more l.late refl refl (ap (λ y. y ++ unsent s.phase) (sym e) ∙ h.coming)
  where
    by : (more : List Token) (late : List Parcel) → h.more ≡ more → l.late ≡ late → t ∷ (rest ++ unsent s.phase) ≡ more ++ encodes late → ((m : List Token) × (h.more ≡ t ∷ m)) ⊎ ((h.more ≡ []) × (p : Parcel) × (ps : List Parcel) × (l.late ≡ p ∷ ps))
    by (u ∷ m) late x y k = let same : u ≡ t = cc in inl (m, x ∙ ap (λ z. z ∷ m) same)
    by [] [] x y k = cc
    by [] (p ∷ ps) x y k = inr (x, p, ps, y)

-- a token that belongs to the inbox comes, and nothing else changes
pub token_comes : (s r : SideState) (go come : Direction) (t : Token) (rest m : List Token) (h : TransitRel s r go come) → go.link ≡ t ∷ rest → h.outward.more ≡ t ∷ m → TransitRel s r (come_on go t rest) come
token_comes s r go come t rest m h e k = record { outward = comes_way s r go t rest m h.outward e k; homeward = h.homeward; mine = h.mine; theirs = h.theirs }

-- no parcel is without tokens
encode_some : (p : Parcel) (more : List Token) → more ≡ [] → more ++ encode p ≡ [] → ⊥
encode_some (offer v) more e h = let k : word_tokens v ++ END ∷ [] ≡ [] = sym (ap (λ l. l ++ encode (offer v)) e) ∙ h in cc
encode_some opening more e h = let k : OPEN ∷ [] ≡ [] = sym (ap (λ l. l ++ encode opening) e) ∙ h in cc
encode_some (word v) more e h = let k : word_tokens v ≡ [] = sym (ap (λ l. l ++ encode (word v)) e) ∙ h in cc
encode_some closing more e h = let k : END ∷ [] ≡ [] = sym (ap (λ l. l ++ encode closing) e) ∙ h in cc
encode_some taken more e h = let k : ACK ∷ [] ≡ [] = sym (ap (λ l. l ++ encode taken) e) ∙ h in cc

-- what was late first is put, and then its first token comes
pub put_then_comes : (s r : SideState) (i : Bool) (go come : Direction) (p : Parcel) (rest : List Parcel) (e : go.late ≡ p ∷ rest) (none : answers (p ∷ []) ≡ 0) (path : Path (switches_mode r.phase) s.inside (p ∷ []) i) (late : LateBy s.phase i rest) (same : reads_by s.phase i ≡ reads s) (h : TransitRel s r go come) (t : Token) (l : List Token) → go.link ≡ t ∷ l → h.outward.more ≡ [] → TransitRel (side_state s.phase i) r (come_on (put_late go p rest) t l) come
unfolding puts_first
put_then_comes s r i go come p rest e none path late same h t l link first =
    let put = puts_first s r i go come p rest e none path late same h in
    by (comes_first (side_state s.phase i) r (put_late go p rest) t l put.outward link)
  where
    by : ((m : List Token) × ((puts_first s r i go come p rest e none path late same h).outward.more ≡ t ∷ m)) ⊎ (((puts_first s r i go come p rest e none path late same h).outward.more ≡ []) × (x : Parcel) × (ps : List Parcel) × (rest ≡ x ∷ ps)) → TransitRel (side_state s.phase i) r (come_on (put_late go p rest) t l) come
    by (inl m) = token_comes (side_state s.phase i) r (put_late go p rest) come t l m.0 (puts_first s r i go come p rest e none path late same h) link m.1
    by (inr m) = absurd (encode_some p h.outward.more first m.0)
