-- An offer or an opening stands in an inbox only once its first token has come, but for one whose reader waits for an answer in vain. So where no
-- token is at the end of a select's channel, its inbox is empty.
use Rattle.std.proofs.Common.{◌≡◌, ◌≤◌, suc, ◌+◌, Bool, true, false, List, [], ◌∷◌, ◌++◌, length, refl, sym, ap, ◌∙◌, subst, arith, length-append, inl, inr}
use Rattle.std.specs.Prelude.{◌⊎◌}
use Rattle.xs_instr.specs.declared.state.Token.{Token}
use Rattle.xc_meaning.specs.States.Channels.{Parcel, offer, opening, word, closing, taken}
use Rattle.xr_channels.specs.Phases.{Question, offers, opens, closes, Phase, between, sends_end, awaits_ack, checks_end, sends_ack, was_closed, streams, SideState, side_state, encode, encodes, unread, ahead, asked, switches_mode, reads, Path, questions, answers, Asked, is_open, is_answered, Direction, Transit, TransitRel}
use Rattle.xr_channels.specs.ChannelRel.{may_be_early, IsServed, QuestionHasArrived}
use Rattle.xr_channels.proofs.Tokens.Lines.{no_question, questions_append, answers_append}

-- such a parcel is a question
some_question : (ps : List Parcel) (x : Parcel) (qs : List Parcel) → may_be_early x ≡ true → questions (ps ++ (x ∷ qs)) ≡ [] → ⊥
some_question [] (offer v) qs m h = cc
some_question [] opening qs m h = cc
some_question [] (word v) qs m h = cc
some_question [] closing qs m h = cc
some_question [] taken qs m h = cc
some_question (offer v ∷ ps) x qs m h = cc
some_question (opening ∷ ps) x qs m h = cc
some_question (word v ∷ ps) x qs m h = some_question ps x qs m h
some_question (closing ∷ ps) x qs m h = cc
some_question (taken ∷ ps) x qs m h = some_question ps x qs m h

-- without a question there is nothing to show
pub fresh_none : (phase : Phase) (l : Direction) → questions l.inbox ≡ [] → QuestionHasArrived phase l
fresh_none phase l none = record { come = λ s ps x qs e m. absurd (some_question ps x qs m (sym (ap questions e) ∙ none)) }

-- nor where the reader waits in vain
pub fresh_unserved : (phase : Phase) (l : Direction) (q : Question) → asked phase ≡ q ∷ [] → answers l.inbox ≡ 0 → QuestionHasArrived phase l
fresh_unserved phase l q a none = record { come = λ s ps x qs e m. absurd (no s) }
  where
    no : IsServed phase l → ⊥
    no (inl z) = let k : q ∷ [] ≡ [] = sym a ∙ z in cc
    no (inr z) = omega (arith, z, none)

-- a token comes
pub fresh_token : (phase : Phase) (l : Direction) (t : Token) (rest : List Token) → QuestionHasArrived phase l → QuestionHasArrived phase (record l { buffer = l.buffer ++ t ∷ []; link = rest })
fresh_token phase l t rest h = record {
  come = λ s ps x qs e m.
      let old = h.come s ps x qs e m in
      let n = length-append l.buffer (t ∷ []) in
      omega (arith, old, n);
}

-- the last of a list, or what is before it
split_last : (inbox ps : List Parcel) (p x : Parcel) (qs : List Parcel) → inbox ++ p ∷ [] ≡ ps ++ (x ∷ qs) → ((p ≡ x) × (inbox ≡ ps)) ⊎ ((rs : List Parcel) × (inbox ≡ ps ++ (x ∷ rs)))
split_last [] [] p x qs e = let z : p ≡ x = cc in inl (z, refl)
split_last [] (y ∷ []) p x qs e = cc
split_last [] (y ∷ w ∷ ps) p x qs e = cc
split_last (i ∷ inbox) [] p x qs e = let z : i ≡ x = cc in inr (inbox, ap (λ k. k ∷ inbox) z)
split_last (i ∷ inbox) (y ∷ ps) p x qs e =
    let z : i ≡ y = cc in
    let r : inbox ++ p ∷ [] ≡ ps ++ (x ∷ qs) = cc in
    elim (split_last inbox ps p x qs r) [ inl k ↦ inl (k.0, ap (λ l. i ∷ l) k.1 ∙ ap (λ v. v ∷ ps) z) | inr k ↦ inr (k.0, ap (λ l. i ∷ l) k.1 ∙ ap (λ v. v ∷ (ps ++ (x ∷ k.0))) z) ]

-- a parcel that was late is put, and its first token comes: all of the parcels before it has come
pub fresh_put : (s r : SideState) (l : Direction) (p : Parcel) (late : List Parcel) (t : Token) (rest : List Token) (h : Transit s r l) → h.more ≡ [] → answers (p ∷ []) ≡ 0 → QuestionHasArrived r.phase l → QuestionHasArrived r.phase (record l { buffer = l.buffer ++ t ∷ []; link = rest; inbox = l.inbox ++ p ∷ []; late = late })
fresh_put s r l p late t rest h all none old = record { come = λ v ps x qs e m. by v ps x qs m (split_last l.inbox ps p x qs e) }
  where
    whole : length (ahead r.phase) + length l.buffer ≡ length (unread r.phase) + length (encodes l.inbox)
    whole =
        let a = ap length h.come in
        let b = length-append (ahead r.phase) (l.buffer ++ h.more) in
        let c = length-append l.buffer h.more in
        let d = length-append (unread r.phase) (encodes l.inbox) in
        let e = ap length all in
        omega (arith, a, b, c, d, e)

    served : IsServed r.phase (record l { buffer = l.buffer ++ t ∷ []; link = rest; inbox = l.inbox ++ p ∷ []; late = late }) → IsServed r.phase l
    served (inl z) = inl z
    served (inr z) = let a = answers_append l.inbox (p ∷ []) in inr (omega (arith, z, a, none))

    by : IsServed r.phase (record l { buffer = l.buffer ++ t ∷ []; link = rest; inbox = l.inbox ++ p ∷ []; late = late }) → (ps : List Parcel) (x : Parcel) (qs : List Parcel) → may_be_early x ≡ true → ((p ≡ x) × (l.inbox ≡ ps)) ⊎ ((rs : List Parcel) × (l.inbox ≡ ps ++ (x ∷ rs))) → length (unread r.phase) + length (encodes ps) + 1 ≤ length (ahead r.phase) + length (l.buffer ++ t ∷ [])
    by v ps x qs m (inl k) =
        let n = length-append l.buffer (t ∷ []) in
        let e = ap (λ y. length (encodes y)) k.1 in
        omega (arith, whole, n, e)
    by v ps x qs m (inr k) =
        let n = length-append l.buffer (t ∷ []) in
        let o = old.come (served v) ps x k.0 k.1 m in
        omega (arith, n, o)

-- a parcel that cannot be late is put by one who has asked nothing
pub fresh_told : (phase : Phase) (l : Direction) (p : Parcel) (link : List Token) → questions l.inbox ≡ [] → questions (p ∷ []) ≡ [] → QuestionHasArrived phase (record l { link = link; inbox = l.inbox ++ p ∷ [] })
fresh_told phase l p link none q = fresh_none phase (record l { link = link; inbox = l.inbox ++ p ∷ [] }) (questions_append l.inbox (p ∷ []) ∙ ap (λ k. k ++ questions (p ∷ [])) none ∙ q)

-- A master's closing is put. It stands at the end, and nothing before it is a question.
pub fresh_closing : (phase : Phase) (l : Direction) (link : List Token) → questions l.inbox ≡ [] → QuestionHasArrived phase (record l { link = link; inbox = l.inbox ++ closing ∷ [] })
fresh_closing phase l link none = record { come = λ v ps x qs e m. by x m (split_last l.inbox ps closing x qs e) ps }
  where
    by : (x : Parcel) → may_be_early x ≡ true → {ps : List Parcel} → ((closing ≡ x) × (l.inbox ≡ ps)) ⊎ ((rs : List Parcel) × (l.inbox ≡ ps ++ (x ∷ rs))) → (qs : List Parcel) → length (unread phase) + length (encodes ps) + 1 ≤ length (ahead phase) + length l.buffer
    by x m (inl k) qs = let z : false ≡ true = ap may_be_early k.0 ∙ m in cc
    by x m {ps} (inr k) qs = absurd (some_question ps x k.0 m (sym (ap questions k.1) ∙ none))

-- The first parcel is taken, with as many tokens as it has; `served` says that the reader was served before.
pub fresh_taken : (phase phase' : Phase) (l : Direction) (p : Parcel) (ps : List Parcel) (ts : List Token) → l.inbox ≡ p ∷ ps → (IsServed phase' (record l { buffer = ts; inbox = ps }) → IsServed phase l) → length (ahead phase) + length l.buffer + length (unread phase') ≤ length (ahead phase') + length ts + length (encode p) + length (unread phase) → QuestionHasArrived phase l → QuestionHasArrived phase' (record l { buffer = ts; inbox = ps })
fresh_taken phase phase' l p ps ts e served lens h = record {
  come = λ v bs x qs k m.
      let old = h.come (served v) (p ∷ bs) x qs (e ∙ ap (λ y. p ∷ y) k) m in
      let n = length-append (encode p) (encodes bs) in
      omega (arith, old, n, lens);
}

-- only the phase and the tokens change
pub fresh_phase : (phase phase' : Phase) (l : Direction) (ts : List Token) → (IsServed phase' (record l { buffer = ts }) → IsServed phase l) → length (ahead phase) + length l.buffer + length (unread phase') ≤ length (ahead phase') + length ts + length (unread phase) → QuestionHasArrived phase l → QuestionHasArrived phase' (record l { buffer = ts })
fresh_phase phase phase' l ts served lens h = record {
  come = λ v bs x qs k m.
      let old = h.come (served v) bs x qs k m in
      omega (arith, old, lens);
}

-- Where no token is at the end of a side between pieces and outside, its inbox is empty: `default` may be taken.
pub nothing_ready : (r : SideState) (go come : Direction) → TransitRel (side_state between false) r go come → QuestionHasArrived between come → come.buffer ≡ [] → come.inbox ≡ []
nothing_ready r go come h fresh none = by come.inbox refl
  where
    path : (is : List Parcel) → come.inbox ≡ is → Path false false is r.inside
    path is e = subst (λ k. Path false false k r.inside) e h.homeward.path

    empty : (x : Parcel) (qs : List Parcel) → come.inbox ≡ x ∷ qs → may_be_early x ≡ true → ⊥
    empty x qs e m =
        let f = fresh.come (inl refl) [] x qs e m in
        let n = ap length none in
        omega (arith, f, n)

    by : (is : List Parcel) → come.inbox ≡ is → come.inbox ≡ []
    by [] e = e
    by (offer v ∷ qs) e = absurd (empty (offer v) qs e refl)
    by (opening ∷ qs) e = absurd (empty opening qs e refl)
    by (word v ∷ qs) e = absurd (path (word v ∷ qs) e)
    by (closing ∷ qs) e = absurd (path (closing ∷ qs) e)
    by (taken ∷ qs) e = let z : suc (answers qs) ≡ 0 = sym (ap answers e) ∙ (no_question (go.inbox ++ go.late) come.inbox h.mine).1 in absurd (omega (arith, z))

-- The early put, at the sender's own trap: its own inbox begins with something other than an answer, and it reads outside. Then the other
-- side has asked and isn't answered.
pub reader_waits : (q : Question) (r : SideState) (go come : Direction) (x : Parcel) (ps : List Parcel) → TransitRel (side_state (awaits_ack q) false) r go come → reads (side_state (awaits_ack q) false) ≡ false → come.inbox ≡ x ∷ ps → (answers (x ∷ []) ≡ 0) → (z : Question) × (asked r.phase ≡ z ∷ []) × (answers go.inbox ≡ 0)
reader_waits q r go come x ps h out e wrong = by x e wrong (subst (λ k. Path (switches_mode (awaits_ack q)) (reads (side_state (awaits_ack q) false)) k r.inside) e h.homeward.path)
  where
    asks : (z : Question) (zs : List Question) → questions (come.inbox ++ come.late) ≡ z ∷ zs → (f : Phase) → r.phase ≡ f → Asked f (come.inbox ++ come.late) go.inbox → (w : Question) × (asked r.phase ≡ w ∷ []) × (answers go.inbox ≡ 0)
    asks z zs k between g (is_open a b) = let n : z ∷ zs ≡ [] = sym k ∙ a in cc
    asks z zs k (sends_end v) g (is_open a b) = (offers v, ap asked g, b)
    asks z zs k (awaits_ack w) g (is_open a b) = (w, ap asked g, b)
    asks z zs k checks_end g (is_open a b) = let n : z ∷ zs ≡ [] = sym k ∙ a in cc
    asks z zs k sends_ack g (is_open a b) = let n : z ∷ zs ≡ [] = sym k ∙ a in cc
    asks z zs k was_closed g (is_open a b) = let n : z ∷ zs ≡ [] = sym k ∙ a in cc
    asks z zs k streams g (is_open a b) = let n : z ∷ zs ≡ [] = sym k ∙ a in cc
    asks z zs k f g (is_answered a b) = let n : z ∷ zs ≡ [] = sym k ∙ a in cc

    theirs : Asked r.phase (come.inbox ++ come.late) go.inbox
    theirs = h.theirs

    outside : (t f : Bool) (y : Parcel) → f ≡ false → Path t f (y ∷ ps) r.inside → Path t false (y ∷ ps) r.inside
    outside t f y z k = subst (λ b. Path t b (y ∷ ps) r.inside) z k

    by : (y : Parcel) → come.inbox ≡ y ∷ ps → answers (y ∷ []) ≡ 0 → Path (switches_mode (awaits_ack q)) (reads (side_state (awaits_ack q) false)) (y ∷ ps) r.inside → (z : Question) × (asked r.phase ≡ z ∷ []) × (answers go.inbox ≡ 0)
    by (offer v) i n k = asks (offers v) (questions (ps ++ come.late)) (ap (λ l. questions (l ++ come.late)) i) r.phase refl theirs
    by opening i n k = asks opens (questions (ps ++ come.late)) (ap (λ l. questions (l ++ come.late)) i) r.phase refl theirs
    by (word v) i n k = absurd (no (switches_mode (awaits_ack q)) (outside (switches_mode (awaits_ack q)) _ (word v) out k))
      where
        no : (t : Bool) → Path t false (word v ∷ ps) r.inside → ⊥
        no t h = h
    by closing i n k = asks closes (questions (ps ++ come.late)) (ap (λ l. questions (l ++ come.late)) i) r.phase refl theirs
    by taken i n k = absurd (omega (arith, n))
