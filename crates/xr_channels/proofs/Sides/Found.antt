-- What an instruction finds at an end, and what its branch then finds in its inbox.
use Rattle.std.proofs.Common.{◌≡◌, ◌<◌, ℕ, ◌+◌, ◌*◌, ◌/◌, ◌%◌, ◌^◌, Bool, true, false, List, [], ◌∷◌, ◌++◌, length, refl, sym, ap, ◌∙◌, subst, arith, inl, inr}
use Rattle.std.specs.Prelude.{◌⊎◌, not, nat_eq, ◌||◌}
use Rattle.xs_instr.specs.declared.state.Token.{Token}
use Rattle.xs_instr.specs.Ends.{word_tokens, control_token, data_token, Passed, Other, NotThere, check, Word, Control, NotYet, take_word}
use Rattle.xc_meaning.specs.States.Channels.{Parcel, offer, opening, word, closing, taken}
pub use Rattle.xr_channels.specs.ChannelSteps.{is_answer as is_taken, is_opening, is_closing, is_offer, is_sent_word as is_word}
use Rattle.xr_channels.specs.Phases.{END, ACK, OPEN, Question, Phase, between, sends_end, awaits_ack, checks_end, sends_ack, was_closed, streams, SideState, side_state, encodes, unread, ahead, switches_mode, Path, Direction, Transit}

-- CHKCT: nothing is there; or the first parcel is the one that is awaited, and the token too; or both are others
pub data Checks (c : ℕ) (given : Parcel) (wanted : Parcel → Bool) (l : Direction) : Type 0 where
  waits : l.buffer ≡ [] → check l.buffer c ≡ NotThere → Checks c given wanted l
  passes : (ts : List Token) (ps : List Parcel) → l.buffer ≡ control_token c ∷ ts → check l.buffer c ≡ Passed → l.inbox ≡ given ∷ ps → Checks c given wanted l
  traps : (k : Token) (p : Parcel) (ps : List Parcel) → check l.buffer c ≡ Other k → l.inbox ≡ p ∷ ps → wanted p ≡ false → Checks c given wanted l

-- the first token of a parcel
abbrev pub head : Parcel → Token
head (offer v) = data_token (v / 2 ^ 24)
head opening = OPEN
head (word v) = data_token (v / 2 ^ 24)
head closing = END
head taken = ACK

-- what stands first at an end belongs to the first parcel
pub first_token : (l : Direction) (more : List Token) → l.buffer ++ more ≡ encodes l.inbox → (l.buffer ≡ []) ⊎ ((p : Parcel) × (ps : List Parcel) × (ts : List Token) × (l.inbox ≡ p ∷ ps) × (l.buffer ≡ head p ∷ ts))
first_token l more h = by l.buffer l.inbox refl refl h
  where
    by : (b : List Token) (is : List Parcel) → l.buffer ≡ b → l.inbox ≡ is → b ++ more ≡ encodes is → (l.buffer ≡ []) ⊎ ((p : Parcel) × (ps : List Parcel) × (ts : List Token) × (l.inbox ≡ p ∷ ps) × (l.buffer ≡ head p ∷ ts))
    by [] is x y k = inl x
    by (t ∷ ts) [] x y k = cc
    by (t ∷ ts) (offer v ∷ ps) x y k = let same : t ≡ data_token (v / 2 ^ 24) = cc in inr (offer v, ps, ts, y, x ∙ ap (λ z. z ∷ ts) same)
    by (t ∷ ts) (opening ∷ ps) x y k = let same : t ≡ OPEN = cc in inr (opening, ps, ts, y, x ∙ ap (λ z. z ∷ ts) same)
    by (t ∷ ts) (word v ∷ ps) x y k = let same : t ≡ data_token (v / 2 ^ 24) = cc in inr (word v, ps, ts, y, x ∙ ap (λ z. z ∷ ts) same)
    by (t ∷ ts) (closing ∷ ps) x y k = let same : t ≡ END = cc in inr (closing, ps, ts, y, x ∙ ap (λ z. z ∷ ts) same)
    by (t ∷ ts) (taken ∷ ps) x y k = let same : t ≡ ACK = cc in inr (taken, ps, ts, y, x ∙ ap (λ z. z ∷ ts) same)

-- by the first parcel, which `head` tells from the awaited one
check_first : (c : ℕ) (given : Parcel) (wanted : Parcel → Bool) (l : Direction) (more : List Token) → ((p : Parcel) (ts : List Token) → ((head p ≡ control_token c) × (check (head p ∷ ts) c ≡ Passed) × (p ≡ given)) ⊎ ((check (head p ∷ ts) c ≡ Other (head p)) × (wanted p ≡ false))) → l.buffer ++ more ≡ encodes l.inbox → Checks c given wanted l
check_first c given wanted l more tells h = by (first_token l more h)
  where
    by : (l.buffer ≡ []) ⊎ ((p : Parcel) × (ps : List Parcel) × (ts : List Token) × (l.inbox ≡ p ∷ ps) × (l.buffer ≡ head p ∷ ts)) → Checks c given wanted l
    by (inl e) = waits e (ap (λ b. check b c) e)
    by (inr (p, ps, ts, i, b)) = so (tells p ts)
      where
        so : ((head p ≡ control_token c) × (check (head p ∷ ts) c ≡ Passed) × (p ≡ given)) ⊎ ((check (head p ∷ ts) c ≡ Other (head p)) × (wanted p ≡ false)) → Checks c given wanted l
        so (inl (x, y, z)) = passes ts ps (b ∙ ap (λ t. t ∷ ts) x) (ap (λ k. check k c) b ∙ y) (i ∙ ap (λ y. y ∷ ps) z)
        so (inr (y, z)) = traps (head p) p ps (ap (λ k. check k c) b ∙ y) i z

-- CHKCT ACK
pub ack_found : (q : Question) (i : Bool) (r : SideState) (l : Direction) → Transit r (side_state (awaits_ack q) i) l → Checks 3 taken is_taken l
ack_found q i r l h = check_first 3 taken is_taken l h.more tells h.come
  where
    tells : (p : Parcel) (ts : List Token) → ((head p ≡ control_token 3) × (check (head p ∷ ts) 3 ≡ Passed) × (p ≡ taken)) ⊎ ((check (head p ∷ ts) 3 ≡ Other (head p)) × (is_taken p ≡ false))
    tells (offer v) ts = inr (refl, refl)
    tells opening ts = inr (refl, refl)
    tells (word v) ts = inr (refl, refl)
    tells closing ts = inr (refl, refl)
    tells taken ts = inl (refl, refl, refl)

-- CHKCT OPEN of a slave's start
pub open_found : (i : Bool) (r : SideState) (l : Direction) → Transit r (side_state between i) l → Checks 16 opening is_opening l
open_found i r l h = check_first 16 opening is_opening l h.more tells h.come
  where
    tells : (p : Parcel) (ts : List Token) → ((head p ≡ control_token 16) × (check (head p ∷ ts) 16 ≡ Passed) × (p ≡ opening)) ⊎ ((check (head p ∷ ts) 16 ≡ Other (head p)) × (is_opening p ≡ false))
    tells (offer v) ts = inr (refl, refl)
    tells opening ts = inl (refl, refl, refl)
    tells (word v) ts = inr (refl, refl)
    tells closing ts = inr (refl, refl)
    tells taken ts = inr (refl, refl)

-- CHKCT END of a slave's end
pub close_found : (i : Bool) (r : SideState) (l : Direction) → Transit r (side_state between i) l → Checks 1 closing is_closing l
close_found i r l h = check_first 1 closing is_closing l h.more tells h.come
  where
    tells : (p : Parcel) (ts : List Token) → ((head p ≡ control_token 1) × (check (head p ∷ ts) 1 ≡ Passed) × (p ≡ closing)) ⊎ ((check (head p ∷ ts) 1 ≡ Other (head p)) × (is_closing p ≡ false))
    tells (offer v) ts = inr (refl, refl)
    tells opening ts = inr (refl, refl)
    tells (word v) ts = inr (refl, refl)
    tells closing ts = inl (refl, refl, refl)
    tells taken ts = inr (refl, refl)

-- CHKCT END of a plain input never traps
pub data EndChecks (l : Direction) : Type 0 where
  end_waits : l.buffer ≡ [] → check l.buffer 1 ≡ NotThere → EndChecks l
  end_passes : (ts : List Token) → l.buffer ≡ END ∷ ts → check l.buffer 1 ≡ Passed → EndChecks l

-- by the tokens at the end
pub end_found : (i : Bool) (r : SideState) (l : Direction) → Transit r (side_state checks_end i) l → EndChecks l
end_found i r l h = by l.buffer refl h.come
  where
    by : (b : List Token) → l.buffer ≡ b → b ++ h.more ≡ END ∷ encodes l.inbox → EndChecks l
    by [] x k = end_waits x (ap (λ b. check b 1) x)
    by (t ∷ ts) x k = let same : t ≡ END = cc in let y : l.buffer ≡ END ∷ ts = x ∙ ap (λ z. z ∷ ts) same in end_passes ts y (ap (λ b. check b 1) y)

-- IN: too few tokens; or the word of the first parcel; or a control token, and another parcel
pub data Inputs (given : ℕ → Parcel) (wanted : Parcel → Bool) (l : Direction) : Type 0 where
  word_waits : take_word l.buffer ≡ NotYet → length l.buffer < 4 → Inputs given wanted l
  word_passes : (v : ℕ) (ts : List Token) (ps : List Parcel) → l.buffer ≡ word_tokens v ++ ts → take_word l.buffer ≡ Word v → l.inbox ≡ given v ∷ ps → Inputs given wanted l
  word_traps : (c : ℕ) (p : Parcel) (ps : List Parcel) → take_word l.buffer ≡ Control c → l.inbox ≡ p ∷ ps → wanted p ≡ false → Inputs given wanted l

-- the tokens of a word, or some of them
word_got : (b more tail : List Token) (v : ℕ) → b ++ more ≡ word_tokens v ++ tail → ((take_word b ≡ NotYet) × (length b < 4)) ⊎ ((ts : List Token) × (b ≡ word_tokens v ++ ts) × (take_word b ≡ Word v))
word_got [] more tail v e = inl (refl, omega arith)
word_got (a ∷ []) more tail v e = let x : a ≡ data_token (v / 2 ^ 24) = cc in inl (rw x refl, omega arith)
word_got (a ∷ b ∷ []) more tail v e =
    let x : a ≡ data_token (v / 2 ^ 24) = cc in
    let y : b ≡ data_token (v / 2 ^ 16 % 2 ^ 8) = cc in inl (rw (x, y) refl, omega arith)
word_got (a ∷ b ∷ c ∷ []) more tail v e =
    let x : a ≡ data_token (v / 2 ^ 24) = cc in
    let y : b ≡ data_token (v / 2 ^ 16 % 2 ^ 8) = cc in
    let z : c ≡ data_token (v / 2 ^ 8 % 2 ^ 8) = cc in inl (rw (x, y, z) refl, omega arith)
word_got (a ∷ b ∷ c ∷ d ∷ ts) more tail v e =
    let x : a ≡ data_token (v / 2 ^ 24) = cc in
    let y : b ≡ data_token (v / 2 ^ 16 % 2 ^ 8) = cc in
    let z : c ≡ data_token (v / 2 ^ 8 % 2 ^ 8) = cc in
    let w : d ≡ data_token (v % 2 ^ 8) = cc in
    let sum : ((v / 2 ^ 24 * 2 ^ 8 + v / 2 ^ 16 % 2 ^ 8) * 2 ^ 8 + v / 2 ^ 8 % 2 ^ 8) * 2 ^ 8 + v % 2 ^ 8 ≡ v = omega arith in
    let same : a ∷ b ∷ c ∷ d ∷ ts ≡ word_tokens v ++ ts = rw (x, y, z, w) refl in
    inr (ts, same, ap take_word same ∙ ap Word sum)

-- IN of a plain input: the first parcel is no word, since nobody is inside
pub offer_found : (r : SideState) (l : Direction) → Transit r (side_state between false) l → Inputs offer is_offer l
offer_found r l h = by l.inbox refl h.come (first_token l h.more h.come)
  where
    data_by : (v : ℕ) (ps : List Parcel) → l.inbox ≡ offer v ∷ ps → l.buffer ++ h.more ≡ (word_tokens v ++ END ∷ []) ++ encodes ps → Inputs offer is_offer l
    data_by v ps i k = so (word_got l.buffer h.more (END ∷ encodes ps) v k)
      where
        so : ((take_word l.buffer ≡ NotYet) × (length l.buffer < 4)) ⊎ ((ts : List Token) × (l.buffer ≡ word_tokens v ++ ts) × (take_word l.buffer ≡ Word v)) → Inputs offer is_offer l
        so (inl w) = word_waits w.0 w.1
        so (inr w) = word_passes v w.0 ps w.1 w.2 i

    by : (is : List Parcel) → l.inbox ≡ is → l.buffer ++ h.more ≡ encodes l.inbox → (l.buffer ≡ []) ⊎ ((p : Parcel) × (ps : List Parcel) × (ts : List Token) × (l.inbox ≡ p ∷ ps) × (l.buffer ≡ head p ∷ ts)) → Inputs offer is_offer l
    by is x k (inl e) = word_waits (ap take_word e) (let n : length l.buffer ≡ 0 = ap length e in omega (arith, n))
    by is x k (inr (offer v, ps, ts, i, b)) = data_by v ps i (k ∙ ap encodes i)
    by is x k (inr (opening, ps, ts, i, b)) = word_traps 16 opening ps (ap take_word b) i refl
    by is x k (inr (word v, ps, ts, i, b)) = absurd (subst (λ z. Path false false z r.inside) i h.path)
    by is x k (inr (closing, ps, ts, i, b)) = word_traps 1 closing ps (ap take_word b) i refl
    by is x k (inr (taken, ps, ts, i, b)) = word_traps 3 taken ps (ap take_word b) i refl

-- IN inside a transaction: the first parcel is no offer, since both are inside
word_found_by : (s r : SideState) (l : Direction) (h : Transit r s l) → l.buffer ++ h.more ≡ encodes l.inbox → Path (switches_mode s.phase) true l.inbox r.inside → Inputs word is_word l
word_found_by s r l h k path = by (first_token l h.more k)
  where
    data_by : (v : ℕ) (ps : List Parcel) → l.inbox ≡ word v ∷ ps → l.buffer ++ h.more ≡ word_tokens v ++ encodes ps → Inputs word is_word l
    data_by v ps i e = so (word_got l.buffer h.more (encodes ps) v e)
      where
        so : ((take_word l.buffer ≡ NotYet) × (length l.buffer < 4)) ⊎ ((ts : List Token) × (l.buffer ≡ word_tokens v ++ ts) × (take_word l.buffer ≡ Word v)) → Inputs word is_word l
        so (inl w) = word_waits w.0 w.1
        so (inr w) = word_passes v w.0 ps w.1 w.2 i

    by : (l.buffer ≡ []) ⊎ ((p : Parcel) × (ps : List Parcel) × (ts : List Token) × (l.inbox ≡ p ∷ ps) × (l.buffer ≡ head p ∷ ts)) → Inputs word is_word l
    by (inl e) = word_waits (ap take_word e) (let n : length l.buffer ≡ 0 = ap length e in omega (arith, n))
    by (inr (offer v, ps, ts, i, b)) = absurd (no (switches_mode s.phase) (subst (λ z. Path (switches_mode s.phase) true z r.inside) i path))
      where
        no : (t : Bool) → Path t true (offer v ∷ ps) r.inside → ⊥
        no t h = h
    by (inr (opening, ps, ts, i, b)) = word_traps 16 opening ps (ap take_word b) i refl
    by (inr (word v, ps, ts, i, b)) = data_by v ps i (k ∙ ap encodes i)
    by (inr (closing, ps, ts, i, b)) = word_traps 1 closing ps (ap take_word b) i refl
    by (inr (taken, ps, ts, i, b)) = word_traps 3 taken ps (ap take_word b) i refl

-- between pieces
pub word_found : (r : SideState) (l : Direction) → Transit r (side_state between true) l → Inputs word is_word l
word_found r l h = word_found_by (side_state between true) r l h h.come h.path

-- on a streaming channel
pub stream_found : (r : SideState) (l : Direction) → Transit r (side_state streams true) l → Inputs word is_word l
stream_found r l h = word_found_by (side_state streams true) r l h h.come h.path

-- where a data token or OPEN stands at an end, the inbox is not empty
abbrev pub counts_as_parcel : Token → Bool
counts_as_parcel k = not k.control || nat_eq k.byte 16

-- some element of a list
abbrev pub Has : {A : Type 0} → (A → Bool) → List A → Type 0
Has f [] = ⊥
Has f (x ∷ xs) = (f x ≡ true) ⊎ Has f xs

-- its parcel is still there
pub parcel_there : (s r : SideState) (l : Direction) → Transit r s l → Has counts_as_parcel l.buffer → l.inbox ≡ [] → ⊥
parcel_there s r l h k none = by s.phase l.buffer h.come k
  where
    at_none : (b : List Token) (u : List Token) → b ++ h.more ≡ u ++ encodes l.inbox → (b ++ h.more ≡ u ++ [])
    at_none b u e = e ∙ ap (λ x. u ++ encodes x) none

    empty : (b : List Token) → b ++ h.more ≡ [] → Has counts_as_parcel b → ⊥
    empty [] e x = x
    empty (t ∷ ts) e x = cc

    one_end : (b : List Token) → b ++ h.more ≡ END ∷ [] → Has counts_as_parcel b → ⊥
    one_end [] e x = x
    one_end (t ∷ []) e (inl x) = let same : t ≡ END = cc in let no : false ≡ true = sym (ap counts_as_parcel same) ∙ x in cc
    one_end (t ∷ []) e (inr x) = x
    one_end (t ∷ u ∷ ts) e x = cc

    by : (f : Phase) (b : List Token) → ahead f ++ (b ++ h.more) ≡ unread f ++ encodes l.inbox → Has counts_as_parcel b → ⊥
    by between b e x = empty b (at_none b [] e) x
    by (sends_end v) b e x = empty b (at_none b [] e) x
    by (awaits_ack q) b e x = empty b (at_none b [] e) x
    by checks_end b e x = one_end b (at_none b (END ∷ []) e) x
    by sends_ack b e x = empty b (at_none b [] e) x
    by was_closed b e x = let no : END ∷ (b ++ h.more) ≡ [] = e ∙ ap encodes none in cc
    by streams b e x = empty b (at_none b [] e) x
