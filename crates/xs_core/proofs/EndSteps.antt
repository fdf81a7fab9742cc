-- What sending and taking at an end of a core in order leaves.
use Rattle.std.proofs.Common.{◌≡◌, ◌<◌, ◌≤◌, ◌+◌, ◌++◌, ℕ, zero, suc, Bool, true, false, List, [], ◌∷◌, Option, Some, None, length, refl, sym, ap, ◌∙◌, subst, arith, length-append}
use Rattle.std.specs.Prelude.{slice_get, slice_set, nat_eq}
use Rattle.circular_buffer.specs.Buffer.{Buffer}
use Rattle.xs_chanend.specs.declared.taken.Checked1.{Checked1}
use Rattle.xs_chanend.specs.declared.taken.Checked1.TheVariants as checked
use Rattle.xs_chanend.specs.Ends.{after_check, checked_as, end_at, without_credits, without_first}
use Rattle.xs_core.proofs.Balance.{credits_balanced, credits_room, tokens_balanced, tokens_room}
use Rattle.xs_core.proofs.There.{there}
use Rattle.xs_core.proofs.Weights.{length_all_arrive, length_set}
use Rattle.xs_core.specs.declared.state.State.{State}
use Rattle.xs_core.specs.Ends.{is_word}
use Rattle.xs_core.specs.Order.{IsInOrder, Moves}
use Rattle.xs_core.specs.Room.{HasRoomAlong}
use Rattle.xs_core.specs.Seen.{home_of}
use Rattle.xs_core.specs.Wired.{peer_at, IsWired, IsBalanced}
use Rattle.xs_instr.specs.declared.state.ChanEnd.{ChanEnd}
use Rattle.xs_instr.specs.declared.state.Moved.{Moved}
use Rattle.xs_instr.specs.declared.state.Sent.{Sent}
use Rattle.xs_instr.specs.declared.state.Token.{Token}
use Rattle.xs_instr.specs.Ends.{Gone, Peer, NotYet, Passed, all_sent, check, credits_to, first_control, goes_by, peer_of, take_byte, take_word, tokens_go, tokens_taken, tokens_to, word_unless}
use Rattle.xs_instr.specs.Machine.{boot_end}

sent_length : (to tick : ℕ) (ms : List Moved) → length (all_sent to tick ms) ≡ length ms
sent_length to tick [] = refl
sent_length to tick (m ∷ ms) = ap suc (sent_length to tick ms)

gone_few : (ends : List ChanEnd) (to tick : ℕ) (ms : List Moved) (b : Bool) → length (goes_by ends to tick ms b).sent ≤ length ms
gone_few ends to tick ms true = omega arith
gone_few ends to tick ms false = let e = sent_length to tick ms in omega (arith, e)

gone_count : (ends : List ChanEnd) (to tick : ℕ) (ms : List Moved) (b : Bool) → length (goes_by ends to tick ms b).ends ≡ length ends
gone_count ends to tick ms true = length_all_arrive ends ms
gone_count ends to tick ms false = refl

tokens_count : (e : ℕ) (ks : List Token) → length (tokens_to e ks) ≡ length ks
tokens_count e [] = refl
tokens_count e (k ∷ ks) = ap suc (tokens_count e ks)

credits_count : (e n : ℕ) → length (credits_to e n) ≡ n
credits_count e zero = refl
credits_count e (suc n) = ap suc (credits_count e n)

-- a word has four tokens
pub word_long : (ks : List Token) → is_word (take_word ks) ≡ true → 4 ≤ length ks
word_long (a ∷ b ∷ c ∷ d ∷ ks) h = omega arith
word_long (a ∷ b ∷ c ∷ []) h = short (first_control (a ∷ b ∷ c ∷ [])) h
  where
    short : (o : Option ℕ) → is_word (word_unless NotYet o) ≡ true → 4 ≤ 3
    short None g = cc
    short (Some c) g = cc
word_long (a ∷ b ∷ []) h = short (first_control (a ∷ b ∷ [])) h
  where
    short : (o : Option ℕ) → is_word (word_unless NotYet o) ≡ true → 4 ≤ 2
    short None g = cc
    short (Some c) g = cc
word_long (a ∷ []) h = short (first_control (a ∷ [])) h
  where
    short : (o : Option ℕ) → is_word (word_unless NotYet o) ≡ true → 4 ≤ 1
    short None g = cc
    short (Some c) g = cc
word_long [] h = cc

-- a byte has a token
pub byte_long : (ks : List Token) → is_word (take_byte ks) ≡ true → 1 ≤ length ks
byte_long [] h = cc
byte_long (k ∷ ks) h = omega arith

-- what passes has a token
pub passed_long : (ks : List Token) (c : ℕ) → check ks c ≡ Passed → 1 ≤ length ks
passed_long [] c h = cc
passed_long (k ∷ ks) c h = omega arith

module _ (s : State) (order : IsInOrder s) (e : ℕ) (lt : e < length s.ends) where
  abbrev pub end : ChanEnd
  end = end_at s.ends e

  abbrev pub p : Peer
  p = peer_at s.fixed.peers e

  abbrev pub q : Peer
  q = peer_of s.fixed.pairs s.ports.core e

  here : slice_get s.ends e ≡ Some end
  here = there s.ends e boot_end lt

  kept : p ≡ q
  kept = order.wired.kept e lt

  pub send_room : (ks : List Token) → length ks ≤ end.credits → p.core ≡ s.ports.core → HasRoomAlong (slice_set s.ends e (without_credits end (length ks))) (tokens_to p.end ks)
  send_room ks enough local =
      subst (λ (x : Peer). HasRoomAlong (slice_set s.ends e (without_credits end (length ks))) (tokens_to x.end ks)) (sym kept)
      (tokens_room s.fixed.pairs s.ports.core s.ends s.fixed.peers order.wired order.balanced e end here ks enough (sym (ap (λ (x : Peer). x.core) kept) ∙ local))

  pub take_room : (n : ℕ) → n ≤ length end.tokens → p.core ≡ s.ports.core → HasRoomAlong (slice_set s.ends e (without_first end n)) (credits_to p.end n)
  take_room n enough local =
      subst (λ (x : Peer). HasRoomAlong (slice_set s.ends e (without_first end n)) (credits_to x.end n)) (sym kept)
      (credits_room s.fixed.pairs s.ports.core s.ends s.fixed.peers order.wired order.balanced e end here n enough (sym (ap (λ (x : Peer). x.core) kept) ∙ local))

  -- the core with other ends, as many, is in order where they are balanced
  still : (ends : List ChanEnd) → length ends ≡ length s.ends → IsBalanced s.fixed.pairs s.ports.core ends → IsInOrder (record s { ends = ends })
  still ends size balanced = record {
    code = order.code;
    wired = subst (λ (n : ℕ). IsWired s.fixed.pairs s.ports.core n s.fixed.peers) (sym size) order.wired;
    balanced = balanced;
  }

  pub sent_moves : (ks : List Token) (box box' : Buffer Sent) (new : State) (ends : List ChanEnd) → length ks ≤ end.credits → length ks ≤ 4
      → new ≡ record s { ends = ends }
      → ends ≡ (goes_by (slice_set s.ends e (without_credits end (length ks))) p.core s.ports.clock (tokens_to p.end ks) (nat_eq p.core s.ports.core)).ends
      → box'.items ≡ box.items ++ (goes_by (slice_set s.ends e (without_credits end (length ks))) p.core s.ports.clock (tokens_to p.end ks) (nat_eq p.core s.ports.core)).sent
      → box'.capacity ≡ box.capacity
      → Moves s (tokens_go (home_of s) s.ports.clock s.ends e end ks q) new box box'
  sent_moves ks box box' new ends enough four is ends_is sent_is cap =
      let end' = without_credits end (length ks) in
      let ends1 = slice_set s.ends e end' in
      let gone = tokens_go (home_of s) s.ports.clock s.ends e end ks q in
      let same : goes_by ends1 p.core s.ports.clock (tokens_to p.end ks) (nat_eq p.core s.ports.core) ≡ gone =
      ap (λ (x : Peer). goes_by ends1 x.core s.ports.clock (tokens_to x.end ks) (nat_eq x.core s.ports.core)) kept in
      let ends_gone : ends ≡ gone.ends = ends_is ∙ ap (λ (g : Gone). g.ends) same in
      let state : new ≡ record s { ends = gone.ends } = is ∙ ap (λ (l : List ChanEnd). record s { ends = l }) ends_gone in
      let sent : box'.items ≡ box.items ++ gone.sent = sent_is ∙ ap (λ (g : Gone). box.items ++ g.sent) same in
      let few = gone_few ends1 q.core s.ports.clock (tokens_to q.end ks) (nat_eq q.core s.ports.core) in
      let count = tokens_count q.end ks in
      let size : length box'.items ≡ length box.items + length gone.sent = ap length sent ∙ length-append box.items gone.sent in
      record {
        state = state;
        sent = sent;
        order = subst IsInOrder (sym state)
            (still gone.ends (gone_count ends1 q.core s.ports.clock (tokens_to q.end ks) (nat_eq q.core s.ports.core) ∙ length_set s.ends e end')
            (tokens_balanced s.fixed.pairs s.ports.core s.ends s.fixed.peers order.wired order.balanced e end here ks enough s.ports.clock (nat_eq q.core s.ports.core) refl));
        few = omega (arith, size, few, count, four);
        capacity = cap;
      }

  pub taken_moves : (n : ℕ) (box box' : Buffer Sent) (new : State) (ends : List ChanEnd) → n ≤ length end.tokens → n ≤ 4
      → new ≡ record s { ends = ends }
      → ends ≡ (goes_by (slice_set s.ends e (without_first end n)) p.core s.ports.clock (credits_to p.end n) (nat_eq p.core s.ports.core)).ends
      → box'.items ≡ box.items ++ (goes_by (slice_set s.ends e (without_first end n)) p.core s.ports.clock (credits_to p.end n) (nat_eq p.core s.ports.core)).sent
      → box'.capacity ≡ box.capacity
      → Moves s (tokens_taken (home_of s) s.ports.clock s.ends e end n q) new box box'
  taken_moves n box box' new ends enough four is ends_is sent_is cap =
      let end' = without_first end n in
      let ends1 = slice_set s.ends e end' in
      let gone = tokens_taken (home_of s) s.ports.clock s.ends e end n q in
      let same : goes_by ends1 p.core s.ports.clock (credits_to p.end n) (nat_eq p.core s.ports.core) ≡ gone =
      ap (λ (x : Peer). goes_by ends1 x.core s.ports.clock (credits_to x.end n) (nat_eq x.core s.ports.core)) kept in
      let ends_gone : ends ≡ gone.ends = ends_is ∙ ap (λ (g : Gone). g.ends) same in
      let state : new ≡ record s { ends = gone.ends } = is ∙ ap (λ (l : List ChanEnd). record s { ends = l }) ends_gone in
      let sent : box'.items ≡ box.items ++ gone.sent = sent_is ∙ ap (λ (g : Gone). box.items ++ g.sent) same in
      let few = gone_few ends1 q.core s.ports.clock (credits_to q.end n) (nat_eq q.core s.ports.core) in
      let count = credits_count q.end n in
      let size : length box'.items ≡ length box.items + length gone.sent = ap length sent ∙ length-append box.items gone.sent in
      record {
        state = state;
        sent = sent;
        order = subst IsInOrder (sym state)
            (still gone.ends (gone_count ends1 q.core s.ports.clock (credits_to q.end n) (nat_eq q.core s.ports.core) ∙ length_set s.ends e end')
            (credits_balanced s.fixed.pairs s.ports.core s.ends s.fixed.peers order.wired order.balanced e end here n enough s.ports.clock (nat_eq q.core s.ports.core) refl));
        few = omega (arith, size, few, count, four);
        capacity = cap;
      }

-- what a check leaves that passed
pub passed_left : (all : List ChanEnd) (e : ℕ) (found : Checked1) → checked_as found ≡ Passed → after_check all e found ≡ slice_set all e (without_first (end_at all e) 1)
passed_left all e checked.Passed h = refl
passed_left all e (checked.Other k) h = cc
passed_left all e checked.NotYet h = cc
