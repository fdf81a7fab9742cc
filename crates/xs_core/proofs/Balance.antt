-- The credits of an end and the tokens at its peer on the same core stay 8 at most, so there is room for what comes.
use Rattle.std.proofs.Common.{◌≡◌, ◌<◌, ◌≤◌, ◌+◌, ◌-◌, ℕ, zero, suc, Bool, true, false, List, [], ◌∷◌, Some, length, drop, refl, sym, ap, ◌∙◌, inl, inr, subst, arith, length-drop}
use Rattle.std.specs.Prelude.{slice_get, slice_set, nat_eq, ◌≢◌, ◌⊎◌}
use Rattle.std.proofs.lemmas.Bool.{eqb-true}
use Rattle.xs_core.proofs.Lists.{get_set, get_set_other}
use Rattle.xs_core.proofs.Weights.{same_num, length_set, length_arrives, length_all_arrive, get_below, arrive, arrive_all, eq_itself, weights_tokens, weights_tokens_here, weights_tokens_other, weights_credits, weights_credits_here, weights_credits_other}
use Rattle.xs_core.specs.declared.state.Peer.{Peer as PeerKept}
use Rattle.xs_core.specs.Room.{Kind, Tokens, Credits, level, weights, HasRoomAlong}
use Rattle.xs_core.specs.Wired.{IsWired, IsBalanced}
use Rattle.xs_instr.specs.declared.image.Pair.{Pair}
use Rattle.xs_instr.specs.declared.state.ChanEnd.{ChanEnd}
use Rattle.xs_instr.specs.declared.state.Moved.TheVariants.{Tok, Credit}
use Rattle.xs_instr.specs.declared.state.Token.{Token}
use Rattle.xs_instr.specs.Ends.{Peer, all_arrive, arrives, credits_to, goes_by, peer_of, tokens_to}
use Rattle.xw_words.specs.Words.{truth}

-- tokens have room where they are few enough
pub room_tokens : (ks : List Token) (ends : List ChanEnd) (e : ℕ) → e < length ends → level Tokens (slice_get ends e) + length ks ≤ 8 → HasRoomAlong ends (tokens_to e ks)
room_tokens [] ends e lt h = tt
room_tokens (k ∷ ks) ends e lt h =
    let size = length_arrives ends (Tok e k) in
    let more = arrive Tokens ends e (Tok e k) lt in
    let one = ap truth (eq_itself e) in
    (record { there = lt; room = omega (arith, h) }, room_tokens ks (arrives ends (Tok e k)) e (omega (arith, lt, size)) (omega (arith, h, more, one)))

-- so do credits
pub room_credits : (n : ℕ) (ends : List ChanEnd) (e : ℕ) → e < length ends → level Credits (slice_get ends e) + n ≤ 8 → HasRoomAlong ends (credits_to e n)
room_credits zero ends e lt h = tt
room_credits (suc n) ends e lt h =
    let size = length_arrives ends (Credit e) in
    let more = arrive Credits ends e (Credit e) lt in
    let one = ap truth (eq_itself e) in
    (record { there = lt; room = omega (arith, h) }, room_credits n (arrives ends (Credit e)) e (omega (arith, lt, size)) (omega (arith, h, more, one)))

module _ (pairs : List Pair) (number : ℕ) (ends : List ChanEnd) (peers : List PeerKept) (wired : IsWired pairs number (length ends) peers) (sums : IsBalanced pairs number ends) (e : ℕ) (end : ChanEnd) (here : slice_get ends e ≡ Some end) where
  abbrev pub q : Peer
  q = peer_of pairs number e

  lt : e < length ends
  lt = get_below ends e end here

  -- an end is changed at e
  module _ (end' : ChanEnd) where
    abbrev pub ends1 : List ChanEnd
    ends1 = slice_set ends e end'

    same_size : length ends1 ≡ length ends
    same_size = length_set ends e end'

    changed_here : (k : Kind) → level k (slice_get ends1 e) ≡ level k (Some end')
    changed_here k = ap (level k) (get_set ends e end end' here)

    was_here : (k : Kind) → level k (slice_get ends e) ≡ level k (Some end)
    was_here k = ap (level k) here

    changed_other : (k : Kind) (f : ℕ) → e ≢ f → level k (slice_get ends1 f) ≡ level k (slice_get ends f)
    changed_other k f n = ap (level k) (get_set_other ends e f end' n)

    -- where the count there is no greater, it is so everywhere
    no_more : (k : Kind) (f : ℕ) → level k (Some end') ≤ level k (Some end) → level k (slice_get ends1 f) ≤ level k (slice_get ends f)
    no_more k f h = go (same_num e f)
      where
        go : (e ≡ f) ⊎ (e ≢ f) → level k (slice_get ends1 f) ≤ level k (slice_get ends f)
        go (inl s) =
            let a = changed_here k in
            let b = was_here k in
            let r : level k (slice_get ends1 e) ≤ level k (slice_get ends e) = omega (arith, a, b, h) in
            subst (λ v. level k (slice_get ends1 v) ≤ level k (slice_get ends v)) s r
        go (inr n) = let a = changed_other k f n in omega (arith, a)

  module _ (ks : List Token) (enough : length ks ≤ end.credits) where
    abbrev pub paid : ChanEnd
    paid = record end { credits = end.credits - length ks }

    -- the tokens have room at the peer on the same core
    pub tokens_room : q.core ≡ number → HasRoomAlong (slice_set ends e paid) (tokens_to q.end ks)
    tokens_room local =
        let there = wired.there e lt local in
        let s = sums.sums e lt local in
        let w = was_here paid Credits in
        let t = no_more paid Tokens q.end (omega arith) in
        let size = same_size paid in
        room_tokens ks (slice_set ends e paid) q.end (omega (arith, there, size)) (omega (arith, s, w, t, enough))

    pub tokens_balanced : (tick : ℕ) (b : Bool) → nat_eq q.core number ≡ b → IsBalanced pairs number (goes_by (slice_set ends e paid) q.core tick (tokens_to q.end ks) b).ends
    tokens_balanced tick false is = record {
      sums = λ f ltf lf.
          let size = same_size paid in
          let ltf' : f < length ends = omega (arith, ltf, size) in
          let s = sums.sums f ltf' lf in
          let c = no_more paid Credits f (omega arith) in
          let t = no_more paid Tokens (peer_of pairs number f).end (omega arith) in
          omega (arith, s, c, t);
    }
    tokens_balanced tick true is = record { sums = go }
      where
        local : q.core ≡ number
        local = eqb-true q.core number is

        meet : (f g : ℕ)
            → level Credits (slice_get (all_arrive (ends1 paid) (tokens_to q.end ks)) f) ≡ level Credits (slice_get (ends1 paid) f) + weights Credits f (tokens_to q.end ks)
            → level Tokens (slice_get (all_arrive (ends1 paid) (tokens_to q.end ks)) g) ≡ level Tokens (slice_get (ends1 paid) g) + weights Tokens g (tokens_to q.end ks)
            → weights Credits f (tokens_to q.end ks) ≡ 0
            → level Credits (slice_get ends f) + level Tokens (slice_get ends g) ≤ 8
            → ((peer_of pairs number g).core ≡ number) × ((peer_of pairs number g).end ≡ f)
            → g ≡ g
            → (q.end ≡ g) ⊎ (q.end ≢ g)
            → level Credits (slice_get (all_arrive (ends1 paid) (tokens_to q.end ks)) f) + level Tokens (slice_get (all_arrive (ends1 paid) (tokens_to q.end ks)) g) ≤ 8
        meet f g c t wc s back _ (inr n) =
            let wt = weights_tokens_other q.end g ks n in
            let a = no_more paid Credits f (omega arith) in
            let b = no_more paid Tokens g (omega arith) in
            omega (arith, c, t, wc, wt, a, b, s)
        meet f g c t wc s back _ (inl h) =
            let back_e = (wired.back e lt local).1 in
            let same : e ≡ f = sym back_e ∙ ap (λ v. (peer_of pairs number v).end) h ∙ back.1 in
            let a = ap (λ v. level Credits (slice_get (ends1 paid) v)) same in
            let a' = changed_here paid Credits in
            let o = ap (λ v. level Credits (slice_get ends v)) same in
            let o' = was_here paid Credits in
            let b = no_more paid Tokens g (omega arith) in
            let w = ap (λ v. weights Tokens v (tokens_to q.end ks)) h in
            let w' = weights_tokens_here q.end ks in
            omega (arith, c, t, wc, a, a', o, o', b, w, w', s, enough)

        go : (f : ℕ) → f < length (all_arrive (ends1 paid) (tokens_to q.end ks)) → (peer_of pairs number f).core ≡ number → level Credits (slice_get (all_arrive (ends1 paid) (tokens_to q.end ks)) f) + level Tokens (slice_get (all_arrive (ends1 paid) (tokens_to q.end ks)) (peer_of pairs number f).end) ≤ 8
        go f ltf lf =
            let size = length_all_arrive (ends1 paid) (tokens_to q.end ks) in
            let size1 = same_size paid in
            let ltf1 : f < length (ends1 paid) = omega (arith, ltf, size) in
            let ltf0 : f < length ends = omega (arith, ltf, size, size1) in
            let g = (peer_of pairs number f).end in
            let ltg0 = wired.there f ltf0 lf in
            let ltg1 : g < length (ends1 paid) = omega (arith, ltg0, size1) in
            let c = arrive_all Credits (ends1 paid) f (tokens_to q.end ks) ltf1 in
            let t = arrive_all Tokens (ends1 paid) g (tokens_to q.end ks) ltg1 in
            let wc = weights_tokens q.end f ks in
            let s = sums.sums f ltf0 lf in
            meet f g c t wc s (wired.back f ltf0 lf) refl (same_num q.end g)

  module _ (n : ℕ) (enough : n ≤ length end.tokens) where
    abbrev pub left : ChanEnd
    left = record end { tokens = drop n end.tokens }

    fewer : level Tokens (Some left) + n ≡ level Tokens (Some end)
    fewer = let d = length-drop n end.tokens in omega (arith, d, enough)

    -- the credits have room at the peer on the same core
    pub credits_room : q.core ≡ number → HasRoomAlong (slice_set ends e left) (credits_to q.end n)
    credits_room local =
        let there = wired.there e lt local in
        let back = wired.back e lt local in
        let s = sums.sums q.end there back.0 in
        let p = ap (λ v. level Tokens (slice_get ends v)) back.1 in
        let w = was_here left Tokens in
        let c = no_more left Credits q.end (omega arith) in
        let size = same_size left in
        room_credits n (slice_set ends e left) q.end (omega (arith, there, size)) (omega (arith, s, p, w, c, enough))

    pub credits_balanced : (tick : ℕ) (b : Bool) → nat_eq q.core number ≡ b → IsBalanced pairs number (goes_by (slice_set ends e left) q.core tick (credits_to q.end n) b).ends
    credits_balanced tick false is = record {
      sums = λ f ltf lf.
          let size = same_size left in
          let ltf' : f < length ends = omega (arith, ltf, size) in
          let s = sums.sums f ltf' lf in
          let d = fewer in
          let c = no_more left Credits f (omega arith) in
          let t = no_more left Tokens (peer_of pairs number f).end (omega (arith, d)) in
          omega (arith, s, c, t);
    }
    credits_balanced tick true is = record { sums = go }
      where
        local : q.core ≡ number
        local = eqb-true q.core number is

        meet : (f g : ℕ)
            → level Credits (slice_get (all_arrive (ends1 left) (credits_to q.end n)) f) ≡ level Credits (slice_get (ends1 left) f) + weights Credits f (credits_to q.end n)
            → level Tokens (slice_get (all_arrive (ends1 left) (credits_to q.end n)) g) ≡ level Tokens (slice_get (ends1 left) g) + weights Tokens g (credits_to q.end n)
            → weights Tokens g (credits_to q.end n) ≡ 0
            → level Credits (slice_get ends f) + level Tokens (slice_get ends g) ≤ 8
            → g ≡ (peer_of pairs number f).end
            → (q.end ≡ f) ⊎ (q.end ≢ f)
            → level Credits (slice_get (all_arrive (ends1 left) (credits_to q.end n)) f) + level Tokens (slice_get (all_arrive (ends1 left) (credits_to q.end n)) g) ≤ 8
        meet f g c t wt s is (inr n') =
            let wc = weights_credits_other q.end f n n' in
            let d = fewer in
            let a = no_more left Credits f (omega arith) in
            let b = no_more left Tokens g (omega (arith, d)) in
            omega (arith, c, t, wc, wt, a, b, s)
        meet f g c t wt s is (inl h) =
            let back_e = (wired.back e lt local).1 in
            let same : e ≡ g = sym back_e ∙ ap (λ v. (peer_of pairs number v).end) h ∙ sym is in
            let b = ap (λ v. level Tokens (slice_get (ends1 left) v)) same in
            let b' = changed_here left Tokens in
            let o = ap (λ v. level Tokens (slice_get ends v)) same in
            let o' = was_here left Tokens in
            let d = fewer in
            let a = no_more left Credits f (omega arith) in
            let w = ap (λ v. weights Credits v (credits_to q.end n)) h in
            let w' = weights_credits_here q.end n in
            omega (arith, c, t, wt, a, b, b', o, o', d, w, w', s)

        go : (f : ℕ) → f < length (all_arrive (ends1 left) (credits_to q.end n)) → (peer_of pairs number f).core ≡ number → level Credits (slice_get (all_arrive (ends1 left) (credits_to q.end n)) f) + level Tokens (slice_get (all_arrive (ends1 left) (credits_to q.end n)) (peer_of pairs number f).end) ≤ 8
        go f ltf lf =
            let size = length_all_arrive (ends1 left) (credits_to q.end n) in
            let size1 = same_size left in
            let ltf1 : f < length (ends1 left) = omega (arith, ltf, size) in
            let ltf0 : f < length ends = omega (arith, ltf, size, size1) in
            let ltg0 = wired.there f ltf0 lf in
            let ltg1 : (peer_of pairs number f).end < length (ends1 left) = omega (arith, ltg0, size1) in
            meet f (peer_of pairs number f).end (arrive_all Credits (ends1 left) f (credits_to q.end n) ltf1) (arrive_all Tokens (ends1 left) (peer_of pairs number f).end (credits_to q.end n) ltg1)
            (weights_credits q.end (peer_of pairs number f).end n) (sums.sums f ltf0 lf) refl (same_num q.end f)
