-- What comes from another core, where it has room, leaves a core in order.
use Rattle.std.proofs.Common.{◌≡◌, ◌<◌, ◌≤◌, ◌+◌, ℕ, true, List, length, sym, ap, ◌∙◌, subst, inl, inr, arith}
use Rattle.std.specs.Prelude.{slice_get, nat_eq, ◌⊎◌, ◌≢◌}
use Rattle.xs_core.proofs.Weights.{arrive, eq_itself, eq_not, length_arrives, same_num}
use Rattle.xs_core.specs.declared.state.Peer.{Peer as PeerKept}
use Rattle.xs_core.specs.declared.state.State.{State}
use Rattle.xs_core.specs.Deliver.{HasRoomFrom, level_if, level_near}
use Rattle.xs_core.specs.Order.{IsInOrder}
use Rattle.xs_core.specs.Room.{Kind, Tokens, Credits, level}
use Rattle.xs_core.specs.Seen.{home_of}
use Rattle.xs_core.specs.Wired.{IsBalanced, IsWired}
use Rattle.xs_instr.specs.declared.image.Home.{Home}
use Rattle.xs_instr.specs.declared.state.ChanEnd.{ChanEnd}
use Rattle.xs_instr.specs.declared.state.Moved.{Moved}
use Rattle.xs_instr.specs.declared.state.Moved.TheVariants.{Tok, Credit}
use Rattle.xs_instr.specs.Ends.{Peer, arrives, peer_of}
use Rattle.xw_words.specs.Words.{truth}

module _ (home : Home) (ends : List ChanEnd) (peers : List PeerKept) (w : IsWired home.pairs home.number (length ends) peers) (balanced : IsBalanced home.pairs home.number ends) where
  abbrev pub peer : ℕ → Peer
  peer e = peer_of home.pairs home.number e

  near_is : (k : Kind) (q : Peer) → q.core ≡ home.number → level_near home k ends q ≡ level k (slice_get ends q.end)
  near_is k q h =
      let e : nat_eq q.core home.number ≡ true = ap (λ v. nat_eq v home.number) h ∙ eq_itself home.number in
      ap (λ b. level_if k ends q.end b) e

  pub delivered_balanced : (m : Moved) → HasRoomFrom home ends m → IsBalanced home.pairs home.number (arrives ends m)
  delivered_balanced (Tok e k) room = record { sums = go }
    where
      go : (f : ℕ) → f < length (arrives ends (Tok e k)) → (peer f).core ≡ home.number → level Credits (slice_get (arrives ends (Tok e k)) f) + level Tokens (slice_get (arrives ends (Tok e k)) (peer f).end) ≤ 8
      go f ltf local = by (same_num e (peer f).end)
        where
          ltf' : f < length ends
          ltf' = let size = length_arrives ends (Tok e k) in omega (arith, ltf, size)

          by : (e ≡ (peer f).end) ⊎ (e ≢ (peer f).end) → level Credits (slice_get (arrives ends (Tok e k)) f) + level Tokens (slice_get (arrives ends (Tok e k)) (peer f).end) ≤ 8
          by (inr n) =
              let c = arrive Credits ends f (Tok e k) ltf' in
              let t = arrive Tokens ends (peer f).end (Tok e k) (w.there f ltf' local) in
              let z = ap truth (eq_not e (peer f).end n) in
              let s = balanced.sums f ltf' local in
              omega (arith, c, t, z, s)
          by (inl h) =
              let c = arrive Credits ends f (Tok e k) ltf' in
              let t = arrive Tokens ends (peer f).end (Tok e k) (w.there f ltf' local) in
              let o = ap truth (ap (λ v. nat_eq v (peer f).end) h ∙ eq_itself (peer f).end) in
              let back = w.back f ltf' local in
              let core : (peer e).core ≡ home.number = ap (λ v. (peer v).core) h ∙ back.0 in
              let end : (peer e).end ≡ f = ap (λ v. (peer v).end) h ∙ back.1 in
              let near = near_is Credits (peer e) core ∙ ap (λ v. level Credits (slice_get ends v)) end in
              let r = room.room in
              let same = ap (λ v. level Tokens (slice_get ends v)) h in
              omega (arith, c, t, o, near, r, same)
  delivered_balanced (Credit e) room = record { sums = go }
    where
      go : (f : ℕ) → f < length (arrives ends (Credit e)) → (peer f).core ≡ home.number → level Credits (slice_get (arrives ends (Credit e)) f) + level Tokens (slice_get (arrives ends (Credit e)) (peer f).end) ≤ 8
      go f ltf local = by (same_num e f)
        where
          ltf' : f < length ends
          ltf' = let size = length_arrives ends (Credit e) in omega (arith, ltf, size)

          by : (e ≡ f) ⊎ (e ≢ f) → level Credits (slice_get (arrives ends (Credit e)) f) + level Tokens (slice_get (arrives ends (Credit e)) (peer f).end) ≤ 8
          by (inr n) =
              let c = arrive Credits ends f (Credit e) ltf' in
              let t = arrive Tokens ends (peer f).end (Credit e) (w.there f ltf' local) in
              let z = ap truth (eq_not e f n) in
              let s = balanced.sums f ltf' local in
              omega (arith, c, t, z, s)
          by (inl h) =
              let c = arrive Credits ends f (Credit e) ltf' in
              let t = arrive Tokens ends (peer f).end (Credit e) (w.there f ltf' local) in
              let o = ap truth (ap (λ v. nat_eq v f) h ∙ eq_itself f) in
              let core : (peer e).core ≡ home.number = ap (λ v. (peer v).core) h ∙ local in
              let near = near_is Tokens (peer e) core ∙ ap (λ v. level Tokens (slice_get ends (peer v).end)) h in
              let r = room.room in
              let same = ap (λ v. level Credits (slice_get ends v)) h in
              omega (arith, c, t, o, near, r, same)

-- the core with what came is in order
pub delivered : (s : State) (ends : List ChanEnd) (m : Moved) → IsInOrder s → HasRoomFrom (home_of s) s.ends m → ends ≡ arrives s.ends m → IsInOrder (record s { ends = ends })
delivered s ends m order room is =
    let size : length ends ≡ length s.ends = ap length is ∙ length_arrives s.ends m in
    record {
      code = order.code;
      wired = subst (λ (n : ℕ). IsWired s.fixed.pairs s.ports.core n s.fixed.peers) (sym size) order.wired;
      balanced = subst (λ (l : List ChanEnd). IsBalanced s.fixed.pairs s.ports.core l) (sym is) (delivered_balanced (home_of s) s.ends s.fixed.peers order.wired order.balanced m room);
    }
