-- A core as it starts: its threads, its peers, and why it is in order.
use Rattle.std.proofs.Common.{◌≡◌, ◌<◌, ◌≤◌, ◌+◌, ℕ, zero, suc, Bool, true, false, List, [], ◌∷◌, ◌++◌, Some, length, replicate, slice_get, slice_set, get_or, refl, sym, ap, ◌∙◌, subst, inl, inr, arith, add-one, length-append}
use Rattle.std.specs.Prelude.{nat_eq, ◌⊎◌, ◌≢◌, IfOk, Result, Ok, Err}
use Rattle.std.proofs.lemmas.List.{get_or_append_left, length-replicate}
use Rattle.std.proofs.Math.Seq.{get_or-append_seam}
use Rattle.xs_core.proofs.Peers.{peer_there, peer_twice}
use Rattle.xs_core.proofs.Weights.{same_num}
use Rattle.xs_core.specs.declared.state.Peer.{Peer as PeerKept}
use Rattle.xs_core.specs.declared.state.Fixed.{Fixed}
use Rattle.xs_core.specs.declared.state.State.{State}
use Rattle.xs_core.specs.Order.{IsGoodCode, IsInOrder}
use Rattle.xs_core.specs.Room.{Tokens, Credits, level}
use Rattle.xs_core.specs.Seen.{state_of}
use Rattle.xs_core.specs.Start.{started}
use Rattle.xs_core.specs.Wired.{ArePeers, IsBalanced, IsWired, no_peer, peer_as, peer_at}
use Rattle.xs_instr.specs.declared.image.CoreImage.{CoreImage}
use Rattle.xs_instr.specs.declared.image.Image.{Image}
use Rattle.xs_instr.specs.declared.image.Pair.{Pair}
use Rattle.xs_instr.specs.declared.state.ChanEnd.{ChanEnd}
use Rattle.xs_instr.specs.declared.state.CoreState.{CoreState}
use Rattle.xs_instr.specs.declared.state.Thread.{Thread}
use Rattle.xs_instr.specs.Ends.{Peer, peer_of}
use Rattle.xs_instr.specs.Machine.{boot_core, boot_end, boot_threads, parts_by, parts_in, root_thread, unused_thread}
use Rattle.xw_words.specs.declared.memory.Memory.{Memory}
use Rattle.xs_instr.specs.Valid.{AreGoodCores, AreGoodPorts, Valid}

-- of n threads those below place t are started
abbrev pub started_to : List ℕ → ℕ → ℕ → List Thread
started_to roots zero t = []
started_to roots (suc n) zero = unused_thread ∷ started_to roots n zero
started_to [] (suc n) (suc t) = unused_thread ∷ started_to [] n t
started_to (k ∷ roots) (suc n) (suc t) = root_thread k ∷ started_to roots n t

none_started : (roots others : List ℕ) (n : ℕ) → started_to roots n zero ≡ started_to others n zero
none_started roots others zero = refl
none_started roots others (suc n) = ap (λ l. unused_thread ∷ l) (none_started roots others n)

started_more : (roots : List ℕ) (n t : ℕ) → t < n → slice_set (started_to roots n t) t (started (slice_get roots t)) ≡ started_to roots n (suc t)
started_more roots zero t lt = absurd (omega arith)
started_more [] (suc n) zero lt = refl
started_more (k ∷ roots) (suc n) zero lt = ap (λ l. root_thread k ∷ l) (none_started (k ∷ roots) roots n)
started_more [] (suc n) (suc t) lt = ap (λ l. unused_thread ∷ l) (started_more [] n t (omega arith))
started_more (k ∷ roots) (suc n) (suc t) lt = ap (λ l. root_thread k ∷ l) (started_more roots n t (omega arith))

pub started_next : (roots : List ℕ) (t : ℕ) (now : List Thread) (x : Thread) → now ≡ started_to roots 8 t → x ≡ started (slice_get roots t) → t < 8 → slice_set now t x ≡ started_to roots 8 (t + 1)
started_next roots t now x e is lt =
    ap (λ l. slice_set l t x) e ∙ ap (λ v. slice_set (started_to roots 8 t) t v) is ∙ started_more roots 8 t lt ∙ ap (started_to roots 8) (sym (add-one t))

pub all_started : (roots : List ℕ) (n : ℕ) → started_to roots n n ≡ boot_threads roots n
all_started roots zero = refl
all_started [] (suc n) = ap (λ l. unused_thread ∷ l) (all_started [] n)
all_started (k ∷ roots) (suc n) = ap (λ l. root_thread k ∷ l) (all_started roots n)

pub no_peers : (pairs : List Pair) (number : ℕ) → ArePeers pairs number 0 []
no_peers pairs number = record { one = refl; kept = λ e lt. absurd (omega arith) }

-- the peer of one more end
pub one_peer_more : (pairs : List Pair) (number n : ℕ) (peers : List PeerKept) (p : PeerKept) → ArePeers pairs number n peers → peer_as p ≡ peer_of pairs number n → ArePeers pairs number (n + 1) (peers ++ p ∷ [])
one_peer_more pairs number n peers p h is = record {
  one = let a = length-append peers (p ∷ []) in let o = h.one in omega (arith, a, o);
  kept = go;
}
  where
    go : (e : ℕ) → e < n + 1 → peer_at (peers ++ p ∷ []) e ≡ peer_of pairs number e
    go e lt = by (same_num e n)
      where
        by : (e ≡ n) ⊎ (e ≢ n) → peer_at (peers ++ p ∷ []) e ≡ peer_of pairs number e
        by (inl same) =
            let size : e ≡ length peers = same ∙ sym h.one in
            ap (λ v. peer_as (get_or (peers ++ p ∷ []) v no_peer)) size ∙ ap peer_as (get_or-append_seam peers p [] no_peer) ∙ is ∙ ap (λ v. peer_of pairs number v) (sym same)
        by (inr other) =
            let o = h.one in
            let less : e < n = omega (arith, other, lt) in
            let below : e < length peers = omega (arith, less, o) in
            ap peer_as (get_or_append_left peers (p ∷ []) no_peer e below) ∙ h.kept e less

-- what a good image says of a core's part
pub record IsGoodPart (k : CoreImage) : Type 0 where
  pub code : IsGoodCode k.code.instrs
  pub roots : length k.roots ≤ 8
  pub ports : AreGoodPorts k.ports

pub good_part : (ks : List CoreImage) (n c : ℕ) → AreGoodCores n ks → IsGoodPart (parts_in ks c)
good_part [] n c h = record { code = record { few = omega arith; good = tt }; roots = omega arith; ports = tt }
good_part (k ∷ ks) n c h = go (nat_eq k.number c) (good_part ks (k.number + 1) c h.3)
  where
    go : (b : Bool) → IsGoodPart (parts_in ks c) → IsGoodPart (parts_by k (parts_in ks c) b)
    go true rest = record { code = record { few = h.2.few; good = h.2.code }; roots = h.2.few_roots; ports = h.2.ports }
    go false rest = rest

get_first : (n e : ℕ) (x : ChanEnd) → e < n → slice_get (replicate n x) e ≡ Some x
get_first zero e x h = absurd (omega arith)
get_first (suc n) zero x h = refl
get_first (suc n) (suc e) x h = get_first n e x (omega arith)

module _ (L : Image) (valid : Valid L) (c : ℕ) where
  pub wired : (peers : List PeerKept) → ArePeers L.chans c (parts_in L.cores c).ends peers → IsWired L.chans c (parts_in L.cores c).ends peers
  wired peers h = record {
    one = h.one;
    kept = h.kept;
    there = λ e lt local.
        let t = peer_there L valid c e lt in
        subst (λ v. (peer_of L.chans c e).end < (parts_in L.cores v).ends) local t;
    back = λ e lt local.
        let twice = peer_twice L valid c e lt in
        let here = subst (λ v. peer_of L.chans v (peer_of L.chans c e).end ≡ record { core = c; end = e }) local twice in
        (ap (λ (q : Peer). q.core) here, ap (λ (q : Peer). q.end) here);
  }

  pub balanced : (n : ℕ) (peers : List PeerKept) → IsWired L.chans c n peers → IsBalanced L.chans c (replicate n boot_end)
  balanced n peers w = record {
    sums = λ e lt local.
        let size = length-replicate n boot_end in
        let here : e < n = omega (arith, lt, size) in
        let a = ap (level Credits) (get_first n e boot_end here) in
        let b = ap (level Tokens) (get_first n (peer_of L.chans c e).end boot_end (w.there e here local)) in
        omega (arith, a, b);
  }

-- a core that starts is in order
pub starts_in_order : (L : Image) → Valid L → (c : ℕ) (s : State) → s.fixed.parts ≡ parts_in L.cores c → s.fixed.pairs ≡ L.chans → ArePeers L.chans c (parts_in L.cores c).ends s.fixed.peers → s.ports.core ≡ c → s.ends ≡ replicate (parts_in L.cores c).ends boot_end → IsInOrder s
starts_in_order L valid c s parts pairs peers core ends =
    let n = (parts_in L.cores c).ends in
    let w = wired L valid c s.fixed.peers peers in
    let size : length s.ends ≡ n = ap length ends ∙ length-replicate n boot_end in
    record {
      code = subst (λ (k : CoreImage). IsGoodCode k.code.instrs) (sym parts) (good_part L.cores 0 c valid.cores).code;
      wired = rw (pairs, core, size) w;
      balanced = rw (pairs, core, ends) (balanced L valid c n s.fixed.peers w);
    }

-- so is a core that is put together around what no event changes of it
pub boots_in_order : (L : Image) → Valid L → (c : ℕ) (fixed : Fixed) → fixed.parts ≡ parts_in L.cores c → fixed.pairs ≡ L.chans → ArePeers L.chans c (parts_in L.cores c).ends fixed.peers → (r : Result State Memory) → IfOk r (λ s. s.fixed ≡ fixed) → IfOk r (λ s. s.ports.core ≡ c) → IfOk r (λ s. state_of s ≡ boot_core fixed.parts) → IfOk r IsInOrder
boots_in_order L valid c fixed parts pairs peers (Err e) f n h = tt
boots_in_order L valid c fixed parts pairs peers (Ok s) f n h =
    let ends : s.ends ≡ replicate fixed.parts.ends boot_end = ap (λ (x : CoreState). x.ends) h in
    starts_in_order L valid c s (ap (λ (x : Fixed). x.parts) f ∙ parts) (ap (λ (x : Fixed). x.pairs) f ∙ pairs)
    (subst (λ (x : Fixed). ArePeers L.chans c (parts_in L.cores c).ends x.peers) (sym f) peers) n
    (ends ∙ ap (λ (k : CoreImage). replicate k.ends boot_end) parts)
