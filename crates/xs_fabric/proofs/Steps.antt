-- A step keeps the counts of each pair of ends.
use Rattle.std.proofs.Common.{◌≡◌, ◌<◌, ◌+◌, ℕ, zero, suc, Bool, true, false, List, [], ◌∷◌, ◌++◌, Some, length, sym, ap, ◌∙◌, inl, inr, subst, arith}
use Rattle.std.proofs.lemmas.Bool.{eqb-true}
use Rattle.std.specs.Prelude.{slice_get, slice_set, nat_eq, ◌≢◌, ◌⊎◌}
use Rattle.xs_instr.specs.declared.image.Image.{Image}
use Rattle.xs_instr.specs.declared.state.ChanEnd.{ChanEnd}
use Rattle.xs_instr.specs.declared.state.CoreState.{CoreState}
use Rattle.xs_instr.specs.declared.state.Item.{Item}
use Rattle.xs_instr.specs.declared.state.Moved.{Moved}
use Rattle.xs_instr.specs.declared.state.Token.{Token}
use Rattle.xs_instr.specs.declared.trace.Record.{Record}
use Rattle.xs_instr.specs.Ends.{Peer, Gone, peer_of, all_sent, tokens_to, credits_to, goes_by}
use Rattle.xs_instr.specs.Machine.{Machine, link_of, link_put, on_links}
use Rattle.xs_instr.specs.Valid.{Valid, IsThere}
use Rattle.xs_core.specs.Room.{Kind, Tokens, Credits, weights, level, ends_in, ends_of, total}
use Rattle.xs_fabric.proofs.Links.{Links}
use Rattle.xs_core.proofs.Weights.{same_num, arrive_all}
use Rattle.xs_fabric.proofs.Ways.{Square, square_put, way_sent, way_sent_other}
use Rattle.xs_core.proofs.Peers.{peer, peer_there, peer_twice}
use Rattle.xs_fabric.proofs.Sound.{Sound, AllThere, AreBound, target, peer_at, machine, bound_put, ends_new, ends_old}

-- what one of two counts loses at (c, e), the other gains at (d, f)
pub record Shifts (L : Image) (m m' : Machine) (k j : Kind) (c e d f n : ℕ) : Type 0 where
  pub lost : total k m' c e + n ≡ total k m c e
  pub kept : (x y : ℕ) → IsThere L.cores x y → (c ≡ x → e ≡ y → ⊥) → total k m' x y ≡ total k m x y
  pub gained : total j m' d f ≡ total j m d f + n
  pub held : (x y : ℕ) → IsThere L.cores x y → (d ≡ x → f ≡ y → ⊥) → total j m' x y ≡ total j m x y

same_place : (c x e y : ℕ) → ((c ≡ x) × (e ≡ y)) ⊎ (c ≡ x → e ≡ y → ⊥)
same_place c x e y = go (same_num c x) (same_num e y)
  where
    go : (c ≡ x) ⊎ (c ≢ x) → (e ≡ y) ⊎ (e ≢ y) → ((c ≡ x) × (e ≡ y)) ⊎ (c ≡ x → e ≡ y → ⊥)
    go (inl a) (inl b) = inl (a, b)
    go (inr n) b = inr (λ a _. n a)
    go (inl a) (inr n) = inr (λ _ b. n b)

peer_is : (a b : Peer) → a ≡ b → (a.core ≡ b.core) × (a.end ≡ b.end)
peer_is a b h = (ap (λ (p : Peer). p.core) h, ap (λ (p : Peer). p.end) h)

module _ (L : Image) (valid : Valid L) where
  -- where (x, y)'s peer is that of (c, e), it is (c, e)
  peer_once : (c e x y : ℕ) → IsThere L.cores c e → IsThere L.cores x y → (peer_at L c e).core ≡ (peer_at L x y).core → (peer_at L c e).end ≡ (peer_at L x y).end → (c ≡ x) × (e ≡ y)
  peer_once c e x y h g a b =
      let p = peer_twice L valid c e h in
      let q = peer_twice L valid x y g in
      let s = ap (λ v. peer_of L.chans v (peer_at L c e).end) a ∙ ap (λ v. peer_of L.chans (peer_at L x y).core v) b in
      peer_is (peer c e) (peer x y) (sym p ∙ s ∙ q)

  -- credits are spent, and tokens go
  pub sums_given : (m m' : Machine) (c e n : ℕ) → Sound L m → IsThere L.cores c e → Shifts L m m' Credits Tokens c e (peer_at L c e).core (peer_at L c e).end n → (x y : ℕ) → IsThere L.cores x y → total Credits m' x y + total Tokens m' (peer_at L x y).core (peer_at L x y).end ≡ 8
  sums_given m m' c e n sound h s x y g = go (same_place c x e y)
    where
      go : ((c ≡ x) × (e ≡ y)) ⊎ (c ≡ x → e ≡ y → ⊥) → total Credits m' x y + total Tokens m' (peer_at L x y).core (peer_at L x y).end ≡ 8
      go (inl w) =
          let sum = sound.sums c e h in
          let lost = s.lost in
          let gained = s.gained in
          let here : total Credits m' c e + total Tokens m' (peer_at L c e).core (peer_at L c e).end ≡ 8 = omega (arith, sum, lost, gained) in
          subst (λ v. total Credits m' v y + total Tokens m' (peer_at L v y).core (peer_at L v y).end ≡ 8) w.0
          (subst (λ v. total Credits m' c v + total Tokens m' (peer_at L c v).core (peer_at L c v).end ≡ 8) w.1 here)
      go (inr w) =
          let sum = sound.sums x y g in
          let a = s.kept x y g w in
          let far : (peer_at L c e).core ≡ (peer_at L x y).core → (peer_at L c e).end ≡ (peer_at L x y).end → ⊥ = λ u v. let r = peer_once c e x y h g u v in w r.0 r.1 in
          let b = s.held _ _ (peer_there L valid x y g) far in
          omega (arith, sum, a, b)

  -- tokens are taken, and credits go
  pub sums_taken : (m m' : Machine) (c e n : ℕ) → Sound L m → IsThere L.cores c e → Shifts L m m' Tokens Credits c e (peer_at L c e).core (peer_at L c e).end n → (x y : ℕ) → IsThere L.cores x y → total Credits m' x y + total Tokens m' (peer_at L x y).core (peer_at L x y).end ≡ 8
  sums_taken m m' c e n sound h s x y g = go (same_place (peer_at L c e).core x (peer_at L c e).end y)
    where
      q : Peer
      q = peer_at L c e

      go : (((peer_at L c e).core ≡ x) × ((peer_at L c e).end ≡ y)) ⊎ ((peer_at L c e).core ≡ x → (peer_at L c e).end ≡ y → ⊥) → total Credits m' x y + total Tokens m' (peer_at L x y).core (peer_at L x y).end ≡ 8
      go (inl w) =
          let back = peer_twice L valid c e h in
          let there = peer_there L valid c e h in
          let sum = subst (λ (v : Peer). total Credits m (peer_at L c e).core (peer_at L c e).end + total Tokens m v.core v.end ≡ 8) back (sound.sums _ _ there) in
          let lost = s.lost in
          let gained = s.gained in
          let here : total Credits m' (peer_at L c e).core (peer_at L c e).end + total Tokens m' c e ≡ 8 = omega (arith, sum, lost, gained) in
          let here' = subst (λ (v : Peer). total Credits m' (peer_at L c e).core (peer_at L c e).end + total Tokens m' v.core v.end ≡ 8) (sym back) here in
          subst (λ v. total Credits m' v y + total Tokens m' (peer_at L v y).core (peer_at L v y).end ≡ 8) w.0
          (subst (λ v. total Credits m' (peer_at L c e).core v + total Tokens m' (peer_at L (peer_at L c e).core v).core (peer_at L (peer_at L c e).core v).end ≡ 8) w.1 here')
      go (inr w) =
          let sum = sound.sums x y g in
          let a = s.held x y g w in
          let far : c ≡ (peer_at L x y).core → e ≡ (peer_at L x y).end → ⊥ = λ u v.
          let back = peer_twice L valid x y g in
          let same = ap (λ z. peer_of L.chans z e) u ∙ ap (λ z. peer_of L.chans (peer_at L x y).core z) v ∙ back in
          let is = peer_is (peer_at L c e) (peer x y) same in
          w is.0 is.1 in
          let b = s.kept _ _ (peer_there L valid x y g) far in
          omega (arith, sum, a, b)

abbrev pub AllFor : Image → ℕ → List Moved → Type 0
AllFor L d [] = Unit {0}
AllFor L d (m ∷ ms) = IsThere L.cores d (target m) × AllFor L d ms

pub all_for_tokens : (L : Image) (d f : ℕ) (ks : List Token) → IsThere L.cores d f → AllFor L d (tokens_to f ks)
all_for_tokens L d f [] h = tt
all_for_tokens L d f (k ∷ ks) h = (h, all_for_tokens L d f ks h)

pub all_for_credits : (L : Image) (d f n : ℕ) → IsThere L.cores d f → AllFor L d (credits_to f n)
all_for_credits L d f zero h = tt
all_for_credits L d f (suc n) h = (h, all_for_credits L d f n h)

there_append : (L : Image) (b : ℕ) (xs : List Item) (i : Item) → AllThere L b xs → IsThere L.cores b (target i.moved) → AllThere L b (xs ++ i ∷ [])
there_append L b [] i h g = (g, tt)
there_append L b (x ∷ xs) i h g = (h.0, there_append L b xs i h.1 g)

pub bound_sent : (L : Image) (links : Links) (c d tick : ℕ) (ms : List Moved) → Square links → c < 4 → d < 4 → AreBound L links → AllFor L d ms → AreBound L (on_links links c (all_sent d tick ms))
bound_sent L links c d tick [] q lc ld h g = h
bound_sent L links c d tick (m ∷ ms) q lc ld h g =
    let i : Item = record { tick = tick; moved = m } in
    let x = link_of links c d ++ i ∷ [] in
    bound_sent L (link_put links c d x) c d tick ms (square_put links c d x q) lc ld
    (bound_put L links c d x q lc ld h (there_append L d (link_of links c d) i (h c d) g.0)) g.1

-- core c's ends are `ends`, and what it posts to core d is on its way or there
module _ (L : Image) (m : Machine) (c d tick : ℕ) (core : CoreState) (ends : List ChanEnd) (ms : List Moved) (trace : List Record) (sound : Sound L m) (lc : c < 4) (ld : d < 4) (at_c : slice_get m.cores c ≡ Some core) (size : length ends ≡ length core.ends) where
  abbrev before : Machine
  before = machine (slice_set m.cores c (record core { ends = ends })) m.links m.trace

  abbrev posted : CoreState → Gone → Machine
  posted new gone = machine (slice_set m.cores c new) (on_links m.links c gone.sent) trace

  size_before : (x y : ℕ) → y < length (ends_of m x) → (c ≡ x) ⊎ (c ≢ x) → y < length (ends_of before x)
  size_before x y lt (inr n) = subst (λ l. y < length l) (sym (ends_old m.cores m.links m.links m.trace m.trace c x (record core { ends = ends }) n)) lt
  size_before x y lt (inl e) =
      let lt' = subst (λ v. y < length (ends_of m v)) (sym e) lt in
      let lt'' : y < length core.ends = subst (λ l. y < length (ends_in l)) at_c lt' in
      let lt3 : y < length ends = omega (arith, size, lt'') in
      subst (λ v. y < length (ends_of before v)) e (subst (λ l. y < length l) (sym (ends_new m.cores m.links m.trace c core (record core { ends = ends }) at_c)) lt3)

  -- the ends of a core that gets nothing within the core
  ends_kept : (new : CoreState) (links : Links) (x : ℕ) → new.ends ≡ ends → (c ≡ x) ⊎ (c ≢ x) → ends_of (machine (slice_set m.cores c new) links trace) x ≡ ends_of before x
  ends_kept new links x h (inr n) = ends_old m.cores links m.links trace m.trace c x new n ∙ sym (ends_old m.cores m.links m.links m.trace m.trace c x (record core { ends = ends }) n)
  ends_kept new links x h (inl e) =
      subst (λ v. ends_of (machine (slice_set m.cores c new) links trace) v ≡ ends_of before v) e
      (ends_new m.cores links trace c core new at_c ∙ h ∙ sym (ends_new m.cores m.links m.trace c core (record core { ends = ends }) at_c))

  pub post_here : (k : Kind) (y : ℕ) (b : Bool) (new : CoreState) → nat_eq d c ≡ b → new.ends ≡ (goes_by ends d tick ms b).ends → y < length (ends_of m d) → total k (posted new (goes_by ends d tick ms b)) d y ≡ total k before d y + weights k y ms
  post_here k y false new e h lt =
      let a = ap (λ l. level k (slice_get l y)) (ends_kept new (on_links m.links c (all_sent d tick ms)) d h (same_num c d)) in
      let b = way_sent k y m.links c d tick ms sound.square lc ld in
      omega (arith, a, b)
  post_here k y true new e h lt =
      let dc = eqb-true d c e in
      let lt' = size_before d y lt (same_num c d) in
      let lt'' : y < length ends = subst (λ l. y < length l) (ends_new m.cores m.links m.trace c core (record core { ends = ends }) at_c) (subst (λ v. y < length (ends_of before v)) dc lt') in
      let n = ap (λ l. level k (slice_get l y)) (ends_new m.cores m.links trace c core new at_c ∙ h) in
      let o = ap (λ l. level k (slice_get l y)) (ends_new m.cores m.links m.trace c core (record core { ends = ends }) at_c) in
      let a = arrive_all k ends y ms lt'' in
      let here : total k (machine (slice_set m.cores c new) m.links trace) c y ≡ total k before c y + weights k y ms = omega (arith, n, o, a) in
      subst (λ v. total k (machine (slice_set m.cores c new) m.links trace) v y ≡ total k before v y + weights k y ms) (sym dc) here

  post_other : (k : Kind) (x y : ℕ) (b : Bool) (new : CoreState) → nat_eq d c ≡ b → new.ends ≡ (goes_by ends d tick ms b).ends → d ≢ x → total k (posted new (goes_by ends d tick ms b)) x y ≡ total k before x y
  post_other k x y false new e h ne =
      let a = ap (λ l. level k (slice_get l y)) (ends_kept new (on_links m.links c (all_sent d tick ms)) x h (same_num c x)) in
      let b = way_sent_other k y m.links c d x tick ms ne in
      omega (arith, a, b)
  post_other k x y true new e h ne =
      let dc = eqb-true d c e in
      let cx : c ≢ x = λ w. ne (dc ∙ w) in
      let a = ap (λ l. level k (slice_get l y)) (ends_old m.cores m.links m.links trace m.trace c x new cx ∙ sym (ends_old m.cores m.links m.links m.trace m.trace c x (record core { ends = ends }) cx)) in
      omega (arith, a)

  -- where nothing of that kind goes to that end
  pub post_none : (k : Kind) (x y : ℕ) (b : Bool) (new : CoreState) → nat_eq d c ≡ b → new.ends ≡ (goes_by ends d tick ms b).ends → y < length (ends_of m x) → weights k y ms ≡ 0 ⊎ (d ≢ x) → total k (posted new (goes_by ends d tick ms b)) x y ≡ total k before x y
  post_none k x y b new e h lt (inr ne) = post_other k x y b new e h ne
  post_none k x y b new e h lt (inl w) = go (same_num d x)
    where
      go : (d ≡ x) ⊎ (d ≢ x) → total k (posted new (goes_by ends d tick ms b)) x y ≡ total k before x y
      go (inr ne) = post_other k x y b new e h ne
      go (inl s) =
          let lt' = subst (λ v. y < length (ends_of m v)) (sym s) lt in
          let r = post_here k y b new e h lt' in
          let r' : total k (posted new (goes_by ends d tick ms b)) d y ≡ total k before d y = omega (arith, r, w) in
          subst (λ v. total k (posted new (goes_by ends d tick ms b)) v y ≡ total k before v y) s r'
