-- A valid image's channels are wired: each end is one side of one channel.
use Rattle.std.proofs.Common.{◌≡◌, ◌<◌, ◌≤◌, ℕ, suc, zero, ◌+◌, Bool, true, false, List, [], ◌∷◌, Some, refl, sym, ap, ◌∙◌, subst, arith, eq-eqb}
use Rattle.std.specs.Prelude.{slice_get, nat_eq}
use Rattle.std.proofs.lemmas.Bool.{eqb-true}
use Rattle.xs_instr.specs.declared.image.CoreImage.{CoreImage}
use Rattle.xs_instr.specs.declared.image.Image.{Image}
use Rattle.xs_instr.specs.declared.image.Pair.{Pair}
use Rattle.xs_instr.specs.Ends.{Peer, peer_of, peer_by, is_first, is_second}
use Rattle.xs_instr.specs.Machine.{parts_in, parts_by}
use Rattle.xs_instr.specs.Valid.{Valid, IsThere, AreGoodPairs, AreGoodCores, times_named, count_by}
use Rattle.xc_meaning.specs.States.Channels.{Side, first, second, other_side}
use Rattle.xr_channels.specs.Channels.{end_of_side, IsWired}

-- whether an end is a side of a channel
abbrev pub is_side : Pair → Side → ℕ → ℕ → Bool
is_side p first c e = is_first p c e
is_side p second c e = is_second p c e

-- its own end is
side_itself : (p : Pair) (side : Side) → is_side p side (end_of_side p side).core (end_of_side p side).end ≡ true
side_itself p first = rw (eq-eqb p.core p.core refl, eq-eqb p.end p.end refl) refl
side_itself p second = rw (eq-eqb p.peer_core p.peer_core refl, eq-eqb p.peer_end p.peer_end refl) refl

-- a channel is one
same_pair : (a b : Pair) → Some a ≡ Some b → a ≡ b
same_pair a b h = cc

-- a channel names its ends
counts_side : (p : Pair) (side : Side) (n : ℕ) (c e : ℕ) → is_side p side c e ≡ true → 1 + n ≤ count_by (count_by n (is_second p c e)) (is_first p c e)
counts_side p first n c e h = by (is_first p c e) (is_second p c e) h
  where
    by : (f g : Bool) → f ≡ true → 1 + n ≤ count_by (count_by n g) f
    by true true h = omega arith
    by true false h = omega arith
    by false g h = cc
counts_side p second n c e h = by (is_first p c e) (is_second p c e) h
  where
    by : (f g : Bool) → g ≡ true → 1 + n ≤ count_by (count_by n g) f
    by true true h = omega arith
    by false true h = omega arith
    by f false h = cc

-- and the others are counted too
counts_rest : (p : Pair) (n c e : ℕ) → n ≤ count_by (count_by n (is_second p c e)) (is_first p c e)
counts_rest p n c e = by (is_first p c e) (is_second p c e)
  where
    by : (f g : Bool) → n ≤ count_by (count_by n g) f
    by true true = omega arith
    by true false = omega arith
    by false true = omega arith
    by false false = omega arith

-- so its ends are named
named_at : (ps : List Pair) (k : ℕ) (p : Pair) (side : Side) → slice_get ps k ≡ Some p → 1 ≤ times_named ps (end_of_side p side).core (end_of_side p side).end
named_at [] k p side h = cc
named_at (x ∷ ps) zero p side h =
    let same : x ≡ p = same_pair x p h in
    let c = counts_side x side (times_named ps (end_of_side p side).core (end_of_side p side).end) (end_of_side p side).core (end_of_side p side).end (subst (λ (y : Pair). is_side y side (end_of_side p side).core (end_of_side p side).end ≡ true) (sym same) (side_itself p side)) in
    omega (arith, c)
named_at (x ∷ ps) (suc k) p side h =
    let r = named_at ps k p side h in
    let c = counts_rest x (times_named ps (end_of_side p side).core (end_of_side p side).end) (end_of_side p side).core (end_of_side p side).end in
    omega (arith, r, c)

-- the peer of one that is named once
peers_in : (ps : List Pair) (k : ℕ) (p : Pair) (side : Side) → slice_get ps k ≡ Some p → times_named ps (end_of_side p side).core (end_of_side p side).end ≤ 1 → peer_of ps (end_of_side p side).core (end_of_side p side).end ≡ end_of_side p (other_side side)
peers_in [] k p side h few = cc
peers_in (x ∷ ps) zero p side h few =
    let same : x ≡ p = same_pair x p h in
    subst (λ (y : Pair). times_named (y ∷ ps) (end_of_side p side).core (end_of_side p side).end ≤ 1 → peer_of (y ∷ ps) (end_of_side p side).core (end_of_side p side).end ≡ end_of_side p (other_side side)) (sym same) (at_head side) few
  where
    at_head : (s : Side) → times_named (p ∷ ps) (end_of_side p s).core (end_of_side p s).end ≤ 1 → peer_of (p ∷ ps) (end_of_side p s).core (end_of_side p s).end ≡ end_of_side p (other_side s)
    at_head first k = ap (λ f. peer_by p (peer_of ps p.core p.end) f (is_second p p.core p.end)) (side_itself p first)
    at_head second k = by (is_first p p.peer_core p.peer_end) (is_second p p.peer_core p.peer_end) (side_itself p second) k
      where
        by : (f g : Bool) → g ≡ true → count_by (count_by (times_named ps p.peer_core p.peer_end) g) f ≤ 1 → peer_by p (peer_of ps p.peer_core p.peer_end) f g ≡ end_of_side p first
        by false true e l = refl
        by true true e l = absurd (omega arith)
        by f false e l = cc
peers_in (x ∷ ps) (suc k) p side h few = by (is_first x (end_of_side p side).core (end_of_side p side).end) (is_second x (end_of_side p side).core (end_of_side p side).end) few (named_at ps k p side h) (λ l. peers_in ps k p side h l)
  where
    by : (f g : Bool) → count_by (count_by (times_named ps (end_of_side p side).core (end_of_side p side).end) g) f ≤ 1 → 1 ≤ times_named ps (end_of_side p side).core (end_of_side p side).end → (times_named ps (end_of_side p side).core (end_of_side p side).end ≤ 1 → peer_of ps (end_of_side p side).core (end_of_side p side).end ≡ end_of_side p (other_side side)) → peer_by x (peer_of ps (end_of_side p side).core (end_of_side p side).end) f g ≡ end_of_side p (other_side side)
    by false false l m rest = rest l
    by true true l m rest = absurd (omega arith)
    by true false l m rest = absurd (omega arith)
    by false true l m rest = absurd (omega arith)

-- an end that is named once is one side
once_in : (ps : List Pair) (k : ℕ) (p : Pair) (side : Side) (k' : ℕ) (p' : Pair) (side' : Side) → slice_get ps k ≡ Some p → slice_get ps k' ≡ Some p' → end_of_side p side ≡ end_of_side p' side' → times_named ps (end_of_side p side).core (end_of_side p side).end ≤ 1 → (k ≡ k') × (side ≡ side')
once_in [] k p side k' p' side' h h' e few = cc
once_in (x ∷ ps) zero p side zero p' side' h h' e few =
    let same : p ≡ p' = same_pair p p' (sym h ∙ h') in
    let is_x : x ≡ p = same_pair x p h in
    (refl, by side side' (e ∙ ap (λ (y : Pair). end_of_side y side') (sym same)) (subst (λ (y : Pair). times_named (y ∷ ps) (end_of_side p side).core (end_of_side p side).end ≤ 1) is_x few))
  where
    both : (f g : Bool) (n : ℕ) → f ≡ true → g ≡ true → count_by (count_by n g) f ≤ 1 → ⊥
    both true true n a b l = omega arith
    both false g n a b l = cc
    both true false n a b l = cc

    by : (s s' : Side) → end_of_side p s ≡ end_of_side p s' → times_named (p ∷ ps) (end_of_side p s).core (end_of_side p s).end ≤ 1 → s ≡ s'
    by first first z l = refl
    by second second z l = refl
    by first second z l = absurd (both _ _ (times_named ps p.core p.end) (side_itself p first) (subst (λ (q : Peer). is_second p q.core q.end ≡ true) (sym z) (side_itself p second)) l)
    by second first z l = absurd (both _ _ (times_named ps p.peer_core p.peer_end) (subst (λ (q : Peer). is_first p q.core q.end ≡ true) (sym z) (side_itself p first)) (side_itself p second) l)
once_in (x ∷ ps) zero p side (suc k') p' side' h h' e few =
    let is_x : x ≡ p = same_pair x p h in
    let c = counts_side x side (times_named ps (end_of_side p side).core (end_of_side p side).end) (end_of_side p side).core (end_of_side p side).end (subst (λ (y : Pair). is_side y side (end_of_side p side).core (end_of_side p side).end ≡ true) (sym is_x) (side_itself p side)) in
    let n = subst (λ (q : Peer). 1 ≤ times_named ps q.core q.end) (sym e) (named_at ps k' p' side' h') in
    absurd (omega (arith, c, n, few))
once_in (x ∷ ps) (suc k) p side zero p' side' h h' e few =
    let is_x : x ≡ p' = same_pair x p' h' in
    let c = counts_side x side' (times_named ps (end_of_side p side).core (end_of_side p side).end) (end_of_side p side).core (end_of_side p side).end (subst (λ (q : Peer). is_side x side' q.core q.end ≡ true) (sym e) (subst (λ (y : Pair). is_side y side' (end_of_side p' side').core (end_of_side p' side').end ≡ true) (sym is_x) (side_itself p' side'))) in
    let n = named_at ps k p side h in
    absurd (omega (arith, c, n, few))
once_in (x ∷ ps) (suc k) p side (suc k') p' side' h h' e few =
    let c = counts_rest x (times_named ps (end_of_side p side).core (end_of_side p side).end) (end_of_side p side).core (end_of_side p side).end in
    let r = once_in ps k p side k' p' side' h h' e (omega (arith, c, few)) in
    (ap suc r.0, r.1)

-- the ends of channels are there
pub there_in : (ks : List CoreImage) (ps : List Pair) (k : ℕ) (p : Pair) (side : Side) → AreGoodPairs ks ps → slice_get ps k ≡ Some p → IsThere ks (end_of_side p side).core (end_of_side p side).end
there_in ks [] k p side g h = cc
there_in ks (x ∷ ps) zero p side g h = subst (λ (y : Pair). IsThere ks (end_of_side y side).core (end_of_side y side).end) (same_pair x p h) (by side)
  where
    by : (s : Side) → IsThere ks (end_of_side x s).core (end_of_side x s).end
    by first = g.0
    by second = g.1
there_in ks (x ∷ ps) (suc k) p side g h = there_in ks ps k p side g.2 h

-- a core with an end has a number below 4
core_there : (ks : List CoreImage) (n c e : ℕ) → AreGoodCores n ks → e < (parts_in ks c).ends → c < 4
core_there [] n c e h lt = absurd (omega arith)
core_there (k ∷ ks) n c e h lt = go (nat_eq k.number c) refl (λ x. core_there ks _ c e h.3 x) lt
  where
    go : (b : Bool) → nat_eq k.number c ≡ b → (e < (parts_in ks c).ends → c < 4) → e < (parts_by k (parts_in ks c) b).ends → c < 4
    go true x rest y = let m = eqb-true k.number c x in let lt = h.1 in omega (arith, m, lt)
    go false x rest y = rest y

-- each end of a valid image
pub valid_wired : (L : Image) → Valid L → IsWired L.chans
valid_wired L valid = record {
  peers = λ k p side at_k. peers_in L.chans k p side at_k (few k p side at_k);
  once = λ k p side k' p' side' at_k at_k' e. once_in L.chans k p side k' p' side' at_k at_k' e (few k p side at_k);
  core = λ k p side at_k. core_there L.cores 0 (end_of_side p side).core (end_of_side p side).end valid.cores (there_in L.cores L.chans k p side valid.pairs at_k);
}
  where
    few : (k : ℕ) (p : Pair) (side : Side) → slice_get L.chans k ≡ Some p → times_named L.chans (end_of_side p side).core (end_of_side p side).end ≤ 1
    few k p side at_k = let o = valid.once (end_of_side p side).core (end_of_side p side).end (there_in L.cores L.chans k p side valid.pairs at_k) in omega (arith, o)
