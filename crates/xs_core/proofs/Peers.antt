-- Each end that is there has a peer that is there, whose peer it is.
use Rattle.std.proofs.Common.{◌≡◌, ◌≤◌, ◌<◌, ℕ, Bool, true, false, List, [], ◌∷◌, refl, ap, ◌∙◌, subst, arith}
use Rattle.std.proofs.lemmas.Bool.{eqb-true}
use Rattle.std.specs.Prelude.{nat_eq, ◌&&◌}
use Rattle.xs_instr.specs.declared.image.Image.{Image}
use Rattle.xs_instr.specs.declared.image.CoreImage.{CoreImage}
use Rattle.xs_instr.specs.declared.image.Pair.{Pair}
use Rattle.xs_instr.specs.Ends.{Peer, is_first, is_second, peer_by, peer_of}
use Rattle.xs_instr.specs.Machine.{parts_in, parts_by}
use Rattle.xs_instr.specs.Valid.{AreGoodCores, IsThere, count_by, times_named, AreGoodPairs, Valid}
use Rattle.xs_core.proofs.Weights.{eq_itself}

both_true : (a b : Bool) → (a && b) ≡ true → (a ≡ true) × (b ≡ true)
both_true true true h = (refl, refl)
both_true true false h = cc
both_true false b h = cc

first_is : (p : Pair) (c e : ℕ) → is_first p c e ≡ true → (p.core ≡ c) × (p.end ≡ e)
first_is p c e h =
    let b = both_true (nat_eq p.core c) (nat_eq p.end e) h in (eqb-true p.core c b.0, eqb-true p.end e b.1)

second_is : (p : Pair) (c e : ℕ) → is_second p c e ≡ true → (p.peer_core ≡ c) × (p.peer_end ≡ e)
second_is p c e h =
    let b = both_true (nat_eq p.peer_core c) (nat_eq p.peer_end e) h in (eqb-true p.peer_core c b.0, eqb-true p.peer_end e b.1)

first_itself : (p : Pair) → is_first p p.core p.end ≡ true
first_itself p = rw (eq_itself p.core, eq_itself p.end) refl

second_itself : (p : Pair) → is_second p p.peer_core p.peer_end ≡ true
second_itself p = rw (eq_itself p.peer_core, eq_itself p.peer_end) refl

-- the peer is named where the end is
peer_named : (ps : List Pair) (c e : ℕ) → 1 ≤ times_named ps c e → 1 ≤ times_named ps (peer_of ps c e).core (peer_of ps c e).end
peer_named [] c e h = omega arith
peer_named (p ∷ ps) c e h = go (is_first p c e) refl (is_second p c e) refl (λ k. peer_named ps c e k) h
  where
    more : (n : ℕ) (b d : Bool) → 1 ≤ n → 1 ≤ count_by (count_by n b) d
    more n true true k = omega arith
    more n true false k = omega arith
    more n false true k = omega arith
    more n false false k = k

    by_first : (n : ℕ) (b d : Bool) → d ≡ true → 1 ≤ count_by (count_by n b) d
    by_first n b true k = omega arith
    by_first n b false k = cc

    by_second : (n : ℕ) (b d : Bool) → b ≡ true → 1 ≤ count_by (count_by n b) d
    by_second n true true k = omega arith
    by_second n true false k = omega arith
    by_second n false d k = cc

    go : (f : Bool) → is_first p c e ≡ f → (g : Bool) → is_second p c e ≡ g → (1 ≤ times_named ps c e → 1 ≤ times_named ps (peer_of ps c e).core (peer_of ps c e).end) → 1 ≤ count_by (count_by (times_named ps c e) g) f → 1 ≤ times_named (p ∷ ps) (peer_by p (peer_of ps c e) f g).core (peer_by p (peer_of ps c e) f g).end
    go true x g y rest k = by_second (times_named ps p.peer_core p.peer_end) (is_second p p.peer_core p.peer_end) (is_first p p.peer_core p.peer_end) (second_itself p)
    go false x true y rest k = by_first (times_named ps p.core p.end) (is_second p p.core p.end) (is_first p p.core p.end) (first_itself p)
    go false x false y rest k =
        let q = peer_of ps c e in
        more (times_named ps q.core q.end) (is_second p q.core q.end) (is_first p q.core q.end) (rest k)

abbrev pub peer : ℕ → ℕ → Peer
peer c e = record { core = c; end = e }

counts_by : (n : ℕ) (f g : Bool) → count_by (count_by n g) f ≡ 1 → f ≡ true → (n ≡ 0) × (g ≡ false)
counts_by n true true h k = let no : ⊥ = omega arith in absurd no
counts_by n true false h k = let e : n ≡ 0 = omega arith in (e, refl)
counts_by n false g h k = cc

counts_second : (n : ℕ) (f g : Bool) → count_by (count_by n g) f ≡ 1 → g ≡ true → (n ≡ 0) × (f ≡ false)
counts_second n true true h k = let no : ⊥ = omega arith in absurd no
counts_second n false true h k = let e : n ≡ 0 = omega arith in (e, refl)
counts_second n f false h k = cc

counts_none : (n : ℕ) (f g : Bool) → count_by (count_by n g) f ≡ 1 → 1 ≤ n → (f ≡ false) × (g ≡ false)
counts_none n false false h k = (refl, refl)
counts_none n true true h k = let no : ⊥ = omega arith in absurd no
counts_none n true false h k = let no : ⊥ = omega arith in absurd no
counts_none n false true h k = let no : ⊥ = omega arith in absurd no

once_by : (n : ℕ) (f g : Bool) → count_by (count_by n g) f ≡ 1 → f ≡ false → g ≡ false → n ≡ 1
once_by n false false h a b = h
once_by n true g h a b = cc
once_by n false true h a b = cc

peer_first : (p : Pair) (rest : Peer) (f g : Bool) → f ≡ true → peer_by p rest f g ≡ peer p.peer_core p.peer_end
peer_first p rest true g h = refl
peer_first p rest false g h = cc

peer_second : (p : Pair) (rest : Peer) (f g : Bool) → f ≡ false → g ≡ true → peer_by p rest f g ≡ peer p.core p.end
peer_second p rest false true h k = refl
peer_second p rest true g h k = cc
peer_second p rest false false h k = cc

peer_rest : (p : Pair) (rest : Peer) (f g : Bool) → f ≡ false → g ≡ false → peer_by p rest f g ≡ rest
peer_rest p rest false false h k = refl
peer_rest p rest true g h k = cc
peer_rest p rest false true h k = cc

-- the peer's peer is the end itself
pub peer_back : (ps : List Pair) (c e : ℕ) → times_named ps c e ≡ 1 → times_named ps (peer_of ps c e).core (peer_of ps c e).end ≡ 1 → peer_of ps (peer_of ps c e).core (peer_of ps c e).end ≡ peer c e
peer_back [] c e h k = refl
peer_back (p ∷ ps) c e h k = go (is_first p c e) refl (is_second p c e) refl (λ a b. peer_back ps c e a b) h k
  where
    go : (f : Bool) → is_first p c e ≡ f → (g : Bool) → is_second p c e ≡ g → (times_named ps c e ≡ 1 → times_named ps (peer_of ps c e).core (peer_of ps c e).end ≡ 1 → peer_of ps (peer_of ps c e).core (peer_of ps c e).end ≡ peer c e) → count_by (count_by (times_named ps c e) g) f ≡ 1 → times_named (p ∷ ps) (peer_by p (peer_of ps c e) f g).core (peer_by p (peer_of ps c e) f g).end ≡ 1 → peer_of (p ∷ ps) (peer_by p (peer_of ps c e) f g).core (peer_by p (peer_of ps c e) f g).end ≡ peer c e
    go true x g y rest a b =
        let at_c = first_is p c e x in
        let other = counts_second _ (is_first p p.peer_core p.peer_end) (is_second p p.peer_core p.peer_end) b (second_itself p) in
        peer_second p (peer_of ps p.peer_core p.peer_end) _ _ other.1 (second_itself p)
        ∙ ap (λ v. peer v p.end) at_c.0 ∙ ap (λ v. peer c v) at_c.1
    go false x true y rest a b =
        let at_c = second_is p c e y in
        peer_first p (peer_of ps p.core p.end) _ (is_second p p.core p.end) (first_itself p)
        ∙ ap (λ v. peer v p.peer_end) at_c.0 ∙ ap (λ v. peer c v) at_c.1
    go false x false y rest a b =
        let r = peer_of ps c e in
        let some : 1 ≤ times_named ps c e = omega arith in
        let named = peer_named ps c e some in
        let none = counts_none (times_named ps r.core r.end) (is_first p r.core r.end) (is_second p r.core r.end) b named in
        let once : times_named ps r.core r.end ≡ 1 = once_by (times_named ps r.core r.end) (is_first p r.core r.end) (is_second p r.core r.end) b none.0 none.1 in
        peer_rest p (peer_of ps r.core r.end) (is_first p r.core r.end) (is_second p r.core r.end) none.0 none.1 ∙ rest a once

-- a core with an end has a number below 4
pub core_there : (ks : List CoreImage) (n c e : ℕ) → AreGoodCores n ks → e < (parts_in ks c).ends → c < 4
core_there [] n c e h lt = omega arith
core_there (k ∷ ks) n c e h lt = go (nat_eq k.number c) refl (λ x. core_there ks _ c e h.3 x) lt
  where
    go : (b : Bool) → nat_eq k.number c ≡ b → (e < (parts_in ks c).ends → c < 4) → e < (parts_by k (parts_in ks c) b).ends → c < 4
    go true x rest y = let m = eqb-true k.number c x in let lt = h.1 in omega (arith, m, lt)
    go false x rest y = rest y

-- an end that is named is there
named_there : (ks : List CoreImage) (ps : List Pair) (c e : ℕ) → AreGoodPairs ks ps → 1 ≤ times_named ps c e → IsThere ks c e
named_there ks [] c e h n = omega arith
named_there ks (p ∷ ps) c e h n = go (is_first p c e) refl (is_second p c e) refl (λ k. named_there ks ps c e h.2 k) n
  where
    go : (f : Bool) → is_first p c e ≡ f → (g : Bool) → is_second p c e ≡ g → (1 ≤ times_named ps c e → IsThere ks c e) → 1 ≤ count_by (count_by (times_named ps c e) g) f → IsThere ks c e
    go true x g y rest k =
        let w = first_is p c e x in
        subst (λ v. IsThere ks v e) w.0 (subst (λ v. IsThere ks p.core v) w.1 h.0)
    go false x true y rest k =
        let w = second_is p c e y in
        subst (λ v. IsThere ks v e) w.0 (subst (λ v. IsThere ks p.peer_core v) w.1 h.1)
    go false x false y rest k = rest k

module _ (L : Image) (valid : Valid L) where
  pub peer_there : (c e : ℕ) → IsThere L.cores c e → IsThere L.cores (peer_of L.chans c e).core (peer_of L.chans c e).end
  peer_there c e h =
      let once = valid.once c e h in
      let some : 1 ≤ times_named L.chans c e = omega (arith, once) in
      named_there L.cores L.chans _ _ valid.pairs (peer_named L.chans c e some)

  pub peer_twice : (c e : ℕ) → IsThere L.cores c e → peer_of L.chans (peer_of L.chans c e).core (peer_of L.chans c e).end ≡ peer c e
  peer_twice c e h = peer_back L.chans c e (valid.once c e h) (valid.once _ _ (peer_there c e h))

  pub core_below : (c e : ℕ) → IsThere L.cores c e → c < 4
  core_below c e h = core_there L.cores 0 c e valid.cores h
