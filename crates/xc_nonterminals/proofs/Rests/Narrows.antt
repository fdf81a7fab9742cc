-- How the rests of a symbol become others: the ones that a token leaves open, their alternatives, and what stands behind a
-- token or a symbol.
use Rattle.std.proofs.Common.{◌≡◌, ℕ, ◌≤◌, ◌⊎◌, inl, inr, Bool, true, false, not, ◌&&◌, List, [], ◌∷◌, refl, sym as sym', subst, arith}
use Rattle.std.proofs.lemmas.Bool.{and_cases, or_parts, not-false}
use Rattle.xc_tree.specs.declared.token.Tok.{Tok}
use Rattle.xc_tree.specs.Symbol.{Symbol, Value}
use Rattle.xc_tree.specs.Derives.{Room, Prefix}
use Rattle.xc_nonterminals.specs.Follows.{StandsAt, OneOf, has}
use Rattle.xc_nonterminals.specs.Reading.{IsFront}
use Rattle.xc_nonterminals.proofs.Rests.Rests.{Rest, EndsBy, Ends, StartsBy, Starts, Open}
use Rattle.xc_nonterminals.proofs.Rests.Opening.{fronts, firsts, nullables, opens, keep, keep_if, sift, without, needs_none, within}
use Rattle.xc_nonterminals.proofs.Derivations.TokenSets.{front, one_is, one_within}
use Rattle.xc_nonterminals.proofs.Derivations.Firsts.{parts_first, begun_first}

-- Readings by some rests from k go by others from k', or go on at their end. Prefixes do so too, beyond token m.
pub record Narrows (toks : List Tok) (room : Room) (s : Symbol) (i k : ℕ) (rs : List (Rest (Value s))) (k' m : ℕ) (rs' : List (Rest (Value s))) : Type 0 where
  pub ends : (j : ℕ) (v : Value s) → Ends toks room rs i k j v → IsFront toks s j v ⊎ Ends toks room rs' i k' j v
  pub starts : (n : ℕ) → Starts toks room rs k n → (n ≤ m) ⊎ Starts toks room rs' k' n
  pub ends_back : (j : ℕ) (v : Value s) → Ends toks room rs' i k' j v → Ends toks room rs i k j v
  pub starts_back : (n : ℕ) → Starts toks room rs' k' n → Starts toks room rs k n

-- a rest that ends nowhere but where the symbol goes on, and has no prefix beyond token m
pub record Gone (toks : List Tok) (room : Room) (s : Symbol) (i k m : ℕ) (r : Rest (Value s)) : Type 0 where
  pub ends : (j : ℕ) (v : Value s) → EndsBy toks room r i k j v → IsFront toks s j v
  pub starts : (n : ℕ) → StartsBy toks room r k n → n ≤ m

module _ {toks : List Tok} {room : Room} {s : Symbol} {i : ℕ} where
  pub compose : {k : ℕ} {rs : List (Rest (Value s))} {k' m : ℕ} {rs' : List (Rest (Value s))} {k'' m' : ℕ} {rs'' : List (Rest (Value s))} → Narrows toks room s i k rs k' m rs' → Narrows toks room s i k' rs' k'' m' rs'' → m ≤ m' → Narrows toks room s i k rs k'' m' rs''
  compose a b l = record {
    ends = λ j v e. elim (a.ends j v e) [ inl g ↦ inl g | inr x ↦ b.ends j v x ];
    starts = λ n e. elim (a.starts n e) [ inl h ↦ inl (omega arith) | inr x ↦ b.starts n x ];
    ends_back = λ j v e. a.ends_back j v (b.ends_back j v e);
    starts_back = λ n e. a.starts_back n (b.starts_back n e);
  }

  pub same : (k m : ℕ) (rs : List (Rest (Value s))) → Narrows toks room s i k rs k m rs
  same k m rs = record { ends = λ j v e. inr e; starts = λ n e. inr e; ends_back = λ j v e. e; starts_back = λ n e. e }

  -- the other rests are open there
  pub narrow : {k m : ℕ} {rs : List (Rest (Value s))} {k' m' : ℕ} {rs' : List (Rest (Value s))} → Open toks room s i k m rs → Narrows toks room s i k rs k' m' rs' → m ≤ m' → Prefix toks room s i k' → Open toks room s i k' m' rs'
  narrow a b l h = record {
    derives = λ j v e. a.derives j v (b.ends_back j v e);
    only = λ j v d. elim (a.only j v d) [ inl g ↦ inl g | inr x ↦ b.ends j v x ];
    prefix = λ n e. a.prefix n (b.starts_back n e);
    here = h;
    most = λ n q. elim (a.most n q) [ inl x ↦ inl (omega arith) | inr x ↦ b.starts n x ];
  }

  -- some rests are gone
  module _ {k m : ℕ} (b : Rest (Value s) → Bool) (gone : (r : Rest (Value s)) → b r ≡ false → Gone toks room s i k m r) where
    ends_one : (r : Rest (Value s)) (rs kept : List (Rest (Value s))) (j : ℕ) (v : Value s) (c : Bool) → b r ≡ c → (Ends toks room rs i k j v → IsFront toks s j v ⊎ Ends toks room kept i k j v) → Ends toks room (r ∷ rs) i k j v → IsFront toks s j v ⊎ Ends toks room (keep_if c r kept) i k j v
    ends_one r rs kept j v true e f (inl x) = inr (inl x)
    ends_one r rs kept j v true e f (inr x) = elim (f x) [ inl g ↦ inl g | inr y ↦ inr (inr y) ]
    ends_one r rs kept j v false e f (inl x) = inl ((gone r e).ends j v x)
    ends_one r rs kept j v false e f (inr x) = f x

    sift_ends : (rs : List (Rest (Value s))) (j : ℕ) (v : Value s) → Ends toks room rs i k j v → IsFront toks s j v ⊎ Ends toks room (sift b rs) i k j v
    sift_ends [] j v x = absurd x
    sift_ends (r ∷ rs) j v x = ends_one r rs (sift b rs) j v (b r) refl (sift_ends rs j v) x

    starts_one : (r : Rest (Value s)) (rs kept : List (Rest (Value s))) (n : ℕ) (c : Bool) → b r ≡ c → (Starts toks room rs k n → (n ≤ m) ⊎ Starts toks room kept k n) → Starts toks room (r ∷ rs) k n → (n ≤ m) ⊎ Starts toks room (keep_if c r kept) k n
    starts_one r rs kept n true e f (inl x) = inr (inl x)
    starts_one r rs kept n true e f (inr x) = elim (f x) [ inl h ↦ inl h | inr y ↦ inr (inr y) ]
    starts_one r rs kept n false e f (inl x) = inl ((gone r e).starts n x)
    starts_one r rs kept n false e f (inr x) = f x

    sift_starts : (rs : List (Rest (Value s))) (n : ℕ) → Starts toks room rs k n → (n ≤ m) ⊎ Starts toks room (sift b rs) k n
    sift_starts [] n x = absurd x
    sift_starts (r ∷ rs) n x = starts_one r rs (sift b rs) n (b r) refl (sift_starts rs n) x

    back_one : (r : Rest (Value s)) (rs kept : List (Rest (Value s))) (j : ℕ) (v : Value s) (c : Bool) → (Ends toks room kept i k j v → Ends toks room rs i k j v) → Ends toks room (keep_if c r kept) i k j v → Ends toks room (r ∷ rs) i k j v
    back_one r rs kept j v true f (inl x) = inl x
    back_one r rs kept j v true f (inr x) = inr (f x)
    back_one r rs kept j v false f x = inr (f x)

    sift_back : (rs : List (Rest (Value s))) (j : ℕ) (v : Value s) → Ends toks room (sift b rs) i k j v → Ends toks room rs i k j v
    sift_back [] j v x = x
    sift_back (r ∷ rs) j v x = back_one r rs (sift b rs) j v (b r) (sift_back rs j v) x

    start_one : (r : Rest (Value s)) (rs kept : List (Rest (Value s))) (n : ℕ) (c : Bool) → (Starts toks room kept k n → Starts toks room rs k n) → Starts toks room (keep_if c r kept) k n → Starts toks room (r ∷ rs) k n
    start_one r rs kept n true f (inl x) = inl x
    start_one r rs kept n true f (inr x) = inr (f x)
    start_one r rs kept n false f x = inr (f x)

    start_back : (rs : List (Rest (Value s))) (n : ℕ) → Starts toks room (sift b rs) k n → Starts toks room rs k n
    start_back [] n x = x
    start_back (r ∷ rs) n x = start_one r rs (sift b rs) n (b r) (start_back rs n) x

    pub sifted : (rs : List (Rest (Value s))) → Narrows toks room s i k rs k m (sift b rs)
    sifted rs = record { ends = sift_ends rs; starts = sift_starts rs; ends_back = sift_back rs; starts_back = start_back rs }

  -- at a token only the rests that it opens stay
  module _ {k : ℕ} (t : Symbol) (at : StandsAt toks k t) where
    shut : (r : Rest (Value s)) → opens (fronts s) t r ≡ false → Gone toks room s i k k r
    shut r e =
        let p = or_parts (has (firsts r.parts) t) (nullables r.parts && not (has (fronts s) t)) e in
        let none : OneOf toks k (firsts r.parts) → ⊥ = λ o. let g = one_is t at o in let h = p.0 in absurd (cc) in
        let goes : nullables r.parts ≡ true → OneOf toks k (fronts s) = λ n. elim (and_cases (nullables r.parts) (not (has (fronts s) t)) p.1) [
          | inl h ↦ absurd (cc)
          | inr h ↦ record { token = t; stands = at; among = not-false (has (fronts s) t) h }
        ] in
        record {
          ends = λ j v x. elim (parts_first toks room r.parts k j x.0 x.2) [ inl y ↦ subst (λ (l : ℕ). IsFront toks s l v) (sym' y.0) (front s v (goes y.1)) | inr o ↦ absurd (none o) ];
          starts = λ n x. elim (begun_first toks room r.parts k n x.1) [ inl h ↦ h | inr o ↦ absurd (none o) ];
        }

    pub at_token : (rs : List (Rest (Value s))) → Narrows toks room s i k rs k k (keep (fronts s) t rs)
    at_token rs = sifted (opens (fronts s) t) shut rs

  -- where none of these tokens stands the rests that begin with one of them are gone
  module _ {k : ℕ} (ts : List Symbol) (none : OneOf toks k ts → ⊥) where
    lost : (r : Rest (Value s)) → needs_none ts r ≡ false → Gone toks room s i k k r
    lost r e =
        let p = or_parts (nullables r.parts) (not (within (firsts r.parts) ts)) e in
        let w : within (firsts r.parts) ts ≡ true = not_false_true (within (firsts r.parts) ts) p.1 in
        record {
          ends = λ j v x. elim (parts_first toks room r.parts k j x.0 x.2) [ inl y ↦ let h = p.0 in let g = y.1 in absurd (cc) | inr o ↦ absurd (none (one_within ts w o)) ];
          starts = λ n x. elim (begun_first toks room r.parts k n x.1) [ inl h ↦ h | inr o ↦ absurd (none (one_within ts w o)) ];
        }
      where
        not_false_true : (b : Bool) → not b ≡ false → b ≡ true
        not_false_true true f = refl
        not_false_true false f = absurd (cc)

    pub at_none : (rs : List (Rest (Value s))) → Narrows toks room s i k rs k k (without ts rs)
    at_none rs = sifted (needs_none ts) lost rs
