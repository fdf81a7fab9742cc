-- Rests that all begin with one symbol, and they behind it.
use Rattle.std.proofs.Common.{◌≡◌, ℕ, ◌≤◌, ◌⊎◌, inl, inr, true, not, ◌||◌, List, sym as sym', subst}
use Rattle.std.proofs.lemmas.Bool.{and_parts, or_cases, not-true}
use Rattle.xc_tree.specs.declared.token.Tok.{Tok}
use Rattle.xc_tree.specs.Symbol.{Symbol, Value}
use Rattle.xc_tree.specs.Derives.{Room, HasRoom, Derives, Prefix}
use Rattle.xc_nonterminals.specs.Follows.{OneOf, follows}
use Rattle.xc_nonterminals.specs.Reading.{GoesOn, IsFront}
use Rattle.xc_nonterminals.proofs.Rests.Rests.{Part, Rest, Ends, Starts, inside}
use Rattle.xc_nonterminals.proofs.Rests.Opening.{fronts, firsts, nullables, within, is_disjoint, is_apart, all_apart, Heads, no_head, one_head, popped}
use Rattle.xc_nonterminals.proofs.Derivations.TokenSets.{one_within, one_disjoint, front}
use Rattle.xc_nonterminals.proofs.Derivations.Firsts.{parts_first, begun_first}
use Rattle.xc_nonterminals.proofs.Rests.Spreads.{has_max, max_has}

-- what a longer reading of t goes on with begins nothing behind t, or a longer reading of s goes on with it
pub record Apart (toks : List Tok) (s t : Symbol) (ps : List Part) : Type 0 where
  pub begins : (m : ℕ) → GoesOn toks t m → OneOf toks m (firsts ps) → ⊥
  pub ends : (m : ℕ) → GoesOn toks t m → nullables ps ≡ true → OneOf toks m (fronts s)

pub apart_from : {toks : List Tok} (s t : Symbol) (ps : List Part) → is_apart s t ps ≡ true → Apart toks s t ps
apart_from {toks} s t ps e =
    let p = and_parts (is_disjoint (follows t) (firsts ps)) (not (nullables ps) || within (follows t) (fronts s)) e in
    record {
      begins = λ m g o. one_disjoint (firsts ps) p.0 g o;
      ends = λ m g n. elim (or_cases (not (nullables ps)) (within (follows t) (fronts s)) p.1) [
        | inl f ↦ let h = not-true (nullables ps) f in absurd (cc)
        | inr w ↦ one_within (fronts s) w g
      ];
    }

module _ (toks : List Tok) (room : Room) (s : Symbol) (i : ℕ) {t : Symbol} {a : ℕ} where
  pub split_ends : {rs : List (Rest (Value s))} (hs : Heads t a rs) (k j : ℕ) (v : Value s) → Ends toks room rs i k j v → (m : ℕ) × (x : Value t) × HasRoom room a × Derives toks (inside room a) t k m x × Ends toks room (popped hs x) i m j v
  split_ends no_head k j v e = absurd e
  split_ends (one_head {n} hs) k j v (inl (vs, h, (m, g, d, r), b, q)) = (m, vs.0, g, d, inl (vs.1, has_max room n a h g, r, b, q))
  split_ends (one_head hs) k j v (inr e) = let y = split_ends hs k j v e in (y.0, y.1, y.2, y.3, inr y.4)

  pub join_ends : {rs : List (Rest (Value s))} (hs : Heads t a rs) (k m j : ℕ) (x : Value t) (v : Value s) → Derives toks (inside room a) t k m x → Ends toks room (popped hs x) i m j v → Ends toks room rs i k j v
  join_ends no_head k m j x v d e = absurd e
  join_ends (one_head {n} hs) k m j x v d (inl e) = let h = max_has room n a e.1 in inl ((x, e.0), h.0, (m, h.1, d, e.2), e.3, e.4)
  join_ends (one_head hs) k m j x v d (inr e) = inr (join_ends hs k m j x v d e)

  pub split_starts : {rs : List (Rest (Value s))} (hs : Heads t a rs) (k n : ℕ) → Starts toks room rs k n → (HasRoom room a × Prefix toks (inside room a) t k n) ⊎ ((m : ℕ) × (x : Value t) × HasRoom room a × Derives toks (inside room a) t k m x × Starts toks room (popped hs x) m n)
  split_starts no_head k n e = absurd e
  split_starts (one_head hs) k n (inl (h, inl q)) = inl q
  split_starts (one_head {n = need} hs) k n (inl (h, inr (m, x, g, d, b))) = inr (m, x, g, d, inl (has_max room need a h g, b))
  split_starts (one_head hs) k n (inr e) = elim (split_starts hs k n e) [ inl q ↦ inl q | inr y ↦ inr (y.0, y.1, y.2, y.3, inr y.4) ]

  pub join_starts : {rs : List (Rest (Value s))} (hs : Heads t a rs) (k m n : ℕ) (x : Value t) → Derives toks (inside room a) t k m x → Starts toks room (popped hs x) m n → Starts toks room rs k n
  join_starts no_head k m n x d e = absurd e
  join_starts (one_head {n = need} hs) k m n x d (inl e) = let h = max_has room need a e.0 in inl (h.0, inr (m, x, h.1, d, e.1))
  join_starts (one_head hs) k m n x d (inr e) = inr (join_starts hs k m n x d e)

  pub apart_ends : {rs : List (Rest (Value s))} (hs : Heads t a rs) (m j : ℕ) (x : Value t) (v : Value s) → all_apart s hs ≡ true → IsFront toks t m x → Ends toks room (popped hs x) i m j v → IsFront toks s j v
  apart_ends no_head m j x v e g y = absurd y
  apart_ends (one_head {ps} hs) m j x v e g (inl y) =
      let p = apart_from {toks = toks} s t ps (and_parts (is_apart s t ps) (all_apart s hs) e).0 in
      elim (parts_first toks room ps m j y.0 y.2) [
        | inl z ↦ subst (λ (l : ℕ). IsFront toks s l v) (sym' z.0) (front s v (p.ends m g.goes_on z.1))
        | inr o ↦ absurd (p.begins m g.goes_on o)
      ]
  apart_ends (one_head {ps} hs) m j x v e g (inr y) = apart_ends hs m j x v (and_parts (is_apart s t ps) (all_apart s hs) e).1 g y

  pub apart_starts : {rs : List (Rest (Value s))} (hs : Heads t a rs) (m n : ℕ) (x : Value t) → all_apart s hs ≡ true → IsFront toks t m x → Starts toks room (popped hs x) m n → n ≤ m
  apart_starts no_head m n x e g y = absurd y
  apart_starts (one_head {ps} hs) m n x e g (inl y) =
      let p = apart_from {toks = toks} s t ps (and_parts (is_apart s t ps) (all_apart s hs) e).0 in
      elim (begun_first toks room ps m n y.1) [ inl h ↦ h | inr o ↦ absurd (p.begins m g.goes_on o) ]
  apart_starts (one_head {ps} hs) m n x e g (inr y) = apart_starts hs m n x (and_parts (is_apart s t ps) (all_apart s hs) e).1 g y
