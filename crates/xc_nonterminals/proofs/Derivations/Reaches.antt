-- A token with which parts can begin is a prefix of them, where no limit is set.
use Rattle.std.proofs.Common.{◌≡◌, ℕ, zero, suc, ◌+◌, ◌⊎◌, inl, inr, Bool, true, false, List, [], ◌∷◌, slice_get, None, refl, sym as sym', ap, subst}
use Rattle.xc_tree.specs.declared.token.Tok.{Tok}
use Rattle.xc_tree.specs.Symbol.{Symbol, sym, key, a_name, a_number, many, maybe, params, arguments, waits, at_once, Value}
use Rattle.xc_tree.specs.Grammar.{Rule, rules}
use Rattle.xc_tree.specs.Derives.{Among, Room, unlimited, Derives, a_sym, a_key, named, counted, by_rule, done, Prefix, whole, begins, Begins, in_this, after}
use Rattle.xc_nonterminals.specs.Follows.{StandsAt, has, first, is_same}
use Rattle.xc_nonterminals.proofs.Rests.Rests.{Part, Rest, BeginsOf, Starts}
use Rattle.xc_nonterminals.proofs.Derivations.TokenSets.{is_same_eq}
use Rattle.xc_nonterminals.proofs.Derivations.Forth.{inside_free}

-- symbols that derive nothing by their first alternative
abbrev pub is_empty : Symbol → Bool
is_empty (many s) = true
is_empty (maybe s) = true
is_empty params = true
is_empty arguments = true
is_empty waits = true
is_empty _ = false

abbrev reach_row : (Symbol → Bool) → List Symbol → Bool
reach_row f [] = false
reach_row f (s ∷ ss) = elim (f s) [ true ↦ true | false ↦ elim (is_empty s) [ true ↦ reach_row f ss | false ↦ false ] ]

abbrev reach_one : {V : Type 0} → (Symbol → Bool) → List (Rule V) → Bool
reach_one f [] = false
reach_one f (r ∷ rs) = elim (reach_row f r.parts) [ true ↦ true | false ↦ reach_one f rs ]

-- a symbol can begin with this token, by at most so many alternatives one in the other
abbrev pub reach : ℕ → Symbol → Symbol → Bool
reach zero t s = false
reach (suc n) t s = elim (is_same s t) [ true ↦ true | false ↦ elim (has (first s) t) [ true ↦ reach_one (reach n t) (rules s) | false ↦ false ] ]

abbrev reach_parts : (Symbol → Bool) → List Part → Bool
reach_parts f [] = false
reach_parts f (p ∷ ps) = elim (f p.symbol) [ true ↦ true | false ↦ elim (is_empty p.symbol) [ true ↦ reach_parts f ps | false ↦ false ] ]

abbrev pub steps : ℕ
steps = 20

-- one of some rests can
abbrev pub reaches : {V : Type 0} → Symbol → List (Rest V) → Bool
reaches t [] = false
reaches t (r ∷ rs) = elim (reach_parts (reach steps t) r.parts) [ true ↦ true | false ↦ reaches t rs ]

by_empty : {toks : List Tok} {s : Symbol} {k : ℕ} {m : Value s} {rs : List (Rule (Value s))} → rules s ≡ record { parts = []; fits = λ x. true; nodes = 0; make = λ e x. m } ∷ rs → Derives toks unlimited s k k m
by_empty {s} {m} {rs} e = by_rule {r = record { parts = []; fits = λ x. true; nodes = 0; make = λ e x. m }} (record { at = 0; there = ap (λ (l : List (Rule (Value s))). slice_get l 0) e }) tt done refl

empty_derives : (toks : List Tok) (s : Symbol) (k : ℕ) → is_empty s ≡ true → (v : Value s) × Derives toks unlimited s k k v
empty_derives toks (many s) k e = ([], by_empty refl)
empty_derives toks (maybe s) k e = (None, by_empty refl)
empty_derives toks params k e = ([], by_empty refl)
empty_derives toks arguments k e = ([], by_empty refl)
empty_derives toks waits k e = (at_once, by_empty refl)
empty_derives toks _ k e = absurd (cc)

either : (a c : Bool) → elim a as (λ x. Bool) [ true ↦ true | false ↦ c ] ≡ true → (a ≡ true) ⊎ (c ≡ true)
either true c e = inl refl
either false c e = inr e

both : (b c : Bool) → elim b as (λ x. Bool) [ true ↦ c | false ↦ false ] ≡ true → (b ≡ true) × (c ≡ true)
both true c e = (refl, e)
both false c e = absurd (cc)

-- tokens mean themselves
same_stands : (toks : List Tok) (k : ℕ) (s t : Symbol) → is_same s t ≡ true → StandsAt toks k t → StandsAt toks k s
same_stands toks k s t e x = subst (StandsAt toks k) (sym' (is_same_eq s t e)) x

module _ (toks : List Tok) (k : ℕ) where
  token_begins : (s : Symbol) → StandsAt toks k s → Prefix toks unlimited s k (k + 1)
  token_begins (sym o) x = whole (a_sym x.1)
  token_begins (key w) x = whole (a_key x.1)
  token_begins a_name x = whole (named x.2)
  token_begins a_number x = whole (counted x.3)
  token_begins _ x = absurd x

  row_reached : (f : Symbol → Bool) → ((s : Symbol) → f s ≡ true → Prefix toks unlimited s k (k + 1)) → (ss : List Symbol) → reach_row f ss ≡ true → Begins toks unlimited ss k (k + 1)
  row_reached f h [] e = absurd (cc)
  row_reached f h (s ∷ ss) e = elim (either (f s) (elim (is_empty s) [ true ↦ reach_row f ss | false ↦ false ]) e) [
    | inl p ↦ in_this (h s p)
    | inr q ↦ let b = both (is_empty s) (reach_row f ss) q in let d = empty_derives toks s k b.0 in after d.1 (row_reached f h ss b.1)
  ]

  one_reached : {V : Type 0} (f : Symbol → Bool) → ((s : Symbol) → f s ≡ true → Prefix toks unlimited s k (k + 1)) → (rs : List (Rule V)) → reach_one f rs ≡ true → (r : Rule V) × Among rs r × Begins toks unlimited r.parts k (k + 1)
  one_reached f h [] e = absurd (cc)
  one_reached f h (r ∷ rs) e = elim (either (reach_row f r.parts) (reach_one f rs) e) [
    | inl p ↦ (r, record { at = 0; there = refl }, row_reached f h r.parts p)
    | inr q ↦ let y = one_reached f h rs q in (y.0, record { at = suc y.1.at; there = y.1.there }, y.2)
  ]

  pub reached : (n : ℕ) (t : Symbol) → StandsAt toks k t → (s : Symbol) → reach n t s ≡ true → Prefix toks unlimited s k (k + 1)
  reached zero t at s e = absurd (cc)
  reached (suc n) t at s e = elim (either (is_same s t) (elim (has (first s) t) [ true ↦ reach_one (reach n t) (rules s) | false ↦ false ]) e) [
    | inl p ↦ token_begins s (same_stands toks k s t p at)
    | inr q ↦ let b = both (has (first s) t) (reach_one (reach n t) (rules s)) q in let y = one_reached (reach n t) (reached n t at) (rules s) b.1 in begins y.1 tt y.2
  ]

  parts_reached : (f : Symbol → Bool) → ((s : Symbol) → f s ≡ true → Prefix toks unlimited s k (k + 1)) → (ps : List Part) → reach_parts f ps ≡ true → BeginsOf toks unlimited ps k (k + 1)
  parts_reached f h [] e = absurd (cc)
  parts_reached f h (p ∷ ps) e = elim (either (f p.symbol) (elim (is_empty p.symbol) [ true ↦ reach_parts f ps | false ↦ false ]) e) [
    | inl q ↦ inl (tt, subst (λ (r : Room). Prefix toks r p.symbol k (k + 1)) (sym' (inside_free p.above)) (h p.symbol q))
    | inr q ↦
        let b = both (is_empty p.symbol) (reach_parts f ps) q in
        let d = empty_derives toks p.symbol k b.0 in
        inr (k, d.0, tt, subst (λ (r : Room). Derives toks r p.symbol k k d.0) (sym' (inside_free p.above)) d.1, parts_reached f h ps b.1)
  ]

  pub rests_reached : {V : Type 0} (t : Symbol) → StandsAt toks k t → (rs : List (Rest V)) → reaches t rs ≡ true → Starts toks unlimited rs k (k + 1)
  rests_reached t at [] e = absurd (cc)
  rests_reached t at (r ∷ rs) e = elim (either (reach_parts (reach steps t) r.parts) (reaches t rs) e) [
    | inl p ↦ inl (tt, parts_reached (reach steps t) (reached steps t at) r.parts p)
    | inr q ↦ inr (rests_reached t at rs q)
  ]
