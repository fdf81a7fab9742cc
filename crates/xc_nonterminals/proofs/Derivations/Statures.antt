-- Derivations without a limit, by how tall they are: what stands in one is less tall.
use Rattle.std.proofs.Common.{◌≡◌, ℕ, zero, suc, ◌+◌, ◌≤◌, ◌⊎◌, inl, inr, true, false, List, [], ◌∷◌, slice_get, Some, refl, sym as sym', subst, arith}
use Rattle.xc_tree.specs.declared.token.Tok.{Tok}
use Rattle.xc_tree.specs.Symbol.{Symbol, Value, Values}
use Rattle.xc_tree.specs.Grammar.{Rule, rules}
use Rattle.xc_tree.specs.Derives.{Room, unlimited, Derives, a_sym, a_key, named, counted, by_rule, Row, done, next, extent}
use Rattle.xc_nonterminals.specs.Follows.{OneOf}
use Rattle.xc_nonterminals.proofs.Rests.Opening.{is_token}
use Rattle.xc_nonterminals.proofs.Derivations.Covers.{row_firsts, row_nullable}
use Rattle.xc_nonterminals.proofs.Derivations.Firsts.{row_first}
use Rattle.xc_nonterminals.proofs.Rests.Alternatives.{ByRules, from_rules}

-- symbols one after the other, each of which is read so
abbrev pub RowBy : ((s : Symbol) → ℕ → ℕ → Value s → Type 0) → (ss : List Symbol) → ℕ → ℕ → Values ss → Type 0
RowBy reads [] i j vs = j ≡ i
RowBy reads (s ∷ ss) i j vs = (k : ℕ) × reads s i k vs.0 × RowBy reads ss k j vs.1

-- one of some alternatives, with its symbols read so
abbrev pub ByOne : {V : Type 0} → List Tok → ((s : Symbol) → ℕ → ℕ → Value s → Type 0) → Rule V → ℕ → ℕ → V → Type 0
ByOne toks reads r i j v = (vs : Values r.parts) × RowBy reads r.parts i j vs × (r.fits vs ≡ true) × (v ≡ r.make (extent toks i j) vs)

abbrev pub By : {V : Type 0} → List Tok → ((s : Symbol) → ℕ → ℕ → Value s → Type 0) → List (Rule V) → ℕ → ℕ → V → Type 0
By toks reads [] i j v = ⊥
By toks reads (r ∷ rs) i j v = ByOne toks reads r i j v ⊎ By toks reads rs i j v

-- a derivation that is less than n symbols tall
abbrev pub Tree : List Tok → ℕ → (s : Symbol) → ℕ → ℕ → Value s → Type 0
Tree toks zero s i j v = ⊥
Tree toks (suc n) s i j v = ((is_token s ≡ true) × Derives toks unlimited s i j v) ⊎ By toks (Tree toks n) (rules s) i j v

module _ (toks : List Tok) where
  module _ (n m : ℕ) (f : (s : Symbol) (i j : ℕ) (v : Value s) → Tree toks n s i j v → Tree toks m s i j v) where
    map_row : (ss : List Symbol) (i j : ℕ) (vs : Values ss) → RowBy (Tree toks n) ss i j vs → RowBy (Tree toks m) ss i j vs
    map_row [] i j vs e = e
    map_row (s ∷ ss) i j vs (k, d, r) = (k, f s i k vs.0 d, map_row ss k j vs.1 r)

    map_by : {V : Type 0} (rs : List (Rule V)) (i j : ℕ) (v : V) → By toks (Tree toks n) rs i j v → By toks (Tree toks m) rs i j v
    map_by [] i j v e = absurd e
    map_by (r ∷ rs) i j v (inl e) = inl (e.0, map_row r.parts i j e.0 e.1, e.2, e.3)
    map_by (r ∷ rs) i j v (inr e) = inr (map_by rs i j v e)

  pub taller : (n m : ℕ) → n ≤ m → (s : Symbol) (i j : ℕ) (v : Value s) → Tree toks n s i j v → Tree toks m s i j v
  taller zero m h s i j v t = absurd t
  taller (suc n) zero h s i j v t = absurd (omega arith)
  taller (suc n) (suc m) h s i j v (inl x) = inl x
  taller (suc n) (suc m) h s i j v (inr x) = inr (map_by n m (taller n m (omega arith)) (rules s) i j v x)

  module _ (n : ℕ) where
    -- a symbol that is no token is read by one of its alternatives
    pub opened : (s : Symbol) → is_token s ≡ false → (i j : ℕ) (v : Value s) → Tree toks (suc n) s i j v → By toks (Tree toks n) (rules s) i j v
    opened s e i j v (inl x) = let h = x.0 in absurd (cc)
    opened s e i j v (inr x) = x

  pub opened_same : (n : ℕ) (s : Symbol) → is_token s ≡ false → (i j : ℕ) (v : Value s) → Tree toks n s i j v → By toks (Tree toks n) (rules s) i j v
  opened_same zero s e i j v t = absurd t
  opened_same (suc n) s e i j v t = map_by n (suc n) (taller n (suc n) (omega arith)) (rules s) i j v (opened n s e i j v t)

  -- a tree is a derivation
  module _ (n : ℕ) (f : (s : Symbol) (i j : ℕ) (v : Value s) → Tree toks n s i j v → Derives toks unlimited s i j v) where
    row_by : (ss : List Symbol) (i j : ℕ) (vs : Values ss) → RowBy (Tree toks n) ss i j vs → Row toks unlimited ss i j vs
    row_by [] i j vs e = subst (λ k. Row toks unlimited [] i k tt) (sym' e) done
    row_by (s ∷ ss) i j vs (k, d, r) = next (f s i k vs.0 d) (row_by ss k j vs.1 r)

    rules_by : {V : Type 0} (rs : List (Rule V)) (i j : ℕ) (v : V) → By toks (Tree toks n) rs i j v → ByRules toks unlimited rs i j v
    rules_by [] i j v e = absurd e
    rules_by (r ∷ rs) i j v (inl e) = inl (e.0, tt, row_by r.parts i j e.0 e.1, e.2, e.3)
    rules_by (r ∷ rs) i j v (inr e) = inr (rules_by rs i j v e)

  pub derived : (n : ℕ) (s : Symbol) (i j : ℕ) (v : Value s) → Tree toks n s i j v → Derives toks unlimited s i j v
  derived zero s i j v t = absurd t
  derived (suc n) s i j v (inl x) = x.1
  derived (suc n) s i j v (inr x) = from_rules toks unlimited s i j v (rules_by n (derived n) (rules s) i j v x)

  pub derived_row : (n : ℕ) (ss : List Symbol) (i j : ℕ) (vs : Values ss) → RowBy (Tree toks n) ss i j vs → Row toks unlimited ss i j vs
  derived_row n ss i j vs r = row_by n (derived n) ss i j vs r

  pub row_begin : (n : ℕ) (ss : List Symbol) (i j : ℕ) (vs : Values ss) → RowBy (Tree toks n) ss i j vs → ((j ≡ i) × (row_nullable ss ≡ true)) ⊎ OneOf toks i (row_firsts ss)
  row_begin n ss i j vs r = row_first toks unlimited ss i j vs (derived_row n ss i j vs r)

  -- a derivation is a tree
  by_among : {V : Type 0} (n : ℕ) (rs : List (Rule V)) (r : Rule V) (at i j : ℕ) (v : V) → slice_get rs at ≡ Some r → ByOne toks (Tree toks n) r i j v → By toks (Tree toks n) rs i j v
  by_among n [] r at i j v e h = absurd (cc)
  by_among n (x ∷ rs) r zero i j v e h = let f : r ≡ x = cc in inl (subst (λ y. ByOne toks (Tree toks n) y i j v) f h)
  by_among n (x ∷ rs) r (suc at) i j v e h = inr (by_among n rs r at i j v e h)

  mutual
    pub tall : {room : Room} {s : Symbol} {i j : ℕ} {v : Value s} → Derives toks room s i j v → (n : ℕ) × Tree toks n s i j v
    tall (a_sym on) = (1, inl (refl, a_sym on))
    tall (a_key on) = (1, inl (refl, a_key on))
    tall (named on) = (1, inl (refl, named on))
    tall (counted on) = (1, inl (refl, counted on))
    tall {s} {i} {j} {v} (by_rule {r} {vs} a h row f) = let y = tall_row row in (suc y.0, inr (by_among y.0 (rules s) r a.at i j v a.there (vs, y.1, f, refl)))

    pub tall_row : {room : Room} {ss : List Symbol} {i j : ℕ} {vs : Values ss} → Row toks room ss i j vs → (n : ℕ) × RowBy (Tree toks n) ss i j vs
    tall_row done = (0, refl)
    tall_row (next {s} {ss} {i} {j} {k} {v} {vs} d r) =
        let a = tall d in
        let b = tall_row r in
        (a.0 + b.0, (j, taller a.0 (a.0 + b.0) (omega arith) s i j v a.1, map_row b.0 (a.0 + b.0) (taller b.0 (a.0 + b.0) (omega arith)) ss j k vs b.1))
