-- What a derivation or a prefix of a symbol is made of, with its alternatives as a list that computes.
use Rattle.std.proofs.Common.{◌≡◌, ℕ, zero, suc, ◌≤◌, ◌⊎◌, inl, inr, Bool, true, false, List, [], ◌∷◌, slice_get, Option, Some, None, refl, sym, ap, subst, ◌∙◌, arith}
use Rattle.xw_words.specs.declared.pos.Pos.{Pos}
use Rattle.xc_tree.specs.declared.token.Tok.{Tok}
use Rattle.xc_tree.specs.declared.token.Kind.{Kind}
use Rattle.xc_tree.specs.declared.token.Kind.TheVariants.{Key}
use Rattle.xc_tree.specs.Symbol.{Symbol, sym as s_sym, key as s_key, a_name, a_number, Value, Values}
use Rattle.xc_tree.specs.Grammar.{Rule, rules}
use Rattle.xc_tree.specs.Derives.{On, Among, Room, unlimited, at_most, HasRoom, below, Derives, a_sym, a_key, named, counted, by_rule, Row, done, next, Prefix, nothing, whole, begins, Begins, in_this, after, extent}

-- whether a symbol is a token
abbrev pub is_token : Symbol → Bool
is_token (s_sym o) = true
is_token (s_key w) = true
is_token a_name = true
is_token a_number = true
is_token _ = false

-- the tokens from i up to j derive these symbols one after the other
abbrev pub Rows : List Tok → Room → (ss : List Symbol) → ℕ → ℕ → Values ss → Type 0
Rows toks room [] i j vs = j ≡ i
Rows toks room (s ∷ ss) i j vs = (k : ℕ) × Derives toks room s i k vs.0 × Rows toks room ss k j vs.1

abbrev pub Begun : List Tok → Room → List Symbol → ℕ → ℕ → Type 0
Begun toks room [] i n = ⊥
Begun toks room (s ∷ ss) i n = Prefix toks room s i n ⊎ ((k : ℕ) × (v : Value s) × Derives toks room s i k v × Begun toks room ss k n)

-- by one of these alternatives
abbrev pub EndsBy : {V : Type 0} → List Tok → Room → Rule V → ℕ → ℕ → V → Type 0
EndsBy toks room r i j v = (vs : Values r.parts) × HasRoom room r.nodes × Rows toks (below room r.nodes) r.parts i j vs × (r.fits vs ≡ true) × (v ≡ r.make (extent toks i j) vs)

abbrev pub Ends : {V : Type 0} → List Tok → Room → List (Rule V) → ℕ → ℕ → V → Type 0
Ends toks room [] i j v = ⊥
Ends toks room (r ∷ rs) i j v = EndsBy toks room r i j v ⊎ Ends toks room rs i j v

abbrev pub Starts : {V : Type 0} → List Tok → Room → List (Rule V) → ℕ → ℕ → Type 0
Starts toks room [] i n = ⊥
Starts toks room (r ∷ rs) i n = (HasRoom room r.nodes × Begun toks (below room r.nodes) r.parts i n) ⊎ Starts toks room rs i n

module _ (toks : List Tok) where
  pub rows_of : {room : Room} {ss : List Symbol} {i j : ℕ} {vs : Values ss} → Row toks room ss i j vs → Rows toks room ss i j vs
  rows_of done = refl
  rows_of (next {j} d r) = (j, d, rows_of r)

  pub row_of : {room : Room} (ss : List Symbol) {i j : ℕ} {vs : Values ss} → Rows toks room ss i j vs → Row toks room ss i j vs
  row_of {room} [] {i} {j} {vs} e = subst (λ k. Row toks room [] i k tt) (sym e) done
  row_of (s ∷ ss) (k, d, r) = next d (row_of ss r)

  pub begun_of : {room : Room} {ss : List Symbol} {i n : ℕ} → Begins toks room ss i n → Begun toks room ss i n
  begun_of (in_this q) = inl q
  begun_of (after {j} {v} d q) = inr (j, v, d, begun_of q)

  pub begins_of : {room : Room} (ss : List Symbol) {i n : ℕ} → Begun toks room ss i n → Begins toks room ss i n
  begins_of [] q = absurd q
  begins_of (s ∷ ss) (inl q) = in_this q
  begins_of (s ∷ ss) (inr (k, v, d, q)) = after d (begins_of ss q)

  module _ {V : Type 0} (room : Room) where
    ends_among : (rs : List (Rule V)) (r : Rule V) (at i j : ℕ) (v : V) → slice_get rs at ≡ Some r → EndsBy toks room r i j v → Ends toks room rs i j v
    ends_among [] r at i j v e h = absurd (cc)
    ends_among (x ∷ rs) r zero i j v e h = let f : r ≡ x = cc in inl (subst (λ y. EndsBy toks room y i j v) f h)
    ends_among (x ∷ rs) r (suc at) i j v e h = inr (ends_among rs r at i j v e h)

    starts_among : (rs : List (Rule V)) (r : Rule V) (at i n : ℕ) → slice_get rs at ≡ Some r → HasRoom room r.nodes × Begun toks (below room r.nodes) r.parts i n → Starts toks room rs i n
    starts_among [] r at i n e h = absurd (cc)
    starts_among (x ∷ rs) r zero i n e h = let f : r ≡ x = cc in inl (subst (λ y. HasRoom room y.nodes × Begun toks (below room y.nodes) y.parts i n) f h)
    starts_among (x ∷ rs) r (suc at) i n e h = inr (starts_among rs r at i n e h)

    among_ends : (rs : List (Rule V)) (i j : ℕ) (v : V) → Ends toks room rs i j v → (r : Rule V) × Among rs r × EndsBy toks room r i j v
    among_ends [] i j v e = absurd e
    among_ends (x ∷ rs) i j v (inl e) = (x, record { at = zero; there = refl }, e)
    among_ends (x ∷ rs) i j v (inr e) = let y = among_ends rs i j v e in (y.0, record { at = suc y.1.at; there = y.1.there }, y.2)

    among_starts : (rs : List (Rule V)) (i n : ℕ) → Starts toks room rs i n → (r : Rule V) × Among rs r × HasRoom room r.nodes × Begun toks (below room r.nodes) r.parts i n
    among_starts [] i n e = absurd e
    among_starts (x ∷ rs) i n (inl e) = (x, record { at = zero; there = refl }, e.0, e.1)
    among_starts (x ∷ rs) i n (inr e) = let y = among_starts rs i n e in (y.0, record { at = suc y.1.at; there = y.1.there }, y.2, y.3)

  module _ {room : Room} where
    pub by_rules : (s : Symbol) {i j : ℕ} {v : Value s} → is_token s ≡ false → Derives toks room s i j v → Ends toks room (rules s) i j v
    by_rules s e (a_sym on) = absurd (cc)
    by_rules s e (a_key on) = absurd (cc)
    by_rules s e (named on) = absurd (cc)
    by_rules s e (counted on) = absurd (cc)
    by_rules s {i} {j} {v} e (by_rule {r} {vs} a h row fits) = ends_among room (rules s) r a.at i j v a.there (vs, h, rows_of row, fits, refl)

    pub from_rules : (s : Symbol) {i j : ℕ} {v : Value s} → Ends toks room (rules s) i j v → Derives toks room s i j v
    from_rules s {i} {j} {v} e =
        let x = among_ends room (rules s) i j v e in
        subst (Derives toks room s i j) (sym x.2.4) (by_rule x.1 x.2.1 (row_of x.0.parts x.2.2) x.2.3)

    -- a prefix is nothing, the whole, or the beginning of an alternative
    pub by_starts : (s : Symbol) {i n : ℕ} → Prefix toks room s i n → (n ≡ i) ⊎ (((v : Value s) × Derives toks room s i n v) ⊎ Starts toks room (rules s) i n)
    by_starts s nothing = inl refl
    by_starts s (whole {v} d) = inr (inl (v, d))
    by_starts s {i} {n} (begins {r} a h q) = inr (inr (starts_among room (rules s) r a.at i n a.there (h, begun_of q)))

    pub from_starts : (s : Symbol) {i n : ℕ} → Starts toks room (rules s) i n → Prefix toks room s i n
    from_starts s {i} {n} e = let x = among_starts room (rules s) i n e in begins x.1 x.2 (begins_of x.0.parts x.3)

-- room for at least as many nodes
abbrev pub Wider : Room → Room → Type 0
Wider unlimited unlimited = Unit {0}
Wider (at_most r) unlimited = Unit {0}
Wider unlimited (at_most r) = ⊥
Wider (at_most a) (at_most b) = a ≤ b

pub wider_below : (a b : Room) (n : ℕ) → Wider a b → Wider (below a n) (below b n)
wider_below unlimited unlimited n h = tt
wider_below (at_most r) unlimited n h = tt
wider_below unlimited (at_most r) n h = absurd h
wider_below (at_most a) (at_most b) n h = omega arith

pub has_wider : (a b : Room) (n : ℕ) → Wider a b → HasRoom a n → HasRoom b n
has_wider unlimited unlimited n h x = tt
has_wider (at_most r) unlimited n h x = tt
has_wider unlimited (at_most r) n h x = absurd h
has_wider (at_most a) (at_most b) n h x = omega arith

pub below_wider : (a : Room) (n : ℕ) → Wider (below a n) a
below_wider unlimited n = tt
below_wider (at_most r) n = omega arith

pub any_wider : (a : Room) → Wider a unlimited
any_wider unlimited = tt
any_wider (at_most r) = tt

module _ (toks : List Tok) where
  mutual
    pub widen : {a b : Room} {s : Symbol} {i j : ℕ} {v : Value s} → Wider a b → Derives toks a s i j v → Derives toks b s i j v
    widen w (a_sym on) = a_sym on
    widen w (a_key on) = a_key on
    widen w (named on) = named on
    widen w (counted on) = counted on
    widen {a} {b} w (by_rule {r} c h row f) = by_rule c (has_wider a b r.nodes w h) (widen_row (wider_below a b r.nodes w) row) f

    pub widen_row : {a b : Room} {ss : List Symbol} {i j : ℕ} {vs : Values ss} → Wider a b → Row toks a ss i j vs → Row toks b ss i j vs
    widen_row w done = done
    widen_row w (next d r) = next (widen w d) (widen_row w r)

  mutual
    pub widen_prefix : {a b : Room} {s : Symbol} {i n : ℕ} → Wider a b → Prefix toks a s i n → Prefix toks b s i n
    widen_prefix w nothing = nothing
    widen_prefix w (whole d) = whole (widen w d)
    widen_prefix {a} {b} w (begins {r} c h q) = begins c (has_wider a b r.nodes w h) (widen_begins (wider_below a b r.nodes w) q)

    pub widen_begins : {a b : Room} {ss : List Symbol} {i n : ℕ} → Wider a b → Begins toks a ss i n → Begins toks b ss i n
    widen_begins w (in_this q) = in_this (widen_prefix w q)
    widen_begins w (after d q) = after (widen w d) (widen_begins w q)

  -- no symbol ends before it begins
  mutual
    pub forth : {room : Room} {s : Symbol} {i j : ℕ} {v : Value s} → Derives toks room s i j v → i ≤ j
    forth (a_sym on) = omega arith
    forth (a_key on) = omega arith
    forth (named on) = omega arith
    forth (counted on) = omega arith
    forth (by_rule c h row f) = row_forth row

    pub row_forth : {room : Room} {ss : List Symbol} {i j : ℕ} {vs : Values ss} → Row toks room ss i j vs → i ≤ j
    row_forth done = omega arith
    row_forth (next d r) = let a = forth d in let b = row_forth r in omega arith

abbrev kind_or : Option Tok → Kind
kind_or None = Key 0
kind_or (Some t) = t.kind

abbrev pos_or : Pos → Option Tok → Pos
pos_or p None = p
pos_or p (Some t) = t.pos

-- one token stands in one place
module _ {toks : List Tok} {i : ℕ} {k k' : Kind} {p p' : Pos} (a : On toks i k p) (b : On toks i k' p') where
  pub same_kind : k ≡ k'
  same_kind = ap kind_or (sym a.there ∙ b.there)

  pub same_pos : p ≡ p'
  same_pos = ap (pos_or p) (sym a.there ∙ b.there)
