-- What a symbol derives, and what is a prefix of it, begins with one of its first tokens.
use Rattle.std.proofs.Common.{◌≡◌, nat_eq, ℕ, ◌≤◌, ◌⊎◌, inl, inr, Bool, true, false, List, [], ◌∷◌, ◌++◌, if◌then◌else◌, refl, ap, subst, ◌∙◌, arith}
use Rattle.std.proofs.lemmas.Bool.{and_from, or_left, eq-eqb}
use Rattle.xc_tree.specs.declared.token.Tok.{Tok}
use Rattle.xc_tree.specs.Symbol.{Symbol, sym, key, a_name, a_number, Value, Values}
use Rattle.xc_tree.specs.Derives.{Room, Derives, a_sym, a_key, named, counted, by_rule, Row, done, next, Prefix, nothing, whole, begins, Begins, in_this, after, below}
use Rattle.xc_nonterminals.specs.Follows.{OneOf, has, first, nullable}
use Rattle.xc_nonterminals.proofs.Derivations.TokenSets.{has_left, has_right}
use Rattle.xc_nonterminals.proofs.Derivations.Covers.{row_firsts, row_nullable, all_fit}
use Rattle.xc_nonterminals.proofs.Rests.Rests.{Part, ValuesOf, RowOf, BeginsOf, inside}
use Rattle.xc_nonterminals.proofs.Rests.Opening.{firsts, nullables}

pub one_left : {toks : List Tok} {i : ℕ} {xs : List Symbol} (ys : List Symbol) → OneOf toks i xs → OneOf toks i (xs ++ ys)
one_left {xs} ys o = record { token = o.token; stands = o.stands; among = has_left xs ys o.token o.among }

pub one_right : {toks : List Tok} {i : ℕ} (xs : List Symbol) (b : Bool) {ys : List Symbol} → b ≡ true → OneOf toks i ys → OneOf toks i (xs ++ (if b then ys else []))
one_right xs b {ys} e o = record { token = o.token; stands = o.stands; among = has_right xs (if b then ys else []) o.token (ap (λ c. has (if c then ys else []) o.token) e ∙ o.among) }

mutual
  -- what a symbol derives begins with one of its first tokens, or is nothing
  pub derived_first : (toks : List Tok) (room : Room) (s : Symbol) (i j : ℕ) (v : Value s) → Derives toks room s i j v → ((j ≡ i) × (nullable s ≡ true)) ⊎ OneOf toks i (first s)
  derived_first toks room s i j v (a_sym {o} {p} on) = inr (record { token = sym o; stands = (p, on); among = or_left (nat_eq o o) false (eq-eqb o o refl) })
  derived_first toks room s i j v (a_key {w} {p} on) = inr (record { token = key w; stands = (p, on); among = or_left (nat_eq w w) false (eq-eqb w w refl) })
  derived_first toks room s i j v (named {t} {p} on) = inr (record { token = a_name; stands = (t, p, on); among = refl })
  derived_first toks room s i j v (counted {n} {u} {p} on) = inr (record { token = a_number; stands = (n, u, p, on); among = refl })
  derived_first toks room s i j v (by_rule {r} {vs} a h row fits) =
      let f = all_fit s r a.at a.there in
      elim (row_first toks (below room r.nodes) r.parts i j vs row) [
        | inl e ↦ inl (e.0, f.null e.1)
        | inr o ↦ inr (record { token = o.token; stands = o.stands; among = f.first o.token o.among })
      ]

  pub row_first : (toks : List Tok) (room : Room) (ss : List Symbol) (i j : ℕ) (vs : Values ss) → Row toks room ss i j vs → ((j ≡ i) × (row_nullable ss ≡ true)) ⊎ OneOf toks i (row_firsts ss)
  row_first toks room ss i j vs done = inl (refl, refl)
  row_first toks room ss i j vs (next {s} {ss = rest} {i = i0} {j = m} {k} {v} {vs = xs} d r) = elim (derived_first toks room s i0 m v d) [
    | inr o ↦ inr (one_left (if nullable s then row_firsts rest else []) o)
    | inl e ↦ elim (row_first toks room rest m k xs r) [
      | inl g ↦ inl (g.0 ∙ e.0, and_from (nullable s) (row_nullable rest) e.1 g.1)
      | inr o ↦ inr (one_right (first s) (nullable s) e.1 (subst (λ n. OneOf toks n (row_firsts rest)) e.0 o))
    ]
  ]

mutual
  pub prefix_first : (toks : List Tok) (room : Room) (s : Symbol) (i n : ℕ) → Prefix toks room s i n → (n ≤ i) ⊎ OneOf toks i (first s)
  prefix_first toks room s i n nothing = inl (omega arith)
  prefix_first toks room s i n (whole {v} d) = elim (derived_first toks room s i n v d) [ inl e ↦ inl (omega (arith, e.0)) | inr o ↦ inr o ]
  prefix_first toks room s i n (begins {r} a h b) =
      let f = all_fit s r a.at a.there in
      elim (begins_first toks (below room r.nodes) r.parts i n b) [ inl h ↦ inl h | inr o ↦ inr (record { token = o.token; stands = o.stands; among = f.first o.token o.among }) ]

  pub begins_first : (toks : List Tok) (room : Room) (ss : List Symbol) (i n : ℕ) → Begins toks room ss i n → (n ≤ i) ⊎ OneOf toks i (row_firsts ss)
  begins_first toks room ss i n (in_this {s} {ss = rest} {i = i0} {n = n0} q) = elim (prefix_first toks room s i0 n0 q) [ inl h ↦ inl h | inr o ↦ inr (one_left (if nullable s then row_firsts rest else []) o) ]
  begins_first toks room ss i n (after {s} {ss = rest} {i = i0} {j = m} {n = n0} {v} d b) = elim (derived_first toks room s i0 m v d) [
    | inr o ↦ inr (one_left (if nullable s then row_firsts rest else []) o)
    | inl e ↦ elim (begins_first toks room rest m n0 b) [
      | inl h ↦ inl (omega (arith, e.0))
      | inr o ↦ inr (one_right (first s) (nullable s) e.1 (subst (λ k. OneOf toks k (row_firsts rest)) e.0 o))
    ]
  ]

-- the same of the parts of a rest
pub parts_first : (toks : List Tok) (room : Room) (ps : List Part) (i j : ℕ) (vs : ValuesOf ps) → RowOf toks room ps i j vs → ((j ≡ i) × (nullables ps ≡ true)) ⊎ OneOf toks i (firsts ps)
parts_first toks room [] i j vs e = inl (e, refl)
parts_first toks room (p ∷ ps) i j vs (m, h, d, r) = elim (derived_first toks (inside room p.above) p.symbol i m vs.0 d) [
  | inr o ↦ inr (one_left (if nullable p.symbol then firsts ps else []) o)
  | inl e ↦ elim (parts_first toks room ps m j vs.1 r) [
    | inl g ↦ inl (g.0 ∙ e.0, and_from (nullable p.symbol) (nullables ps) e.1 g.1)
    | inr o ↦ inr (one_right (first p.symbol) (nullable p.symbol) e.1 (subst (λ n. OneOf toks n (firsts ps)) e.0 o))
  ]
]

pub begun_first : (toks : List Tok) (room : Room) (ps : List Part) (i n : ℕ) → BeginsOf toks room ps i n → (n ≤ i) ⊎ OneOf toks i (firsts ps)
begun_first toks room [] i n b = absurd b
begun_first toks room (p ∷ ps) i n (inl (h, q)) = elim (prefix_first toks (inside room p.above) p.symbol i n q) [ inl l ↦ inl l | inr o ↦ inr (one_left (if nullable p.symbol then firsts ps else []) o) ]
begun_first toks room (p ∷ ps) i n (inr (m, v, h, d, b)) = elim (derived_first toks (inside room p.above) p.symbol i m v d) [
  | inr o ↦ inr (one_left (if nullable p.symbol then firsts ps else []) o)
  | inl e ↦ elim (begun_first toks room ps m n b) [
    | inl l ↦ inl (omega (arith, e.0))
    | inr o ↦ inr (one_right (first p.symbol) (nullable p.symbol) e.1 (subst (λ k. OneOf toks k (firsts ps)) e.0 o))
  ]
]
