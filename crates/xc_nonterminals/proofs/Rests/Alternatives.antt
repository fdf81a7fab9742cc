-- A rest whose first part is a plain symbol, and the rests by that symbol's alternatives.
use Rattle.std.proofs.Common.{◌≡◌, ℕ, zero, suc, ◌≤◌, ◌⊎◌, inl, inr, true, false, List, [], ◌∷◌, slice_get, Some, refl, sym as sym', ap, subst, arith}
use Rattle.xc_tree.specs.declared.token.Tok.{Tok}
use Rattle.xc_tree.specs.Symbol.{Symbol, many, maybe, commas, portdecl, dir, place, result, word, params, param, block, block_item, dv, initial, branch, case, guard, assign, rhs, call, arguments, lval, output, input, time, stamp, waits, test, dest, sign, atom, Value, Values}
use Rattle.xc_tree.specs.Grammar.{Rule, Extent, rules}
use Rattle.xc_tree.specs.Derives.{Among, Room, HasRoom, below, Derives, a_sym, a_key, named, counted, by_rule, Row, done, next, Prefix, nothing, whole, begins, Begins, in_this, after, extent}
use Rattle.xc_nonterminals.proofs.Rests.Rests.{Part, ValuesOf, RowOf, BeginsOf, inside}
use Rattle.xc_nonterminals.proofs.Rests.Opening.{is_token, is_plain, put, front, back}

-- an alternative has no condition, and its value doesn't depend on its tokens' extent
pub record Ignores {V : Type 0} (r : Rule V) : Type 0 where
  pub make : (e f : Extent) (x : Values r.parts) → r.make e x ≡ r.make f x
  pub fits : (x : Values r.parts) → r.fits x ≡ true

abbrev pub AllIgnore : {V : Type 0} → List (Rule V) → Type 0
AllIgnore [] = Unit {0}
AllIgnore (r ∷ rs) = Ignores r × AllIgnore rs

pub plain_ignores : (s : Symbol) → is_plain s ≡ true → AllIgnore (rules s)
plain_ignores (many s) e = (record { make = λ e f x. refl; fits = λ x. refl }, (record { make = λ e f x. refl; fits = λ x. refl }, tt))
plain_ignores (maybe s) e = (record { make = λ e f x. refl; fits = λ x. refl }, (record { make = λ e f x. refl; fits = λ x. refl }, tt))
plain_ignores (commas s) e = (record { make = λ e f x. refl; fits = λ x. refl }, (record { make = λ e f x. refl; fits = λ x. refl }, tt))
plain_ignores portdecl e = (record { make = λ e f x. refl; fits = λ x. refl }, tt)
plain_ignores dir e = (record { make = λ e f x. refl; fits = λ x. refl }, (record { make = λ e f x. refl; fits = λ x. refl }, (record { make = λ e f x. refl; fits = λ x. refl }, tt)))
plain_ignores place e = (record { make = λ e f x. refl; fits = λ x. refl }, (record { make = λ e f x. refl; fits = λ x. refl }, tt))
plain_ignores result e = (record { make = λ e f x. refl; fits = λ x. refl }, (record { make = λ e f x. refl; fits = λ x. refl }, tt))
plain_ignores word e = (record { make = λ e f x. refl; fits = λ x. refl }, (record { make = λ e f x. refl; fits = λ x. refl }, (record { make = λ e f x. refl; fits = λ x. refl }, tt)))
plain_ignores params e = (record { make = λ e f x. refl; fits = λ x. refl }, (record { make = λ e f x. refl; fits = λ x. refl }, (record { make = λ e f x. refl; fits = λ x. refl }, tt)))
plain_ignores param e = (record { make = λ e f x. refl; fits = λ x. refl }, (record { make = λ e f x. refl; fits = λ x. refl }, (record { make = λ e f x. refl; fits = λ x. refl }, (record { make = λ e f x. refl; fits = λ x. refl }, (record { make = λ e f x. refl; fits = λ x. refl }, (record { make = λ e f x. refl; fits = λ x. refl }, tt))))))
plain_ignores block e = (record { make = λ e f x. refl; fits = λ x. refl }, tt)
plain_ignores block_item e = (record { make = λ e f x. refl; fits = λ x. refl }, (record { make = λ e f x. refl; fits = λ x. refl }, tt))
plain_ignores dv e = (record { make = λ e f x. refl; fits = λ x. refl }, (record { make = λ e f x. refl; fits = λ x. refl }, tt))
plain_ignores initial e = (record { make = λ e f x. refl; fits = λ x. refl }, tt)
plain_ignores branch e = (record { make = λ e f x. refl; fits = λ x. refl }, tt)
plain_ignores case e = (record { make = λ e f x. refl; fits = λ x. refl }, (record { make = λ e f x. refl; fits = λ x. refl }, tt))
plain_ignores guard e = (record { make = λ e f x. refl; fits = λ x. refl }, tt)
plain_ignores assign e = (record { make = λ e f x. refl; fits = λ x. refl }, (record { make = λ e f x. refl; fits = λ x. refl }, (record { make = λ e f x. refl; fits = λ x. refl }, (record { make = λ e f x. refl; fits = λ x. refl }, tt))))
plain_ignores rhs e = (record { make = λ e f x. refl; fits = λ x. refl }, (record { make = λ e f x. refl; fits = λ x. refl }, tt))
plain_ignores call e = (record { make = λ e f x. refl; fits = λ x. refl }, tt)
plain_ignores arguments e = (record { make = λ e f x. refl; fits = λ x. refl }, (record { make = λ e f x. refl; fits = λ x. refl }, tt))
plain_ignores lval e = (record { make = λ e f x. refl; fits = λ x. refl }, (record { make = λ e f x. refl; fits = λ x. refl }, tt))
plain_ignores output e = (record { make = λ e f x. refl; fits = λ x. refl }, tt)
plain_ignores input e = (record { make = λ e f x. refl; fits = λ x. refl }, tt)
plain_ignores time e = (record { make = λ e f x. refl; fits = λ x. refl }, tt)
plain_ignores stamp e = (record { make = λ e f x. refl; fits = λ x. refl }, tt)
plain_ignores waits e = (record { make = λ e f x. refl; fits = λ x. refl }, (record { make = λ e f x. refl; fits = λ x. refl }, (record { make = λ e f x. refl; fits = λ x. refl }, tt)))
plain_ignores test e = (record { make = λ e f x. refl; fits = λ x. refl }, (record { make = λ e f x. refl; fits = λ x. refl }, (record { make = λ e f x. refl; fits = λ x. refl }, tt)))
plain_ignores dest e = (record { make = λ e f x. refl; fits = λ x. refl }, (record { make = λ e f x. refl; fits = λ x. refl }, (record { make = λ e f x. refl; fits = λ x. refl }, tt)))
plain_ignores sign e = (record { make = λ e f x. refl; fits = λ x. refl }, (record { make = λ e f x. refl; fits = λ x. refl }, (record { make = λ e f x. refl; fits = λ x. refl }, (record { make = λ e f x. refl; fits = λ x. refl }, tt))))
plain_ignores atom e = (record { make = λ e f x. refl; fits = λ x. refl }, (record { make = λ e f x. refl; fits = λ x. refl }, (record { make = λ e f x. refl; fits = λ x. refl }, (record { make = λ e f x. refl; fits = λ x. refl }, tt))))
plain_ignores _ e = absurd (cc)

abbrev pub HasValue : {V : Type 0} → List Tok → Room → Rule V → ℕ → ℕ → V → Type 0
HasValue toks room r i j v = (vs : Values r.parts) × HasRoom room r.nodes × Row toks (below room r.nodes) r.parts i j vs × (r.fits vs ≡ true) × (v ≡ r.make (extent toks i j) vs)

-- one of some alternatives is derived from i up to j, or begins so
abbrev pub ByRules : {V : Type 0} → List Tok → Room → List (Rule V) → ℕ → ℕ → V → Type 0
ByRules toks room [] i j v = ⊥
ByRules toks room (r ∷ rs) i j v = HasValue toks room r i j v ⊎ ByRules toks room rs i j v

abbrev pub BeginsRules : {V : Type 0} → List Tok → Room → List (Rule V) → ℕ → ℕ → Type 0
BeginsRules toks room [] i n = ⊥
BeginsRules toks room (r ∷ rs) i n = (HasRoom room r.nodes × Begins toks (below room r.nodes) r.parts i n) ⊎ BeginsRules toks room rs i n

module _ (toks : List Tok) (room : Room) where
  module _ {V : Type 0} where
    among_rules : (rs : List (Rule V)) (r : Rule V) (at i j : ℕ) (v : V) → slice_get rs at ≡ Some r → HasValue toks room r i j v → ByRules toks room rs i j v
    among_rules [] r at i j v e h = absurd (cc)
    among_rules (x ∷ rs) r zero i j v e h = let f : r ≡ x = cc in inl (subst (λ y. HasValue toks room y i j v) f h)
    among_rules (x ∷ rs) r (suc at) i j v e h = inr (among_rules rs r at i j v e h)

    rules_among : (rs : List (Rule V)) (i j : ℕ) (v : V) → ByRules toks room rs i j v → (r : Rule V) × Among rs r × HasValue toks room r i j v
    rules_among [] i j v e = absurd e
    rules_among (x ∷ rs) i j v (inl e) = (x, record { at = zero; there = refl }, e)
    rules_among (x ∷ rs) i j v (inr e) = let y = rules_among rs i j v e in (y.0, record { at = suc y.1.at; there = y.1.there }, y.2)

    among_begins : (rs : List (Rule V)) (r : Rule V) (at i n : ℕ) → slice_get rs at ≡ Some r → HasRoom room r.nodes → Begins toks (below room r.nodes) r.parts i n → BeginsRules toks room rs i n
    among_begins [] r at i n e h b = absurd (cc)
    among_begins (x ∷ rs) r zero i n e h b = let f : r ≡ x = cc in inl (subst (λ (y : Rule V). HasRoom room y.nodes × Begins toks (below room y.nodes) y.parts i n) f (h, b))
    among_begins (x ∷ rs) r (suc at) i n e h b = inr (among_begins rs r at i n e h b)

    begins_among : (rs : List (Rule V)) (i n : ℕ) → BeginsRules toks room rs i n → (r : Rule V) × Among rs r × HasRoom room r.nodes × Begins toks (below room r.nodes) r.parts i n
    begins_among [] i n e = absurd e
    begins_among (x ∷ rs) i n (inl e) = (x, record { at = zero; there = refl }, e.0, e.1)
    begins_among (x ∷ rs) i n (inr e) = let y = begins_among rs i n e in (y.0, record { at = suc y.1.at; there = y.1.there }, y.2, y.3)

  pub by_rules : (s : Symbol) (i j : ℕ) (v : Value s) → is_token s ≡ false → Derives toks room s i j v → ByRules toks room (rules s) i j v
  by_rules s i j v e (a_sym on) = absurd (cc)
  by_rules s i j v e (a_key on) = absurd (cc)
  by_rules s i j v e (named on) = absurd (cc)
  by_rules s i j v e (counted on) = absurd (cc)
  by_rules s i j v e (by_rule {r} {vs} a h row fits) = among_rules (rules s) r a.at i j v a.there (vs, h, row, fits, refl)

  pub from_rules : (s : Symbol) (i j : ℕ) (v : Value s) → ByRules toks room (rules s) i j v → Derives toks room s i j v
  from_rules s i j v e =
      let x = rules_among (rules s) i j v e in
      subst (Derives toks room s i j) (sym' x.2.4) (by_rule x.1 x.2.1 x.2.2 x.2.3)

  row_begins : (room : Room) (ss : List Symbol) (i n : ℕ) (xs : Values ss) → Row toks room ss i n xs → (i ≡ n) ⊎ Begins toks room ss i n
  row_begins room ss i n xs done = inl refl
  row_begins room ss i n xs (next {s} {ss = rest} {i = i0} {j} {k} {v} {vs} d r) = elim (row_begins room rest j k vs r) [
    | inl e ↦ inr (in_this (subst (Prefix toks room s i0) e (whole d)))
    | inr b ↦ inr (after d b)
  ]

  value_begins : {V : Type 0} (rs : List (Rule V)) (i n : ℕ) (v : V) → ByRules toks room rs i n v → (n ≤ i) ⊎ BeginsRules toks room rs i n
  value_begins [] i n v e = absurd e
  value_begins (r ∷ rs) i n v (inl e) = elim (row_begins (below room r.nodes) r.parts i n e.0 e.2) [ inl h ↦ inl (omega arith) | inr b ↦ inr (inl (e.1, b)) ]
  value_begins (r ∷ rs) i n v (inr e) = elim (value_begins rs i n v e) [ inl h ↦ inl h | inr b ↦ inr (inr b) ]

  pub by_starts : (s : Symbol) (i n : ℕ) → is_token s ≡ false → Prefix toks room s i n → (n ≤ i) ⊎ BeginsRules toks room (rules s) i n
  by_starts s i n e nothing = inl (omega arith)
  by_starts s i n e (whole {v} d) = value_begins (rules s) i n v (by_rules s i n v e d)
  by_starts s i n e (begins {r} a h q) = inr (among_begins (rules s) r a.at i n a.there h q)

  pub from_starts : (s : Symbol) (i n : ℕ) → BeginsRules toks room (rules s) i n → Prefix toks room s i n
  from_starts s i n e = let x = begins_among (rules s) i n e in begins x.1 x.2 x.3

-- the values of an alternative and of what stands behind it
abbrev pub Joined : List Tok → Room → (a : ℕ) (ss : List Symbol) (ps : List Part) → ℕ → ℕ → Values ss → ValuesOf ps → Type 0
Joined toks room a ss ps i j vs ws = (x : ValuesOf (put a ss ps)) × RowOf toks room (put a ss ps) i j x × (front a ss ps x ≡ vs) × (back a ss ps x ≡ ws)

module _ (toks : List Tok) (room : Room) (a : ℕ) (h : HasRoom room a) (ps : List Part) where
  pub row_put : (ss : List Symbol) (i j : ℕ) (x : ValuesOf (put a ss ps)) → RowOf toks room (put a ss ps) i j x → (m : ℕ) × Row toks (inside room a) ss i m (front a ss ps x) × RowOf toks room ps m j (back a ss ps x)
  row_put [] i j x r = (i, done, r)
  row_put (s ∷ ss) i j x (m, g, d, r) = let y = row_put ss m j x.1 r in (y.0, next d y.1, y.2)

  pub put_row : (ss : List Symbol) (i m j : ℕ) (vs : Values ss) (ws : ValuesOf ps) → Row toks (inside room a) ss i m vs → RowOf toks room ps m j ws → Joined toks room a ss ps i j vs ws
  put_row [] i m j vs ws done r = (ws, r, refl, refl)
  put_row (s ∷ ss) i m j vs ws (next {i = i0} {j = l} {k} {v} {vs = us} d q) r = let y = put_row ss l k j us ws q r in ((v, y.0), (l, h, d, y.1), ap (λ u. (v, u)) y.2, y.3)

  pub begins_put : (ss : List Symbol) (i n : ℕ) → BeginsOf toks room (put a ss ps) i n → Begins toks (inside room a) ss i n ⊎ ((m : ℕ) × (vs : Values ss) × Row toks (inside room a) ss i m vs × BeginsOf toks room ps m n)
  begins_put [] i n b = inr (i, tt, done, b)
  begins_put (s ∷ ss) i n (inl (g, q)) = inl (in_this q)
  begins_put (s ∷ ss) i n (inr (m, v, g, d, b)) = elim (begins_put ss m n b) [
    | inl x ↦ inl (after d x)
    | inr y ↦ inr (y.0, (v, y.1), next d y.2, y.3)
  ]

  pub put_begins : (ss : List Symbol) (i n : ℕ) → Begins toks (inside room a) ss i n → BeginsOf toks room (put a ss ps) i n
  put_begins ss i n (in_this q) = inl (h, q)
  put_begins ss i n (after {s} {ss = rest} {i = i0} {j = m} {n = n0} {v} d b) = inr (m, v, h, d, put_begins rest m n0 b)

  pub put_after : (ss : List Symbol) (i m n : ℕ) (vs : Values ss) → Row toks (inside room a) ss i m vs → BeginsOf toks room ps m n → BeginsOf toks room (put a ss ps) i n
  put_after ss i m n vs done b = b
  put_after ss i m n vs (next {s} {ss = rest} {i = i0} {j = l} {k} {v} {vs = us} d q) b = inr (l, v, h, d, put_after rest l k n us q b)
