-- Loops over `t { "," t }`, an element at a time.
use Rattle.std.proofs.Common.{◌≡◌, ℕ, suc, max, ◌+◌, ◌≤◌, true, false, not, ◌&&◌, ◌||◌, List, [], ◌∷◌, ◌++◌, inl, inr, refl, sym as sym', ap, subst, ◌∙◌, append_assoc, arith}
use Rattle.std.proofs.lemmas.Bool.{and_parts, and_from, or_cases, not-true}
use Rattle.xw_words.specs.declared.pos.Pos.{Pos}
use Rattle.xc_tree.specs.declared.token.Tok.{Tok}
use Rattle.xc_tree.specs.declared.token.Kind.TheVariants.{Sym}
use Rattle.xc_tree.specs.Symbol.{Symbol, commas, Value}
use Rattle.xc_tree.specs.Terminals.{comma}
use Rattle.xc_tree.specs.Derives.{On, Room, unlimited, at_most, Derives, Prefix, nothing, whole, extent}
use Rattle.xc_nonterminals.specs.declared.stop.Stop.{Stop}
use Rattle.xc_nonterminals.specs.Follows.{has}
use Rattle.xc_nonterminals.specs.Reading.{Reads, IsFront, Unfit}
use Rattle.xc_nonterminals.specs.Stops.{Stopped}
use Rattle.xc_nonterminals.proofs.Rests.Rests.{Part, Rest, RowOf, BeginsOf, Stands, inside, left}
use Rattle.xc_nonterminals.proofs.Rests.Opening.{fronts, firsts, nullables, is_apart, heads_apart, Heads, no_head, one_head}
use Rattle.xc_nonterminals.proofs.Derivations.TokenSets.{front, one_is}
use Rattle.xc_nonterminals.proofs.Derivations.Firsts.{parts_first, begun_first}
use Rattle.xc_nonterminals.proofs.Rests.Behinds.{token_derives, token_derived, token_prefix}
use Rattle.xc_nonterminals.proofs.Derivations.Lists.{token_begun}
use Rattle.xc_nonterminals.proofs.Derivations.Lists.{commas_split, commas_last, commas_more, commas_begin, begin_commas, more_commas}
use Rattle.xc_nonterminals.proofs.Rests.Spreads.{has_max, max_has}
use Rattle.xc_nonterminals.proofs.Rests.Narrows.{Narrows, narrow}
use Rattle.xc_nonterminals.proofs.Rests.Moves.{stay}
use Rattle.xc_nonterminals.proofs.Reading.Paths.{Roomy, read_all, stops_all, unfit_all}
use Rattle.xc_nonterminals.proofs.Reading.Loops.{Run, listing, had, is_row}

-- one more element, as the last one, and with a comma and the list behind it
abbrev ending : {V : Type 0} (r : Run V) → List (Value r.symbol) → Rest V
ending r xs = record {
  need = max r.need r.above;
  parts = record { above = r.above; symbol = r.symbol } ∷ r.parts;
  fits = λ x. r.fits (xs ++ (x.0 ∷ []), x.1);
  make = λ e x. r.make e (xs ++ (x.0 ∷ []), x.1);
}

abbrev going : {V : Type 0} (r : Run V) → List (Value r.symbol) → Rest V
going r xs = record {
  need = max r.need r.above;
  parts = record { above = r.above; symbol = r.symbol } ∷ record { above = r.above; symbol = comma } ∷ record { above = r.above; symbol = commas r.symbol } ∷ r.parts;
  fits = λ x. r.fits (xs ++ (x.0 ∷ x.1.1.0), x.1.1.1);
  make = λ e x. r.make e (xs ++ (x.0 ∷ x.1.1.0), x.1.1.1);
}

abbrev row_heads : {V : Type 0} (r : Run V) (xs : List (Value r.symbol)) → Heads r.symbol r.above (ending r xs ∷ going r xs ∷ [])
row_heads r xs = one_head (one_head no_head)

-- they behind the element
abbrev pub ended : {V : Type 0} (need : ℕ) (r : Run V) → List (Value r.symbol) → Value r.symbol → Rest V
ended need r xs v = record { need = need; parts = r.parts; fits = λ x. r.fits (xs ++ (v ∷ []), x); make = λ e x. r.make e (xs ++ (v ∷ []), x) }

abbrev pub gone_on : {V : Type 0} (need : ℕ) (r : Run V) → List (Value r.symbol) → Value r.symbol → Rest V
gone_on need r xs v = record {
  need = need;
  parts = record { above = r.above; symbol = comma } ∷ record { above = r.above; symbol = commas r.symbol } ∷ r.parts;
  fits = λ x. r.fits (xs ++ (v ∷ x.1.0), x.1.1);
  make = λ e x. r.make e (xs ++ (v ∷ x.1.0), x.1.1);
}

module _ {toks : List Tok} {room : Room} {s : Symbol} {i k : ℕ} (r : Run (Value s)) (xs : List (Value r.symbol)) where
  by_row : Narrows toks room s i k (listing r xs ∷ []) k k (ending r xs ∷ going r xs ∷ [])
  by_row = record {
    ends = λ j v y. elim y [
      | inl (ws, h, (m, ha, d, row), f, q) ↦ elim (commas_split d) [
        | inl z ↦ inr (inl ((z.0, ws.1), h, (m, ha, z.1, row), ap (λ (l : List (Value r.symbol)). r.fits (xs ++ l, ws.1)) (sym' z.2) ∙ f, q ∙ ap (λ (l : List (Value r.symbol)). r.make (extent toks i j) (xs ++ l, ws.1)) z.2))
        | inr z ↦ inr (inr (inl ((z.1, (z.2, (z.3, ws.1))), h, (z.0, ha, z.4, (z.0 + 1, ha, token_derives comma z.5, (m, ha, z.6, row))), ap (λ (l : List (Value r.symbol)). r.fits (xs ++ l, ws.1)) (sym' z.7) ∙ f, q ∙ ap (λ (l : List (Value r.symbol)). r.make (extent toks i j) (xs ++ l, ws.1)) z.7)))
      ]
      | inr y ↦ absurd y
    ];
    starts = λ n y. elim y [
      | inl (h, inl (ha, p)) ↦ elim (commas_begin p) [
        | inl l ↦ inl l
        | inr z ↦ elim z [
          | inl p' ↦ inr (inl (h, inl (ha, p')))
          | inr w ↦ elim w.3 [
            | inl e ↦ inr (inl (h, inl (ha, subst (λ (b : ℕ). Prefix toks (inside room r.above) r.symbol k b) (sym' e) (whole w.2))))
            | inr u ↦ inr (inr (inl (h, inr (w.0, w.1, ha, w.2, inr (w.0 + 1, u.0, ha, token_derives comma u.1, inl (ha, u.2))))))
          ]
        ]
      ]
      | inl (h, inr (m, w, ha, d, b)) ↦ elim (commas_split d) [
        | inl z ↦ inr (inl (h, inr (m, z.0, ha, z.1, b)))
        | inr z ↦ inr (inr (inl (h, inr (z.0, z.1, ha, z.4, inr (z.0 + 1, z.2, ha, token_derives comma z.5, inr (m, z.3, ha, z.6, b))))))
      ]
      | inr y ↦ absurd y
    ];
    ends_back = λ j v y. elim y [
      | inl (ws, h, (m, ha, d, row), f, q) ↦ inl ((ws.0 ∷ [], ws.1), h, (m, ha, commas_last d, row), f, q)
      | inr y ↦ elim y [
        | inl (ws, h, (m, ha, d, (l, hb, c, (b, hc, e, row))), f, q) ↦
            let p = token_derived {t = comma} refl c in
            inl ((ws.0 ∷ ws.1.1.0, ws.1.1.1), h, (b, ha, commas_more d p.1 (subst (λ (u : ℕ). Derives toks (inside room r.above) (commas r.symbol) u b ws.1.1.0) p.0 e), row), f, q)
        | inr y ↦ absurd y
      ]
    ];
    starts_back = λ n y. elim y [
      | inl (h, inl (ha, p)) ↦ inl (h, inl (ha, begin_commas p))
      | inl (h, inr (m, v, ha, d, b)) ↦ inl (h, inr (m, v ∷ [], ha, commas_last d, b))
      | inr y ↦ elim y [
        | inl (h, inl (ha, p)) ↦ inl (h, inl (ha, begin_commas p))
        | inl (h, inr (l, v, ha, d, inl (hb, p))) ↦ inl (
          h,
          inl (
            ha,
            elim (token_begun {t = comma} refl p) [
              | inl e ↦ subst (λ (b : ℕ). Prefix toks (inside room r.above) (commas r.symbol) k b) (sym' e) (begin_commas (whole d))
              | inr u ↦ subst (λ (b : ℕ). Prefix toks (inside room r.above) (commas r.symbol) k b) (sym' u.0) (more_commas d u.2 nothing)
            ],
          ),
        )
        | inl (h, inr (l, v, ha, d, inr (m, c, hb, dc, inl (hc, p)))) ↦
            let t = token_derived {t = comma} refl dc in
            inl (h, inl (ha, more_commas d t.1 (subst (λ (b : ℕ). Prefix toks (inside room r.above) (commas r.symbol) b n) t.0 p)))
        | inl (h, inr (l, v, ha, d, inr (m, c, hb, dc, inr (b, zs, hc, e, bb)))) ↦
            let t = token_derived {t = comma} refl dc in
            inl (h, inr (b, v ∷ zs, ha, commas_more d t.1 (subst (λ (u : ℕ). Derives toks (inside room r.above) (commas r.symbol) u b zs) t.0 e), bb))
        | inr y ↦ absurd y
      ]
    ];
  }

-- what `is_row` says
pub record IsRow (s t : Symbol) (ps : List Part) : Type 0 where
  pub last : is_apart s t ps ≡ true
  pub more : is_apart s t (record { above = 0; symbol = comma } ∷ record { above = 0; symbol = commas t } ∷ ps) ≡ true
  pub told : has (firsts ps) comma ≡ false
  pub follows : not (nullables ps) || has (fronts s) comma ≡ true

pub row_from : (s t : Symbol) (ps : List Part) → is_row s t ps ≡ true → IsRow s t ps
row_from s t ps e =
    let a = is_apart s t ps in
    let b = is_apart s t (record { above = 0; symbol = comma } ∷ record { above = 0; symbol = commas t } ∷ ps) in
    let p = and_parts (a && b) (not (has (firsts ps) comma) && (not (nullables ps) || has (fronts s) comma)) e in
    let q = and_parts a b p.0 in
    let u = and_parts (not (has (firsts ps) comma)) (not (nullables ps) || has (fronts s) comma) p.1 in
    record { last = q.0; more = q.1; told = not-true (has (firsts ps) comma) u.0; follows = u.1 }

-- a comma and the list, from behind the comma on
abbrev after_comma : {V : Type 0} (need : ℕ) (r : Run V) → List (Value r.symbol) → Value r.symbol → Rest V
after_comma need r xs v = record {
  need = need;
  parts = record { above = r.above; symbol = commas r.symbol } ∷ r.parts;
  fits = λ x. r.fits (xs ++ (v ∷ x.0), x.1);
  make = λ e x. r.make e (xs ++ (v ∷ x.0), x.1);
}

-- behind an element
module _ {toks : List Tok} {room : Room} {s : Symbol} {i j : ℕ} (r : Run (Value s)) (xs : List (Value r.symbol)) (v : Value r.symbol) (m n : ℕ) where
  by_comma : (p : Pos) → On toks j (Sym 7) p → IsRow s r.symbol r.parts → Narrows toks room s i j (ended m r xs v ∷ gone_on n r xs v ∷ []) (j + 1) (j + 1) (after_comma (max n r.above) r xs v ∷ [])
  by_comma p on e = record {
    ends = λ l w y. elim y [
      | inl (ws, h, row, f, q) ↦ inl (elim (parts_first toks room r.parts j l ws row) [
        | inl z ↦ subst (λ (u : ℕ). IsFront toks s u w) (sym' z.0) (front s w (elim (or_cases (not (nullables r.parts)) (has (fronts s) comma) e.follows) [
          | inl g ↦ let a = not-true (nullables r.parts) g in let b = z.1 in absurd (cc)
          | inr g ↦ record { token = comma; stands = (p, on); among = g }
        ]))
        | inr o ↦ let a = one_is comma (p, on) o in let b = e.told in absurd (cc)
      ])
      | inr y ↦ elim y [
        | inl (ws, h, (b, hb, c, row), f, q) ↦
            let t = token_derived {t = comma} refl c in
            inr (inl (ws.1, has_max room n r.above h hb, subst (λ (u : ℕ). RowOf toks room (record { above = r.above; symbol = commas r.symbol } ∷ r.parts) u l ws.1) t.0 row, f, q))
        | inr y ↦ absurd y
      ]
    ];
    starts = λ l y. elim y [
      | inl (h, b) ↦ elim (begun_first toks room r.parts j l b) [ inl a ↦ inl (omega arith) | inr o ↦ let a = one_is comma (p, on) o in let c = e.told in absurd (cc) ]
      | inr y ↦ elim y [
        | inl (h, inl (hb, q)) ↦ inl (token_prefix {t = comma} refl q)
        | inl (h, inr (b, c, hb, d, x)) ↦
            let t = token_derived {t = comma} refl d in
            inr (inl (has_max room n r.above h hb, subst (λ (u : ℕ). BeginsOf toks room (record { above = r.above; symbol = commas r.symbol } ∷ r.parts) u l) t.0 x))
        | inr y ↦ absurd y
      ]
    ];
    ends_back = λ l w y. elim y [
      | inl (ws, h, row, f, q) ↦ let a = max_has room n r.above h in inr (inl ((p, ws), a.0, (j + 1, a.1, token_derives comma on, row), f, q))
      | inr y ↦ absurd y
    ];
    starts_back = λ l y. elim y [
      | inl (h, b) ↦ let a = max_has room n r.above h in inr (inl (a.0, inr (j + 1, p, a.1, token_derives comma on, b)))
      | inr y ↦ absurd y
    ];
  }

  by_last : ((p : Pos) → On toks j (Sym 7) p → ⊥) → Narrows toks room s i j (ended m r xs v ∷ gone_on n r xs v ∷ []) j j (ended m r xs v ∷ [])
  by_last none = record {
    ends = λ l w y. elim y [
      | inl y ↦ inr (inl y)
      | inr y ↦ elim y [ inl (ws, h, (b, hb, c, row), f, q) ↦ absurd (none ws.0 (token_derived {t = comma} refl c).1) | inr y ↦ absurd y ]
    ];
    starts = λ l y. elim y [
      | inl y ↦ inr (inl y)
      | inr y ↦ elim y [
        | inl (h, inl (hb, q)) ↦ elim (token_begun {t = comma} refl q) [ inl e ↦ inl (omega (arith, e)) | inr u ↦ absurd (none u.1 u.2) ]
        | inl (h, inr (b, c, hb, d, x)) ↦ absurd (none c (token_derived {t = comma} refl d).1)
        | inr y ↦ absurd y
      ]
    ];
    ends_back = λ l w y. elim y [ inl y ↦ inl y | inr y ↦ absurd y ];
    starts_back = λ l y. elim y [ inl y ↦ inl y | inr y ↦ absurd y ];
  }

same_need : (a b : ℕ) → max (max a b) b ≡ max a b
same_need a b = grind arith

same_listing : {V : Type 0} (n : ℕ) (r : Run V) (xs : List (Value r.symbol)) (v : Value r.symbol) → n ≡ max r.need r.above → after_comma n r xs v ≡ listing r (xs ++ (v ∷ []))
same_listing n r xs v e =
    let l : (ys : List (Value r.symbol)) → xs ++ (v ∷ ys) ≡ (xs ++ (v ∷ [])) ++ ys = λ ys. sym' (append_assoc xs (v ∷ []) ys) in
    λ d. record {
      need = e d;
      parts = record { above = r.above; symbol = commas r.symbol } ∷ r.parts;
      fits = λ x. r.fits (l x.0 d, x.1);
      make = λ q x. r.make q (l x.0 d, x.1);
    }

same_had : {V : Type 0} (n : ℕ) (r : Run V) (xs : List (Value r.symbol)) (v : Value r.symbol) → n ≡ max r.need r.above → ended n r xs v ≡ had r (xs ++ (v ∷ []))
same_had n r xs v e = λ d. record { need = e d; parts = r.parts; fits = λ x. r.fits (xs ++ (v ∷ []), x); make = λ q x. r.make q (xs ++ (v ∷ []), x) }

both_apart : {s : Symbol} (r : Run (Value s)) (xs : List (Value r.symbol)) → IsRow s r.symbol r.parts → heads_apart s (row_heads r xs) ≡ true
both_apart {s} r xs e = and_from (is_apart s r.symbol r.parts) (is_apart s r.symbol (record { above = r.above; symbol = comma } ∷ record { above = r.above; symbol = commas r.symbol } ∷ r.parts) && true) e.last (and_from (is_apart s r.symbol (record { above = r.above; symbol = comma } ∷ record { above = r.above; symbol = commas r.symbol } ∷ r.parts)) true e.more refl)

module _ {toks : List Tok} {room : ℕ} {s : Symbol} {i k : ℕ} (r : Run (Value s)) (xs : List (Value r.symbol)) where
  rows : Roomy toks room s i k (listing r xs ∷ []) → Roomy toks room s i k (ending r xs ∷ going r xs ∷ [])
  rows st = let h = st.needs in record { stands = record { free = stay st.stands.free (by_row r xs); held = stay st.stands.held (by_row r xs) }; needs = grind arith }

  -- an element is read
  pub element_read : {j : ℕ} {v : Value r.symbol} → Roomy toks room s i k (listing r xs ∷ []) → Reads toks (left room r.above) r.symbol k j v → IsRow s r.symbol r.parts → Roomy toks room s i j (ended (max (max r.need r.above) r.above) r xs v ∷ gone_on (max (max r.need r.above) r.above) r xs v ∷ [])
  element_read st x e = read_all (row_heads r xs) (rows st) x (both_apart r xs e)

  -- one with a comma behind it; the last one; one that stopped
  pub with_comma : {j : ℕ} {v : Value r.symbol} {p : Pos} → Roomy toks room s i k (listing r xs ∷ []) → Reads toks (left room r.above) r.symbol k j v → On toks j (Sym 7) p → is_row s r.symbol r.parts ≡ true → Roomy toks room s i (j + 1) (listing r (xs ++ (v ∷ [])) ∷ [])
  with_comma {j} {v} {p} st x on d =
      let e = row_from s r.symbol r.parts d in
      let o = element_read st x e in
      let h = o.needs in
      let n = max (max r.need r.above) r.above in
      let f = by_comma {room = unlimited} {s = s} {i = i} r xs v n n p on e in
      let g = by_comma {room = at_most room} {s = s} {i = i} r xs v n n p on e in
      let a : r.need ≤ room = grind arith in
      let b : r.above ≤ room = grind arith in
      let c : n ≤ room = grind arith in
      let q : max n r.above ≡ max r.need r.above = grind arith in
      subst (λ (z : Rest (Value s)). Roomy toks room s i (j + 1) (z ∷ [])) (same_listing (max n r.above) r xs v q) (record {
        stands = record {
          free = narrow o.stands.free f (omega arith) (o.stands.free.prefix (j + 1) (inr (inl (tt, inl (tt, whole (token_derives comma on))))));
          held = narrow o.stands.held g (omega arith) (o.stands.held.prefix (j + 1) (inr (inl (c, inl (b, whole (token_derives comma on))))));
        };
        needs = grind arith;
      })

  pub last_one : {j : ℕ} {v : Value r.symbol} → Roomy toks room s i k (listing r xs ∷ []) → Reads toks (left room r.above) r.symbol k j v → ((p : Pos) → On toks j (Sym 7) p → ⊥) → is_row s r.symbol r.parts ≡ true → Roomy toks room s i j (had r (xs ++ (v ∷ [])) ∷ [])
  last_one {j} {v} st x none d =
      let e = row_from s r.symbol r.parts d in
      let o = element_read st x e in
      let h = o.needs in
      let n = max (max r.need r.above) r.above in
      subst (λ (z : Rest (Value s)). Roomy toks room s i j (z ∷ [])) (same_had n r xs v (same_need r.need r.above)) (record {
        stands = record { free = stay o.stands.free (by_last r xs v n n none); held = stay o.stands.held (by_last r xs v n n none) };
        needs = grind arith;
      })

  pub row_stops : (e : Stop) → Roomy toks room s i k (listing r xs ∷ []) → Stopped toks (left room r.above) r.symbol k e → is_row s r.symbol r.parts ≡ true → Stopped toks room s i e
  row_stops e st x d = stops_all (row_heads r xs) e (rows st) x (both_apart r xs (row_from s r.symbol r.parts d))

  -- one that is too deep as far as it was read
  pub row_unfit : {j : ℕ} → Roomy toks room s i k (listing r xs ∷ []) → (u : Unfit toks (left room r.above) r.symbol k j) → is_row s r.symbol r.parts ≡ true → Stands toks room s i j (ended (suc room) r xs u.value ∷ gone_on (suc room) r xs u.value ∷ [])
  row_unfit st u d = unfit_all (row_heads r xs) (rows st) u (both_apart r xs (row_from s r.symbol r.parts d))
