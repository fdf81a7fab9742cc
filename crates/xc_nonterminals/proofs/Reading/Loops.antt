-- Loops over `{ t }` and `t { "," t }`: what was read of them so far, and each step.
use Rattle.std.proofs.Common.{◌≡◌, ℕ, max, Bool, true, false, not, ◌&&◌, ◌||◌, List, [], ◌∷◌, ◌++◌, inl, inr, sym as sym', ap, subst, ◌∙◌, append_assoc, append-nil, arith}
use Rattle.std.proofs.lemmas.Bool.{and_parts, or_cases, not-true}
use Rattle.xc_tree.specs.declared.token.Tok.{Tok}
use Rattle.xc_tree.specs.Symbol.{Symbol, many, commas, Value}
use Rattle.xc_tree.specs.Grammar.{Extent}
use Rattle.xc_tree.specs.Terminals.{comma}
use Rattle.xc_tree.specs.Derives.{Room, extent}
use Rattle.xc_nonterminals.specs.declared.stop.Stop.{Stop}
use Rattle.xc_nonterminals.specs.Follows.{OneOf, first, nullable, has}
use Rattle.xc_nonterminals.specs.Reading.{Reads, IsFront}
use Rattle.xc_nonterminals.specs.Stops.{Stopped}
use Rattle.xc_nonterminals.proofs.Rests.Rests.{Part, ValuesOf, Rest, RowOf, BeginsOf, inside, left}
use Rattle.xc_nonterminals.proofs.Rests.Opening.{fronts, firsts, nullables, is_disjoint, is_apart, within}
use Rattle.xc_nonterminals.proofs.Derivations.Lists.{many_split, many_none, many_more, many_begin, begin_many, more_many}
use Rattle.xc_nonterminals.proofs.Derivations.TokenSets.{front, one_within, one_disjoint}
use Rattle.xc_nonterminals.proofs.Derivations.Firsts.{parts_first, begun_first, prefix_first}
use Rattle.xc_nonterminals.proofs.Derivations.Forth.{ahead}
use Rattle.xc_nonterminals.proofs.Rests.Spreads.{max_has}
use Rattle.xc_nonterminals.proofs.Rests.Narrows.{Narrows}
use Rattle.xc_nonterminals.proofs.Rests.Moves.{stay}
use Rattle.xc_nonterminals.proofs.Reading.Paths.{Roomy, read, stops}

-- a rest that begins with a list of a symbol below so many nodes
pub record Run (V : Type 0) : Type 0 where
  pub need : ℕ
  pub above : ℕ
  pub symbol : Symbol
  pub parts : List Part
  pub fits : List (Value symbol) × ValuesOf parts → Bool
  pub make : Extent → List (Value symbol) × ValuesOf parts → V

-- of { t } these were read
abbrev pub having : {V : Type 0} (r : Run V) → List (Value r.symbol) → Rest V
having r xs = record {
  need = max r.need r.above;
  parts = record { above = r.above; symbol = many r.symbol } ∷ r.parts;
  fits = λ x. r.fits (xs ++ x.0, x.1);
  make = λ e x. r.make e (xs ++ x.0, x.1);
}

-- of t { "," t } these were read, each with its comma
abbrev pub listing : {V : Type 0} (r : Run V) → List (Value r.symbol) → Rest V
listing r xs = record {
  need = max r.need r.above;
  parts = record { above = r.above; symbol = commas r.symbol } ∷ r.parts;
  fits = λ x. r.fits (xs ++ x.0, x.1);
  make = λ e x. r.make e (xs ++ x.0, x.1);
}

-- what is left behind the list
abbrev pub had : {V : Type 0} (r : Run V) → List (Value r.symbol) → Rest V
had r xs = record { need = max r.need r.above; parts = r.parts; fits = λ x. r.fits (xs, x); make = λ e x. r.make e (xs, x) }

-- an element is told from what stands behind the list by its first token
abbrev pub is_loop : Symbol → Symbol → List Part → Bool
is_loop s t ps = (not (nullable t) && is_apart s t (record { above = 0; symbol = many t } ∷ ps)) && (is_disjoint (first t) (firsts ps) && (not (nullables ps) || within (first t) (fronts s)))

-- an element of a row is told from a comma, and from what stands behind the row
abbrev pub is_row : Symbol → Symbol → List Part → Bool
is_row s t ps = (is_apart s t ps && is_apart s t (record { above = 0; symbol = comma } ∷ record { above = 0; symbol = commas t } ∷ ps)) && (not (has (firsts ps) comma) && (not (nullables ps) || has (fronts s) comma))

-- one more element, and then the list
abbrev element : {V : Type 0} (r : Run V) → List (Value r.symbol) → Rest V
element r xs = record {
  need = max r.need r.above;
  parts = record { above = r.above; symbol = r.symbol } ∷ record { above = r.above; symbol = many r.symbol } ∷ r.parts;
  fits = λ x. r.fits (xs ++ (x.0 ∷ x.1.0), x.1.1);
  make = λ e x. r.make e (xs ++ (x.0 ∷ x.1.0), x.1.1);
}

-- the list can't end here
record Skips (toks : List Tok) (s : Symbol) (k : ℕ) (ps : List Part) : Type 0 where
  pub none : OneOf toks k (firsts ps) → ⊥
  pub ends : nullables ps ≡ true → OneOf toks k (fronts s)

module _ {toks : List Tok} {room : Room} {s : Symbol} {i k : ℕ} (r : Run (Value s)) (xs : List (Value r.symbol)) where
  by_element : Skips toks s k r.parts → Narrows toks room s i k (having r xs ∷ []) k k (element r xs ∷ [])
  by_element sk = record {
    ends = λ j v y. elim y [
      | inl (ws, h, (m, ha, d, row), f, q) ↦ elim (many_split d) [
        | inl e ↦ elim (parts_first toks room r.parts m j ws.1 row) [
          | inl z ↦ inl (subst (λ (l : ℕ). IsFront toks s l v) (sym' (z.0 ∙ e.0)) (front s v (sk.ends z.1)))
          | inr o ↦ absurd (sk.none (subst (λ (n : ℕ). OneOf toks n (firsts r.parts)) e.0 o))
        ]
        | inr z ↦ inr (inl ((z.1, (z.2, ws.1)), h, (z.0, ha, z.3, (m, ha, z.4, row)), ap (λ (l : List (Value r.symbol)). r.fits (xs ++ l, ws.1)) (sym' z.5) ∙ f, q ∙ ap (λ (l : List (Value r.symbol)). r.make (extent toks i j) (xs ++ l, ws.1)) z.5))
      ]
      | inr y ↦ absurd y
    ];
    starts = λ n y. elim y [
      | inl (h, inl (ha, p)) ↦ elim (many_begin p) [
        | inl l ↦ inl l
        | inr z ↦ elim z [ inl p' ↦ inr (inl (h, inl (ha, p'))) | inr w ↦ inr (inl (h, inr (w.0, w.1, ha, w.2, inl (ha, w.3)))) ]
      ]
      | inl (h, inr (m, w, ha, d, b)) ↦ elim (many_split d) [
        | inl e ↦ elim (begun_first toks room r.parts m n b) [ inl l ↦ inl (omega (arith, e.0)) | inr o ↦ absurd (sk.none (subst (λ (n : ℕ). OneOf toks n (firsts r.parts)) e.0 o)) ]
        | inr z ↦ inr (inl (h, inr (z.0, z.1, ha, z.3, inr (m, z.2, ha, z.4, b))))
      ]
      | inr y ↦ absurd y
    ];
    ends_back = λ j v y. elim y [
      | inl (ws, h, (l, ha, d, (m, hb, e, row)), f, q) ↦ inl ((ws.0 ∷ ws.1.0, ws.1.1), h, (m, ha, many_more d e, row), f, q)
      | inr y ↦ absurd y
    ];
    starts_back = λ n y. elim y [
      | inl (h, inl (ha, p)) ↦ inl (h, inl (ha, begin_many p))
      | inl (h, inr (l, v, ha, d, inl (hb, p))) ↦ inl (h, inl (ha, more_many d p))
      | inl (h, inr (l, v, ha, d, inr (m, w, hb, e, b))) ↦ inl (h, inr (m, v ∷ w, ha, many_more d e, b))
      | inr y ↦ absurd y
    ];
  }

  by_end : nullable r.symbol ≡ false → (OneOf toks k (first r.symbol) → ⊥) → Narrows toks room s i k (having r xs ∷ []) k k (had r xs ∷ [])
  by_end e none = record {
    ends = λ j v y. elim y [
      | inl (ws, h, (m, ha, d, row), f, q) ↦ elim (many_split d) [
        | inl g ↦
            let w : xs ++ ws.0 ≡ xs = ap (λ (l : List (Value r.symbol)). xs ++ l) g.1 ∙ append-nil xs in
            inr (inl (ws.1, h, subst (λ (n : ℕ). RowOf toks room r.parts n j ws.1) g.0 row, ap (λ (l : List (Value r.symbol)). r.fits (l, ws.1)) (sym' w) ∙ f, q ∙ ap (λ (l : List (Value r.symbol)). r.make (extent toks i j) (l, ws.1)) w))
        | inr z ↦ absurd (none (ahead e z.3))
      ]
      | inr y ↦ absurd y
    ];
    starts = λ n y. elim y [
      | inl (h, inl (ha, p)) ↦ elim (many_begin p) [
        | inl l ↦ inl l
        | inr z ↦ elim z [
          | inl p' ↦ elim (prefix_first toks (inside room r.above) r.symbol k n p') [ inl l ↦ inl l | inr o ↦ absurd (none o) ]
          | inr w ↦ absurd (none (ahead e w.2))
        ]
      ]
      | inl (h, inr (m, w, ha, d, b)) ↦ elim (many_split d) [
        | inl g ↦ inr (inl (h, subst (λ (l : ℕ). BeginsOf toks room r.parts l n) g.0 b))
        | inr z ↦ absurd (none (ahead e z.3))
      ]
      | inr y ↦ absurd y
    ];
    ends_back = λ j v y. elim y [
      | inl (us, h, row, f, q) ↦
          let w = append-nil xs in
          let l = max_has room r.need r.above h in
          inl (([], us), h, (k, l.1, many_none, row), ap (λ (l : List (Value r.symbol)). r.fits (l, us)) w ∙ f, q ∙ ap (λ (l : List (Value r.symbol)). r.make (extent toks i j) (l, us)) (sym' w))
      | inr y ↦ absurd y
    ];
    starts_back = λ n y. elim y [
      | inl (h, b) ↦ let l = max_has room r.need r.above h in inl (h, inr (k, [], l.1, many_none, b))
      | inr y ↦ absurd y
    ];
  }

-- what `is_loop` says
record IsLoop (s t : Symbol) (ps : List Part) : Type 0 where
  pub visible : nullable t ≡ false
  pub apart : is_apart s t (record { above = 0; symbol = many t } ∷ ps) ≡ true
  pub told : is_disjoint (first t) (firsts ps) ≡ true
  pub follows : not (nullables ps) || within (first t) (fronts s) ≡ true

loops_from : (s t : Symbol) (ps : List Part) → is_loop s t ps ≡ true → IsLoop s t ps
loops_from s t ps e =
    let p = and_parts (not (nullable t) && is_apart s t (record { above = 0; symbol = many t } ∷ ps)) (is_disjoint (first t) (firsts ps) && (not (nullables ps) || within (first t) (fronts s))) e in
    let q = and_parts (not (nullable t)) (is_apart s t (record { above = 0; symbol = many t } ∷ ps)) p.0 in
    let u = and_parts (is_disjoint (first t) (firsts ps)) (not (nullables ps) || within (first t) (fronts s)) p.1 in
    record { visible = not-true (nullable t) q.0; apart = q.1; told = u.0; follows = u.1 }

-- an element begins where the list goes on
skips_at : {toks : List Tok} {s t : Symbol} {k : ℕ} {ps : List Part} → IsLoop s t ps → OneOf toks k (first t) → Skips toks s k ps
skips_at {toks} {s} {t} {k} {ps} l o = record {
  none = λ q. one_disjoint (firsts ps) l.told o q;
  ends = λ n. elim (or_cases (not (nullables ps)) (within (first t) (fronts s)) l.follows) [
    | inl f ↦ let h = not-true (nullables ps) f in absurd (cc)
    | inr w ↦ one_within (fronts s) w o
  ];
}

-- a rest with the list so far, in the two forms that it gets
same_having : {V : Type 0} (r : Run V) (xs : List (Value r.symbol)) (v : Value r.symbol) → ◌≡◌ {A = Rest V} (record {
  need = max (max r.need r.above) r.above;
  parts = record { above = r.above; symbol = many r.symbol } ∷ r.parts;
  fits = λ x. r.fits (xs ++ (v ∷ x.0), x.1);
  make = λ e x. r.make e (xs ++ (v ∷ x.0), x.1);
}) (having r (xs ++ (v ∷ [])))
same_having r xs v =
    let n : max (max r.need r.above) r.above ≡ max r.need r.above = grind arith in
    let l : (ys : List (Value r.symbol)) → xs ++ (v ∷ ys) ≡ (xs ++ (v ∷ [])) ++ ys = λ ys. sym' (append_assoc xs (v ∷ []) ys) in
    λ d. record {
      need = n d;
      parts = record { above = r.above; symbol = many r.symbol } ∷ r.parts;
      fits = λ x. r.fits (l x.0 d, x.1);
      make = λ e x. r.make e (l x.0 d, x.1);
    }

module _ {toks : List Tok} {room : ℕ} {s : Symbol} {i k : ℕ} (r : Run (Value s)) (xs : List (Value r.symbol)) where
  elements : Skips toks s k r.parts → Roomy toks room s i k (having r xs ∷ []) → Roomy toks room s i k (element r xs ∷ [])
  elements sk st = let h = st.needs in record { stands = record { free = stay st.stands.free (by_element r xs sk); held = stay st.stands.held (by_element r xs sk) }; needs = grind arith }

  -- one more; one that stopped; no more
  pub one_more : {j : ℕ} {v : Value r.symbol} → Roomy toks room s i k (having r xs ∷ []) → Reads toks (left room r.above) r.symbol k j v → is_loop s r.symbol r.parts ≡ true → Roomy toks room s i j (having r (xs ++ (v ∷ [])) ∷ [])
  one_more {j} {v} st x e =
      let l = loops_from s r.symbol r.parts e in
      let next = read (elements (skips_at l (ahead l.visible x.derives)) st) x l.apart in
      subst (λ (q : Rest (Value s)). Roomy toks room s i j (q ∷ [])) (same_having r xs v) next

  pub one_stops : (e : Stop) → Roomy toks room s i k (having r xs ∷ []) → Stopped toks (left room r.above) r.symbol k e → (OneOf toks k (firsts r.parts) → ⊥) → nullables r.parts ≡ false → is_loop s r.symbol r.parts ≡ true → Stopped toks room s i e
  one_stops e st x none n d =
      let l = loops_from s r.symbol r.parts d in
      stops e (elements (record { none = none; ends = λ h. absurd (cc) }) st) x l.apart

  pub no_more : Roomy toks room s i k (having r xs ∷ []) → (OneOf toks k (first r.symbol) → ⊥) → nullable r.symbol ≡ false → Roomy toks room s i k (had r xs ∷ [])
  no_more st none e = let h = st.needs in record { stands = record { free = stay st.stands.free (by_end r xs e none); held = stay st.stands.held (by_end r xs e none) }; needs = grind arith }
