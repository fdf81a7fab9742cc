-- A row of symbols among the parts that are left of a symbol.
use Rattle.std.proofs.Common.{◌≡◌, ℕ, ◌+◌, ◌≤◌, ◌⊎◌, inl, inr, Bool, true, leb, List, [], ◌∷◌, refl, sym as sym', ap, subst, ◌∙◌, arith}
use Rattle.std.proofs.lemmas.Bool.{leb-true}
use Rattle.xc_tree.specs.declared.token.Tok.{Tok}
use Rattle.xc_tree.specs.Symbol.{Symbol, Value, Values}
use Rattle.xc_tree.specs.Grammar.{Extent}
use Rattle.xc_tree.specs.Derives.{Room, unlimited, at_most, HasRoom, Row, done, next, Prefix, whole, Begins, in_this, after, extent}
use Rattle.xc_nonterminals.specs.declared.stop.Stop.{Stop}
use Rattle.xc_nonterminals.specs.declared.stop.Stop.TheVariants.{Wrong, Deep, Memory}
use Rattle.xc_nonterminals.specs.Stops.{Stopped}
use Rattle.xc_nonterminals.specs.RowReading.{ReadsRow, StoppedRow}
use Rattle.xc_nonterminals.proofs.Rests.Opening.{put, front, back, peak_parts}
use Rattle.xc_nonterminals.proofs.Rests.Rests.{Part, ValuesOf, Rest, RowOf, BeginsOf, Open, Stands, left, inside}
use Rattle.xc_nonterminals.proofs.Rests.Alternatives.{row_put, put_row, begins_put, put_begins, put_after}
use Rattle.xc_nonterminals.proofs.Derivations.Forth.{row_forth, begins_forth, inside_free, inside_most, widen_row, widen_begins, freed}
use Rattle.xc_nonterminals.proofs.Rests.Narrows.{Narrows, narrow}
use Rattle.xc_nonterminals.proofs.Reading.Paths.{Roomy}

-- the values of some symbols and of what stands behind them
abbrev pub both : (a : ℕ) (ss : List Symbol) (ps : List Part) → Values ss → ValuesOf ps → ValuesOf (put a ss ps)
both a [] ps vs ws = ws
both a (s ∷ ss) ps vs ws = (vs.0, both a ss ps vs.1 ws)

both_parts : (a : ℕ) (ss : List Symbol) (ps : List Part) (x : ValuesOf (put a ss ps)) → x ≡ both a ss ps (front a ss ps x) (back a ss ps x)
both_parts a [] ps x = refl
both_parts a (s ∷ ss) ps x = ap (λ (y : ValuesOf (put a ss ps)). (x.0, y)) (both_parts a ss ps x.1)

-- a rest that begins with a row below so many nodes, and what is left of it behind the row
abbrev pub rowed : {V : Type 0} (n a : ℕ) (ss : List Symbol) (ps : List Part) → (ValuesOf (put a ss ps) → Bool) → (Extent → ValuesOf (put a ss ps) → V) → Rest V
rowed n a ss ps f m = record { need = n; parts = put a ss ps; fits = f; make = m }

abbrev pub unrowed : {V : Type 0} (n a : ℕ) (ss : List Symbol) (ps : List Part) → (ValuesOf (put a ss ps) → Bool) → (Extent → ValuesOf (put a ss ps) → V) → Values ss → Rest V
unrowed n a ss ps f m vs = record { need = n; parts = ps; fits = λ x. f (both a ss ps vs x); make = λ e x. m e (both a ss ps vs x) }

-- what a row is for one room
record OneRow (toks : List Tok) (room : Room) (ss : List Symbol) (k j : ℕ) (vs : Values ss) : Type 0 where
  derives : Row toks room ss k j vs
  only : (l : ℕ) (ws : Values ss) → Row toks room ss k l ws → (l ≡ j) × (ws ≡ vs)
  most : (n : ℕ) → Begins toks room ss k n → n ≤ j

row_begun : {toks : List Tok} {room : Room} {ss : List Symbol} {i n : ℕ} {xs : Values ss} → Row toks room ss i n xs → (i ≡ n) ⊎ Begins toks room ss i n
row_begun done = inl refl
row_begun {toks} {room} (next {s} {i = i0} d r) = elim (row_begun r) [
  | inl e ↦ inr (in_this (subst (Prefix toks room s i0) e (whole d)))
  | inr b ↦ inr (after d b)
]

module _ {toks : List Tok} {room : Room} {s : Symbol} {i k j : ℕ} (n a : ℕ) (ss : List Symbol) (ps : List Part) (f : ValuesOf (put a ss ps) → Bool) (m : Extent → ValuesOf (put a ss ps) → Value s) (h : HasRoom room a) where
  behind_row : {vs : Values ss} → OneRow toks (inside room a) ss k j vs → Narrows toks room s i k (rowed n a ss ps f m ∷ []) j j (unrowed n a ss ps f m vs ∷ [])
  behind_row {vs} r = record {
    ends = λ l v y. elim y [
      | inl x ↦
          let p = row_put toks room a h ps ss k l x.0 x.2 in
          let o = r.only p.0 (front a ss ps x.0) p.1 in
          let ws = back a ss ps x.0 in
          let e : x.0 ≡ both a ss ps vs ws = both_parts a ss ps x.0 ∙ ap (λ (us : Values ss). both a ss ps us ws) o.1 in
          inr (inl (ws, x.1, subst (λ (q : ℕ). RowOf toks room ps q l ws) o.0 p.2, ap f (sym' e) ∙ x.3, x.4 ∙ ap (m (extent toks i l)) e))
      | inr x ↦ absurd x
    ];
    starts = λ q y. elim y [
      | inl x ↦ elim (begins_put toks room a h ps ss k q x.1) [
        | inl b ↦ inl (r.most q b)
        | inr z ↦ let o = r.only z.0 z.1 z.2 in inr (inl (x.0, subst (λ (l : ℕ). BeginsOf toks room ps l q) o.0 z.3))
      ]
      | inr x ↦ absurd x
    ];
    ends_back = λ l v y. elim y [
      | inl x ↦
          let p = put_row toks room a h ps ss k j l vs x.0 r.derives x.2 in
          let e : p.0 ≡ both a ss ps vs x.0 = both_parts a ss ps p.0 ∙ ap (λ (us : Values ss). both a ss ps us (back a ss ps p.0)) p.2 ∙ ap (both a ss ps vs) p.3 in
          inl (p.0, x.1, p.1, ap f e ∙ x.3, x.4 ∙ ap (m (extent toks i l)) (sym' e))
      | inr x ↦ absurd x
    ];
    starts_back = λ q y. elim y [
      | inl x ↦ inl (x.0, put_after toks room a h ps ss k j q vs r.derives x.1)
      | inr x ↦ absurd x
    ];
  }

  reach_row : {vs : Values ss} → HasRoom room n → Open toks room s i k k (rowed n a ss ps f m ∷ []) → OneRow toks (inside room a) ss k j vs → Prefix toks room s i j
  reach_row g o r = elim (row_begun r.derives) [
    | inl e ↦ subst (Prefix toks room s i) e o.here
    | inr b ↦ o.prefix j (inl (g, put_begins toks room a h ps ss k j b))
  ]

  pass_row : {vs : Values ss} → HasRoom room n → Open toks room s i k k (rowed n a ss ps f m ∷ []) → OneRow toks (inside room a) ss k j vs → Open toks room s i j j (unrowed n a ss ps f m vs ∷ [])
  pass_row g o r = narrow o (behind_row r) (row_forth r.derives) (reach_row g o r)

module _ {toks : List Tok} {room : ℕ} {ss : List Symbol} {k j : ℕ} {vs : Values ss} (r : ReadsRow toks room ss k j vs) where
  free_row : OneRow toks unlimited ss k j vs
  free_row = record { derives = widen_row freed r.derives; only = r.only; most = r.most }

  held_row : OneRow toks (at_most room) ss k j vs
  held_row = record { derives = r.derives; only = λ l ws x. r.only l ws (widen_row freed x); most = λ n b. r.most n (widen_begins freed b) }

module _ {toks : List Tok} {room : ℕ} {s : Symbol} {i k : ℕ} (n a : ℕ) (ss : List Symbol) (ps : List Part) (f : ValuesOf (put a ss ps) → Bool) (m : Extent → ValuesOf (put a ss ps) → Value s) (fits : n ≤ room) (above : a ≤ n) where
  -- a row is read
  passed : {j : ℕ} {vs : Values ss} → Stands toks room s i k (rowed n a ss ps f m ∷ []) → ReadsRow toks (left room a) ss k j vs → Stands toks room s i j (unrowed n a ss ps f m vs ∷ [])
  passed {j} {vs} st r =
      let g : OneRow toks (inside unlimited a) ss k j vs = subst (λ (x : Room). OneRow toks x ss k j vs) (sym' (inside_free a)) (free_row r) in
      let h : OneRow toks (inside (at_most room) a) ss k j vs = subst (λ (x : Room). OneRow toks x ss k j vs) (sym' (inside_most room a)) (held_row r) in
      record { free = pass_row n a ss ps f m tt tt st.free g; held = pass_row n a ss ps f m (omega arith) fits st.held h }

  -- reading it stopped
  halted : (e : Stop) → Stands toks room s i k (rowed n a ss ps f m ∷ []) → StoppedRow toks (left room a) ss k e → Stopped toks room s i e
  halted (Wrong q) st r =
      let never : (l : ℕ) (ws : Values ss) → Row toks (inside unlimited a) ss k l ws → ⊥ = λ l ws x. r.never l ws (widen_row freed x) in
      let l = begins_forth r.prefix in
      record {
        prefix = st.held.prefix q (inl (fits, put_begins toks (at_most room) a (omega arith) ps ss k q (subst (λ (x : Room). Begins toks x ss k q) (sym' (inside_most room a)) r.prefix)));
        never = λ j v d. elim (st.free.only j v d) [
          | inl g ↦ g
          | inr y ↦ elim y [ inl x ↦ let p = row_put toks unlimited a tt ps ss k j x.0 x.2 in absurd (never p.0 (front a ss ps x.0) p.1) | inr x ↦ absurd x ]
        ];
        most = λ b y. elim (st.free.most b y) [
          | inl h ↦ omega arith
          | inr z ↦ elim z [
            | inl x ↦ elim (begins_put toks unlimited a tt ps ss k b x.1) [ inl c ↦ r.most b (widen_begins freed c) | inr c ↦ absurd (never c.0 c.1 c.2) ]
            | inr x ↦ absurd x
          ]
        ];
      }
  halted (Deep q) st r =
      let never : (l : ℕ) (ws : Values ss) → Row toks (inside (at_most room) a) ss k l ws → ⊥ = λ l ws x. r.never l ws (subst (λ (y : Room). Row toks y ss k l ws) (inside_most room a) x) in
      let l = begins_forth r.prefix in
      record {
        prefix = st.held.prefix q (inl (fits, put_begins toks (at_most room) a (omega arith) ps ss k q (subst (λ (x : Room). Begins toks x ss k q) (sym' (inside_most room a)) r.prefix)));
        begins = st.free.prefix (q + 1) (inl (tt, put_begins toks unlimited a tt ps ss k (q + 1) (subst (λ (x : Room). Begins toks x ss k (q + 1)) (sym' (inside_free a)) r.begins)));
        never = λ j v d. elim (st.held.only j v d) [
          | inl g ↦ g
          | inr y ↦ elim y [ inl x ↦ let p = row_put toks (at_most room) a (omega arith) ps ss k j x.0 x.2 in absurd (never p.0 (front a ss ps x.0) p.1) | inr x ↦ absurd x ]
        ];
        most = λ b y. elim (st.held.most b y) [
          | inl h ↦ omega arith
          | inr z ↦ elim z [
            | inl x ↦ elim (begins_put toks (at_most room) a (omega arith) ps ss k b x.1) [ inl c ↦ r.most b (subst (λ (y : Room). Begins toks y ss k b) (inside_most room a) c) | inr c ↦ absurd (never c.0 c.1 c.2) ]
            | inr x ↦ absurd x
          ]
        ];
      }
  halted Memory st r = tt

module _ {toks : List Tok} {room : ℕ} {s : Symbol} {i k : ℕ} {n : ℕ} (a : ℕ) (ss : List Symbol) (ps : List Part) {f : ValuesOf (put a ss ps) → Bool} {m : Extent → ValuesOf (put a ss ps) → Value s} where
  pub read_row : {j : ℕ} {vs : Values ss} → Roomy toks room s i k (rowed n a ss ps f m ∷ []) → ReadsRow toks (left room a) ss k j vs → leb a n ≡ true → leb (peak_parts ps) n ≡ true → Roomy toks room s i j (unrowed n a ss ps f m vs ∷ [])
  read_row {j} {vs} st r e g =
      let h = st.needs in
      let l = leb-true a n e in
      let b = leb-true (peak_parts ps) n g in
      let fits : n ≤ room = grind arith in
      record { stands = passed n a ss ps f m fits l st.stands r; needs = grind arith }

  pub stops_row : (e : Stop) → Roomy toks room s i k (rowed n a ss ps f m ∷ []) → StoppedRow toks (left room a) ss k e → leb a n ≡ true → Stopped toks room s i e
  stops_row e st r g =
      let h = st.needs in
      let fits : n ≤ room = grind arith in
      halted n a ss ps f m fits (leb-true a n g) e st.stands r
