-- Reading a row of symbols, one after the other.
use Rattle.std.proofs.Common.{◌≡◌, ℕ, ◌+◌, ◌≤◌, ◌⊎◌, inl, inr, Bool, true, false, not, ◌&&◌, ◌||◌, List, [], ◌∷◌, Option, Some, None, refl, sym as sym', ap, subst, ◌∙◌, arith}
use Rattle.std.proofs.lemmas.Bool.{and_parts, or_cases, not-true}
use Rattle.xc_tree.specs.declared.token.Tok.{Tok}
use Rattle.xc_tree.specs.Symbol.{Symbol, maybe, many, Value, Values}
use Rattle.xc_tree.specs.Derives.{Room, unlimited, at_most, HasRoom, Derives, Row, done, next, Prefix, whole, Begins, in_this, after}
use Rattle.xc_nonterminals.specs.declared.stop.Stop.{Stop}
use Rattle.xc_nonterminals.specs.declared.stop.Stop.TheVariants.{Wrong, Deep, Memory}
use Rattle.xc_nonterminals.specs.Follows.{OneOf, follows}
use Rattle.xc_nonterminals.specs.Reading.{Reads, IsFront}
use Rattle.xc_nonterminals.specs.Stops.{Stopped}
use Rattle.xc_nonterminals.specs.RowReading.{ReadsRow, RefusesRow, StoppedRow}
use Rattle.xc_nonterminals.proofs.Rests.Opening.{within, is_disjoint}
use Rattle.xc_nonterminals.proofs.Derivations.Covers.{row_firsts, row_nullable}
use Rattle.xc_nonterminals.proofs.Derivations.TokenSets.{one_disjoint, one_within}
use Rattle.xc_nonterminals.proofs.Derivations.Firsts.{row_first, begins_first}
use Rattle.xc_nonterminals.proofs.Derivations.Forth.{row_forth, begins_forth, lift, lift_prefix, widen_row, widen_begins, freed, inside_same}
use Rattle.xc_nonterminals.proofs.Derivations.Lists.{unrow, unend, unbegin, unbegin_none, many_split, many_more, many_begin, begin_many, more_many}
use Rattle.xc_nonterminals.proofs.Rests.Alternatives.{by_rules, from_rules, by_starts, from_starts}

no_nodes : (room : Room) → HasRoom room 0
no_nodes unlimited = tt
no_nodes (at_most n) = omega arith

-- what a longer reading of a symbol goes on with begins nothing behind it
abbrev pub is_told : Symbol → List Symbol → Bool
is_told t ss = is_disjoint (follows t) (row_firsts ss) && (not (row_nullable ss) || within (follows t) [])

record Told (toks : List Tok) (t : Symbol) (ss : List Symbol) : Type 0 where
  begins : (m : ℕ) → OneOf toks m (follows t) → OneOf toks m (row_firsts ss) → ⊥
  ends : (m : ℕ) → OneOf toks m (follows t) → row_nullable ss ≡ true → ⊥

no_token : {toks : List Tok} {i : ℕ} → OneOf toks i [] → ⊥
no_token o = let e = o.among in absurd (cc)

told_from : {toks : List Tok} (t : Symbol) (ss : List Symbol) → is_told t ss ≡ true → Told toks t ss
told_from t ss e =
    let p = and_parts (is_disjoint (follows t) (row_firsts ss)) (not (row_nullable ss) || within (follows t) []) e in
    record {
      begins = λ m o q. one_disjoint (row_firsts ss) p.0 o q;
      ends = λ m o n. elim (or_cases (not (row_nullable ss)) (within (follows t) []) p.1) [
        | inl f ↦ let h = not-true (row_nullable ss) f in absurd (cc)
        | inr w ↦ no_token (one_within [] w o)
      ];
    }

module _ {toks : List Tok} {t : Symbol} {ss : List Symbol} (d : Told toks t ss) where
  no_row : {room : Room} {m k : ℕ} {x : Value t} {vs : Values ss} → IsFront toks t m x → Row toks room ss m k vs → ⊥
  no_row {room} {m} {k} {x} {vs} g r = elim (row_first toks room ss m k vs r) [ inl e ↦ d.ends m g.goes_on e.1 | inr o ↦ d.begins m g.goes_on o ]

  no_begin : {room : Room} {m n : ℕ} {x : Value t} → IsFront toks t m x → Begins toks room ss m n → n ≤ m
  no_begin {room} {m} {n} {x} g b = elim (begins_first toks room ss m n b) [ inl h ↦ h | inr o ↦ absurd (d.begins m g.goes_on o) ]

module _ {toks : List Tok} {room i : ℕ} where
  pub no_more_row : ReadsRow toks room [] i i tt
  no_more_row = record { derives = done; only = λ k ws r. (unend r, refl); most = λ n b. absurd (unbegin_none b) }

  module _ {t : Symbol} {ss : List Symbol} where
    -- the first is read, and the others behind it
    pub row_read : {j k : ℕ} {v : Value t} {vs : Values ss} → Reads toks room t i j v → ReadsRow toks room ss j k vs → is_told t ss ≡ true → ReadsRow toks room (t ∷ ss) i k (v, vs)
    row_read {j} {k} {v} {vs} r q e =
        let d : Told toks t ss = told_from t ss e in
        let l = row_forth q.derives in
        record {
          derives = next r.derives q.derives;
          only = λ n ws x. let y = unrow x in elim (r.only y.0 ws.0 y.1) [
            | inl z ↦
                let w = q.only n ws.1 (subst (λ (m : ℕ). Row toks unlimited ss m n ws.1) z.0 y.2) in
                (w.0, ap (λ (x : Value t). (x, ws.1)) z.1 ∙ ap (λ (xs : Values ss). (v, xs)) w.1)
            | inr g ↦ absurd (no_row d g y.2)
          ];
          most = λ n b. elim (unbegin b) [
            | inl p ↦ let h = r.most n p in omega arith
            | inr y ↦ elim (r.only y.0 y.1 y.2) [
              | inl z ↦ q.most n (subst (λ (m : ℕ). Begins toks unlimited ss m n) z.0 y.3)
              | inr g ↦ let a = no_begin d g y.3 in let c = r.most y.0 (whole y.2) in omega arith
            ]
          ];
        }

module _ (toks : List Tok) (room i : ℕ) (t : Symbol) (ss : List Symbol) where
  -- reading the first stopped
  pub row_stops : (e : Stop) → Stopped toks room t i e → is_told t ss ≡ true → StoppedRow toks room (t ∷ ss) i e
  row_stops (Wrong m) r e =
      let d : Told toks t ss = told_from t ss e in
      record {
        prefix = in_this r.prefix;
        never = λ k ws x. let y = unrow x in no_row d (r.never y.0 ws.0 y.1) y.2;
        most = λ n b. elim (unbegin b) [
          | inl p ↦ r.most n p
          | inr y ↦ let a = no_begin d (r.never y.0 y.1 y.2) y.3 in let c = r.most y.0 (whole y.2) in omega arith
        ];
      }
  row_stops (Deep m) r e =
      let d : Told toks t ss = told_from t ss e in
      record {
        prefix = in_this r.prefix;
        begins = in_this r.begins;
        never = λ k ws x. let y = unrow x in no_row d (r.never y.0 ws.0 y.1) y.2;
        most = λ n b. elim (unbegin b) [
          | inl p ↦ r.most n p
          | inr y ↦ let a = no_begin d (r.never y.0 y.1 y.2) y.3 in let c = r.most y.0 (whole y.2) in omega arith
        ];
      }
  row_stops Memory r e = tt

  -- reading what is behind the first stopped
  pub row_goes : {j : ℕ} {v : Value t} (e : Stop) → Reads toks room t i j v → StoppedRow toks room ss j e → is_told t ss ≡ true → StoppedRow toks room (t ∷ ss) i e
  row_goes {j} {v} (Wrong m) r q e =
      let d : Told toks t ss = told_from t ss e in
      let l = begins_forth q.prefix in
      record {
        prefix = after r.derives q.prefix;
        never = λ k ws x. let y = unrow x in elim (r.only y.0 ws.0 y.1) [
          | inl z ↦ q.never k ws.1 (subst (λ (m : ℕ). Row toks unlimited ss m k ws.1) z.0 y.2)
          | inr g ↦ no_row d g y.2
        ];
        most = λ n b. elim (unbegin b) [
          | inl p ↦ let h = r.most n p in omega arith
          | inr y ↦ elim (r.only y.0 y.1 y.2) [
            | inl z ↦ q.most n (subst (λ (m : ℕ). Begins toks unlimited ss m n) z.0 y.3)
            | inr g ↦ let a = no_begin d g y.3 in let c = r.most y.0 (whole y.2) in omega arith
          ]
        ];
      }
  row_goes {j} {v} (Deep m) r q e =
      let d : Told toks t ss = told_from t ss e in
      let l = begins_forth q.prefix in
      record {
        prefix = after r.derives q.prefix;
        begins = after (lift r.derives) q.begins;
        never = λ k ws x. let y = unrow x in elim (r.only y.0 ws.0 (lift y.1)) [
          | inl z ↦ q.never k ws.1 (subst (λ (m : ℕ). Row toks (at_most room) ss m k ws.1) z.0 y.2)
          | inr g ↦ no_row d g y.2
        ];
        most = λ n b. elim (unbegin b) [
          | inl p ↦ let h = r.most n (lift_prefix p) in omega arith
          | inr y ↦ elim (r.only y.0 y.1 (lift y.2)) [
            | inl z ↦ q.most n (subst (λ (m : ℕ). Begins toks (at_most room) ss m n) z.0 y.3)
            | inr g ↦ let a = no_begin d g y.3 in let c = r.most y.0 (whole (lift y.2)) in omega arith
          ]
        ];
      }
  row_goes Memory r q e = tt

-- A row that can't be read from i on, and has no prefix beyond token m.
pub record NoRow (toks : List Tok) (ss : List Symbol) (i m : ℕ) : Type 0 where
  pub starts : i ≤ m
  pub never : (k : ℕ) (ws : Values ss) → Row toks unlimited ss i k ws → ⊥
  pub most : (n : ℕ) → Begins toks unlimited ss i n → n ≤ m

pub refused_row : {toks : List Tok} {room : ℕ} {ss : List Symbol} {i m : ℕ} → RefusesRow toks room ss i m → NoRow toks ss i m
refused_row r = record { starts = begins_forth r.prefix; never = r.never; most = r.most }

-- a reading doesn't begin here, or begins no longer than m
abbrev pub IsBeyond : Stop → ℕ → Type 0
IsBeyond (Wrong n) m = m ≤ n
IsBeyond (Deep n) m = m ≤ n
IsBeyond Memory m = Unit {0}

-- From i on one row is another, with values made of those of the other; and so are its prefixes beyond token m.
pub record Packs (toks : List Tok) (i m : ℕ) (us bs : List Symbol) (f : Values bs → Values us) : Type 0 where
  pub to : (room : Room) (k : ℕ) (ws : Values bs) → Row toks room bs i k ws → Row toks room us i k (f ws)
  pub from : (room : Room) (k : ℕ) (vs : Values us) → Row toks room us i k vs → (ws : Values bs) × Row toks room bs i k ws × (vs ≡ f ws)
  pub begins_to : (room : Room) (n : ℕ) → Begins toks room bs i n → Begins toks room us i n
  pub begins_from : (room : Room) (n : ℕ) → Begins toks room us i n → (n ≤ m) ⊎ Begins toks room bs i n

module _ {toks : List Tok} {i m : ℕ} {us bs : List Symbol} {f : Values bs → Values us} (p : Packs toks i m us bs f) where
  pub packed_read : {room k : ℕ} {ws : Values bs} → ReadsRow toks room bs i k ws → m ≤ k → ReadsRow toks room us i k (f ws)
  packed_read {room} {k} {ws} r l = record {
    derives = p.to (at_most room) k ws r.derives;
    only = λ n vs x. let y = p.from unlimited n vs x in let z = r.only n y.0 y.1 in (z.0, y.2 ∙ ap f z.1);
    most = λ n b. elim (p.begins_from unlimited n b) [ inl h ↦ omega arith | inr x ↦ r.most n x ];
  }

  pub packed_stops : (room : ℕ) (e : Stop) → StoppedRow toks room bs i e → IsBeyond e m → StoppedRow toks room us i e
  packed_stops room (Wrong k) r l = record {
    prefix = p.begins_to (at_most room) k r.prefix;
    never = λ n vs x. let y = p.from unlimited n vs x in r.never n y.0 y.1;
    most = λ n b. elim (p.begins_from unlimited n b) [ inl h ↦ omega arith | inr x ↦ r.most n x ];
  }
  packed_stops room (Deep k) r l = record {
    prefix = p.begins_to (at_most room) k r.prefix;
    begins = p.begins_to unlimited (k + 1) r.begins;
    never = λ n vs x. let y = p.from (at_most room) n vs x in r.never n y.0 y.1;
    most = λ n b. elim (p.begins_from (at_most room) n b) [ inl h ↦ omega arith | inr x ↦ r.most n x ];
  }
  packed_stops room Memory r l = tt

-- a row stops nowhere before its beginning
pub beyond_start : (toks : List Tok) (room i : ℕ) (ss : List Symbol) (e : Stop) → StoppedRow toks room ss i e → IsBeyond e i
beyond_start toks room i ss (Wrong n) r = begins_forth r.prefix
beyond_start toks room i ss (Deep n) r = begins_forth r.prefix
beyond_start toks room i ss Memory r = tt

module _ {toks : List Tok} {i : ℕ} (t : Symbol) (ss : List Symbol) where
  -- one of { t }, where what is behind them doesn't begin
  pub one_of_many : (OneOf toks i (row_firsts ss) → ⊥) → row_nullable ss ≡ false → Packs toks i i (many t ∷ ss) (t ∷ many t ∷ ss) (λ x. (x.0 ∷ x.1.0, x.1.1))
  one_of_many none visible = record {
    to = λ room k ws r. let y = unrow r in let z = unrow y.2 in next (many_more y.1 z.1) z.2;
    from = λ room k vs r. let y = unrow r in elim (many_split y.1) [
      | inl e ↦ absurd (nothing_behind (subst (λ (l : ℕ). Row toks room ss l k vs.1) e.0 y.2))
      | inr z ↦ ((z.1, (z.2, vs.1)), next z.3 (next z.4 y.2), ap (λ (l : List (Value t)). (l, vs.1)) z.5)
    ];
    begins_to = λ room n b. elim (unbegin b) [
      | inl p ↦ in_this (begin_many p)
      | inr y ↦ elim (unbegin y.3) [ inl p ↦ in_this (more_many y.2 p) | inr z ↦ after (many_more y.2 z.2) z.3 ]
    ];
    begins_from = λ room n b. elim (unbegin b) [
      | inl p ↦ elim (many_begin p) [
        | inl l ↦ inl l
        | inr z ↦ elim z [ inl q ↦ inr (in_this q) | inr w ↦ inr (after w.2 (in_this w.3)) ]
      ]
      | inr y ↦ elim (many_split y.2) [
        | inl e ↦ inl (not_begun (subst (λ (l : ℕ). Begins toks room ss l n) e.0 y.3))
        | inr z ↦ inr (after z.3 (after z.4 y.3))
      ]
    ];
  }
    where
      nothing_behind : {room : Room} {k : ℕ} {vs : Values ss} → Row toks room ss i k vs → ⊥
      nothing_behind {room} {k} {vs} r = elim (row_first toks room ss i k vs r) [ inl e ↦ let h = e.1 in absurd (cc) | inr o ↦ none o ]

      not_begun : {room : Room} {n : ℕ} → Begins toks room ss i n → n ≤ i
      not_begun {room} {n} b = elim (begins_first toks room ss i n b) [ inl h ↦ h | inr o ↦ absurd (none o) ]

module _ {toks : List Tok} {room : Room} {t : Symbol} {i : ℕ} where
  -- [ t ]
  pub maybe_split : {j : ℕ} {x : Option (Value t)} → Derives toks room (maybe t) i j x → ((j ≡ i) × (x ≡ None)) ⊎ ((y : Value t) × Derives toks room t i j y × (x ≡ Some y))
  maybe_split {j} {x} d = elim (by_rules toks room (maybe t) i j x refl d) [
    | inl y ↦ inl (unend y.2, y.4)
    | inr z ↦ elim z [
      | inl y ↦ let a = unrow y.2 in inr (y.0.0, subst (λ (n : ℕ). Derives toks room t i n y.0.0) (sym' (unend a.2)) (subst (λ (r : Room). Derives toks r t i a.0 y.0.0) (inside_same room 0) a.1), y.4)
      | inr w ↦ absurd w
    ]
  ]

  pub maybe_none : Derives toks room (maybe t) i i None
  maybe_none = from_rules toks room (maybe t) i i None (inl (tt, no_nodes room, done, refl, refl))

  maybe_one : {j : ℕ} {y : Value t} → Derives toks room t i j y → Derives toks room (maybe t) i j (Some y)
  maybe_one {j} {y} d = from_rules toks room (maybe t) i j (Some y) (inr (inl ((y, tt), no_nodes room, subst (λ (r : Room). Row toks r (t ∷ []) i j (y, tt)) (sym' (inside_same room 0)) (next d done), refl, refl)))

  pub maybe_begin : {n : ℕ} → Prefix toks room (maybe t) i n → (n ≤ i) ⊎ Prefix toks room t i n
  maybe_begin {n} q = elim (by_starts toks room (maybe t) i n refl q) [
    | inl h ↦ inl h
    | inr z ↦ elim z [
      | inl x ↦ absurd (unbegin_none x.1)
      | inr w ↦ elim w [
        | inl x ↦ elim (unbegin (subst (λ (r : Room). Begins toks r (t ∷ []) i n) (inside_same room 0) x.1)) [ inl p ↦ inr p | inr y ↦ absurd (unbegin_none y.3) ]
        | inr v ↦ absurd v
      ]
    ]
  ]

  pub begin_maybe : {n : ℕ} → Prefix toks room t i n → Prefix toks room (maybe t) i n
  begin_maybe {n} p = from_starts toks room (maybe t) i n (inr (inl (no_nodes room, subst (λ (r : Room). Begins toks r (t ∷ []) i n) (sym' (inside_same room 0)) (in_this p))))

module _ {toks : List Tok} {i m : ℕ} (t : Symbol) (ss : List Symbol) where
  -- [ t ], where what is behind it can't be read from here on
  pub with_it : NoRow toks ss i m → Packs toks i m (maybe t ∷ ss) (t ∷ ss) (λ x. (Some x.0, x.1))
  with_it none = record {
    to = λ room k ws r. let y = unrow r in next (maybe_one y.1) y.2;
    from = λ room k vs r. let y = unrow r in elim (maybe_split y.1) [
      | inl e ↦ absurd (none.never k vs.1 (widen_row freed (subst (λ (l : ℕ). Row toks room ss l k vs.1) e.0 y.2)))
      | inr z ↦ ((z.0, vs.1), next z.1 y.2, ap (λ (x : Option (Value t)). (x, vs.1)) z.2)
    ];
    begins_to = λ room n b. elim (unbegin b) [ inl p ↦ in_this (begin_maybe p) | inr y ↦ after (maybe_one y.2) y.3 ];
    begins_from = λ room n b. elim (unbegin b) [
      | inl p ↦ elim (maybe_begin p) [ inl h ↦ inl (let l = none.starts in omega arith) | inr q ↦ inr (in_this q) ]
      | inr y ↦ elim (maybe_split y.2) [
        | inl e ↦ inl (none.most n (widen_begins freed (subst (λ (l : ℕ). Begins toks room ss l n) e.0 y.3)))
        | inr z ↦ inr (after z.1 y.3)
      ]
    ];
  }

  -- where it can't be read itself
  pub without_it : NoRow toks (t ∷ ss) i m → Packs toks i m (maybe t ∷ ss) ss (λ x. (None, x))
  without_it none = record {
    to = λ room k ws r. next maybe_none r;
    from = λ room k vs r. let y = unrow r in elim (maybe_split y.1) [
      | inl e ↦ (vs.1, subst (λ (l : ℕ). Row toks room ss l k vs.1) e.0 y.2, ap (λ (x : Option (Value t)). (x, vs.1)) e.1)
      | inr z ↦ absurd (none.never k (z.0, vs.1) (widen_row freed (next z.1 y.2)))
    ];
    begins_to = λ room n b. after maybe_none b;
    begins_from = λ room n b. elim (unbegin b) [
      | inl p ↦ elim (maybe_begin p) [ inl h ↦ inl (let l = none.starts in omega arith) | inr q ↦ inl (none.most n (widen_begins freed (in_this q))) ]
      | inr y ↦ elim (maybe_split y.2) [
        | inl e ↦ inr (subst (λ (l : ℕ). Begins toks room ss l n) e.0 y.3)
        | inr z ↦ inl (none.most n (widen_begins freed (after z.1 y.3)))
      ]
    ];
  }

-- as far as a row can begin it doesn't stop
pub beyond_begun : (toks : List Tok) (room i n : ℕ) (ss : List Symbol) (e : Stop) → StoppedRow toks room ss i e → Begins toks (at_most room) ss i n → IsBeyond e n
beyond_begun toks room i n ss (Wrong m) r b = r.most n (widen_begins freed b)
beyond_begun toks room i n ss (Deep m) r b = r.most n b
beyond_begun toks room i n ss Memory r b = tt
