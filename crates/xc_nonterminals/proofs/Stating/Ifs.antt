-- An `if` behind its condition: its statement without an `else` behind it, and with one.
use Rattle.std.proofs.Common.{◌≡◌, ℕ, ◌+◌, ◌-◌, ◌≤◌, ◌⊎◌, inl, inr, Bool, true, false, not, List, [], ◌∷◌, refl, sym as sym', ap, subst, ◌∙◌, arith}
use Rattle.std.proofs.lemmas.Bool.{not-true}
use Rattle.xw_words.specs.declared.pos.Pos.{Pos}
use Rattle.xc_tree.specs.declared.token.Tok.{Tok}
use Rattle.xc_tree.specs.declared.token.Kind.{Kind}
use Rattle.xc_tree.specs.declared.token.Kind.TheVariants.{Key}
use Rattle.xc_tree.specs.Plain as plain
use Rattle.xc_tree.specs.Plain.{is_open}
use Rattle.xc_tree.specs.Symbol.{Symbol, key, statement, closed, Values}
use Rattle.xc_tree.specs.Grammar.{Extent}
use Rattle.xc_tree.specs.Derives.{On, Room, unlimited, at_most, HasRoom, below, Derives, a_key, Row, done, next, Prefix, nothing, whole, begins, Begins, in_this, after, extent, position}
use Rattle.xc_nonterminals.specs.Follows.{OneOf, follows}
use Rattle.xc_nonterminals.specs.Reading.{IsFront}
use Rattle.xc_nonterminals.proofs.Rests.Rests.{Part, ValuesOf, Rest, RowOf, BeginsOf, inside, Open}
use Rattle.xc_nonterminals.proofs.Rests.Alternatives.{by_rules, from_rules, by_starts}
use Rattle.xc_nonterminals.proofs.Rests.Advances.{Never}
use Rattle.xc_nonterminals.proofs.Rests.Behinds.{token_derived, token_prefix}
use Rattle.xc_nonterminals.proofs.Derivations.Forth.{prefix_forth, forth}
use Rattle.xc_tree.specs.Terminals as terminal

-- below no node
same_below : (room : Room) → below room 0 ≡ room
same_below unlimited = refl
same_below (at_most r) = let e : r - 0 ≡ r = omega arith in ap at_most e

no_room : (room : Room) → HasRoom room 0
no_room unlimited = tt
no_room (at_most r) = omega arith

one_row : {toks : List Tok} {room : Room} {s : Symbol} {i j : ℕ} {vs : Values (s ∷ [])} → Row toks room (s ∷ []) i j vs → Derives toks room s i j vs.0
one_row (next d done) = d

word_at : {toks : List Tok} {room : Room} {l m w : ℕ} {p : Pos} → Derives toks room (key w) l m p → On toks l (Key w) p
word_at {p} d = (token_derived refl d).1

by_word : {toks : List Tok} {room : Room} {l n w : ℕ} → Prefix toks room (key w) l n → (n ≤ l) ⊎ ((p : Pos) × On toks l (Key w) p)
by_word nothing = inl (omega arith)
by_word (whole {v} d) = inr (v, word_at d)
by_word (begins a h b) = let e = a.there in absurd (cc)

module _ {toks : List Tok} {room : Room} {k : ℕ} where
  pub closed_is : {m : ℕ} {x : plain.Statement} → Derives toks room closed k m x → Derives toks room statement k m x × (is_open x ≡ false)
  closed_is {m} {x} d = elim (by_rules toks room closed k m x refl d) [
    | inl (vs, h, row, f, e) ↦ let g = subst (λ (q : Room). Derives toks q statement k m vs.0) (same_below room) (one_row row) in
        (subst (Derives toks room statement k m) (sym' e) g, ap is_open e ∙ not-true (is_open vs.0) f)
    | inr z ↦ absurd z
  ]

  pub is_closed : {m : ℕ} {x : plain.Statement} → Derives toks room statement k m x → is_open x ≡ false → Derives toks room closed k m x
  is_closed {m} {x} d f =
      let g = subst (λ (q : Room). Derives toks q statement k m x) (sym' (same_below room)) d in
      from_rules toks room closed k m x (inl ((x, tt), no_room room, next g done, ap not f, refl))

  pub closed_prefix : {n : ℕ} → Prefix toks room closed k n → Prefix toks room statement k n
  closed_prefix {n} q = elim (by_starts toks room closed k n refl q) [
    | inl l ↦ let e : k ≡ n = let b = prefix_forth q in omega arith in subst (Prefix toks room statement k) e nothing
    | inr y ↦ elim y [ inl b ↦ subst (λ (z : Room). Prefix toks z statement k n) (same_below room) (first_of b.1) | inr z ↦ absurd z ]
  ]
    where
      first_of : {z : Room} {n : ℕ} → Begins toks z (statement ∷ []) k n → Prefix toks z statement k n
      first_of (in_this p) = p
      first_of (after d b) = elim b [ ]

-- with this room a statement is read so, and each other reading of it goes on with an `else`
pub record Sole (toks : List Tok) (room : Room) (k j : ℕ) (v : plain.Statement) : Type 0 where
  pub derives : Derives toks room statement k j v
  pub only : (l : ℕ) (w : plain.Statement) → Derives toks room statement k l w → ((l ≡ j) × (w ≡ v)) ⊎ IsFront toks statement l w
  pub most : (n : ℕ) → Prefix toks room statement k n → n ≤ j

abbrev pub lone : ℕ → List Part
lone a = record { above = a; symbol = statement } ∷ []

abbrev pub with_else : ℕ → List Part
with_else a = record { above = a; symbol = closed } ∷ record { above = a; symbol = terminal.else_word } ∷ record { above = a; symbol = statement } ∷ []

-- the rest that ends with the statement, and the one that goes on with an `else`
abbrev pub ending : (n a : ℕ) → (ValuesOf (lone a) → Bool) → (Extent → ValuesOf (lone a) → plain.Statement) → Rest plain.Statement
ending n a f m = record { need = n; parts = lone a; fits = f; make = m }

abbrev pub going_on : (n a : ℕ) → (ValuesOf (with_else a) → Bool) → (Extent → ValuesOf (with_else a) → plain.Statement) → Rest plain.Statement
going_on n a f m = record { need = n; parts = with_else a; fits = f; make = m }

-- that one behind its `else`
abbrev pub behind_else : (n a : ℕ) → (ValuesOf (with_else a) → Bool) → (Extent → ValuesOf (with_else a) → plain.Statement) → plain.Statement → Pos → Rest plain.Statement
behind_else n a f m v p = ending n a (λ x. f (v, (p, x))) (λ e x. m e (v, (p, x)))

module _ {toks : List Tok} {room : Room} {k j : ℕ} {v : plain.Statement} (r : Sole toks room k j v) where
  -- what a `closed` is read as
  pub closed_only : {l : ℕ} {w : plain.Statement} → Derives toks room closed k l w → (l ≡ j) × (w ≡ v)
  closed_only {l} {w} d =
      let c = closed_is d in
      elim (r.only l w c.0) [ inl e ↦ e | inr g ↦ let h = g.may in let b = c.1 in absurd (cc) ]

  pub lone_only : (i : ℕ) {q : ℕ} (a : ℕ) {w : plain.Statement} (m : Extent → ValuesOf (lone a) → plain.Statement) → ((e : Extent) (x : ValuesOf (lone a)) → is_open (m e x) ≡ true) →
      (l : ℕ) (x : ValuesOf (lone a)) → Derives toks room statement k l x.0 → q ≡ l → w ≡ m (extent toks i q) x → ((q ≡ j) × (w ≡ m (extent toks i j) (v, tt))) ⊎ IsFront toks statement q w
  lone_only i {q} a {w} m opens l x d e b = elim (r.only l x.0 d) [
    | inl s ↦ let f : q ≡ j = e ∙ s.0 in inl (f, b ∙ (ap (λ (y : plain.Statement). m (extent toks i q) (y, tt)) s.1 ∙ ap (λ (y : ℕ). m (extent toks i y) (v, tt)) f))
    | inr g ↦ inr (record { goes_on = subst (λ (y : ℕ). OneOf toks y (follows statement)) (sym' e) g.goes_on; may = ap is_open b ∙ opens (extent toks i q) x })
  ]

  -- how far the rest that goes on with an `else` begins, where none stands
  pub none_begins : (a : ℕ) {n : ℕ} → ((p : Pos) → On toks j (Key 7) p → ⊥) → (big : Room) → inside big a ≡ room → BeginsOf toks big (with_else a) k n → n ≤ j
  none_begins a {n} none big e (inl q) = r.most n (closed_prefix (subst (λ (y : Room). Prefix toks y closed k n) e q.1))
  none_begins a {n} none big e (inr (l, x, h, d, b)) =
      let s = closed_only (subst (λ (y : Room). Derives toks y closed k l x) e d) in
      elim b [
        | inl q ↦ elim (by_word q.1) [ inl g ↦ omega (arith, s.0) | inr on ↦ absurd (none on.0 (subst (λ (y : ℕ). On toks y (Key 7) on.0) s.0 on.1)) ]
        | inr y ↦ let on = word_at y.3 in absurd (none y.1 (subst (λ (z : ℕ). On toks z (Key 7) y.1) s.0 on))
      ]

same_pos : {toks : List Tok} {i : ℕ} {k : Kind} {p p' : Pos} → On toks i k p → On toks i k p' → p ≡ p'
same_pos a b = ap position (sym' a.there ∙ b.there)

-- the values of the rest that goes on
abbrev all_three : (a : ℕ) → plain.Statement → Pos → ValuesOf (lone a) → ValuesOf (with_else a)
all_three a x p z = (x, (p, z))

same_three : (a : ℕ) {x y : plain.Statement} {p q : Pos} (z : ValuesOf (lone a)) → x ≡ y → p ≡ q → all_three a x p z ≡ all_three a y q z
same_three a {x} {y} {p} {q} z e g = ap (λ (u : plain.Statement). all_three a u p z) e ∙ ap (λ (u : Pos). all_three a y u z) g

-- what ends before an `else` and is open goes on there
at_else : {toks : List Tok} {j q : ℕ} {w u : plain.Statement} (p : Pos) → On toks j (Key 7) p → is_open u ≡ true → q ≡ j → w ≡ u → IsFront toks statement q w
at_else {toks} {j} {q} p on shut e g = record {
  goes_on = record { token = terminal.else_word; stands = (p, subst (λ (y : ℕ). On toks y (Key 7) p) (sym' e) on); among = refl };
  may = ap is_open g ∙ shut;
}

-- the two rests behind the condition of an `if`
module _ {toks : List Tok} {room : Room} {i k j : ℕ} {v : plain.Statement} (n a n' : ℕ) (f : ValuesOf (lone a) → Bool) (m : Extent → ValuesOf (lone a) → plain.Statement) (f' : ValuesOf (with_else a) → Bool) (m' : Extent → ValuesOf (with_else a) → plain.Statement)
    (o : Open toks room statement i k k (ending n a f m ∷ going_on n' a f' m' ∷ [])) (r : Sole toks (inside room a) k j v)
    (free : (x : ValuesOf (lone a)) → f x ≡ true) (opens : (e : Extent) (x : ValuesOf (lone a)) → is_open (m e x) ≡ true) (h : HasRoom room n) (b : HasRoom room a) where
  -- no `else` stands behind its statement
  pub ends_here : ((p : Pos) → On toks j (Key 7) p → ⊥) → Sole toks room i j (m (extent toks i j) (v, tt))
  ends_here none = record {
    derives = o.derives j (m (extent toks i j) (v, tt)) (inl ((v, tt), h, (j, b, r.derives, refl), free (v, tt), refl));
    only = λ q w d. elim (o.only q w d) [
      | inl g ↦ inr g
      | inr y ↦ elim y [
        | inl z ↦ lone_only r i a m opens z.2.0 z.0 z.2.2 z.2.3 z.4
        | inr y' ↦ elim y' [
          | inl z ↦ let s = closed_only r z.2.2 in let on = word_at z.2.3.2 in absurd (none z.0.1.0 (subst (λ (l : ℕ). On toks l (Key 7) z.0.1.0) s.0 on))
          | inr z ↦ absurd z
        ]
      ]
    ];
    most = λ q p. elim (o.most q p) [
      | inl l ↦ let g = forth r.derives in omega arith
      | inr y ↦ elim y [
        | inl z ↦ elim z.1 [ inl x ↦ r.most q x.1 | inr x ↦ absurd x.4 ]
        | inr y' ↦ elim y' [ inl z ↦ none_begins r a none room refl z.1 | inr z ↦ absurd z ]
      ]
    ];
  }

  -- one does, and belongs to this `if`
  pub goes_on_here : (p : Pos) → On toks j (Key 7) p → is_open v ≡ false → HasRoom room n' → Open toks room statement i (j + 1) (j + 1) (behind_else n' a f' m' v p ∷ [])
  goes_on_here p on shut h' = record {
    derives = λ q w e. elim e [
      | inl z ↦ o.derives q w (inr (inl ((v, (p, z.0)), z.1, (j, b, is_closed r.derives shut, (j + 1, b, a_key on, z.2)), z.3, z.4)))
      | inr z ↦ absurd z
    ];
    only = λ q w d. elim (o.only q w d) [
      | inl g ↦ inl g
      | inr y ↦ elim y [
        | inl z ↦ elim (lone_only r i a m opens z.2.0 z.0 z.2.2 z.2.3 z.4) [ inl s ↦ inl (at_else p on (opens (extent toks i j) (v, tt)) s.0 s.1) | inr g ↦ inl g ]
        | inr y' ↦ elim y' [
          | inl z ↦ let s = closed_only r z.2.2 in let t = token_derived refl z.2.3.2 in
              let e : z.2.3.0 ≡ j + 1 = omega (arith, s.0, t.0) in
              let g : z.0.1.0 ≡ p = same_pos t.1 (subst (λ (l : ℕ). On toks l (Key 7) p) (sym' s.0) on) in
              let c = same_three a z.0.1.1 s.1 g in
              inr (inl (z.0.1.1, z.1, subst (λ (l : ℕ). RowOf toks room (lone a) l q z.0.1.1) e z.2.3.3, ap f' (sym' c) ∙ z.3, z.4 ∙ ap (m' (extent toks i q)) c))
          | inr z ↦ absurd z
        ]
      ]
    ];
    prefix = λ q y. elim y [
      | inl z ↦ o.prefix q (inr (inl (z.0, inr (j, v, b, is_closed r.derives shut, inr (j + 1, p, b, a_key on, z.1)))))
      | inr z ↦ absurd z
    ];
    here = o.prefix (j + 1) (inr (inl (h', inr (j, v, b, is_closed r.derives shut, inl (b, whole (a_key on))))));
    most = λ q y. elim (o.most q y) [
      | inl l ↦ let g = forth r.derives in inl (omega arith)
      | inr y' ↦ elim y' [
        | inl z ↦ elim z.1 [ inl x ↦ let g = r.most q x.1 in inl (omega arith) | inr x ↦ absurd x.4 ]
        | inr w ↦ elim w [
          | inl z ↦ elim z.1 [
            | inl x ↦ let g = r.most q (closed_prefix x.1) in inl (omega arith)
            | inr x ↦ let s = closed_only r x.3 in elim x.4 [
              | inl c ↦ let g = token_prefix refl c.1 in inl (omega (arith, s.0))
              | inr c ↦ let d = token_derived refl c.3 in let e : c.0 ≡ j + 1 = omega (arith, s.0, d.0) in inr (inl (z.0, subst (λ (l : ℕ). BeginsOf toks room (lone a) l q) e c.4))
            ]
          ]
          | inr z ↦ absurd z
        ]
      ]
    ];
  }

-- reading the statement stopped
module _ {toks : List Tok} {room : Room} {i k m : ℕ} (n a n' : ℕ) (f : ValuesOf (lone a) → Bool) (make : Extent → ValuesOf (lone a) → plain.Statement) (f' : ValuesOf (with_else a) → Bool) (make' : Extent → ValuesOf (with_else a) → plain.Statement)
    (o : Open toks room statement i k k (ending n a f make ∷ going_on n' a f' make' ∷ [])) (r : Never toks (inside room a) statement k m) (l : k ≤ m)
    (opens : (e : Extent) (x : ValuesOf (lone a)) → is_open (make e x) ≡ true) where
  no_closed : {q : ℕ} {w : plain.Statement} → Derives toks (inside room a) closed k q w → ⊥
  no_closed {q} {w} d = let c = closed_is d in let g = r.never q w c.0 in let h = g.may in let b = c.1 in absurd (cc)

  pub stops_here : Never toks room statement i m
  stops_here = record {
    never = λ q w d. elim (o.only q w d) [
      | inl g ↦ g
      | inr y ↦ elim y [
        | inl z ↦ let g = r.never z.2.0 z.0.0 z.2.2 in record { goes_on = subst (λ (x : ℕ). OneOf toks x (follows statement)) (sym' z.2.3) g.goes_on; may = ap is_open z.4 ∙ opens (extent toks i q) z.0 }
        | inr y' ↦ elim y' [ inl z ↦ absurd (no_closed z.2.2) | inr z ↦ absurd z ]
      ]
    ];
    most = λ q p. elim (o.most q p) [
      | inl h ↦ omega arith
      | inr y ↦ elim y [
        | inl z ↦ elim z.1 [ inl x ↦ r.most q x.1 | inr x ↦ absurd x.4 ]
        | inr y' ↦ elim y' [ inl z ↦ elim z.1 [ inl x ↦ r.most q (closed_prefix x.1) | inr x ↦ absurd (no_closed x.3) ] | inr z ↦ absurd z ]
      ]
    ];
  }
