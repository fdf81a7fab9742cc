-- The last part of a symbol, where what goes on behind it with an `else` goes on behind the whole; and the statement of an
-- `if`, behind which an `else` may stand.
use Rattle.std.proofs.Common.{◌≡◌, ℕ, ◌+◌, ◌≤◌, ◌⊎◌, inl, inr, Bool, true, false, List, [], ◌∷◌, refl, sym as sym', ap, subst, ◌∙◌, arith}
use Rattle.xw_words.specs.declared.pos.Pos.{Pos}
use Rattle.xc_tree.specs.declared.token.Tok.{Tok}
use Rattle.xc_tree.specs.declared.token.Kind.TheVariants.{Key}
use Rattle.xc_tree.specs.Plain as plain
use Rattle.xc_tree.specs.Plain.{is_open}
use Rattle.xc_tree.specs.Symbol.{Symbol, statement, Value}
use Rattle.xc_tree.specs.Grammar.{Extent}
use Rattle.xc_tree.specs.Derives.{On, Room, unlimited, at_most, Derives, Prefix, nothing, extent}
use Rattle.xc_nonterminals.specs.declared.stop.Stop.{Stop}
use Rattle.xc_nonterminals.specs.declared.stop.Stop.TheVariants.{Wrong, Deep, Memory}
use Rattle.xc_nonterminals.specs.Follows.{OneOf, follows}
use Rattle.xc_nonterminals.specs.Reading.{IsFront, Reads, may_go_on}
use Rattle.xc_nonterminals.specs.Stops.{Stopped}
use Rattle.xc_nonterminals.proofs.Rests.Rests.{ValuesOf, Rest, Open, left, inside}
use Rattle.xc_nonterminals.proofs.Rests.Opening.{within}
use Rattle.xc_nonterminals.proofs.Derivations.TokenSets.{one_within}
use Rattle.xc_nonterminals.proofs.Derivations.Forth.{inside_free, inside_most}
use Rattle.xc_nonterminals.proofs.Rests.Advances.{Known, Never, known_free, known_held, never_free, never_held}
use Rattle.xc_nonterminals.proofs.Reading.Paths.{Roomy}
use Rattle.xc_nonterminals.proofs.Stating.Ifs.{Sole, lone, with_else, ending, going_on, behind_else, ends_here, goes_on_here, stops_here}

-- a rest that ends with one part
abbrev pub ends_with : {V : Type 0} (n a : ℕ) (t : Symbol) → (ValuesOf (record { above = a; symbol = t } ∷ []) → Bool) → (Extent → ValuesOf (record { above = a; symbol = t } ∷ []) → V) → Rest V
ends_with n a t f m = record { need = n; parts = record { above = a; symbol = t } ∷ []; fits = f; make = m }

module _ {toks : List Tok} {room : Room} {s : Symbol} {i k : ℕ} (n a : ℕ) (t : Symbol) (f : ValuesOf (record { above = a; symbol = t } ∷ []) → Bool) (m : Extent → ValuesOf (record { above = a; symbol = t } ∷ []) → Value s)
    (o : Open toks room s i k k (ends_with n a t f m ∷ [])) (w : within (follows t) (follows s) ≡ true) (keeps : (e : Extent) (x : Value t) → may_go_on t x ≡ true → may_go_on s (m e (x, tt)) ≡ true) where
  goes_up : {l q : ℕ} {x : Value t} {v : Value s} → IsFront toks t l x → q ≡ l → v ≡ m (extent toks i q) (x, tt) → IsFront toks s q v
  goes_up {l} {q} {x} g e b = record {
    goes_on = subst (λ (y : ℕ). OneOf toks y (follows s)) (sym' e) (one_within (follows s) w g.goes_on);
    may = ap (may_go_on s) b ∙ keeps (extent toks i q) x g.may;
  }

  last_only : {j : ℕ} {x : Value t} → Known toks (inside room a) t k j x → (q : ℕ) (v : Value s) → Derives toks room s i q v → ((q ≡ j) × (v ≡ m (extent toks i j) (x, tt))) ⊎ IsFront toks s q v
  last_only {j} {x} r q v d = elim (o.only q v d) [
    | inl g ↦ inr g
    | inr y ↦ elim y [
      | inl z ↦ elim (r.only z.2.0 z.0.0 z.2.2) [
        | inl c ↦ let e : q ≡ j = z.2.3 ∙ c.0 in inl (e, z.4 ∙ (ap (λ (y : Value t). m (extent toks i q) (y, tt)) c.1 ∙ ap (λ (y : ℕ). m (extent toks i y) (x, tt)) e))
        | inr g ↦ inr (goes_up g z.2.3 z.4)
      ]
      | inr z ↦ absurd z
    ]
  ]

  last_most : {j : ℕ} → ((l : ℕ) → Prefix toks (inside room a) t k l → l ≤ j) → (q : ℕ) → Prefix toks room s i q → q ≤ j
  last_most {j} r q p = elim (o.most q p) [
    | inl h ↦ let g = r k nothing in omega arith
    | inr y ↦ elim y [ inl z ↦ elim z.1 [ inl x ↦ r q x.1 | inr x ↦ absurd x.4 ] | inr z ↦ absurd z ]
  ]

  last_never : {j : ℕ} → Never toks (inside room a) t k j → Never toks room s i j
  last_never {j} r = record {
    never = λ q v d. elim (o.only q v d) [
      | inl g ↦ g
      | inr y ↦ elim y [ inl z ↦ goes_up (r.never z.2.0 z.0.0 z.2.2) z.2.3 z.4 | inr z ↦ absurd z ]
    ];
    most = last_most r.most;
  }

module _ {toks : List Tok} {room : ℕ} {s : Symbol} {i k : ℕ} {n a : ℕ} {t : Symbol} {f : ValuesOf (record { above = a; symbol = t } ∷ []) → Bool} {m : Extent → ValuesOf (record { above = a; symbol = t } ∷ []) → Value s} where
  -- the last part is read
  pub read_last : {j : ℕ} {v : Value t} → Roomy toks room s i k (ends_with n a t f m ∷ []) → Reads toks (left room a) t k j v → f (v, tt) ≡ true → within (follows t) (follows s) ≡ true → ((e : Extent) (x : Value t) → may_go_on t x ≡ true → may_go_on s (m e (x, tt)) ≡ true) → Reads toks room s i j (m (extent toks i j) (v, tt))
  read_last {j} {v} st r e w keeps =
      let g : Known toks (inside unlimited a) t k j v = subst (λ (x : Room). Known toks x t k j v) (sym' (inside_free a)) (known_free r) in
      let h : Known toks (inside (at_most room) a) t k j v = subst (λ (x : Room). Known toks x t k j v) (sym' (inside_most room a)) (known_held r) in
      let l : n ≤ room = (let y = st.needs in grind arith) in
      let b : a ≤ room = (let y = st.needs in grind arith) in
      record {
        derives = st.stands.held.derives j (m (extent toks i j) (v, tt)) (inl ((v, tt), l, (j, b, h.derives, refl), e, refl));
        only = last_only n a t f m st.stands.free w keeps g;
        most = last_most n a t f m st.stands.free w keeps g.most;
      }

  -- reading it stopped
  pub stops_last : (e : Stop) → Roomy toks room s i k (ends_with n a t f m ∷ []) → Stopped toks (left room a) t k e → within (follows t) (follows s) ≡ true → ((e : Extent) (x : Value t) → may_go_on t x ≡ true → may_go_on s (m e (x, tt)) ≡ true) → Stopped toks room s i e
  stops_last (Wrong q) st r w keeps =
      let g : Never toks (inside unlimited a) t k q = subst (λ (x : Room). Never toks x t k q) (sym' (inside_free a)) (never_free r) in
      let l : n ≤ room = (let y = st.needs in grind arith) in
      let b : a ≤ room = (let y = st.needs in grind arith) in
      let c = last_never n a t f m st.stands.free w keeps g in
      record {
        prefix = st.stands.held.prefix q (inl (l, inl (b, subst (λ (x : Room). Prefix toks x t k q) (sym' (inside_most room a)) r.prefix)));
        never = c.never;
        most = c.most;
      }
  stops_last (Deep q) st r w keeps =
      let g : Never toks (inside (at_most room) a) t k q = subst (λ (x : Room). Never toks x t k q) (sym' (inside_most room a)) (never_held r) in
      let l : n ≤ room = (let y = st.needs in grind arith) in
      let b : a ≤ room = (let y = st.needs in grind arith) in
      let c = last_never n a t f m st.stands.held w keeps g in
      record {
        prefix = st.stands.held.prefix q (inl (l, inl (b, subst (λ (x : Room). Prefix toks x t k q) (sym' (inside_most room a)) r.prefix)));
        begins = st.stands.free.prefix (q + 1) (inl (tt, inl (tt, subst (λ (x : Room). Prefix toks x t k (q + 1)) (sym' (inside_free a)) r.begins)));
        never = c.never;
        most = c.most;
      }
  stops_last Memory st r w keeps = tt

sole_of : {toks : List Tok} {room : Room} {k j : ℕ} {v : plain.Statement} → Known toks room statement k j v → Sole toks room k j v
sole_of r = record { derives = r.derives; only = r.only; most = r.most }

-- behind the condition of an `if`
module _ {toks : List Tok} {room i k n a n' : ℕ} {f : ValuesOf (lone a) → Bool} {m : Extent → ValuesOf (lone a) → plain.Statement} {f' : ValuesOf (with_else a) → Bool} {m' : Extent → ValuesOf (with_else a) → plain.Statement}
    (st : Roomy toks room statement i k (ending n a f m ∷ going_on n' a f' m' ∷ [])) where
  fits_n : n ≤ room
  fits_n = let y = st.needs in grind arith

  fits_a : a ≤ room
  fits_a = let y = st.needs in grind arith

  fits_n' : n' ≤ room
  fits_n' = let y = st.needs in grind arith

  module _ {j : ℕ} {v : plain.Statement} (r : Reads toks (left room a) statement k j v) (free : (x : ValuesOf (lone a)) → f x ≡ true) (opens : (e : Extent) (x : ValuesOf (lone a)) → is_open (m e x) ≡ true) where
    known_any : Sole toks (inside unlimited a) k j v
    known_any = subst (λ (x : Room). Sole toks x k j v) (sym' (inside_free a)) (sole_of (known_free r))

    known_some : Sole toks (inside (at_most room) a) k j v
    known_some = subst (λ (x : Room). Sole toks x k j v) (sym' (inside_most room a)) (sole_of (known_held r))

    -- no `else` stands behind its statement
    pub if_ends : ((p : Pos) → On toks j (Key 7) p → ⊥) → Reads toks room statement i j (m (extent toks i j) (v, tt))
    if_ends none =
        let h = ends_here n a n' f m f' m' st.stands.held known_some free opens fits_n fits_a none in
        let g = ends_here n a n' f m f' m' st.stands.free known_any free opens tt tt none in
        record { derives = h.derives; only = g.only; most = g.most }

    -- one does
    pub if_goes_on : {p : Pos} → On toks j (Key 7) p → is_open v ≡ false → Roomy toks room statement i (j + 1) (behind_else n' a f' m' v p ∷ [])
    if_goes_on {p} on shut = record {
      stands = record {
        free = goes_on_here n a n' f m f' m' st.stands.free known_any free opens tt tt p on shut tt;
        held = goes_on_here n a n' f m f' m' st.stands.held known_some free opens fits_n fits_a p on shut fits_n';
      };
      needs = let y = st.needs in grind arith;
    }

  -- reading it stopped
  pub if_stops : (e : Stop) → Stopped toks (left room a) statement k e → ((e : Extent) (x : ValuesOf (lone a)) → is_open (m e x) ≡ true) → Stopped toks room statement i e
  if_stops (Wrong q) r opens =
      let g : Never toks (inside unlimited a) statement k q = subst (λ (x : Room). Never toks x statement k q) (sym' (inside_free a)) (never_free r) in
      let c = stops_here n a n' f m f' m' st.stands.free g (r.most k nothing) opens in
      record {
        prefix = st.stands.held.prefix q (inl (fits_n, inl (fits_a, subst (λ (x : Room). Prefix toks x statement k q) (sym' (inside_most room a)) r.prefix)));
        never = c.never;
        most = c.most;
      }
  if_stops (Deep q) r opens =
      let g : Never toks (inside (at_most room) a) statement k q = subst (λ (x : Room). Never toks x statement k q) (sym' (inside_most room a)) (never_held r) in
      let c = stops_here n a n' f m f' m' st.stands.held g (r.most k nothing) opens in
      record {
        prefix = st.stands.held.prefix q (inl (fits_n, inl (fits_a, subst (λ (x : Room). Prefix toks x statement k q) (sym' (inside_most room a)) r.prefix)));
        begins = st.stands.free.prefix (q + 1) (inl (tt, inl (tt, subst (λ (x : Room). Prefix toks x statement k (q + 1)) (sym' (inside_free a)) r.begins)));
        never = c.never;
        most = c.most;
      }
  if_stops Memory r opens = tt
