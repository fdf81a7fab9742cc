-- What `{ t }` and `t { "," t }` derive, an element at a time.
use Rattle.std.proofs.Common.{◌≡◌, ℕ, ◌+◌, ◌≤◌, ◌⊎◌, inl, inr, true, List, [], ◌∷◌, refl, sym as sym', subst, arith}
use Rattle.xw_words.specs.declared.pos.Pos.{Pos}
use Rattle.xc_tree.specs.declared.token.Tok.{Tok}
use Rattle.xc_tree.specs.declared.token.Kind.TheVariants.{Sym}
use Rattle.xc_tree.specs.Symbol.{Symbol, many, commas, Value, Values}
use Rattle.xc_tree.specs.Terminals.{comma}
use Rattle.xc_tree.specs.Derives.{On, Room, unlimited, at_most, HasRoom, Derives, Row, done, next, Prefix, nothing, whole, begins, Begins, in_this, after}
use Rattle.xc_nonterminals.proofs.Derivations.Forth.{inside_same}
use Rattle.xc_nonterminals.proofs.Rests.Alternatives.{by_rules, from_rules, by_starts, from_starts}
use Rattle.xc_nonterminals.proofs.Rests.Behinds.{TokenAt, token_derived, token_derives, no_rule}
use Rattle.xc_nonterminals.proofs.Rests.Opening.{is_token}

no_nodes : (room : Room) → HasRoom room 0
no_nodes unlimited = tt
no_nodes (at_most n) = omega arith

pub token_begun : {toks : List Tok} {room : Room} {i n : ℕ} {t : Symbol} → is_token t ≡ true → Prefix toks room t i n → (n ≡ i) ⊎ ((n ≡ i + 1) × (v : Value t) × TokenAt toks i t v)
token_begun e nothing = inl refl
token_begun e (whole {v} d) = let y = token_derived e d in inr (y.0, v, y.1)
token_begun {t} e (begins a h b) = absurd (no_rule t e a)

module _ {toks : List Tok} where
  pub unrow : {room : Room} {s : Symbol} {ss : List Symbol} {i k : ℕ} {x : Values (s ∷ ss)} → Row toks room (s ∷ ss) i k x → (j : ℕ) × Derives toks room s i j x.0 × Row toks room ss j k x.1
  unrow (next {j} d r) = (j, d, r)

  pub unend : {room : Room} {i j : ℕ} {x : Values []} → Row toks room [] i j x → j ≡ i
  unend done = refl

  pub unbegin : {room : Room} {s : Symbol} {ss : List Symbol} {i n : ℕ} → Begins toks room (s ∷ ss) i n → Prefix toks room s i n ⊎ ((j : ℕ) × (v : Value s) × Derives toks room s i j v × Begins toks room ss j n)
  unbegin (in_this q) = inl q
  unbegin (after {j} {v} d q) = inr (j, v, d, q)

  pub unbegin_none : {room : Room} {i n : ℕ} → Begins toks room [] i n → ⊥
  unbegin_none b = elim b [ ]

  module _ {room : Room} {t : Symbol} where
    -- { t }
    pub many_split : {i j : ℕ} {xs : List (Value t)} → Derives toks room (many t) i j xs → ((j ≡ i) × (xs ≡ [])) ⊎ ((l : ℕ) × (y : Value t) × (zs : List (Value t)) × Derives toks room t i l y × Derives toks room (many t) l j zs × (xs ≡ y ∷ zs))
    many_split {i} {j} {xs} d = elim (by_rules toks room (many t) i j xs refl d) [
      | inl x ↦ inl (unend x.2, x.4)
      | inr z ↦ elim z [
        | inl x ↦
            let a = unrow x.2 in
            let b = unrow a.2 in
            let e = unend b.2 in
            inr (a.0, x.0.0, x.0.1.0, subst (λ (r : Room). Derives toks r t i a.0 x.0.0) (inside_same room 0) a.1, subst (λ (n : ℕ). Derives toks room (many t) a.0 n x.0.1.0) (sym' e) (subst (λ (r : Room). Derives toks r (many t) a.0 b.0 x.0.1.0) (inside_same room 0) b.1), x.4)
        | inr w ↦ absurd w
      ]
    ]

    pub many_none : {i : ℕ} → Derives toks room (many t) i i []
    many_none {i} = from_rules toks room (many t) i i [] (inl (tt, no_nodes room, done, refl, refl))

    pub many_more : {i l j : ℕ} {y : Value t} {zs : List (Value t)} → Derives toks room t i l y → Derives toks room (many t) l j zs → Derives toks room (many t) i j (y ∷ zs)
    many_more {i} {l} {j} {y} {zs} d e =
        from_rules toks room (many t) i j (y ∷ zs) (inr (inl ((y, (zs, tt)), no_nodes room, subst (λ (r : Room). Row toks r (t ∷ many t ∷ []) i j (y, (zs, tt))) (sym' (inside_same room 0)) (next d (next e done)), refl, refl)))

    pub many_begin : {i n : ℕ} → Prefix toks room (many t) i n → (n ≤ i) ⊎ (Prefix toks room t i n ⊎ ((l : ℕ) × (y : Value t) × Derives toks room t i l y × Prefix toks room (many t) l n))
    many_begin {i} {n} q = elim (by_starts toks room (many t) i n refl q) [
      | inl h ↦ inl h
      | inr z ↦ elim z [
        | inl x ↦ absurd (unbegin_none x.1)
        | inr w ↦ elim w [
          | inl x ↦ elim (unbegin (subst (λ (r : Room). Begins toks r (t ∷ many t ∷ []) i n) (inside_same room 0) x.1)) [
            | inl p ↦ inr (inl p)
            | inr y ↦ elim (unbegin y.3) [ inl p ↦ inr (inr (y.0, y.1, y.2, p)) | inr u ↦ absurd (unbegin_none u.3) ]
          ]
          | inr v ↦ absurd v
        ]
      ]
    ]

    pub begin_many : {i n : ℕ} → Prefix toks room t i n → Prefix toks room (many t) i n
    begin_many {i} {n} p = from_starts toks room (many t) i n (inr (inl (no_nodes room, subst (λ (r : Room). Begins toks r (t ∷ many t ∷ []) i n) (sym' (inside_same room 0)) (in_this p))))

    pub more_many : {i l n : ℕ} {y : Value t} → Derives toks room t i l y → Prefix toks room (many t) l n → Prefix toks room (many t) i n
    more_many {i} {l} {n} d p = from_starts toks room (many t) i n (inr (inl (no_nodes room, subst (λ (r : Room). Begins toks r (t ∷ many t ∷ []) i n) (sym' (inside_same room 0)) (after d (in_this p)))))

    -- t { "," t }
    pub commas_split : {i j : ℕ} {xs : List (Value t)} → Derives toks room (commas t) i j xs → ((y : Value t) × Derives toks room t i j y × (xs ≡ y ∷ [])) ⊎ ((l : ℕ) × (y : Value t) × (p : Pos) × (zs : List (Value t)) × Derives toks room t i l y × On toks l (Sym 7) p × Derives toks room (commas t) (l + 1) j zs × (xs ≡ y ∷ zs))
    commas_split {i} {j} {xs} d = elim (by_rules toks room (commas t) i j xs refl d) [
      | inl x ↦
          let a = unrow x.2 in
          inl (x.0.0, subst (λ (n : ℕ). Derives toks room t i n x.0.0) (sym' (unend a.2)) (subst (λ (r : Room). Derives toks r t i a.0 x.0.0) (inside_same room 0) a.1), x.4)
      | inr z ↦ elim z [
        | inl x ↦
            let a = unrow x.2 in
            let b = unrow a.2 in
            let c = unrow b.2 in
            let e = unend c.2 in
            let p = token_derived {t = comma} refl b.1 in
            inr (
              a.0,
              x.0.0,
              x.0.1.0,
              x.0.1.1.0,
              subst (λ (r : Room). Derives toks r t i a.0 x.0.0) (inside_same room 0) a.1,
              p.1,
              subst (λ (m : ℕ). Derives toks room (commas t) m j x.0.1.1.0) p.0 (subst (λ (n : ℕ). Derives toks room (commas t) b.0 n x.0.1.1.0) (sym' e) (subst (λ (r : Room). Derives toks r (commas t) b.0 c.0 x.0.1.1.0) (inside_same room 0) c.1)),
              x.4,
            )
        | inr w ↦ absurd w
      ]
    ]

    pub commas_last : {i j : ℕ} {y : Value t} → Derives toks room t i j y → Derives toks room (commas t) i j (y ∷ [])
    commas_last {i} {j} {y} d = from_rules toks room (commas t) i j (y ∷ []) (inl ((y, tt), no_nodes room, subst (λ (r : Room). Row toks r (t ∷ []) i j (y, tt)) (sym' (inside_same room 0)) (next d done), refl, refl))

    pub commas_more : {i l j : ℕ} {y : Value t} {p : Pos} {zs : List (Value t)} → Derives toks room t i l y → On toks l (Sym 7) p → Derives toks room (commas t) (l + 1) j zs → Derives toks room (commas t) i j (y ∷ zs)
    commas_more {i} {l} {j} {y} {p} {zs} d c e =
        from_rules toks room (commas t) i j (y ∷ zs) (inr (inl ((y, (p, (zs, tt))), no_nodes room, subst (λ (r : Room). Row toks r (t ∷ comma ∷ commas t ∷ []) i j (y, (p, (zs, tt)))) (sym' (inside_same room 0)) (next d (next (token_derives comma c) (next e done))), refl, refl)))

    pub commas_begin : {i n : ℕ} → Prefix toks room (commas t) i n → (n ≤ i) ⊎ (Prefix toks room t i n ⊎ ((l : ℕ) × (y : Value t) × Derives toks room t i l y × ((n ≡ l) ⊎ ((p : Pos) × On toks l (Sym 7) p × Prefix toks room (commas t) (l + 1) n))))
    commas_begin {i} {n} q = elim (by_starts toks room (commas t) i n refl q) [
      | inl h ↦ inl h
      | inr z ↦ elim z [
        | inl x ↦ elim (unbegin (subst (λ (r : Room). Begins toks r (t ∷ []) i n) (inside_same room 0) x.1)) [ inl p ↦ inr (inl p) | inr y ↦ absurd (unbegin_none y.3) ]
        | inr w ↦ elim w [
          | inl x ↦ elim (unbegin (subst (λ (r : Room). Begins toks r (t ∷ comma ∷ commas t ∷ []) i n) (inside_same room 0) x.1)) [
            | inl p ↦ inr (inl p)
            | inr y ↦ inr (inr (
              y.0,
              y.1,
              y.2,
              elim (unbegin y.3) [
                | inl p ↦ elim (token_begun {t = comma} refl p) [ inl h ↦ inl h | inr g ↦ inr (g.1, g.2, subst (λ (m : ℕ). Prefix toks room (commas t) m n) g.0 nothing) ]
                | inr u ↦ let c = token_derived {t = comma} refl u.2 in elim (unbegin u.3) [
                  | inl p ↦ inr (u.1, c.1, subst (λ (m : ℕ). Prefix toks room (commas t) m n) c.0 p)
                  | inr e ↦ absurd (unbegin_none e.3)
                ]
              ],
            ))
          ]
          | inr v ↦ absurd v
        ]
      ]
    ]

    pub begin_commas : {i n : ℕ} → Prefix toks room t i n → Prefix toks room (commas t) i n
    begin_commas {i} {n} p = from_starts toks room (commas t) i n (inl (no_nodes room, subst (λ (r : Room). Begins toks r (t ∷ []) i n) (sym' (inside_same room 0)) (in_this p)))

    pub more_commas : {i l n : ℕ} {y : Value t} {p : Pos} → Derives toks room t i l y → On toks l (Sym 7) p → Prefix toks room (commas t) (l + 1) n → Prefix toks room (commas t) i n
    more_commas {i} {l} {n} d c p = from_starts toks room (commas t) i n (inr (inl (no_nodes room, subst (λ (r : Room). Begins toks r (t ∷ comma ∷ commas t ∷ []) i n) (sym' (inside_same room 0)) (after d (after (token_derives comma c) (in_this p))))))
