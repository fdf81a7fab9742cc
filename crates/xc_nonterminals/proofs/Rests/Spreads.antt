-- Plain symbols that rests begin with, taken for their alternatives.
use Rattle.std.proofs.Common.{◌≡◌, ℕ, ◌+◌, ◌≤◌, ◌⊎◌, inl, inr, Bool, true, false, max, List, [], ◌∷◌, ◌++◌, refl, sym as sym', ap, subst, ◌∙◌, arith}
use Rattle.std.proofs.lemmas.Bool.{and_parts, and_from}
use Rattle.xc_tree.specs.declared.token.Tok.{Tok}
use Rattle.xc_tree.specs.Symbol.{Symbol, Value, sym, key, a_name, a_number}
use Rattle.xc_tree.specs.Grammar.{Rule, Extent, rules}
use Rattle.xc_tree.specs.Derives.{Room, unlimited, at_most, HasRoom, below, Row, Begins, extent}
use Rattle.xc_nonterminals.proofs.Rests.Rests.{Part, ValuesOf, Rest, RowOf, BeginsOf, EndsBy, Ends, StartsBy, Starts, inside}
use Rattle.xc_nonterminals.proofs.Rests.Opening.{is_token, is_plain, front, back, nowhere, open_all, spread_if, spread_parts, spread}
use Rattle.xc_nonterminals.proofs.Derivations.Forth.{inside_below, inside_has, has_inside}
use Rattle.xc_nonterminals.proofs.Rests.Alternatives.{AllIgnore, plain_ignores, ByRules, BeginsRules, by_rules, from_rules, by_starts, from_starts, Joined, row_put, put_row, begins_put, put_begins, put_after}
use Rattle.xc_nonterminals.proofs.Rests.Narrows.{Narrows}

-- a plain symbol is no token
plain_no_token : (s : Symbol) → is_plain s ≡ true → is_token s ≡ false
plain_no_token (sym o) e = absurd (cc)
plain_no_token (key w) e = absurd (cc)
plain_no_token a_name e = absurd (cc)
plain_no_token a_number e = absurd (cc)
plain_no_token _ e = refl

pub has_max : (room : Room) (a b : ℕ) → HasRoom room a → HasRoom room b → HasRoom room (max a b)
has_max unlimited a b h g = tt
has_max (at_most r) a b h g = grind arith

pub max_has : (room : Room) (a b : ℕ) → HasRoom room (max a b) → HasRoom room a × HasRoom room b
max_has unlimited a b h = (tt, tt)
max_has (at_most r) a b h = (grind arith, grind arith)

abbrev whole_of : {V : Type 0} (n : ℕ) (p : Part) (ps : List Part) → (ValuesOf (p ∷ ps) → Bool) → (Extent → ValuesOf (p ∷ ps) → V) → Rest V
whole_of n p ps f m = record { need = n; parts = p ∷ ps; fits = f; make = m }

module _ (toks : List Tok) (room : Room) {V : Type 0} (i k : ℕ) (n : ℕ) (p : Part) (ps : List Part) (f : ValuesOf (p ∷ ps) → Bool) (make : Extent → ValuesOf (p ∷ ps) → V) where
  open_ends : (rs : List (Rule (Value p.symbol))) → AllIgnore rs → (m j : ℕ) (v : V) (w : Value p.symbol) (ws : ValuesOf ps) → HasRoom room n → HasRoom room p.above → ByRules toks (inside room p.above) rs k m w → RowOf toks room ps m j ws → f (w, ws) ≡ true → v ≡ make (extent toks i j) (w, ws) → Ends toks room (open_all n p ps f make rs) i k j v
  open_ends [] a m j v w ws h g e r b q = absurd e
  open_ends (x ∷ rs) a m j v w ws h g (inl e) r b q =
      let l = p.above + x.nodes in
      let hl : HasRoom room l = inside_has room p.above x.nodes g e.1 in
      let row : Row toks (inside room l) x.parts k m e.0 = subst (λ (y : Room). Row toks y x.parts k m e.0) (inside_below room p.above x.nodes) e.2 in
      let y : Joined toks room l x.parts ps k j e.0 ws = put_row toks room l hl ps x.parts k m j e.0 ws row r in
      let made : x.make nowhere (front l x.parts ps y.0) ≡ w = ap (x.make nowhere) y.2 ∙ a.0.make nowhere (extent toks k m) e.0 ∙ sym' e.4 in
      let pair : ◌≡◌ {A = ValuesOf (p ∷ ps)} (x.make nowhere (front l x.parts ps y.0), back l x.parts ps y.0) (w, ws) = cc in
      inl (
        y.0,
        has_max room n l h hl,
        y.1,
        and_from (x.fits (front l x.parts ps y.0)) (f (x.make nowhere (front l x.parts ps y.0), back l x.parts ps y.0)) (a.0.fits (front l x.parts ps y.0)) (ap f pair ∙ b),
        q ∙ ap (make (extent toks i j)) (sym' pair),
      )
  open_ends (x ∷ rs) a m j v w ws h g (inr e) r b q = inr (open_ends rs a.1 m j v w ws h g e r b q)

  ends_open : (rs : List (Rule (Value p.symbol))) → AllIgnore rs → (j : ℕ) (v : V) → Ends toks room (open_all n p ps f make rs) i k j v → (m : ℕ) × (w : Value p.symbol) × (ws : ValuesOf ps) × HasRoom room n × HasRoom room p.above × ByRules toks (inside room p.above) rs k m w × RowOf toks room ps m j ws × (f (w, ws) ≡ true) × (v ≡ make (extent toks i j) (w, ws))
  ends_open [] a j v e = absurd e
  ends_open (x ∷ rs) a j v (inl e) =
      let l = p.above + x.nodes in
      let hs = max_has room n l e.1 in
      let ha = has_inside room p.above x.nodes hs.1 in
      let y = row_put toks room l hs.1 ps x.parts k j e.0 e.2 in
      let us = front l x.parts ps e.0 in
      let row : Row toks (below (inside room p.above) x.nodes) x.parts k y.0 us = subst (λ (z : Room). Row toks z x.parts k y.0 us) (sym' (inside_below room p.above x.nodes)) y.1 in
      let fs = and_parts (x.fits us) (f (x.make nowhere us, back l x.parts ps e.0)) e.3 in
      (y.0, x.make nowhere us, back l x.parts ps e.0, hs.0, ha.0, inl (us, ha.1, row, fs.0, a.0.make nowhere (extent toks k y.0) us), y.2, fs.1, e.4)
  ends_open (x ∷ rs) a j v (inr e) = let y = ends_open rs a.1 j v e in (y.0, y.1, y.2, y.3, y.4, inr y.5, y.6, y.7, y.8)

  open_starts : (rs : List (Rule (Value p.symbol))) → (e : ℕ) → HasRoom room n → HasRoom room p.above → BeginsRules toks (inside room p.above) rs k e → Starts toks room (open_all n p ps f make rs) k e
  open_starts [] e h g b = absurd b
  open_starts (x ∷ rs) e h g (inl b) =
      let l = p.above + x.nodes in
      let hl : HasRoom room l = inside_has room p.above x.nodes g b.0 in
      inl (has_max room n l h hl, put_begins toks room l hl ps x.parts k e (subst (λ (y : Room). Begins toks y x.parts k e) (inside_below room p.above x.nodes) b.1))
  open_starts (x ∷ rs) e h g (inr b) = inr (open_starts rs e h g b)

  open_after : (rs : List (Rule (Value p.symbol))) → (m e : ℕ) (w : Value p.symbol) → HasRoom room n → HasRoom room p.above → ByRules toks (inside room p.above) rs k m w → BeginsOf toks room ps m e → Starts toks room (open_all n p ps f make rs) k e
  open_after [] m e w h g d b = absurd d
  open_after (x ∷ rs) m e w h g (inl d) b =
      let l = p.above + x.nodes in
      let hl : HasRoom room l = inside_has room p.above x.nodes g d.1 in
      let row : Row toks (inside room l) x.parts k m d.0 = subst (λ (y : Room). Row toks y x.parts k m d.0) (inside_below room p.above x.nodes) d.2 in
      inl (has_max room n l h hl, put_after toks room l hl ps x.parts k m e d.0 row b)
  open_after (x ∷ rs) m e w h g (inr d) b = inr (open_after rs m e w h g d b)

  starts_open : (rs : List (Rule (Value p.symbol))) → AllIgnore rs → (e : ℕ) → Starts toks room (open_all n p ps f make rs) k e → HasRoom room n × HasRoom room p.above × (BeginsRules toks (inside room p.above) rs k e ⊎ ((m : ℕ) × (w : Value p.symbol) × ByRules toks (inside room p.above) rs k m w × BeginsOf toks room ps m e))
  starts_open [] a e b = absurd b
  starts_open (x ∷ rs) a e (inl b) =
      let l = p.above + x.nodes in
      let hs = max_has room n l b.0 in
      let ha = has_inside room p.above x.nodes hs.1 in (
        hs.0,
        ha.0,
        elim (begins_put toks room l hs.1 ps x.parts k e b.1) [
          | inl q ↦ inl (inl (ha.1, subst (λ (y : Room). Begins toks y x.parts k e) (sym' (inside_below room p.above x.nodes)) q))
          | inr y ↦ inr (y.0, x.make (extent toks k y.0) y.1, inl (y.1, ha.1, subst (λ (z : Room). Row toks z x.parts k y.0 y.1) (sym' (inside_below room p.above x.nodes)) y.2, a.0.fits y.1, refl), y.3)
        ],
      )
  starts_open (x ∷ rs) a e (inr b) =
      let y = starts_open rs a.1 e b in
      (y.0, y.1, elim y.2 [ inl q ↦ inl (inr q) | inr z ↦ inr (z.0, z.1, inr z.2, z.3) ])

  module _ (plain : is_plain p.symbol ≡ true) where
    whole_ends : (j : ℕ) (v : V) → EndsBy toks room (whole_of n p ps f make) i k j v → Ends toks room (open_all n p ps f make (rules p.symbol)) i k j v
    whole_ends j v x = open_ends (rules p.symbol) (plain_ignores p.symbol plain) x.2.0 j v x.0.0 x.0.1 x.1 x.2.1 (by_rules toks (inside room p.above) p.symbol k x.2.0 x.0.0 (plain_no_token p.symbol plain) x.2.2) x.2.3 x.3 x.4

    ends_whole : (j : ℕ) (v : V) → Ends toks room (open_all n p ps f make (rules p.symbol)) i k j v → EndsBy toks room (whole_of n p ps f make) i k j v
    ends_whole j v x =
        let y = ends_open (rules p.symbol) (plain_ignores p.symbol plain) j v x in
        ((y.1, y.2), y.3, (y.0, y.4, from_rules toks (inside room p.above) p.symbol k y.0 y.1 y.5, y.6), y.7, y.8)

    whole_starts : (e : ℕ) → StartsBy toks room (whole_of n p ps f make) k e → (e ≤ k) ⊎ Starts toks room (open_all n p ps f make (rules p.symbol)) k e
    whole_starts e x = elim x.1 [
      | inl q ↦ elim (by_starts toks (inside room p.above) p.symbol k e (plain_no_token p.symbol plain) q.1) [ inl h ↦ inl h | inr b ↦ inr (open_starts (rules p.symbol) e x.0 q.0 b) ]
      | inr y ↦ inr (open_after (rules p.symbol) y.0 e y.1 x.0 y.2 (by_rules toks (inside room p.above) p.symbol k y.0 y.1 (plain_no_token p.symbol plain) y.3) y.4)
    ]

    starts_whole : (e : ℕ) → Starts toks room (open_all n p ps f make (rules p.symbol)) k e → StartsBy toks room (whole_of n p ps f make) k e
    starts_whole e x =
        let y = starts_open (rules p.symbol) (plain_ignores p.symbol plain) e x in (
          y.0,
          elim y.2 [
            | inl b ↦ inl (y.1, from_starts toks (inside room p.above) p.symbol k e b)
            | inr z ↦ inr (z.0, z.1, y.1, from_rules toks (inside room p.above) p.symbol k z.0 z.1 z.2, z.3)
          ],
        )

  part_ends : (b : Bool) → is_plain p.symbol ≡ b → (j : ℕ) (v : V) → EndsBy toks room (whole_of n p ps f make) i k j v → Ends toks room (spread_if b n p ps f make) i k j v
  part_ends true e j v x = whole_ends e j v x
  part_ends false e j v x = inl x

  ends_part : (b : Bool) → is_plain p.symbol ≡ b → (j : ℕ) (v : V) → Ends toks room (spread_if b n p ps f make) i k j v → EndsBy toks room (whole_of n p ps f make) i k j v
  ends_part true e j v x = ends_whole e j v x
  ends_part false e j v (inl x) = x
  ends_part false e j v (inr x) = absurd x

  part_starts : (b : Bool) → is_plain p.symbol ≡ b → (l : ℕ) → StartsBy toks room (whole_of n p ps f make) k l → (l ≤ k) ⊎ Starts toks room (spread_if b n p ps f make) k l
  part_starts true e l x = whole_starts e l x
  part_starts false e l x = inr (inl x)

  starts_part : (b : Bool) → is_plain p.symbol ≡ b → (l : ℕ) → Starts toks room (spread_if b n p ps f make) k l → StartsBy toks room (whole_of n p ps f make) k l
  starts_part true e l x = starts_whole e l x
  starts_part false e l (inl x) = x
  starts_part false e l (inr x) = absurd x

module _ (toks : List Tok) (room : Room) {V : Type 0} (i k : ℕ) where
  rest_ends : (n : ℕ) (ps : List Part) (f : ValuesOf ps → Bool) (m : Extent → ValuesOf ps → V) (j : ℕ) (v : V) → EndsBy toks room (record { need = n; parts = ps; fits = f; make = m }) i k j v → Ends toks room (spread_parts n ps f m) i k j v
  rest_ends n [] f m j v x = inl x
  rest_ends n (p ∷ ps) f m j v x = part_ends toks room i k n p ps f m (is_plain p.symbol) refl j v x

  ends_rest : (n : ℕ) (ps : List Part) (f : ValuesOf ps → Bool) (m : Extent → ValuesOf ps → V) (j : ℕ) (v : V) → Ends toks room (spread_parts n ps f m) i k j v → EndsBy toks room (record { need = n; parts = ps; fits = f; make = m }) i k j v
  ends_rest n [] f m j v (inl x) = x
  ends_rest n [] f m j v (inr x) = absurd x
  ends_rest n (p ∷ ps) f m j v x = ends_part toks room i k n p ps f m (is_plain p.symbol) refl j v x

  rest_starts : (n : ℕ) (ps : List Part) (f : ValuesOf ps → Bool) (m : Extent → ValuesOf ps → V) (l : ℕ) → StartsBy toks room (record { need = n; parts = ps; fits = f; make = m }) k l → (l ≤ k) ⊎ Starts toks room (spread_parts n ps f m) k l
  rest_starts n [] f m l x = inr (inl x)
  rest_starts n (p ∷ ps) f m l x = part_starts toks room i k n p ps f m (is_plain p.symbol) refl l x

  starts_rest : (n : ℕ) (ps : List Part) (f : ValuesOf ps → Bool) (m : Extent → ValuesOf ps → V) (l : ℕ) → Starts toks room (spread_parts n ps f m) k l → StartsBy toks room (record { need = n; parts = ps; fits = f; make = m }) k l
  starts_rest n [] f m l (inl x) = x
  starts_rest n [] f m l (inr x) = absurd x
  starts_rest n (p ∷ ps) f m l x = starts_part toks room i k n p ps f m (is_plain p.symbol) refl l x

  -- rests one list behind the other
  left_ends : (xs ys : List (Rest V)) (j : ℕ) (v : V) → Ends toks room xs i k j v → Ends toks room (xs ++ ys) i k j v
  left_ends [] ys j v x = absurd x
  left_ends (r ∷ xs) ys j v (inl x) = inl x
  left_ends (r ∷ xs) ys j v (inr x) = inr (left_ends xs ys j v x)

  right_ends : (xs ys : List (Rest V)) (j : ℕ) (v : V) → Ends toks room ys i k j v → Ends toks room (xs ++ ys) i k j v
  right_ends [] ys j v x = x
  right_ends (r ∷ xs) ys j v x = inr (right_ends xs ys j v x)

  ends_both : (xs ys : List (Rest V)) (j : ℕ) (v : V) → Ends toks room (xs ++ ys) i k j v → Ends toks room xs i k j v ⊎ Ends toks room ys i k j v
  ends_both [] ys j v x = inr x
  ends_both (r ∷ xs) ys j v (inl x) = inl (inl x)
  ends_both (r ∷ xs) ys j v (inr x) = elim (ends_both xs ys j v x) [ inl y ↦ inl (inr y) | inr y ↦ inr y ]

  left_starts : (xs ys : List (Rest V)) (n : ℕ) → Starts toks room xs k n → Starts toks room (xs ++ ys) k n
  left_starts [] ys n x = absurd x
  left_starts (r ∷ xs) ys n (inl x) = inl x
  left_starts (r ∷ xs) ys n (inr x) = inr (left_starts xs ys n x)

  right_starts : (xs ys : List (Rest V)) (n : ℕ) → Starts toks room ys k n → Starts toks room (xs ++ ys) k n
  right_starts [] ys n x = x
  right_starts (r ∷ xs) ys n x = inr (right_starts xs ys n x)

  starts_both : (xs ys : List (Rest V)) (n : ℕ) → Starts toks room (xs ++ ys) k n → Starts toks room xs k n ⊎ Starts toks room ys k n
  starts_both [] ys n x = inr x
  starts_both (r ∷ xs) ys n (inl x) = inl (inl x)
  starts_both (r ∷ xs) ys n (inr x) = elim (starts_both xs ys n x) [ inl y ↦ inl (inr y) | inr y ↦ inr y ]

  all_ends : (rs : List (Rest V)) (j : ℕ) (v : V) → Ends toks room rs i k j v → Ends toks room (spread rs) i k j v
  all_ends [] j v x = x
  all_ends (r ∷ rs) j v (inl x) = left_ends (spread_parts r.need r.parts r.fits r.make) (spread rs) j v (rest_ends r.need r.parts r.fits r.make j v x)
  all_ends (r ∷ rs) j v (inr x) = right_ends (spread_parts r.need r.parts r.fits r.make) (spread rs) j v (all_ends rs j v x)

  ends_all : (rs : List (Rest V)) (j : ℕ) (v : V) → Ends toks room (spread rs) i k j v → Ends toks room rs i k j v
  ends_all [] j v x = x
  ends_all (r ∷ rs) j v x = elim (ends_both (spread_parts r.need r.parts r.fits r.make) (spread rs) j v x) [ inl y ↦ inl (ends_rest r.need r.parts r.fits r.make j v y) | inr y ↦ inr (ends_all rs j v y) ]

  all_starts : (rs : List (Rest V)) (n : ℕ) → Starts toks room rs k n → (n ≤ k) ⊎ Starts toks room (spread rs) k n
  all_starts [] n x = absurd x
  all_starts (r ∷ rs) n (inl x) = elim (rest_starts r.need r.parts r.fits r.make n x) [ inl h ↦ inl h | inr y ↦ inr (left_starts (spread_parts r.need r.parts r.fits r.make) (spread rs) n y) ]
  all_starts (r ∷ rs) n (inr x) = elim (all_starts rs n x) [ inl h ↦ inl h | inr y ↦ inr (right_starts (spread_parts r.need r.parts r.fits r.make) (spread rs) n y) ]

  starts_all : (rs : List (Rest V)) (n : ℕ) → Starts toks room (spread rs) k n → Starts toks room rs k n
  starts_all [] n x = x
  starts_all (r ∷ rs) n x = elim (starts_both (spread_parts r.need r.parts r.fits r.make) (spread rs) n x) [ inl y ↦ inl (starts_rest r.need r.parts r.fits r.make n y) | inr y ↦ inr (starts_all rs n y) ]

pub spreads : {toks : List Tok} {room : Room} {s : Symbol} {i : ℕ} (k : ℕ) (rs : List (Rest (Value s))) → Narrows toks room s i k rs k k (spread rs)
spreads {toks} {room} {s} {i} k rs = record {
  ends = λ j v x. inr (all_ends toks room i k rs j v x);
  starts = all_starts toks room i k rs;
  ends_back = ends_all toks room i k rs;
  starts_back = starts_all toks room i k rs;
}
