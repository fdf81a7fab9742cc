-- Rests behind a token.
use Rattle.std.proofs.Common.{◌≡◌, ℕ, ◌+◌, ◌≤◌, ◌⊎◌, inl, inr, Bool, true, List, [], ◌∷◌, Option, Some, None, refl, sym as sym', subst}
use Rattle.std.proofs.lemmas.Bool.{and_parts}
use Rattle.xc_tree.specs.declared.token.Tok.{Tok}
use Rattle.xc_tree.specs.Symbol.{Symbol, Value}
use Rattle.xc_tree.specs.Grammar.{Extent}
use Rattle.xc_tree.specs.Derives.{Room}
use Rattle.xc_nonterminals.specs.Follows.{StandsAt, has}
use Rattle.xc_nonterminals.specs.Reading.{IsFront}
use Rattle.xc_nonterminals.proofs.Rests.Rests.{Part, ValuesOf, Rest, RowOf, BeginsOf, EndsBy, Ends, StartsBy, Starts}
use Rattle.xc_nonterminals.proofs.Rests.Opening.{fronts, is_token, as_token, behind_part, behind_parts, behind, is_ready, all_ready}
use Rattle.xc_nonterminals.proofs.Rests.Spreads.{has_max, max_has}
use Rattle.xc_nonterminals.proofs.Rests.Behinds.{TokenAt, token_derives, token_derived, token_prefix, token_stands, as_same, as_back}
use Rattle.xc_nonterminals.proofs.Rests.Narrows.{Narrows}
use Rattle.xc_nonterminals.proofs.Derivations.TokenSets.{front}

-- a token of which a longer reading goes on with one
goes_on : {toks : List Tok} {k : ℕ} (s t : Symbol) (v : Value s) → StandsAt toks k t → has (fronts s) t ≡ true → IsFront toks s k v
goes_on s t v at e = front s v (record { token = t; stands = at; among = e })

-- behind a token
module _ (toks : List Tok) (room : Room) (s : Symbol) (i k : ℕ) (t : Symbol) (v : Value t) (at : TokenAt toks k t v) where
  module _ (n : ℕ) (p : Part) (ps : List Part) (f : ValuesOf (p ∷ ps) → Bool) (m : Extent → ValuesOf (p ∷ ps) → Value s) (token : is_token p.symbol ≡ true) where
    part_ends : (rs : List (Rest (Value s))) (j : ℕ) (w : Value s) → EndsBy toks room (record { need = n; parts = p ∷ ps; fits = f; make = m }) i k j w → Ends toks room (behind_part n p ps f m (as_token p.symbol t v) rs) i (k + 1) j w
    part_ends rs j w x =
        let y = token_derived token x.2.2 in
        let e = as_same toks k p.symbol t v x.0.0 y.1 at in
        subst (λ (o : Option (Value p.symbol)). Ends toks room (behind_part n p ps f m o rs) i (k + 1) j w) (sym' e)
        (inl (x.0.1, has_max room n p.above x.1 x.2.1, subst (λ (l : ℕ). RowOf toks room ps l j x.0.1) y.0 x.2.3, x.3, x.4))

    part_starts : (rs : List (Rest (Value s))) (l : ℕ) → StartsBy toks room (record { need = n; parts = p ∷ ps; fits = f; make = m }) k l → (l ≤ k + 1) ⊎ Starts toks room (behind_part n p ps f m (as_token p.symbol t v) rs) (k + 1) l
    part_starts rs l x = elim x.1 [
      | inl q ↦ inl (token_prefix token q.1)
      | inr y ↦
          let z = token_derived token y.3 in
          let e = as_same toks k p.symbol t v y.1 z.1 at in
          inr (subst (λ (o : Option (Value p.symbol)). Starts toks room (behind_part n p ps f m o rs) (k + 1) l) (sym' e)
          (inl (has_max room n p.above x.0 y.2, subst (λ (b : ℕ). BeginsOf toks room ps b l) z.0 y.4)))
    ]

  module _ (n : ℕ) (p : Part) (ps : List Part) (f : ValuesOf (p ∷ ps) → Bool) (m : Extent → ValuesOf (p ∷ ps) → Value s) where
    more_ends : (o : Option (Value p.symbol)) (rs : List (Rest (Value s))) (j : ℕ) (w : Value s) → Ends toks room rs i (k + 1) j w → Ends toks room (behind_part n p ps f m o rs) i (k + 1) j w
    more_ends None rs j w x = x
    more_ends (Some u) rs j w x = inr x

    more_starts : (o : Option (Value p.symbol)) (rs : List (Rest (Value s))) (l : ℕ) → Starts toks room rs (k + 1) l → Starts toks room (behind_part n p ps f m o rs) (k + 1) l
    more_starts None rs l x = x
    more_starts (Some u) rs l x = inr x

    ends_part : (o : Option (Value p.symbol)) → as_token p.symbol t v ≡ o → (rs : List (Rest (Value s))) (j : ℕ) (w : Value s) → Ends toks room (behind_part n p ps f m o rs) i (k + 1) j w → EndsBy toks room (record { need = n; parts = p ∷ ps; fits = f; make = m }) i k j w ⊎ Ends toks room rs i (k + 1) j w
    ends_part None e rs j w x = inr x
    ends_part (Some u) e rs j w (inl x) = let h = max_has room n p.above x.1 in inl ((u, x.0), h.0, (k + 1, h.1, token_derives p.symbol (as_back toks k p.symbol t v u e at), x.2), x.3, x.4)
    ends_part (Some u) e rs j w (inr x) = inr x

    starts_part : (o : Option (Value p.symbol)) → as_token p.symbol t v ≡ o → (rs : List (Rest (Value s))) (l : ℕ) → Starts toks room (behind_part n p ps f m o rs) (k + 1) l → StartsBy toks room (record { need = n; parts = p ∷ ps; fits = f; make = m }) k l ⊎ Starts toks room rs (k + 1) l
    starts_part None e rs l x = inr x
    starts_part (Some u) e rs l (inl x) = let h = max_has room n p.above x.0 in inl (h.0, inr (k + 1, u, h.1, token_derives p.symbol (as_back toks k p.symbol t v u e at), x.1))
    starts_part (Some u) e rs l (inr x) = inr x

  rest_ends : (n : ℕ) (ps : List Part) (f : ValuesOf ps → Bool) (m : Extent → ValuesOf ps → Value s) → is_ready (fronts s) t ps ≡ true → (rs : List (Rest (Value s))) (j : ℕ) (w : Value s) → EndsBy toks room (record { need = n; parts = ps; fits = f; make = m }) i k j w → IsFront toks s j w ⊎ Ends toks room (behind_parts t v n ps f m rs) i (k + 1) j w
  rest_ends n [] f m e rs j w x = inl (subst (λ (l : ℕ). IsFront toks s l w) (sym' x.2) (goes_on s t w (token_stands toks k t v at) e))
  rest_ends n (p ∷ ps) f m e rs j w x = inr (part_ends n p ps f m e rs j w x)

  rest_starts : (n : ℕ) (ps : List Part) (f : ValuesOf ps → Bool) (m : Extent → ValuesOf ps → Value s) → is_ready (fronts s) t ps ≡ true → (rs : List (Rest (Value s))) (l : ℕ) → StartsBy toks room (record { need = n; parts = ps; fits = f; make = m }) k l → (l ≤ k + 1) ⊎ Starts toks room (behind_parts t v n ps f m rs) (k + 1) l
  rest_starts n [] f m e rs l x = absurd x.1
  rest_starts n (p ∷ ps) f m e rs l x = part_starts n p ps f m e rs l x

  others_ends : (n : ℕ) (ps : List Part) (f : ValuesOf ps → Bool) (m : Extent → ValuesOf ps → Value s) (rs : List (Rest (Value s))) (j : ℕ) (w : Value s) → Ends toks room rs i (k + 1) j w → Ends toks room (behind_parts t v n ps f m rs) i (k + 1) j w
  others_ends n [] f m rs j w x = x
  others_ends n (p ∷ ps) f m rs j w x = more_ends n p ps f m (as_token p.symbol t v) rs j w x

  others_starts : (n : ℕ) (ps : List Part) (f : ValuesOf ps → Bool) (m : Extent → ValuesOf ps → Value s) (rs : List (Rest (Value s))) (l : ℕ) → Starts toks room rs (k + 1) l → Starts toks room (behind_parts t v n ps f m rs) (k + 1) l
  others_starts n [] f m rs l x = x
  others_starts n (p ∷ ps) f m rs l x = more_starts n p ps f m (as_token p.symbol t v) rs l x

  ends_rest : (n : ℕ) (ps : List Part) (f : ValuesOf ps → Bool) (m : Extent → ValuesOf ps → Value s) (rs : List (Rest (Value s))) (j : ℕ) (w : Value s) → Ends toks room (behind_parts t v n ps f m rs) i (k + 1) j w → EndsBy toks room (record { need = n; parts = ps; fits = f; make = m }) i k j w ⊎ Ends toks room rs i (k + 1) j w
  ends_rest n [] f m rs j w x = inr x
  ends_rest n (p ∷ ps) f m rs j w x = ends_part n p ps f m (as_token p.symbol t v) refl rs j w x

  starts_rest : (n : ℕ) (ps : List Part) (f : ValuesOf ps → Bool) (m : Extent → ValuesOf ps → Value s) (rs : List (Rest (Value s))) (l : ℕ) → Starts toks room (behind_parts t v n ps f m rs) (k + 1) l → StartsBy toks room (record { need = n; parts = ps; fits = f; make = m }) k l ⊎ Starts toks room rs (k + 1) l
  starts_rest n [] f m rs l x = inr x
  starts_rest n (p ∷ ps) f m rs l x = starts_part n p ps f m (as_token p.symbol t v) refl rs l x

  behind_ends : (rs : List (Rest (Value s))) → all_ready (fronts s) t rs ≡ true → (j : ℕ) (w : Value s) → Ends toks room rs i k j w → IsFront toks s j w ⊎ Ends toks room (behind t v rs) i (k + 1) j w
  behind_ends [] e j w x = absurd x
  behind_ends (r ∷ rs) e j w (inl x) = rest_ends r.need r.parts r.fits r.make (and_parts (is_ready (fronts s) t r.parts) (all_ready (fronts s) t rs) e).0 (behind t v rs) j w x
  behind_ends (r ∷ rs) e j w (inr x) = elim (behind_ends rs (and_parts (is_ready (fronts s) t r.parts) (all_ready (fronts s) t rs) e).1 j w x) [ inl g ↦ inl g | inr y ↦ inr (others_ends r.need r.parts r.fits r.make (behind t v rs) j w y) ]

  behind_starts : (rs : List (Rest (Value s))) → all_ready (fronts s) t rs ≡ true → (l : ℕ) → Starts toks room rs k l → (l ≤ k + 1) ⊎ Starts toks room (behind t v rs) (k + 1) l
  behind_starts [] e l x = absurd x
  behind_starts (r ∷ rs) e l (inl x) = rest_starts r.need r.parts r.fits r.make (and_parts (is_ready (fronts s) t r.parts) (all_ready (fronts s) t rs) e).0 (behind t v rs) l x
  behind_starts (r ∷ rs) e l (inr x) = elim (behind_starts rs (and_parts (is_ready (fronts s) t r.parts) (all_ready (fronts s) t rs) e).1 l x) [ inl h ↦ inl h | inr y ↦ inr (others_starts r.need r.parts r.fits r.make (behind t v rs) l y) ]

  ends_behind : (rs : List (Rest (Value s))) (j : ℕ) (w : Value s) → Ends toks room (behind t v rs) i (k + 1) j w → Ends toks room rs i k j w
  ends_behind [] j w x = absurd x
  ends_behind (r ∷ rs) j w x = elim (ends_rest r.need r.parts r.fits r.make (behind t v rs) j w x) [ inl y ↦ inl y | inr y ↦ inr (ends_behind rs j w y) ]

  starts_behind : (rs : List (Rest (Value s))) (l : ℕ) → Starts toks room (behind t v rs) (k + 1) l → Starts toks room rs k l
  starts_behind [] l x = absurd x
  starts_behind (r ∷ rs) l x = elim (starts_rest r.need r.parts r.fits r.make (behind t v rs) l x) [ inl y ↦ inl y | inr y ↦ inr (starts_behind rs l y) ]

  pub at_behind : (rs : List (Rest (Value s))) → all_ready (fronts s) t rs ≡ true → Narrows toks room s i k rs (k + 1) (k + 1) (behind t v rs)
  at_behind rs e = record { ends = behind_ends rs e; starts = behind_starts rs e; ends_back = ends_behind rs; starts_back = starts_behind rs }
