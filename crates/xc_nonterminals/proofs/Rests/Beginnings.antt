-- At its beginning all alternatives of a symbol are open.
use Rattle.std.proofs.Common.{◌≡◌, ℕ, inl, inr, false, List, [], ◌∷◌, refl, sym as sym', ap, subst, ◌∙◌}
use Rattle.xc_tree.specs.declared.token.Tok.{Tok}
use Rattle.xc_tree.specs.Symbol.{Symbol}
use Rattle.xc_tree.specs.Grammar.{Rule, rules}
use Rattle.xc_tree.specs.Derives.{Room, Row, nothing, Begins, extent}
use Rattle.xc_nonterminals.proofs.Rests.Rests.{Ends, Starts, Open, inside}
use Rattle.xc_nonterminals.proofs.Rests.Opening.{is_token, front, begin_all, beginnings}
use Rattle.xc_nonterminals.proofs.Derivations.Forth.{inside_same}
use Rattle.xc_nonterminals.proofs.Rests.Alternatives.{ByRules, BeginsRules, by_rules, from_rules, by_starts, from_starts, Joined, row_put, put_row, begins_put, put_begins}

module _ (toks : List Tok) (room : Room) {V : Type 0} where
  begun_ends : (rs : List (Rule V)) (i j : ℕ) (v : V) → ByRules toks room rs i j v → Ends toks room (begin_all rs) i i j v
  begun_ends [] i j v x = absurd x
  begun_ends (r ∷ rs) i j v (inl x) =
      let row : Row toks (inside room r.nodes) r.parts i j x.0 = subst (λ (y : Room). Row toks y r.parts i j x.0) (inside_same room r.nodes) x.2 in
      let y : Joined toks room r.nodes r.parts [] i j x.0 tt = put_row toks room r.nodes x.1 [] r.parts i j j x.0 tt row refl in
      inl (y.0, x.1, y.1, ap r.fits y.2 ∙ x.3, x.4 ∙ ap (r.make (extent toks i j)) (sym' y.2))
  begun_ends (r ∷ rs) i j v (inr x) = inr (begun_ends rs i j v x)

  ends_begun : (rs : List (Rule V)) (i j : ℕ) (v : V) → Ends toks room (begin_all rs) i i j v → ByRules toks room rs i j v
  ends_begun [] i j v x = absurd x
  ends_begun (r ∷ rs) i j v (inl x) =
      let us = front r.nodes r.parts [] x.0 in
      let y = row_put toks room r.nodes x.1 [] r.parts i j x.0 x.2 in
      let row : Row toks (inside room r.nodes) r.parts i j us = subst (λ (n : ℕ). Row toks (inside room r.nodes) r.parts i n us) (sym' y.2) y.1 in
      inl (us, x.1, subst (λ (z : Room). Row toks z r.parts i j us) (sym' (inside_same room r.nodes)) row, x.3, x.4)
  ends_begun (r ∷ rs) i j v (inr x) = inr (ends_begun rs i j v x)

  begun_starts : (rs : List (Rule V)) (i n : ℕ) → BeginsRules toks room rs i n → Starts toks room (begin_all rs) i n
  begun_starts [] i n x = absurd x
  begun_starts (r ∷ rs) i n (inl x) = inl (x.0, put_begins toks room r.nodes x.0 [] r.parts i n (subst (λ (y : Room). Begins toks y r.parts i n) (inside_same room r.nodes) x.1))
  begun_starts (r ∷ rs) i n (inr x) = inr (begun_starts rs i n x)

  starts_begun : (rs : List (Rule V)) (i n : ℕ) → Starts toks room (begin_all rs) i n → BeginsRules toks room rs i n
  starts_begun [] i n x = absurd x
  starts_begun (r ∷ rs) i n (inl x) = elim (begins_put toks room r.nodes x.0 [] r.parts i n x.1) [
    | inl b ↦ inl (x.0, subst (λ (y : Room). Begins toks y r.parts i n) (sym' (inside_same room r.nodes)) b)
    | inr y ↦ absurd y.3
  ]
  starts_begun (r ∷ rs) i n (inr x) = inr (starts_begun rs i n x)

pub all_begun : (toks : List Tok) (room : Room) (s : Symbol) (i : ℕ) → is_token s ≡ false → Open toks room s i i i (beginnings s)
all_begun toks room s i e = record {
  derives = λ j v x. from_rules toks room s i j v (ends_begun toks room (rules s) i j v x);
  only = λ j v d. inr (begun_ends toks room (rules s) i j v (by_rules toks room s i j v e d));
  prefix = λ n x. from_starts toks room s i n (starts_begun toks room (rules s) i n x);
  here = nothing;
  most = λ n q. elim (by_starts toks room s i n e q) [ inl h ↦ inl h | inr x ↦ inr (begun_starts toks room (rules s) i n x) ];
}
