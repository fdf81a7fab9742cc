-- Lists of tokens, and the token that stands at a place.
use Rattle.std.proofs.Common.{◌≡◌, ℕ, ◌⊎◌, inl, inr, true, false, not, List, [], ◌∷◌, ◌++◌, Option, Some, None, refl, sym as sym', ap, subst, ◌∙◌}
use Rattle.std.proofs.lemmas.Bool.{and_parts, or_cases, or_left, or_right, eqb-true, eq-eqb, not-true}
use Rattle.xw_words.specs.declared.pos.Pos.{Pos}
use Rattle.xc_tree.specs.declared.token.Tok.{Tok}
use Rattle.xc_tree.specs.declared.token.Kind.{Kind}
use Rattle.xc_tree.specs.declared.token.Kind.TheVariants.{Key}
use Rattle.xc_tree.specs.Symbol.{Symbol, sym, key, a_name, a_number, statement, block_item, case_item, branch, Value}
use Rattle.xc_tree.specs.Derives.{On}
use Rattle.xc_nonterminals.specs.Follows.{StandsAt, is_same, has, OneOf}
use Rattle.xc_nonterminals.specs.Reading.{IsFront}
use Rattle.xc_nonterminals.proofs.Rests.Opening.{fronts, within, is_disjoint}

-- what computes to another truth value
pub false_true : false ≡ true → ⊥
false_true e = cc

pub is_same_eq : (x t : Symbol) → is_same x t ≡ true → x ≡ t
is_same_eq (sym a) (sym b) e = ap sym (eqb-true a b e)
is_same_eq (key a) (key b) e = ap key (eqb-true a b e)
is_same_eq a_name a_name e = refl
is_same_eq a_number a_number e = refl
is_same_eq _ _ e = absurd (false_true e)

pub has_append : (xs ys : List Symbol) (t : Symbol) → has (xs ++ ys) t ≡ true → (has xs t ≡ true) ⊎ (has ys t ≡ true)
has_append [] ys t e = inr e
has_append (x ∷ xs) ys t e = elim (or_cases (is_same x t) (has (xs ++ ys) t) e) [
  | inl f ↦ inl (or_left (is_same x t) (has xs t) f)
  | inr f ↦ elim (has_append xs ys t f) [ inl g ↦ inl (or_right (is_same x t) (has xs t) g) | inr g ↦ inr g ]
]

pub has_left : (xs ys : List Symbol) (t : Symbol) → has xs t ≡ true → has (xs ++ ys) t ≡ true
has_left [] ys t e = absurd (cc)
has_left (x ∷ xs) ys t e = elim (or_cases (is_same x t) (has xs t) e) [ inl f ↦ or_left (is_same x t) (has (xs ++ ys) t) f | inr f ↦ or_right (is_same x t) (has (xs ++ ys) t) (has_left xs ys t f) ]

pub has_right : (xs ys : List Symbol) (t : Symbol) → has ys t ≡ true → has (xs ++ ys) t ≡ true
has_right [] ys t e = e
has_right (x ∷ xs) ys t e = or_right (is_same x t) (has (xs ++ ys) t) (has_right xs ys t e)

pub within_has : (xs ys : List Symbol) (t : Symbol) → within xs ys ≡ true → has xs t ≡ true → has ys t ≡ true
within_has [] ys t w e = absurd (cc)
within_has (x ∷ xs) ys t w e =
    let p = and_parts (has ys x) (within xs ys) w in
    elim (or_cases (is_same x t) (has xs t) e) [ inl f ↦ subst (λ y. has ys y ≡ true) (is_same_eq x t f) p.0 | inr f ↦ within_has xs ys t p.1 f ]

abbrev kind_or : Option Tok → Kind
kind_or None = Key 0
kind_or (Some t) = t.kind

pub same_kind : {toks : List Tok} {i : ℕ} {k k' : Kind} {p p' : Pos} → On toks i k p → On toks i k' p' → k ≡ k'
same_kind a b = ap kind_or (sym' a.there ∙ b.there)

-- one token stands at a place
pub one_class : (toks : List Tok) (i : ℕ) (t u : Symbol) → StandsAt toks i t → StandsAt toks i u → is_same t u ≡ true
one_class toks i (sym a) (sym b) x y = let e = same_kind x.1 y.1 in eq-eqb a b (cc)
one_class toks i (key a) (key b) x y = let e = same_kind x.1 y.1 in eq-eqb a b (cc)
one_class toks i a_name a_name x y = refl
one_class toks i a_number a_number x y = refl
one_class toks i (sym a) (key b) x y = let e = same_kind x.1 y.1 in absurd (cc)
one_class toks i (sym a) a_name x y = let e = same_kind x.1 y.2 in absurd (cc)
one_class toks i (sym a) a_number x y = let e = same_kind x.1 y.3 in absurd (cc)
one_class toks i (key a) (sym b) x y = let e = same_kind x.1 y.1 in absurd (cc)
one_class toks i (key a) a_name x y = let e = same_kind x.1 y.2 in absurd (cc)
one_class toks i (key a) a_number x y = let e = same_kind x.1 y.3 in absurd (cc)
one_class toks i a_name (sym b) x y = let e = same_kind x.2 y.1 in absurd (cc)
one_class toks i a_name (key b) x y = let e = same_kind x.2 y.1 in absurd (cc)
one_class toks i a_name a_number x y = let e = same_kind x.2 y.3 in absurd (cc)
one_class toks i a_number (sym b) x y = let e = same_kind x.3 y.1 in absurd (cc)
one_class toks i a_number (key b) x y = let e = same_kind x.3 y.1 in absurd (cc)
one_class toks i a_number a_name x y = let e = same_kind x.3 y.2 in absurd (cc)
one_class toks i (sym a) _ x y = absurd y
one_class toks i (key a) _ x y = absurd y
one_class toks i a_name _ x y = absurd y
one_class toks i a_number _ x y = absurd y
one_class toks i _ _ x y = absurd x

-- no token is in both of two lists that are disjoint
pub disjoint_has : (xs ys : List Symbol) (t : Symbol) → is_disjoint xs ys ≡ true → has xs t ≡ true → has ys t ≡ true → ⊥
disjoint_has [] ys t d e f = absurd (cc)
disjoint_has (x ∷ xs) ys t d e f =
    let p = and_parts (not (has ys x)) (is_disjoint xs ys) d in
    elim (or_cases (is_same x t) (has xs t) e) [
      | inl g ↦ let h = not-true (has ys x) p.0 in let k : has ys x ≡ true = ap (has ys) (is_same_eq x t g) ∙ f in absurd (cc)
      | inr g ↦ disjoint_has xs ys t p.1 g f
    ]

pub one_within : {toks : List Tok} {i : ℕ} {xs : List Symbol} (ys : List Symbol) → within xs ys ≡ true → OneOf toks i xs → OneOf toks i ys
one_within {xs} ys w o = record { token = o.token; stands = o.stands; among = within_has xs ys o.token w o.among }

-- the token at a place is among those of which one stands there
pub one_is : {toks : List Tok} {i : ℕ} {xs : List Symbol} (t : Symbol) → StandsAt toks i t → OneOf toks i xs → has xs t ≡ true
one_is {toks} {i} {xs} t at o = let e = is_same_eq o.token t (one_class toks i o.token t o.stands at) in subst (λ u. has xs u ≡ true) e o.among

pub one_disjoint : {toks : List Tok} {i : ℕ} {xs : List Symbol} (ys : List Symbol) → is_disjoint xs ys ≡ true → OneOf toks i xs → OneOf toks i ys → ⊥
one_disjoint {xs} ys d o q = disjoint_has xs ys o.token d o.among (one_is o.token o.stands q)

-- the only one of one token
pub one_token_of : {toks : List Tok} {i : ℕ} (t : Symbol) → OneOf toks i (t ∷ []) → StandsAt toks i t
one_token_of {toks} {i} t o = elim (or_cases (is_same t o.token) false o.among) [
  | inl e ↦ subst (StandsAt toks i) (sym' (is_same_eq t o.token e)) o.stands
  | inr e ↦ absurd (cc)
]

no_token : {toks : List Tok} {i : ℕ} → OneOf toks i [] → ⊥
no_token o = let e = o.among in absurd (cc)

-- what a symbol goes on with, whatever its value is
pub front : {toks : List Tok} (s : Symbol) {i : ℕ} (v : Value s) → OneOf toks i (fronts s) → IsFront toks s i v
front statement v o = absurd (no_token o)
front block_item v o = absurd (no_token o)
front case_item v o = absurd (no_token o)
front branch v o = absurd (no_token o)
front s v o = record { goes_on = o; may = refl }
