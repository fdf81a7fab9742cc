-- Rows of symbols that tell by computing that of two readings from one place one goes on, or that there are no two.
use Rattle.std.proofs.Common.{◌≡◌, ℕ, zero, suc, ◌⊎◌, inl, inr, Bool, true, false, not, ◌&&◌, ◌||◌, nat_eq, List, [], ◌∷◌, ◌++◌, refl, sym as sym', ap, subst}
use Rattle.std.proofs.lemmas.Bool.{and_parts, or_cases, not-true, eqb-true}
use Rattle.xc_tree.specs.declared.token.Tok.{Tok}
use Rattle.xc_tree.specs.Symbol.{Symbol, sym, key, a_name, a_number, level, head, word, param, dv, argument, lval, time, expr, Value, Values}
use Rattle.xc_tree.specs.Grammar.{Rule, rules}
use Rattle.xc_nonterminals.specs.Follows.{OneOf, follows}
use Rattle.xc_nonterminals.specs.Reading.{IsFront}
use Rattle.xc_nonterminals.proofs.Rests.Opening.{fronts, within, is_disjoint, is_token}
use Rattle.xc_nonterminals.proofs.Derivations.TokenSets.{false_true, one_disjoint, one_within, front}
use Rattle.xc_nonterminals.proofs.Derivations.Covers.{row_firsts, row_nullable, implies}
use Rattle.xc_nonterminals.proofs.Derivations.Statures.{RowBy, By, Tree, row_begin, opened_same}
use Rattle.xc_nonterminals.proofs.Meeting.Meetings.{AllMeet, is_listed, Differ, DifferFrom, AllDiffer}

-- whether two symbols are the same, of those that several alternatives begin with
abbrev pub is_equal : Symbol → Symbol → Bool
is_equal (sym a) (sym b) = nat_eq a b
is_equal (key a) (key b) = nat_eq a b
is_equal (level a) (level b) = nat_eq a b
is_equal a_name a_name = true
is_equal a_number a_number = true
is_equal head head = true
is_equal word word = true
is_equal param param = true
is_equal dv dv = true
is_equal argument argument = true
is_equal lval lval = true
is_equal time time = true
is_equal expr expr = true
is_equal _ _ = false

equal_same : (s t : Symbol) → is_equal s t ≡ true → s ≡ t
equal_same (sym a) (sym b) e = ap sym (eqb-true a b e)
equal_same (key a) (key b) e = ap key (eqb-true a b e)
equal_same (level a) (level b) e = ap level (eqb-true a b e)
equal_same a_name a_name e = refl
equal_same a_number a_number e = refl
equal_same head head e = refl
equal_same word word e = refl
equal_same param param e = refl
equal_same dv dv e = refl
equal_same argument argument e = refl
equal_same lval lval e = refl
equal_same time time e = refl
equal_same expr expr e = refl
equal_same _ _ e = absurd (false_true e)

-- no token begins both rows, and where one of them reads nothing the other begins with what the symbol goes on with
abbrev pub by_firsts : List Symbol → List Symbol → List Symbol → Bool
by_firsts fs ss ts =
    (is_disjoint (row_firsts ss) (row_firsts ts) && not (row_nullable ss && row_nullable ts)) &&
    (implies (row_nullable ss) (within (row_firsts ts) fs) && implies (row_nullable ts) (within (row_firsts ss) fs))

-- what a symbol goes on with begins nothing behind it, and at the end of the row the whole goes on with it
abbrev pub is_loose : List Symbol → Symbol → List Symbol → Bool
is_loose fs t ss = is_disjoint (follows t) (row_firsts ss) && implies (row_nullable ss) (within (follows t) fs)

-- both begin with one symbol, and the rest of them is told apart
abbrev pub same_begin : (List Symbol → List Symbol → Bool) → List Symbol → List Symbol → List Symbol → Bool
same_begin f fs (s ∷ ss) (t ∷ ts) = (is_equal s t && is_listed s) && ((is_loose fs s ss && is_loose fs s ts) && f ss ts)
same_begin f fs _ _ = false

-- the first symbol is taken for each of its alternatives
abbrev pub each_opened : {V : Type 0} → (List Symbol → Bool) → List (Rule V) → List Symbol → Bool
each_opened f [] ss = true
each_opened f (r ∷ rs) ss = f (r.parts ++ ss) && each_opened f rs ss

abbrev pub first_opened : (List Symbol → Bool) → List Symbol → Bool
first_opened f [] = false
first_opened f (s ∷ ss) = not (is_token s) && each_opened f (rules s) ss

-- in so many steps
abbrev pub differ : ℕ → List Symbol → List Symbol → List Symbol → Bool
differ zero fs ss ts = by_firsts fs ss ts
differ (suc n) fs ss ts =
    by_firsts fs ss ts || (same_begin (differ n fs) fs ss ts || (first_opened (λ x. differ n fs x ts) ss || first_opened (λ x. differ n fs ss x) ts))

implied : (a b : Bool) → implies a b ≡ true → a ≡ true → b ≡ true
implied true b i e = i
implied false b i e = absurd (cc)

module _ (toks : List Tok) (n : ℕ) where
  -- both are read, one of them up to j and the other up to k
  abbrev Goes : List Symbol → ℕ → ℕ → Type 0
  Goes fs j k = OneOf toks j fs ⊎ OneOf toks k fs

  abbrev Apart : List Symbol → List Symbol → List Symbol → Type 0
  Apart fs ss ts = (i j k : ℕ) (vs : Values ss) (ws : Values ts) → RowBy (Tree toks n) ss i j vs → RowBy (Tree toks n) ts i k ws → Goes fs j k

  firsts_apart : (fs ss ts : List Symbol) → by_firsts fs ss ts ≡ true → Apart fs ss ts
  firsts_apart fs ss ts e i j k vs ws x y =
      let p = and_parts (is_disjoint (row_firsts ss) (row_firsts ts) && not (row_nullable ss && row_nullable ts)) (implies (row_nullable ss) (within (row_firsts ts) fs) && implies (row_nullable ts) (within (row_firsts ss) fs)) e in
      let q = and_parts (is_disjoint (row_firsts ss) (row_firsts ts)) (not (row_nullable ss && row_nullable ts)) p.0 in
      let r = and_parts (implies (row_nullable ss) (within (row_firsts ts) fs)) (implies (row_nullable ts) (within (row_firsts ss) fs)) p.1 in
      elim (row_begin toks n ss i j vs x) [
        | inl a ↦ elim (row_begin toks n ts i k ws y) [
          | inl b ↦ let h = not-true (row_nullable ss && row_nullable ts) q.1 in let f = a.1 in let g = b.1 in absurd (cc)
          | inr o ↦ inl (subst (λ (z : ℕ). OneOf toks z fs) (sym' a.0) (one_within fs (implied (row_nullable ss) (within (row_firsts ts) fs) r.0 a.1) o))
        ]
        | inr o ↦ elim (row_begin toks n ts i k ws y) [
          | inl b ↦ inr (subst (λ (z : ℕ). OneOf toks z fs) (sym' b.0) (one_within fs (implied (row_nullable ts) (within (row_firsts ss) fs) r.1 b.1) o))
          | inr u ↦ absurd (one_disjoint (row_firsts ts) q.0 o u)
        ]
      ]

  -- a symbol that goes on at its end
  loose : (fs : List Symbol) (t : Symbol) (ss : List Symbol) → is_loose fs t ss ≡ true → (m j : ℕ) (v : Value t) (vs : Values ss) → RowBy (Tree toks n) ss m j vs → IsFront toks t m v → OneOf toks j fs
  loose fs t ss e m j v vs r f =
      let p = and_parts (is_disjoint (follows t) (row_firsts ss)) (implies (row_nullable ss) (within (follows t) fs)) e in
      elim (row_begin toks n ss m j vs r) [
        | inl a ↦ subst (λ (z : ℕ). OneOf toks z fs) (sym' a.0) (one_within fs (implied (row_nullable ss) (within (follows t) fs) p.1 a.1) f.goes_on)
        | inr o ↦ absurd (one_disjoint (row_firsts ss) p.0 f.goes_on o)
      ]

  -- a row behind what a symbol is made of
  joined : (ps ss : List Symbol) (i m j : ℕ) (us : Values ps) (vs : Values ss) → RowBy (Tree toks n) ps i m us → RowBy (Tree toks n) ss m j vs → (xs : Values (ps ++ ss)) × RowBy (Tree toks n) (ps ++ ss) i j xs
  joined [] ss i m j us vs x y = (vs, subst (λ (q : ℕ). RowBy (Tree toks n) ss q j vs) x y)
  joined (p ∷ ps) ss i m j us vs (l, a, x) y = let z = joined ps ss l m j us.1 vs x y in ((us.0, z.0), (l, a, z.1))

  -- a row whose first symbol is read by one of these alternatives
  left_opened : {V : Type 0} (fs ss ts : List Symbol) (f : List Symbol → Bool) → ((xs : List Symbol) → f xs ≡ true → Apart fs xs ts) → (rs : List (Rule V)) → each_opened f rs ss ≡ true → (i m j k : ℕ) (v : V) (vs : Values ss) (ws : Values ts) → By toks (Tree toks n) rs i m v → RowBy (Tree toks n) ss m j vs → RowBy (Tree toks n) ts i k ws → Goes fs j k
  left_opened fs ss ts f a [] e i m j k v vs ws x y z = absurd x
  left_opened fs ss ts f a (r ∷ rs) e i m j k v vs ws (inl x) y z =
      let p = and_parts (f (r.parts ++ ss)) (each_opened f rs ss) e in
      let q = joined r.parts ss i m j x.0 vs x.1 y in
      a (r.parts ++ ss) p.0 i j k q.0 ws q.1 z
  left_opened fs ss ts f a (r ∷ rs) e i m j k v vs ws (inr x) y z = left_opened fs ss ts f a rs (and_parts (f (r.parts ++ ss)) (each_opened f rs ss) e).1 i m j k v vs ws x y z

  open_left : (fs ss ts : List Symbol) (f : List Symbol → Bool) → ((xs : List Symbol) → f xs ≡ true → Apart fs xs ts) → first_opened f ss ≡ true → Apart fs ss ts
  open_left fs [] ts f a e i j k vs ws x y = absurd (cc)
  open_left fs (s ∷ ss) ts f a e i j k vs ws (m, d, x) y =
      let p = and_parts (not (is_token s)) (each_opened f (rules s) ss) e in
      left_opened fs ss ts f a (rules s) p.1 i m j k vs.0 vs.1 ws (opened_same toks n s (not-true (is_token s) p.0) i m vs.0 d) x y

  swapped : (fs ss ts : List Symbol) → Apart fs ss ts → Apart fs ts ss
  swapped fs ss ts a i j k vs ws x y = elim (a i k j ws vs y x) [ inl o ↦ inr o | inr o ↦ inl o ]

  module _ (meet : AllMeet toks n) where
    begin_apart : (fs : List Symbol) (s t : Symbol) (ss ts : List Symbol) → s ≡ t → is_listed s ≡ true → is_loose fs s ss ≡ true → is_loose fs s ts ≡ true → Apart fs ss ts → Apart fs (s ∷ ss) (t ∷ ts)
    begin_apart fs s t ss ts e known c d a = subst (λ (u : Symbol). Apart fs (s ∷ ss) (u ∷ ts)) e both
      where
        both : Apart fs (s ∷ ss) (s ∷ ts)
        both i j k vs ws (m, x, p) (l, y, q) = elim (meet s known i m l vs.0 ws.0 x y) [
          | inl g ↦ a m j k vs.1 ws.1 p (subst (λ (z : ℕ). RowBy (Tree toks n) ts z k ws.1) g.0 q)
          | inr (inl f) ↦ inl (loose fs s ss c m j vs.0 vs.1 p f)
          | inr (inr f) ↦ inr (loose fs s ts d l k ws.0 ws.1 q f)
        ]

    begins_apart : (fs ss ts : List Symbol) (f : List Symbol → List Symbol → Bool) → ((xs ys : List Symbol) → f xs ys ≡ true → Apart fs xs ys) → same_begin f fs ss ts ≡ true → Apart fs ss ts
    begins_apart fs [] ts f a e = absurd (cc)
    begins_apart fs (s ∷ ss) [] f a e = absurd (cc)
    begins_apart fs (s ∷ ss) (t ∷ ts) f a e =
        let p = and_parts (is_equal s t && is_listed s) ((is_loose fs s ss && is_loose fs s ts) && f ss ts) e in
        let q = and_parts (is_equal s t) (is_listed s) p.0 in
        let r = and_parts (is_loose fs s ss && is_loose fs s ts) (f ss ts) p.1 in
        let l = and_parts (is_loose fs s ss) (is_loose fs s ts) r.0 in
        begin_apart fs s t ss ts (equal_same s t q.0) q.1 l.0 l.1 (a ss ts r.1)

    pub rows_apart : (steps : ℕ) (fs ss ts : List Symbol) → differ steps fs ss ts ≡ true → Apart fs ss ts
    rows_apart zero fs ss ts e = firsts_apart fs ss ts e
    rows_apart (suc m) fs ss ts e = elim (or_cases (by_firsts fs ss ts) (same_begin (differ m fs) fs ss ts || (first_opened (λ x. differ m fs x ts) ss || first_opened (λ x. differ m fs ss x) ts)) e) [
      | inl a ↦ firsts_apart fs ss ts a
      | inr g ↦ elim (or_cases (same_begin (differ m fs) fs ss ts) (first_opened (λ x. differ m fs x ts) ss || first_opened (λ x. differ m fs ss x) ts) g) [
        | inl a ↦ begins_apart fs ss ts (differ m fs) (λ xs ys h. rows_apart m fs xs ys h) a
        | inr h ↦ elim (or_cases (first_opened (λ x. differ m fs x ts) ss) (first_opened (λ x. differ m fs ss x) ts) h) [
          | inl a ↦ open_left fs ss ts (λ x. differ m fs x ts) (λ xs b. rows_apart m fs xs ts b) a
          | inr a ↦ swapped fs ts ss (open_left fs ts ss (λ x. differ m fs ss x) (λ xs b. swapped fs ss xs (rows_apart m fs ss xs b)) a)
        ]
      ]
    ]

-- how often a first symbol is opened or passed
abbrev pub steps : ℕ
steps = 9

-- a check of pairs of alternatives
abbrev pub differ_from : {V : Type 0} → List Symbol → List Symbol → List (Rule V) → Bool
differ_from fs ss [] = true
differ_from fs ss (r ∷ rs) = differ steps fs ss r.parts && differ_from fs ss rs

abbrev pub all_differ : {V : Type 0} → List Symbol → List (Rule V) → Bool
all_differ fs [] = true
all_differ fs (r ∷ rs) = differ_from fs r.parts rs && all_differ fs rs

module _ (toks : List Tok) (n : ℕ) (meet : AllMeet toks n) (s : Symbol) where
  pub two_differ : (q r : Rule (Value s)) → differ steps (fronts s) q.parts r.parts ≡ true → Differ toks n s q r
  two_differ q r e i j k v w x y = elim (rows_apart toks n meet steps (fronts s) q.parts r.parts e i j k x.0 y.0 x.1 y.1) [
    | inl o ↦ inl (front s v o)
    | inr o ↦ inr (front s w o)
  ]

  pub told_from : (q : Rule (Value s)) (rs : List (Rule (Value s))) → differ_from (fronts s) q.parts rs ≡ true → DifferFrom toks n s q rs
  told_from q [] e = tt
  told_from q (r ∷ rs) e =
      let p = and_parts (differ steps (fronts s) q.parts r.parts) (differ_from (fronts s) q.parts rs) e in
      (two_differ q r p.0, told_from q rs p.1)

  pub told_all : (rs : List (Rule (Value s))) → all_differ (fronts s) rs ≡ true → AllDiffer toks n s rs
  told_all [] e = tt
  told_all (r ∷ rs) e =
      let p = and_parts (differ_from (fronts s) r.parts rs) (all_differ (fronts s) rs) e in
      (told_from r rs p.0, told_all rs p.1)
