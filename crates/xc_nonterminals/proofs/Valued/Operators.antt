-- The operators of a level are the symbols that have this level.
use Rattle.std.proofs.Common.{◌≡◌, ℕ, zero, suc, ◌+◌, ◌<◌, ◌≤◌, ◌⊎◌, inl, inr, Bool, true, false, ◌&&◌, ◌||◌, List, [], ◌∷◌, ◌++◌, map, nat_eq, get_or, slice_get, refl, sym as sym', ap, subst, ◌∙◌, arith}
use Rattle.std.proofs.lemmas.Bool.{and_parts, or_cases, or_left, or_right, eqb-true, eq-eqb}
use Rattle.std.proofs.Math.Nat.{eq-or-lt_of_le}
use Rattle.xw_words.specs.declared.pos.Pos.{Pos}
use Rattle.xc_tree.specs.declared.token.Tok.{Tok}
use Rattle.xc_tree.specs.declared.token.Kind.TheVariants.{Sym}
use Rattle.xc_tree.specs.Symbol.{Symbol, sym, level, operator, Marked}
use Rattle.xc_tree.specs.Grammar.{operators, one_of, by_level, or_none}
use Rattle.xc_tree.specs.Derives.{On, Room, unlimited, at_most, HasRoom, Derives, a_sym, by_rule, Prefix, nothing, whole, begins}
use Rattle.xc_nonterminals.specs.Follows.{StandsAt, has, is_same, operators_to}
use Rattle.xc_nonterminals.specs.Reading.{GoesOn}
use Rattle.xc_nonterminals.specs.Levels.{levels, level_of, IsOperator}
use Rattle.xc_nonterminals.proofs.Derivations.TokenSets.{false_true}
use Rattle.xc_nonterminals.proofs.Derivations.Inverse.{Ends, Starts, by_rules, from_rules, by_starts}
use Rattle.xc_tree.specs.Terminals as terminal

abbrev Member : ℕ → List ℕ → Type 0
Member s [] = ⊥
Member s (o ∷ os) = (s ≡ o) ⊎ Member s os

abbrev all_of : ℕ → List ℕ → Bool
all_of l [] = true
all_of l (o ∷ os) = nat_eq (level_of o) l && all_of l os

of_all : (l s : ℕ) (os : List ℕ) → all_of l os ≡ true → Member s os → level_of s ≡ l
of_all l s [] e m = absurd m
of_all l s (o ∷ os) e (inl h) = let p = and_parts (nat_eq (level_of o) l) (all_of l os) e in ap level_of h ∙ eqb-true (level_of o) l p.0
of_all l s (o ∷ os) e (inr m) = let p = and_parts (nat_eq (level_of o) l) (all_of l os) e in of_all l s os p.1 m

abbrev rows_fit : List (List ℕ) → ℕ → Bool
rows_fit [] n = true
rows_fit (os ∷ ls) n = all_of n os && rows_fit ls (n + 1)

row_fits : (ls : List (List ℕ)) (n l : ℕ) → rows_fit ls n ≡ true → all_of (n + l) (or_none (slice_get ls l)) ≡ true
row_fits [] n l e = refl
row_fits (os ∷ ls) n zero e =
    let p = and_parts (all_of n os) (rows_fit ls (n + 1)) e in
    let h : n ≡ n + 0 = omega arith in
    subst (λ k. all_of k os ≡ true) h p.0
row_fits (os ∷ ls) n (suc l) e =
    let p = and_parts (all_of n os) (rows_fit ls (n + 1)) e in
    let h : n + 1 + l ≡ n + suc l = omega arith in
    subst (λ k. all_of k (or_none (slice_get ls l)) ≡ true) h (row_fits ls (n + 1) l p.1)

all_levels : (l : ℕ) → all_of l (operators l) ≡ true
all_levels l =
    let h : 0 + l ≡ l = omega arith in
    subst (λ k. all_of k (operators l) ≡ true) h (row_fits by_level 0 l refl)

abbrev member : ℕ → List ℕ → Bool
member s [] = false
member s (o ∷ os) = nat_eq s o || member s os

is_member : (s : ℕ) (os : List ℕ) → member s os ≡ true → Member s os
is_member s [] e = absurd (cc)
is_member s (o ∷ os) e = elim (or_cases (nat_eq s o) (member s os) e) [ inl h ↦ inl (eqb-true s o h) | inr h ↦ inr (is_member s os h) ]

-- from the n-th symbol on each is among the operators of its level
abbrev fit : List ℕ → ℕ → Bool
fit [] n = true
fit (x ∷ xs) n = (nat_eq x 0 || member n (operators x)) && fit xs (n + 1)

of_fit : (xs : List ℕ) (n s l : ℕ) → fit xs n ≡ true → get_or xs s 0 ≡ suc l → Member (n + s) (operators (suc l))
of_fit [] n s l f e = absurd (cc)
of_fit (x ∷ xs) n zero l f e =
    let p = and_parts (nat_eq x 0 || member n (operators x)) (fit xs (n + 1)) f in
    let h : x ≡ suc l = e in
    let m : n + 0 ≡ n = omega arith in
    elim (or_cases (nat_eq x 0) (member n (operators x)) p.0) [
      | inl z ↦ absurd (omega (arith, eqb-true x 0 z))
      | inr y ↦ subst (λ k. Member k (operators (suc l))) (sym' m) (subst (λ k. Member n (operators k)) h (is_member n (operators x) y))
    ]
of_fit (x ∷ xs) n (suc s) l f e =
    let p = and_parts (nat_eq x 0 || member n (operators x)) (fit xs (n + 1)) f in
    let m : n + 1 + s ≡ n + suc s = omega arith in
    subst (λ k. Member k (operators (suc l))) m (of_fit xs (n + 1) s l p.1 e)

among_level : (s l : ℕ) → level_of s ≡ suc l → Member s (operators (suc l))
among_level s l e =
    let h : 0 + s ≡ s = omega arith in
    subst (λ k. Member k (operators (suc l))) h (of_fit levels 0 s l refl e)

below_or : (l m : ℕ) → l < suc m → (l < m) ⊎ (l ≡ m)
below_or l m h = let e : l ≤ m = omega arith in elim (eq-or-lt_of_le e) [ inl y ↦ inr y | inr y ↦ inl y ]

module _ (toks : List Tok) where
  pub token_is : {room : Room} {i j o : ℕ} {p : Pos} → Derives toks room (sym o) i j p → (j ≡ i + 1) × On toks i (Sym o) p
  token_is (a_sym on) = (refl, on)
  token_is (by_rule a h row f) = let e = a.there in absurd (cc)

  pub token_prefix : {room : Room} {i n o : ℕ} → Prefix toks room (sym o) i n → (n ≡ i) ⊎ ((n ≡ i + 1) × (p : Pos) × On toks i (Sym o) p)
  token_prefix nothing = inl refl
  token_prefix (whole {v} d) = let t = token_is d in inr (t.0, v, t.1)
  token_prefix (begins a h q) = let e = a.there in absurd (cc)

  one_is : (room : Room) (os : List ℕ) {i j : ℕ} {o : Marked} → Ends toks room (one_of os) i j o → (j ≡ i + 1) × On toks i (Sym o.mark) o.pos × Member o.mark os
  one_is room [] e = absurd e
  one_is room (x ∷ os) {i} {j} {o} (inl e) =
      let t = token_is e.2.1 in
      let h : o ≡ record { mark = x; pos = e.0.0 } = e.4 in
      (e.2.2 ∙ t.0, subst (λ y. On toks i (Sym y.mark) y.pos) (sym' h) t.1, inl (ap (λ y. y.mark) h))
  one_is room (x ∷ os) (inr e) = let t = one_is room os e in (t.0, t.1, inr t.2)

  pub operator_is : {room : Room} {l i j : ℕ} {o : Marked} → Derives toks room (operator l) i j o → (j ≡ i + 1) × IsOperator toks i l o
  operator_is {room} {l} {i} {j} {o} d = let t = one_is room (operators l) (by_rules toks (operator l) refl d) in (t.0, record { on = t.1; binds = of_all l o.mark (operators l) (all_levels l) t.2 })

  has_none : (room : Room) → HasRoom room 0
  has_none unlimited = tt
  has_none (at_most r) = omega arith

  of_one : (room : Room) (os : List ℕ) {i : ℕ} {o : Marked} → On toks i (Sym o.mark) o.pos → Member o.mark os → Ends toks room (one_of os) i (i + 1) o
  of_one room [] on m = absurd m
  of_one room (x ∷ os) {i} {o} on (inl h) = let e : o ≡ record { mark = x; pos = o.pos } = ap (λ y. record { mark = y; pos = o.pos }) h in inl ((o.pos, tt), has_none room, (i + 1, a_sym (subst (λ y. On toks i (Sym y) o.pos) h on), refl), refl, e)
  of_one room (x ∷ os) on (inr m) = inr (of_one room os on m)

  pub is_operator : {room : Room} {l i : ℕ} {o : Marked} → IsOperator toks i (suc l) o → Derives toks room (operator (suc l)) i (i + 1) o
  is_operator {room} {l} {i} {o} s = from_rules toks (operator (suc l)) (of_one room (operators (suc l)) s.on (among_level o.mark l s.binds))

  starts_one : (room : Room) (os : List ℕ) {i n : ℕ} → Starts toks room (one_of os) i n → (n ≡ i) ⊎ ((n ≡ i + 1) × (o : Marked) × On toks i (Sym o.mark) o.pos × Member o.mark os)
  starts_one room [] e = absurd e
  starts_one room (x ∷ os) (inl (h, inl q)) = elim (token_prefix q) [ inl e ↦ inl e | inr t ↦ inr (t.0, record { mark = x; pos = t.1 }, t.2, inl refl) ]
  starts_one room (x ∷ os) (inl (h, inr q)) = absurd q.3
  starts_one room (x ∷ os) (inr e) = elim (starts_one room os e) [ inl h ↦ inl h | inr t ↦ inr (t.0, t.1, t.2, inr t.3) ]

  pub operator_prefix : {room : Room} {l i n : ℕ} → Prefix toks room (operator l) i n → (n ≡ i) ⊎ ((n ≡ i + 1) × (o : Marked) × IsOperator toks i l o)
  operator_prefix {room} {l} {i} {n} q = elim (by_starts toks (operator l) q) [
    | inl e ↦ inl e
    | inr (inl y) ↦ let t = operator_is y.1 in inr (t.0, y.0, t.1)
    | inr (inr y) ↦ elim (starts_one room (operators l) y) [ inl e ↦ inl e | inr t ↦ inr (t.0, t.1, record { on = t.2; binds = of_all l t.1.mark (operators l) (all_levels l) t.3 }) ]
  ]

  -- a level goes on with an index, and with the operators of the levels up to it
  has_member : (s : ℕ) (os : List ℕ) → Member s os → has (map sym os) (sym s) ≡ true
  has_member s [] m = absurd m
  has_member s (o ∷ os) (inl h) = or_left (is_same (sym o) (sym s)) (has (map sym os) (sym s)) (eq-eqb o s (sym' h))
  has_member s (o ∷ os) (inr m) = or_right (is_same (sym o) (sym s)) (has (map sym os) (sym s)) (has_member s os m)

  pub bracket_goes_on : (m : ℕ) {i : ℕ} {p : Pos} → On toks i (Sym 4) p → GoesOn toks (level m) i
  bracket_goes_on m {i} {p} on = record { token = terminal.bracket; stands = (p, on); among = refl }

  has_append_left : (xs ys : List Symbol) (t : Symbol) → has xs t ≡ true → has (xs ++ ys) t ≡ true
  has_append_left [] ys t e = absurd (cc)
  has_append_left (x ∷ xs) ys t e = elim (or_cases (is_same x t) (has xs t) e) [ inl h ↦ or_left (is_same x t) (has (xs ++ ys) t) h | inr h ↦ or_right (is_same x t) (has (xs ++ ys) t) (has_append_left xs ys t h) ]

  has_append_right : (xs ys : List Symbol) (t : Symbol) → has ys t ≡ true → has (xs ++ ys) t ≡ true
  has_append_right [] ys t e = e
  has_append_right (x ∷ xs) ys t e = or_right (is_same x t) (has (xs ++ ys) t) (has_append_right xs ys t e)

  has_append : (xs ys : List Symbol) (t : Symbol) → has (xs ++ ys) t ≡ true → (has xs t ≡ true) ⊎ (has ys t ≡ true)
  has_append [] ys t e = inr e
  has_append (x ∷ xs) ys t e = elim (or_cases (is_same x t) (has (xs ++ ys) t) e) [
    | inl h ↦ inl (or_left (is_same x t) (has xs t) h)
    | inr h ↦ elim (has_append xs ys t h) [ inl y ↦ inl (or_right (is_same x t) (has xs t) y) | inr y ↦ inr y ]
  ]

  -- the levels up to m
  has_up_to : (l m s : ℕ) → l < m → Member s (operators (suc l)) → has (operators_to m) (sym s) ≡ true
  has_up_to l zero s h e = absurd (omega arith)
  has_up_to l (suc m) s h e = elim (below_or l m h) [
    | inl y ↦ has_append_left (operators_to m) (map sym (operators (suc m))) (sym s) (has_up_to l m s y e)
    | inr y ↦ has_append_right (operators_to m) (map sym (operators (suc m))) (sym s) (has_member s (operators (suc m)) (subst (λ k. Member s (operators (suc k))) y e))
  ]

  pub operator_goes_on : (m : ℕ) {i l : ℕ} {o : Marked} → l < m → IsOperator toks i (suc l) o → GoesOn toks (level m) i
  operator_goes_on m {i} {l} {o} h s = record {
    token = sym o.mark;
    stands = (o.pos, s.on);
    among = or_right (is_same terminal.bracket (sym o.mark)) (has (operators_to m) (sym o.mark)) (has_up_to l m o.mark h (among_level o.mark l s.binds));
  }

  -- what a level goes on with
  pub data Onward (m i : ℕ) : Type 0 where
    index : {p : Pos} → On toks i (Sym 4) p → Onward m i
    operates : {l : ℕ} {o : Marked} → l < m → IsOperator toks i (suc l) o → Onward m i

  same_symbol : (os : List ℕ) (t : Symbol) {i : ℕ} → StandsAt toks i t → has (map sym os) t ≡ true → (o : Marked) × On toks i (Sym o.mark) o.pos × Member o.mark os
  same_symbol [] t on e = absurd (cc)
  same_symbol (x ∷ os) (sym s) on e = elim (or_cases (nat_eq x s) (has (map sym os) (sym s)) e) [
    | inl h ↦ (record { mark = s; pos = on.0 }, on.1, inl (sym' (eqb-true x s h)))
    | inr h ↦ let y = same_symbol os (sym s) on h in (y.0, y.1, inr y.2)
  ]
  same_symbol (x ∷ os) t on e = let y = same_symbol os t on e in (y.0, y.1, inr y.2)

  raise_onward : (m i : ℕ) → Onward m i → Onward (suc m) i
  raise_onward m i (index on) = index on
  raise_onward m i (operates h s) = operates (omega arith) s

  onward_by : (m i : ℕ) (t : Symbol) → StandsAt toks i t → has (operators_to m) t ≡ true → Onward m i
  onward_by zero i t on e = absurd (cc)
  onward_by (suc m) i t on e = elim (has_append (operators_to m) (map sym (operators (suc m))) t e) [
    | inl h ↦ raise_onward m i (onward_by m i t on h)
    | inr h ↦ let y = same_symbol (operators (suc m)) t on h in operates {l = m} (omega arith) (record { on = y.1; binds = of_all (suc m) y.0.mark (operators (suc m)) (all_levels (suc m)) y.2 })
  ]

  index_onward : (m i : ℕ) (t : Symbol) → StandsAt toks i t → is_same terminal.bracket t ≡ true → Onward m i
  index_onward m i (sym s) on e = index (subst (λ k. On toks i (Sym k) on.0) (sym' (eqb-true 4 s e)) on.1)
  index_onward m i t on e = absurd (false_true e)

  pub goes_onward : (m i : ℕ) → GoesOn toks (level m) i → Onward m i
  goes_onward m i g = elim (or_cases (is_same terminal.bracket g.token) (has (operators_to m) g.token) g.among) [
    | inl h ↦ index_onward m i g.token g.stands h
    | inr h ↦ onward_by m i g.token g.stands h
  ]
