use Rattle.std.proofs.Common.{◌≡◌, ℕ, ◌^◌, ◌-◌, List, [], ◌∷◌, take, length, get_or, drop, min, Option, Some, None, IfSome, IfNone}
use Rattle.std.proofs.Common.{refl, sym, ap, subst, ◌∙◌, arith}
use Rattle.std.proofs.lemmas.Bool.{eqb-true, ne_eqb}
use Rattle.std.proofs.lemmas.List.{take_all}
use Rattle.std.proofs.Math.ListN.{length-drop}
use Rattle.xc_tree.specs.Numbers.{value_of, numeral}
use Rattle.xc_lexer.proofs.number.value_of.Goals.{then-is_empty-via-then-is_empty, then-is_empty-via-else-is_empty+then-digits-ne48}
use Rattle.xc_lexer.proofs.number.value_of.Goals as goal

-- what a number is said to be, if it is the one that these digits make
abbrev IsValue : (made : Option ℕ) → ℕ → Type 0
IsValue made v = (n : ℕ) × (made ≡ Some n) × (v ≡ min n (2 ^ 32))

-- without a `0` before, digits are decimal ones
of_decimal : (ds : List ℕ) → (get_or ds 0 0 ≡ 48 → ⊥) → value_of ds ≡ numeral 10 ds
unfolding value_of
of_decimal ds other = rw (ne_eqb (get_or ds 0 0) 48 other)

-- no digits are no number
of_none : (ds : List ℕ) → length ds ≡ 0 → value_of ds ≡ numeral 10 ds
unfolding value_of
of_none [] none = refl
of_none (d ∷ ds) none = absurd (omega arith)

-- a single `0` is zero
of_zero : (ds : List ℕ) → get_or ds 0 0 ≡ 48 → length ds ≡ 1 → value_of ds ≡ Some 0
unfolding value_of
of_zero ds zero one = rw (zero, one)

-- what stands behind so many digits is as long as it is said to be
all_behind : (n : ℕ) (ds : List ℕ) → take (length ds - n) (drop n ds) ≡ drop n ds
all_behind n ds = take_all (length ds - n) (drop n ds) (omega (arith, length-drop n ds))

-- the digits behind `0x` are hexadecimal ones
of_hexadecimal : (ds : List ℕ) → get_or ds 0 0 ≡ 48 → (length ds ≡ 1 → ⊥) → get_or ds 1 0 ≡ 120 →
    value_of ds ≡ numeral 16 (take (length ds - 2) (drop 2 ds))
unfolding value_of
of_hexadecimal ds zero more is = rw (zero, ne_eqb (length ds) 1 more, is) (ap (numeral 16) (sym (all_behind 2 ds)))

-- the digits behind `0b` are binary ones
of_binary : (ds : List ℕ) → get_or ds 0 0 ≡ 48 → (length ds ≡ 1 → ⊥) → get_or ds 1 0 ≡ 98 →
    value_of ds ≡ numeral 2 (take (length ds - 2) (drop 2 ds))
unfolding value_of
of_binary ds zero more is = rw (zero, ne_eqb (length ds) 1 more, is) (ap (numeral 2) (sym (all_behind 2 ds)))

-- the digits behind another `0` are octal ones
of_octal : (ds : List ℕ) → get_or ds 0 0 ≡ 48 → (length ds ≡ 1 → ⊥) → (get_or ds 1 0 ≡ 120 → ⊥) → (get_or ds 1 0 ≡ 98 → ⊥) →
    value_of ds ≡ numeral 8 (take (length ds - 1) (drop 1 ds))
unfolding value_of
of_octal ds zero more no_x no_b =
    rw (zero, ne_eqb (length ds) 1 more, ne_eqb (get_or ds 1 0) 120 no_x, ne_eqb (get_or ds 1 0) 98 no_b) (ap (numeral 8) (sym (all_behind 1 ds)))

-- what has no `0` before it is a decimal number
is_decimal : (c : goal.After-numeral) → value_of c.args.digits.now ≡ numeral 10 c.args.digits.now
is_decimal c = elim c.then-is_empty.branch [
  | then-is_empty-via-then-is_empty w ↦ of_none c.args.digits.now (eqb-true _ 0 (sym c.is_empty.ensures ∙ w.if-is_empty.true))
  | then-is_empty-via-else-is_empty+then-digits-ne48 w ↦ of_decimal c.args.digits.now w.if-digits-ne48.true
]

pub returns-then-is_empty-clause-some : goal.returns-then-is_empty-clause-some
returns-then-is_empty-clause-some c =
    subst (λ o. IfSome c.numeral.result (IsValue o)) (sym (is_decimal c)) c.numeral.ensures.some

pub returns-then-is_empty-clause-none : goal.returns-then-is_empty-clause-none
returns-then-is_empty-clause-none c =
    subst (λ o. IfNone c.numeral.result (o ≡ None)) (sym (is_decimal c)) c.numeral.ensures.none

pub returns-then-digits-eq1-clause-some : goal.returns-then-digits-eq1-clause-some
returns-then-digits-eq1-clause-some c = (0, of_zero c.args.digits.now c.if-digits-ne48.false c.if-digits-eq1.true, refl)

pub returns-then-digits-eq120-clause-some : goal.returns-then-digits-eq120-clause-some
returns-then-digits-eq120-clause-some c =
    subst (λ o. IfSome c.numeral-then-digits-eq120.result (IsValue o))
    (sym (of_hexadecimal c.args.digits.now c.if-digits-ne48.false c.if-digits-eq1.false c.if-digits-eq120.true))
    c.numeral-then-digits-eq120.ensures.some

pub returns-then-digits-eq120-clause-none : goal.returns-then-digits-eq120-clause-none
returns-then-digits-eq120-clause-none c =
    subst (λ o. IfNone c.numeral-then-digits-eq120.result (o ≡ None))
    (sym (of_hexadecimal c.args.digits.now c.if-digits-ne48.false c.if-digits-eq1.false c.if-digits-eq120.true))
    c.numeral-then-digits-eq120.ensures.none

pub returns-then-digits-eq98-clause-some : goal.returns-then-digits-eq98-clause-some
returns-then-digits-eq98-clause-some c =
    subst (λ o. IfSome c.numeral-then-digits-eq98.result (IsValue o))
    (sym (of_binary c.args.digits.now c.if-digits-ne48.false c.if-digits-eq1.false c.if-digits-eq98.true))
    c.numeral-then-digits-eq98.ensures.some

pub returns-then-digits-eq98-clause-none : goal.returns-then-digits-eq98-clause-none
returns-then-digits-eq98-clause-none c =
    subst (λ o. IfNone c.numeral-then-digits-eq98.result (o ≡ None))
    (sym (of_binary c.args.digits.now c.if-digits-ne48.false c.if-digits-eq1.false c.if-digits-eq98.true))
    c.numeral-then-digits-eq98.ensures.none

pub returns-clause-some : goal.returns-clause-some
returns-clause-some c =
    subst (λ o. IfSome c.numeral-2.result (IsValue o))
    (sym (of_octal c.args.digits.now c.if-digits-ne48.false c.if-digits-eq1.false c.if-digits-eq120.false c.if-digits-eq98.false))
    c.numeral-2.ensures.some

pub returns-clause-none : goal.returns-clause-none
returns-clause-none c =
    subst (λ o. IfNone c.numeral-2.result (o ≡ None))
    (sym (of_octal c.args.digits.now c.if-digits-ne48.false c.if-digits-eq1.false c.if-digits-eq120.false c.if-digits-eq98.false))
    c.numeral-2.ensures.none
