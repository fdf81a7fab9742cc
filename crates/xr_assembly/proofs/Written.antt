-- Each line of a listing, as it is written, is read as what it says.
use Rattle.std.proofs.Common.{◌≡◌, ℕ, zero, ◌+◌, ◌%◌, ◌<◌, ◌^◌, Bool, true, false, not, ◌&&◌, if◌then◌else◌, suc, List, [], ◌∷◌, ◌++◌, length, get_or, Some, None, refl, ap, ◌∙◌, arith}
use Rattle.std.proofs.lemmas.Bool.{eq-eqb, eqb-true, lt-ltb, ne_eqb}
use Rattle.std.proofs.lemmas.Bool.Decides.{nat_tests}
use Rattle.std.proofs.lemmas.Fmt.{decimal_by_steps, decimal_is_IsNumeral, decimal_nonempty, first_decimal}
use Rattle.std.proofs.lemmas.List.Folds.{list_all-append}
use Rattle.std.proofs.lemmas.List.Splits.{slice_split-cons_no, slice_split-cons_yes}
use Rattle.std.specs.Char.{is_ascii_digit}
use Rattle.std.specs.List.{list_all, onto_first}
use Rattle.std.specs.Option.{option_map}
use Rattle.std.specs.Prelude.{◌==◌, decimal}
use Rattle.std.specs.Str.Parse.{digits_value}
use Rattle.xr_assembly.specs.Cuts.{has_leading_zero, numeral, parts}
use Rattle.xr_stim.specs.Forms.{if_small}
use Rattle.xr_stim.specs.Numbers.{is_number, number}
use Rattle.xr_text.proofs.InjectiveTokens.{all_inside, and_first, is_inside}

pub and_second : (a b : Bool) → (a && b) ≡ true → b ≡ true
and_second true b h = h
and_second false b h = absurd (cc)

-- no byte has this value
abbrev pub free : ℕ → List ℕ → Bool
free sep [] = true
free sep (b ∷ bs) = not (b == sep) && free sep bs

free-by : (sep b : ℕ) (w : List ℕ) (t : Bool) → (b == sep) ≡ t → (b ≡ sep → ⊥) → free sep w ≡ true → free sep (b ∷ w) ≡ true
free-by sep b w true e ne h = absurd (ne (eqb-true b sep e))
free-by sep b w false e ne h = ap (λ z. not z && free sep w) e ∙ h

inside_ne : (sep b : ℕ) → is_inside sep ≡ false → is_inside b ≡ true → b ≡ sep → ⊥
inside_ne sep b out within e = let same = ap is_inside e in absurd (cc)

-- a text without separators has none of this value
pub inside-free : (sep : ℕ) (w : List ℕ) → is_inside sep ≡ false → all_inside w ≡ true → free sep w ≡ true
inside-free sep [] out h = refl
inside-free sep (b ∷ w) out h =
    free-by sep b w (b == sep) refl (inside_ne sep b out (and_first (is_inside b) (all_inside w) h))
    (inside-free sep w out (and_second (is_inside b) (all_inside w) h))

free_step : (a b c : Bool) → (a && b) ≡ true → (b ≡ true → c ≡ true) → (a && c) ≡ true
free_step true b c h go = go h
free_step false b c h go = h

pub free-append : (sep : ℕ) (v w : List ℕ) → free sep v ≡ true → free sep w ≡ true → free sep (v ++ w) ≡ true
free-append sep [] w g h = h
free-append sep (b ∷ v) w g h = free_step (not (b == sep)) (free sep v) (free sep (v ++ w)) g (λ r. free-append sep v w r h)

not_true : (a b : Bool) → (not a && b) ≡ true → a ≡ false
not_true true b h = absurd (cc)
not_true false b h = refl

-- a text is parted at the first byte of this value
pub parts-more : (sep : ℕ) (w r : List ℕ) → free sep w ≡ true → parts sep (w ++ sep ∷ r) ≡ w ∷ parts sep r
parts-more sep [] r h = slice_split-cons_yes (λ b. b == sep) sep r (eq-eqb sep sep refl)
parts-more sep (b ∷ w) r h =
    slice_split-cons_no (λ b. b == sep) b (w ++ sep ∷ r) (not_true (b == sep) (free sep w) h)
    ∙ ap (onto_first b) (parts-more sep w r (and_second (not (b == sep)) (free sep w) h))

pub parts-last : (sep : ℕ) (w : List ℕ) → free sep w ≡ true → parts sep w ≡ w ∷ []
parts-last sep [] h = refl
parts-last sep (b ∷ w) h =
    slice_split-cons_no (λ b. b == sep) b w (not_true (b == sep) (free sep w) h)
    ∙ ap (onto_first b) (parts-last sep w (and_second (not (b == sep)) (free sep w) h))

digit_is : (d : ℕ) → d < 10 → is_ascii_digit (48 + d) ≡ true
digit_is d h = grind (arith, nat_tests)

and_yes : (a b : Bool) → a ≡ true → b ≡ true → (a && b) ≡ true
and_yes true b g h = h
and_yes false b g h = g

pub decimal_digits : (n : ℕ) → n < 2 ^ 64 → list_all is_ascii_digit (decimal n) ≡ true
decimal_digits n h =
    decimal_by_steps (λ n ds. list_all is_ascii_digit ds ≡ true) (λ n l. and_yes (is_ascii_digit (48 + n)) true (digit_is n l) refl)
    (λ n ds ge ih. list_all-append is_ascii_digit ds ((48 + n % 10) ∷ [])
    ∙ and_yes (list_all is_ascii_digit ds) (is_ascii_digit (48 + n % 10) && true) ih
    (and_yes (is_ascii_digit (48 + n % 10)) true (digit_is (n % 10) (omega arith)) refl)) n h

some_digits : (ds : List ℕ) → 0 < length ds → list_all is_ascii_digit ds ≡ true → is_number ds ≡ true
some_digits [] l h = absurd (omega arith)
some_digits (d ∷ ds) l h = ap (λ z. not z && list_all is_ascii_digit (d ∷ ds)) (ne_eqb (length (d ∷ ds)) 0 (λ e. omega arith)) ∙ h

high_first : (ds : List ℕ) → 48 < get_or ds 0 0 → has_leading_zero ds ≡ false
high_first [] h = refl
high_first (a ∷ []) h = refl
high_first (a ∷ b ∷ ds) h = ne_eqb a 48 (λ e. omega arith)

no_leading : (n : ℕ) → n < 2 ^ 64 → has_leading_zero (decimal n) ≡ false
no_leading zero h =
    decimal_by_steps (λ m ds. m ≡ 0 → has_leading_zero ds ≡ false) (λ m l e. refl) (λ m ds ge ih e. absurd (omega arith)) 0 h refl
no_leading (suc n) h = high_first (decimal (suc n)) (first_decimal (suc n) (omega arith) h)

numeral-by : (word : List ℕ) (n : ℕ) → has_leading_zero word ≡ false → is_number word ≡ true → digits_value 10 word ≡ n → n < 2 ^ 32 →
    numeral word ≡ Some (Some n)
numeral-by word n lead digits value small =
    ap (λ z. if z then None else option_map if_small (number word)) lead
    ∙ ap (λ z. option_map if_small (if z then Some (digits_value 10 word) else None)) digits
    ∙ ap (λ v. Some (if_small v)) value
    ∙ ap (λ z. Some (if z then Some n else None)) (lt-ltb n (2 ^ 32) small)

-- the decimal text of a word is a numeral
pub numeral-decimal : (n : ℕ) → n < 2 ^ 32 → numeral (decimal n) ≡ Some (Some n)
numeral-decimal n small =
    let wide : n < 2 ^ 64 = omega arith in
    numeral-by (decimal n) n (no_leading n wide) (some_digits (decimal n) (decimal_nonempty n wide) (decimal_digits n wide))
    (decimal_is_IsNumeral n wide).1 small
