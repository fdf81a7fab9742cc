-- Digits read one by one.
use Rattle.std.proofs.Common.{◌≡◌, ℕ, ◌+◌, ◌-◌, ◌*◌, ◌<◌, ◌&&◌, true, min, List, [], ◌∷◌, ◌++◌, take, length, get_or, refl, ap, ◌∙◌, arith, add-one}
use Rattle.std.proofs.Math.Seq.{take-suc}
use Rattle.std.proofs.lemmas.Bool.Decides.{nat_tests}
use Rattle.std.proofs.lemmas.List.Folds.{list_all_more}
use Rattle.std.specs.Char.{digit_value, is_ascii_digit}
use Rattle.std.specs.List.{list_all}
use Rattle.std.specs.Str.Parse.{digits_value, digits_value_after}

-- what a digit counts
digit_value-is : (c : ℕ) → is_ascii_digit c ≡ true → digit_value c ≡ c - 48
digit_value-is c digit = grind (arith, nat_tests)

-- one digit behind others
value-append : (n : ℕ) (ds : List ℕ) (c : ℕ) → digits_value_after 10 n (ds ++ c ∷ []) ≡ digits_value_after 10 n ds * 10 + digit_value c
value-append n [] c = refl
value-append n (d ∷ ds) c = value-append (n * 10 + digit_value d) ds c

value-more : (ds : List ℕ) (i : ℕ) → i < length ds → is_ascii_digit (get_or ds i 0) ≡ true →
    digits_value 10 (take (i + 1) ds) ≡ digits_value 10 (take i ds) * 10 + (get_or ds i 0 - 48)
value-more ds i lt digit =
    ap (λ k. digits_value 10 (take k ds)) (add-one i) ∙ ap (digits_value 10) (take-suc ds i 0 lt)
    ∙ value-append 0 (take i ds) (get_or ds i 0) ∙ ap (λ d. digits_value 10 (take i ds) * 10 + d) (digit_value-is (get_or ds i 0) digit)

-- the value so far, up to the most that can be told, with one digit more
pub up_to-more : (ds : List ℕ) (i most value scaled : ℕ) → i < length ds → is_ascii_digit (get_or ds i 0) ≡ true → 0 < most →
    value ≡ min (digits_value 10 (take i ds)) most → scaled ≡ min (value * 10) most →
    min (scaled + (get_or ds i 0 - 48)) most ≡ min (digits_value 10 (take (i + 1) ds)) most
up_to-more ds i most value scaled lt digit some is times = omega (arith, value-more ds i lt digit)

-- digits so far, and one more
pub all-more : (ds : List ℕ) (i : ℕ) → i < length ds → is_ascii_digit (get_or ds i 0) ≡ true → list_all is_ascii_digit (take i ds) ≡ true →
    list_all is_ascii_digit (take (i + 1) ds) ≡ true
all-more ds i lt digit before = list_all_more is_ascii_digit ds i 0 lt ∙ ap (λ b. b && is_ascii_digit (get_or ds i 0)) before ∙ digit
