-- The forms of a number.
use Rattle.std.specs.Prelude.{ℕ, ◌+◌, ◌-◌, ◌*◌, ◌^◌, Bool, true, ◌&&◌, ◌||◌, if◌then◌else◌, List, [], ◌∷◌, Option, Some, None, nat_eq, nat_le, nat_lt, take, drop, length, get_or}
use Rattle.xc_tree.specs.declared.lexing.Reading.{Reading}
use Rattle.xc_tree.specs.declared.lexing.Reading.TheVariants.{Formless, TooLarge, Fine}
use Rattle.xc_tree.specs.Bytes.{is_between}

-- the value of a digit, and 99 of a byte that is none
unfoldable pub digit : ℕ → ℕ
digit b =
    if is_between 48 57 b then b - 48
    else (if is_between 97 102 b then b - 87
    else (if is_between 65 70 b then b - 55
    else 99))

-- whether all bytes are digits to a base
unfoldable pub are_digits : (base : ℕ) → List ℕ → Bool
are_digits base [] = true
are_digits base (b ∷ bs) = nat_lt (digit b) base && are_digits base bs

-- the number that digits make behind others
unfoldable pub value_behind : (base : ℕ) → ℕ → List ℕ → ℕ
value_behind base v [] = v
value_behind base v (b ∷ bs) = value_behind base (v * base + digit b) bs

-- the number of one or more digits to a base
unfoldable pub numeral : (base : ℕ) → List ℕ → Option ℕ
numeral base [] = None
numeral base (b ∷ bs) = if are_digits base (b ∷ bs) then Some (value_behind base 0 (b ∷ bs)) else None

-- whether the last byte is `u` or `U`
unfoldable pub has_suffix : List ℕ → Bool
has_suffix run = nat_eq (get_or run (length run - 1) 0) 117 || nat_eq (get_or run (length run - 1) 0) 85

-- a run without its last `u` or `U`
unfoldable pub without_suffix : List ℕ → List ℕ
without_suffix run = if has_suffix run then take (length run - 1) run else run

-- `0x` and hexadecimal digits, `0b` and binary digits, `0` and octal digits, `0`, or decimal digits without a `0` before
unfoldable pub value_of : List ℕ → Option ℕ
value_of ds =
    if nat_eq (get_or ds 0 0) 48
    then (if nat_eq (length ds) 1 then Some 0
    else (if nat_eq (get_or ds 1 0) 120 then numeral 16 (drop 2 ds)
    else (if nat_eq (get_or ds 1 0) 98 then numeral 2 (drop 2 ds)
    else numeral 8 (drop 1 ds))))
    else numeral 10 ds

-- what a number is by its size
unfoldable pub sized : Bool → Option ℕ → Reading
sized suffix None = Formless
sized suffix (Some n) = if nat_le (2 ^ 32) n then TooLarge else Fine (record { value = n; is_unsigned = suffix || nat_le (2 ^ 31) n })

-- what a run of letters, digits and `_` that begins with a digit is as a number
unfoldable pub reading : List ℕ → Reading
reading run = sized (has_suffix run) (value_of (without_suffix run))
