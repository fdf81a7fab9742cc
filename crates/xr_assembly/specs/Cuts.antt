-- How a line is cut: into words, with one space between any two, and a word at a byte that ends or begins it.
use Rattle.std.specs.Prelude.{ℕ, ◌-◌, Bool, false, if◌then◌else◌, List, [], ◌∷◌, length, take, Option, Some, None, ◌==◌, slice_index, bytes_eq}
use Rattle.std.specs.Borrow.{Bor}
use Rattle.std.specs.List.{slice_split}
use Rattle.std.specs.Option.{option_map}
use Rattle.xr_stim.specs.Forms.{if_small}
use Rattle.xr_stim.specs.Numbers.{number}

-- what stands between the bytes of this value, of which several may stand in a row and at both ends
abbrev pub parts : ℕ → List ℕ → List (List ℕ)
parts byte text = slice_split (λ b. b == byte) text

-- what stands before a byte of this value that ends the word, if one does
abbrev pub before_last : ℕ → List ℕ → Option (List ℕ)
before_last byte word =
    if length word == 0 then None
    else if slice_index word (length word - 1) == byte then Some (take (length word - 1) word)
    else None

-- what stands behind a byte of this value that begins the word, if one does
abbrev pub behind_first : ℕ → List ℕ → Option (List ℕ)
behind_first byte [] = None
behind_first byte (b ∷ bs) = if b == byte then Some bs else None

-- whether a zero stands in front of something else
abbrev pub has_leading_zero : List ℕ → Bool
has_leading_zero (a ∷ b ∷ bs) = a == 48
has_leading_zero _ = false

-- The number that a word is, if it is one: digits, not none, without a zero in front of others. A number of 2^32 or more is told as
-- None.
abbrev pub numeral : List ℕ → Option (Option ℕ)
numeral word = if has_leading_zero word then None else option_map if_small (number word)

-- the first of these that has this text
abbrev pub the_one_named : {A : Type 0} → (A → List ℕ) → List A → List ℕ → Option A
the_one_named text [] word = None
the_one_named text (x ∷ xs) word = if bytes_eq (text x) word then Some x else the_one_named text xs word

-- the value in the first of these rows that has this text
abbrev pub value_named : {A : Type 0} → List (Bor (List ℕ) × A) → List ℕ → Option A
value_named [] word = None
value_named (row ∷ rows) word = if bytes_eq row.0.now word then Some row.1 else value_named rows word
