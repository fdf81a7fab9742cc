-- Numbers.
use Rattle.std.specs.Prelude.{ℕ, Bool, ◌&&◌, if◌then◌else◌, List, Option, Some, None, min}
use Rattle.std.specs.Char.{is_ascii_digit}
use Rattle.std.specs.List.{list_all}
use Rattle.std.specs.Str.Parse.{digits_value}
use Rattle.std.specs.Option.{option_map}
use Rattle.xr_stim.specs.Lines.{is_some_bytes}

-- whether a word is a number: one or more decimal digits
abbrev pub is_number : List ℕ → Bool
is_number word = is_some_bytes word && list_all is_ascii_digit word

-- the number that a word is, if it is one
abbrev pub number : List ℕ → Option ℕ
number word = if is_number word then Some (digits_value 10 word) else None

-- The same, where a greater number is told as the most that can be told. The reader tells 2^64 or more as 2^64 - 1, since all who ask
-- compare it with less.
abbrev pub number_up_to : ℕ → List ℕ → Option ℕ
number_up_to most word = option_map (λ n. min n most) (number word)
