-- A text by its bytes: classes of bytes, runs of bytes of one class, and what stands at a place.
use Rattle.std.specs.Prelude.{◌≡◌, ℕ, ◌+◌, ◌-◌, ◌<◌, ◌≤◌, Bool, true, false, ◌&&◌, ◌||◌, if◌then◌else◌, List, take, drop, length, get_or, nat_eq, nat_le}
use Rattle.xc_tree.specs.declared.lexing.Start.{Start}
use Rattle.xc_tree.specs.declared.lexing.Start.TheVariants.{End, Blank, LineEnd, LineComment, BlockComment, Hash, Letter, Digit, Other}

-- the byte at a place, and 256 behind the last one
abbrev pub byte : List ℕ → ℕ → ℕ
byte text i = get_or text i 256

-- whether z is a, b, or a number between them
abbrev pub is_between : ℕ → ℕ → ℕ → Bool
is_between a z b = nat_le a b && nat_le b z

-- a letter or `_`
unfoldable pub is_letter : ℕ → Bool
is_letter b = is_between 97 122 b || (is_between 65 90 b || nat_eq b 95)

-- a decimal digit
unfoldable pub is_digit : ℕ → Bool
is_digit b = is_between 48 57 b

-- a letter, a digit or `_`
unfoldable pub is_of_word : ℕ → Bool
is_of_word b = is_letter b || is_digit b

-- a space, a tab or a carriage return
unfoldable pub is_blank : ℕ → Bool
is_blank b = nat_eq b 32 || (nat_eq b 9 || nat_eq b 13)

-- no line feed, and not behind the end
unfoldable pub is_in_line : ℕ → Bool
is_in_line b = if nat_eq b 10 then false else (if nat_eq b 256 then false else true)

-- what two bytes begin
unfoldable pub start_of : ℕ → ℕ → Start
start_of b next =
    if nat_eq b 256 then End
    else (if is_blank b then Blank
    else (if nat_eq b 10 then LineEnd
    else (if nat_eq b 47 && nat_eq next 47 then LineComment
    else (if nat_eq b 47 && nat_eq next 42 then BlockComment
    else (if nat_eq b 35 then Hash
    else (if is_letter b then Letter
    else (if is_digit b then Digit
    else Other)))))))

-- what a place of a text begins
abbrev pub start_at : List ℕ → ℕ → Start
start_at text i = start_of (byte text i) (byte text (i + 1))

-- the bytes from i up to j
abbrev pub part : List ℕ → ℕ → ℕ → List ℕ
part text i j = take (j - i) (drop i text)

-- the bytes from i up to j are of a class, and the byte at j isn't
pub record Span (is_in : ℕ → Bool) (text : List ℕ) (i j : ℕ) : Type 0 where
  pub after : i ≤ j
  pub inside : (k : ℕ) → i ≤ k → k < j → is_in (byte text k) ≡ true
  pub stops : is_in (byte text j) ≡ false

-- `*/` stands at a place
pub record Closes (text : List ℕ) (k : ℕ) : Type 0 where
  pub star : byte text k ≡ 42
  pub slash : byte text (k + 1) ≡ 47

-- from i on the first `*/` ends at j
pub record ClosedAt (text : List ℕ) (i j : ℕ) : Type 0 where
  pub after : i + 2 ≤ j
  pub closes : Closes text (j - 2)
  pub first : (k : ℕ) → i ≤ k → k + 2 < j → Closes text k → ⊥

-- from i on there is no `*/`
pub record Unclosed (text : List ℕ) (i : ℕ) : Type 0 where
  pub never : (k : ℕ) → i ≤ k → Closes text k → ⊥

-- these bytes stand at a place
abbrev pub HasBytesAt : List ℕ → ℕ → List ℕ → Type 0
HasBytesAt text i w = take (length w) (drop i text) ≡ w
