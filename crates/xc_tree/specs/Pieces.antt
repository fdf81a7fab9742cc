-- One piece of a text: a blank, a line end, a comment, a `#` line, a token, or bytes that break a rule. The rules are:
-- 101 a byte begins no token; 102 a number is 2 ^ 32 or more; 103 a comment isn't closed; 104 a `#` line has none of the
-- forms, or defines a name again; 106 a number has none of the forms.
use Rattle.std.specs.Prelude.{◌≡◌, ℕ, ◌+◌, Bool, true, false, if◌then◌else◌, List, [], ◌∷◌, ◌++◌, length, Option, Some, None, bytes_eq, ◌⊎◌}
use Rattle.xc_tree.specs.declared.token.Tok.{Tok}
use Rattle.xc_tree.specs.declared.token.Kind.{Kind}
use Rattle.xc_tree.specs.declared.token.Kind.TheVariants.{Name, Num, Key, Sym}
use Rattle.xc_tree.specs.declared.lexing.Number.{Number}
use Rattle.xc_tree.specs.declared.lexing.Reading.{Reading}
use Rattle.xc_tree.specs.declared.lexing.Reading.TheVariants.{Formless, TooLarge, Fine}
use Rattle.xc_tree.specs.declared.lexing.Start.{Start}
use Rattle.xc_tree.specs.declared.lexing.Start.TheVariants.{End, Blank, LineEnd, LineComment, BlockComment, Hash, Letter, Digit, Other}
use Rattle.xc_tree.specs.Bytes.{start_at, part, Span, ClosedAt, Unclosed, is_of_word, is_in_line}
use Rattle.xc_tree.specs.Places.{pos_at}
use Rattle.xc_tree.specs.Numbers.{reading}
use Rattle.xc_tree.specs.Tables.{words, Longest, NoSymbol}
use Rattle.xw_words.specs.Tables.{place_in}
use Rattle.xc_tree.specs.HashLines.{Ending, ends, unclosed, Include, Define, Tail, NoForm}

-- the number that each name stands for, if it is defined
abbrev pub Numbers : Type 0
Numbers = List ℕ → Option Number

-- where a text is read on: whether only blanks stand before in the line, and what the names defined so far stand for
pub record Stand : Type 0 where
  pub at : ℕ
  pub fresh : Bool
  pub numbers : Numbers

-- further on in a line, past other things than blanks
abbrev pub go_on : Stand → ℕ → Stand
go_on s j = record { at = j; fresh = false; numbers = s.numbers }

-- a rule that is broken at a byte
pub record Fault : Type 0 where
  pub rule : ℕ
  pub at : ℕ

-- one broken rule
abbrev pub fault : ℕ → ℕ → List Fault
fault rule i = record { rule = rule; at = i } ∷ []

-- a word's kind, or a name's
abbrev pub word_or_name : List ℕ → Option ℕ → Kind
word_or_name t None = Name t
word_or_name t (Some k) = Key k

-- a defined name's number, or else a word's kind or a name's
abbrev pub number_or_word : List ℕ → Option Number → Kind
number_or_word t None = word_or_name t (place_in words t)
number_or_word t (Some n) = Num n.value n.is_unsigned

-- what a run that begins with a letter is: a defined name's number, a word, or a name
abbrev pub kind_of_word : Numbers → List ℕ → Kind
kind_of_word numbers t = number_or_word t (numbers t)

-- one token, which begins at i
abbrev pub token : List ℕ → ℕ → Kind → List Tok
token text i k = record { kind = k; pos = pos_at text i } ∷ []

-- the token of a number
abbrev pub number_token : List ℕ → ℕ → Reading → List Tok
number_token text i Formless = []
number_token text i TooLarge = []
number_token text i (Fine n) = token text i (Num n.value n.is_unsigned)

-- what a number breaks, at its first byte
abbrev pub number_faults : ℕ → Reading → List Fault
number_faults i Formless = fault 106 i
number_faults i TooLarge = fault 102 i
number_faults i (Fine n) = []

-- what the end of a `#` line breaks
abbrev pub ending_faults : Ending → List Fault
ending_faults ends = []
ending_faults (unclosed u) = fault 103 u

-- what a definition breaks where its name has been defined before
abbrev pub again_faults : ℕ → Option Number → List Fault
again_faults i None = []
again_faults i (Some n) = fault 104 i

-- a name stands for a number, and all others for what they did
abbrev pub defined : Numbers → List ℕ → Number → Numbers
defined numbers name n = λ t. if bytes_eq name t then Some n else numbers t

-- what the names stand for behind a definition
abbrev pub define : Numbers → List ℕ → Reading → Numbers
define numbers name Formless = numbers
define numbers name TooLarge = numbers
define numbers name (Fine n) = defined numbers name n

-- a `#include`, up to j in the text
abbrev pub IncludeLine : List ℕ → Stand → List Fault → Stand → Type 0
IncludeLine text s f s' = (k j : ℕ) × (e : Ending) × Include text s.at k × Tail text k j e × (f ≡ ending_faults e) × (s' ≡ go_on s j)

-- a `#define` of a name by the number that stands from m up to k
abbrev pub DefineLine : List ℕ → Stand → List Fault → Stand → Type 0
DefineLine text s f s' =
    (name : List ℕ) × (m k j : ℕ) × (e : Ending) × Define text s.at name m k × Tail text k j e
    × (f ≡ again_faults s.at (s.numbers name) ++ (number_faults m (reading (part text m k)) ++ ending_faults e))
    × (s' ≡ record { at = j; fresh = false; numbers = define s.numbers name (reading (part text m k)) })

-- a `#` line, which gives no token
abbrev pub HashLine : List ℕ → Stand → List Fault → Stand → Type 0
HashLine text s f s' =
    IncludeLine text s f s' ⊎ DefineLine text s f s' ⊎ (NoForm text s.at × (f ≡ fault 104 s.at) × (s' ≡ go_on s (s.at + 1)))

-- a `#`: a line's first byte past blanks, or a byte that begins no token
abbrev pub HashAt : List ℕ → Stand → Bool → List Fault → Stand → Type 0
HashAt text s true f s' = HashLine text s f s'
HashAt text s false f s' = (f ≡ fault 101 s.at) × (s' ≡ go_on s (s.at + 1))

-- one piece of a text, by what its place begins: its tokens, the rules that it breaks, and where the text goes on
abbrev pub PieceOf : List ℕ → Stand → Start → List Tok → List Fault → Stand → Type 0
PieceOf text s End t f s' = ⊥
PieceOf text s Blank t f s' = (t ≡ []) × (f ≡ []) × (s' ≡ record { at = s.at + 1; fresh = s.fresh; numbers = s.numbers })
PieceOf text s LineEnd t f s' = (t ≡ []) × (f ≡ []) × (s' ≡ record { at = s.at + 1; fresh = true; numbers = s.numbers })
PieceOf text s LineComment t f s' = (j : ℕ) × Span is_in_line text s.at j × (t ≡ []) × (f ≡ []) × (s' ≡ go_on s j)
PieceOf text s BlockComment t f s' =
    ((j : ℕ) × ClosedAt text (s.at + 2) j × (t ≡ []) × (f ≡ []) × (s' ≡ go_on s j))
    ⊎ (Unclosed text (s.at + 2) × (t ≡ []) × (f ≡ fault 103 s.at) × (s' ≡ go_on s (length text)))
PieceOf text s Hash t f s' = (t ≡ []) × HashAt text s s.fresh f s'
PieceOf text s Letter t f s' =
    (j : ℕ) × Span is_of_word text s.at j × (t ≡ token text s.at (kind_of_word s.numbers (part text s.at j))) × (f ≡ []) × (s' ≡ go_on s j)
PieceOf text s Digit t f s' =
    (j : ℕ) × Span is_of_word text s.at j × (t ≡ number_token text s.at (reading (part text s.at j))) × (f ≡ number_faults s.at (reading (part text s.at j))) × (s' ≡ go_on s j)
PieceOf text s Other t f s' =
    ((j k : ℕ) × Longest text s.at j k × (t ≡ token text s.at (Sym k)) × (f ≡ []) × (s' ≡ go_on s j))
    ⊎ (NoSymbol text s.at × (t ≡ []) × (f ≡ fault 101 s.at) × (s' ≡ go_on s (s.at + 1)))

-- one piece of a text
abbrev pub Piece : List ℕ → Stand → List Tok → List Fault → Stand → Type 0
Piece text s t f s' = PieceOf text s (start_at text s.at) t f s'
