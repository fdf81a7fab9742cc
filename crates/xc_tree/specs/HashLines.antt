-- The lines that begin with `#`: the forms of a `#include` and of a `#define`, and what may follow them in their line.
use Rattle.std.specs.Prelude.{◌≡◌, ℕ, ◌+◌, ◌<◌, true, List, length, None, codes, ◌⊎◌}
use Rattle.xc_tree.specs.declared.lexing.Start.{Start}
use Rattle.xc_tree.specs.declared.lexing.Start.TheVariants.{End, Blank, LineEnd, LineComment, BlockComment}
use Rattle.xc_tree.specs.Bytes.{byte, start_at, part, Span, ClosedAt, Unclosed, HasBytesAt, is_of_word, is_blank, is_in_line, is_letter, is_digit}
use Rattle.xc_tree.specs.Places.{pos_at}
use Rattle.xc_tree.specs.Tables.{words}
use Rattle.xw_words.specs.Tables.{place_in}

-- these bytes stand from i up to k
abbrev pub StandsTo : List ℕ → List ℕ → ℕ → ℕ → Type 0
StandsTo w text i k = HasBytesAt text i w × (k ≡ i + length w)

-- one of the three headers stands from i up to k
abbrev pub Header : List ℕ → ℕ → ℕ → Type 0
Header text i k = StandsTo (codes "<xs1.h>") text i k ⊎ StandsTo (codes "<platform.h>") text i k ⊎ StandsTo (codes "<print.h>") text i k

-- a `#include` of one of the three headers stands from i up to k
pub record Include (text : List ℕ) (i k : ℕ) : Type 0 where
  pub opens : HasBytesAt text i (codes "#include")
  pub header_at : ℕ
  pub blanks : Span is_blank text (i + 8) header_at
  pub parted : i + 8 < header_at
  pub header : Header text header_at k

-- a `#define` of this name, which is no word, stands from i up to k, with its number from m on
pub record Define (text : List ℕ) (i : ℕ) (name : List ℕ) (m k : ℕ) : Type 0 where
  pub opens : HasBytesAt text i (codes "#define")
  pub name_at : ℕ
  pub name_end : ℕ
  pub blanks : Span is_blank text (i + 7) name_at
  pub parted : i + 7 < name_at
  pub letter : is_letter (byte text name_at) ≡ true
  pub run : Span is_of_word text name_at name_end
  pub spells : name ≡ part text name_at name_end
  pub no_word : place_in words name ≡ None
  pub more_blanks : Span is_blank text name_end m
  pub parted_too : name_end < m
  pub digit : is_digit (byte text m) ≡ true
  pub number : Span is_of_word text m k

-- how a line of one of these forms ends: well, or at a comment that isn't closed and begins at a place
pub data Ending : Type 0 where
  ends : Ending
  unclosed : (at : ℕ) → Ending

-- one blank or comment behind a form, up to j in the same line
abbrev pub TailStep : List ℕ → ℕ → Start → ℕ → Type 0
TailStep text i Blank j = j ≡ i + 1
TailStep text i LineComment j = Span is_in_line text i j
TailStep text i BlockComment j = ClosedAt text (i + 2) j × ((pos_at text j).line ≡ (pos_at text i).line)
TailStep text i _ j = ⊥

-- the end of the line: a line feed, the text's end, or a comment that ends at j in a later line or isn't closed
abbrev pub TailStop : List ℕ → ℕ → Start → ℕ → Ending → Type 0
TailStop text i LineEnd j e = (j ≡ i) × (e ≡ ends)
TailStop text i End j e = (j ≡ i) × (e ≡ ends)
TailStop text i BlockComment j e =
    (ClosedAt text (i + 2) j × ((pos_at text j).line ≡ (pos_at text i).line → ⊥) × (e ≡ ends)) ⊎ (Unclosed text (i + 2) × (j ≡ length text) × (e ≡ unclosed i))
TailStop text i _ j e = ⊥

-- nothing but blanks and comments stands from i up to j, where the line of a form ends so
pub data Tail (text : List ℕ) : ℕ → ℕ → Ending → Type 0 where
  stop : {i j : ℕ} {e : Ending} → TailStop text i (start_at text i) j e → Tail text i j e
  step : {i k j : ℕ} {e : Ending} → TailStep text i (start_at text i) k → Tail text k j e → Tail text i j e

-- the line whose `#` stands at i is none of these
pub record NoForm (text : List ℕ) (i : ℕ) : Type 0 where
  pub no_include : (k j : ℕ) (e : Ending) → Include text i k → Tail text k j e → ⊥
  pub no_define : (name : List ℕ) (m k j : ℕ) (e : Ending) → Define text i name m k → Tail text k j e → ⊥
