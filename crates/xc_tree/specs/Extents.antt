-- Where the pieces of a text stand.
use Rattle.std.specs.Prelude.{◌≡◌, ℕ, ◌<◌, ◌&&◌, Bool, nat_le, nat_lt, List, [], ◌∷◌, ◌++◌, count_by}
use Rattle.xw_words.specs.declared.pos.Pos.{Pos}
use Rattle.xc_tree.specs.declared.token.Tok.{Tok}
use Rattle.xc_tree.specs.declared.lexing.Start.{Start}
use Rattle.xc_tree.specs.declared.lexing.Start.TheVariants.{Letter, Digit, Other}
use Rattle.xc_tree.specs.Bytes.{start_at}
use Rattle.xc_tree.specs.Places.{pos_at}
use Rattle.xc_tree.specs.Pieces.{Stand, Fault}
use Rattle.xc_tree.specs.Lexes.{Leads, here, onward}

-- the bytes from one place up to another, and what the first of them begins: a blank or a line end, a comment, a `#`
-- line, or a token, which is a word, a number or a symbol
pub record Extent : Type 0 where
  pub from : ℕ
  pub to : ℕ
  pub begins : Start

-- the extents of the pieces of a text, in their order
abbrev pub extents : {text : List ℕ} {s s' : Stand} {ts : List Tok} {fs : List Fault} → Leads text s ts fs s' → List Extent
extents {text} here = []
extents {text} (onward {s} {s'} t f piece rest) = record { from = s.at; to = s'.at; begins = start_at text s.at } ∷ extents rest

-- they lie one behind the other from i up to j, and none is empty
abbrev pub Tiles : ℕ → ℕ → List Extent → Type 0
Tiles i j [] = i ≡ j
Tiles i j (x ∷ xs) = (x.from ≡ i) × (i < x.to) × Tiles x.to j xs

-- whether a byte is in an extent
abbrev pub covers : ℕ → Extent → Bool
covers k x = nat_le x.from k && nat_lt k x.to

-- each byte below a place is in exactly one extent
abbrev pub EachOnce : ℕ → List Extent → Type 0
EachOnce n xs = (k : ℕ) → k < n → count_by (covers k) xs ≡ 1

-- where the token of a piece stands, if the piece is one
abbrev pub token_place : List ℕ → ℕ → Start → List Pos
token_place text i Letter = pos_at text i ∷ []
token_place text i Digit = pos_at text i ∷ []
token_place text i Other = pos_at text i ∷ []
token_place text i _ = []

-- where the tokens stand, in order: at the first bytes of the pieces that are tokens
abbrev pub token_places : List ℕ → List Extent → List Pos
token_places text [] = []
token_places text (x ∷ xs) = token_place text x.from x.begins ++ token_places text xs
