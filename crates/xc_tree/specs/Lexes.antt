-- What a text is, read as a row of pieces: its tokens, and the rules 101 to 106 that it breaks.
use Rattle.std.specs.Prelude.{◌≡◌, ℕ, ◌<◌, ◌≤◌, true, List, [], ◌++◌, length, None, Contains, ◌⊎◌}
use Rattle.xw_words.specs.declared.pos.Pos.{Pos}
use Rattle.xw_words.specs.declared.pos.Broken.{Broken}
use Rattle.xc_tree.specs.declared.token.Tok.{Tok}
use Rattle.xc_tree.specs.Places.{pos_at}
use Rattle.xc_tree.specs.Pieces.{Stand, Fault, Piece}

-- from one stand to another the text is a row of pieces, with these tokens and broken rules
pub data Leads (text : List ℕ) : Stand → List Tok → List Fault → Stand → Type 0 where
  here : {s : Stand} → Leads text s [] [] s
  onward : {s s' s'' : Stand} (t : List Tok) {ts : List Tok} (f : List Fault) {fs : List Fault} → Piece text s t f s' → Leads text s' ts fs s'' → Leads text s (t ++ ts) (f ++ fs) s''

-- before its first byte, with no name defined
abbrev pub beginning : Stand
beginning = record { at = 0; fresh = true; numbers = λ name. None }

-- the most bytes that a text may have
abbrev pub longest_text : ℕ
longest_text = 262144

-- the tokens of a text
pub record Lexes (text : List ℕ) (toks : List Tok) : Type 0 where
  pub short : length text ≤ longest_text
  pub last : Stand
  pub leads : Leads text beginning toks [] last
  pub ends : last.at ≡ length text

-- one of the rules 101 to 104 and 106 is broken, and where
pub record BreaksAt (text : List ℕ) (f : Fault) : Type 0 where
  pub toks : List Tok
  pub faults : List Fault
  pub last : Stand
  pub leads : Leads text beginning toks faults last
  pub among : Contains faults f

-- a text of more than 262,144 bytes breaks rule 105, and no other is looked at
abbrev pub Breaks : List ℕ → Broken → Type 0
Breaks text b =
    ((longest_text < length text) × (b ≡ record { rule = 105; pos = record { line = 1; col = 1 } }))
    ⊎ ((length text ≤ longest_text) × ((f : Fault) × BreaksAt text f × (b ≡ record { rule = f.rule; pos = pos_at text f.at })))

-- in an earlier line, or in the same one at a lesser column
abbrev pub IsBefore : Pos → Pos → Type 0
IsBefore p q = (p.line < q.line) ⊎ ((p.line ≡ q.line) × (p.col < q.col))

-- at a lesser place, or at the same one with a number that isn't greater
abbrev pub IsNotAfter : Broken → Broken → Type 0
IsNotAfter a b = IsBefore a.pos b.pos ⊎ ((a.pos ≡ b.pos) × (a.rule ≤ b.rule))
