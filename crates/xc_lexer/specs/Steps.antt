-- One step of reading a text.
use Rattle.std.specs.Prelude.{◌≡◌, ℕ, ◌<◌, ◌≤◌, ◌⊎◌, List, [], ◌∷◌, ◌++◌, length}
use Rattle.xw_words.specs.declared.pos.Broken.{Broken}
use Rattle.xc_tree.specs.declared.token.Tok.{Tok}
use Rattle.xc_tree.specs.Places.{pos_at}
use Rattle.xc_tree.specs.Pieces.{Stand, Fault, Piece}
use Rattle.xc_lexer.specs.Names.{numbers_of}
use Rattle.xc_lexer.specs.Places.{IsPlace}
use Rattle.xc_lexer.specs.declared.lexer.State.{State}

-- where a state stands
abbrev pub stand : State → Stand
stand s = record { at = s.place.at; fresh = s.at_line_start; numbers = numbers_of s.names }

-- one piece without a broken rule was read
pub record Went (text : List ℕ) (before : State) (toks : List Tok) (after : State) (more : List Tok) : Type 0 where
  pub found : List Tok
  pub next : Piece text (stand before) found [] (stand after)
  pub pushed : more ≡ toks ++ found
  pub forth : before.place.at < after.place.at
  pub place : IsPlace text after.place

-- this is no broken rule of a later place, nor of a greater number at this place
abbrev pub NotAfter : Fault → Fault → Type 0
NotAfter f g = (f.at < g.at) ⊎ ((f.at ≡ g.at) × (f.rule ≤ g.rule))

-- what holds of each broken rule
abbrev pub Each : (Fault → Type 0) → List Fault → Type 0
Each P [] = Unit {0}
Each P (x ∷ xs) = P x × Each P xs

-- the next piece breaks this rule, and none before it
pub record FirstOf (text : List ℕ) (before : State) (b : Broken) : Type 0 where
  pub found : List Tok
  pub first : Fault
  pub others : List Fault
  pub after : Stand
  pub next : Piece text (stand before) found (first ∷ others) after
  pub is : b ≡ record { rule = first.rule; pos = pos_at text first.at }
  pub least : Each (NotAfter first) others
  pub in_text : first.at < length text
  pub passed : first.at < after.at
