-- What a place in a text knows.
use Rattle.std.specs.Prelude.{◌≡◌, ℕ, ◌≤◌, List, length}
use Rattle.xc_tree.specs.Places.{pos_at}
use Rattle.xc_tree.specs.Lexes.{longest_text}
use Rattle.xc_lexer.specs.declared.place.Place.{Place}

-- a place is in the text, which isn't too long, and knows its line and column
pub record IsPlace (text : List ℕ) (p : Place) : Type 0 where
  pub short : length text ≤ longest_text
  pub within : p.at ≤ length text
  pub pos : p.pos ≡ pos_at text p.at
