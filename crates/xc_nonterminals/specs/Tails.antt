-- The rows of symbols that statements end with: a transfer from its sign on, and a `do` behind its statement, each with its
-- semicolon.
use Rattle.std.specs.Prelude.{List, [], ◌∷◌}
use Rattle.xc_tree.specs.Symbol.{Symbol, maybe, expr, dest, stamp}
use Rattle.xc_tree.specs.Terminals.{end_paren, paren, receives, semicolon, sends, while_word}

abbrev pub output_row : List Symbol
output_row = sends ∷ expr ∷ maybe stamp ∷ semicolon ∷ []

abbrev pub input_row : List Symbol
input_row = receives ∷ dest ∷ maybe stamp ∷ semicolon ∷ []

abbrev pub do_row : List Symbol
do_row = while_word ∷ paren ∷ expr ∷ end_paren ∷ semicolon ∷ []
