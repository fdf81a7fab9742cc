-- The rows of symbols that a case is read by.
use Rattle.std.specs.Prelude.{List, [], ◌∷◌}
use Rattle.xc_tree.specs.Symbol.{Symbol, many, maybe, case_item, guard, input}
use Rattle.xc_tree.specs.Terminals.{at_sign, break_word, colon, receives, semicolon, when_word}

-- the tokens that an input goes on with behind its name
abbrev pub transfers : List Symbol
transfers = at_sign ∷ when_word ∷ receives ∷ []

-- an input and its colon, what a case waits for, and its statements with the `break ;` behind them
abbrev pub awaited : List Symbol
awaited = input ∷ colon ∷ []

abbrev pub event_row : List Symbol
event_row = maybe guard ∷ awaited

abbrev pub body_row : List Symbol
body_row = many case_item ∷ break_word ∷ semicolon ∷ []
