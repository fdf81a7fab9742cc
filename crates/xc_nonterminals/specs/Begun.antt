-- How a statement begins.
use Rattle.std.specs.Prelude.{List, [], ◌∷◌}
use Rattle.xc_tree.specs.Symbol.{Symbol, a_name}
use Rattle.xc_tree.specs.Terminals.{ampersand_equals, bar_equals, brace, bracket, break_word, caret_equals, continue_word, do_word, equals, for_word, if_word, master_word, minus_equals, minus_minus, par_word, percent_equals, plus_equals, plus_plus, return_word, select_word, semicolon, shift_down_equals, shift_up_equals, slash_equals, slave_word, star_equals, while_word}
use Rattle.xc_nonterminals.specs.declared.statements.First.{First}
use Rattle.xc_nonterminals.specs.declared.statements.First.TheVariants.{Semicolon, Brace, Name, If, While, Do, For, Return, Break, Continue, Par, Select, Master, Slave}

-- the token
abbrev pub token_of : First → Symbol
token_of Semicolon = semicolon
token_of Brace = brace
token_of Name = a_name
token_of If = if_word
token_of While = while_word
token_of Do = do_word
token_of For = for_word
token_of Return = return_word
token_of Break = break_word
token_of Continue = continue_word
token_of Par = par_word
token_of Select = select_word
token_of Master = master_word
token_of Slave = slave_word

-- the tokens that an assignment goes on with behind a name
abbrev pub assigning : List Symbol
assigning = equals ∷ bracket ∷ plus_plus ∷ minus_minus ∷ plus_equals ∷ minus_equals ∷ star_equals ∷ slash_equals ∷ percent_equals ∷ ampersand_equals ∷ bar_equals ∷ caret_equals ∷ shift_up_equals ∷ shift_down_equals ∷ []
