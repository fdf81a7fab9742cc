-- The tokens that each symbol of the grammar can begin with, and those that a longer reading of it can go on with.
use Rattle.std.specs.Prelude.{◌≡◌, ℕ, zero, suc, Bool, true, false, ◌||◌, List, [], ◌∷◌, ◌++◌, map, nat_eq, if◌then◌else◌}
use Rattle.xw_words.specs.declared.pos.Pos.{Pos}
use Rattle.xc_tree.specs.declared.token.Tok.{Tok}
use Rattle.xc_tree.specs.declared.token.Kind.TheVariants.{Name, Num, Key, Sym}
use Rattle.xc_tree.specs.Derives.{On}
use Rattle.xc_tree.specs.Symbol.{Symbol, sym, key, a_name, a_number, many, maybe, commas, program, item, portdecl, dir, place, place_value, head, result, word, params, param, body, block, block_item, decl, dv, initial, statement, closed, case_item, for_start, for_step, branch, case, guard, assign, assign_op, rhs, call, arguments, argument, lval, output, input, time, stamp, waits, test, dest, expr, level, operator, sign, atom}
use Rattle.xc_tree.specs.Terminals.{above, above_equals, ampersand, ampersand_equals, and_and, at_sign, bang, bang_equals, bar, bar_equals, below, below_equals, brace, bracket, break_word, caret, caret_equals, case_word, chan_word, chanend_word, comma, continue_word, default_word, do_word, else_word, equals, equals_equals, for_word, if_word, in_word, int_word, master_word, minus, minus_equals, on_word, or_or, out_word, par_word, paren, percent, percent_equals, pinseq_word, pinsneq_word, plus, plus_equals, port_word, question, return_word, select_word, semicolon, shift_down, shift_down_equals, shift_up, shift_up_equals, slash, slash_equals, slave_word, star, star_equals, tilde, timer_word, timerafter_word, unsigned_word, void_word, when_word, while_word}
use Rattle.xc_tree.specs.Grammar.{operators}

-- a token of this kind stands at a place
abbrev pub StandsAt : List Tok → ℕ → Symbol → Type 0
StandsAt toks i (sym o) = (p : Pos) × On toks i (Sym o) p
StandsAt toks i (key w) = (p : Pos) × On toks i (Key w) p
StandsAt toks i a_name = (x : List ℕ) × (p : Pos) × On toks i (Name x) p
StandsAt toks i a_number = (n : ℕ) × (u : Bool) × (p : Pos) × On toks i (Num n u) p
StandsAt toks i _ = ⊥

-- two symbols mean the same tokens
abbrev pub is_same : Symbol → Symbol → Bool
is_same (sym a) (sym b) = nat_eq a b
is_same (key a) (key b) = nat_eq a b
is_same a_name a_name = true
is_same a_number a_number = true
is_same _ _ = false

abbrev pub has : List Symbol → Symbol → Bool
has [] t = false
has (x ∷ xs) t = is_same x t || has xs t

-- one of these tokens stands at a place
pub record OneOf (toks : List Tok) (i : ℕ) (ts : List Symbol) : Type 0 where
  pub token : Symbol
  pub stands : StandsAt toks i token
  pub among : has ts token ≡ true

-- a number, a name, a bracket, or an operator before an operand
abbrev pub begins_operand : List Symbol
begins_operand = a_number ∷ a_name ∷ paren ∷ minus ∷ plus ∷ tilde ∷ bang ∷ []

abbrev pub begins_statement : List Symbol
begins_statement = semicolon ∷ brace ∷ a_name ∷ if_word ∷ while_word ∷ do_word ∷ for_word ∷ return_word ∷ break_word ∷ continue_word ∷ par_word ∷ select_word ∷ master_word ∷ slave_word ∷ []

abbrev pub begins_declaration : List Symbol
begins_declaration = int_word ∷ unsigned_word ∷ chan_word ∷ timer_word ∷ []

-- whether a symbol derives no token
abbrev pub nullable : Symbol → Bool
nullable (many s) = true
nullable (maybe s) = true
nullable (commas s) = nullable s
nullable program = true
nullable params = true
nullable arguments = true
nullable waits = true
nullable _ = false

-- the tokens that a symbol can begin with
abbrev pub first : Symbol → List Symbol
first (sym o) = sym o ∷ []
first (key w) = key w ∷ []
first a_name = a_name ∷ []
first a_number = a_number ∷ []
first (many s) = first s
first (maybe s) = first s
first (commas s) = first s ++ (if nullable s then comma ∷ [] else [])
first (operator m) = map sym (operators m)
first program = on_word ∷ in_word ∷ out_word ∷ port_word ∷ void_word ∷ int_word ∷ unsigned_word ∷ []
first item = on_word ∷ in_word ∷ out_word ∷ port_word ∷ void_word ∷ int_word ∷ unsigned_word ∷ []
first portdecl = on_word ∷ in_word ∷ out_word ∷ port_word ∷ []
first dir = in_word ∷ out_word ∷ port_word ∷ []
first place = on_word ∷ []
first place_value = begins_operand
first head = void_word ∷ int_word ∷ unsigned_word ∷ []
first result = void_word ∷ int_word ∷ unsigned_word ∷ []
first word = int_word ∷ unsigned_word ∷ []
first params = void_word ∷ int_word ∷ unsigned_word ∷ chanend_word ∷ in_word ∷ out_word ∷ port_word ∷ []
first param = int_word ∷ unsigned_word ∷ chanend_word ∷ in_word ∷ out_word ∷ port_word ∷ []
first body = brace ∷ []
first block = brace ∷ []
first block_item = begins_declaration ++ begins_statement
first decl = begins_declaration
first dv = a_name ∷ []
first initial = equals ∷ []
first statement = begins_statement
first closed = begins_statement
first case_item = begins_declaration ++ begins_statement
first for_start = a_name ∷ int_word ∷ unsigned_word ∷ []
first for_step = a_name ∷ []
first branch = on_word ∷ begins_statement
first case = case_word ∷ default_word ∷ []
first guard = begins_operand
first assign = a_name ∷ []
first assign_op = plus_equals ∷ minus_equals ∷ star_equals ∷ slash_equals ∷ percent_equals ∷ ampersand_equals ∷ bar_equals ∷ caret_equals ∷ shift_up_equals ∷ shift_down_equals ∷ []
first rhs = begins_operand
first call = a_name ∷ []
first arguments = begins_operand
first argument = begins_operand
first lval = a_name ∷ []
first output = a_name ∷ []
first input = a_name ∷ []
first time = at_sign ∷ []
first stamp = at_sign ∷ []
first waits = at_sign ∷ when_word ∷ []
first test = pinseq_word ∷ pinsneq_word ∷ timerafter_word ∷ []
first dest = a_name ∷ void_word ∷ int_word ∷ unsigned_word ∷ []
first expr = begins_operand
first (level m) = begins_operand
first sign = minus ∷ plus ∷ tilde ∷ bang ∷ []
first atom = a_number ∷ a_name ∷ paren ∷ []

-- the operators between two operands
abbrev pub binary_operators : List Symbol
binary_operators = star ∷ slash ∷ percent ∷ plus ∷ minus ∷ shift_up ∷ shift_down ∷ below ∷ below_equals ∷ above ∷ above_equals ∷ equals_equals ∷ bang_equals ∷ ampersand ∷ caret ∷ bar ∷ and_and ∷ or_or ∷ []

-- what an operand, or a row of operands, can go on with: an index and the operators
abbrev pub after_operand : List Symbol
after_operand = bracket ∷ binary_operators

-- the operators of the levels from 1 up to this one
abbrev pub operators_to : ℕ → List Symbol
operators_to zero = []
operators_to (suc m) = operators_to m ++ map sym (operators (suc m))

abbrev pub after_expression : List Symbol
after_expression = question ∷ after_operand

abbrev pub after_right_side : List Symbol
after_right_side = paren ∷ after_expression

-- the tokens that may stand behind a reading of a symbol and make a longer one of it
abbrev pub follows : Symbol → List Symbol
follows (many s) = first s ++ follows s
follows (maybe s) = first s ++ follows s
follows (commas s) = comma ∷ follows s
follows program = on_word ∷ in_word ∷ out_word ∷ port_word ∷ void_word ∷ int_word ∷ unsigned_word ∷ []
follows result = int_word ∷ []
follows word = int_word ∷ []
follows params = first params ++ comma ∷ bracket ∷ []
follows param = bracket ∷ []
follows dv = equals ∷ bracket ∷ after_right_side
follows initial = after_right_side
follows block_item = else_word ∷ []
follows statement = else_word ∷ []
follows case_item = else_word ∷ []
follows for_start = after_right_side
follows for_step = after_right_side
follows branch = else_word ∷ []
follows assign = after_right_side
follows rhs = after_right_side
follows arguments = begins_operand ++ comma ∷ after_expression
follows argument = after_expression
follows place_value = after_expression
follows lval = bracket ∷ []
follows output = at_sign ∷ after_expression
follows input = at_sign ∷ bracket ∷ []
follows time = after_expression
follows stamp = bracket ∷ []
follows waits = at_sign ∷ when_word ∷ after_expression
follows dest = bracket ∷ []
follows expr = after_expression
follows (level m) = bracket ∷ operators_to m
follows atom = bracket ∷ []
follows _ = []
