-- The operators of expressions, by the places of their symbols in `SYMBOLS`.
use Rattle.std.specs.Prelude.{ℕ, ◌-◌, List, [], ◌∷◌, slice_index, slice_index_or}
use Rattle.xc_tree.specs.Symbols as symbols

-- what a symbol does to the words of its operands
pub data Operator : Type 0 where
  -- `[`: the test of an index against a length
  below_length : Operator
  -- `? :`
  choose : Operator
  bit_and : Operator
  bit_or : Operator
  bit_xor : Operator
  flip : Operator
  not_true : Operator
  plus : Operator
  minus : Operator
  times : Operator
  divide : Operator
  remainder : Operator
  less : Operator
  greater : Operator
  equal : Operator
  differs : Operator
  at_most : Operator
  at_least : Operator
  -- `&&` and `||`
  both : Operator
  either : Operator
  shift_up : Operator
  shift_down : Operator
  no_operator : Operator

-- in the order of `SYMBOLS`, where `[` is the fifth symbol
abbrev pub operators : List Operator
operators =
    no_operator ∷ no_operator ∷ no_operator ∷ no_operator ∷ below_length ∷ no_operator ∷ no_operator ∷ no_operator ∷ no_operator
    ∷ choose ∷ bit_and ∷ bit_or ∷ bit_xor ∷ flip ∷ not_true ∷ plus ∷ minus ∷ times ∷ divide ∷ remainder ∷ less ∷ greater
    ∷ no_operator ∷ no_operator ∷ no_operator ∷ no_operator ∷ no_operator ∷ equal ∷ differs ∷ at_most ∷ at_least
    ∷ both ∷ either ∷ shift_up ∷ shift_down ∷ []

-- the operator of a symbol
abbrev pub operator_at : ℕ → Operator
operator_at symbol = slice_index_or operators symbol no_operator

-- for `++ -- += -= *= /= %= &= |= ^= <<= >>=`, which follow one another in `SYMBOLS`, the places of `+ - + - * / % & | ^ << >>`
abbrev pub assigning : List ℕ
assigning =
    symbols.plus ∷ symbols.minus ∷ symbols.plus ∷ symbols.minus ∷ symbols.star ∷ symbols.slash ∷ symbols.percent
    ∷ symbols.ampersand ∷ symbols.bar ∷ symbols.caret ∷ symbols.shift_up ∷ symbols.shift_down ∷ []

-- the symbol of the operator by which another symbol assigns
abbrev pub operator_of : ℕ → ℕ
operator_of symbol = slice_index assigning (symbol - symbols.plus_plus)
