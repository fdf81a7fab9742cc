-- Which expressions are `unsigned`, by the types of names; the others that are words are `int`.
use Rattle.std.specs.Prelude.{ℕ, Bool, false, ◌||◌, List}
use Rattle.xc_tree.specs.Plain as tree
use Rattle.xc_kernel.specs.Operators.{Operator, shift_up, shift_down, both, either, equal, differs, less, greater, at_most, at_least, not_true, operator_at}

-- The type of what a name stands for. Types of expressions are defined twice, as are operators and identifiers of ports: for the rules
-- in xc_tree, by places in the text, and for the kernel here, by what a name stands for where a copy is made. `code_comes_from_text`
-- of xc_wellformed ties types and operators. Of identifiers the kernels of the tests show what comes of it.
pub data NameType : Type 0 where
  of_word : (is_unsigned : Bool) → NameType
  of_array : (is_unsigned : Bool) → NameType
  of_other : NameType

-- whether a name is a word that is `unsigned`
abbrev pub word_is_unsigned : NameType → Bool
word_is_unsigned (of_word is_unsigned) = is_unsigned
word_is_unsigned (of_array is_unsigned) = false
word_is_unsigned of_other = false

-- whether a name is an array whose elements are
abbrev pub elements_are_unsigned : NameType → Bool
elements_are_unsigned (of_word is_unsigned) = false
elements_are_unsigned (of_array is_unsigned) = is_unsigned
elements_are_unsigned of_other = false

-- An operation on two words is `unsigned` where one of them is, and a shift where its left one is. The type of an operation is that of
-- its operands for all operators, `&&` and `||` among them, though for those two it changes nothing. The test of an index `[` alone
-- counts as unsigned.
abbrev pub operation_is_unsigned : Operator → Bool → Bool → Bool
operation_is_unsigned shift_up a b = a
operation_is_unsigned shift_down a b = a
operation_is_unsigned other a b = a || b

-- what `&&`, `||` and comparisons give is an `int`; the others give what they are
abbrev pub result_is_unsigned : Operator → Bool → Bool → Bool
result_is_unsigned both a b = false
result_is_unsigned either a b = false
result_is_unsigned equal a b = false
result_is_unsigned differs a b = false
result_is_unsigned less a b = false
result_is_unsigned greater a b = false
result_is_unsigned at_most a b = false
result_is_unsigned at_least a b = false
result_is_unsigned other a b = operation_is_unsigned other a b

-- what `!` gives is an `int`
abbrev pub sign_is_unsigned : Operator → Bool → Bool
sign_is_unsigned not_true a = false
sign_is_unsigned other a = a

abbrev mutual
  -- whether an expression is a word that is `unsigned`
  pub is_unsigned_by : (List ℕ → NameType) → tree.Expression → Bool
  is_unsigned_by names (tree.expression form pos) = form_is_unsigned names form

  pub form_is_unsigned : (List ℕ → NameType) → tree.Form → Bool
  form_is_unsigned names (tree.number value is_unsigned) = is_unsigned
  form_is_unsigned names (tree.name text) = word_is_unsigned (names text)
  form_is_unsigned names (tree.index text i) = elements_are_unsigned (names text)
  form_is_unsigned names (tree.unary symbol a) = sign_is_unsigned (operator_at symbol) (is_unsigned_by names a)
  form_is_unsigned names (tree.binary symbol a b) = result_is_unsigned (operator_at symbol) (is_unsigned_by names a) (is_unsigned_by names b)
  form_is_unsigned names (tree.choice test a b) = is_unsigned_by names a || is_unsigned_by names b
  form_is_unsigned names (tree.cast is_unsigned a) = is_unsigned
