-- What an operator gives of words: a word, or an error.
use Rattle.std.specs.Prelude.{ℕ, Bool, true, false, not, List, [], ◌∷◌, Option, Some, None, nat_lt, nat_eq, bit_and, bit_or, bit_xor}
use Rattle.xw_words.specs.declared.pos.Pos.{Pos}
use Rattle.xw_words.specs.Words.{word_sum, word_difference, word_product, word_negative, word_flipped, truth, shifted_up, shifted_down, shifted_signed, signed_less, div_s, div_u, rem_s, rem_u}
use Rattle.xc_kernel.specs.Operators as operator
use Rattle.xc_kernel.specs.Operators.{Operator}

-- what an expression can err by
pub data ErrorKind : Type 0 where
  arithmetic : ErrorKind
  index : ErrorKind

-- a word, or an error and its place
pub data Value : Type 0 where
  word : ℕ → Value
  error : ErrorKind → Pos → Value

-- a word is true where it isn't 0
abbrev pub is_true : ℕ → Bool
is_true a = not (nat_eq a 0)

-- `tested`, by cases
abbrev pub tested_by : ℕ → Pos → Bool → Value
tested_by i pos true = word i
tested_by i pos false = error index pos

-- an index, where it is below the length
abbrev pub tested : ℕ → ℕ → Pos → Value
tested i length pos = tested_by i pos (nat_lt i length)

-- a quotient or remainder, where there is one
abbrev pub divided : Pos → Option ℕ → Value
divided pos (Some v) = word v
divided pos None = error arithmetic pos

-- by operators of `unsigned` words, or else of `int` ones
abbrev pub quotient : Bool → ℕ → ℕ → Option ℕ
quotient true a b = div_u a b
quotient false a b = div_s a b

abbrev pub remainder : Bool → ℕ → ℕ → Option ℕ
remainder true a b = rem_u a b
remainder false a b = rem_s a b

abbrev pub shifted : Bool → ℕ → ℕ → ℕ
shifted true a b = shifted_down a b
shifted false a b = shifted_signed a b

abbrev pub is_less : Bool → ℕ → ℕ → Bool
is_less true a b = nat_lt a b
is_less false a b = signed_less a b

-- of two words, for operators of `unsigned` words or else of `int` ones
abbrev pub of_two : Operator → Bool → Pos → ℕ → ℕ → Value
of_two operator.plus is_unsigned pos a b = word (word_sum a b)
of_two operator.minus is_unsigned pos a b = word (word_difference a b)
of_two operator.times is_unsigned pos a b = word (word_product a b)
of_two operator.divide is_unsigned pos a b = divided pos (quotient is_unsigned a b)
of_two operator.remainder is_unsigned pos a b = divided pos (remainder is_unsigned a b)
of_two operator.bit_and is_unsigned pos a b = word (bit_and a b)
of_two operator.bit_or is_unsigned pos a b = word (bit_or a b)
of_two operator.bit_xor is_unsigned pos a b = word (bit_xor a b)
of_two operator.shift_up is_unsigned pos a b = word (shifted_up a b)
of_two operator.shift_down is_unsigned pos a b = word (shifted is_unsigned a b)
of_two operator.equal is_unsigned pos a b = word (truth (nat_eq a b))
of_two operator.differs is_unsigned pos a b = word (truth (not (nat_eq a b)))
of_two operator.less is_unsigned pos a b = word (truth (is_less is_unsigned a b))
of_two operator.greater is_unsigned pos a b = word (truth (is_less is_unsigned b a))
of_two operator.at_most is_unsigned pos a b = word (truth (not (is_less is_unsigned b a)))
of_two operator.at_least is_unsigned pos a b = word (truth (not (is_less is_unsigned a b)))
of_two operator.below_length is_unsigned pos a b = tested a b pos
of_two other is_unsigned pos a b = word 0

-- of one word; `+` leaves it
abbrev pub of_one : Operator → ℕ → Value
of_one operator.minus a = word (word_negative a)
of_one operator.flip a = word (word_flipped a)
of_one operator.not_true a = word (truth (nat_eq a 0))
of_one other a = word a

-- 1 or 0, as a word is true
abbrev pub truth_of : Value → Value
truth_of (word a) = word (truth (is_true a))
truth_of (error kind pos) = error kind pos

-- `&&`: the second counts where the first is true
abbrev pub and_then : Bool → Value → Value
and_then true second = truth_of second
and_then false second = word 0

-- `||`: the second counts where the first is false
abbrev pub or_else : Bool → Value → Value
or_else true second = word 1
or_else false second = truth_of second

-- `? :`
abbrev pub choice : Bool → Value → Value → Value
choice true second third = second
choice false second third = third

-- of a word and the second operand's value
abbrev pub of_both : Operator → Bool → Pos → ℕ → Value → Value
of_both o is_unsigned pos a (word b) = of_two o is_unsigned pos a b
of_both o is_unsigned pos a (error kind at) = error kind at

-- of a word and what its operator makes of a second value
abbrev pub with_second : Operator → Bool → Pos → ℕ → Value → Value
with_second operator.both is_unsigned pos a second = and_then (is_true a) second
with_second operator.either is_unsigned pos a second = or_else (is_true a) second
with_second other is_unsigned pos a second = of_both other is_unsigned pos a second

-- Of the operands' values, in order: the first error among those that are needed counts.
abbrev pub applied : Operator → Bool → Pos → List Value → Value
applied o is_unsigned pos [] = word 0
applied o is_unsigned pos (error kind at ∷ rest) = error kind at
applied o is_unsigned pos (word a ∷ []) = of_one o a
applied o is_unsigned pos (word a ∷ second ∷ []) = with_second o is_unsigned pos a second
applied o is_unsigned pos (word a ∷ second ∷ third ∷ rest) = choice (is_true a) second third
