-- The operators of the code, as those of the definitions.
use Rattle.xc_kernel.specs.Operators as spec
use Rattle.xc_kernel.specs.declared.operators.Operator.{Operator}
use Rattle.xc_kernel.specs.declared.operators.Operator.TheVariants.{BoundsCheck, Cond, BitAnd, BitOr, BitXor, BitNot, Not, Plus, Minus, Times, Divide, Remainder, Less, Greater, Equal, Ne, AtMost, AtLeast, And, Or, ShiftUp, ShiftDown, NoOperator}

-- the operator that one stands for
abbrev pub operator_meant : Operator → spec.Operator
operator_meant BoundsCheck = spec.below_length
operator_meant Cond = spec.choose
operator_meant BitAnd = spec.bit_and
operator_meant BitOr = spec.bit_or
operator_meant BitXor = spec.bit_xor
operator_meant BitNot = spec.flip
operator_meant Not = spec.not_true
operator_meant Plus = spec.plus
operator_meant Minus = spec.minus
operator_meant Times = spec.times
operator_meant Divide = spec.divide
operator_meant Remainder = spec.remainder
operator_meant Less = spec.less
operator_meant Greater = spec.greater
operator_meant Equal = spec.equal
operator_meant Ne = spec.differs
operator_meant AtMost = spec.at_most
operator_meant AtLeast = spec.at_least
operator_meant And = spec.both
operator_meant Or = spec.either
operator_meant ShiftUp = spec.shift_up
operator_meant ShiftDown = spec.shift_down
operator_meant NoOperator = spec.no_operator
