-- Numbers of a kernel that lie in its lists, where words are of variables and elements of arrays.
use Rattle.std.specs.Prelude.{◌≡◌, ℕ, ◌<◌, Bool, true, false, List, length, Some, slice_get}
use Rattle.xc_kernel.specs.declared.kernel.Var.{Var}
use Rattle.xc_kernel.specs.Plain as kernel
use Rattle.xc_wellformed.specs.Each.{AnyNumber, AnyOutput, AnyInput, EachRoot}

-- a variable of a list: an array, or one word
pub record IsVariable (vs : List Var) (number : ℕ) (is_array : Bool) : Type 0 where
  pub variable : Var
  pub there : slice_get vs number ≡ Some variable
  pub array : variable.array ≡ is_array
  pub one_word : is_array ≡ false → variable.words ≡ 1

-- a variable of a list, whichever of both
pub record IsListed (vs : List Var) (number : ℕ) : Type 0 where
  pub variable : Var
  pub there : slice_get vs number ≡ Some variable

-- V of the variable of each word, which is no array, and of each element, which is one
module _ (V : (number : ℕ) (is_array : Bool) → Type 0) where
  abbrev mutual
    pub NumbersInExpression : kernel.Expression → Type 0
    NumbersInExpression (kernel.number v) = Unit {0}
    NumbersInExpression (kernel.read place) = NumbersInPlace place
    NumbersInExpression (kernel.operation symbol is_unsigned es pos) = NumbersInOperands es

    pub NumbersInOperands : kernel.Operands → Type 0
    NumbersInOperands kernel.no_operand = Unit {0}
    NumbersInOperands (kernel.more_operands e es) = NumbersInExpression e × NumbersInOperands es

    pub NumbersInPlace : kernel.Place → Type 0
    NumbersInPlace (kernel.word v) = V v false
    NumbersInPlace (kernel.element v i pos) = V v true × NumbersInExpression i

-- in all code of a kernel a word is that of a variable of one word that is no array, and an element
-- that of an array
abbrev pub VariablesAreRight : kernel.Kernel → Type 0
VariablesAreRight k =
    EachRoot (NumbersInExpression (IsVariable k.variables)) (NumbersInPlace (IsVariable k.variables)) (IsListed k.variables) AnyOutput AnyInput AnyNumber k.roots

-- a channel of a kernel
abbrev pub IsChannel : kernel.Kernel → ℕ → Type 0
IsChannel k c = c < length k.channels
