-- Operations that have as many operands as their symbols take.
use Rattle.std.specs.Prelude.{◌≡◌, ℕ, suc, Bool, true, false, ◌||◌, nat_eq}
use Rattle.xc_tree.specs.Plain as tree
use Rattle.xc_kernel.specs.Operators as operator
use Rattle.xc_kernel.specs.Operators.{Operator, operator_at}
use Rattle.xc_kernel.specs.Plain as kernel
use Rattle.xc_wellformed.specs.Each.{AnyNumber, AnyOutput, AnyInput, EachRoot}

-- whether an operator takes so many operands; what is no operator takes none
abbrev pub takes : Operator → ℕ → Bool
takes operator.choose count = nat_eq count 3
takes operator.plus count = nat_eq count 1 || nat_eq count 2
takes operator.minus count = nat_eq count 1 || nat_eq count 2
takes operator.flip count = nat_eq count 1
takes operator.not_true count = nat_eq count 1
takes operator.no_operator count = false
takes other count = nat_eq count 2

abbrev pub count : kernel.Operands → ℕ
count kernel.no_operand = 0
count (kernel.more_operands e es) = suc (count es)

-- each operation in an expression has as many as its symbol takes
abbrev mutual
  pub HasOperands : kernel.Expression → Type 0
  HasOperands (kernel.number v) = Unit {0}
  HasOperands (kernel.read place) = PlaceHasOperands place
  HasOperands (kernel.operation symbol is_unsigned es pos) =
      (takes (operator_at symbol) (count es) ≡ true) × AllHaveOperands es

  pub AllHaveOperands : kernel.Operands → Type 0
  AllHaveOperands kernel.no_operand = Unit {0}
  AllHaveOperands (kernel.more_operands e es) = HasOperands e × AllHaveOperands es

  pub PlaceHasOperands : kernel.Place → Type 0
  PlaceHasOperands (kernel.word v) = Unit {0}
  PlaceHasOperands (kernel.element v i pos) = HasOperands i

-- so does each in all code of a kernel
abbrev pub OperandsAreRight : kernel.Kernel → Type 0
OperandsAreRight k =
    EachRoot HasOperands PlaceHasOperands AnyNumber AnyOutput AnyInput AnyNumber k.roots

-- so does each in an expression of a text
abbrev mutual
  pub IsProper : tree.Expression → Type 0
  IsProper (tree.expression form pos) = IsProperForm form

  pub IsProperForm : tree.Form → Type 0
  IsProperForm (tree.number value is_unsigned) = Unit {0}
  IsProperForm (tree.name text) = Unit {0}
  IsProperForm (tree.index text i) = IsProper i
  IsProperForm (tree.unary symbol a) = (takes (operator_at symbol) 1 ≡ true) × IsProper a
  IsProperForm (tree.binary symbol a b) = (takes (operator_at symbol) 2 ≡ true) × (IsProper a × IsProper b)
  IsProperForm (tree.choice test a b) = IsProper test × (IsProper a × IsProper b)
  IsProperForm (tree.cast is_unsigned a) = IsProper a
