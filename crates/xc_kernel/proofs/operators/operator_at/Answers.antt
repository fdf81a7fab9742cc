use Rattle.std.proofs.Common.{arith, ap, sym, ◌∙◌, get_or}
use Rattle.xc_kernel.specs.Operators.{operators, no_operator}
use Rattle.xc_kernel.specs.declared.operators.TheConstants.{OPERATORS}
use Rattle.xc_kernel.specs.declared.operators.Operator.TheVariants.{BoundsCheck}
use Rattle.xc_kernel.proofs.Tables.{operator_there, operator_past}
use Rattle.xc_kernel.proofs.operators.operator_at.Goals as goal

pub returns-then-place-lt35 : goal.returns-then-place-lt35
returns-then-place-lt35 c = operator_there OPERATORS c.from-place.result BoundsCheck c.if-place-lt35.true ∙ ap (λ i. get_or operators i no_operator) c.from-place.ensures

pub returns-else-place-lt35 : goal.returns-else-place-lt35
returns-else-place-lt35 c = sym (operator_past operators c.args.symbol no_operator (omega (arith, c.if-place-lt35.false, c.from-place.ensures)))
