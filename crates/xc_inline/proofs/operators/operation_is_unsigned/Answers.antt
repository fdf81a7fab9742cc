use Rattle.std.proofs.Common.{ap, sym, ◌∙◌, ◌||◌}
use Rattle.xc_inline.proofs.Laws.Operators.{plain_operation}
use Rattle.xc_inline.proofs.operators.operation_is_unsigned.Goals as goal

pub returns-else-left : goal.returns-else-left
returns-else-left c = sym (plain_operation c.args.symbol c.args.left c.args.right c.if-symbol-eq-SHIFT_UP.false c.if-symbol-eq-SHIFT_DOWN.false ∙ ap (λ l. l || c.args.right) c.if-left.false)
