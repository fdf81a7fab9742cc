use Rattle.std.proofs.Common.{sym}
use Rattle.xc_inline.proofs.Laws.Operators.{plain_sign}
use Rattle.xc_inline.proofs.operators.sign_is_unsigned.Goals as goal

pub returns : goal.returns
returns c = sym (plain_sign c.args.symbol c.args.operand c.if-symbol-eq-BANG.false)
