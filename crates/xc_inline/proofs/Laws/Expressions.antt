-- By what the walk meets plain data.
use Rattle.xc_tree.proofs.Forms.{expression-Expr, form-Num, form-Name, form-Index, form-Un, form-Bin, form-Cond, form-Cast}
use Rattle.xc_kernel.proofs.Forms.{expression-Num, expression-Read, expression-Op, place-Word, place-Elem, statement-Zero, statement-Set, statement-Exit, statement-Block, statement-Loop, statement-If}

-- in an expression of the kernel
pub ruleset values = (expression-Num, expression-Read, expression-Op, place-Word, place-Elem)

-- in an expression
pub ruleset words = (expression-Expr, form-Num, form-Name, form-Index, form-Un, form-Bin, form-Cond, form-Cast, values)

-- in a statement of the kernel
pub ruleset steps = (statement-Zero, statement-Set, statement-Exit, statement-Block, statement-Loop, statement-If, place-Word)
