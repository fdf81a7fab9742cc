use Rattle.xl_expr.proofs.Emitted.{on_err, same_extends}
use Rattle.xl_flow.proofs.flow.emit_back.Goals as goal

pub returns-in_err-put-clause-refused : goal.returns-in_err-put-clause-refused
returns-in_err-put-clause-refused c = on_err _ _ (same_extends _ _ c.in_err-put.ensures.refused)
