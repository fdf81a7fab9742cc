use Rattle.std.proofs.Common.{◌≡◌, List, [], ◌∷◌}
use Rattle.std.proofs.lemmas.Result.{IfOk-from_err, IfOk-at_ok}
use Rattle.xc_kernel.specs.declared.statement.Kst.{Kst}
use Rattle.xc_kernel.proofs.Forms.{statement-If}
use Rattle.xc_inline.proofs.context.Context.leave_unless.Goals as goal

pub returns-in_err-test : goal.returns-in_err-test
returns-in_err-test c = IfOk-from_err c.from_residual.result _ c.from_residual.ensures.0

pub returns : goal.returns
returns c =
    let left = IfOk-at_ok (λ (l : List Kst). l ≡ c.leave.result ∷ []) c.in_ok-test.ensures.made c.one-left.ensures in
    rw (statement-If, c.new.ensures, left, c.in_ok-test.ensures.value, c.leave.ensures)
