use Rattle.std.proofs.Common.{◌≡◌, ◌++◌, List, OnOk, subst, ◌∙◌}
use Rattle.xc_tree.specs.declared.names.Mark.{Mark}
use Rattle.xc_tree.proofs.Forms.{statement-Stmt, action-Block}
use Rattle.xc_names.proofs.Bodies.{body_of_other}
use Rattle.xc_names.proofs.marks.body.Goals as goal

pub returns-in_default : goal.returns-in_default
returns-in_default c =
    subst (λ (ms : List Mark). OnOk c.statement.result (c.statement.new.out ≡ c.args.out.now ++ ms)) (body_of_other c.args.s.now (λ ss e. c.in_default.not-Block ss (c.deref.ensures ∙ e))) c.statement.ensures

pub returns-in-Block : goal.returns-in-Block
returns-in-Block c = rw (statement-Stmt, ← c.deref.ensures, c.in-Block.is, action-Block, ← c.as_slice.ensures) c.statements.ensures
