use Rattle.std.proofs.Common.{ℕ, Option, refl, ap, ◌∙◌}
use Rattle.xc_tree.specs.Names.Ports.{by_sign, by_operator}
use Rattle.xc_tree.proofs.Forms.{expression-Expr, form-Num, form-Name, form-Index, form-Un, form-Bin, form-Cond, form-Cast}
use Rattle.xc_names.proofs.ports.+place_number.Goals as goal

pub returns-in-Num : goal.returns-in-Num
returns-in-Num t c = rw (expression-Expr, c.in-Num.is, form-Num) refl

pub returns-in-Name : goal.returns-in-Name
returns-in-Name t c = rw (expression-Expr, c.in-Name.is, form-Name) refl

pub returns-in-Index : goal.returns-in-Index
returns-in-Index t c = rw (expression-Expr, c.in-Index.is, form-Index) refl

pub returns-in-Un : goal.returns-in-Un
returns-in-Un t c =
    rw (expression-Expr, c.in-Un.is, form-Un, ← c.deref.ensures) (c.by_sign.ensures ∙ ap (by_sign c.in-Un.symbol) c.place_number.ensures)

pub returns-in-Bin : goal.returns-in-Bin
returns-in-Bin t c =
    rw (expression-Expr, c.in-Bin.is, form-Bin, ← c.deref-in-Bin.ensures, ← c.deref-in-Bin-2.ensures)
    (c.by_operator.ensures
    ∙ ap (λ (left : Option ℕ). by_operator c.in-Bin.symbol left c.place_number-in-Bin-2.result) c.place_number-in-Bin.ensures
    ∙ ap (by_operator c.in-Bin.symbol _) c.place_number-in-Bin-2.ensures)

pub returns-in-Cond : goal.returns-in-Cond
returns-in-Cond t c = rw (expression-Expr, c.in-Cond.is, form-Cond) refl

pub returns-in-Cast : goal.returns-in-Cast
returns-in-Cast t c = rw (expression-Expr, c.in-Cast.is, form-Cast) refl
