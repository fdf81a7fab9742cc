use Rattle.std.proofs.Common.{sym, append-nil}
use Rattle.xc_tree.specs.Depth as depths
use Rattle.xc_tree.specs.Trees.{expression_of}
use Rattle.xc_tree.proofs.Forms.{expression-Expr, form-Num, form-Name, form-Index, form-Un, form-Bin, form-Cond, form-Cast}
use Rattle.xc_names.proofs.Depths.{under, same, first, second, second_of_three, third}
use Rattle.xc_names.proofs.Steps.{behind_one, behind_two, behind_three}
use Rattle.xc_names.proofs.marks.+expression.Goals as goal

pub returns-in-Num : goal.returns-in-Num
returns-in-Num t c = rw (expression-Expr, c.in-Num.is, form-Num) (sym (append-nil c.args.out.now))

pub returns-in-Name : goal.returns-in-Name
returns-in-Name t c = rw (expression-Expr, c.in-Name.is, form-Name) c.add_use.ensures

pub returns-in_ok-add_use-in-Index : goal.returns-in_ok-add_use-in-Index
returns-in_ok-add_use-in-Index t c =
    rw (expression-Expr, c.in-Index.is, form-Index, behind_one, ← c.in_ok-add_use-in-Index.ensures, ← c.deref.ensures) c.expression.ensures

pub returns-in-Un : goal.returns-in-Un
returns-in-Un t c = rw (expression-Expr, c.in-Un.is, form-Un, ← c.deref-in-Un.ensures) c.expression-in-Un.ensures

pub returns-in_ok-expression-in-Bin : goal.returns-in_ok-expression-in-Bin
returns-in_ok-expression-in-Bin t c =
    rw (expression-Expr, c.in-Bin.is, form-Bin, behind_two, ← c.deref-in-Bin.ensures, ← c.in_ok-expression-in-Bin.ensures, ← c.deref-in-Bin-2.ensures) c.expression-in-Bin-2.ensures

pub returns-in_ok-expression-in-Cond-2 : goal.returns-in_ok-expression-in-Cond-2
returns-in_ok-expression-in-Cond-2 t c =
    rw (expression-Expr, c.in-Cond.is, form-Cond, behind_three, ← c.deref-in-Cond.ensures, ← c.in_ok-expression-in-Cond.ensures, ← c.deref-in-Cond-2.ensures, ← c.in_ok-expression-in-Cond-2.ensures, ← c.deref-in-Cond-3.ensures) c.expression-in-Cond-3.ensures

pub returns-in-Cast : goal.returns-in-Cast
returns-in-Cast t c = rw (expression-Expr, c.in-Cast.is, form-Cast, ← c.deref-in-Cast.ensures) c.expression-in-Cast.ensures

pub expression-requires : goal.expression-requires
expression-requires t c =
    let part = depths.of_expression (expression_of c.deref.result.now) in (
      under (depths.of_expression (expression_of c.args.e.now)) part c.decreases
          (rw (expression-Expr c.args.e.now, c.in-Index.is, form-Index, ← c.deref.ensures) (same _)),
      tt,
    )

pub expression-requires-in-Un : goal.expression-requires-in-Un
expression-requires-in-Un t c =
    let part = depths.of_expression (expression_of c.deref-in-Un.result.now) in (
      under (depths.of_expression (expression_of c.args.e.now)) part c.decreases
          (rw (expression-Expr c.args.e.now, c.in-Un.is, form-Un, ← c.deref-in-Un.ensures) (same _)),
      tt,
    )

pub expression-requires-in-Bin : goal.expression-requires-in-Bin
expression-requires-in-Bin t c =
    let part = depths.of_expression (expression_of c.deref-in-Bin.result.now) in (
      under (depths.of_expression (expression_of c.args.e.now)) part c.decreases
          (rw (expression-Expr c.args.e.now, c.in-Bin.is, form-Bin, ← c.deref-in-Bin.ensures) (first _ _)),
      tt,
    )

pub expression-requires-in-Bin-2 : goal.expression-requires-in-Bin-2
expression-requires-in-Bin-2 t c =
    let part = depths.of_expression (expression_of c.deref-in-Bin-2.result.now) in (
      under (depths.of_expression (expression_of c.args.e.now)) part c.decreases
          (rw (expression-Expr c.args.e.now, c.in-Bin.is, form-Bin, ← c.deref-in-Bin-2.ensures) (second _ _)),
      tt,
    )

pub expression-requires-in-Cond : goal.expression-requires-in-Cond
expression-requires-in-Cond t c =
    let part = depths.of_expression (expression_of c.deref-in-Cond.result.now) in (
      under (depths.of_expression (expression_of c.args.e.now)) part c.decreases
          (rw (expression-Expr c.args.e.now, c.in-Cond.is, form-Cond, ← c.deref-in-Cond.ensures) (first _ _)),
      tt,
    )

pub expression-requires-in-Cond-2 : goal.expression-requires-in-Cond-2
expression-requires-in-Cond-2 t c =
    let part = depths.of_expression (expression_of c.deref-in-Cond-2.result.now) in (
      under (depths.of_expression (expression_of c.args.e.now)) part c.decreases
          (rw (expression-Expr c.args.e.now, c.in-Cond.is, form-Cond, ← c.deref-in-Cond-2.ensures) (second_of_three _ part _)),
      tt,
    )

pub expression-requires-in-Cond-3 : goal.expression-requires-in-Cond-3
expression-requires-in-Cond-3 t c =
    let part = depths.of_expression (expression_of c.deref-in-Cond-3.result.now) in (
      under (depths.of_expression (expression_of c.args.e.now)) part c.decreases
          (rw (expression-Expr c.args.e.now, c.in-Cond.is, form-Cond, ← c.deref-in-Cond-3.ensures) (third _ _ _)),
      tt,
    )

pub expression-requires-in-Cast : goal.expression-requires-in-Cast
expression-requires-in-Cast t c =
    let part = depths.of_expression (expression_of c.deref-in-Cast.result.now) in (
      under (depths.of_expression (expression_of c.args.e.now)) part c.decreases
          (rw (expression-Expr c.args.e.now, c.in-Cast.is, form-Cast, ← c.deref-in-Cast.ensures) (same _)),
      tt,
    )
