use Rattle.std.proofs.Common.{sym, ◌∙◌, ap}
use Rattle.xw_io.specs.Outside.{gained}
use Rattle.xw_io.proofs.Sinks.{gained-nothing}
use Rattle.xr_driver.specs.Answers.{whole, out_fell, err_fell}
use Rattle.xr_driver.proofs.Given.{gave_all, gave_front, nothing_yet, all_of_it}
use Rattle.xr_driver.proofs.deliver.deliver.Goals as goal

pub returns-then-is_err-clause-delivered : goal.returns-then-is_err-clause-delivered
returns-then-is_err-clause-delivered g c =
    let p = gave_front _ _ _ (sym c.is_err.ensures.value ∙ c.if-is_err.true) c.put_printed.ensures in
    out_fell p.1 p.2 (nothing_yet _ _)

pub returns-then-not-is_due-clause-delivered : goal.returns-then-not-is_due-clause-delivered
returns-then-not-is_due-clause-delivered g c =
    let p = gave_all _ _ _ (sym c.is_err.ensures.value ∙ c.if-is_err.false) c.put_printed.ensures in
    let none = c.is_due.ensures.nothing c.if-not-is_due.true in
    whole p.1 (sym (gained-nothing _) ∙ sym (ap (gained _) none))

pub returns-then-is_err-2-clause-delivered : goal.returns-then-is_err-2-clause-delivered
returns-then-is_err-2-clause-delivered g c =
    let p = gave_all _ _ _ (sym c.is_err.ensures.value ∙ c.if-is_err.false) c.put_printed.ensures in
    let q = gave_front _ _ _ (sym c.is_err-2.ensures.value ∙ c.if-is_err-2.true) c.put_line.ensures in
    err_fell q.1 (c.is_due.ensures.due c.if-not-is_due.false) (all_of_it _ _ _ p.1) q.2

pub returns-clause-delivered : goal.returns-clause-delivered
returns-clause-delivered g c =
    let p = gave_all _ _ _ (sym c.is_err.ensures.value ∙ c.if-is_err.false) c.put_printed.ensures in
    let q = gave_all _ _ _ (sym c.is_err-2.ensures.value ∙ c.if-is_err-2.false) c.put_line.ensures in
    whole p.1 q.1

pub returns-then-is_err-clause-out_counts : goal.returns-then-is_err-clause-out_counts
returns-then-is_err-clause-out_counts g c =
    let p = gave_front _ _ _ (sym c.is_err.ensures.value ∙ c.if-is_err.true) c.put_printed.ensures in
    p.0

pub returns-then-not-is_due-clause-out_counts : goal.returns-then-not-is_due-clause-out_counts
returns-then-not-is_due-clause-out_counts g c =
    let p = gave_all _ _ _ (sym c.is_err.ensures.value ∙ c.if-is_err.false) c.put_printed.ensures in
    p.0

pub returns-then-is_err-2-clause-out_counts : goal.returns-then-is_err-2-clause-out_counts
returns-then-is_err-2-clause-out_counts g c =
    let p = gave_all _ _ _ (sym c.is_err.ensures.value ∙ c.if-is_err.false) c.put_printed.ensures in
    p.0

pub returns-then-is_err-2-clause-err_counts : goal.returns-then-is_err-2-clause-err_counts
returns-then-is_err-2-clause-err_counts g c =
    let p = gave_front _ _ _ (sym c.is_err-2.ensures.value ∙ c.if-is_err-2.true) c.put_line.ensures in
    p.0

pub returns-clause-out_counts : goal.returns-clause-out_counts
returns-clause-out_counts g c =
    let p = gave_all _ _ _ (sym c.is_err.ensures.value ∙ c.if-is_err.false) c.put_printed.ensures in
    p.0

pub returns-clause-err_counts : goal.returns-clause-err_counts
returns-clause-err_counts g c =
    let p = gave_all _ _ _ (sym c.is_err-2.ensures.value ∙ c.if-is_err-2.false) c.put_line.ensures in
    p.0
