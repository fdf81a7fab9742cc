use Rattle.std.proofs.Common.{◌≡◌, None, sym, ap, ◌∙◌}
use Rattle.xf_time.proofs.Numbers.{err_form, err_held, err_none, ok_bounds, ok_unbroken}
use Rattle.xf_time.proofs.timing.bounds.Goals as goal
use Rattle.xf_time.specs.Bounds.{by_place, first_misplaced}

pub returns-in-Err-clause-broken : goal.returns-in-Err-clause-broken
returns-in-Err-clause-broken c = err_form c.args.image.now c.args.text.now c.in-Err.e c.in-Err.ensures.broken

pub returns-in-Some-clause-broken : goal.returns-in-Some-clause-broken
returns-in-Some-clause-broken c =
    by_place c.in-Ok.ensures.formed
    (ap (first_misplaced c.args.image.now) (sym (c.as_slice.ensures ∙ c.in-Ok.ensures.routes)) ∙ sym c.first_misplaced.ensures ∙ c.in-Some.is)

pub returns-clause-numbers : goal.returns-clause-numbers
returns-clause-numbers c =
    let placed : first_misplaced c.args.image.now c.as_slice-2.result.now ≡ None =
    ap (first_misplaced c.args.image.now) (c.as_slice-2.ensures ∙ sym c.as_slice.ensures) ∙ sym c.first_misplaced.ensures ∙ c.in_default.is in
    ok_bounds c.args.image.now c.args.text.now c.as_slice-2.result.now c.numbers_of.result c.in-Ok.ensures.formed placed
    (c.as_slice-2.ensures ∙ c.in-Ok.ensures.routes) c.numbers_of.ensures.numbers

pub returns-clause-unbroken : goal.returns-clause-unbroken
returns-clause-unbroken c = ok_unbroken c.args.image.now c.args.text.now c.numbers_of.result (returns-clause-numbers c)

pub returns-clause-broken : goal.returns-clause-broken
returns-clause-broken c =
    let placed : first_misplaced c.args.image.now c.as_slice-2.result.now ≡ None =
    ap (first_misplaced c.args.image.now) (c.as_slice-2.ensures ∙ sym c.as_slice.ensures) ∙ sym c.first_misplaced.ensures ∙ c.in_default.is in
    err_held c.args.image.now c.args.text.now c.as_slice-2.result.now c.numbers_of.result c.in-Ok.ensures.formed placed
    (c.as_slice-2.ensures ∙ c.in-Ok.ensures.routes) c.numbers_of.ensures.held

pub returns-clause-none : goal.returns-clause-none
returns-clause-none c = err_none c.args.image.now c.args.text.now c.numbers_of.result (returns-clause-broken c)
