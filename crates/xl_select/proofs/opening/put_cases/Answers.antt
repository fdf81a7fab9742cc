use Rattle.std.proofs.Common.{◌≡◌, ◌+◌, ◌∙◌, ap, arith, drop, length, map, option_map}
use Rattle.xc_kernel.specs.Kernels.{expression_of, input_of, statement_of}
use Rattle.xc_kernel.specs.Plain as kernel
use Rattle.xl_expr.proofs.Emitted.{on_err}
use Rattle.xl_par.specs.Opening.{indices_of}
use Rattle.xl_select.specs.OpeningCode.{cases_depth, cases_of, cases_parts, flag_for}
use Rattle.xl_select.proofs.Opened.{case_at, ends_at, extends_behind, extends_on, next_code, next_seen, next_starts, seen_few}
use Rattle.xl_select.proofs.opening.put_cases.Goals as goal

pub flag_of-flag-requires : goal.flag_of-flag-requires
flag_of-flag-requires c =
    let rest = cases_of (drop c.each.case-index c.args.cases.now) in
    omega (arith, ap length c.as_slice.ensures.value, seen_few c.each.seen.items rest, ap length c.each.invariant.seen, c.requires.few)

pub put_case-requires-clause-room : goal.put_case-requires-clause-room
put_case-requires-clause-room c =
    let at = case_at c.args.cases.now c.each.case-index c.case-item.result c.case-item.is c.each-test.true in
    omega (arith, ap cases_parts at, c.each.invariant.size, c.requires.room)

pub put_case-requires-clause-shallow : goal.put_case-requires-clause-shallow
put_case-requires-clause-shallow c =
    let at = case_at c.args.cases.now c.each.case-index c.case-item.result c.case-item.is c.each-test.true in
    omega (arith, ap cases_depth at, c.each.invariant.deep)

pub returns-in_err-start-clause-refused : goal.returns-in_err-start-clause-refused
returns-in_err-start-clause-refused c = on_err _ _ (extends_behind _ _ _ c.each.invariant.extends c.in_err-start.ensures.refused)

pub returns-in_err-push_start-clause-refused : goal.returns-in_err-push_start-clause-refused
returns-in_err-push_start-clause-refused c =
    on_err _ _ (extends_on _ _ _ _ c.each.invariant.extends c.in_ok-start.ensures.code)

pub returns-in_err-note_resource-clause-refused : goal.returns-in_err-note_resource-clause-refused
returns-in_err-note_resource-clause-refused c =
    on_err _ _ (extends_on _ _ _ _ c.each.invariant.extends c.in_ok-start.ensures.code)

pub each-preserved : goal.each-preserved
each-preserved c =
    let plan = c.args.plan.now in
    let ends = c.args.ends.now in
    let n = c.each.case-index in
    let ends_left = drop n ends in
    let ends_behind = drop (n + 1) ends in
    let ends_first = ends_at ends n c.each.index c.each.invariant.place (omega (arith, c.requires.ends, c.each-test.true)) in
    let x = c.case-item.result in
    let i = input_of x.head in
    let guard = option_map expression_of x.guard in
    let ss = kernel.statements (map statement_of x.body) in
    let seen = c.each.seen.items in
    let all = cases_of (drop c.each.case-index c.args.cases.now) in
    let rest = cases_of (drop (c.each.case-index + 1) c.args.cases.now) in
    let e = c.each.e in
    let grown = c.put_case.new.e in
    let noted = c.note_resource.new.seen.items in
    let flag = c.flag_of-flag.result in
    let at = case_at c.args.cases.now c.each.case-index x c.case-item.is c.each-test.true in
    let flag_is : flag ≡ flag_for seen i.resource = c.flag_of-flag.ensures ∙ ap (λ s. flag_for s i.resource) c.as_slice.ensures.value in
    let code = c.in_ok-start.ensures.code in
    record {
      code = c.each.invariant.code ∙ next_code plan _ ends_left ends_behind (ends_first.1) (ends_first.0) seen noted flag guard i ss rest all at e grown flag_is c.in_ok-note_resource.ensures code;
      starts = c.each.invariant.starts ∙ next_starts plan _ ends_left ends_behind (ends_first.1) (ends_first.0) seen noted flag guard i ss rest all at e grown flag_is c.in_ok-note_resource.ensures code (indices_of c.each.starts.items) (indices_of c.push_start.new.starts.items) c.in_ok-start.start.index c.in_ok-start.ensures.start c.in_ok-push_start.ensures;
      seen = c.each.invariant.seen ∙ next_seen plan _ ends_left ends_behind (ends_first.1) (ends_first.0) seen noted flag guard i ss rest all at e grown flag_is c.in_ok-note_resource.ensures code;
      size = omega (arith, ap cases_parts at, c.each.invariant.size, c.in_ok-start.ensures.size);
      place = omega (arith, c.each.invariant.place);
      deep = omega (arith, ap cases_depth at, c.each.invariant.deep);
      extends = extends_on _ _ _ _ c.each.invariant.extends code;
    }
