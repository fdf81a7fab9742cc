use Rattle.std.proofs.Common.{◌++◌, ◌∙◌, Bool, [], ap, arith, length, length-append, sym}
use Rattle.xc_kernel.specs.declared.statement.KSelect.{out-KSelect}
use Rattle.xc_kernel.specs.Kernels.{select_of}
use Rattle.xs_instr.specs.Lines.{last_pos}
use Rattle.xl_par.specs.Opening.{indices_of}
use Rattle.xl_select.specs.OpeningCode.{case_count, cases_depth, cases_in, cases_of, cases_parts, cases_starts, default_start, has_default, opening_lines, resources_from, select_pos, taking_lines}
use Rattle.xl_select.proofs.Aimed.{opening_aimed}
use Rattle.xl_select.proofs.Holes.{opening_open}
use Rattle.xl_select.proofs.Opens.{opening_opens}
use Rattle.xl_select.proofs.Opened.{begun_length, cases_are, count_is, default_is, opened, opened_starts, taking_few}
use Rattle.xl_select.proofs.opening.open_select.Goals as goal

pub put_cases-requires-clause-room : goal.put_cases-requires-clause-room
put_cases-requires-clause-room c =
    omega (arith, ap cases_parts (cases_are c.args.s.now c.as_slice.result.now c.as_slice.ensures), begun_length c.args.s.now c.args.e.now c.put_all.new.self c.in_ok-put_all.ensures.ok, c.requires.room)

pub put_cases-requires-clause-shallow : goal.put_cases-requires-clause-shallow
put_cases-requires-clause-shallow c =
    omega (arith, ap cases_depth (cases_are c.args.s.now c.as_slice.result.now c.as_slice.ensures), c.requires.shallow)

pub put_cases-requires-clause-few : goal.put_cases-requires-clause-few
put_cases-requires-clause-few c =
    let e = cases_are c.args.s.now c.as_slice.result.now c.as_slice.ensures in
    omega (arith, ap (λ x. length (resources_from [] x)) e, c.requires.few)

pub put_taking-requires : goal.put_taking-requires
put_taking-requires c =
    omega (arith, ap cases_parts (cases_are c.args.s.now c.as_slice.result.now c.as_slice.ensures), begun_length c.args.s.now c.args.e.now c.put_all.new.self c.in_ok-put_all.ensures.ok, c.in_ok-put_cases.ensures.size, c.requires.room)

pub returns-clause-code : goal.returns-clause-code
returns-clause-code c =
    opened c.args.s.now c.args.plan.now c.args.ends.now c.as_slice.result.now c.as_slice.ensures c.args.e.now c.put_all.new.self c.in_ok-put_all.ensures.ok c.is_some.result c.put_cases.new.e c.put_taking.new.e c.is_some.ensures c.in_ok-put_cases.ensures.code c.in_ok-otherwise.ensures.code

pub returns-clause-holes : goal.returns-clause-holes
returns-clause-holes c =
    ap indices_of c.from_vec.ensures
    ∙ c.in_ok-put_cases.ensures.starts
    ∙ ap (λ holes. indices_of holes ++ cases_starts c.args.plan.now c.args.ends.now [] (length c.put_all.new.self) (last_pos c.put_all.new.self) (cases_of c.as_slice.result.now)) c.new-starts.ensures.items
    ∙ opened_starts c.args.s.now c.args.plan.now c.args.ends.now c.as_slice.result.now c.as_slice.ensures c.args.e.now c.put_all.new.self c.in_ok-put_all.ensures.ok

pub returns-clause-otherwise : goal.returns-clause-otherwise
returns-clause-otherwise c =
    c.in_ok-otherwise.ensures.otherwise
    ∙ ap (λ (b : Bool). default_start b (length c.put_taking.new.e)) (default_is c.args.s.now c.is_some.result c.is_some.ensures)

pub returns-clause-aimed : goal.returns-clause-aimed
returns-clause-aimed c =
    let s = select_of c.args.s.now in
    let pc = length c.args.e.now in
    record {
      lines = opening_lines c.args.plan.now c.args.ends.now (cases_in s) (has_default s) (select_pos s) pc;
      is = returns-clause-code c;
      so = opening_aimed c.args.plan.now c.args.ends.now (cases_in s) (has_default s) (select_pos s) pc;
    }

pub returns-clause-open : goal.returns-clause-open
returns-clause-open c =
    let s = select_of c.args.s.now in
    let pc = length c.args.e.now in
    let lines = opening_lines c.args.plan.now c.args.ends.now (cases_in s) (has_default s) (select_pos s) pc in
    record {
      lines = lines;
      is = returns-clause-code c;
      so = opening_open c.args.plan.now c.args.ends.now (cases_in s) (has_default s) (select_pos s) pc (length c.put_taking.new.e) (ap length (returns-clause-code c) ∙ length-append c.args.e.now lines);
    }

pub returns-clause-opens : goal.returns-clause-opens
returns-clause-opens c =
    let s = select_of c.args.s.now in
    let pc = length c.args.e.now in
    record {
      lines = opening_lines c.args.plan.now c.args.ends.now (cases_in s) (has_default s) (select_pos s) pc;
      is = returns-clause-code c;
      so = opening_opens c.args.plan.now c.args.ends.now (cases_in s) (has_default s) (select_pos s) pc c.requires.shallow c.requires.few;
    }

pub returns-clause-size : goal.returns-clause-size
returns-clause-size c =
    omega (arith, ap cases_parts (cases_are c.args.s.now c.as_slice.result.now c.as_slice.ensures), begun_length c.args.s.now c.args.e.now c.put_all.new.self c.in_ok-put_all.ensures.ok, c.in_ok-put_cases.ensures.size, ap length c.in_ok-otherwise.ensures.code, length-append c.put_cases.new.e (taking_lines c.is_some.result (out-KSelect c.args.s.now).pos), taking_few c.is_some.result (out-KSelect c.args.s.now).pos)

pub put_cases-requires-clause-ends : goal.put_cases-requires-clause-ends
put_cases-requires-clause-ends c =
    c.requires.ends
    ∙ ap case_count (sym (cases_are c.args.s.now c.as_slice.result.now c.as_slice.ensures))
    ∙ count_is c.as_slice.result.now
