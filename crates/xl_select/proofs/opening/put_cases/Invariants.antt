use Rattle.std.proofs.Common.{◌≡◌, ◌+◌, ◌*◌, ◌≤◌, ◌++◌, [], drop, length}
use Rattle.xs_instr.specs.Extends.{Extends}
use Rattle.xs_instr.specs.Lines.{last_pos}
use Rattle.xl_par.specs.Opening.{indices_of}
use Rattle.xl_select.specs.OpeningCode.{cases_depth, cases_lines, cases_of, cases_parts, cases_starts, resources_from}
use Rattle.xl_select.proofs.opening.put_cases.Given as goal

-- what was added, and then the lines of the cases that are left, are the lines of all
abbrev pub invariant-each : goal.invariant-each
invariant-each l = record {
  code : l.initial.e ++ cases_lines l.plan l.ends [] (length l.initial.e) (last_pos l.initial.e) (cases_of l.cases)
      ≡ l.e ++ cases_lines l.plan (drop l.case-index l.ends) l.seen.items (length l.e) (last_pos l.e) (cases_of (drop l.case-index l.cases));
  starts : indices_of l.initial.starts.items ++ cases_starts l.plan l.ends [] (length l.initial.e) (last_pos l.initial.e) (cases_of l.cases)
      ≡ indices_of l.starts.items ++ cases_starts l.plan (drop l.case-index l.ends) l.seen.items (length l.e) (last_pos l.e) (cases_of (drop l.case-index l.cases));
  seen : resources_from [] (cases_of l.cases) ≡ resources_from l.seen.items (cases_of (drop l.case-index l.cases));
  size : length l.e + 8 * cases_parts (cases_of (drop l.case-index l.cases)) ≤ length l.initial.e + 8 * cases_parts (cases_of l.cases);
  deep : cases_depth (cases_of (drop l.case-index l.cases)) ≤ 400;
  place : l.index ≡ l.case-index;
  extends : Extends l.initial.e l.e;
}
