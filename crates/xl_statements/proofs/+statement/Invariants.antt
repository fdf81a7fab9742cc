use Rattle.std.proofs.Common.{◌+◌, ◌*◌, ◌++◌, drop, map, option_map}
use Rattle.xc_kernel.specs.Kernels.{default_of, select_of, statement_of}
use Rattle.xl_par.specs.Opening.{indices_of}
use Rattle.xl_ends.specs.Sides.{sides_of}
use Rattle.xl_statements.specs.Built.{branches_of, statements_of}
use Rattle.xl_select.specs.Holes.{listed}
use Rattle.xl_select.specs.OpeningCode.{cases_of, index_of}
use Rattle.xl_statements.proofs.Cases.{CasesWalked}
use Rattle.xl_statements.proofs.Slaves.{SlavesWalked}
use Rattle.xl_statements.proofs.Walks.{Walked, branch_weights, case_weights, default_weight, weight, weights}
use Rattle.xl_statements.proofs.+statement.Given as goal

abbrev pub invariant-walk::emit_all-loop-statement : goal.invariant-walk::emit_all-loop-statement
invariant-walk::emit_all-loop-statement l = Walked l.plan (sides_of l.sides) (statements_of l.statements) (statements_of (drop l.statement-index l.statements)) l.initial.e l.e l.initial.left.items l.left.items

abbrev pub decreases-walk::emit_all : goal.decreases-walk::emit_all
decreases-walk::emit_all l = 2 * weights (statements_of l.statements.now)

abbrev pub decreases-walk::emit_one : goal.decreases-walk::emit_one
decreases-walk::emit_one l = 2 * weight (statement_of l.statement.now) + 1

abbrev pub decreases-walk::emit_block : goal.decreases-walk::emit_block
decreases-walk::emit_block l = 2 * weights (statements_of l.inside.now) + 1

abbrev pub decreases-walk::emit_if : goal.decreases-walk::emit_if
decreases-walk::emit_if l = 2 * (weights (statements_of l.first.now) + weights (statements_of l.second.now)) + 2

abbrev pub decreases-walk::emit_one_side : goal.decreases-walk::emit_one_side
decreases-walk::emit_one_side l = 2 * weights (statements_of l.first.now) + 1

abbrev pub decreases-walk::emit_two_sides : goal.decreases-walk::emit_two_sides
decreases-walk::emit_two_sides l = 2 * (weights (statements_of l.first.now) + weights (statements_of l.second.now)) + 1

abbrev pub decreases-walk::emit_loop : goal.decreases-walk::emit_loop
decreases-walk::emit_loop l = 2 * (weights (statements_of l.body.now) + weights (statements_of l.next.now)) + 1

abbrev pub decreases-par::emit_par : goal.decreases-par::emit_par
decreases-par::emit_par l = 2 * branch_weights (branches_of l.branches.now) + 2

abbrev pub decreases-par::emit_several : goal.decreases-par::emit_several
decreases-par::emit_several l = 2 * (weights (statements_of l.first.now) + branch_weights (branches_of l.others.now)) + 1

abbrev pub decreases-par::emit_slaves : goal.decreases-par::emit_slaves
decreases-par::emit_slaves l = 2 * branch_weights (branches_of l.branches.now)

abbrev pub decreases-par::emit_slave : goal.decreases-par::emit_slave
decreases-par::emit_slave l = 2 * weights (statements_of l.body.now) + 1

abbrev pub invariant-par::emit_slaves-loop-index : goal.invariant-par::emit_slaves-loop-index
invariant-par::emit_slaves-loop-index l =
    SlavesWalked l.plan (map sides_of l.each) (map sides_of (drop l.index l.each)) (branches_of l.branches) (branches_of (drop l.index l.branches)) (indices_of l.starts) (indices_of (drop l.index l.starts)) l.initial.e l.e l.initial.left.items l.left.items

abbrev pub decreases-select::emit_select : goal.decreases-select::emit_select
decreases-select::emit_select l = 2 * weight (select_of l.select.now)

abbrev pub decreases-select::emit_cases : goal.decreases-select::emit_cases
decreases-select::emit_cases l = 2 * (case_weights (cases_of l.cases.now) + default_weight (default_of l.otherwise.now))

abbrev pub decreases-select::emit_case : goal.decreases-select::emit_case
decreases-select::emit_case l = 2 * weights (statements_of l.body.now) + 1

abbrev pub decreases-select::emit_default : goal.decreases-select::emit_default
decreases-select::emit_default l = 2 * default_weight (default_of l.otherwise.now)

abbrev pub invariant-select::emit_cases-loop-index : goal.invariant-select::emit_cases-loop-index
invariant-select::emit_cases-loop-index l =
    CasesWalked l.plan (sides_of l.sides) (default_of l.otherwise) (cases_of l.cases) (cases_of (drop l.index l.cases)) (indices_of l.starts ++ listed (option_map index_of l.default_start)) (indices_of (drop l.index l.starts) ++ listed (option_map index_of l.default_start)) l.initial.e l.e l.initial.left.items l.left.items
