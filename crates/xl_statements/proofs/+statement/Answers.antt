use Rattle.std.proofs.Common.{arith, ◌≡◌, ◌+◌, ◌-◌, ◌*◌, ◌<◌, ◌≤◌, ◌^◌, [], ◌∷◌, ◌++◌, length, get_or, map, option_map, true, drop, take, sym, ap, ◌∙◌, subst, length-append}
use Rattle.std.proofs.lemmas.List.{length-map}
use Rattle.std.proofs.Math.ListN.{drop_of_length-le}
use Rattle.xc_kernel.specs.Kernels.{default_of, expression_of, input_of, output_of, place_of, select_of, statement_of}
use Rattle.xc_kernel.specs.declared.statement.KSelect.{out-KSelect}
use Rattle.xc_kernel.specs.Plain as kernel
use Rattle.xc_kernel.proofs.Forms.{statement-If, statement-Loop, statement-Block, statement-Par, statement-Zero, statement-Set, statement-Out, statement-In, statement-Exit, statement-Select, statement-Tran, select-KSelect}
use Rattle.xs_instr.specs.Extends.{Extends}
use Rattle.xc_meaning.specs.Counts.KernelCounts.{branch_count}
use Rattle.xc_meaning.specs.Settings.Sides.{sides_in}
use Rattle.xs_instr.specs.Lines.{landed, line, open_line}
use Rattle.xs_instr.specs.declared.instr.Instr.TheVariants.{Brfu, Brbu}
use Rattle.xl_expr.specs.Measures.{nodes}
use Rattle.xl_expr.proofs.Emitted.{on_err}
use Rattle.xl_flow.specs.Flow.{Sets}
use Rattle.xl_flow.specs.Zeros.{Zeroes}
use Rattle.xl_par.specs.Opening.{indices_of}
use Rattle.xl_select.specs.Entry.{EntersCase}
use Rattle.xl_select.specs.Holes.{listed}
use Rattle.xl_select.specs.OpeningCode.{cases_in, cases_of, cases_parts, index_of}
use Rattle.xl_ends.specs.Branches.{sides_of_each}
use Rattle.xl_ends.specs.Ends.{codes_in}
use Rattle.xl_ends.specs.Sides.{sides_of}
use Rattle.xl_statements.specs.Branches.{SlavesEmitIn}
use Rattle.xl_statements.specs.Built.{BranchesAreBuilt, BranchesAreNarrow, BranchesAreShallow, DefaultIsBuilt, DefaultIsNarrow, DefaultIsShallow, IsBuilt, IsNarrow, IsShallow, branches_of, most, most_of_all, most_of_branches, most_of_default, statements_of}
use Rattle.xl_statements.specs.CaseEnds.{case_end}
use Rattle.xl_statements.specs.Emits.{AllEmit, Branching, CaseCode, Emitted, OneSide, ParEmits, SeveralBranches, TwoSides, is_last}
use Rattle.xl_statements.specs.Landing.{Lands}
use Rattle.xl_statements.proofs.Arms.{no_branch_emits, no_more, ok_as, ok_one_more, ok_summed, ok_within, on_err_on, on_ok, piece_emits, slave_ends, statement_emits, statement_within, transfer_emits}
use Rattle.xl_statements.specs.declared.leaving.JumpTarget.TheVariants.{BlockEnd}
use Rattle.xl_statements.proofs.Blocks.{block_ends, closed_extends, closed_size, inner_closable, outside_within}
use Rattle.xl_statements.proofs.Seams.{as_long, extends_by, extends_on}
use Rattle.xl_statements.proofs.Sides.{branch_one, branch_two, extends_4, length_4, one_open, one_side_emitted, over_open, past_open, sides_emitted}
use Rattle.xl_statements.proofs.Several.{aimed_so, holes_landable, jump_open, opened, opens_so, several_emitted, several_end, several_length, several_refused, starts_are, starts_length}
use Rattle.xl_statements.proofs.NextSlave.{next_slave, slaves_over}
use Rattle.xl_statements.proofs.OwnSides.{first_sides, one_in, others_sides, several_in, sides_count}
use Rattle.xl_statements.proofs.Cases.{case_code, case_lighter, case_open, case_refused, cases_begin, cases_count, cases_end, cases_go_on, cases_refused, default_code, default_is, default_landable, default_refused, no_default_code, some_weight_of_cases}
use Rattle.xl_statements.proofs.NextCase.{cases_over, next_case, rest_is}
use Rattle.xl_statements.proofs.Selects.{ends_as_many, opened_by, select_is, whole_closable, whole_count, whole_ends, whole_extends, whole_landable, whole_refused, whole_size, whole_within}
use Rattle.xl_statements.proofs.Slaves.{branch_lighter, branches_count, first_branch, indices_length, one_branch, slave_refused, slaves_begin, slave_open, slaves_go_on}
use Rattle.xl_statements.proofs.Starts.{all_size, landed_size}
use Rattle.xl_statements.proofs.Turns.{out_open, turns_emitted}
use Rattle.xl_statements.proofs.Walks.{Walked, branch_weights, default_weight, lighter, statements_at, walk_begins, walk_ends, walk_goes_on, weight, weights}
use Rattle.xl_statements.proofs.+statement.Goals as goal

-- one after another

pub walk::emit_all-loop-statement-init : goal.walk::emit_all-loop-statement-init
walk::emit_all-loop-statement-init t c = walk_begins c.args.plan.now (sides_of c.args.sides.now) (statements_of c.args.statements.now) c.args.e.now c.args.left.now.items c.requires.built c.requires.shallow c.requires.narrow

pub walk::emit_all-bounds-statements-statement-index : goal.walk::emit_all-bounds-statements-statement-index
walk::emit_all-bounds-statements-statement-index t c = c.loop-statement-test.true

pub walk::emit_all-emit_one-requires : goal.walk::emit_all-emit_one-requires
walk::emit_all-emit_one-requires t c =
    let ss = c.args.statements.now in
    let i = c.loop-statement.statement-index in
    let x = c.statement-item.result in
    let l = lighter ss i x c.statement-item.is c.loop-statement-test.true in
    let h = subst (λ p. Walked c.args.plan.now (sides_of c.args.sides.now) (statements_of ss) p c.args.e.now c.loop-statement.e c.args.left.now.items c.loop-statement.left.items) (statements_at ss i x c.statement-item.is c.loop-statement-test.true) c.loop-statement.invariant in
    (omega (arith, l, c.decreases), (h.built.0, (h.shallow.0, (h.narrow.0, (c.requires.stack, omega (arith, h.room, c.requires.room))))))

pub walk::emit_all-loop-statement-preserved : goal.walk::emit_all-loop-statement-preserved
walk::emit_all-loop-statement-preserved t c =
    let ss = c.args.statements.now in
    let i = c.loop-statement.statement-index in
    let x = c.statement-item.result in
    let h = subst (λ p. Walked c.args.plan.now (sides_of c.args.sides.now) (statements_of ss) p c.args.e.now c.loop-statement.e c.args.left.now.items c.loop-statement.left.items) (statements_at ss i x c.statement-item.is c.loop-statement-test.true) c.loop-statement.invariant in
    walk_goes_on c.args.plan.now (sides_of c.args.sides.now) (statements_of ss) (statements_of (drop (i + 1) ss)) (statement_of x) c.args.e.now c.loop-statement.e c.emit_one.new.e c.args.left.now.items c.loop-statement.left.items c.emit_one.new.left.items h c.in_ok-emit_one.ensures.code c.in_ok-emit_one.ensures.size

-- one side

pub walk::emit_one_side-emit_all-requires : goal.walk::emit_one_side-emit_all-requires
walk::emit_one_side-emit_all-requires t c =
    (omega (arith, c.decreases), (c.requires.built, (c.requires.shallow_first, (c.requires.narrow_first, (c.requires.stack, omega (arith, c.in_ok-past.ensures.size, c.requires.room))))))

pub walk::emit_one_side-land-requires : goal.walk::emit_one_side-land-requires
walk::emit_one_side-land-requires t c =
    one_open c.args.plan.now.vars (expression_of c.args.test.now) (AllEmit c.args.plan.now (sides_of c.args.sides.now) (statements_of c.args.first.now)) c.args.e.now c.emit_test.new.e c.emit_all.new.e c.args.left.now.items c.emit_all.new.left.items c.in_ok-past.past.index c.pos-last.result c.in_ok-past.ensures.tests c.in_ok-past.ensures.aimed c.in_ok-emit_all.ensures.code

pub walk::emit_one_side-returns-clause-code : goal.walk::emit_one_side-returns-clause-code
walk::emit_one_side-returns-clause-code t c =
    one_side_emitted c.args.plan.now.vars (expression_of c.args.test.now) (AllEmit c.args.plan.now (sides_of c.args.sides.now) (statements_of c.args.first.now)) c.args.e.now c.emit_test.new.e c.emit_all.new.e c.args.left.now.items c.emit_all.new.left.items c.in_ok-past.past.index c.pos-last.result c.in_ok-past.ensures.tests c.in_ok-past.ensures.aimed c.in_ok-emit_all.ensures.code c.land.new.self c.land.ensures c.pos-last.ensures

-- two sides

pub walk::emit_if-returns-else-second-eq0-clause-code : goal.walk::emit_if-returns-else-second-eq0-clause-code
walk::emit_if-returns-else-second-eq0-clause-code t c =
    let vars = c.args.plan.now.vars in
    let x = expression_of c.args.test.now in
    let a = AllEmit c.args.plan.now (sides_of c.args.sides.now) (statements_of c.args.first.now) in
    let b = AllEmit c.args.plan.now (sides_of c.args.sides.now) (statements_of c.args.second.now) in
    ok_as c.emit_two_sides.result (TwoSides vars x a b) (Branching (statements_of c.args.second.now) vars x a b) c.args.e.now c.emit_two_sides.new.e c.args.left.now.items c.emit_two_sides.new.left.items (branch_two c.args.second.now vars x a b (omega (arith, c.if-second-eq0.false))) c.emit_two_sides.ensures.code

pub walk::emit_two_sides-emit_all-requires : goal.walk::emit_two_sides-emit_all-requires
walk::emit_two_sides-emit_all-requires t c =
    (omega (arith, c.decreases), (c.requires.built, (c.requires.shallow_first, (c.requires.narrow_first, (c.requires.stack, omega (arith, c.in_ok-past.ensures.size, c.requires.room))))))

pub walk::emit_two_sides-land-requires : goal.walk::emit_two_sides-land-requires
walk::emit_two_sides-land-requires t c =
    past_open c.args.plan.now.vars (expression_of c.args.test.now) (AllEmit c.args.plan.now (sides_of c.args.sides.now) (statements_of c.args.first.now)) (AllEmit c.args.plan.now (sides_of c.args.sides.now) (statements_of c.args.second.now)) c.args.e.now c.emit_test.new.e c.emit_all.new.e c.emit_jump.new.e c.args.e.now c.args.left.now.items c.emit_all.new.left.items c.in_ok-past.past.index c.in_ok-over.over.index c.pos-last.result c.in_ok-past.ensures.tests c.in_ok-past.ensures.aimed c.in_ok-emit_all.ensures.code (c.in_ok-over.ensures.code ∙ ap (λ p. c.emit_all.new.e ++ open_line (Brfu 0) p ∷ []) c.pos-last-2.ensures) c.in_ok-over.ensures.index

pub walk::emit_two_sides-emit_all-requires-2 : goal.walk::emit_two_sides-emit_all-requires-2
walk::emit_two_sides-emit_all-requires-2 t c =
    let same = length_4 c.args.plan.now.vars (expression_of c.args.test.now) (AllEmit c.args.plan.now (sides_of c.args.sides.now) (statements_of c.args.first.now)) (AllEmit c.args.plan.now (sides_of c.args.sides.now) (statements_of c.args.second.now)) c.args.e.now c.emit_test.new.e c.emit_all.new.e c.emit_jump.new.e c.land.new.self c.args.left.now.items c.emit_all.new.left.items c.in_ok-past.past.index c.in_ok-over.over.index c.pos-last.result c.in_ok-past.ensures.tests c.in_ok-past.ensures.aimed c.in_ok-emit_all.ensures.code (c.in_ok-over.ensures.code ∙ ap (λ p. c.emit_all.new.e ++ open_line (Brfu 0) p ∷ []) c.pos-last-2.ensures) c.in_ok-over.ensures.index c.land.ensures in
    let jump = ap length c.in_ok-over.ensures.code ∙ length-append c.emit_all.new.e (open_line (Brfu 0) c.pos-last-2.result ∷ []) in
    (omega (arith, c.decreases), (c.requires.built_second, (c.requires.shallow_second, (c.requires.narrow_second, (c.requires.stack, omega (arith, same, jump, c.in_ok-emit_all.ensures.size, c.in_ok-past.ensures.size, c.requires.room))))))

pub walk::emit_two_sides-returns-in_err-emit_all-2-clause-refused : goal.walk::emit_two_sides-returns-in_err-emit_all-2-clause-refused
walk::emit_two_sides-returns-in_err-emit_all-2-clause-refused t c =
    on_err c.from_residual-in_err-emit_all-2.result (Extends c.args.e.now c.emit_all-2.new.e)
    (extends_on c.args.e.now c.land.new.self c.emit_all-2.new.e (extends_4 c.args.plan.now.vars (expression_of c.args.test.now) (AllEmit c.args.plan.now (sides_of c.args.sides.now) (statements_of c.args.first.now)) (AllEmit c.args.plan.now (sides_of c.args.sides.now) (statements_of c.args.second.now)) c.args.e.now c.emit_test.new.e c.emit_all.new.e c.emit_jump.new.e c.land.new.self c.args.left.now.items c.emit_all.new.left.items c.in_ok-past.past.index c.in_ok-over.over.index c.pos-last.result c.in_ok-past.ensures.tests c.in_ok-past.ensures.aimed c.in_ok-emit_all.ensures.code (c.in_ok-over.ensures.code ∙ ap (λ p. c.emit_all.new.e ++ open_line (Brfu 0) p ∷ []) c.pos-last-2.ensures) c.in_ok-over.ensures.index c.land.ensures) c.in_err-emit_all-2.ensures.refused)

pub walk::emit_two_sides-land-requires-2 : goal.walk::emit_two_sides-land-requires-2
walk::emit_two_sides-land-requires-2 t c =
    over_open c.args.plan.now.vars (expression_of c.args.test.now) (AllEmit c.args.plan.now (sides_of c.args.sides.now) (statements_of c.args.first.now)) (AllEmit c.args.plan.now (sides_of c.args.sides.now) (statements_of c.args.second.now)) c.args.e.now c.emit_test.new.e c.emit_all.new.e c.emit_jump.new.e c.land.new.self c.args.left.now.items c.emit_all.new.left.items c.in_ok-past.past.index c.in_ok-over.over.index c.pos-last.result c.in_ok-past.ensures.tests c.in_ok-past.ensures.aimed c.in_ok-emit_all.ensures.code (c.in_ok-over.ensures.code ∙ ap (λ p. c.emit_all.new.e ++ open_line (Brfu 0) p ∷ []) c.pos-last-2.ensures) c.in_ok-over.ensures.index c.land.ensures c.emit_all-2.new.e c.emit_all-2.new.left.items c.in_ok-emit_all-2.ensures.code

pub walk::emit_two_sides-returns-clause-code : goal.walk::emit_two_sides-returns-clause-code
walk::emit_two_sides-returns-clause-code t c =
    sides_emitted c.args.plan.now.vars (expression_of c.args.test.now) (AllEmit c.args.plan.now (sides_of c.args.sides.now) (statements_of c.args.first.now)) (AllEmit c.args.plan.now (sides_of c.args.sides.now) (statements_of c.args.second.now)) c.args.e.now c.emit_test.new.e c.emit_all.new.e c.emit_jump.new.e c.land.new.self c.args.left.now.items c.emit_all.new.left.items c.in_ok-past.past.index c.in_ok-over.over.index c.pos-last.result c.in_ok-past.ensures.tests c.in_ok-past.ensures.aimed c.in_ok-emit_all.ensures.code (c.in_ok-over.ensures.code ∙ ap (λ p. c.emit_all.new.e ++ open_line (Brfu 0) p ∷ []) c.pos-last-2.ensures) c.in_ok-over.ensures.index c.land.ensures c.emit_all-2.new.e c.emit_all-2.new.left.items c.in_ok-emit_all-2.ensures.code c.land-2.new.self c.land-2.ensures c.pos-last.ensures

-- a loop

pub walk::emit_loop-emit_all-requires : goal.walk::emit_loop-emit_all-requires
walk::emit_loop-emit_all-requires t c =
    (omega (arith, c.decreases), (c.requires.built, (c.requires.shallow_body, (c.requires.narrow_body, (c.requires.stack, omega (arith, c.in_ok-out.ensures.size, c.requires.room))))))

pub walk::emit_loop-emit_all-requires-2 : goal.walk::emit_loop-emit_all-requires-2
walk::emit_loop-emit_all-requires-2 t c =
    (omega (arith, c.decreases), (c.requires.built_next, (c.requires.shallow_next, (c.requires.narrow_next, (c.requires.stack, omega (arith, c.in_ok-emit_all.ensures.size, c.in_ok-out.ensures.size, c.requires.room))))))

pub walk::emit_loop-land-requires : goal.walk::emit_loop-land-requires
walk::emit_loop-land-requires t c =
    out_open c.args.plan.now.vars (expression_of c.args.test.now) (AllEmit c.args.plan.now (sides_of c.args.sides.now) (statements_of c.args.body.now)) (AllEmit c.args.plan.now (sides_of c.args.sides.now) (statements_of c.args.next.now)) c.args.e.now c.emit_test.new.e c.emit_all.new.e c.emit_all-2.new.e c.emit_back.new.e c.args.left.now.items c.emit_all.new.left.items c.emit_all-2.new.left.items c.here-start.result c.in_ok-out.out.index c.pos-last.result c.in_ok-out.ensures.tests c.in_ok-out.ensures.aimed c.in_ok-emit_all.ensures.code c.in_ok-emit_all-2.ensures.code c.here-start.ensures.next (c.in_ok-emit_back.ensures.code ∙ ap (λ p. c.emit_all-2.new.e ++ line (Brbu c.here-start.result) p ∷ []) c.pos-last-2.ensures)

pub walk::emit_loop-returns-clause-code : goal.walk::emit_loop-returns-clause-code
walk::emit_loop-returns-clause-code t c =
    turns_emitted c.args.plan.now.vars (expression_of c.args.test.now) (AllEmit c.args.plan.now (sides_of c.args.sides.now) (statements_of c.args.body.now)) (AllEmit c.args.plan.now (sides_of c.args.sides.now) (statements_of c.args.next.now)) c.args.e.now c.emit_test.new.e c.emit_all.new.e c.emit_all-2.new.e c.emit_back.new.e c.args.left.now.items c.emit_all.new.left.items c.emit_all-2.new.left.items c.here-start.result c.in_ok-out.out.index c.pos-last.result c.in_ok-out.ensures.tests c.in_ok-out.ensures.aimed c.in_ok-emit_all.ensures.code c.in_ok-emit_all-2.ensures.code c.here-start.ensures.next (c.in_ok-emit_back.ensures.code ∙ ap (λ p. c.emit_all-2.new.e ++ line (Brbu c.here-start.result) p ∷ []) c.pos-last-2.ensures) c.land.new.self c.land.ensures c.pos-last.ensures

-- a block

pub walk::emit_block-end_here-requires-clause-within : goal.walk::emit_block-end_here-requires-clause-within
walk::emit_block-end_here-requires-clause-within t c =
    let n : c.len-outside.result ≡ length c.args.left.now.items = omega (arith, c.len-outside.ensures, c.args.left.now.ok.0) in
    outside_within (AllEmit c.args.plan.now (sides_of c.args.sides.now) (statements_of c.args.inside.now)) (BlockEnd c.args.block) c.args.e.now c.emit_all.new.e c.args.left.now.items c.emit_all.new.left.items c.in_ok-emit_all.ensures.code c.len-outside.result n

pub walk::emit_block-end_here-requires-clause-closable : goal.walk::emit_block-end_here-requires-clause-closable
walk::emit_block-end_here-requires-clause-closable t c =
    let n : c.len-outside.result ≡ length c.args.left.now.items = omega (arith, c.len-outside.ensures, c.args.left.now.ok.0) in
    inner_closable (AllEmit c.args.plan.now (sides_of c.args.sides.now) (statements_of c.args.inside.now)) (BlockEnd c.args.block) c.args.e.now c.emit_all.new.e c.args.left.now.items c.emit_all.new.left.items c.in_ok-emit_all.ensures.code c.len-outside.result n

pub walk::emit_block-returns-clause-refused : goal.walk::emit_block-returns-clause-refused
walk::emit_block-returns-clause-refused t c =
    let n : c.len-outside.result ≡ length c.args.left.now.items = omega (arith, c.len-outside.ensures, c.args.left.now.ok.0) in
    on_err c.end_here.result (Extends c.args.e.now c.end_here.new.e)
    (closed_extends (AllEmit c.args.plan.now (sides_of c.args.sides.now) (statements_of c.args.inside.now)) (BlockEnd c.args.block) c.args.e.now c.emit_all.new.e c.args.left.now.items c.emit_all.new.left.items c.in_ok-emit_all.ensures.code c.len-outside.result n c.end_here.new.e c.end_here.ensures.lines)

pub walk::emit_block-returns-clause-code : goal.walk::emit_block-returns-clause-code
walk::emit_block-returns-clause-code t c =
    let n : c.len-outside.result ≡ length c.args.left.now.items = omega (arith, c.len-outside.ensures, c.args.left.now.ok.0) in
    block_ends (AllEmit c.args.plan.now (sides_of c.args.sides.now) (statements_of c.args.inside.now)) (BlockEnd c.args.block) c.args.e.now c.emit_all.new.e c.args.left.now.items c.emit_all.new.left.items c.in_ok-emit_all.ensures.code c.len-outside.result n c.end_here.new.e c.end_here.ensures.lines c.end_here.result c.end_here.new.left.items c.end_here.ensures.others

pub walk::emit_block-returns-clause-size : goal.walk::emit_block-returns-clause-size
walk::emit_block-returns-clause-size t c =
    let n : c.len-outside.result ≡ length c.args.left.now.items = omega (arith, c.len-outside.ensures, c.args.left.now.ok.0) in
    let same = closed_size (AllEmit c.args.plan.now (sides_of c.args.sides.now) (statements_of c.args.inside.now)) (BlockEnd c.args.block) c.args.e.now c.emit_all.new.e c.args.left.now.items c.emit_all.new.left.items c.in_ok-emit_all.ensures.code c.len-outside.result n c.end_here.new.e c.end_here.ensures.lines in
    on_ok c.end_here.result (length c.end_here.new.e ≤ length c.args.e.now + most_of_all c.args.plan.now.vars (statements_of c.args.inside.now)) (omega (arith, same, c.in_ok-emit_all.ensures.size))

-- one statement

pub walk::emit_one-returns-in-Zero-clause-code : goal.walk::emit_one-returns-in-Zero-clause-code
walk::emit_one-returns-in-Zero-clause-code t c =
    piece_emits c.emit_zero.result c.args.plan.now (sides_of c.args.sides.now) (statement_of c.args.statement.now) (kernel.set_zero c.in-Zero.v) (Zeroes c.args.plan.now.vars c.in-Zero.v) c.args.e.now c.emit_zero.new.e c.args.left.now.items (ap statement_of c.in-Zero.is ∙ statement-Zero c.in-Zero.v) (λ last pc cells h. h) c.emit_zero.ensures.zeroes c.emit_zero.ensures.aimed

pub walk::emit_one-returns-in-Set-clause-code : goal.walk::emit_one-returns-in-Set-clause-code
walk::emit_one-returns-in-Set-clause-code t c =
    piece_emits c.emit_set.result c.args.plan.now (sides_of c.args.sides.now) (statement_of c.args.statement.now) (kernel.set (place_of c.in-Set.place) (expression_of c.in-Set.x)) (Sets c.args.plan.now.vars (place_of c.in-Set.place) (expression_of c.in-Set.x)) c.args.e.now c.emit_set.new.e c.args.left.now.items (ap statement_of c.in-Set.is ∙ statement-Set c.in-Set.place c.in-Set.x) (λ last pc cells h. h) c.emit_set.ensures.sets c.emit_set.ensures.aimed

pub walk::emit_one-returns-in-Out-clause-code : goal.walk::emit_one-returns-in-Out-clause-code
walk::emit_one-returns-in-Out-clause-code t c =
    transfer_emits c.emit_output.result c.args.plan.now (sides_of c.args.sides.now) (statement_of c.args.statement.now) (kernel.output (output_of c.in-Out.output)) c.args.e.now c.emit_output.new.e c.args.left.now.items (ap statement_of c.in-Out.is ∙ statement-Out c.in-Out.output) c.emit_output.ensures.code

pub walk::emit_one-returns-in-In-clause-code : goal.walk::emit_one-returns-in-In-clause-code
walk::emit_one-returns-in-In-clause-code t c =
    transfer_emits c.emit_input.result c.args.plan.now (sides_of c.args.sides.now) (statement_of c.args.statement.now) (kernel.input (input_of c.in-In.input)) c.args.e.now c.emit_input.new.e c.args.left.now.items (ap statement_of c.in-In.is ∙ statement-In c.in-In.input) c.emit_input.ensures.code

pub walk::emit_one-emit_if-requires : goal.walk::emit_one-emit_if-requires
walk::emit_one-emit_if-requires t c =
    let a = statements_of c.as_slice.result.now in
    let b = statements_of c.as_slice-in-If.result.now in
    let x = expression_of c.in-If.test in
    let is : statement_of c.args.statement.now ≡ kernel.if_then x a b = ap statement_of c.in-If.is ∙ statement-If c.in-If.test c.in-If.first c.in-If.second ∙ ap (λ l. kernel.if_then x (statements_of l) (statements_of c.in-If.second)) (sym c.as_slice.ensures) ∙ ap (λ l. kernel.if_then x a (statements_of l)) (sym c.as_slice-in-If.ensures) in
    let built = subst IsBuilt is c.requires.built in
    let shallow = subst IsShallow is c.requires.shallow in
    let narrow = subst IsNarrow is c.requires.narrow in
    let room = subst (λ s. length c.args.e.now + most c.args.plan.now.vars s < 2 ^ 32) is c.requires.room in
    (omega (arith, ap weight is, c.decreases), (built.0, (built.1, (shallow.0, (shallow.1, (shallow.2, (narrow.0, (narrow.1, (c.requires.stack, omega (arith, room))))))))))

pub walk::emit_one-emit_loop-requires : goal.walk::emit_one-emit_loop-requires
walk::emit_one-emit_loop-requires t c =
    let a = statements_of c.as_slice-in-Loop.result.now in
    let b = statements_of c.as_slice-in-Loop-2.result.now in
    let x = expression_of c.in-Loop.test in
    let is : statement_of c.args.statement.now ≡ kernel.loop x a b = ap statement_of c.in-Loop.is ∙ statement-Loop c.in-Loop.test c.in-Loop.body c.in-Loop.next ∙ ap (λ l. kernel.loop x (statements_of l) (statements_of c.in-Loop.next)) (sym c.as_slice-in-Loop.ensures) ∙ ap (λ l. kernel.loop x a (statements_of l)) (sym c.as_slice-in-Loop-2.ensures) in
    let built = subst IsBuilt is c.requires.built in
    let shallow = subst IsShallow is c.requires.shallow in
    let narrow = subst IsNarrow is c.requires.narrow in
    let room = subst (λ s. length c.args.e.now + most c.args.plan.now.vars s < 2 ^ 32) is c.requires.room in
    (omega (arith, ap weight is, c.decreases), (built.0, (built.1, (shallow.0, (shallow.1, (shallow.2, (narrow.0, (narrow.1, (c.requires.stack, omega (arith, room))))))))))

pub walk::emit_one-emit_block-requires : goal.walk::emit_one-emit_block-requires
walk::emit_one-emit_block-requires t c =
    let a = statements_of c.as_slice-in-Block.result.now in
    let is : statement_of c.args.statement.now ≡ kernel.block c.in-Block.block a = ap statement_of c.in-Block.is ∙ statement-Block c.in-Block.block c.in-Block.inside ∙ ap (λ l. kernel.block c.in-Block.block (statements_of l)) (sym c.as_slice-in-Block.ensures) in
    (omega (arith, ap weight is, c.decreases), (subst IsBuilt is c.requires.built, (subst IsShallow is c.requires.shallow, (subst IsNarrow is c.requires.narrow, (c.requires.stack, subst (λ s. length c.args.e.now + most c.args.plan.now.vars s < 2 ^ 32) is c.requires.room)))))

pub walk::emit_one-emit_par-requires : goal.walk::emit_one-emit_par-requires
walk::emit_one-emit_par-requires t c =
    let bs = branches_of c.as_slice-in-Par.result.now in
    let is : statement_of c.args.statement.now ≡ kernel.par bs = ap statement_of c.in-Par.is ∙ statement-Par c.in-Par.branches ∙ ap (λ l. kernel.par (branches_of l)) (sym c.as_slice-in-Par.ensures) in
    let narrow = subst IsNarrow is c.requires.narrow in
    (omega (arith, ap weight is, c.decreases), (subst IsBuilt is c.requires.built, (subst IsShallow is c.requires.shallow, (narrow.1, (narrow.0, (c.requires.stack, subst (λ s. length c.args.e.now + most c.args.plan.now.vars s < 2 ^ 32) is c.requires.room))))))

-- what is behind the last

pub walk::emit_all-returns-in_err-emit_one-clause-refused : goal.walk::emit_all-returns-in_err-emit_one-clause-refused
walk::emit_all-returns-in_err-emit_one-clause-refused t c =
    on_err c.from_residual.result (Extends c.args.e.now c.emit_one.new.e)
    (extends_on c.args.e.now c.loop-statement.e c.emit_one.new.e (extends_by c.args.e.now c.loop-statement.e _ c.loop-statement.invariant.lines) c.in_err-emit_one.ensures.refused)

pub walk::emit_all-returns-clause-code : goal.walk::emit_all-returns-clause-code
walk::emit_all-returns-clause-code t c =
    let ss = c.args.statements.now in
    let none = ap statements_of (drop_of_length-le ss c.loop-statement-test.false) in
    walk_ends c.args.plan.now (sides_of c.args.sides.now) (statements_of ss) c.args.e.now c.loop-statement.e c.args.left.now.items c.loop-statement.left.items (subst (λ p. Walked c.args.plan.now (sides_of c.args.sides.now) (statements_of ss) p c.args.e.now c.loop-statement.e c.args.left.now.items c.loop-statement.left.items) none c.loop-statement.invariant)

-- the branches of a `par`

pub par::emit_par-emit_all-requires : goal.par::emit_par-emit_all-requires
par::emit_par-emit_all-requires t c =
    let x = c.only-item.result in
    let vars = c.args.plan.now.vars in
    let is : branches_of c.args.branches.now ≡ kernel.more_branches (kernel.branch (statements_of c.as_slice-in-len1.result.now) x.pos) kernel.no_branch = one_branch c.args.branches.now x c.only-item.is c.in-len1.len_at_least c.in-len1.len_below ∙ ap (λ l. kernel.more_branches (kernel.branch (statements_of l) x.pos) kernel.no_branch) (sym c.as_slice-in-len1.ensures) in
    let size = ap (λ bs. most vars (kernel.par bs)) is in
    (omega (arith, ap branch_weights is, c.decreases), ((subst BranchesAreBuilt is c.requires.built).0, ((subst BranchesAreShallow is c.requires.shallow).0, ((subst BranchesAreNarrow is c.requires.narrow).0, (c.requires.stack, omega (arith, size, c.requires.room))))))

pub par::emit_par-returns-in-len1-clause-code : goal.par::emit_par-returns-in-len1-clause-code
par::emit_par-returns-in-len1-clause-code t c =
    let x = c.only-item.result in
    let plan = c.args.plan.now in
    let sides = sides_of c.args.sides.now in
    let ss = statements_of c.as_slice-in-len1.result.now in
    let is : branches_of c.args.branches.now ≡ kernel.more_branches (kernel.branch ss x.pos) kernel.no_branch = one_branch c.args.branches.now x c.only-item.is c.in-len1.len_at_least c.in-len1.len_below ∙ ap (λ l. kernel.more_branches (kernel.branch (statements_of l) x.pos) kernel.no_branch) (sym c.as_slice-in-len1.ensures) in
    let each = ap (map sides_of) c.as_slice-each.ensures ∙ c.in_ok-each.ensures ∙ ap (sides_of_each sides []) is in
    let own = ap sides_of c.as_slice.ensures ∙ first_sides c.as_slice-each.result.now (sides_in 0 [] ss [] sides) [] each c.index-each-0.result c.index-each-0.is in
    ok_as c.emit_all.result (AllEmit plan (sides_of c.as_slice.result.now) ss) (ParEmits plan sides (branches_of c.args.branches.now)) c.args.e.now c.emit_all.new.e c.args.left.now.items c.emit_all.new.left.items
    (λ last pc cells h. subst (λ bs. ParEmits plan sides bs last pc cells) (sym is) (one_in plan sides ss x.pos last pc cells (sides_of c.as_slice.result.now) own h)) c.emit_all.ensures.code

pub par::emit_par-returns-in-len1-clause-size : goal.par::emit_par-returns-in-len1-clause-size
par::emit_par-returns-in-len1-clause-size t c =
    let x = c.only-item.result in
    let vars = c.args.plan.now.vars in
    let is : branches_of c.args.branches.now ≡ kernel.more_branches (kernel.branch (statements_of c.as_slice-in-len1.result.now) x.pos) kernel.no_branch = one_branch c.args.branches.now x c.only-item.is c.in-len1.len_at_least c.in-len1.len_below ∙ ap (λ l. kernel.more_branches (kernel.branch (statements_of l) x.pos) kernel.no_branch) (sym c.as_slice-in-len1.ensures) in
    let size = ap (λ bs. most vars (kernel.par bs)) is in
    ok_within c.emit_all.result (length c.emit_all.new.e) (length c.args.e.now + most_of_all vars (statements_of c.as_slice-in-len1.result.now)) (length c.args.e.now + most vars (kernel.par (branches_of c.args.branches.now))) (omega (arith, size)) c.emit_all.ensures.size

pub par::emit_par-emit_several-requires : goal.par::emit_par-emit_several-requires
par::emit_par-emit_several-requires t c =
    let bs = c.args.branches.now in
    let others = take (length bs - 1) (drop 1 bs) in
    let x = c.first-item.result in
    let vars = c.args.plan.now.vars in
    let is : branches_of bs ≡ kernel.more_branches (kernel.branch (statements_of c.as_slice-in-len1-up.result.now) x.pos) (branches_of (take (length bs - 1) (drop 1 bs))) = first_branch bs x c.first-item.is c.in-len1-up.len_at_least ∙ ap (λ l. kernel.more_branches (kernel.branch (statements_of l) x.pos) (branches_of others)) (sym c.as_slice-in-len1-up.ensures) in
    let built = subst BranchesAreBuilt is c.requires.built in
    let shallow = subst BranchesAreShallow is c.requires.shallow in
    let narrow = subst BranchesAreNarrow is c.requires.narrow in
    let count = ap branch_count is in
    let n = branches_count bs in
    let m = branches_count others in
    let size = ap (λ bs. most vars (kernel.par bs)) is in
    let sides = sides_of c.args.sides.now in
    let ss = statements_of c.as_slice-in-len1-up.result.now in
    let each = ap (map sides_of) c.as_slice-each.ensures ∙ c.in_ok-each.ensures ∙ ap (sides_of_each sides []) is in
    let behind = others_sides c.as_slice-each.result.now (sides_in 0 [] ss (codes_in (branches_of others)) sides) (sides_of_each sides (ss ∷ []) (branches_of others)) each in
    let many = sym (length-map (take (length c.as_slice-each.result.now - 1) (drop 1 c.as_slice-each.result.now)) sides_of) ∙ ap length behind ∙ sides_count sides (ss ∷ []) (branches_of others) ∙ m in
    (omega (arith, ap branch_weights is, c.decreases), (built.0, (built.1, (shallow.0, (shallow.1, (narrow.0, (narrow.1, (omega (arith, count, n, m, c.in-len1-up.len_at_least), (omega (arith, count, n, m, c.requires.count), (many, (c.requires.stack, omega (arith, size, count, m, c.requires.room))))))))))))

pub par::emit_par-returns-clause-code : goal.par::emit_par-returns-clause-code
par::emit_par-returns-clause-code t c =
    let bs = c.args.branches.now in
    let others = take (length bs - 1) (drop 1 bs) in
    let x = c.first-item.result in
    let plan = c.args.plan.now in
    let sides = sides_of c.args.sides.now in
    let ss = statements_of c.as_slice-in-len1-up.result.now in
    let is : branches_of bs ≡ kernel.more_branches (kernel.branch ss x.pos) (branches_of (take (length bs - 1) (drop 1 bs))) = first_branch bs x c.first-item.is c.in-len1-up.len_at_least ∙ ap (λ l. kernel.more_branches (kernel.branch (statements_of l) x.pos) (branches_of others)) (sym c.as_slice-in-len1-up.ensures) in
    let some : 1 ≤ length (take (length bs - 1) (drop 1 bs)) = let count = ap branch_count is in let n = branches_count bs in let m = branches_count others in omega (arith, count, n, m, c.in-len1-up.len_at_least) in
    let each = ap (map sides_of) c.as_slice-each.ensures ∙ c.in_ok-each.ensures ∙ ap (sides_of_each sides []) is in
    let first = sides_in 0 [] ss (codes_in (branches_of others)) sides in
    let later = sides_of_each sides (ss ∷ []) (branches_of others) in
    let own = ap sides_of c.as_slice-own.ensures ∙ first_sides c.as_slice-each.result.now first later each c.index-each-0-in-len1-up.result c.index-each-0-in-len1-up.is in
    let behind = others_sides c.as_slice-each.result.now first later each in
    let own_sides = sides_of c.as_slice-own.result.now in
    let behind_sides = map sides_of (take (length c.as_slice-each.result.now - 1) (drop 1 c.as_slice-each.result.now)) in
    ok_as c.emit_several.result (SeveralBranches plan (branch_count (branches_of others)) (AllEmit plan own_sides ss) (SlavesEmitIn plan behind_sides (branches_of others))) (ParEmits plan sides (branches_of bs)) c.args.e.now c.emit_several.new.e c.args.left.now.items c.emit_several.new.left.items
    (λ last pc cells h. subst (λ l. ParEmits plan sides l last pc cells) (sym is) (several_in plan sides ss x.pos last pc cells others own_sides behind_sides some own behind h)) c.emit_several.ensures.code

pub par::emit_par-returns-clause-size : goal.par::emit_par-returns-clause-size
par::emit_par-returns-clause-size t c =
    let bs = c.args.branches.now in
    let others = take (length bs - 1) (drop 1 bs) in
    let x = c.first-item.result in
    let vars = c.args.plan.now.vars in
    let is : branches_of bs ≡ kernel.more_branches (kernel.branch (statements_of c.as_slice-in-len1-up.result.now) x.pos) (branches_of (take (length bs - 1) (drop 1 bs))) = first_branch bs x c.first-item.is c.in-len1-up.len_at_least ∙ ap (λ l. kernel.more_branches (kernel.branch (statements_of l) x.pos) (branches_of others)) (sym c.as_slice-in-len1-up.ensures) in
    let m = branches_count others in
    let size = ap (λ bs. most vars (kernel.par bs)) is in
    ok_within c.emit_several.result (length c.emit_several.new.e) (length c.args.e.now + most_of_all vars (statements_of c.as_slice-in-len1-up.result.now) + most_of_branches vars (branches_of others) + 13 * length others + 14) (length c.args.e.now + most vars (kernel.par (branches_of bs))) (omega (arith, size, m)) c.emit_several.ensures.size

pub par::emit_par-bounds-each-0 : goal.par::emit_par-bounds-each-0
par::emit_par-bounds-each-0 t c =
    let count : length c.as_slice-each.result.now ≡ length c.args.branches.now = sym (length-map c.as_slice-each.result.now sides_of) ∙ ap length (ap (map sides_of) c.as_slice-each.ensures ∙ c.in_ok-each.ensures) ∙ sides_count (sides_of c.args.sides.now) [] (branches_of c.args.branches.now) ∙ branches_count c.args.branches.now in
    omega (arith, count, c.in-len1.len_at_least)

pub par::emit_par-bounds-each-0-in-len1-up : goal.par::emit_par-bounds-each-0-in-len1-up
par::emit_par-bounds-each-0-in-len1-up t c =
    let count : length c.as_slice-each.result.now ≡ length c.args.branches.now = sym (length-map c.as_slice-each.result.now sides_of) ∙ ap length (ap (map sides_of) c.as_slice-each.ensures ∙ c.in_ok-each.ensures) ∙ sides_count (sides_of c.args.sides.now) [] (branches_of c.args.branches.now) ∙ branches_count c.args.branches.now in
    omega (arith, count, c.in-len1-up.len_at_least)

pub par::emit_par-returns-in-empty-clause-code : goal.par::emit_par-returns-in-empty-clause-code
par::emit_par-returns-in-empty-clause-code t c = no_branch_emits c.args.plan.now (sides_of c.args.sides.now) c.args.branches.now c.args.e.now c.args.left.now.items c.in-empty.len_below

pub par::emit_par-returns-in-empty-clause-size : goal.par::emit_par-returns-in-empty-clause-size
par::emit_par-returns-in-empty-clause-size t c = no_more _ _

pub par::emit_par-bounds-branches-0 : goal.par::emit_par-bounds-branches-0
par::emit_par-bounds-branches-0 t c = omega (arith, c.in-len1.len_at_least)

pub par::emit_par-bounds-branches-0-2 : goal.par::emit_par-bounds-branches-0-2
par::emit_par-bounds-branches-0-2 t c = omega (arith, c.in-len1-up.len_at_least)

pub par::emit_par-slice_bounds-others-count : goal.par::emit_par-slice_bounds-others-count
par::emit_par-slice_bounds-others-count t c = omega (arith, c.in-len1-up.len_at_least)

pub par::emit_par-slice_bounds-others-start : goal.par::emit_par-slice_bounds-others-start
par::emit_par-slice_bounds-others-start t c = omega (arith, c.in-len1-up.len_at_least)

pub par::emit_par-slice_bounds-others-end : goal.par::emit_par-slice_bounds-others-end
par::emit_par-slice_bounds-others-end t c = omega (arith, c.in-len1-up.len_at_least)

pub par::emit_par-slice_bounds-emit_several-count : goal.par::emit_par-slice_bounds-emit_several-count
par::emit_par-slice_bounds-emit_several-count t c =
    let count : length c.as_slice-each.result.now ≡ length c.args.branches.now = sym (length-map c.as_slice-each.result.now sides_of) ∙ ap length (ap (map sides_of) c.as_slice-each.ensures ∙ c.in_ok-each.ensures) ∙ sides_count (sides_of c.args.sides.now) [] (branches_of c.args.branches.now) ∙ branches_count c.args.branches.now in
    omega (arith, count, c.in-len1-up.len_at_least)

pub par::emit_par-slice_bounds-emit_several-start : goal.par::emit_par-slice_bounds-emit_several-start
par::emit_par-slice_bounds-emit_several-start t c =
    let count : length c.as_slice-each.result.now ≡ length c.args.branches.now = sym (length-map c.as_slice-each.result.now sides_of) ∙ ap length (ap (map sides_of) c.as_slice-each.ensures ∙ c.in_ok-each.ensures) ∙ sides_count (sides_of c.args.sides.now) [] (branches_of c.args.branches.now) ∙ branches_count c.args.branches.now in
    omega (arith, count, c.in-len1-up.len_at_least)

pub par::emit_par-slice_bounds-emit_several-end : goal.par::emit_par-slice_bounds-emit_several-end
par::emit_par-slice_bounds-emit_several-end t c =
    let count : length c.as_slice-each.result.now ≡ length c.args.branches.now = sym (length-map c.as_slice-each.result.now sides_of) ∙ ap length (ap (map sides_of) c.as_slice-each.ensures ∙ c.in_ok-each.ensures) ∙ sides_count (sides_of c.args.sides.now) [] (branches_of c.args.branches.now) ∙ branches_count c.args.branches.now in
    omega (arith, count, c.in-len1-up.len_at_least)

-- several branches

pub par::emit_several-open_par-requires-clause-room : goal.par::emit_several-open_par-requires-clause-room
par::emit_several-open_par-requires-clause-room t c = omega (arith, c.requires.room)

pub par::emit_several-emit_all-requires : goal.par::emit_several-emit_all-requires
par::emit_several-emit_all-requires t c =
    (omega (arith, c.decreases), (c.requires.built, (c.requires.shallow, (c.requires.narrow, (c.requires.stack, omega (arith, c.in_ok-starts.ensures.size, c.requires.room))))))

pub par::emit_several-emit_close-requires : goal.par::emit_several-emit_close-requires
par::emit_several-emit_close-requires t c = omega (arith, c.in_ok-emit_all.ensures.size, c.in_ok-starts.ensures.size, c.requires.several, c.requires.room)

pub par::emit_several-emit_slaves-requires : goal.par::emit_several-emit_slaves-requires
par::emit_several-emit_slaves-requires t c =
    let plan = c.args.plan.now in
    let n = length c.args.others.now in
    let m : length c.args.others.now + 1 - 1 ≡ length c.args.others.now = omega arith in
    let first = AllEmit plan (sides_of c.args.own.now) (statements_of c.args.first.now) in
    let at_1 = opened plan.first_stack n (n + 1 - 1) c.pos-last.result c.args.e.now c.open_par.new.e c.pos-last.ensures m c.in_ok-starts.ensures.code in
    let holes = ap indices_of c.as_slice.ensures ∙ starts_are (length c.args.e.now + 9) n (n + 1 - 1) (indices_of c.in_ok-starts.starts) m c.in_ok-starts.ensures.holes in
    let count : length c.as_slice.result.now ≡ length c.args.others.now = sym (indices_length c.as_slice.result.now) ∙ ap length holes ∙ starts_length (length c.args.e.now + 9) n in
    let size = several_length plan n first c.args.e.now c.open_par.new.e c.emit_all.new.e c.emit_close.new.e c.args.left.now.items c.emit_all.new.left.items at_1 c.in_ok-emit_all.ensures.code c.in_ok-past.ensures.code in
    (omega (arith, c.decreases), (c.requires.built_others, (c.requires.shallow_others, (c.requires.narrow_others, (c.requires.stack, (c.requires.as_many, (count, (holes_landable plan n first c.args.e.now c.open_par.new.e c.emit_all.new.e c.emit_close.new.e c.args.left.now.items c.emit_all.new.left.items at_1 c.in_ok-emit_all.ensures.code c.in_ok-past.ensures.code (indices_of c.as_slice.result.now) holes, omega (arith, size, c.in_ok-emit_all.ensures.size, c.in_ok-starts.ensures.size, c.requires.several, c.requires.room)))))))))

pub par::emit_several-returns-in_err-emit_slaves-clause-refused : goal.par::emit_several-returns-in_err-emit_slaves-clause-refused
par::emit_several-returns-in_err-emit_slaves-clause-refused t c =
    let plan = c.args.plan.now in
    let n = length c.args.others.now in
    let m : length c.args.others.now + 1 - 1 ≡ length c.args.others.now = omega arith in
    let first = AllEmit plan (sides_of c.args.own.now) (statements_of c.args.first.now) in
    let at_1 = opened plan.first_stack n (n + 1 - 1) c.pos-last.result c.args.e.now c.open_par.new.e c.pos-last.ensures m c.in_ok-starts.ensures.code in
    let holes = ap indices_of c.as_slice.ensures ∙ starts_are (length c.args.e.now + 9) n (n + 1 - 1) (indices_of c.in_ok-starts.starts) m c.in_ok-starts.ensures.holes in
    on_err c.from_residual-in_err-emit_slaves.result (Extends c.args.e.now c.emit_slaves.new.e)
    (several_refused plan n first c.args.e.now c.open_par.new.e c.emit_all.new.e c.emit_close.new.e c.args.left.now.items c.emit_all.new.left.items at_1 c.in_ok-emit_all.ensures.code c.in_ok-past.ensures.code (indices_of c.as_slice.result.now) holes c.emit_slaves.new.e c.in_err-emit_slaves.ensures.refused)

pub par::emit_several-land-requires : goal.par::emit_several-land-requires
par::emit_several-land-requires t c =
    let plan = c.args.plan.now in
    let n = length c.args.others.now in
    let m : length c.args.others.now + 1 - 1 ≡ length c.args.others.now = omega arith in
    let first = AllEmit plan (sides_of c.args.own.now) (statements_of c.args.first.now) in
    let at_1 = opened plan.first_stack n (n + 1 - 1) c.pos-last.result c.args.e.now c.open_par.new.e c.pos-last.ensures m c.in_ok-starts.ensures.code in
    let holes = ap indices_of c.as_slice.ensures ∙ starts_are (length c.args.e.now + 9) n (n + 1 - 1) (indices_of c.in_ok-starts.starts) m c.in_ok-starts.ensures.holes in
    let opens = opens_so plan.first_stack n (n + 1 - 1) c.pos-last.result c.args.e.now c.open_par.new.e c.pos-last.ensures m at_1 c.in_ok-starts.ensures.opens in
    let aims = aimed_so plan.first_stack n (n + 1 - 1) c.args.e.now c.open_par.new.e m at_1 c.in_ok-starts.ensures.aimed in
    jump_open plan n first c.args.e.now c.open_par.new.e c.emit_all.new.e c.emit_close.new.e c.args.left.now.items c.emit_all.new.left.items at_1 c.in_ok-emit_all.ensures.code c.in_ok-past.ensures.code (indices_of c.as_slice.result.now) holes (map sides_of c.args.each.now) (branches_of c.args.others.now) (branches_count c.args.others.now) c.requires.count opens aims c.in_ok-past.ensures.closes c.in_ok-past.ensures.aimed c.in_ok-past.past.index c.in_ok-past.ensures.past c.emit_slaves.new.e c.emit_slaves.new.left.items c.in_ok-emit_slaves.ensures.code

pub par::emit_several-returns-clause-code : goal.par::emit_several-returns-clause-code
par::emit_several-returns-clause-code t c =
    let plan = c.args.plan.now in
    let n = length c.args.others.now in
    let m : length c.args.others.now + 1 - 1 ≡ length c.args.others.now = omega arith in
    let first = AllEmit plan (sides_of c.args.own.now) (statements_of c.args.first.now) in
    let at_1 = opened plan.first_stack n (n + 1 - 1) c.pos-last.result c.args.e.now c.open_par.new.e c.pos-last.ensures m c.in_ok-starts.ensures.code in
    let holes = ap indices_of c.as_slice.ensures ∙ starts_are (length c.args.e.now + 9) n (n + 1 - 1) (indices_of c.in_ok-starts.starts) m c.in_ok-starts.ensures.holes in
    let opens = opens_so plan.first_stack n (n + 1 - 1) c.pos-last.result c.args.e.now c.open_par.new.e c.pos-last.ensures m at_1 c.in_ok-starts.ensures.opens in
    let aims = aimed_so plan.first_stack n (n + 1 - 1) c.args.e.now c.open_par.new.e m at_1 c.in_ok-starts.ensures.aimed in
    several_emitted plan n first c.args.e.now c.open_par.new.e c.emit_all.new.e c.emit_close.new.e c.args.left.now.items c.emit_all.new.left.items at_1 c.in_ok-emit_all.ensures.code c.in_ok-past.ensures.code (indices_of c.as_slice.result.now) holes (map sides_of c.args.each.now) (branches_of c.args.others.now) (branches_count c.args.others.now) c.requires.count opens aims c.in_ok-past.ensures.closes c.in_ok-past.ensures.aimed c.in_ok-past.past.index c.in_ok-past.ensures.past c.emit_slaves.new.e c.emit_slaves.new.left.items c.in_ok-emit_slaves.ensures.code c.land.new.self c.land.ensures

pub par::emit_several-returns-clause-size : goal.par::emit_several-returns-clause-size
par::emit_several-returns-clause-size t c =
    let plan = c.args.plan.now in
    let n = length c.args.others.now in
    let m : length c.args.others.now + 1 - 1 ≡ length c.args.others.now = omega arith in
    let first = AllEmit plan (sides_of c.args.own.now) (statements_of c.args.first.now) in
    let at_1 = opened plan.first_stack n (n + 1 - 1) c.pos-last.result c.args.e.now c.open_par.new.e c.pos-last.ensures m c.in_ok-starts.ensures.code in
    let holes = ap indices_of c.as_slice.ensures ∙ starts_are (length c.args.e.now + 9) n (n + 1 - 1) (indices_of c.in_ok-starts.starts) m c.in_ok-starts.ensures.holes in
    let opens = opens_so plan.first_stack n (n + 1 - 1) c.pos-last.result c.args.e.now c.open_par.new.e c.pos-last.ensures m at_1 c.in_ok-starts.ensures.opens in
    let aims = aimed_so plan.first_stack n (n + 1 - 1) c.args.e.now c.open_par.new.e m at_1 c.in_ok-starts.ensures.aimed in
    let size = several_length plan n first c.args.e.now c.open_par.new.e c.emit_all.new.e c.emit_close.new.e c.args.left.now.items c.emit_all.new.left.items at_1 c.in_ok-emit_all.ensures.code c.in_ok-past.ensures.code in
    let same = several_end plan n first c.args.e.now c.open_par.new.e c.emit_all.new.e c.emit_close.new.e c.args.left.now.items c.emit_all.new.left.items at_1 c.in_ok-emit_all.ensures.code c.in_ok-past.ensures.code (indices_of c.as_slice.result.now) holes (map sides_of c.args.each.now) (branches_of c.args.others.now) (branches_count c.args.others.now) c.requires.count opens aims c.in_ok-past.ensures.closes c.in_ok-past.ensures.aimed c.in_ok-past.past.index c.in_ok-past.ensures.past c.emit_slaves.new.e c.emit_slaves.new.left.items c.in_ok-emit_slaves.ensures.code c.land.new.self c.land.ensures in
    omega (arith, same, size, c.in_ok-emit_slaves.ensures.size, c.in_ok-emit_all.ensures.size, c.in_ok-starts.ensures.size, c.requires.several)

-- the branches behind the first

pub par::emit_slave-returns-clause-code : goal.par::emit_slave-returns-clause-code
par::emit_slave-returns-clause-code t c =
    slave_ends c.close_slave.result (AllEmit c.args.plan.now (sides_of c.args.sides.now) (statements_of c.args.body.now)) (landed c.args.e.now c.args.start.index (length c.args.e.now)) c.emit_all.new.e c.close_slave.new.e c.args.left.now.items c.emit_all.new.left.items (subst (λ ls. Emitted (AllEmit c.args.plan.now (sides_of c.args.sides.now) (statements_of c.args.body.now)) ls c.emit_all.new.e c.args.left.now.items c.emit_all.new.left.items) c.land.ensures c.in_ok-emit_all.ensures.code) c.pos-last.result c.pos-last.ensures c.close_slave.ensures.code c.close_slave.ensures.ends

pub par::emit_slaves-loop-index-init : goal.par::emit_slaves-loop-index-init
par::emit_slaves-loop-index-init t c =
    slaves_begin c.args.plan.now (map sides_of c.args.each.now) (branches_of c.args.branches.now) (indices_of c.args.starts.now) c.args.e.now c.args.left.now.items c.requires.built c.requires.shallow c.requires.narrow c.requires.landable

pub par::emit_slaves-bounds-branches-index : goal.par::emit_slaves-bounds-branches-index
par::emit_slaves-bounds-branches-index t c = c.loop-index-test.true

pub par::emit_slaves-bounds-each-index : goal.par::emit_slaves-bounds-each-index
par::emit_slaves-bounds-each-index t c = omega (arith, c.loop-index-test.true, c.requires.as_many)

pub par::emit_slaves-bounds-starts-index : goal.par::emit_slaves-bounds-starts-index
par::emit_slaves-bounds-starts-index t c = omega (arith, c.loop-index-test.true, c.requires.as_many_starts)

pub par::emit_slaves-emit_slave-requires : goal.par::emit_slaves-emit_slave-requires
par::emit_slaves-emit_slave-requires t c =
    let bs = c.args.branches.now in
    let hs = c.args.starts.now in
    let i = c.loop-index.index in
    let x = c.index-branches-index.result in
    let body = c.as_slice.result.now in
    let own = c.as_slice-own.result.now in
    let h = next_slave c.args.plan.now c.args.each.now bs hs i c.args.e.now c.loop-index.e c.args.left.now.items c.loop-index.left.items c.requires.as_many c.requires.as_many_starts c.loop-index.invariant c.loop-index-test.true c.index-each-index.result own c.index-each-index.is c.as_slice-own.ensures x body c.index-branches-index.is c.as_slice.ensures (record { index = 0 }) in
    let w = branch_lighter bs i x c.index-branches-index.is c.loop-index-test.true in
    let same = ap weights (ap statements_of c.as_slice.ensures) in
    (omega (arith, w, same, c.decreases), (h.built.0, (h.shallow.0, (h.narrow.0, (c.requires.stack, (slave_open c.args.plan.now (map sides_of c.args.each.now) (map sides_of (drop (i + 1) c.args.each.now)) (sides_of own) (branches_of bs) (branches_of (drop (i + 1) bs)) (statements_of body) x.pos (indices_of hs) (indices_of (drop (i + 1) hs)) (get_or hs i (record { index = 0 })).index c.args.e.now c.loop-index.e c.args.left.now.items c.loop-index.left.items h, omega (arith, h.room, c.requires.room)))))))

pub par::emit_slaves-loop-index-preserved : goal.par::emit_slaves-loop-index-preserved
par::emit_slaves-loop-index-preserved t c =
    let bs = c.args.branches.now in
    let hs = c.args.starts.now in
    let i = c.loop-index.index in
    let x = c.index-branches-index.result in
    let body = c.as_slice.result.now in
    let own = c.as_slice-own.result.now in
    let h = next_slave c.args.plan.now c.args.each.now bs hs i c.args.e.now c.loop-index.e c.args.left.now.items c.loop-index.left.items c.requires.as_many c.requires.as_many_starts c.loop-index.invariant c.loop-index-test.true c.index-each-index.result own c.index-each-index.is c.as_slice-own.ensures x body c.index-branches-index.is c.as_slice.ensures (record { index = 0 }) in
    slaves_go_on c.args.plan.now (map sides_of c.args.each.now) (map sides_of (drop (i + 1) c.args.each.now)) (sides_of own) (branches_of bs) (branches_of (drop (i + 1) bs)) (statements_of body) x.pos (indices_of hs) (indices_of (drop (i + 1) hs)) (get_or hs i (record { index = 0 })).index c.args.e.now c.loop-index.e c.args.left.now.items c.loop-index.left.items h c.emit_slave.new.e c.emit_slave.new.left.items c.in_ok-emit_slave.ensures.code c.in_ok-emit_slave.ensures.size

pub par::emit_slaves-returns-in_err-emit_slave-clause-refused : goal.par::emit_slaves-returns-in_err-emit_slave-clause-refused
par::emit_slaves-returns-in_err-emit_slave-clause-refused t c =
    let bs = c.args.branches.now in
    let hs = c.args.starts.now in
    let i = c.loop-index.index in
    let x = c.index-branches-index.result in
    let body = c.as_slice.result.now in
    let own = c.as_slice-own.result.now in
    let h = next_slave c.args.plan.now c.args.each.now bs hs i c.args.e.now c.loop-index.e c.args.left.now.items c.loop-index.left.items c.requires.as_many c.requires.as_many_starts c.loop-index.invariant c.loop-index-test.true c.index-each-index.result own c.index-each-index.is c.as_slice-own.ensures x body c.index-branches-index.is c.as_slice.ensures (record { index = 0 }) in
    on_err c.from_residual.result (Lands (indices_of hs) c.args.e.now c.emit_slave.new.e)
    (slave_refused c.args.plan.now (map sides_of c.args.each.now) (map sides_of (drop (i + 1) c.args.each.now)) (sides_of own) (branches_of bs) (branches_of (drop (i + 1) bs)) (statements_of body) x.pos (indices_of hs) (indices_of (drop (i + 1) hs)) (get_or hs i (record { index = 0 })).index c.args.e.now c.loop-index.e c.args.left.now.items c.loop-index.left.items h c.emit_slave.new.e c.in_err-emit_slave.ensures.refused)

pub par::emit_slaves-returns-clause-code : goal.par::emit_slaves-returns-clause-code
par::emit_slaves-returns-clause-code t c =
    slaves_over c.args.plan.now c.args.each.now c.args.branches.now c.args.starts.now c.loop-index.index c.args.e.now c.loop-index.e c.args.left.now.items c.loop-index.left.items c.requires.as_many c.requires.as_many_starts c.loop-index.invariant c.loop-index-test.false

pub par::emit_slaves-returns-clause-size : goal.par::emit_slaves-returns-clause-size
par::emit_slaves-returns-clause-size t c = let room = c.loop-index.invariant.room in omega (arith, room)

-- where memory is wanting, what was held stands in front

pub walk::emit_one_side-returns-in_err-past-clause-refused : goal.walk::emit_one_side-returns-in_err-past-clause-refused
walk::emit_one_side-returns-in_err-past-clause-refused t c = on_err _ _ c.in_err-past.ensures.refused

pub walk::emit_one_side-returns-in_err-emit_all-clause-refused : goal.walk::emit_one_side-returns-in_err-emit_all-clause-refused
walk::emit_one_side-returns-in_err-emit_all-clause-refused t c = on_err _ _ (extends_on _ _ _ (extends_by _ _ _ c.in_ok-past.ensures.tests.is) c.in_err-emit_all.ensures.refused)

pub walk::emit_two_sides-returns-in_err-past-clause-refused : goal.walk::emit_two_sides-returns-in_err-past-clause-refused
walk::emit_two_sides-returns-in_err-past-clause-refused t c = on_err _ _ c.in_err-past.ensures.refused

pub walk::emit_two_sides-returns-in_err-emit_all-clause-refused : goal.walk::emit_two_sides-returns-in_err-emit_all-clause-refused
walk::emit_two_sides-returns-in_err-emit_all-clause-refused t c = on_err _ _ (extends_on _ _ _ (extends_by _ _ _ c.in_ok-past.ensures.tests.is) c.in_err-emit_all.ensures.refused)

pub walk::emit_two_sides-returns-in_err-over-clause-refused : goal.walk::emit_two_sides-returns-in_err-over-clause-refused
walk::emit_two_sides-returns-in_err-over-clause-refused t c = on_err _ _ (extends_on _ _ _ (extends_by _ _ _ c.in_ok-past.ensures.tests.is) (extends_on _ _ _ (extends_by _ _ _ c.in_ok-emit_all.ensures.code.lines) c.in_err-over.ensures.refused))

pub walk::emit_loop-returns-in_err-out-clause-refused : goal.walk::emit_loop-returns-in_err-out-clause-refused
walk::emit_loop-returns-in_err-out-clause-refused t c = on_err _ _ c.in_err-out.ensures.refused

pub walk::emit_loop-returns-in_err-emit_all-clause-refused : goal.walk::emit_loop-returns-in_err-emit_all-clause-refused
walk::emit_loop-returns-in_err-emit_all-clause-refused t c = on_err _ _ (extends_on _ _ _ (extends_by _ _ _ c.in_ok-out.ensures.tests.is) c.in_err-emit_all.ensures.refused)

pub walk::emit_loop-returns-in_err-emit_all-2-clause-refused : goal.walk::emit_loop-returns-in_err-emit_all-2-clause-refused
walk::emit_loop-returns-in_err-emit_all-2-clause-refused t c = on_err _ _ (extends_on _ _ _ (extends_by _ _ _ c.in_ok-out.ensures.tests.is) (extends_on _ _ _ (extends_by _ _ _ c.in_ok-emit_all.ensures.code.lines) c.in_err-emit_all-2.ensures.refused))

pub walk::emit_loop-returns-in_err-emit_back-clause-refused : goal.walk::emit_loop-returns-in_err-emit_back-clause-refused
walk::emit_loop-returns-in_err-emit_back-clause-refused t c = on_err _ _ (extends_on _ _ _ (extends_by _ _ _ c.in_ok-out.ensures.tests.is) (extends_on _ _ _ (extends_by _ _ _ c.in_ok-emit_all.ensures.code.lines) (extends_on _ _ _ (extends_by _ _ _ c.in_ok-emit_all-2.ensures.code.lines) c.in_err-emit_back.ensures.refused)))

pub walk::emit_block-returns-in_err-emit_all-clause-refused : goal.walk::emit_block-returns-in_err-emit_all-clause-refused
walk::emit_block-returns-in_err-emit_all-clause-refused t c = on_err _ _ c.in_err-emit_all.ensures.refused

pub walk::emit_one-returns-in-Zero-clause-refused : goal.walk::emit_one-returns-in-Zero-clause-refused
walk::emit_one-returns-in-Zero-clause-refused t c = c.emit_zero.ensures.refused

pub walk::emit_one-returns-in-Set-clause-refused : goal.walk::emit_one-returns-in-Set-clause-refused
walk::emit_one-returns-in-Set-clause-refused t c = c.emit_set.ensures.refused

pub walk::emit_one-returns-in-Out-clause-refused : goal.walk::emit_one-returns-in-Out-clause-refused
walk::emit_one-returns-in-Out-clause-refused t c = c.emit_output.ensures.refused

pub walk::emit_one-returns-in-In-clause-refused : goal.walk::emit_one-returns-in-In-clause-refused
walk::emit_one-returns-in-In-clause-refused t c = c.emit_input.ensures.refused

pub walk::emit_one-returns-in-If-clause-refused : goal.walk::emit_one-returns-in-If-clause-refused
walk::emit_one-returns-in-If-clause-refused t c = c.emit_if.ensures.refused

pub walk::emit_one-returns-in-Loop-clause-refused : goal.walk::emit_one-returns-in-Loop-clause-refused
walk::emit_one-returns-in-Loop-clause-refused t c = c.emit_loop.ensures.refused

pub walk::emit_one-returns-in-Block-clause-refused : goal.walk::emit_one-returns-in-Block-clause-refused
walk::emit_one-returns-in-Block-clause-refused t c = c.emit_block.ensures.refused

pub walk::emit_one-returns-in-Exit-clause-refused : goal.walk::emit_one-returns-in-Exit-clause-refused
walk::emit_one-returns-in-Exit-clause-refused t c = c.emit_leaving.ensures.refused

pub walk::emit_one-returns-in-Par-clause-refused : goal.walk::emit_one-returns-in-Par-clause-refused
walk::emit_one-returns-in-Par-clause-refused t c = c.emit_par.ensures.refused

pub walk::emit_if-returns-then-second-eq0-clause-refused : goal.walk::emit_if-returns-then-second-eq0-clause-refused
walk::emit_if-returns-then-second-eq0-clause-refused t c = c.emit_one_side.ensures.refused

pub walk::emit_if-returns-else-second-eq0-clause-refused : goal.walk::emit_if-returns-else-second-eq0-clause-refused
walk::emit_if-returns-else-second-eq0-clause-refused t c = c.emit_two_sides.ensures.refused

pub par::emit_par-returns-in-len1-clause-refused : goal.par::emit_par-returns-in-len1-clause-refused
par::emit_par-returns-in-len1-clause-refused t c = c.emit_all.ensures.refused

pub par::emit_par-returns-clause-refused : goal.par::emit_par-returns-clause-refused
par::emit_par-returns-clause-refused t c = c.emit_several.ensures.refused

pub par::emit_several-returns-in_err-starts-clause-refused : goal.par::emit_several-returns-in_err-starts-clause-refused
par::emit_several-returns-in_err-starts-clause-refused t c = on_err _ _ c.in_err-starts.ensures.refused

pub par::emit_several-returns-in_err-emit_all-clause-refused : goal.par::emit_several-returns-in_err-emit_all-clause-refused
par::emit_several-returns-in_err-emit_all-clause-refused t c = on_err _ _ (extends_on _ _ _ (extends_by _ _ _ c.in_ok-starts.ensures.code) c.in_err-emit_all.ensures.refused)

pub par::emit_several-returns-in_err-past-clause-refused : goal.par::emit_several-returns-in_err-past-clause-refused
par::emit_several-returns-in_err-past-clause-refused t c = on_err _ _ (extends_on _ _ _ (extends_by _ _ _ c.in_ok-starts.ensures.code) (extends_on _ _ _ (extends_by _ _ _ c.in_ok-emit_all.ensures.code.lines) c.in_err-past.ensures.refused))

pub par::emit_slave-returns-in_err-emit_all-clause-refused : goal.par::emit_slave-returns-in_err-emit_all-clause-refused
par::emit_slave-returns-in_err-emit_all-clause-refused t c = on_err _ _ (subst (λ ls. Extends ls c.emit_all.new.e) c.land.ensures c.in_err-emit_all.ensures.refused)

pub par::emit_slave-returns-clause-refused : goal.par::emit_slave-returns-clause-refused
par::emit_slave-returns-clause-refused t c = on_err_on _ _ _ _ (subst (λ ls. Extends ls c.emit_all.new.e) c.land.ensures (extends_by _ _ _ c.in_ok-emit_all.ensures.code.lines)) c.close_slave.ensures.refused

-- what each kind of statement asks for

pub walk::emit_one-emit_zero-requires : goal.walk::emit_one-emit_zero-requires
walk::emit_one-emit_zero-requires t c = record { room = subst (λ s. length c.args.e.now + most c.args.plan.now.vars s < 2 ^ 32) (ap statement_of c.in-Zero.is ∙ statement-Zero c.in-Zero.v) c.requires.room }

pub walk::emit_one-emit_set-requires-clause-room : goal.walk::emit_one-emit_set-requires-clause-room
walk::emit_one-emit_set-requires-clause-room t c = subst (λ s. length c.args.e.now + most c.args.plan.now.vars s < 2 ^ 32) (ap statement_of c.in-Set.is ∙ statement-Set c.in-Set.place c.in-Set.x) c.requires.room

pub walk::emit_one-emit_set-requires-clause-shallow : goal.walk::emit_one-emit_set-requires-clause-shallow
walk::emit_one-emit_set-requires-clause-shallow t c = (subst IsShallow (ap statement_of c.in-Set.is ∙ statement-Set c.in-Set.place c.in-Set.x) c.requires.shallow).1

pub walk::emit_one-emit_set-requires-clause-shallow_place : goal.walk::emit_one-emit_set-requires-clause-shallow_place
walk::emit_one-emit_set-requires-clause-shallow_place t c = (subst IsShallow (ap statement_of c.in-Set.is ∙ statement-Set c.in-Set.place c.in-Set.x) c.requires.shallow).0

pub walk::emit_one-emit_output-requires-clause-built : goal.walk::emit_one-emit_output-requires-clause-built
walk::emit_one-emit_output-requires-clause-built t c = subst IsBuilt (ap statement_of c.in-Out.is ∙ statement-Out c.in-Out.output) c.requires.built

pub walk::emit_one-emit_output-requires-clause-shallow : goal.walk::emit_one-emit_output-requires-clause-shallow
walk::emit_one-emit_output-requires-clause-shallow t c = subst IsShallow (ap statement_of c.in-Out.is ∙ statement-Out c.in-Out.output) c.requires.shallow

pub walk::emit_one-emit_output-requires-clause-room : goal.walk::emit_one-emit_output-requires-clause-room
walk::emit_one-emit_output-requires-clause-room t c = subst (λ s. length c.args.e.now + most c.args.plan.now.vars s < 2 ^ 32) (ap statement_of c.in-Out.is ∙ statement-Out c.in-Out.output) c.requires.room

pub walk::emit_one-emit_input-requires-clause-shallow : goal.walk::emit_one-emit_input-requires-clause-shallow
walk::emit_one-emit_input-requires-clause-shallow t c = subst IsShallow (ap statement_of c.in-In.is ∙ statement-In c.in-In.input) c.requires.shallow

pub walk::emit_one-emit_input-requires-clause-room : goal.walk::emit_one-emit_input-requires-clause-room
walk::emit_one-emit_input-requires-clause-room t c = subst (λ s. length c.args.e.now + most c.args.plan.now.vars s < 2 ^ 32) (ap statement_of c.in-In.is ∙ statement-In c.in-In.input) c.requires.room

pub walk::emit_one-emit_leaving-requires : goal.walk::emit_one-emit_leaving-requires
walk::emit_one-emit_leaving-requires t c = subst (λ s. length c.args.e.now + most c.args.plan.now.vars s < 2 ^ 32) (ap statement_of c.in-Exit.is ∙ statement-Exit c.in-Exit.block) c.requires.room

pub walk::emit_one-unreachable-requires : goal.walk::emit_one-unreachable-requires
walk::emit_one-unreachable-requires t c = subst IsBuilt (ap statement_of c.in-Tran.is ∙ statement-Tran c.in-Tran.chan c.in-Tran.master c.in-Tran.body c.in-Tran.open_at c.in-Tran.close_at) c.requires.built

-- the code, and how much it is

pub walk::emit_one-returns-in-If-clause-code : goal.walk::emit_one-returns-in-If-clause-code
walk::emit_one-returns-in-If-clause-code t c =
    let a = statements_of c.as_slice.result.now in
    let b = statements_of c.as_slice-in-If.result.now in
    let x = expression_of c.in-If.test in
    let is : statement_of c.args.statement.now ≡ kernel.if_then x a b = ap statement_of c.in-If.is ∙ statement-If c.in-If.test c.in-If.first c.in-If.second ∙ ap (λ l. kernel.if_then x (statements_of l) (statements_of c.in-If.second)) (sym c.as_slice.ensures) ∙ ap (λ l. kernel.if_then x a (statements_of l)) (sym c.as_slice-in-If.ensures) in
    statement_emits c.emit_if.result c.args.plan.now (sides_of c.args.sides.now) _ _ _ _ _ _ _ is (λ last pc cells h. h) c.emit_if.ensures.code

pub walk::emit_one-returns-in-Loop-clause-code : goal.walk::emit_one-returns-in-Loop-clause-code
walk::emit_one-returns-in-Loop-clause-code t c =
    let a = statements_of c.as_slice-in-Loop.result.now in
    let b = statements_of c.as_slice-in-Loop-2.result.now in
    let x = expression_of c.in-Loop.test in
    let is : statement_of c.args.statement.now ≡ kernel.loop x a b = ap statement_of c.in-Loop.is ∙ statement-Loop c.in-Loop.test c.in-Loop.body c.in-Loop.next ∙ ap (λ l. kernel.loop x (statements_of l) (statements_of c.in-Loop.next)) (sym c.as_slice-in-Loop.ensures) ∙ ap (λ l. kernel.loop x a (statements_of l)) (sym c.as_slice-in-Loop-2.ensures) in
    statement_emits c.emit_loop.result c.args.plan.now (sides_of c.args.sides.now) _ _ _ _ _ _ _ is (λ last pc cells h. h) c.emit_loop.ensures.code

pub walk::emit_one-returns-in-Block-clause-code : goal.walk::emit_one-returns-in-Block-clause-code
walk::emit_one-returns-in-Block-clause-code t c =
    let a = statements_of c.as_slice-in-Block.result.now in
    let is : statement_of c.args.statement.now ≡ kernel.block c.in-Block.block a = ap statement_of c.in-Block.is ∙ statement-Block c.in-Block.block c.in-Block.inside ∙ ap (λ l. kernel.block c.in-Block.block (statements_of l)) (sym c.as_slice-in-Block.ensures) in
    statement_emits c.emit_block.result c.args.plan.now (sides_of c.args.sides.now) _ _ _ _ _ _ _ is (λ last pc cells h. h) c.emit_block.ensures.code

pub walk::emit_one-returns-in-Exit-clause-code : goal.walk::emit_one-returns-in-Exit-clause-code
walk::emit_one-returns-in-Exit-clause-code t c =
    let is = ap statement_of c.in-Exit.is ∙ statement-Exit c.in-Exit.block in
    statement_emits c.emit_leaving.result c.args.plan.now (sides_of c.args.sides.now) _ _ _ _ _ _ _ is (λ last pc cells h. h) c.emit_leaving.ensures.code

pub walk::emit_one-returns-in-Par-clause-code : goal.walk::emit_one-returns-in-Par-clause-code
walk::emit_one-returns-in-Par-clause-code t c =
    let bs = branches_of c.as_slice-in-Par.result.now in
    let is : statement_of c.args.statement.now ≡ kernel.par bs = ap statement_of c.in-Par.is ∙ statement-Par c.in-Par.branches ∙ ap (λ l. kernel.par (branches_of l)) (sym c.as_slice-in-Par.ensures) in
    statement_emits c.emit_par.result c.args.plan.now (sides_of c.args.sides.now) _ _ _ _ _ _ _ is (λ last pc cells h. h) c.emit_par.ensures.code

pub walk::emit_one-returns-in-Zero-clause-size : goal.walk::emit_one-returns-in-Zero-clause-size
walk::emit_one-returns-in-Zero-clause-size t c = statement_within c.emit_zero.result c.args.plan.now.vars _ _ _ _ (ap statement_of c.in-Zero.is ∙ statement-Zero c.in-Zero.v) c.emit_zero.ensures.size

pub walk::emit_one-returns-in-Set-clause-size : goal.walk::emit_one-returns-in-Set-clause-size
walk::emit_one-returns-in-Set-clause-size t c = statement_within c.emit_set.result c.args.plan.now.vars _ _ _ _ (ap statement_of c.in-Set.is ∙ statement-Set c.in-Set.place c.in-Set.x) c.emit_set.ensures.size

pub walk::emit_one-returns-in-Out-clause-size : goal.walk::emit_one-returns-in-Out-clause-size
walk::emit_one-returns-in-Out-clause-size t c = statement_within c.emit_output.result c.args.plan.now.vars _ _ _ _ (ap statement_of c.in-Out.is ∙ statement-Out c.in-Out.output) c.emit_output.ensures.size

pub walk::emit_one-returns-in-In-clause-size : goal.walk::emit_one-returns-in-In-clause-size
walk::emit_one-returns-in-In-clause-size t c = statement_within c.emit_input.result c.args.plan.now.vars _ _ _ _ (ap statement_of c.in-In.is ∙ statement-In c.in-In.input) c.emit_input.ensures.size

pub walk::emit_one-returns-in-Block-clause-size : goal.walk::emit_one-returns-in-Block-clause-size
walk::emit_one-returns-in-Block-clause-size t c =
    let a = statements_of c.as_slice-in-Block.result.now in
    let is : statement_of c.args.statement.now ≡ kernel.block c.in-Block.block a = ap statement_of c.in-Block.is ∙ statement-Block c.in-Block.block c.in-Block.inside ∙ ap (λ l. kernel.block c.in-Block.block (statements_of l)) (sym c.as_slice-in-Block.ensures) in
    statement_within c.emit_block.result c.args.plan.now.vars _ _ _ _ is c.emit_block.ensures.size

pub walk::emit_one-returns-in-Exit-clause-size : goal.walk::emit_one-returns-in-Exit-clause-size
walk::emit_one-returns-in-Exit-clause-size t c =
    let is = ap statement_of c.in-Exit.is ∙ statement-Exit c.in-Exit.block in
    statement_within c.emit_leaving.result c.args.plan.now.vars _ _ _ _ is c.emit_leaving.ensures.size

pub walk::emit_one-returns-in-Par-clause-size : goal.walk::emit_one-returns-in-Par-clause-size
walk::emit_one-returns-in-Par-clause-size t c =
    let bs = branches_of c.as_slice-in-Par.result.now in
    let is : statement_of c.args.statement.now ≡ kernel.par bs = ap statement_of c.in-Par.is ∙ statement-Par c.in-Par.branches ∙ ap (λ l. kernel.par (branches_of l)) (sym c.as_slice-in-Par.ensures) in
    statement_within c.emit_par.result c.args.plan.now.vars _ _ _ _ is c.emit_par.ensures.size

pub walk::emit_one-returns-in-If-clause-size : goal.walk::emit_one-returns-in-If-clause-size
walk::emit_one-returns-in-If-clause-size t c =
    let a = statements_of c.as_slice.result.now in
    let b = statements_of c.as_slice-in-If.result.now in
    let x = expression_of c.in-If.test in
    let is : statement_of c.args.statement.now ≡ kernel.if_then x a b = ap statement_of c.in-If.is ∙ statement-If c.in-If.test c.in-If.first c.in-If.second ∙ ap (λ l. kernel.if_then x (statements_of l) (statements_of c.in-If.second)) (sym c.as_slice.ensures) ∙ ap (λ l. kernel.if_then x a (statements_of l)) (sym c.as_slice-in-If.ensures) in
    statement_within c.emit_if.result c.args.plan.now.vars _ _ _ _ is (ok_summed _ _ _ _ _ _ c.emit_if.ensures.size)

pub walk::emit_one-returns-in-Loop-clause-size : goal.walk::emit_one-returns-in-Loop-clause-size
walk::emit_one-returns-in-Loop-clause-size t c =
    let a = statements_of c.as_slice-in-Loop.result.now in
    let b = statements_of c.as_slice-in-Loop-2.result.now in
    let x = expression_of c.in-Loop.test in
    let is : statement_of c.args.statement.now ≡ kernel.loop x a b = ap statement_of c.in-Loop.is ∙ statement-Loop c.in-Loop.test c.in-Loop.body c.in-Loop.next ∙ ap (λ l. kernel.loop x (statements_of l) (statements_of c.in-Loop.next)) (sym c.as_slice-in-Loop.ensures) ∙ ap (λ l. kernel.loop x a (statements_of l)) (sym c.as_slice-in-Loop-2.ensures) in
    statement_within c.emit_loop.result c.args.plan.now.vars _ _ _ _ is (ok_summed _ _ _ _ _ _ c.emit_loop.ensures.size)

pub walk::emit_if-emit_one_side-requires : goal.walk::emit_if-emit_one_side-requires
walk::emit_if-emit_one_side-requires t c = (omega (arith, c.decreases), (c.requires.built, (c.requires.shallow, (c.requires.shallow_first, (c.requires.narrow_first, (c.requires.stack, omega (arith, c.requires.room)))))))

pub walk::emit_if-emit_two_sides-requires : goal.walk::emit_if-emit_two_sides-requires
walk::emit_if-emit_two_sides-requires t c = (omega (arith, c.decreases), (c.requires.built, (c.requires.built_second, (c.requires.shallow, (c.requires.shallow_first, (c.requires.shallow_second, (c.requires.narrow_first, (c.requires.narrow_second, (c.requires.stack, c.requires.room)))))))))

pub walk::emit_if-returns-then-second-eq0-clause-code : goal.walk::emit_if-returns-then-second-eq0-clause-code
walk::emit_if-returns-then-second-eq0-clause-code t c =
    let vars = c.args.plan.now.vars in
    let x = expression_of c.args.test.now in
    let a = AllEmit c.args.plan.now (sides_of c.args.sides.now) (statements_of c.args.first.now) in
    let b = AllEmit c.args.plan.now (sides_of c.args.sides.now) (statements_of c.args.second.now) in
    ok_as c.emit_one_side.result (OneSide vars x a) (Branching (statements_of c.args.second.now) vars x a b) c.args.e.now c.emit_one_side.new.e c.args.left.now.items c.emit_one_side.new.left.items (branch_one c.args.second.now vars x a b (omega (arith, c.if-second-eq0.true))) c.emit_one_side.ensures.code

pub walk::emit_if-returns-then-second-eq0-clause-size : goal.walk::emit_if-returns-then-second-eq0-clause-size
walk::emit_if-returns-then-second-eq0-clause-size t c =
    let room = length c.args.e.now + 8 * nodes (expression_of c.args.test.now) + most_of_all c.args.plan.now.vars (statements_of c.args.first.now) in
    ok_within c.emit_one_side.result (length c.emit_one_side.new.e) (room + 1) (room + most_of_all c.args.plan.now.vars (statements_of c.args.second.now) + 2) (omega arith) c.emit_one_side.ensures.size

pub walk::emit_if-returns-else-second-eq0-clause-size : goal.walk::emit_if-returns-else-second-eq0-clause-size
walk::emit_if-returns-else-second-eq0-clause-size t c = c.emit_two_sides.ensures.size

pub walk::emit_one_side-emit_test-requires-clause-room : goal.walk::emit_one_side-emit_test-requires-clause-room
walk::emit_one_side-emit_test-requires-clause-room t c = omega (arith, c.requires.room)

pub walk::emit_one_side-emit_test-requires-clause-shallow : goal.walk::emit_one_side-emit_test-requires-clause-shallow
walk::emit_one_side-emit_test-requires-clause-shallow t c = c.requires.shallow

pub walk::emit_two_sides-emit_test-requires-clause-room : goal.walk::emit_two_sides-emit_test-requires-clause-room
walk::emit_two_sides-emit_test-requires-clause-room t c = omega (arith, c.requires.room)

pub walk::emit_two_sides-emit_test-requires-clause-shallow : goal.walk::emit_two_sides-emit_test-requires-clause-shallow
walk::emit_two_sides-emit_test-requires-clause-shallow t c = c.requires.shallow

pub walk::emit_loop-emit_test-requires-clause-room : goal.walk::emit_loop-emit_test-requires-clause-room
walk::emit_loop-emit_test-requires-clause-room t c = omega (arith, c.requires.room)

pub walk::emit_loop-emit_test-requires-clause-shallow : goal.walk::emit_loop-emit_test-requires-clause-shallow
walk::emit_loop-emit_test-requires-clause-shallow t c = c.requires.shallow

pub walk::emit_two_sides-emit_jump-requires : goal.walk::emit_two_sides-emit_jump-requires
walk::emit_two_sides-emit_jump-requires t c = omega (arith, c.in_ok-emit_all.ensures.size, c.in_ok-past.ensures.size, c.requires.room)

pub walk::emit_loop-emit_back-requires-clause-room : goal.walk::emit_loop-emit_back-requires-clause-room
walk::emit_loop-emit_back-requires-clause-room t c = omega (arith, c.in_ok-emit_all-2.ensures.size, c.in_ok-emit_all.ensures.size, c.in_ok-out.ensures.size, c.requires.room)

pub walk::emit_loop-emit_back-requires-clause-behind : goal.walk::emit_loop-emit_back-requires-clause-behind
walk::emit_loop-emit_back-requires-clause-behind t c =
    let test = as_long c.args.e.now c.emit_test.new.e _ c.in_ok-out.ensures.tests.is in
    let body = as_long c.emit_test.new.e c.emit_all.new.e _ c.in_ok-emit_all.ensures.code.lines in
    let next = as_long c.emit_all.new.e c.emit_all-2.new.e _ c.in_ok-emit_all-2.ensures.code.lines in
    omega (arith, c.here-start.ensures.next, test, body, next)

pub walk::emit_one_side-returns-clause-size : goal.walk::emit_one_side-returns-clause-size
walk::emit_one_side-returns-clause-size t c =
    let same = ap length c.land.ensures ∙ landed_size c.emit_all.new.e c.in_ok-past.past.index (length c.emit_all.new.e) in
    omega (arith, same, c.in_ok-emit_all.ensures.size, c.in_ok-past.ensures.size)

pub walk::emit_two_sides-returns-clause-size : goal.walk::emit_two_sides-returns-clause-size
walk::emit_two_sides-returns-clause-size t c =
    let first = ap length c.land.ensures ∙ landed_size c.emit_jump.new.e c.in_ok-past.past.index (length c.emit_jump.new.e) in
    let second = ap length c.land-2.ensures ∙ landed_size c.emit_all-2.new.e c.in_ok-over.over.index (length c.emit_all-2.new.e) in
    let jump = ap length c.in_ok-over.ensures.code ∙ length-append c.emit_all.new.e (open_line (Brfu 0) c.pos-last-2.result ∷ []) in
    omega (arith, first, second, jump, c.in_ok-emit_all-2.ensures.size, c.in_ok-emit_all.ensures.size, c.in_ok-past.ensures.size)

pub walk::emit_loop-returns-clause-size : goal.walk::emit_loop-returns-clause-size
walk::emit_loop-returns-clause-size t c =
    let same = ap length c.land.ensures ∙ landed_size c.emit_back.new.e c.in_ok-out.out.index (length c.emit_back.new.e) in
    let back = ap length c.in_ok-emit_back.ensures.code ∙ length-append c.emit_all-2.new.e (line (Brbu c.here-start.result) c.pos-last-2.result ∷ []) in
    omega (arith, same, back, c.in_ok-emit_all-2.ensures.size, c.in_ok-emit_all.ensures.size, c.in_ok-out.ensures.size)

pub walk::emit_all-returns-clause-size : goal.walk::emit_all-returns-clause-size
walk::emit_all-returns-clause-size t c = let room = c.loop-statement.invariant.room in omega (arith, room)

pub walk::emit_block-emit_all-requires : goal.walk::emit_block-emit_all-requires
walk::emit_block-emit_all-requires t c = (omega (arith, c.decreases), (c.requires.built, (c.requires.shallow, (c.requires.narrow, (c.requires.stack, c.requires.room)))))

pub par::emit_several-open_par-requires-clause-several : goal.par::emit_several-open_par-requires-clause-several
par::emit_several-open_par-requires-clause-several t c = omega (arith, c.requires.several)

pub par::emit_several-open_par-requires-clause-few : goal.par::emit_several-open_par-requires-clause-few
par::emit_several-open_par-requires-clause-few t c = omega (arith, c.requires.count)

pub par::emit_several-open_par-requires-clause-inside : goal.par::emit_several-open_par-requires-clause-inside
par::emit_several-open_par-requires-clause-inside t c = c.requires.stack

pub par::emit_several-overflow_cast-others : goal.par::emit_several-overflow_cast-others
par::emit_several-overflow_cast-others t c = omega (arith, c.requires.count)

pub par::emit_several-overflow_add-others : goal.par::emit_several-overflow_add-others
par::emit_several-overflow_add-others t c = omega (arith, c.requires.count)

pub par::emit_slave-land-requires : goal.par::emit_slave-land-requires
par::emit_slave-land-requires t c = c.requires.open_start

pub par::emit_slave-emit_all-requires : goal.par::emit_slave-emit_all-requires
par::emit_slave-emit_all-requires t c =
    let same = ap length c.land.ensures ∙ landed_size c.args.e.now c.args.start.index (length c.args.e.now) in
    (omega (arith, c.decreases), (c.requires.built, (c.requires.shallow, (c.requires.narrow, (c.requires.stack, omega (arith, same, c.requires.room))))))

pub par::emit_slave-close_slave-requires : goal.par::emit_slave-close_slave-requires
par::emit_slave-close_slave-requires t c =
    let same = ap length c.land.ensures ∙ landed_size c.args.e.now c.args.start.index (length c.args.e.now) in
    omega (arith, same, c.in_ok-emit_all.ensures.size, c.requires.room)

pub par::emit_slave-returns-clause-size : goal.par::emit_slave-returns-clause-size
par::emit_slave-returns-clause-size t c =
    let same = ap length c.land.ensures ∙ landed_size c.args.e.now c.args.start.index (length c.args.e.now) in
    ok_one_more c.close_slave.result c.emit_all.new.e c.close_slave.new.e _ (length c.args.e.now + most_of_all c.args.plan.now.vars (statements_of c.args.body.now)) (omega (arith, same, c.in_ok-emit_all.ensures.size)) c.close_slave.ensures.code

-- a select

pub walk::emit_one-emit_select-requires : goal.walk::emit_one-emit_select-requires
walk::emit_one-emit_select-requires t c =
    let is : statement_of c.args.statement.now ≡ select_of c.in-Select.select = ap statement_of c.in-Select.is ∙ statement-Select c.in-Select.select in
    (omega (arith, ap weight is, c.decreases), (subst IsBuilt is c.requires.built, (subst IsShallow is c.requires.shallow, (subst IsNarrow is c.requires.narrow, (c.requires.stack, subst (λ s. length c.args.e.now + most c.args.plan.now.vars s < 2 ^ 32) is c.requires.room)))))

pub walk::emit_one-returns-in-Select-clause-code : goal.walk::emit_one-returns-in-Select-clause-code
walk::emit_one-returns-in-Select-clause-code t c =
    let is : statement_of c.args.statement.now ≡ select_of c.in-Select.select = ap statement_of c.in-Select.is ∙ statement-Select c.in-Select.select in
    statement_emits c.emit_select.result c.args.plan.now (sides_of c.args.sides.now) _ _ _ _ _ _ _ is (λ last pc cells h. h) c.emit_select.ensures.code

pub walk::emit_one-returns-in-Select-clause-size : goal.walk::emit_one-returns-in-Select-clause-size
walk::emit_one-returns-in-Select-clause-size t c =
    let is : statement_of c.args.statement.now ≡ select_of c.in-Select.select = ap statement_of c.in-Select.is ∙ statement-Select c.in-Select.select in
    statement_within c.emit_select.result c.args.plan.now.vars _ _ _ _ is c.emit_select.ensures.size

pub walk::emit_one-returns-in-Select-clause-refused : goal.walk::emit_one-returns-in-Select-clause-refused
walk::emit_one-returns-in-Select-clause-refused t c = c.emit_select.ensures.refused

-- a case

pub select::emit_case-land-requires : goal.select::emit_case-land-requires
select::emit_case-land-requires t c = c.requires.open_start

pub select::emit_case-open_case-requires-clause-room : goal.select::emit_case-open_case-requires-clause-room
select::emit_case-open_case-requires-clause-room t c =
    let same = ap length c.land.ensures ∙ landed_size c.args.e.now c.args.start.index (length c.args.e.now) in
    omega (arith, same, c.requires.room)

pub select::emit_case-open_case-requires-clause-shallow : goal.select::emit_case-open_case-requires-clause-shallow
select::emit_case-open_case-requires-clause-shallow t c = c.requires.shallow_entry

pub select::emit_case-emit_all-requires : goal.select::emit_case-emit_all-requires
select::emit_case-emit_all-requires t c =
    let same = ap length c.land.ensures ∙ landed_size c.args.e.now c.args.start.index (length c.args.e.now) in
    (omega (arith, c.decreases), (c.requires.built, (c.requires.shallow, (c.requires.narrow, (c.requires.stack, omega (arith, same, c.in_ok-open_case.ensures.size, c.requires.room))))))

pub select::emit_case-emit_jump_unless-requires : goal.select::emit_case-emit_jump_unless-requires
select::emit_case-emit_jump_unless-requires t c =
    let same = ap length c.land.ensures ∙ landed_size c.args.e.now c.args.start.index (length c.args.e.now) in
    omega (arith, same, c.in_ok-emit_all.ensures.size, c.in_ok-open_case.ensures.size, c.requires.room)

pub select::emit_case-returns-clause-code : goal.select::emit_case-returns-clause-code
select::emit_case-returns-clause-code t c =
    case_code c.emit_jump_unless.result c.args.plan.now (input_of c.args.head.now) c.end_of_case-end.result _ (AllEmit c.args.plan.now (sides_of c.args.sides.now) (statements_of c.args.body.now)) c.args.ends_select
    c.land.new.self (landed c.args.e.now c.args.start.index (length c.args.e.now)) c.open_case.new.e c.emit_all.new.e c.emit_jump_unless.new.e c.args.left.now.items c.emit_all.new.left.items c.emit_jump_unless.new.left.items
    c.end_of_case-end.ensures c.land.ensures c.in_ok-open_case.ensures.enters c.in_ok-open_case.ensures.aimed c.in_ok-emit_all.ensures.code c.emit_jump_unless.ensures.code

pub select::emit_case-returns-clause-size : goal.select::emit_case-returns-clause-size
select::emit_case-returns-clause-size t c =
    let same = ap length c.land.ensures ∙ landed_size c.args.e.now c.args.start.index (length c.args.e.now) in
    ok_within c.emit_jump_unless.result (length c.emit_jump_unless.new.e) (length c.emit_all.new.e + 1) _ (omega (arith, same, c.in_ok-emit_all.ensures.size, c.in_ok-open_case.ensures.size)) c.emit_jump_unless.ensures.size

pub select::emit_case-returns-clause-refused : goal.select::emit_case-returns-clause-refused
select::emit_case-returns-clause-refused t c =
    on_err_on _ _ _ _ (subst (λ ls. Extends ls c.emit_all.new.e) c.land.ensures (extends_on _ _ _ (extends_by _ _ _ c.in_ok-open_case.ensures.enters.is) (extends_by _ _ _ c.in_ok-emit_all.ensures.code.lines))) c.emit_jump_unless.ensures.refused

pub select::emit_case-returns-in_err-open_case-clause-refused : goal.select::emit_case-returns-in_err-open_case-clause-refused
select::emit_case-returns-in_err-open_case-clause-refused t c = on_err _ _ (subst (λ ls. Extends ls c.open_case.new.e) c.land.ensures c.in_err-open_case.ensures.refused)

pub select::emit_case-returns-in_err-emit_all-clause-refused : goal.select::emit_case-returns-in_err-emit_all-clause-refused
select::emit_case-returns-in_err-emit_all-clause-refused t c =
    on_err _ _ (subst (λ ls. Extends ls c.emit_all.new.e) c.land.ensures (extends_on _ _ _ (extends_by _ _ _ c.in_ok-open_case.ensures.enters.is) c.in_err-emit_all.ensures.refused))

-- the default

pub select::emit_default-land_start-requires : goal.select::emit_default-land_start-requires
select::emit_default-land_start-requires t c = c.requires.landable

pub select::emit_default-returns-in-None-clause-code : goal.select::emit_default-returns-in-None-clause-code
select::emit_default-returns-in-None-clause-code t c =
    no_default_code c.args.plan.now (sides_of c.args.sides.now) c.args.otherwise.now (listed (option_map index_of c.args.start)) c.args.e.now c.args.left.now.items c.in-None.is

pub select::emit_default-returns-in-None-clause-size : goal.select::emit_default-returns-in-None-clause-size
select::emit_default-returns-in-None-clause-size t c = no_more _ _

pub select::emit_default-emit_all-requires : goal.select::emit_default-emit_all-requires
select::emit_default-emit_all-requires t c =
    let is = default_is c.args.otherwise.now c.as_slice.result.now c.in-Some.body c.in-Some.is c.as_slice.ensures in
    let same = ap length c.land_start.ensures ∙ all_size c.args.e.now (listed (option_map index_of c.args.start)) (length c.args.e.now ∷ []) in
    let more = ap (most_of_default c.args.plan.now.vars) is in
    (omega (arith, ap default_weight is, c.decreases), (subst DefaultIsBuilt is c.requires.built, (subst DefaultIsShallow is c.requires.shallow, (subst DefaultIsNarrow is c.requires.narrow, (c.requires.stack, omega (arith, same, more, c.requires.room))))))

pub select::emit_default-returns-in-Some-clause-code : goal.select::emit_default-returns-in-Some-clause-code
select::emit_default-returns-in-Some-clause-code t c =
    let is = default_is c.args.otherwise.now c.as_slice.result.now c.in-Some.body c.in-Some.is c.as_slice.ensures in
    default_code c.emit_all.result (listed (option_map index_of c.args.start)) c.args.e.now c.land_start.new.e c.emit_all.new.e c.land_start.ensures c.args.plan.now (sides_of c.args.sides.now) (default_of c.args.otherwise.now) (statements_of c.as_slice.result.now) c.args.left.now.items c.emit_all.new.left.items is c.emit_all.ensures.code

pub select::emit_default-returns-in-Some-clause-size : goal.select::emit_default-returns-in-Some-clause-size
select::emit_default-returns-in-Some-clause-size t c =
    let is = default_is c.args.otherwise.now c.as_slice.result.now c.in-Some.body c.in-Some.is c.as_slice.ensures in
    let same = ap length c.land_start.ensures ∙ all_size c.args.e.now (listed (option_map index_of c.args.start)) (length c.args.e.now ∷ []) in
    let more = ap (most_of_default c.args.plan.now.vars) is in
    ok_within c.emit_all.result (length c.emit_all.new.e) _ _ (omega (arith, same, more)) c.emit_all.ensures.size

pub select::emit_default-returns-in-Some-clause-refused : goal.select::emit_default-returns-in-Some-clause-refused
select::emit_default-returns-in-Some-clause-refused t c =
    default_refused c.emit_all.result (listed (option_map index_of c.args.start)) c.args.e.now c.land_start.new.e c.emit_all.new.e c.land_start.ensures c.emit_all.ensures.refused

-- the cases

pub select::emit_cases-loop-index-init : goal.select::emit_cases-loop-index-init
select::emit_cases-loop-index-init t c =
    cases_begin c.args.plan.now (sides_of c.args.sides.now) (default_of c.args.otherwise.now) (cases_of c.args.cases.now) (indices_of c.args.starts.now ++ listed (option_map index_of c.args.default_start)) c.args.e.now c.args.left.now.items c.requires.built c.requires.shallow c.requires.narrow c.requires.landable

pub select::emit_cases-bounds-cases-index : goal.select::emit_cases-bounds-cases-index
select::emit_cases-bounds-cases-index t c = c.loop-index-test.true

pub select::emit_cases-bounds-starts-index : goal.select::emit_cases-bounds-starts-index
select::emit_cases-bounds-starts-index t c = omega (arith, c.loop-index-test.true, c.requires.as_many)

pub select::emit_cases-emit_case-requires : goal.select::emit_cases-emit_case-requires
select::emit_cases-emit_case-requires t c =
    let cs = c.args.cases.now in
    let hs = c.args.starts.now in
    let more = listed (option_map index_of c.args.default_start) in
    let i = c.loop-index.index in
    let x = c.index-cases-index.result in
    let body = c.as_slice.result.now in
    let h = next_case c.args.plan.now (sides_of c.args.sides.now) (default_of c.args.otherwise.now) cs hs more (indices_of hs ++ more) i c.args.e.now c.loop-index.e c.args.left.now.items c.loop-index.left.items c.requires.as_many c.loop-index.invariant c.loop-index-test.true x body c.index-cases-index.is c.as_slice.ensures (record { index = 0 }) in
    let w = case_lighter cs i x (default_weight (default_of c.args.otherwise.now)) c.index-cases-index.is c.loop-index-test.true in
    let same = ap weights (ap statements_of c.as_slice.ensures) in
    let is_open = case_open c.args.plan.now (sides_of c.args.sides.now) (default_of c.args.otherwise.now) (cases_of cs) (cases_of (drop (i + 1) cs)) (option_map expression_of x.guard) (input_of x.head) (statements_of body) (indices_of hs ++ more) (indices_of (drop (i + 1) hs) ++ more) (get_or hs i (record { index = 0 })).index c.args.e.now c.loop-index.e c.args.left.now.items c.loop-index.left.items h in
    (omega (arith, w, same, c.decreases), (h.built.0, (h.shallow.0, (h.shallow.1, (h.narrow.0, (c.requires.stack, (is_open, omega (arith, h.room, c.requires.room))))))))

pub select::emit_cases-loop-index-preserved : goal.select::emit_cases-loop-index-preserved
select::emit_cases-loop-index-preserved t c =
    let plan = c.args.plan.now in
    let sides = sides_of c.args.sides.now in
    let d = default_of c.args.otherwise.now in
    let cs = c.args.cases.now in
    let hs = c.args.starts.now in
    let more = listed (option_map index_of c.args.default_start) in
    let i = c.loop-index.index in
    let x = c.index-cases-index.result in
    let body = c.as_slice.result.now in
    let h = next_case plan sides d cs hs more (indices_of hs ++ more) i c.args.e.now c.loop-index.e c.args.left.now.items c.loop-index.left.items c.requires.as_many c.loop-index.invariant c.loop-index-test.true x body c.index-cases-index.is c.as_slice.ensures (record { index = 0 }) in
    let last = c.is_last_code-ends_select.ensures ∙ ap (λ l. is_last (cases_of l) d) (rest_is cs (i + 1) (omega (arith, c.loop-index-test.true))) in
    cases_go_on plan sides d (cases_of cs) (cases_of (drop (i + 1) cs)) (option_map expression_of x.guard) (input_of x.head) (statements_of body) (indices_of hs ++ more) (indices_of (drop (i + 1) hs) ++ more) (get_or hs i (record { index = 0 })).index c.args.e.now c.loop-index.e c.args.left.now.items c.loop-index.left.items h c.emit_case.new.e c.emit_case.new.left.items
    (subst (λ b. Emitted (CaseCode (EntersCase plan (input_of x.head) (case_end plan.channels sides x.head.res) true) (AllEmit plan sides (statements_of body)) b) (landed c.loop-index.e (get_or hs i (record { index = 0 })).index (length c.loop-index.e)) c.emit_case.new.e c.loop-index.left.items c.emit_case.new.left.items) last c.in_ok-emit_case.ensures.code)
    c.in_ok-emit_case.ensures.size

pub select::emit_cases-returns-in_err-emit_case-clause-refused : goal.select::emit_cases-returns-in_err-emit_case-clause-refused
select::emit_cases-returns-in_err-emit_case-clause-refused t c =
    let cs = c.args.cases.now in
    let hs = c.args.starts.now in
    let more = listed (option_map index_of c.args.default_start) in
    let i = c.loop-index.index in
    let x = c.index-cases-index.result in
    let body = c.as_slice.result.now in
    let h = next_case c.args.plan.now (sides_of c.args.sides.now) (default_of c.args.otherwise.now) cs hs more (indices_of hs ++ more) i c.args.e.now c.loop-index.e c.args.left.now.items c.loop-index.left.items c.requires.as_many c.loop-index.invariant c.loop-index-test.true x body c.index-cases-index.is c.as_slice.ensures (record { index = 0 }) in
    on_err c.from_residual.result (Lands (indices_of hs ++ more) c.args.e.now c.emit_case.new.e)
    (case_refused c.args.plan.now (sides_of c.args.sides.now) (default_of c.args.otherwise.now) (cases_of cs) (cases_of (drop (i + 1) cs)) (option_map expression_of x.guard) (input_of x.head) (statements_of body) (indices_of hs ++ more) (indices_of (drop (i + 1) hs) ++ more) (get_or hs i (record { index = 0 })).index c.args.e.now c.loop-index.e c.args.left.now.items c.loop-index.left.items h c.emit_case.new.e c.in_err-emit_case.ensures.refused)

pub select::emit_cases-emit_default-requires : goal.select::emit_cases-emit_default-requires
select::emit_cases-emit_default-requires t c =
    let more = listed (option_map index_of c.args.default_start) in
    let all = cases_of c.args.cases.now in
    let h = cases_over c.args.plan.now (sides_of c.args.sides.now) (default_of c.args.otherwise.now) c.args.cases.now c.args.starts.now more (indices_of c.args.starts.now ++ more) c.loop-index.index c.args.e.now c.loop-index.e c.args.left.now.items c.loop-index.left.items c.requires.as_many c.loop-index.invariant c.loop-index-test.false in
    let w = some_weight_of_cases all (default_weight (default_of c.args.otherwise.now)) in
    (omega (arith, w, c.decreases), (c.requires.built_default, (c.requires.shallow_default, (c.requires.narrow_default, (c.requires.stack, (default_landable c.args.plan.now (sides_of c.args.sides.now) (default_of c.args.otherwise.now) all (indices_of c.args.starts.now ++ more) more c.args.e.now c.loop-index.e c.args.left.now.items c.loop-index.left.items h, omega (arith, h.room, c.requires.room)))))))

pub select::emit_cases-returns-clause-code : goal.select::emit_cases-returns-clause-code
select::emit_cases-returns-clause-code t c =
    let more = listed (option_map index_of c.args.default_start) in
    let h = cases_over c.args.plan.now (sides_of c.args.sides.now) (default_of c.args.otherwise.now) c.args.cases.now c.args.starts.now more (indices_of c.args.starts.now ++ more) c.loop-index.index c.args.e.now c.loop-index.e c.args.left.now.items c.loop-index.left.items c.requires.as_many c.loop-index.invariant c.loop-index-test.false in
    cases_end c.emit_default.result c.args.plan.now (sides_of c.args.sides.now) (default_of c.args.otherwise.now) (cases_of c.args.cases.now) (indices_of c.args.starts.now ++ more) more c.args.e.now c.loop-index.e c.emit_default.new.e c.args.left.now.items c.loop-index.left.items c.emit_default.new.left.items h c.emit_default.ensures.code

pub select::emit_cases-returns-clause-size : goal.select::emit_cases-returns-clause-size
select::emit_cases-returns-clause-size t c =
    let room = c.loop-index.invariant.room in
    ok_within c.emit_default.result (length c.emit_default.new.e) _ _ (omega (arith, room)) c.emit_default.ensures.size

pub select::emit_cases-returns-clause-refused : goal.select::emit_cases-returns-clause-refused
select::emit_cases-returns-clause-refused t c =
    let more = listed (option_map index_of c.args.default_start) in
    let h = cases_over c.args.plan.now (sides_of c.args.sides.now) (default_of c.args.otherwise.now) c.args.cases.now c.args.starts.now more (indices_of c.args.starts.now ++ more) c.loop-index.index c.args.e.now c.loop-index.e c.args.left.now.items c.loop-index.left.items c.requires.as_many c.loop-index.invariant c.loop-index-test.false in
    cases_refused c.emit_default.result c.args.plan.now (sides_of c.args.sides.now) (default_of c.args.otherwise.now) (cases_of c.args.cases.now) (indices_of c.args.starts.now ++ more) more c.args.e.now c.loop-index.e c.emit_default.new.e c.args.left.now.items c.loop-index.left.items c.emit_default.new.left.items h c.emit_default.ensures.refused

-- all of a select

pub select::emit_select-open_select-requires-clause-room : goal.select::emit_select-open_select-requires-clause-room
select::emit_select-open_select-requires-clause-room t c =
    let is = select-KSelect c.args.select.now in
    let parts = ap (λ x. cases_parts (cases_in x)) is in
    let size = ap (most c.args.plan.now.vars) is in
    omega (arith, parts, size, c.requires.room)

pub select::emit_select-open_select-requires-clause-ends : goal.select::emit_select-open_select-requires-clause-ends
select::emit_select-open_select-requires-clause-ends t c =
    ends_as_many c.args.plan.now.channels (sides_of c.args.sides.now) (select_of c.args.select.now) (cases_of c.as_slice-cases.result.now) (default_of (out-KSelect c.args.select.now).otherwise) (out-KSelect c.args.select.now).pos c.as_slice.result.now
    (select_is c.args.select.now c.as_slice-cases.result.now c.as_slice-cases.ensures) (c.as_slice.ensures ∙ c.in_ok-ends.ensures)

pub select::emit_select-emit_cases-requires : goal.select::emit_select-emit_cases-requires
select::emit_select-emit_cases-requires t c =
    let plan = c.args.plan.now in
    let sides = sides_of c.args.sides.now in
    let s = c.args.select.now in
    let cs = cases_of c.as_slice-cases.result.now in
    let d = default_of (out-KSelect s).otherwise in
    let pos = (out-KSelect s).pos in
    let is = select_is s c.as_slice-cases.result.now c.as_slice-cases.ensures in
    let ends_are = c.as_slice.ensures ∙ c.in_ok-ends.ensures in
    let starts = indices_of c.as_slice-2.result.now in
    let hole = option_map index_of c.in_ok-starts.starts.otherwise in
    let o = c.in_ok-starts.ensures in
    let said = opened_by plan c.as_slice.result.now (select_of s) c.args.e.now c.open_select.new.e starts hole o.code (ap indices_of c.as_slice-2.ensures ∙ o.holes) o.otherwise o.open o.aimed o.opens in
    let built = subst IsBuilt is c.requires.built in
    let shallow = subst IsShallow is c.requires.shallow in
    let narrow = subst IsNarrow is c.requires.narrow in
    let parts = ap (λ x. cases_parts (cases_in x)) is in
    let size = ap (most plan.vars) is in
    let count = sym (indices_length c.as_slice-2.result.now) ∙ whole_count plan sides cs d pos (select_of s) is c.as_slice.result.now ends_are c.args.e.now c.open_select.new.e starts hole said ∙ cases_count c.as_slice-cases.result.now in
    let landable = whole_landable plan sides cs d pos (select_of s) is c.as_slice.result.now ends_are c.args.e.now c.open_select.new.e starts hole said in
    (omega (arith, ap weight is, c.decreases), (built.0, (built.1, (shallow.1, (shallow.2, (narrow.1, (narrow.2, (c.requires.stack, (count, (landable, omega (arith, o.size, parts, size, c.requires.room)))))))))))

pub select::emit_select-returns-in_err-emit_cases-clause-refused : goal.select::emit_select-returns-in_err-emit_cases-clause-refused
select::emit_select-returns-in_err-emit_cases-clause-refused t c =
    let plan = c.args.plan.now in
    let sides = sides_of c.args.sides.now in
    let s = c.args.select.now in
    let cs = cases_of c.as_slice-cases.result.now in
    let d = default_of (out-KSelect s).otherwise in
    let pos = (out-KSelect s).pos in
    let is = select_is s c.as_slice-cases.result.now c.as_slice-cases.ensures in
    let ends_are = c.as_slice.ensures ∙ c.in_ok-ends.ensures in
    let starts = indices_of c.as_slice-2.result.now in
    let hole = option_map index_of c.in_ok-starts.starts.otherwise in
    let o = c.in_ok-starts.ensures in
    let said = opened_by plan c.as_slice.result.now (select_of s) c.args.e.now c.open_select.new.e starts hole o.code (ap indices_of c.as_slice-2.ensures ∙ o.holes) o.otherwise o.open o.aimed o.opens in
    on_err _ (Extends c.args.e.now c.emit_cases.new.e) (whole_refused plan sides cs d pos (select_of s) is c.as_slice.result.now ends_are c.args.e.now c.open_select.new.e starts hole said c.emit_cases.new.e c.in_err-emit_cases.ensures.refused)

pub select::emit_select-end_here-requires-clause-within : goal.select::emit_select-end_here-requires-clause-within
select::emit_select-end_here-requires-clause-within t c =
    let plan = c.args.plan.now in
    let sides = sides_of c.args.sides.now in
    let s = c.args.select.now in
    let cs = cases_of c.as_slice-cases.result.now in
    let d = default_of (out-KSelect s).otherwise in
    let pos = (out-KSelect s).pos in
    let is = select_is s c.as_slice-cases.result.now c.as_slice-cases.ensures in
    let ends_are = c.as_slice.ensures ∙ c.in_ok-ends.ensures in
    let starts = indices_of c.as_slice-2.result.now in
    let hole = option_map index_of c.in_ok-starts.starts.otherwise in
    let o = c.in_ok-starts.ensures in
    let said = opened_by plan c.as_slice.result.now (select_of s) c.args.e.now c.open_select.new.e starts hole o.code (ap indices_of c.as_slice-2.ensures ∙ o.holes) o.otherwise o.open o.aimed o.opens in
    whole_within plan sides cs d pos (select_of s) is c.as_slice.result.now ends_are c.args.e.now c.open_select.new.e starts hole said c.emit_cases.new.e c.args.left.now.items c.emit_cases.new.left.items c.in_ok-emit_cases.ensures.code c.len-outside.result (omega (arith, c.len-outside.ensures, c.args.left.now.ok.0))

pub select::emit_select-end_here-requires-clause-closable : goal.select::emit_select-end_here-requires-clause-closable
select::emit_select-end_here-requires-clause-closable t c =
    let plan = c.args.plan.now in
    let sides = sides_of c.args.sides.now in
    let s = c.args.select.now in
    let cs = cases_of c.as_slice-cases.result.now in
    let d = default_of (out-KSelect s).otherwise in
    let pos = (out-KSelect s).pos in
    let is = select_is s c.as_slice-cases.result.now c.as_slice-cases.ensures in
    let ends_are = c.as_slice.ensures ∙ c.in_ok-ends.ensures in
    let starts = indices_of c.as_slice-2.result.now in
    let hole = option_map index_of c.in_ok-starts.starts.otherwise in
    let o = c.in_ok-starts.ensures in
    let said = opened_by plan c.as_slice.result.now (select_of s) c.args.e.now c.open_select.new.e starts hole o.code (ap indices_of c.as_slice-2.ensures ∙ o.holes) o.otherwise o.open o.aimed o.opens in
    whole_closable plan sides cs d pos (select_of s) is c.as_slice.result.now ends_are c.args.e.now c.open_select.new.e starts hole said c.emit_cases.new.e c.args.left.now.items c.emit_cases.new.left.items c.in_ok-emit_cases.ensures.code c.len-outside.result (omega (arith, c.len-outside.ensures, c.args.left.now.ok.0))

pub select::emit_select-returns-clause-code : goal.select::emit_select-returns-clause-code
select::emit_select-returns-clause-code t c =
    let plan = c.args.plan.now in
    let sides = sides_of c.args.sides.now in
    let s = c.args.select.now in
    let cs = cases_of c.as_slice-cases.result.now in
    let d = default_of (out-KSelect s).otherwise in
    let pos = (out-KSelect s).pos in
    let is = select_is s c.as_slice-cases.result.now c.as_slice-cases.ensures in
    let ends_are = c.as_slice.ensures ∙ c.in_ok-ends.ensures in
    let starts = indices_of c.as_slice-2.result.now in
    let hole = option_map index_of c.in_ok-starts.starts.otherwise in
    let o = c.in_ok-starts.ensures in
    let said = opened_by plan c.as_slice.result.now (select_of s) c.args.e.now c.open_select.new.e starts hole o.code (ap indices_of c.as_slice-2.ensures ∙ o.holes) o.otherwise o.open o.aimed o.opens in
    whole_ends plan sides cs d pos (select_of s) is c.as_slice.result.now ends_are c.args.e.now c.open_select.new.e starts hole said c.emit_cases.new.e c.args.left.now.items c.emit_cases.new.left.items c.in_ok-emit_cases.ensures.code c.len-outside.result (omega (arith, c.len-outside.ensures, c.args.left.now.ok.0)) c.end_here.new.e c.end_here.ensures.lines c.end_here.result c.end_here.new.left.items c.end_here.ensures.others

pub select::emit_select-returns-clause-size : goal.select::emit_select-returns-clause-size
select::emit_select-returns-clause-size t c =
    let plan = c.args.plan.now in
    let sides = sides_of c.args.sides.now in
    let s = c.args.select.now in
    let cs = cases_of c.as_slice-cases.result.now in
    let d = default_of (out-KSelect s).otherwise in
    let pos = (out-KSelect s).pos in
    let is = select_is s c.as_slice-cases.result.now c.as_slice-cases.ensures in
    let ends_are = c.as_slice.ensures ∙ c.in_ok-ends.ensures in
    let starts = indices_of c.as_slice-2.result.now in
    let hole = option_map index_of c.in_ok-starts.starts.otherwise in
    let o = c.in_ok-starts.ensures in
    let said = opened_by plan c.as_slice.result.now (select_of s) c.args.e.now c.open_select.new.e starts hole o.code (ap indices_of c.as_slice-2.ensures ∙ o.holes) o.otherwise o.open o.aimed o.opens in
    let parts = ap (λ x. cases_parts (cases_in x)) is in
    let size = ap (most plan.vars) is in
    let same = whole_size plan sides cs d pos (select_of s) is c.as_slice.result.now ends_are c.args.e.now c.open_select.new.e starts hole said c.emit_cases.new.e c.args.left.now.items c.emit_cases.new.left.items c.in_ok-emit_cases.ensures.code c.len-outside.result (omega (arith, c.len-outside.ensures, c.args.left.now.ok.0)) c.end_here.new.e c.end_here.ensures.lines in
    on_ok c.end_here.result (length c.end_here.new.e ≤ length c.args.e.now + most plan.vars (select_of s)) (omega (arith, same, parts, size, c.in_ok-emit_cases.ensures.size, o.size))

pub select::emit_select-returns-clause-refused : goal.select::emit_select-returns-clause-refused
select::emit_select-returns-clause-refused t c =
    let plan = c.args.plan.now in
    let sides = sides_of c.args.sides.now in
    let s = c.args.select.now in
    let cs = cases_of c.as_slice-cases.result.now in
    let d = default_of (out-KSelect s).otherwise in
    let pos = (out-KSelect s).pos in
    let is = select_is s c.as_slice-cases.result.now c.as_slice-cases.ensures in
    let ends_are = c.as_slice.ensures ∙ c.in_ok-ends.ensures in
    let starts = indices_of c.as_slice-2.result.now in
    let hole = option_map index_of c.in_ok-starts.starts.otherwise in
    let o = c.in_ok-starts.ensures in
    let said = opened_by plan c.as_slice.result.now (select_of s) c.args.e.now c.open_select.new.e starts hole o.code (ap indices_of c.as_slice-2.ensures ∙ o.holes) o.otherwise o.open o.aimed o.opens in
    on_err c.end_here.result (Extends c.args.e.now c.end_here.new.e) (whole_extends plan sides cs d pos (select_of s) is c.as_slice.result.now ends_are c.args.e.now c.open_select.new.e starts hole said c.emit_cases.new.e c.args.left.now.items c.emit_cases.new.left.items c.in_ok-emit_cases.ensures.code c.len-outside.result (omega (arith, c.len-outside.ensures, c.args.left.now.ok.0)) c.end_here.new.e c.end_here.ensures.lines)
