use Rattle.std.proofs.Common.{◌≡◌, ◌+◌, ◌∙◌, ℕ, arith, ap, refl, sym, subst, List, [], ◌∷◌, length, ◌++◌, Some, None}
use Rattle.std.specs.Prelude.{OnOk}
use Rattle.xc_kernel.specs.declared.statement.Kx.{Kx}
use Rattle.xc_kernel.specs.Kernels.{expression_of}
use Rattle.xc_kernel.specs.declared.operators.Operator.{Operator}
use Rattle.xs_instr.specs.Lines.{Line, line, open_line, at_pos}
use Rattle.xs_instr.specs.declared.instr.Instr.{Instr}
use Rattle.xs_instr.specs.declared.instr.Instr.TheVariants.{Brff, Brft, Brfu, Stwsp, Ldwsp, Ldwdp, Ldawdp}
use Rattle.xs_instr.specs.declared.instr.Reg.TheVariants.{R0, R11}
use Rattle.xl_expr.specs.declared.plan.VarAt.TheVariants.{Near, Far, Through}
use Rattle.xl_expr.specs.Code.{made_truth, codes, direct_of, direct_tail, element_read, expression_code, fixed_index, one_tail, operand_of, operation_code, two_code}
use Rattle.xl_expr.specs.Parts.{choice_code, kept_behind, short_behind}
use Rattle.xc_kernel.specs.Meant.{operator_meant}
use Rattle.xl_expr.specs.Operands.{operands_of}
use Rattle.xl_expr.proofs.Evaluates.{some_nodes}
use Rattle.xl_expr.proofs.Sizes.{longer}
use Rattle.xl_expr.proofs.Denoted.{nodes_some, num_code, read_code, op_code, word_found, element_found, element_at, of_none, of_one, of_three, nodes_read, depth_read, nodes_op, depth_op, nodes_elem, nodes_first, nodes_two, nodes_three, depth_nth, two_operands, no_word, no_element, depth_elem}
use Rattle.xl_expr.proofs.Emitted.{short_open, on_code, on_code_behind, second_direct, first_direct, none_direct, short_chained, kept_emitted, same_extends, behind_extends, on_err_behind, one_longer, two_longer, on_err, short_emitted, short_extends, short_length, past_open, over_open, length4, choice_emitted, choice_extends}
use Rattle.xl_expr.proofs.expression.+expression.Goals as goal

pub emit_at-emit_place-requires : goal.emit_at-emit_place-requires
emit_at-emit_place-requires t c =
    let n = nodes_read c.args.x.now c.in-Read.place c.in-Read.is in
    let d = depth_read c.args.x.now c.in-Read.place c.in-Read.is in
    (omega (arith, d, c.decreases), (omega (arith, n, c.requires.room), omega (arith, d, c.requires.deep)))

pub emit_at-emit_operation-requires : goal.emit_at-emit_operation-requires
emit_at-emit_operation-requires t c =
    let n = nodes_op c.args.x.now c.in-Op.symbol c.in-Op.unsigned c.in-Op.operands c.as_slice.result.now c.in-Op.pos c.in-Op.is c.as_slice.ensures in
    let d = depth_op c.args.x.now c.in-Op.symbol c.in-Op.unsigned c.in-Op.operands c.as_slice.result.now c.in-Op.pos c.in-Op.is c.as_slice.ensures in
    (omega (arith, d, c.decreases), (omega (arith, n, c.requires.room), omega (arith, d, c.requires.deep)))

pub emit_operation-put_one_tail-requires : goal.emit_operation-put_one_tail-requires
emit_operation-put_one_tail-requires t c =
    let n = nodes_first c.args.operands.now c.only-item.result c.in-len1.len_at_least c.only-item.is in
    let l = longer c.args.plan.now.vars (expression_of c.only-item.result) c.args.k (length c.args.e.now) c.args.last c.args.e.now c.emit_at.new.e c.in_ok-emit_at-in-len1.ensures.ok in
    omega (arith, n, l, c.requires.room)

pub emit_operation-emit_two-requires : goal.emit_operation-emit_two-requires
emit_operation-emit_two-requires t c =
    let some = c.in-len2.len_at_least in
    let n = nodes_two c.args.operands.now c.first-item.result c.second-item.result some c.first-item.is c.second-item.is in
    let d = depth_nth c.args.operands.now 0 c.first-item.result (omega (arith, some)) c.first-item.is in
    let e = depth_nth c.args.operands.now 1 c.second-item.result (omega (arith, some)) c.second-item.is in
    (omega (arith, d, e, c.decreases), (omega (arith, n, c.requires.room), (omega (arith, d, c.requires.deep), omega (arith, e, c.requires.deep))))

pub emit_operation-returns-in-len2-clause-ok : goal.emit_operation-returns-in-len2-clause-ok
emit_operation-returns-in-len2-clause-ok t c =
    let x = c.first-item.result in
    let y = c.second-item.result in
    subst (λ (xs : List Kx). OnOk c.emit_two.result (c.emit_two.new.e ≡ c.args.e.now ++ operation_code (operator_meant c.args.operation.operator) c.args.operation.is_unsigned c.args.operation.pos (codes c.args.plan.now.vars (operands_of xs)) c.args.k (length c.args.e.now) c.args.last))
    (sym (two_operands c.args.operands.now x y c.in-len2.len_at_least c.in-len2.len_below c.first-item.is c.second-item.is)) c.emit_two.ensures.ok

pub emit_operation-emit_choice-requires : goal.emit_operation-emit_choice-requires
emit_operation-emit_choice-requires t c =
    let some = c.in-len3-up.len_at_least in
    let n = nodes_three c.args.operands.now c.test-item.result c.second-item-2.result c.third-item.result some c.test-item.is c.second-item-2.is c.third-item.is in
    let d = depth_nth c.args.operands.now 1 c.second-item-2.result (omega (arith, some)) c.second-item-2.is in
    let e = depth_nth c.args.operands.now 2 c.third-item.result (omega (arith, some)) c.third-item.is in
    let l = longer c.args.plan.now.vars (expression_of c.test-item.result) c.args.k (length c.args.e.now) c.args.last c.args.e.now c.emit_at-in-len3-up.new.e c.in_ok-emit_at-in-len3-up.ensures.ok in
    (omega (arith, d, e, c.decreases), (omega (arith, n, l, c.requires.room), (omega (arith, d, c.requires.deep), omega (arith, e, c.requires.deep))))

pub emit_place-returns-in-None-clause-ok : goal.emit_place-returns-in-None-clause-ok
emit_place-returns-in-None-clause-ok t c =
    no_word c.args.plan.now.vars c.args.place.now c.in-Word.v c.args.k (length c.args.e.now) c.args.last c.placed.result c.args.e.now c.in-Word.is c.in-None.is c.placed.ensures

pub emit_place-returns-in-None-placed-clause-ok : goal.emit_place-returns-in-None-placed-clause-ok
emit_place-returns-in-None-placed-clause-ok t c =
    no_element c.args.plan.now.vars c.args.place.now c.in-Elem.v c.in-Elem.index c.in-Elem.pos c.args.k (length c.args.e.now) c.args.last c.placed-in-Elem.result c.args.e.now c.in-Elem.is c.in-None-placed.is c.placed-in-Elem.ensures

pub emit_place-emit_element-requires : goal.emit_place-emit_element-requires
emit_place-emit_element-requires t c =
    let n = nodes_elem c.args.place.now c.in-Elem.v c.in-Elem.index c.in-Elem.pos c.deref.result.now c.in-Elem.is c.deref.ensures in
    let d = depth_elem c.args.place.now c.in-Elem.v c.in-Elem.index c.in-Elem.pos c.deref.result.now c.in-Elem.is c.deref.ensures in
    (omega (arith, d, c.decreases), (omega (arith, n, c.requires.room), omega (arith, d, c.requires.deep)))

pub emit_element-put_element-requires : goal.emit_element-put_element-requires
emit_element-put_element-requires t c =
    let l = longer c.args.plan.now.vars (expression_of c.args.index.now) c.args.k (length c.args.e.now) c.args.last c.args.e.now c.emit_at.new.e c.in_ok-emit_at-in-Near-None.ensures.ok in
    omega (arith, l, c.requires.room)

pub emit_element-put_element-requires-in-Far-None : goal.emit_element-put_element-requires-in-Far-None
emit_element-put_element-requires-in-Far-None t c =
    let l = longer c.args.plan.now.vars (expression_of c.args.index.now) c.args.k (length c.args.e.now) c.args.last c.args.e.now c.emit_at-in-Far-None.new.e c.in_ok-emit_at-in-Far-None.ensures.ok in
    omega (arith, l, c.requires.room)

pub emit_kept-put_all-requires-2 : goal.emit_kept-put_all-requires-2
emit_kept-put_all-requires-2 t c =
    let l = one_longer c.args.e.now c.put_all.new.self (line (Stwsp R0 c.args.k) c.args.operation.pos) c.in_ok-put_all.ensures.ok in
    let n = longer c.args.plan.now.vars (expression_of c.args.second.now) (c.args.k + 1) (length c.put_all.new.self) c.args.operation.pos c.put_all.new.self c.emit_at.new.e c.in_ok-emit_at.ensures.ok in
    omega (arith, l, n, c.requires.room)

pub emit_kept-put_after_main-requires : goal.emit_kept-put_after_main-requires
emit_kept-put_after_main-requires t c =
    let l = one_longer c.args.e.now c.put_all.new.self (line (Stwsp R0 c.args.k) c.args.operation.pos) c.in_ok-put_all.ensures.ok in
    let n = longer c.args.plan.now.vars (expression_of c.args.second.now) (c.args.k + 1) (length c.put_all.new.self) c.args.operation.pos c.put_all.new.self c.emit_at.new.e c.in_ok-emit_at.ensures.ok in
    let m = two_longer c.emit_at.new.e c.put_all-2.new.self (line (Ldwsp R11 c.args.k) c.args.operation.pos) (line c.main_instr.result c.args.operation.pos) c.in_ok-put_all-2.ensures.ok in
    omega (arith, l, n, m, c.requires.room)

pub emit_joined-put_direct_tail-requires : goal.emit_joined-put_direct_tail-requires
emit_joined-put_direct_tail-requires t c =
    let x = expression_of c.args.first.now in
    let l = longer c.args.plan.now.vars x c.args.k (length c.args.e.now) c.args.last c.args.e.now c.emit_at.new.e c.in_ok-emit_at-in_default-Some.ensures.ok in
    omega (arith, l, c.requires.room)

pub emit_joined-put_direct_tail-requires-in-Some-None : goal.emit_joined-put_direct_tail-requires-in-Some-None
emit_joined-put_direct_tail-requires-in-Some-None t c =
    let x = expression_of c.args.second.now in
    let l = longer c.args.plan.now.vars x c.args.k (length c.args.e.now) c.args.last c.args.e.now c.emit_at-in-Some-None.new.e c.in_ok-emit_at-in-Some-None.ensures.ok in
    omega (arith, l, c.requires.room)

pub emit_joined-emit_kept-requires : goal.emit_joined-emit_kept-requires
emit_joined-emit_kept-requires t c =
    let x = expression_of c.args.first.now in
    let l = longer c.args.plan.now.vars x c.args.k (length c.args.e.now) c.args.last c.args.e.now c.emit_at-in-None-None.new.e c.in_ok-emit_at-in-None-None.ensures.ok in
    (omega (arith, c.decreases), (omega (arith, l, c.requires.room), omega (arith, c.requires.deep_second)))

pub emit_two-emit_short-requires : goal.emit_two-emit_short-requires
emit_two-emit_short-requires t c =
    let x = expression_of c.args.first.now in
    let l = longer c.args.plan.now.vars x c.args.k (length c.args.e.now) c.args.last c.args.e.now c.emit_at.new.e c.in_ok-emit_at-in-And.ensures.ok in
    (omega (arith, c.decreases), (tt, (omega (arith, l, c.requires.room), omega (arith, c.requires.deep_second))))

pub emit_two-emit_short-requires-in-Or : goal.emit_two-emit_short-requires-in-Or
emit_two-emit_short-requires-in-Or t c =
    let x = expression_of c.args.first.now in
    let l = longer c.args.plan.now.vars x c.args.k (length c.args.e.now) c.args.last c.args.e.now c.emit_at-in-Or.new.e c.in_ok-emit_at-in-Or.ensures.ok in
    (omega (arith, c.decreases), (tt, (omega (arith, l, c.requires.room), omega (arith, c.requires.deep_second))))

pub emit_short-put_all-requires : goal.emit_short-put_all-requires
emit_short-put_all-requires t c =
    let b : ℕ → List Line = λ n. expression_code c.args.plan.now.vars (expression_of c.args.second.now) (c.args.k + 1) n c.args.pos in
    let l = one_longer c.args.e.now c.hole.new.self (open_line c.args.jump c.args.pos) c.in_ok-skip.ensures.ok in
    let n = longer c.args.plan.now.vars (expression_of c.args.second.now) (c.args.k + 1) (length c.hole.new.self) c.args.pos c.hole.new.self c.emit_at.new.e c.in_ok-emit_at.ensures.ok in
    let m = short_length c.args.jump c.args.pos c.args.e.now c.hole.new.self c.emit_at.new.e b c.in_ok-skip.skip.index c.in_ok-skip.ensures.index c.in_ok-skip.ensures.ok c.in_ok-emit_at.ensures.ok c.land.new.self c.land.ensures in
    omega (arith, l, n, m, c.requires.room)

pub emit_short-returns-clause-ok : goal.emit_short-returns-clause-ok
emit_short-returns-clause-ok t c =
    let b : ℕ → List Line = λ n. expression_code c.args.plan.now.vars (expression_of c.args.second.now) (c.args.k + 1) n c.args.pos in
    short_emitted c.args.jump c.args.pos c.args.e.now c.hole.new.self c.emit_at.new.e b c.in_ok-skip.skip.index c.in_ok-skip.ensures.index c.in_ok-skip.ensures.ok c.in_ok-emit_at.ensures.ok c.land.new.self c.put_all.new.self made_truth c.land.ensures c.in_ok-put_all.ensures.ok

pub emit_short-returns-in_err-put_all-clause-refused : goal.emit_short-returns-in_err-put_all-clause-refused
emit_short-returns-in_err-put_all-clause-refused t c =
    let b : ℕ → List Line = λ n. expression_code c.args.plan.now.vars (expression_of c.args.second.now) (c.args.k + 1) n c.args.pos in
    on_err _ _ (short_extends c.args.jump c.args.pos c.args.e.now c.hole.new.self c.emit_at.new.e b c.in_ok-skip.skip.index c.in_ok-skip.ensures.index c.in_ok-skip.ensures.ok c.in_ok-emit_at.ensures.ok c.land.new.self c.put_all.new.self c.land.ensures c.in_err-put_all.ensures.refused)

pub emit_choice-hole-requires-2-clause-few : goal.emit_choice-hole-requires-2-clause-few
emit_choice-hole-requires-2-clause-few t c =
    let l = one_longer c.args.e.now c.hole.new.self (open_line (Brff R0 0) c.args.pos) c.in_ok-past.ensures.ok in
    let n = longer c.args.plan.now.vars (expression_of c.args.second.now) (c.args.k + 1) (length c.hole.new.self) c.args.pos c.hole.new.self c.emit_at.new.e c.in_ok-emit_at.ensures.ok in
    omega (arith, l, n, c.requires.room)

pub emit_choice-land-requires : goal.emit_choice-land-requires
emit_choice-land-requires t c =
    let b : ℕ → List Line = λ n. expression_code c.args.plan.now.vars (expression_of c.args.second.now) (c.args.k + 1) n c.args.pos in
    past_open c.args.pos c.args.e.now c.hole.new.self c.emit_at.new.e c.hole-2.new.self c.hole-2.new.self b c.in_ok-past.past.index c.in_ok-over.over.index c.in_ok-past.ensures.index c.in_ok-over.ensures.index c.in_ok-past.ensures.ok c.in_ok-emit_at.ensures.ok c.in_ok-over.ensures.ok

pub emit_choice-emit_at-requires-2 : goal.emit_choice-emit_at-requires-2
emit_choice-emit_at-requires-2 t c =
    let b : ℕ → List Line = λ n. expression_code c.args.plan.now.vars (expression_of c.args.second.now) (c.args.k + 1) n c.args.pos in
    let l = one_longer c.args.e.now c.hole.new.self (open_line (Brff R0 0) c.args.pos) c.in_ok-past.ensures.ok in
    let n = longer c.args.plan.now.vars (expression_of c.args.second.now) (c.args.k + 1) (length c.hole.new.self) c.args.pos c.hole.new.self c.emit_at.new.e c.in_ok-emit_at.ensures.ok in
    let m = one_longer c.emit_at.new.e c.hole-2.new.self (open_line (Brfu 0) c.args.pos) c.in_ok-over.ensures.ok in
    let f = length4 c.args.pos c.args.e.now c.hole.new.self c.emit_at.new.e c.hole-2.new.self c.land.new.self b c.in_ok-past.past.index c.in_ok-over.over.index c.in_ok-past.ensures.index c.in_ok-over.ensures.index c.in_ok-past.ensures.ok c.in_ok-emit_at.ensures.ok c.in_ok-over.ensures.ok c.land.ensures in
    (omega (arith, c.decreases), (omega (arith, l, n, m, f, c.requires.room), omega (arith, c.requires.deep_third)))

pub emit_choice-returns-in_err-emit_at-2-clause-refused : goal.emit_choice-returns-in_err-emit_at-2-clause-refused
emit_choice-returns-in_err-emit_at-2-clause-refused t c =
    let b : ℕ → List Line = λ n. expression_code c.args.plan.now.vars (expression_of c.args.second.now) (c.args.k + 1) n c.args.pos in
    on_err _ _ (choice_extends c.args.pos c.args.e.now c.hole.new.self c.emit_at.new.e c.hole-2.new.self c.land.new.self b c.in_ok-past.past.index c.in_ok-over.over.index c.in_ok-past.ensures.index c.in_ok-over.ensures.index c.in_ok-past.ensures.ok c.in_ok-emit_at.ensures.ok c.in_ok-over.ensures.ok c.land.ensures c.emit_at-2.new.e c.in_err-emit_at-2.ensures.refused)

pub emit_choice-land-requires-2 : goal.emit_choice-land-requires-2
emit_choice-land-requires-2 t c =
    let b : ℕ → List Line = λ n. expression_code c.args.plan.now.vars (expression_of c.args.second.now) (c.args.k + 1) n c.args.pos in
    let d : ℕ → List Line = λ n. expression_code c.args.plan.now.vars (expression_of c.args.third.now) (c.args.k + 1) n c.args.pos in
    over_open c.args.pos c.args.e.now c.hole.new.self c.emit_at.new.e c.hole-2.new.self c.land.new.self b c.in_ok-past.past.index c.in_ok-over.over.index c.in_ok-past.ensures.index c.in_ok-over.ensures.index c.in_ok-past.ensures.ok c.in_ok-emit_at.ensures.ok c.in_ok-over.ensures.ok c.land.ensures c.emit_at-2.new.e d c.in_ok-emit_at-2.ensures.ok

pub emit_choice-returns-clause-ok : goal.emit_choice-returns-clause-ok
emit_choice-returns-clause-ok t c =
    let b : ℕ → List Line = λ n. expression_code c.args.plan.now.vars (expression_of c.args.second.now) (c.args.k + 1) n c.args.pos in
    let d : ℕ → List Line = λ n. expression_code c.args.plan.now.vars (expression_of c.args.third.now) (c.args.k + 1) n c.args.pos in
    choice_emitted c.args.pos c.args.e.now c.hole.new.self c.emit_at.new.e c.hole-2.new.self c.land.new.self b c.in_ok-past.past.index c.in_ok-over.over.index c.in_ok-past.ensures.index c.in_ok-over.ensures.index c.in_ok-past.ensures.ok c.in_ok-emit_at.ensures.ok c.in_ok-over.ensures.ok c.land.ensures c.emit_at-2.new.e d c.in_ok-emit_at-2.ensures.ok c.land-2.new.self c.land-2.ensures

-- where memory is wanting, what was held stands in front

pub emit_at-returns-in-Num-clause-refused : goal.emit_at-returns-in-Num-clause-refused
emit_at-returns-in-Num-clause-refused t c = c.put_all.ensures.refused

pub emit_at-returns-in-Read-clause-refused : goal.emit_at-returns-in-Read-clause-refused
emit_at-returns-in-Read-clause-refused t c = c.emit_place.ensures.refused

pub emit_at-returns-in-Op-clause-refused : goal.emit_at-returns-in-Op-clause-refused
emit_at-returns-in-Op-clause-refused t c = c.emit_operation.ensures.refused

pub emit_choice-returns-in_err-past-clause-refused : goal.emit_choice-returns-in_err-past-clause-refused
emit_choice-returns-in_err-past-clause-refused t c = on_err _ _ (same_extends _ _ c.in_err-past.ensures.refused)

pub emit_choice-returns-in_err-emit_at-clause-refused : goal.emit_choice-returns-in_err-emit_at-clause-refused
emit_choice-returns-in_err-emit_at-clause-refused t c = on_err _ _ (behind_extends _ _ _ _ c.in_ok-past.ensures.ok c.in_err-emit_at.ensures.refused)

pub emit_choice-returns-in_err-over-clause-refused : goal.emit_choice-returns-in_err-over-clause-refused
emit_choice-returns-in_err-over-clause-refused t c = on_err _ _ (behind_extends _ _ _ _ c.in_ok-past.ensures.ok (behind_extends _ _ _ _ c.in_ok-emit_at.ensures.ok (same_extends _ _ c.in_err-over.ensures.refused)))

pub emit_element-returns-in_err-emit_at-in-Near-None-clause-refused : goal.emit_element-returns-in_err-emit_at-in-Near-None-clause-refused
emit_element-returns-in_err-emit_at-in-Near-None-clause-refused t c = on_err _ _ c.in_err-emit_at-in-Near-None.ensures.refused

pub emit_element-returns-in_ok-emit_at-in-Near-None-clause-refused : goal.emit_element-returns-in_ok-emit_at-in-Near-None-clause-refused
emit_element-returns-in_ok-emit_at-in-Near-None-clause-refused t c = on_err_behind _ _ _ _ _ c.in_ok-emit_at-in-Near-None.ensures.ok c.put_element.ensures.refused

pub emit_element-returns-in_err-emit_at-in-Far-None-clause-refused : goal.emit_element-returns-in_err-emit_at-in-Far-None-clause-refused
emit_element-returns-in_err-emit_at-in-Far-None-clause-refused t c = on_err _ _ c.in_err-emit_at-in-Far-None.ensures.refused

pub emit_element-returns-in_ok-emit_at-in-Far-None-clause-refused : goal.emit_element-returns-in_ok-emit_at-in-Far-None-clause-refused
emit_element-returns-in_ok-emit_at-in-Far-None-clause-refused t c = on_err_behind _ _ _ _ _ c.in_ok-emit_at-in-Far-None.ensures.ok c.put_element-in-Far-None.ensures.refused

pub emit_element-returns-in-Near-Some-clause-refused : goal.emit_element-returns-in-Near-Some-clause-refused
emit_element-returns-in-Near-Some-clause-refused t c = c.put_all.ensures.refused

pub emit_element-returns-in-Far-Some-clause-refused : goal.emit_element-returns-in-Far-Some-clause-refused
emit_element-returns-in-Far-Some-clause-refused t c = c.put_held.ensures.refused

pub emit_element-returns-in-Through-default-clause-refused : goal.emit_element-returns-in-Through-default-clause-refused
emit_element-returns-in-Through-default-clause-refused t c = c.put_held-in-Through-default.ensures.refused

pub emit_joined-returns-in_err-emit_at-in_default-Some-clause-refused : goal.emit_joined-returns-in_err-emit_at-in_default-Some-clause-refused
emit_joined-returns-in_err-emit_at-in_default-Some-clause-refused t c = on_err _ _ c.in_err-emit_at-in_default-Some.ensures.refused

pub emit_joined-returns-in_ok-emit_at-in_default-Some-clause-refused : goal.emit_joined-returns-in_ok-emit_at-in_default-Some-clause-refused
emit_joined-returns-in_ok-emit_at-in_default-Some-clause-refused t c = on_err_behind _ _ _ _ _ c.in_ok-emit_at-in_default-Some.ensures.ok c.put_direct_tail.ensures.refused

pub emit_joined-returns-in_err-emit_at-in-Some-None-clause-refused : goal.emit_joined-returns-in_err-emit_at-in-Some-None-clause-refused
emit_joined-returns-in_err-emit_at-in-Some-None-clause-refused t c = on_err _ _ c.in_err-emit_at-in-Some-None.ensures.refused

pub emit_joined-returns-in_ok-emit_at-in-Some-None-clause-refused : goal.emit_joined-returns-in_ok-emit_at-in-Some-None-clause-refused
emit_joined-returns-in_ok-emit_at-in-Some-None-clause-refused t c = on_err_behind _ _ _ _ _ c.in_ok-emit_at-in-Some-None.ensures.ok c.put_direct_tail-in-Some-None.ensures.refused

pub emit_joined-returns-in_err-emit_at-in-None-None-clause-refused : goal.emit_joined-returns-in_err-emit_at-in-None-None-clause-refused
emit_joined-returns-in_err-emit_at-in-None-None-clause-refused t c = on_err _ _ c.in_err-emit_at-in-None-None.ensures.refused

pub emit_joined-returns-in_ok-emit_at-in-None-None-clause-refused : goal.emit_joined-returns-in_ok-emit_at-in-None-None-clause-refused
emit_joined-returns-in_ok-emit_at-in-None-None-clause-refused t c = on_err_behind _ _ _ _ _ c.in_ok-emit_at-in-None-None.ensures.ok c.emit_kept.ensures.refused

pub emit_kept-returns-in_err-put_all-clause-refused : goal.emit_kept-returns-in_err-put_all-clause-refused
emit_kept-returns-in_err-put_all-clause-refused t c = on_err _ _ c.in_err-put_all.ensures.refused

pub emit_kept-returns-in_err-emit_at-clause-refused : goal.emit_kept-returns-in_err-emit_at-clause-refused
emit_kept-returns-in_err-emit_at-clause-refused t c = on_err _ _ (behind_extends _ _ _ _ c.in_ok-put_all.ensures.ok c.in_err-emit_at.ensures.refused)

pub emit_kept-returns-in_err-put_all-2-clause-refused : goal.emit_kept-returns-in_err-put_all-2-clause-refused
emit_kept-returns-in_err-put_all-2-clause-refused t c = on_err _ _ (behind_extends _ _ _ _ c.in_ok-put_all.ensures.ok (behind_extends _ _ _ _ c.in_ok-emit_at.ensures.ok c.in_err-put_all-2.ensures.refused))

pub emit_kept-returns-in_err-put_after_main-clause-refused : goal.emit_kept-returns-in_err-put_after_main-clause-refused
emit_kept-returns-in_err-put_after_main-clause-refused t c = on_err _ _ (behind_extends _ _ _ _ c.in_ok-put_all.ensures.ok (behind_extends _ _ _ _ c.in_ok-emit_at.ensures.ok (behind_extends _ _ _ _ c.in_ok-put_all-2.ensures.ok c.in_err-put_after_main.ensures.refused)))

pub emit_operation-returns-in_err-emit_at-in-len1-clause-refused : goal.emit_operation-returns-in_err-emit_at-in-len1-clause-refused
emit_operation-returns-in_err-emit_at-in-len1-clause-refused t c = on_err _ _ c.in_err-emit_at-in-len1.ensures.refused

pub emit_operation-returns-in_ok-emit_at-in-len1-clause-refused : goal.emit_operation-returns-in_ok-emit_at-in-len1-clause-refused
emit_operation-returns-in_ok-emit_at-in-len1-clause-refused t c = on_err_behind _ _ _ _ _ c.in_ok-emit_at-in-len1.ensures.ok c.put_one_tail.ensures.refused

pub emit_operation-returns-in_err-emit_at-in-len3-up-clause-refused : goal.emit_operation-returns-in_err-emit_at-in-len3-up-clause-refused
emit_operation-returns-in_err-emit_at-in-len3-up-clause-refused t c = on_err _ _ c.in_err-emit_at-in-len3-up.ensures.refused

pub emit_operation-returns-in_ok-emit_at-in-len3-up-clause-refused : goal.emit_operation-returns-in_ok-emit_at-in-len3-up-clause-refused
emit_operation-returns-in_ok-emit_at-in-len3-up-clause-refused t c = on_err_behind _ _ _ _ _ c.in_ok-emit_at-in-len3-up.ensures.ok c.emit_choice.ensures.refused

pub emit_operation-returns-in-empty-clause-refused : goal.emit_operation-returns-in-empty-clause-refused
emit_operation-returns-in-empty-clause-refused t c = c.put_all.ensures.refused

pub emit_operation-returns-in-len2-clause-refused : goal.emit_operation-returns-in-len2-clause-refused
emit_operation-returns-in-len2-clause-refused t c = c.emit_two.ensures.refused

pub emit_place-returns-in-Some-clause-refused : goal.emit_place-returns-in-Some-clause-refused
emit_place-returns-in-Some-clause-refused t c = c.put_word.ensures.refused

pub emit_place-returns-in-Some-placed-clause-refused : goal.emit_place-returns-in-Some-placed-clause-refused
emit_place-returns-in-Some-placed-clause-refused t c = c.emit_element.ensures.refused

pub emit_short-returns-in_err-skip-clause-refused : goal.emit_short-returns-in_err-skip-clause-refused
emit_short-returns-in_err-skip-clause-refused t c = on_err _ _ (same_extends _ _ c.in_err-skip.ensures.refused)

pub emit_short-returns-in_err-emit_at-clause-refused : goal.emit_short-returns-in_err-emit_at-clause-refused
emit_short-returns-in_err-emit_at-clause-refused t c = on_err _ _ (behind_extends _ _ _ _ c.in_ok-skip.ensures.ok c.in_err-emit_at.ensures.refused)

pub emit_two-returns-in_err-emit_at-in-And-clause-refused : goal.emit_two-returns-in_err-emit_at-in-And-clause-refused
emit_two-returns-in_err-emit_at-in-And-clause-refused t c = on_err _ _ c.in_err-emit_at-in-And.ensures.refused

pub emit_two-returns-in_ok-emit_at-in-And-clause-refused : goal.emit_two-returns-in_ok-emit_at-in-And-clause-refused
emit_two-returns-in_ok-emit_at-in-And-clause-refused t c = on_err_behind _ _ _ _ _ c.in_ok-emit_at-in-And.ensures.ok c.emit_short.ensures.refused

pub emit_two-returns-in_err-emit_at-in-Or-clause-refused : goal.emit_two-returns-in_err-emit_at-in-Or-clause-refused
emit_two-returns-in_err-emit_at-in-Or-clause-refused t c = on_err _ _ c.in_err-emit_at-in-Or.ensures.refused

pub emit_two-returns-in_ok-emit_at-in-Or-clause-refused : goal.emit_two-returns-in_ok-emit_at-in-Or-clause-refused
emit_two-returns-in_ok-emit_at-in-Or-clause-refused t c = on_err_behind _ _ _ _ _ c.in_ok-emit_at-in-Or.ensures.ok c.emit_short-in-Or.ensures.refused

-- the code of each way

pub emit_at-returns-in-Num-clause-ok : goal.emit_at-returns-in-Num-clause-ok
emit_at-returns-in-Num-clause-ok t c =
    on_code _ _ _ _ _ (num_code c.args.plan.now.vars c.args.k (length c.args.e.now) c.args.last c.args.x.now c.in-Num.value c.in-Num.is) c.put_all.ensures.ok

pub emit_at-returns-in-Read-clause-ok : goal.emit_at-returns-in-Read-clause-ok
emit_at-returns-in-Read-clause-ok t c =
    on_code _ _ _ _ _ (read_code c.args.plan.now.vars c.args.k (length c.args.e.now) c.args.last c.args.x.now c.in-Read.place c.in-Read.is) c.emit_place.ensures.ok

pub emit_at-returns-in-Op-clause-ok : goal.emit_at-returns-in-Op-clause-ok
emit_at-returns-in-Op-clause-ok t c =
    on_code _ _ _ _ _ (op_code c.args.plan.now.vars c.args.k (length c.args.e.now) c.args.last c.args.x.now c.in-Op.symbol c.in-Op.unsigned c.in-Op.operands c.as_slice.result.now c.in-Op.pos (operator_meant c.operator_at.result) c.in-Op.is c.as_slice.ensures c.operator_at.ensures) c.emit_operation.ensures.ok

pub emit_place-returns-in-Some-clause-ok : goal.emit_place-returns-in-Some-clause-ok
emit_place-returns-in-Some-clause-ok t c =
    on_code _ _ _ _ _ (word_found c.args.plan.now.vars c.args.k (length c.args.e.now) c.args.last c.args.place.now c.in-Word.v c.placed.result c.in-Some.found c.in-Word.is c.in-Some.is c.placed.ensures) c.put_word.ensures.ok

pub emit_place-returns-in-Some-placed-clause-ok : goal.emit_place-returns-in-Some-placed-clause-ok
emit_place-returns-in-Some-placed-clause-ok t c =
    on_code _ _ _ _ _ (element_found c.args.plan.now.vars c.args.k (length c.args.e.now) c.args.last c.args.place.now c.in-Elem.v c.in-Elem.index c.in-Elem.pos c.deref.result.now c.placed-in-Elem.result c.in-Some-placed.found c.in-Elem.is c.deref.ensures c.in-Some-placed.is c.placed-in-Elem.ensures) c.emit_element.ensures.ok

pub emit_element-returns-in-Near-Some-clause-ok : goal.emit_element-returns-in-Near-Some-clause-ok
emit_element-returns-in-Near-Some-clause-ok t c =
    on_code _ _ _ _ _ (element_at c.args.found.place (Near c.in-Near-Some.n) c.args.found.words (fixed_index (expression_of c.args.index.now) c.args.found.words) (Some c.in-Near-Some.i) c.args.pos (expression_code c.args.plan.now.vars (expression_of c.args.index.now)) c.args.k (length c.args.e.now) c.args.last c.in-Near-Some.is-0 (sym c.fixed_index.ensures ∙ c.in-Near-Some.is-1)) c.put_all.ensures.ok

pub emit_element-returns-in-Far-Some-clause-ok : goal.emit_element-returns-in-Far-Some-clause-ok
emit_element-returns-in-Far-Some-clause-ok t c =
    on_code _ _ _ _ _ (element_at c.args.found.place (Far c.in-Far-Some.n) c.args.found.words (fixed_index (expression_of c.args.index.now) c.args.found.words) (Some c.in-Far-Some.i) c.args.pos (expression_code c.args.plan.now.vars (expression_of c.args.index.now)) c.args.k (length c.args.e.now) c.args.last c.in-Far-Some.is-0 (sym c.fixed_index.ensures ∙ c.in-Far-Some.is-1)) c.put_held.ensures.ok

pub emit_element-returns-in-Through-default-clause-ok : goal.emit_element-returns-in-Through-default-clause-ok
emit_element-returns-in-Through-default-clause-ok t c =
    on_code _ _ _ _ _ (element_at c.args.found.place (Through c.in-Through-default.n) c.args.found.words (fixed_index (expression_of c.args.index.now) c.args.found.words) (fixed_index (expression_of c.args.index.now) c.args.found.words) c.args.pos (expression_code c.args.plan.now.vars (expression_of c.args.index.now)) c.args.k (length c.args.e.now) c.args.last c.in-Through-default.is-0 refl) c.put_held-in-Through-default.ensures.ok

pub emit_element-returns-in_ok-emit_at-in-Near-None-clause-ok : goal.emit_element-returns-in_ok-emit_at-in-Near-None-clause-ok
emit_element-returns-in_ok-emit_at-in-Near-None-clause-ok t c =
    on_code_behind _ _ _ _ _ _ (λ n. at_pos c.args.pos (element_read (Ldawdp R11 c.in-Near-None.n) c.args.found.words)) c.in_ok-emit_at-in-Near-None.ensures.ok
    (element_at c.args.found.place (Near c.in-Near-None.n) c.args.found.words (fixed_index (expression_of c.args.index.now) c.args.found.words) None c.args.pos (expression_code c.args.plan.now.vars (expression_of c.args.index.now)) c.args.k (length c.args.e.now) c.args.last c.in-Near-None.is-0 (sym c.fixed_index.ensures ∙ c.in-Near-None.is-1)) c.put_element.ensures.ok

pub emit_element-returns-in_ok-emit_at-in-Far-None-clause-ok : goal.emit_element-returns-in_ok-emit_at-in-Far-None-clause-ok
emit_element-returns-in_ok-emit_at-in-Far-None-clause-ok t c =
    on_code_behind _ _ _ _ _ _ (λ n. at_pos c.args.pos (element_read (Ldwdp R11 c.in-Far-None.n) c.args.found.words)) c.in_ok-emit_at-in-Far-None.ensures.ok
    (element_at c.args.found.place (Far c.in-Far-None.n) c.args.found.words (fixed_index (expression_of c.args.index.now) c.args.found.words) None c.args.pos (expression_code c.args.plan.now.vars (expression_of c.args.index.now)) c.args.k (length c.args.e.now) c.args.last c.in-Far-None.is-0 (sym c.fixed_index.ensures ∙ c.in-Far-None.is-1)) c.put_element-in-Far-None.ensures.ok

pub emit_joined-returns-in_ok-emit_at-in_default-Some-clause-ok : goal.emit_joined-returns-in_ok-emit_at-in_default-Some-clause-ok
emit_joined-returns-in_ok-emit_at-in_default-Some-clause-ok t c =
    on_code_behind _ _ _ _ _ _ (λ n. at_pos c.args.operation.pos (direct_tail (operator_meant c.args.operation.operator) c.args.operation.is_unsigned c.in_default-Some.operand c.added-sum.result R0 R11)) c.in_ok-emit_at-in_default-Some.ensures.ok
    (second_direct (operator_meant c.args.operation.operator) c.args.operation.is_unsigned c.args.operation.pos (expression_code c.args.plan.now.vars (expression_of c.args.first.now)) (expression_code c.args.plan.now.vars (expression_of c.args.second.now)) (direct_of c.args.plan.now.vars (expression_of c.args.first.now)) (direct_of c.args.plan.now.vars (expression_of c.args.second.now)) c.args.k (length c.args.e.now) c.args.last c.in_default-Some.operand c.added-sum.result (sym c.direct_of-2.ensures ∙ c.in_default-Some.is-1) c.added-sum.ensures) c.put_direct_tail.ensures.ok

pub emit_joined-returns-in_ok-emit_at-in-Some-None-clause-ok : goal.emit_joined-returns-in_ok-emit_at-in-Some-None-clause-ok
emit_joined-returns-in_ok-emit_at-in-Some-None-clause-ok t c =
    on_code_behind _ _ _ _ _ _ (λ n. at_pos c.args.operation.pos (direct_tail (operator_meant c.args.operation.operator) c.args.operation.is_unsigned c.in-Some-None.operand c.added_to-sum.result R11 R0)) c.in_ok-emit_at-in-Some-None.ensures.ok
    (first_direct (operator_meant c.args.operation.operator) c.args.operation.is_unsigned c.args.operation.pos (expression_code c.args.plan.now.vars (expression_of c.args.first.now)) (expression_code c.args.plan.now.vars (expression_of c.args.second.now)) (direct_of c.args.plan.now.vars (expression_of c.args.first.now)) (direct_of c.args.plan.now.vars (expression_of c.args.second.now)) c.args.k (length c.args.e.now) c.args.last c.in-Some-None.operand c.added_to-sum.result (sym c.direct_of.ensures ∙ c.in-Some-None.is-0) (sym c.direct_of-2.ensures ∙ c.in-Some-None.is-1) c.added_to-sum.ensures) c.put_direct_tail-in-Some-None.ensures.ok

pub emit_joined-returns-in_ok-emit_at-in-None-None-clause-ok : goal.emit_joined-returns-in_ok-emit_at-in-None-None-clause-ok
emit_joined-returns-in_ok-emit_at-in-None-None-clause-ok t c =
    on_code_behind _ _ _ _ _ _ (kept_behind c.args.plan.now.vars (operator_meant c.args.operation.operator) c.args.operation.is_unsigned c.args.operation.pos (expression_of c.args.second.now) c.args.k) c.in_ok-emit_at-in-None-None.ensures.ok
    (none_direct (operator_meant c.args.operation.operator) c.args.operation.is_unsigned c.args.operation.pos (expression_code c.args.plan.now.vars (expression_of c.args.first.now)) (expression_code c.args.plan.now.vars (expression_of c.args.second.now)) (direct_of c.args.plan.now.vars (expression_of c.args.first.now)) (direct_of c.args.plan.now.vars (expression_of c.args.second.now)) c.args.k (length c.args.e.now) c.args.last (sym c.direct_of.ensures ∙ c.in-None-None.is-0) (sym c.direct_of-2.ensures ∙ c.in-None-None.is-1)) c.emit_kept.ensures.ok

pub emit_kept-returns-clause-ok : goal.emit_kept-returns-clause-ok
emit_kept-returns-clause-ok t c =
    let pos = c.args.operation.pos in
    let b : ℕ → List Line = λ n. expression_code c.args.plan.now.vars (expression_of c.args.second.now) (c.args.k + 1) n pos in
    kept_emitted (operator_meant c.args.operation.operator) c.args.operation.is_unsigned pos c.args.k c.args.e.now c.put_all.new.self c.emit_at.new.e c.put_all-2.new.self c.put_after_main.new.e b c.in_ok-put_all.ensures.ok c.in_ok-emit_at.ensures.ok
    (c.in_ok-put_all-2.ensures.ok ∙ ap (λ (i : Instr). c.emit_at.new.e ++ at_pos pos (Ldwsp R11 c.args.k ∷ i ∷ [])) c.main_instr.ensures) c.in_ok-put_after_main.ensures.ok

pub emit_operation-returns-in-empty-clause-ok : goal.emit_operation-returns-in-empty-clause-ok
emit_operation-returns-in-empty-clause-ok t c =
    on_code _ _ _ _ _ (of_none (operator_meant c.args.operation.operator) c.args.operation.is_unsigned c.args.operation.pos c.args.plan.now.vars c.args.operands.now c.args.k (length c.args.e.now) c.args.last c.in-empty.len_below) c.put_all.ensures.ok

pub emit_operation-returns-in_ok-emit_at-in-len1-clause-ok : goal.emit_operation-returns-in_ok-emit_at-in-len1-clause-ok
emit_operation-returns-in_ok-emit_at-in-len1-clause-ok t c =
    on_code_behind _ _ _ _ _ _ (λ n. at_pos c.args.operation.pos (one_tail (operator_meant c.args.operation.operator))) c.in_ok-emit_at-in-len1.ensures.ok
    (of_one (operator_meant c.args.operation.operator) c.args.operation.is_unsigned c.args.operation.pos c.args.plan.now.vars c.args.operands.now c.args.k (length c.args.e.now) c.args.last c.only-item.result c.in-len1.len_at_least c.in-len1.len_below c.only-item.is) c.put_one_tail.ensures.ok

pub emit_operation-returns-in_ok-emit_at-in-len3-up-clause-ok : goal.emit_operation-returns-in_ok-emit_at-in-len3-up-clause-ok
emit_operation-returns-in_ok-emit_at-in-len3-up-clause-ok t c =
    on_code_behind _ _ _ _ _ _ (choice_code c.args.plan.now.vars c.args.operation.pos (expression_of c.second-item-2.result) (expression_of c.third-item.result) c.args.k) c.in_ok-emit_at-in-len3-up.ensures.ok
    (of_three (operator_meant c.args.operation.operator) c.args.operation.is_unsigned c.args.operation.pos c.args.plan.now.vars c.args.operands.now c.args.k (length c.args.e.now) c.args.last c.test-item.result c.second-item-2.result c.third-item.result c.in-len3-up.len_at_least c.test-item.is c.second-item-2.is c.third-item.is) c.emit_choice.ensures.ok

pub emit_two-returns-in_ok-emit_at-in-And-clause-ok : goal.emit_two-returns-in_ok-emit_at-in-And-clause-ok
emit_two-returns-in_ok-emit_at-in-And-clause-ok t c =
    let x = operand_of c.args.plan.now.vars (expression_of c.args.first.now) in
    let y = operand_of c.args.plan.now.vars (expression_of c.args.second.now) in
    on_code_behind _ _ _ _ _ _ (short_behind c.args.plan.now.vars (Brff R0 0) c.args.operation.pos (expression_of c.args.second.now) c.args.k) c.in_ok-emit_at-in-And.ensures.ok
    (short_chained (Brff R0) c.args.operation.pos x.piece y.piece c.args.k (length c.args.e.now) c.args.last ∙ ap (λ (o : Operator). two_code (operator_meant o) c.args.operation.is_unsigned c.args.operation.pos x y c.args.k (length c.args.e.now) c.args.last) (sym c.in-And.is)) c.emit_short.ensures.ok

pub emit_two-returns-in_ok-emit_at-in-Or-clause-ok : goal.emit_two-returns-in_ok-emit_at-in-Or-clause-ok
emit_two-returns-in_ok-emit_at-in-Or-clause-ok t c =
    let x = operand_of c.args.plan.now.vars (expression_of c.args.first.now) in
    let y = operand_of c.args.plan.now.vars (expression_of c.args.second.now) in
    on_code_behind _ _ _ _ _ _ (short_behind c.args.plan.now.vars (Brft R0 0) c.args.operation.pos (expression_of c.args.second.now) c.args.k) c.in_ok-emit_at-in-Or.ensures.ok
    (short_chained (Brft R0) c.args.operation.pos x.piece y.piece c.args.k (length c.args.e.now) c.args.last ∙ ap (λ (o : Operator). two_code (operator_meant o) c.args.operation.is_unsigned c.args.operation.pos x y c.args.k (length c.args.e.now) c.args.last) (sym c.in-Or.is)) c.emit_short-in-Or.ensures.ok

-- room, and a target that is open

pub emit_at-put_all-requires : goal.emit_at-put_all-requires
emit_at-put_all-requires t c =
    let n = some_nodes (expression_of c.args.x.now) in
    omega (arith, n, c.requires.room)

pub emit_place-put_word-requires : goal.emit_place-put_word-requires
emit_place-put_word-requires t c =
    let n = nodes_some c.args.place.now in
    omega (arith, n, c.requires.room)

pub emit_short-land-requires : goal.emit_short-land-requires
emit_short-land-requires t c =
    let b : ℕ → List Line = λ n. expression_code c.args.plan.now.vars (expression_of c.args.second.now) (c.args.k + 1) n c.args.pos in
    short_open c.args.jump c.args.pos c.args.e.now c.hole.new.self c.emit_at.new.e b c.in_ok-skip.skip.index c.in_ok-skip.ensures.index c.in_ok-skip.ensures.ok c.in_ok-emit_at.ensures.ok
