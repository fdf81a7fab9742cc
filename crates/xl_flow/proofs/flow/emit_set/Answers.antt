use Rattle.std.proofs.Common.{ℕ, ◌+◌, ◌*◌, ◌^◌, ◌<◌, ◌≤◌, ◌++◌, ◌∙◌, ap, arith, subst, length, length-append, append_assoc}
use Rattle.xc_kernel.specs.Kernels.{expression_of, place_of}
use Rattle.xs_instr.specs.declared.instr.Reg.TheVariants.{R0}
use Rattle.xl_expr.specs.Measures.{nodes, nodes_at}
use Rattle.xl_expr.specs.Stores.{Stores}
use Rattle.xl_expr.specs.Targets.{AreAimed}
use Rattle.xl_expr.proofs.Emitted.{behind_extends, on_err}
use Rattle.xl_expr.proofs.GoodCode.{aimed_append}
use Rattle.xl_flow.proofs.Joined.{joined_sets}
use Rattle.xl_flow.proofs.flow.emit_set.Goals as goal

pub returns-clause-sets : goal.returns-clause-sets
returns-clause-sets c =
    let vars = c.args.plan.now.vars in
    let place = place_of c.args.dst.now in
    let ev = c.in_ok-emit_expr.ensures.evaluates in
    let st = c.in_ok-emit_store.ensures.stores in
    let at_end = ap length ev.is ∙ length-append c.args.e.now ev.lines in
    let so = subst (λ n. Stores vars place R0 n st.lines) at_end st.so in
    record {
      lines = ev.lines ++ st.lines;
      is = st.is ∙ ap (λ ls. ls ++ st.lines) ev.is ∙ append_assoc c.args.e.now ev.lines st.lines;
      so = joined_sets vars place (expression_of c.args.x.now) (length c.args.e.now) ev.lines st.lines ev.so so;
    }

pub returns-clause-aimed : goal.returns-clause-aimed
returns-clause-aimed c =
    let first = c.in_ok-emit_expr.ensures.aimed in
    let second = c.in_ok-emit_store.ensures.aimed in
    let at_end = ap length first.is ∙ length-append c.args.e.now first.lines in
    record {
      lines = first.lines ++ second.lines;
      is = second.is ∙ ap (λ ls. ls ++ second.lines) first.is ∙ append_assoc c.args.e.now first.lines second.lines;
      so = aimed_append (length c.args.e.now) first.lines second.lines first.so (subst (λ n. AreAimed n second.lines) at_end second.so);
    }

-- there is room for both, and the size is that of both
room_for_value : (n x y : ℕ) → n + 8 * (x + y) < 2 ^ 32 → n + 8 * x < 2 ^ 32
room_for_value n x y h = omega arith

room_for_store : (n n1 x y : ℕ) → n + 8 * (x + y) < 2 ^ 32 → n1 ≤ n + 8 * x → n1 + 8 * y < 2 ^ 32
room_for_store n n1 x y h g = omega arith

size_of_both : (n n1 n2 x y : ℕ) → n1 ≤ n + 8 * x → n2 ≤ n1 + 8 * y → n2 ≤ n + 8 * (x + y)
size_of_both n n1 n2 x y h g = omega arith

pub emit_expr-requires-clause-room : goal.emit_expr-requires-clause-room
emit_expr-requires-clause-room c =
    room_for_value (length c.args.e.now) (nodes (expression_of c.args.x.now)) (nodes_at (place_of c.args.dst.now)) c.requires.room

pub emit_store-requires-clause-room : goal.emit_store-requires-clause-room
emit_store-requires-clause-room c =
    room_for_store (length c.args.e.now) (length c.emit_expr.new.e) (nodes (expression_of c.args.x.now)) (nodes_at (place_of c.args.dst.now))
    c.requires.room c.in_ok-emit_expr.ensures.size

pub returns-clause-size : goal.returns-clause-size
returns-clause-size c =
    size_of_both (length c.args.e.now) (length c.emit_expr.new.e) (length c.emit_store.new.e) (nodes (expression_of c.args.x.now))
    (nodes_at (place_of c.args.dst.now)) c.in_ok-emit_expr.ensures.size c.in_ok-emit_store.ensures.size

pub returns-in_err-emit_expr-clause-refused : goal.returns-in_err-emit_expr-clause-refused
returns-in_err-emit_expr-clause-refused c = on_err _ _ c.in_err-emit_expr.ensures.refused

pub returns-in_err-emit_store-clause-refused : goal.returns-in_err-emit_store-clause-refused
returns-in_err-emit_store-clause-refused c =
    on_err _ _ (behind_extends _ _ _ _ c.in_ok-emit_expr.ensures.evaluates.is c.in_err-emit_store.ensures.refused)
