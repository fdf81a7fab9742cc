use Rattle.std.proofs.Common.{◌≡◌, ℕ, ◌+◌, ◌*◌, ◌^◌, ◌<◌, ◌≤◌, ◌++◌, [], ◌∷◌, ◌∙◌, ap, arith, length, length-append, append_assoc}
use Rattle.xc_kernel.specs.Kernels.{expression_of}
use Rattle.xs_instr.specs.declared.instr.Instr.TheVariants.{Brff}
use Rattle.xs_instr.specs.declared.instr.Reg.TheVariants.{R0}
use Rattle.xs_instr.specs.Lines.{open_line}
use Rattle.xl_expr.specs.Measures.{nodes}
use Rattle.xl_expr.proofs.Emitted.{behind_extends, on_err, one_longer, same_extends}
use Rattle.xl_flow.proofs.Joined.{tested}
use Rattle.xl_flow.proofs.flow.emit_test.Goals as goal

pub returns-clause-tests : goal.returns-clause-tests
returns-clause-tests c =
    let ev = c.in_ok-emit_expr.ensures.evaluates in
    let hole = open_line (Brff R0 0) c.args.pos ∷ [] in
    record {
      lines = ev.lines;
      is = c.in_ok-hole.ensures.ok ∙ ap (λ ls. ls ++ hole) ev.is ∙ append_assoc c.args.e.now ev.lines hole;
      index = c.in_ok-hole.ensures.index ∙ ap length ev.is ∙ length-append c.args.e.now ev.lines;
      so = tested c.args.plan.now.vars (expression_of c.args.x.now) (length c.args.e.now) c.args.pos ev.lines ev.so;
    }

pub returns-clause-aimed : goal.returns-clause-aimed
returns-clause-aimed c =
    let first = c.in_ok-emit_expr.ensures.aimed in
    let hole = open_line (Brff R0 0) c.args.pos ∷ [] in
    record {
      lines = first.lines;
      is = c.in_ok-hole.ensures.ok ∙ ap (λ ls. ls ++ hole) first.is ∙ append_assoc c.args.e.now first.lines hole;
      index = c.in_ok-hole.ensures.index ∙ ap length first.is ∙ length-append c.args.e.now first.lines;
      so = first.so;
    }

-- there is room for both, and the size is that of both
room_for_value : (n x : ℕ) → n + 8 * x + 1 < 2 ^ 32 → n + 8 * x < 2 ^ 32
room_for_value n x h = omega arith

room_for_branch : (n n1 x : ℕ) → n + 8 * x + 1 < 2 ^ 32 → n1 ≤ n + 8 * x → n1 + 1 < 2 ^ 32
room_for_branch n n1 x h g = omega arith

size_of_both : (n n1 n2 x : ℕ) → n1 ≤ n + 8 * x → n2 ≡ n1 + 1 → n2 ≤ n + 8 * x + 1
size_of_both n n1 n2 x h g = omega arith

pub emit_expr-requires-clause-room : goal.emit_expr-requires-clause-room
emit_expr-requires-clause-room c = room_for_value (length c.args.e.now) (nodes (expression_of c.args.x.now)) c.requires.room

pub hole-requires-clause-few : goal.hole-requires-clause-few
hole-requires-clause-few c =
    room_for_branch (length c.args.e.now) (length c.emit_expr.new.e) (nodes (expression_of c.args.x.now))
    c.requires.room c.in_ok-emit_expr.ensures.size

pub returns-clause-size : goal.returns-clause-size
returns-clause-size c =
    size_of_both (length c.args.e.now) (length c.emit_expr.new.e) (length c.hole.new.self) (nodes (expression_of c.args.x.now))
    c.in_ok-emit_expr.ensures.size (one_longer c.emit_expr.new.e c.hole.new.self (open_line (Brff R0 0) c.args.pos) c.in_ok-hole.ensures.ok)

pub returns-in_err-emit_expr-clause-refused : goal.returns-in_err-emit_expr-clause-refused
returns-in_err-emit_expr-clause-refused c = on_err _ _ c.in_err-emit_expr.ensures.refused

pub returns-in_err-hole-clause-refused : goal.returns-in_err-hole-clause-refused
returns-in_err-hole-clause-refused c =
    on_err _ _ (behind_extends _ _ _ _ c.in_ok-emit_expr.ensures.evaluates.is (same_extends _ _ c.in_err-hole.ensures.refused))
