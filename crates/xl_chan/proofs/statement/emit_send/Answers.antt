use Rattle.std.proofs.Common.{◌++◌, ◌∙◌, ap, append_assoc, arith, length, length-append, subst}
use Rattle.xc_kernel.specs.Kernels.{expression_of}
use Rattle.xs_instr.specs.declared.instr.Reg.TheVariants.{R0}
use Rattle.xl_expr.specs.Targets.{AreAimed}
use Rattle.xl_expr.proofs.Emitted.{behind_extends, on_err}
use Rattle.xl_expr.proofs.GoodCode.{aimed_append}
use Rattle.xl_chan.specs.Transfers.{Sends}
use Rattle.xl_chan.proofs.Sending.{joined_sends}
use Rattle.xl_chan.proofs.statement.emit_send.Goals as goal

pub returns-clause-sends : goal.returns-clause-sends
returns-clause-sends c =
    let old = c.args.e.now in
    let value = c.in_ok-emit_expr.ensures.evaluates in
    let transfer = c.in_ok-emit_out.ensures.sends in
    let behind = ap length value.is ∙ length-append old value.lines in
    record {
      lines = value.lines ++ transfer.lines;
      is = transfer.is ∙ ap (λ ls. ls ++ transfer.lines) value.is ∙ append_assoc old value.lines transfer.lines;
      so = joined_sends c.args.plan.now c.args.end (expression_of c.args.value.now) c.args.plain c.args.pos (length old) value.lines transfer.lines value.so
          (subst (λ n. Sends c.args.plan.now c.args.end R0 c.args.plain c.args.pos n transfer.lines) behind transfer.so);
    }

pub returns-clause-aimed : goal.returns-clause-aimed
returns-clause-aimed c =
    let old = c.args.e.now in
    let value = c.in_ok-emit_expr.ensures.aimed in
    let transfer = c.in_ok-emit_out.ensures.aimed in
    let behind = ap length value.is ∙ length-append old value.lines in
    record {
      lines = value.lines ++ transfer.lines;
      is = transfer.is ∙ ap (λ ls. ls ++ transfer.lines) value.is ∙ append_assoc old value.lines transfer.lines;
      so = aimed_append (length old) value.lines transfer.lines value.so (subst (λ n. AreAimed n transfer.lines) behind transfer.so);
    }

pub emit_expr-requires-clause-room : goal.emit_expr-requires-clause-room
emit_expr-requires-clause-room c =
    let room = c.requires.room in
    omega arith

pub emit_out-requires : goal.emit_out-requires
emit_out-requires c =
    let room = c.requires.room in
    let value = c.in_ok-emit_expr.ensures.size in
    omega arith

pub returns-clause-size : goal.returns-clause-size
returns-clause-size c =
    let value = c.in_ok-emit_expr.ensures.size in
    let transfer = c.in_ok-emit_out.ensures.size in
    omega arith

pub returns-in_err-emit_out-clause-refused : goal.returns-in_err-emit_out-clause-refused
returns-in_err-emit_out-clause-refused c =
    on_err _ _ (behind_extends _ _ _ _ c.in_ok-emit_expr.ensures.evaluates.is c.in_err-emit_out.ensures.refused)
