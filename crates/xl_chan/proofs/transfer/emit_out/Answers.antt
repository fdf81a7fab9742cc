use Rattle.std.proofs.Common.{◌∙◌, ap, arith, length, length-append, subst, sym}
use Rattle.xs_instr.specs.Lines.{at_pos}
use Rattle.xl_expr.specs.Identifiers.{Identifies}
use Rattle.xl_expr.specs.Targets.{AreAimed}
use Rattle.xl_expr.proofs.Emitted.{behind_extends, on_err}
use Rattle.xl_expr.proofs.GoodCode.{nothing_aimed}
use Rattle.xl_chan.specs.Protocols.{kept_from_r11}
use Rattle.xl_chan.proofs.Grown.{grown, kept_most, output_most}
use Rattle.xl_chan.proofs.Transferring.{sending, sending_aimed, sending_is, sends_by}
use Rattle.xl_chan.proofs.transfer.emit_out.Goals as goal

pub returns-in-None-clause-aimed : goal.returns-in-None-clause-aimed
returns-in-None-clause-aimed c = nothing_aimed c.args.e.now

pub returns-in_ok-put_output-in-Some-clause-sends :
    goal.returns-in_ok-put_output-in-Some-clause-sends
returns-in_ok-put_output-in-Some-clause-sends c =
    let kept = c.in_ok-put_kept_from_r11-in-Some.ensures.code in
    let named = c.in_ok-emit_identifier-in-Some.ensures.identifies in
    let old = c.args.e.now in
    let behind = ap length kept ∙ length-append old (at_pos c.args.pos (kept_from_r11 c.args.value)) in
    record {
      lines = sending c.args.pos c.args.value c.args.plain named.lines;
      is = sending_is c.args.pos c.args.value c.args.plain old c.put_kept_from_r11.new.e c.emit_identifier.new.e c.put_output.new.e named.lines c.instead_of_r11.result kept named.is c.in_ok-put_output-in-Some.ensures.code c.instead_of_r11.ensures;
      so = sends_by c.args.plan.now c.args.end c.args.plain c.args.pos c.in-Some.place (sym c.end.ensures ∙ c.in-Some.is) (length old) c.args.value named.lines (subst (λ n. Identifies c.in-Some.place n named.lines) behind named.so);
    }

pub returns-in_ok-put_output-in-Some-clause-aimed :
    goal.returns-in_ok-put_output-in-Some-clause-aimed
returns-in_ok-put_output-in-Some-clause-aimed c =
    let kept = c.in_ok-put_kept_from_r11-in-Some.ensures.code in
    let named = c.in_ok-emit_identifier-in-Some.ensures.aimed in
    let old = c.args.e.now in
    let behind = ap length kept ∙ length-append old (at_pos c.args.pos (kept_from_r11 c.args.value)) in
    record {
      lines = sending c.args.pos c.args.value c.args.plain named.lines;
      is = sending_is c.args.pos c.args.value c.args.plain old c.put_kept_from_r11.new.e c.emit_identifier.new.e c.put_output.new.e named.lines c.instead_of_r11.result kept named.is c.in_ok-put_output-in-Some.ensures.code c.instead_of_r11.ensures;
      so = sending_aimed c.args.pos c.args.value c.args.plain (length old) named.lines (subst (λ n. AreAimed n named.lines) behind named.so);
    }

pub emit_identifier-requires : goal.emit_identifier-requires
emit_identifier-requires c =
    let room = c.requires.room in
    let kept = grown c.args.e.now c.put_kept_from_r11.new.e _ 1 c.in_ok-put_kept_from_r11-in-Some.ensures.code (kept_most c.args.pos c.args.value) in
    omega arith

pub put_output-requires : goal.put_output-requires
put_output-requires c =
    let room = c.requires.room in
    let kept = grown c.args.e.now c.put_kept_from_r11.new.e _ 1 c.in_ok-put_kept_from_r11-in-Some.ensures.code (kept_most c.args.pos c.args.value) in
    let named = c.in_ok-emit_identifier-in-Some.ensures.size in
    omega arith

pub returns-in_ok-put_output-in-Some-clause-size :
    goal.returns-in_ok-put_output-in-Some-clause-size
returns-in_ok-put_output-in-Some-clause-size c =
    let kept = grown c.args.e.now c.put_kept_from_r11.new.e _ 1 c.in_ok-put_kept_from_r11-in-Some.ensures.code (kept_most c.args.pos c.args.value) in
    let named = c.in_ok-emit_identifier-in-Some.ensures.size in
    let put = grown c.emit_identifier.new.e c.put_output.new.e _ 3 c.in_ok-put_output-in-Some.ensures.code (output_most c.args.pos c.instead_of_r11.result c.args.plain) in
    omega arith

pub returns-in_err-emit_identifier-in-Some-clause-refused :
    goal.returns-in_err-emit_identifier-in-Some-clause-refused
returns-in_err-emit_identifier-in-Some-clause-refused c =
    on_err _ _ (behind_extends _ _ _ _ c.in_ok-put_kept_from_r11-in-Some.ensures.code c.in_err-emit_identifier-in-Some.ensures.refused)

pub returns-in_err-put_output-in-Some-clause-refused :
    goal.returns-in_err-put_output-in-Some-clause-refused
returns-in_err-put_output-in-Some-clause-refused c =
    on_err _ _ (behind_extends _ _ _ _ c.in_ok-put_kept_from_r11-in-Some.ensures.code (behind_extends _ _ _ _ c.in_ok-emit_identifier-in-Some.ensures.identifies.is c.in_err-put_output-in-Some.ensures.refused))
