use Rattle.std.proofs.Common.{◌∙◌, arith, length, sym}
use Rattle.xl_expr.proofs.Emitted.{behind_extends, on_err}
use Rattle.xl_expr.proofs.GoodCode.{nothing_aimed}
use Rattle.xl_chan.proofs.Grown.{grown, input_most, kept_most}
use Rattle.xl_chan.proofs.Transferring.{taking, taking_aimed, taking_is, takes_by}
use Rattle.xl_chan.proofs.transfer.emit_in.Goals as goal

pub returns-in-None-clause-aimed : goal.returns-in-None-clause-aimed
returns-in-None-clause-aimed c = nothing_aimed c.args.e.now

pub returns-in_ok-put_input-in-Some-clause-takes :
    goal.returns-in_ok-put_input-in-Some-clause-takes
returns-in_ok-put_input-in-Some-clause-takes c =
    let named = c.in_ok-emit_identifier-in-Some.ensures.identifies in
    let old = c.args.e.now in
    record {
      lines = taking c.args.pos c.args.to c.args.plain named.lines;
      is = taking_is c.args.pos c.args.to c.args.plain old c.emit_identifier.new.e c.put_kept_from_r11.new.e c.put_input.new.e named.lines c.beside.result named.is c.in_ok-put_kept_from_r11-in-Some.ensures.code c.in_ok-put_input-in-Some.ensures.code c.beside.ensures;
      so = takes_by c.args.plan.now c.args.end c.args.plain c.args.pos c.in-Some.place (sym c.end.ensures ∙ c.in-Some.is) (length old) c.args.to named.lines named.so;
    }

pub returns-in_ok-put_input-in-Some-clause-aimed :
    goal.returns-in_ok-put_input-in-Some-clause-aimed
returns-in_ok-put_input-in-Some-clause-aimed c =
    let named = c.in_ok-emit_identifier-in-Some.ensures.aimed in
    let old = c.args.e.now in
    record {
      lines = taking c.args.pos c.args.to c.args.plain named.lines;
      is = taking_is c.args.pos c.args.to c.args.plain old c.emit_identifier.new.e c.put_kept_from_r11.new.e c.put_input.new.e named.lines c.beside.result named.is c.in_ok-put_kept_from_r11-in-Some.ensures.code c.in_ok-put_input-in-Some.ensures.code c.beside.ensures;
      so = taking_aimed c.args.pos c.args.to c.args.plain (length old) named.lines named.so;
    }

pub put_kept_from_r11-requires : goal.put_kept_from_r11-requires
put_kept_from_r11-requires c =
    let room = c.requires.room in
    let named = c.in_ok-emit_identifier-in-Some.ensures.size in
    omega arith

pub put_input-requires : goal.put_input-requires
put_input-requires c =
    let room = c.requires.room in
    let named = c.in_ok-emit_identifier-in-Some.ensures.size in
    let kept = grown c.emit_identifier.new.e c.put_kept_from_r11.new.e _ 1 c.in_ok-put_kept_from_r11-in-Some.ensures.code (kept_most c.args.pos c.args.to) in
    omega arith

pub returns-in_ok-put_input-in-Some-clause-size :
    goal.returns-in_ok-put_input-in-Some-clause-size
returns-in_ok-put_input-in-Some-clause-size c =
    let named = c.in_ok-emit_identifier-in-Some.ensures.size in
    let kept = grown c.emit_identifier.new.e c.put_kept_from_r11.new.e _ 1 c.in_ok-put_kept_from_r11-in-Some.ensures.code (kept_most c.args.pos c.args.to) in
    let put = grown c.put_kept_from_r11.new.e c.put_input.new.e _ 3 c.in_ok-put_input-in-Some.ensures.code (input_most c.args.pos c.beside.result c.args.to c.args.plain) in
    omega arith

pub returns-in_err-put_kept_from_r11-in-Some-clause-refused :
    goal.returns-in_err-put_kept_from_r11-in-Some-clause-refused
returns-in_err-put_kept_from_r11-in-Some-clause-refused c =
    on_err _ _ (behind_extends _ _ _ _ c.in_ok-emit_identifier-in-Some.ensures.identifies.is c.in_err-put_kept_from_r11-in-Some.ensures.refused)

pub returns-in_err-put_input-in-Some-clause-refused :
    goal.returns-in_err-put_input-in-Some-clause-refused
returns-in_err-put_input-in-Some-clause-refused c =
    on_err _ _ (behind_extends _ _ _ _ c.in_ok-emit_identifier-in-Some.ensures.identifies.is (behind_extends _ _ _ _ c.in_ok-put_kept_from_r11-in-Some.ensures.code c.in_err-put_input-in-Some.ensures.refused))
