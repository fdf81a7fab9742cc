use Rattle.std.proofs.Common.{◌++◌, ◌∙◌, Option, ap, arith, length, length-append, append_assoc, refl, subst, sym}
use Rattle.xs_instr.specs.Adds.{Adds}
use Rattle.xs_instr.specs.Lines.{at_pos}
use Rattle.xl_expr.specs.Identifiers.{Identifies}
use Rattle.xl_expr.specs.declared.plan.ResAt.{ResAt}
use Rattle.xl_expr.specs.Targets.{AreAimed}
use Rattle.xl_expr.proofs.Pieces.{length-at_pos}
use Rattle.xl_port.specs.Waits.{UsesName}
use Rattle.xl_port.proofs.Joined.{both_of}
use Rattle.xl_port.proofs.setting.emit_with_name.Goals as goal

pub returns-in_ok-put_all-in-Some-clause-size : goal.returns-in_ok-put_all-in-Some-clause-size
returns-in_ok-put_all-in-Some-clause-size c =
    let named = c.in_ok-emit_identifier-in-Some.ensures.size in
    let all = at_pos c.args.pos c.args.instrs.now in
    omega (
      arith,
      named,
      ap length c.in_ok-put_all-in-Some.ensures.ok,
      length-append c.emit_identifier.new.e all,
      length-at_pos c.args.pos
          c.args.instrs.now,
    )

pub returns-in_ok-put_all-in-Some-clause-adds : goal.returns-in_ok-put_all-in-Some-clause-adds
returns-in_ok-put_all-in-Some-clause-adds c =
    let old = c.args.e.now in
    let here = length old in
    let all = at_pos c.args.pos c.args.instrs.now in
    let name = both_of old c.emit_identifier.new.e (Identifies c.in-Some.place here) (AreAimed here)
    c.in_ok-emit_identifier-in-Some.ensures.identifies c.in_ok-emit_identifier-in-Some.ensures.aimed in
    subst (λ (place : Option ResAt). Adds old c.put_all.new.self (UsesName place c.args.instrs.now c.args.pos here))
    (sym c.in-Some.is ∙ c.res.ensures)
    (record {
      lines = name.lines ++ all;
      is = c.in_ok-put_all-in-Some.ensures.ok ∙ ap (λ ls. ls ++ all) name.is ∙ append_assoc old name.lines all;
      so = record { name = name.lines; is = refl; identifies = name.so.0; aimed = name.so.1 };
    })
