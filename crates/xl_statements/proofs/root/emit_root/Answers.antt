use Rattle.std.proofs.Common.{◌∷◌, [], ◌∙◌, ap, arith, length, length-append}
use Rattle.xs_instr.specs.Lines.{line}
use Rattle.xs_instr.specs.declared.instr.Instr.TheVariants.{Freet}
use Rattle.xl_ends.specs.Sides.{sides_of}
use Rattle.xl_statements.specs.Built.{statements_of}
use Rattle.xl_expr.proofs.Emitted.{on_err}
use Rattle.xl_statements.proofs.Seams.{extends_by, extends_on}
use Rattle.xl_statements.proofs.Ending.{root_alone, root_emitted}
use Rattle.xl_statements.proofs.root.emit_root.Goals as goal

pub returns-clause-root : goal.returns-clause-root
returns-clause-root c = root_emitted c.args.plan.now (sides_of c.args.sides.now) (statements_of c.args.body.now) c.args.pos c.args.e.now c.emit_statements.new.e c.end_root.new.e c.in_ok-emit_statements.field-0 c.requires.inside c.in_ok-emit_statements.ensures.code c.in_ok-end_root.ensures.code c.in_ok-end_root.ensures.ends

pub returns-clause-alone : goal.returns-clause-alone
returns-clause-alone c = root_alone c.args.plan.now (sides_of c.args.sides.now) (statements_of c.args.body.now) c.args.pos c.args.e.now c.emit_statements.new.e c.end_root.new.e c.in_ok-emit_statements.field-0 c.requires.inside c.in_ok-emit_statements.ensures.code c.in_ok-end_root.ensures.code c.in_ok-end_root.ensures.ends

pub emit_statements-requires-clause-room : goal.emit_statements-requires-clause-room
emit_statements-requires-clause-room c = omega (arith, c.requires.room)

pub end_root-requires : goal.end_root-requires
end_root-requires c = omega (arith, c.in_ok-emit_statements.ensures.size, c.requires.room)

pub returns-clause-size : goal.returns-clause-size
returns-clause-size c =
    let end = ap length c.in_ok-end_root.ensures.code ∙ length-append c.emit_statements.new.e (line Freet c.args.pos ∷ []) in
    omega (arith, end, c.in_ok-emit_statements.ensures.size)

pub returns-in_err-emit_statements-clause-refused : goal.returns-in_err-emit_statements-clause-refused
returns-in_err-emit_statements-clause-refused c = on_err _ _ c.in_err-emit_statements.ensures.refused

pub returns-in_err-end_root-clause-refused : goal.returns-in_err-end_root-clause-refused
returns-in_err-end_root-clause-refused c = on_err _ _ (extends_on _ _ _ (extends_by _ _ _ c.in_ok-emit_statements.ensures.code.lines) c.in_err-end_root.ensures.refused)
