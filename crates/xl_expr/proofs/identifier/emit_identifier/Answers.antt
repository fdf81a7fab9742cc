use Rattle.std.proofs.Common.{ap, length, length-append, arith}
use Rattle.xs_instr.specs.Lines.{at_pos}
use Rattle.xl_expr.specs.Identifiers.{identifier_instrs}
use Rattle.xl_expr.proofs.Identified.{at_most_two, code_identifies, identifier_aimed}
use Rattle.xl_expr.proofs.identifier.emit_identifier.Goals as goal

pub returns-clause-size : goal.returns-clause-size
returns-clause-size c =
    let lines = at_pos c.args.pos (identifier_instrs c.args.place) in
    omega (arith, ap length c.in_ok-put_identifier.ensures.code, length-append c.args.e.now lines, at_most_two c.args.pos c.args.place)

pub returns-clause-identifies : goal.returns-clause-identifies
returns-clause-identifies c = record {
  lines = at_pos c.args.pos (identifier_instrs c.args.place);
  is = c.in_ok-put_identifier.ensures.code;
  so = code_identifies c.args.place (length c.args.e.now) c.args.pos;
}

pub returns-clause-aimed : goal.returns-clause-aimed
returns-clause-aimed c = record {
  lines = at_pos c.args.pos (identifier_instrs c.args.place);
  is = c.in_ok-put_identifier.ensures.code;
  so = identifier_aimed c.args.place (length c.args.e.now) c.args.pos;
}
