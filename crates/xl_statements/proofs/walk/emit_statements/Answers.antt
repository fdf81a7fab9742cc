use Rattle.std.proofs.Common.{List, [], sym, subst}
use Rattle.xl_ends.specs.Sides.{sides_of}
use Rattle.xl_statements.specs.declared.leaving.Leaving.{Leaving}
use Rattle.xl_statements.specs.Built.{statements_of}
use Rattle.xl_statements.specs.Emits.{AllEmit, Emitted}
use Rattle.xl_expr.proofs.Emitted.{on_err}
use Rattle.xl_statements.proofs.walk.emit_statements.Goals as goal

pub emit_all-requires-clause-built : goal.emit_all-requires-clause-built
emit_all-requires-clause-built c = c.requires.built

pub emit_all-requires-clause-shallow : goal.emit_all-requires-clause-shallow
emit_all-requires-clause-shallow c = c.requires.shallow

pub emit_all-requires-clause-narrow : goal.emit_all-requires-clause-narrow
emit_all-requires-clause-narrow c = c.requires.narrow

pub emit_all-requires-clause-room : goal.emit_all-requires-clause-room
emit_all-requires-clause-room c = c.requires.room

pub returns-in_err-emit_all-clause-refused : goal.returns-in_err-emit_all-clause-refused
returns-in_err-emit_all-clause-refused c = on_err _ _ c.in_err-emit_all.ensures.refused

pub returns-clause-code : goal.returns-clause-code
returns-clause-code c =
    let all = AllEmit c.args.plan.now (sides_of c.args.sides.now) (statements_of c.args.statements.now) in
    subst (λ (l : List Leaving). Emitted all c.args.e.now c.emit_all.new.e [] l) (sym c.from_vec.ensures)
    (subst (λ (l : List Leaving). Emitted all c.args.e.now c.emit_all.new.e l c.emit_all.new.left.items)
    c.new-left.ensures.items c.in_ok-emit_all.ensures.code)

pub returns-clause-size : goal.returns-clause-size
returns-clause-size c = c.in_ok-emit_all.ensures.size

pub emit_all-requires-clause-stack : goal.emit_all-requires-clause-stack
emit_all-requires-clause-stack c = c.requires.stack
