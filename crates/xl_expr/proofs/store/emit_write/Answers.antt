use Rattle.std.proofs.Common.{◌++◌, ◌∙◌, List, ap, arith, length}
use Rattle.xs_instr.specs.Lines.{Line}
use Rattle.xl_expr.proofs.Denoted.{depth_elem, element_stored, no_store, no_element_store, nodes_elem, nodes_some, word_stored}
use Rattle.xl_expr.proofs.Emitted.{on_code, on_err}
use Rattle.xl_expr.proofs.store.emit_write.Goals as goal

pub returns-in-None-clause-code : goal.returns-in-None-clause-code
returns-in-None-clause-code c =
    no_store c.args.plan.now.vars c.args.dst.now c.in-Word.v c.args.from (length c.args.e.now) c.args.last c.placed.result c.args.e.now c.in-Word.is c.in-None.is c.placed.ensures

pub returns-in-None-placed-clause-code : goal.returns-in-None-placed-clause-code
returns-in-None-placed-clause-code c =
    no_element_store c.args.plan.now.vars c.args.dst.now c.in-Elem.v c.in-Elem.index c.in-Elem.pos c.args.from (length c.args.e.now) c.args.last c.placed-in-Elem.result c.args.e.now c.in-Elem.is c.in-None-placed.is c.placed-in-Elem.ensures

pub put_word_write-requires : goal.put_word_write-requires
put_word_write-requires c =
    let n = nodes_some c.args.dst.now in
    omega (arith, n, c.requires.room)

pub emit_element_write-requires-clause-room : goal.emit_element_write-requires-clause-room
emit_element_write-requires-clause-room c =
    let n = nodes_elem c.args.dst.now c.in-Elem.v c.in-Elem.index c.in-Elem.pos c.deref.result.now c.in-Elem.is c.deref.ensures in
    omega (arith, n, c.requires.room)

pub emit_element_write-requires-clause-shallow : goal.emit_element_write-requires-clause-shallow
emit_element_write-requires-clause-shallow c =
    let d = depth_elem c.args.dst.now c.in-Elem.v c.in-Elem.index c.in-Elem.pos c.deref.result.now c.in-Elem.is c.deref.ensures in
    omega (arith, d, c.requires.shallow)

pub returns-in_err-put_word_write-in-Some-clause-refused : goal.returns-in_err-put_word_write-in-Some-clause-refused
returns-in_err-put_word_write-in-Some-clause-refused c = on_err _ _ c.in_err-put_word_write-in-Some.ensures.refused

pub returns-in_ok-put_word_write-in-Some-clause-code : goal.returns-in_ok-put_word_write-in-Some-clause-code
returns-in_ok-put_word_write-in-Some-clause-code c =
    c.in_ok-put_word_write-in-Some.ensures.code
    ∙ ap (λ (ls : List Line). c.args.e.now ++ ls) (word_stored c.args.plan.now.vars c.args.dst.now c.in-Word.v c.args.from (length c.args.e.now) c.args.last c.placed.result c.in-Some.found c.in-Word.is c.in-Some.is c.placed.ensures)

pub returns-in-Some-placed-clause-code : goal.returns-in-Some-placed-clause-code
returns-in-Some-placed-clause-code c =
    on_code _ _ _ _ _ (element_stored c.args.plan.now.vars c.args.dst.now c.in-Elem.v c.in-Elem.index c.in-Elem.pos c.deref.result.now c.args.from (length c.args.e.now) c.args.last c.placed-in-Elem.result c.in-Some-placed.found c.in-Elem.is c.deref.ensures c.in-Some-placed.is c.placed-in-Elem.ensures) c.emit_element_write.ensures.code

pub returns-in-Some-placed-clause-refused : goal.returns-in-Some-placed-clause-refused
returns-in-Some-placed-clause-refused c = c.emit_element_write.ensures.refused
