use Rattle.std.proofs.Common.{subst, arith}
use Rattle.xc_nonterminals.specs.Programs.{NoProgram, NoShallow, Halted}
use Rattle.xc_nonterminals.proofs.Reading.Whole.{is_program, only_program, program_depth, unbroken, first_201, first_202, each_deep}
use Rattle.xc_parser.proofs.program.parse.Goals as goal

pub returns-in-Ok-clause-tree : goal.returns-in-Ok-clause-tree
returns-in-Ok-clause-tree c = rw (← c.as_slice.ensures) (is_program c.in-Ok.ensures.read (omega arith))

pub returns-in-Ok-clause-only : goal.returns-in-Ok-clause-only
returns-in-Ok-clause-only c = rw (← c.as_slice.ensures) (only_program c.in-Ok.ensures.read (omega arith))

pub returns-in-Ok-clause-shallow : goal.returns-in-Ok-clause-shallow
returns-in-Ok-clause-shallow c = program_depth c.in-Ok.ensures.read (omega arith)

pub returns-in-Ok-clause-unbroken : goal.returns-in-Ok-clause-unbroken
returns-in-Ok-clause-unbroken c = rw (← c.as_slice.ensures) (unbroken c.in-Ok.ensures.read (omega arith))

pub returns-in-Err-Wrong-clause-broken : goal.returns-in-Err-Wrong-clause-broken
returns-in-Err-Wrong-clause-broken c =
    let n : NoProgram c.as_slice.result.now c.in-Err-Wrong.at = subst (Halted c.as_slice.result.now) c.in-Err-Wrong.field-0-is c.in-Err-Wrong.ensures.stopped in
    rw (c.broken.ensures, ← c.as_slice.ensures) (first_201 c.args.end n)

pub returns-in-Err-Deep-clause-broken : goal.returns-in-Err-Deep-clause-broken
returns-in-Err-Deep-clause-broken c =
    let n : NoShallow c.as_slice.result.now c.in-Err-Deep.at = subst (Halted c.as_slice.result.now) c.in-Err-Deep.field-0-is c.in-Err-Deep.ensures.stopped in
    rw (c.broken-in-Err-Deep.ensures, ← c.as_slice.ensures) (first_202 c.args.end n)

pub returns-in-Err-Deep-clause-none : goal.returns-in-Err-Deep-clause-none
returns-in-Err-Deep-clause-none c =
    let n : NoShallow c.as_slice.result.now c.in-Err-Deep.at = subst (Halted c.as_slice.result.now) c.in-Err-Deep.field-0-is c.in-Err-Deep.ensures.stopped in
    rw (c.broken-in-Err-Deep.ensures, ← c.as_slice.ensures) (each_deep n)
