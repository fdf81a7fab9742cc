use Rattle.std.proofs.Common.{◌≡◌, Some, slice_get, rules}
use Rattle.xs_core.proofs.Turning.{goes_on, has_byte, may_go_on}
use Rattle.xs_core.proofs.slots.run.Goals as goal

pub row-requires : goal.row-requires
row-requires c =
    let found : slice_get c.args.state.now.fixed.parts.code.instrs c.args.thread.now.pc ≡ Some c.in-Some-instr.instr = search rules in
    has_byte c.args.state.now.fixed.parts.code.instrs c.args.thread.now.pc c.in-Some-instr.instr c.requires.order.code found

pub returns-in-Some-instr-clause-room : goal.returns-in-Some-instr-clause-room
returns-in-Some-instr-clause-room c =
    let found : slice_get c.args.state.now.fixed.parts.code.instrs c.args.thread.now.pc ≡ Some c.in-Some-instr.instr = search rules in
    may_go_on c.args.thread.now.pc c.row.result
    (goes_on c.args.state.now.fixed.parts.code.instrs c.args.thread.now.pc c.in-Some-instr.instr c.requires.order.code found)
