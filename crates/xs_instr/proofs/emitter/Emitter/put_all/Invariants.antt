use Rattle.std.proofs.Common.{◌≡◌, ◌++◌, take}
use Rattle.xs_instr.specs.Lines.{at_pos}
use Rattle.xs_instr.proofs.emitter.Emitter.put_all.Given as goal

abbrev pub invariant-loop-instr : goal.invariant-loop-instr
invariant-loop-instr l = l.self ≡ l.initial.self ++ at_pos l.pos (take l.instr-index l.instrs)
