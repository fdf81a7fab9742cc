use Rattle.std.proofs.Common.{◌≡◌, ◌++◌}
use Rattle.xs_instr.specs.Lines.{at_pos}
use Rattle.xl_flow.specs.Zeros.{near_write, writes}
use Rattle.xl_flow.proofs.zero.put_near_writes.Given as goal

abbrev pub invariant-words : goal.invariant-words
invariant-words l = l.e ≡ l.initial.e ++ at_pos l.pos (writes (near_write l.n) l.i)
