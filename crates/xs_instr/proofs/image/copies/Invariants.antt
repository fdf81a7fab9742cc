use Rattle.std.proofs.Common.{◌≡◌, take}
use Rattle.xs_instr.proofs.image.copies.Given as goal

abbrev pub invariant-loop-core : goal.invariant-loop-core
invariant-loop-core l = l.copies ≡ take l.core-index l.cores
