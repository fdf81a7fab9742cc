use Rattle.std.proofs.Common.{length}
use Rattle.xr_listed.proofs.code.are_indices.Given as goal
use Rattle.xs_instr.specs.Valid.{AreIndices}

-- the roots are indices where those that are left are
abbrev pub invariant-each : goal.invariant-each
invariant-each l = AreIndices l.fn.size l.rest → AreIndices l.fn.size l.fn.roots

abbrev pub decreases-each : goal.decreases-each
decreases-each l = length l.rest
