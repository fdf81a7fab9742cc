use Rattle.std.proofs.Common.{◌≡◌, ◌+◌, length}
use Rattle.xr_listed.proofs.code.are_good.Given as goal
use Rattle.xs_instr.specs.Valid.{AreGoodInstrs}

-- the instructions are good where those that are left are
abbrev pub invariant-each : goal.invariant-each
invariant-each l =
    (l.index + length l.rest ≡ length l.fn.instrs)
    × (AreGoodInstrs (length l.fn.instrs) l.index l.rest → AreGoodInstrs (length l.fn.instrs) 0 l.fn.instrs)

abbrev pub decreases-each : goal.decreases-each
decreases-each l = length l.rest
