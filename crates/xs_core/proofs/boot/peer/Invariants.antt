use Rattle.std.proofs.Common.{◌≡◌, drop}
use Rattle.xs_core.proofs.boot.peer.Given as goal
use Rattle.xs_instr.specs.Ends.{peer_of}

abbrev pub invariant-loop-pair : goal.invariant-loop-pair
invariant-loop-pair l = peer_of l.pairs l.core l.end ≡ peer_of (drop l.pair-index l.pairs) l.core l.end
