use Rattle.xs_core.proofs.boot.peers.Given as goal
use Rattle.xs_core.specs.Wired.{ArePeers}

abbrev pub invariant-loop-end : goal.invariant-loop-end
invariant-loop-end l = ArePeers l.pairs l.core l.end l.peers
