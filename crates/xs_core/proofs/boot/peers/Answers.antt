use Rattle.xs_core.proofs.boot.peers.Goals as goal
use Rattle.xs_core.proofs.Starting.{no_peers, one_peer_more}

pub loop-end-init : goal.loop-end-init
loop-end-init c = rw c.new-peers.ensures (no_peers c.args.pairs.now c.args.core)

pub loop-end-preserved : goal.loop-end-preserved
loop-end-preserved c =
    rw c.in_ok-push.ensures.ok
    (one_peer_more c.args.pairs.now c.args.core c.loop-end.end c.loop-end.peers c.peer.result c.loop-end.invariant c.peer.ensures)
