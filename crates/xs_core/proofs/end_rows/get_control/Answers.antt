use Rattle.std.proofs.Common.{◌≡◌, ◌∙◌, ◌≤◌, ◌++◌, length, slice_set, refl, arith}
use Rattle.std.specs.Prelude.{nat_eq}
use Rattle.xs_chanend.specs.Ends.{end_at, without_first}
use Rattle.xs_core.proofs.EndSteps.{taken_moves, passed_long, passed_left}
use Rattle.xs_core.proofs.end_rows.get_control.Goals as goal
use Rattle.xs_core.specs.Wired.{peer_at}
use Rattle.xs_instr.specs.Ends.{credits_to, goes_by}

pub returns : goal.returns
returns c =
    let left : c.check.new.self ≡ slice_set c.args.state.now.ends c.args.e (without_first (end_at c.args.state.now.ends c.args.e) 1) = c.check.ensures.left ∙ passed_left c.args.state.now.ends c.args.e c.check.result (c.check.ensures.checked ∙ c.requires.fits) in
    let enough : 1 ≤ length (end_at c.args.state.now.ends c.args.e).tokens = passed_long (end_at c.args.state.now.ends c.args.e).tokens c.args.c c.requires.fits in
    let ends_is : c.go.new.ends ≡ (goes_by (slice_set c.args.state.now.ends c.args.e (without_first (end_at c.args.state.now.ends c.args.e) 1)) (peer_at c.args.state.now.fixed.peers c.args.e).core c.args.state.now.ports.clock (credits_to (peer_at c.args.state.now.fixed.peers c.args.e).end 1) (nat_eq (peer_at c.args.state.now.fixed.peers c.args.e).core c.args.state.now.ports.core)).ends = cc in
    let sent_is : c.go.new.outbox.items ≡ c.args.outbox.now.items ++ (goes_by (slice_set c.args.state.now.ends c.args.e (without_first (end_at c.args.state.now.ends c.args.e) 1)) (peer_at c.args.state.now.fixed.peers c.args.e).core c.args.state.now.ports.clock (credits_to (peer_at c.args.state.now.fixed.peers c.args.e).end 1) (nat_eq (peer_at c.args.state.now.fixed.peers c.args.e).core c.args.state.now.ports.core)).sent = cc in
    let all = taken_moves c.args.state.now c.requires.order c.args.e c.requires.there 1 c.args.outbox.now c.go.new.outbox _ c.go.new.ends enough (omega arith) refl ends_is sent_is c.go.ensures.capacity in
    record { moves = all }
