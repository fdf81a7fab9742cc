use Rattle.std.proofs.Common.{◌≡◌, ◌≤◌, ◌++◌, ◌∷◌, [], slice_set, refl, rules, arith}
use Rattle.std.specs.Prelude.{nat_eq}
use Rattle.xs_chanend.specs.Ends.{end_at, without_credits}
use Rattle.xs_core.proofs.EndSteps.{sent_moves}
use Rattle.xs_core.proofs.end_rows.post_token.Goals as goal
use Rattle.xs_core.specs.Wired.{peer_at}
use Rattle.xs_instr.specs.Ends.{goes_by, tokens_to}

pub returns : goal.returns
returns c =
    let left : c.spend.new.self ≡ slice_set c.args.state.now.ends c.args.e (without_credits (end_at c.args.state.now.ends c.args.e) 1) = search rules in
    let enough : 1 ≤ (end_at c.args.state.now.ends c.args.e).credits = c.requires.fits in
    let ends_is : c.go.new.ends ≡ (goes_by (slice_set c.args.state.now.ends c.args.e (without_credits (end_at c.args.state.now.ends c.args.e) 1)) (peer_at c.args.state.now.fixed.peers c.args.e).core c.args.state.now.ports.clock (tokens_to (peer_at c.args.state.now.fixed.peers c.args.e).end (c.args.token ∷ [])) (nat_eq (peer_at c.args.state.now.fixed.peers c.args.e).core c.args.state.now.ports.core)).ends = cc in
    let sent_is : c.go.new.outbox.items ≡ c.args.outbox.now.items ++ (goes_by (slice_set c.args.state.now.ends c.args.e (without_credits (end_at c.args.state.now.ends c.args.e) 1)) (peer_at c.args.state.now.fixed.peers c.args.e).core c.args.state.now.ports.clock (tokens_to (peer_at c.args.state.now.fixed.peers c.args.e).end (c.args.token ∷ [])) (nat_eq (peer_at c.args.state.now.fixed.peers c.args.e).core c.args.state.now.ports.core)).sent = cc in
    let all = sent_moves c.args.state.now c.requires.order c.args.e c.requires.there (c.args.token ∷ []) c.args.outbox.now c.go.new.outbox _ c.go.new.ends enough (omega arith) refl ends_is sent_is c.go.ensures.capacity in
    record { moves = all }
