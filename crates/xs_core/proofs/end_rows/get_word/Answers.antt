use Rattle.std.proofs.Common.{◌≡◌, ◌≤◌, ◌++◌, length, slice_set, refl, arith}
use Rattle.std.specs.Prelude.{nat_eq}
use Rattle.xs_chanend.specs.Ends.{end_at, without_first}
use Rattle.xs_core.proofs.EndSteps.{taken_moves, take_room, word_long}
use Rattle.xs_core.proofs.end_rows.get_word.Goals as goal
use Rattle.xs_core.specs.Wired.{peer_at}
use Rattle.xs_instr.specs.Ends.{credits_to, goes_by}

pub returns-clause-moves : goal.returns-clause-moves
returns-clause-moves c =
    let left : c.take_word.new.self ≡ slice_set c.args.state.now.ends c.args.e (without_first (end_at c.args.state.now.ends c.args.e) 4) = c.in-Word.ensures.left in
    let enough : 4 ≤ length (end_at c.args.state.now.ends c.args.e).tokens = word_long (end_at c.args.state.now.ends c.args.e).tokens c.requires.fits in
    let ends_is : c.go.new.ends ≡ (goes_by (slice_set c.args.state.now.ends c.args.e (without_first (end_at c.args.state.now.ends c.args.e) 4)) (peer_at c.args.state.now.fixed.peers c.args.e).core c.args.state.now.ports.clock (credits_to (peer_at c.args.state.now.fixed.peers c.args.e).end 4) (nat_eq (peer_at c.args.state.now.fixed.peers c.args.e).core c.args.state.now.ports.core)).ends = cc in
    let sent_is : c.go.new.outbox.items ≡ c.args.outbox.now.items ++ (goes_by (slice_set c.args.state.now.ends c.args.e (without_first (end_at c.args.state.now.ends c.args.e) 4)) (peer_at c.args.state.now.fixed.peers c.args.e).core c.args.state.now.ports.clock (credits_to (peer_at c.args.state.now.fixed.peers c.args.e).end 4) (nat_eq (peer_at c.args.state.now.fixed.peers c.args.e).core c.args.state.now.ports.core)).sent = cc in
    let all = taken_moves c.args.state.now c.requires.order c.args.e c.requires.there 4 c.args.outbox.now c.go.new.outbox _ c.go.new.ends enough (omega arith) refl ends_is sent_is c.go.ensures.capacity in
    all

pub go-requires-clause-room : goal.go-requires-clause-room
go-requires-clause-room c = λ h.
    let here : (peer_at c.args.state.now.fixed.peers c.args.e).core ≡ c.args.state.now.ports.core = cc in
    let room = take_room c.args.state.now c.requires.order c.args.e c.requires.there 4 (word_long (end_at c.args.state.now.ends c.args.e).tokens c.requires.fits) here in
    let left : c.take_word.new.self ≡ slice_set c.args.state.now.ends c.args.e (without_first (end_at c.args.state.now.ends c.args.e) 4) = c.in-Word.ensures.left in
    rw (left, c.as_slice.ensures) room
