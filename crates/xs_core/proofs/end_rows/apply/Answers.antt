use Rattle.std.proofs.Common.{ap}
use Rattle.xs_core.proofs.end_rows.apply.Goals as goal
use Rattle.xs_core.proofs.EndRows.{byte_got, control_got, ends_in_order, moved_keeps, room_kept, token_sent, word_got, word_sent}
use Rattle.xs_core.proofs.Lists.{others_kept}
use Rattle.xs_core.specs.declared.state.State.{State}

pub returns-in-SendWord-clause-others : goal.returns-in-SendWord-clause-others
returns-in-SendWord-clause-others c = others_kept _ _ _ _ _ c.pass.ensures (ap (λ (s : State). s.threads) c.post_word.ensures.moves.state)

pub returns-in-SendToken-clause-others : goal.returns-in-SendToken-clause-others
returns-in-SendToken-clause-others c = others_kept _ _ _ _ _ c.pass-in-SendToken.ensures (ap (λ (s : State). s.threads) c.post_token.ensures.moves.state)

pub returns-in-TakeWord-clause-others : goal.returns-in-TakeWord-clause-others
returns-in-TakeWord-clause-others c = others_kept _ _ _ _ _ c.pass_with.ensures (ap (λ (s : State). s.threads) c.get_word-value.ensures.moves.state)

pub returns-in-TakeByte-clause-others : goal.returns-in-TakeByte-clause-others
returns-in-TakeByte-clause-others c = others_kept _ _ _ _ _ c.pass_with-in-TakeByte.ensures (ap (λ (s : State). s.threads) c.get_byte-value.ensures.moves.state)

pub returns-in-TakeControl-clause-others : goal.returns-in-TakeControl-clause-others
returns-in-TakeControl-clause-others c = others_kept _ _ _ _ _ c.pass-in-TakeControl.ensures (ap (λ (s : State). s.threads) c.get_control.ensures.moves.state)

pub returns-in-SendWord-clause-made : goal.returns-in-SendWord-clause-made
returns-in-SendWord-clause-made c = word_sent c.args.state.now c.post_word.new.state c.args.t c.in-SendWord.e c.in-SendWord.value c.args.step c.pass.new.threads c.args.outbox.now c.post_word.new.outbox c.in-SendWord.is c.requires.fits c.post_word.ensures.moves c.pass.ensures

pub returns-in-SendToken-clause-made : goal.returns-in-SendToken-clause-made
returns-in-SendToken-clause-made c = token_sent c.args.state.now c.post_token.new.state c.args.t c.in-SendToken.e c.in-SendToken.token c.args.step c.pass-in-SendToken.new.threads c.args.outbox.now c.post_token.new.outbox c.in-SendToken.is c.requires.fits c.post_token.ensures.moves c.pass-in-SendToken.ensures

pub returns-in-TakeWord-clause-made : goal.returns-in-TakeWord-clause-made
returns-in-TakeWord-clause-made c = word_got c.args.state.now c.get_word-value.new.state c.args.t c.in-TakeWord.e c.get_word-value.result _ c.in-TakeWord.d c.args.step c.pass_with.new.threads c.args.outbox.now c.get_word-value.new.outbox c.in-TakeWord.is c.requires.fits c.get_word-value.ensures.value c.core.ensures c.get_word-value.ensures.moves c.pass_with.ensures

pub returns-in-TakeByte-clause-made : goal.returns-in-TakeByte-clause-made
returns-in-TakeByte-clause-made c = byte_got c.args.state.now c.get_byte-value.new.state c.args.t c.in-TakeByte.e c.get_byte-value.result c.in-TakeByte.d c.args.step c.pass_with-in-TakeByte.new.threads c.args.outbox.now c.get_byte-value.new.outbox c.in-TakeByte.is c.requires.fits c.get_byte-value.ensures.value c.get_byte-value.ensures.moves c.pass_with-in-TakeByte.ensures

pub returns-in-TakeControl-clause-made : goal.returns-in-TakeControl-clause-made
returns-in-TakeControl-clause-made c = control_got c.args.state.now c.get_control.new.state c.args.t c.in-TakeControl.e c.in-TakeControl.c c.args.step c.pass-in-TakeControl.new.threads c.args.outbox.now c.get_control.new.outbox c.in-TakeControl.is c.requires.fits c.get_control.ensures.moves c.pass-in-TakeControl.ensures

pub returns-in-SendWord-clause-kept : goal.returns-in-SendWord-clause-kept
returns-in-SendWord-clause-kept c = moved_keeps _ c.post_word.new.state _ _ _ c.pass.new.threads c.post_word.ensures.moves

pub returns-in-SendWord-clause-order : goal.returns-in-SendWord-clause-order
returns-in-SendWord-clause-order c = ends_in_order c.post_word.new.state c.pass.new.threads c.post_word.ensures.moves.order

pub returns-in-SendWord-clause-few : goal.returns-in-SendWord-clause-few
returns-in-SendWord-clause-few c = c.post_word.ensures.moves.few

pub returns-in-SendWord-clause-capacity : goal.returns-in-SendWord-clause-capacity
returns-in-SendWord-clause-capacity c = c.post_word.ensures.moves.capacity

pub returns-in-SendToken-clause-kept : goal.returns-in-SendToken-clause-kept
returns-in-SendToken-clause-kept c = moved_keeps _ c.post_token.new.state _ _ _ c.pass-in-SendToken.new.threads c.post_token.ensures.moves

pub returns-in-SendToken-clause-order : goal.returns-in-SendToken-clause-order
returns-in-SendToken-clause-order c = ends_in_order c.post_token.new.state c.pass-in-SendToken.new.threads c.post_token.ensures.moves.order

pub returns-in-SendToken-clause-few : goal.returns-in-SendToken-clause-few
returns-in-SendToken-clause-few c = c.post_token.ensures.moves.few

pub returns-in-SendToken-clause-capacity : goal.returns-in-SendToken-clause-capacity
returns-in-SendToken-clause-capacity c = c.post_token.ensures.moves.capacity

pub returns-in-TakeWord-clause-kept : goal.returns-in-TakeWord-clause-kept
returns-in-TakeWord-clause-kept c = moved_keeps _ c.get_word-value.new.state _ _ _ c.pass_with.new.threads c.get_word-value.ensures.moves

pub returns-in-TakeWord-clause-order : goal.returns-in-TakeWord-clause-order
returns-in-TakeWord-clause-order c = ends_in_order c.get_word-value.new.state c.pass_with.new.threads c.get_word-value.ensures.moves.order

pub returns-in-TakeWord-clause-few : goal.returns-in-TakeWord-clause-few
returns-in-TakeWord-clause-few c = c.get_word-value.ensures.moves.few

pub returns-in-TakeWord-clause-capacity : goal.returns-in-TakeWord-clause-capacity
returns-in-TakeWord-clause-capacity c = c.get_word-value.ensures.moves.capacity

pub returns-in-TakeByte-clause-kept : goal.returns-in-TakeByte-clause-kept
returns-in-TakeByte-clause-kept c = moved_keeps _ c.get_byte-value.new.state _ _ _ c.pass_with-in-TakeByte.new.threads c.get_byte-value.ensures.moves

pub returns-in-TakeByte-clause-order : goal.returns-in-TakeByte-clause-order
returns-in-TakeByte-clause-order c = ends_in_order c.get_byte-value.new.state c.pass_with-in-TakeByte.new.threads c.get_byte-value.ensures.moves.order

pub returns-in-TakeByte-clause-few : goal.returns-in-TakeByte-clause-few
returns-in-TakeByte-clause-few c = c.get_byte-value.ensures.moves.few

pub returns-in-TakeByte-clause-capacity : goal.returns-in-TakeByte-clause-capacity
returns-in-TakeByte-clause-capacity c = c.get_byte-value.ensures.moves.capacity

pub returns-in-TakeControl-clause-kept : goal.returns-in-TakeControl-clause-kept
returns-in-TakeControl-clause-kept c = moved_keeps _ c.get_control.new.state _ _ _ c.pass-in-TakeControl.new.threads c.get_control.ensures.moves

pub returns-in-TakeControl-clause-order : goal.returns-in-TakeControl-clause-order
returns-in-TakeControl-clause-order c = ends_in_order c.get_control.new.state c.pass-in-TakeControl.new.threads c.get_control.ensures.moves.order

pub returns-in-TakeControl-clause-few : goal.returns-in-TakeControl-clause-few
returns-in-TakeControl-clause-few c = c.get_control.ensures.moves.few

pub returns-in-TakeControl-clause-capacity : goal.returns-in-TakeControl-clause-capacity
returns-in-TakeControl-clause-capacity c = c.get_control.ensures.moves.capacity

pub pass-requires-clause-room : goal.pass-requires-clause-room
pass-requires-clause-room c = room_kept _ c.post_word.new.state _ _ _ c.args.t c.post_word.ensures.moves c.requires.room

pub pass-requires-in-SendToken-clause-room : goal.pass-requires-in-SendToken-clause-room
pass-requires-in-SendToken-clause-room c = room_kept _ c.post_token.new.state _ _ _ c.args.t c.post_token.ensures.moves c.requires.room

pub pass_with-requires-clause-room : goal.pass_with-requires-clause-room
pass_with-requires-clause-room c = room_kept _ c.get_word-value.new.state _ _ _ c.args.t c.get_word-value.ensures.moves c.requires.room

pub pass_with-requires-in-TakeByte-clause-room : goal.pass_with-requires-in-TakeByte-clause-room
pass_with-requires-in-TakeByte-clause-room c = room_kept _ c.get_byte-value.new.state _ _ _ c.args.t c.get_byte-value.ensures.moves c.requires.room

pub pass-requires-in-TakeControl-clause-room : goal.pass-requires-in-TakeControl-clause-room
pass-requires-in-TakeControl-clause-room c = room_kept _ c.get_control.new.state _ _ _ c.args.t c.get_control.ensures.moves c.requires.room
