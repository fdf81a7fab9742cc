use Rattle.std.proofs.Common.{◌<◌, ◌≤◌, ◌+◌, ◌∙◌, ℕ, List, None, length, refl, sym, ap, subst, append-nil, arith, rules}
use Rattle.std.specs.Prelude.{slice_set}
use Rattle.xs_core.proofs.There.{there}
use Rattle.xs_core.proofs.Turning.{decided, made_turn, sent_turn, still_in_order}
use Rattle.xs_core.proofs.Unused.{others_stay, still_unused}
use Rattle.xs_core.proofs.slots.take_any.Goals as goal
use Rattle.xs_core.specs.declared.did.Did.TheVariants.{Made as DidMake, Paused as DidPause, Trapped as DidTrap, Idle as DidRest}
use Rattle.xs_core.specs.declared.state.State.{State}
use Rattle.xs_core.specs.declared.slot_result.SlotResult.TheVariants.{Idle, Paused, Trapped, Local, Pool, End, Port, Event, Take}
use Rattle.xs_core.specs.Ends.{end_did}
use Rattle.xs_core.specs.Events.{event_did}
use Rattle.xs_core.specs.Idle.{KeepsOthers}
use Rattle.xs_core.specs.Order.{IsInOrder, KeepsHome}
use Rattle.xs_core.specs.Local.{local_after, local_in, with_local}
use Rattle.xs_core.specs.Pool.{pool_did}
use Rattle.xs_core.specs.Ports.{port_did}
use Rattle.xs_core.specs.Seen.{home_of, state_of, thread_at}
use Rattle.xs_core.specs.SlotResults.{Keeps}
use Rattle.xs_instr.specs.declared.state.Thread.{Thread}
use Rattle.xs_instr.specs.Machine.{unused_thread}
use Rattle.xs_instr.specs.Slot.{trapped_at}

-- four more are at least as many
more : (n : ℕ) → n ≤ n + 4
more n = omega arith

-- what a step keeps of the core stays
home_kept : (old new : State) → Keeps old new → KeepsHome old new
home_kept old new keeps = record { fixed = keeps.fixed; core = keeps.core; stim = keeps.stim }

-- threads and words are no matter for the order of the ends
threads_set : (s : State) (threads : List Thread) (words : List ℕ) → IsInOrder s → IsInOrder (record s { threads = threads; words = words })
threads_set s threads words order = record { code = order.code; wired = order.wired; balanced = order.balanced }

pub returns-in-Trapped-clause-rest : goal.returns-in-Trapped-clause-rest
returns-in-Trapped-clause-rest c =
    let threads = c.args.state.now.threads in
    still_unused c.args.in_use.now c.args.t threads _ c.requires.used c.requires.unused (others_stay threads c.args.t _)

pub returns-in-Local-clause-rest : goal.returns-in-Local-clause-rest
returns-in-Local-clause-rest c =
    let threads = c.args.state.now.threads in
    still_unused c.args.in_use.now c.args.t threads c.apply.new.threads c.requires.used c.requires.unused
    (subst (λ (l : List Thread). KeepsOthers c.args.t threads l) (sym c.apply.ensures.threads) (others_stay threads c.args.t _))

pub returns-in-Idle-clause-turn : goal.returns-in-Idle-clause-turn
returns-in-Idle-clause-turn c =
    let home = home_of c.args.state.now in
    let core = state_of c.args.state.now in
    let x = thread_at c.args.state.now.threads c.args.t in
    let box = c.args.outbox.now.items in
    decided home core c.args.t x c.decide.result Idle DidRest core box box c.in-Idle.is c.decide.ensures.means (refl, refl)

pub returns-in-Paused-clause-turn : goal.returns-in-Paused-clause-turn
returns-in-Paused-clause-turn c =
    let home = home_of c.args.state.now in
    let core = state_of c.args.state.now in
    let x = thread_at c.args.state.now.threads c.args.t in
    let box = c.args.outbox.now.items in
    decided home core c.args.t x c.decide.result Paused DidPause core box box c.in-Paused.is c.decide.ensures.means (refl, refl)

pub returns-in-Trapped-clause-turn : goal.returns-in-Trapped-clause-turn
returns-in-Trapped-clause-turn c =
    let home = home_of c.args.state.now in
    let core = state_of c.args.state.now in
    let x = thread_at c.args.state.now.threads c.args.t in
    let box = c.args.outbox.now.items in
    let below : c.args.t < length c.args.state.now.threads = search rules in
    decided home core c.args.t x c.decide.result (Trapped c.in-Trapped.kind) (DidTrap c.in-Trapped.kind c.place_of-pos.result) _ box box c.in-Trapped.is c.decide.ensures.means (sym (ap (trapped_at core c.args.t) (there c.args.state.now.threads c.args.t unused_thread below)), refl, c.place_of-pos.ensures, refl)

pub returns-in-Pool-clause-turn : goal.returns-in-Pool-clause-turn
returns-in-Pool-clause-turn c =
    let home = home_of c.args.state.now in
    let core = state_of c.args.state.now in
    let x = thread_at c.args.state.now.threads c.args.t in
    let box = c.args.outbox.now.items in
    decided home core c.args.t x c.decide.result (Pool c.in-Pool.step) (DidMake None) (state_of c.apply-in-Pool.new.state) box box c.in-Pool.is c.decide.ensures.means (made_turn (pool_did home core c.args.t x c.in-Pool.step) home core c.args.t (state_of c.apply-in-Pool.new.state) None box c.apply-in-Pool.ensures.made)

pub returns-in-End-clause-turn : goal.returns-in-End-clause-turn
returns-in-End-clause-turn c =
    let home = home_of c.args.state.now in
    let core = state_of c.args.state.now in
    let x = thread_at c.args.state.now.threads c.args.t in
    let box = c.args.outbox.now.items in
    decided home core c.args.t x c.decide.result (End c.in-End.step) (DidMake c.apply-in-End.result) (state_of c.apply-in-End.new.state) box c.apply-in-End.new.outbox.items c.in-End.is c.decide.ensures.means (sent_turn (end_did home core c.args.t x c.in-End.step) home core c.args.t (state_of c.apply-in-End.new.state) c.apply-in-End.result box c.apply-in-End.new.outbox.items c.apply-in-End.ensures.made)

pub returns-in-Port-clause-turn : goal.returns-in-Port-clause-turn
returns-in-Port-clause-turn c =
    let home = home_of c.args.state.now in
    let core = state_of c.args.state.now in
    let x = thread_at c.args.state.now.threads c.args.t in
    let box = c.args.outbox.now.items in
    decided home core c.args.t x c.decide.result (Port c.in-Port.step) (DidMake c.apply-in-Port.result) (state_of c.apply-in-Port.new.state) box box c.in-Port.is c.decide.ensures.means (made_turn (port_did home core c.args.t x c.in-Port.step) home core c.args.t (state_of c.apply-in-Port.new.state) c.apply-in-Port.result box c.apply-in-Port.ensures.made)

pub returns-in-Event-clause-turn : goal.returns-in-Event-clause-turn
returns-in-Event-clause-turn c =
    let home = home_of c.args.state.now in
    let core = state_of c.args.state.now in
    let x = thread_at c.args.state.now.threads c.args.t in
    let box = c.args.outbox.now.items in
    decided home core c.args.t x c.decide.result (Event c.in-Event.step) (DidMake None) (state_of c.apply-in-Event.new.state) box box c.in-Event.is c.decide.ensures.means (made_turn (event_did core c.args.t x c.in-Event.step) home core c.args.t (state_of c.apply-in-Event.new.state) None box c.apply-in-Event.ensures.made)

pub returns-in-Take-clause-turn : goal.returns-in-Take-clause-turn
returns-in-Take-clause-turn c =
    let home = home_of c.args.state.now in
    let core = state_of c.args.state.now in
    let x = thread_at c.args.state.now.threads c.args.t in
    let box = c.args.outbox.now.items in
    decided home core c.args.t x c.decide.result (Take c.in-Take.res) (DidMake None) (state_of c.take.new.state) box box c.in-Take.is c.decide.ensures.means (c.take.ensures.made, refl, sym (append-nil box))

pub returns-in-Idle-clause-home : goal.returns-in-Idle-clause-home
returns-in-Idle-clause-home c = record { fixed = refl; core = refl; stim = refl }

pub returns-in-Idle-clause-order : goal.returns-in-Idle-clause-order
returns-in-Idle-clause-order c = c.requires.order

pub returns-in-Paused-clause-home : goal.returns-in-Paused-clause-home
returns-in-Paused-clause-home c = record { fixed = refl; core = refl; stim = refl }

pub returns-in-Paused-clause-order : goal.returns-in-Paused-clause-order
returns-in-Paused-clause-order c = c.requires.order

pub returns-in-Trapped-clause-home : goal.returns-in-Trapped-clause-home
returns-in-Trapped-clause-home c = record { fixed = refl; core = refl; stim = refl }

pub returns-in-Trapped-clause-order : goal.returns-in-Trapped-clause-order
returns-in-Trapped-clause-order c = threads_set c.args.state.now _ c.args.state.now.words c.requires.order

pub returns-in-Local-clause-home : goal.returns-in-Local-clause-home
returns-in-Local-clause-home c = record { fixed = refl; core = refl; stim = refl }

pub returns-in-Local-clause-order : goal.returns-in-Local-clause-order
returns-in-Local-clause-order c = threads_set c.args.state.now c.apply.new.threads c.apply.new.words c.requires.order

pub returns-in-Pool-clause-home : goal.returns-in-Pool-clause-home
returns-in-Pool-clause-home c = home_kept c.args.state.now c.apply-in-Pool.new.state c.apply-in-Pool.ensures.keeps

pub returns-in-Pool-clause-order : goal.returns-in-Pool-clause-order
returns-in-Pool-clause-order c = still_in_order c.args.state.now c.apply-in-Pool.new.state c.requires.order c.apply-in-Pool.ensures.keeps

pub returns-in-Port-clause-home : goal.returns-in-Port-clause-home
returns-in-Port-clause-home c = home_kept c.args.state.now c.apply-in-Port.new.state c.apply-in-Port.ensures.keeps

pub returns-in-Port-clause-order : goal.returns-in-Port-clause-order
returns-in-Port-clause-order c = still_in_order c.args.state.now c.apply-in-Port.new.state c.requires.order c.apply-in-Port.ensures.keeps

pub returns-in-Event-clause-home : goal.returns-in-Event-clause-home
returns-in-Event-clause-home c = home_kept c.args.state.now c.apply-in-Event.new.state c.apply-in-Event.ensures.keeps

pub returns-in-Event-clause-order : goal.returns-in-Event-clause-order
returns-in-Event-clause-order c = still_in_order c.args.state.now c.apply-in-Event.new.state c.requires.order c.apply-in-Event.ensures.keeps

pub returns-in-Take-clause-home : goal.returns-in-Take-clause-home
returns-in-Take-clause-home c = home_kept c.args.state.now c.take.new.state c.take.ensures.keeps

pub returns-in-Take-clause-order : goal.returns-in-Take-clause-order
returns-in-Take-clause-order c = still_in_order c.args.state.now c.take.new.state c.requires.order c.take.ensures.keeps

pub returns-in-End-clause-home : goal.returns-in-End-clause-home
returns-in-End-clause-home c = c.apply-in-End.ensures.kept

pub returns-in-End-clause-order : goal.returns-in-End-clause-order
returns-in-End-clause-order c = c.apply-in-End.ensures.order

pub returns-in-End-clause-few : goal.returns-in-End-clause-few
returns-in-End-clause-few c = c.apply-in-End.ensures.few

pub returns-in-End-clause-capacity : goal.returns-in-End-clause-capacity
returns-in-End-clause-capacity c = c.apply-in-End.ensures.capacity

pub returns-in-Idle-clause-few : goal.returns-in-Idle-clause-few
returns-in-Idle-clause-few c = more (length c.args.outbox.now.items)

pub returns-in-Idle-clause-capacity : goal.returns-in-Idle-clause-capacity
returns-in-Idle-clause-capacity c = refl

pub returns-in-Paused-clause-few : goal.returns-in-Paused-clause-few
returns-in-Paused-clause-few c = more (length c.args.outbox.now.items)

pub returns-in-Paused-clause-capacity : goal.returns-in-Paused-clause-capacity
returns-in-Paused-clause-capacity c = refl

pub returns-in-Trapped-clause-few : goal.returns-in-Trapped-clause-few
returns-in-Trapped-clause-few c = more (length c.args.outbox.now.items)

pub returns-in-Trapped-clause-capacity : goal.returns-in-Trapped-clause-capacity
returns-in-Trapped-clause-capacity c = refl

pub returns-in-Local-clause-few : goal.returns-in-Local-clause-few
returns-in-Local-clause-few c = more (length c.args.outbox.now.items)

pub returns-in-Local-clause-capacity : goal.returns-in-Local-clause-capacity
returns-in-Local-clause-capacity c = refl

pub returns-in-Pool-clause-few : goal.returns-in-Pool-clause-few
returns-in-Pool-clause-few c = more (length c.args.outbox.now.items)

pub returns-in-Pool-clause-capacity : goal.returns-in-Pool-clause-capacity
returns-in-Pool-clause-capacity c = refl

pub returns-in-Port-clause-few : goal.returns-in-Port-clause-few
returns-in-Port-clause-few c = more (length c.args.outbox.now.items)

pub returns-in-Port-clause-capacity : goal.returns-in-Port-clause-capacity
returns-in-Port-clause-capacity c = refl

pub returns-in-Event-clause-few : goal.returns-in-Event-clause-few
returns-in-Event-clause-few c = more (length c.args.outbox.now.items)

pub returns-in-Event-clause-capacity : goal.returns-in-Event-clause-capacity
returns-in-Event-clause-capacity c = refl

pub returns-in-Take-clause-few : goal.returns-in-Take-clause-few
returns-in-Take-clause-few c = more (length c.args.outbox.now.items)

pub returns-in-Take-clause-capacity : goal.returns-in-Take-clause-capacity
returns-in-Take-clause-capacity c = refl

pub returns-in-Idle-clause-less : goal.returns-in-Idle-clause-less
returns-in-Idle-clause-less c = c.requires.few

pub returns-in-Paused-clause-less : goal.returns-in-Paused-clause-less
returns-in-Paused-clause-less c = c.requires.few

pub returns-in-Trapped-clause-less : goal.returns-in-Trapped-clause-less
returns-in-Trapped-clause-less c = c.requires.few

pub returns-in-Local-clause-less : goal.returns-in-Local-clause-less
returns-in-Local-clause-less c = c.requires.few

pub returns-in-End-clause-less : goal.returns-in-End-clause-less
returns-in-End-clause-less c = c.requires.few

pub returns-in-Port-clause-less : goal.returns-in-Port-clause-less
returns-in-Port-clause-less c = c.requires.few

pub returns-in-Event-clause-less : goal.returns-in-Event-clause-less
returns-in-Event-clause-less c = c.requires.few

pub returns-in-Take-clause-less : goal.returns-in-Take-clause-less
returns-in-Take-clause-less c = c.requires.few

pub returns-in-Pool-clause-less : goal.returns-in-Pool-clause-less
returns-in-Pool-clause-less c = c.in_use.ensures.few

pub returns-in-Pool-clause-rest : goal.returns-in-Pool-clause-rest
returns-in-Pool-clause-rest c = c.in_use.ensures.unused

pub returns-in-Idle-clause-rest : goal.returns-in-Idle-clause-rest
returns-in-Idle-clause-rest c = c.requires.unused

pub returns-in-Paused-clause-rest : goal.returns-in-Paused-clause-rest
returns-in-Paused-clause-rest c = c.requires.unused

pub returns-in-End-clause-rest : goal.returns-in-End-clause-rest
returns-in-End-clause-rest c = still_unused c.args.in_use.now c.args.t c.args.state.now.threads c.apply-in-End.new.state.threads c.requires.used
    c.requires.unused c.apply-in-End.ensures.others

pub returns-in-Port-clause-rest : goal.returns-in-Port-clause-rest
returns-in-Port-clause-rest c = still_unused c.args.in_use.now c.args.t c.args.state.now.threads c.apply-in-Port.new.state.threads c.requires.used
    c.requires.unused c.apply-in-Port.ensures.others

pub returns-in-Event-clause-rest : goal.returns-in-Event-clause-rest
returns-in-Event-clause-rest c = still_unused c.args.in_use.now c.args.t c.args.state.now.threads c.apply-in-Event.new.state.threads c.requires.used
    c.requires.unused c.apply-in-Event.ensures.others

pub returns-in-Take-clause-rest : goal.returns-in-Take-clause-rest
returns-in-Take-clause-rest c = still_unused c.args.in_use.now c.args.t c.args.state.now.threads c.take.new.state.threads c.requires.used
    c.requires.unused c.take.ensures.others

pub returns-in-Local-clause-turn : goal.returns-in-Local-clause-turn
returns-in-Local-clause-turn c =
    let s = c.args.state.now in
    let home = home_of s in
    let core = state_of s in
    let x = thread_at s.threads c.args.t in
    let box = c.args.outbox.now.items in
    let own = local_after (local_in x s.words) c.in-Local.step in
    decided home core c.args.t x c.decide.result (Local c.in-Local.step) (DidMake None) _ box box c.in-Local.is c.decide.ensures.means (
      ap (λ l. state_of (record s { threads = l; words = c.apply.new.words })) c.apply.ensures.threads
          ∙ ap (λ w. state_of (record s { threads = slice_set s.threads c.args.t (with_local x own); words = w })) c.apply.ensures.words,
      refl,
      sym
          (append-nil box),
    )
