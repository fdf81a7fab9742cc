use Rattle.std.proofs.Common.{refl, sym, ◌∙◌, ap, arith}
use Rattle.std.specs.Prelude.{◌++◌, ◌∷◌, []}
use Rattle.std.proofs.lemmas.Bool.{false≢true}
use Rattle.xs_core.specs.declared.did.Did.TheVariants.{Made, Paused, Trapped, Idle}
use Rattle.xs_instr.specs.declared.trace.Record.TheVariants.{Fault}
use Rattle.xs_instr.specs.Machine.{noted}
use Rattle.xs_fabric.proofs.Turned.{steps_as, turn_is}
use Rattle.xs_fabric.proofs.turn.take_turn.Goals as goal

pub returns-in-Made-None-clause-turn : goal.returns-in-Made-None-clause-turn
returns-in-Made-None-clause-turn c =
    turn_is _ _ _ _ _ _ _ _ (Made c.in-Made-None.field-0) c.in-Made-None.ensures.turn
    (sym (ap (λ o. noted c.args.trace.now.items o) c.in-Made-None.field-0-is))

pub returns-in-Made-Some-clause-turn : goal.returns-in-Made-Some-clause-turn
returns-in-Made-Some-clause-turn c =
    turn_is _ _ _ _ _ _ _ _ (Made c.in-Made-Some.field-0) c.in-Made-Some.ensures.turn
    (c.note.ensures.items ∙ sym (ap (λ o. noted c.args.trace.now.items o) c.in-Made-Some.field-0-is))

pub returns-in-Trapped-clause-turn : goal.returns-in-Trapped-clause-turn
returns-in-Trapped-clause-turn c =
    turn_is _ _ _ _ _ _ _ _ (Trapped c.in-Trapped.kind c.in-Trapped.pos) c.in-Trapped.ensures.turn
    (c.note-in-Trapped.ensures.items ∙ ap (λ n. c.args.trace.now.items ++ Fault n c.in-Trapped.pos c.in-Trapped.kind ∷ []) (c.number-core.ensures ∙ ap (λ h. h.number) c.in-Trapped.ensures.home))

pub returns-in-Paused-clause-turn : goal.returns-in-Paused-clause-turn
returns-in-Paused-clause-turn c = turn_is _ _ _ _ _ _ _ _ Paused c.in-Paused.ensures.turn refl

pub returns-in-Idle-clause-turn : goal.returns-in-Idle-clause-turn
returns-in-Idle-clause-turn c = turn_is _ _ _ _ _ _ _ _ Idle c.in-Idle.ensures.turn refl

pub returns-in-Made-None-clause-stepped : goal.returns-in-Made-None-clause-stepped
returns-in-Made-None-clause-stepped c =
    let old = c.args.core.now in
    let new = c.slot.new.self in
    steps_as old.home old.state new.state c.args.thread old.outbox new.outbox (Made c.in-Made-None.field-0) c.in-Made-None.ensures.turn

pub returns-in-Made-Some-clause-stepped : goal.returns-in-Made-Some-clause-stepped
returns-in-Made-Some-clause-stepped c =
    let old = c.args.core.now in
    let new = c.slot.new.self in
    steps_as old.home old.state new.state c.args.thread old.outbox new.outbox (Made c.in-Made-Some.field-0) c.in-Made-Some.ensures.turn

pub returns-in-Trapped-clause-stepped : goal.returns-in-Trapped-clause-stepped
returns-in-Trapped-clause-stepped c =
    let old = c.args.core.now in
    let new = c.slot.new.self in
    steps_as old.home old.state new.state c.args.thread old.outbox new.outbox (Trapped c.in-Trapped.kind c.in-Trapped.pos) c.in-Trapped.ensures.turn

pub returns-in-Paused-clause-stepped : goal.returns-in-Paused-clause-stepped
returns-in-Paused-clause-stepped c =
    let old = c.args.core.now in
    let new = c.slot.new.self in
    steps_as old.home old.state new.state c.args.thread old.outbox new.outbox Paused c.in-Paused.ensures.turn

pub returns-in-Idle-clause-stepped : goal.returns-in-Idle-clause-stepped
returns-in-Idle-clause-stepped c =
    let old = c.args.core.now in
    let new = c.slot.new.self in
    steps_as old.home old.state new.state c.args.thread old.outbox new.outbox Idle c.in-Idle.ensures.turn

pub returns-in-Made-None-clause-home : goal.returns-in-Made-None-clause-home
returns-in-Made-None-clause-home c = c.in-Made-None.ensures.home

pub returns-in-Made-None-clause-few : goal.returns-in-Made-None-clause-few
returns-in-Made-None-clause-few c = c.in-Made-None.ensures.few

pub returns-in-Made-None-clause-spare : goal.returns-in-Made-None-clause-spare
returns-in-Made-None-clause-spare c = c.in-Made-None.ensures.spare

pub returns-in-Made-Some-clause-home : goal.returns-in-Made-Some-clause-home
returns-in-Made-Some-clause-home c = c.in-Made-Some.ensures.home

pub returns-in-Made-Some-clause-few : goal.returns-in-Made-Some-clause-few
returns-in-Made-Some-clause-few c = c.in-Made-Some.ensures.few

pub returns-in-Made-Some-clause-spare : goal.returns-in-Made-Some-clause-spare
returns-in-Made-Some-clause-spare c = c.in-Made-Some.ensures.spare

pub returns-in-Trapped-clause-home : goal.returns-in-Trapped-clause-home
returns-in-Trapped-clause-home c = c.in-Trapped.ensures.home

pub returns-in-Trapped-clause-few : goal.returns-in-Trapped-clause-few
returns-in-Trapped-clause-few c = c.in-Trapped.ensures.few

pub returns-in-Trapped-clause-spare : goal.returns-in-Trapped-clause-spare
returns-in-Trapped-clause-spare c = c.in-Trapped.ensures.spare

pub returns-in-Paused-clause-home : goal.returns-in-Paused-clause-home
returns-in-Paused-clause-home c = c.in-Paused.ensures.home

pub returns-in-Paused-clause-few : goal.returns-in-Paused-clause-few
returns-in-Paused-clause-few c = c.in-Paused.ensures.few

pub returns-in-Paused-clause-spare : goal.returns-in-Paused-clause-spare
returns-in-Paused-clause-spare c = c.in-Paused.ensures.spare

pub returns-in-Idle-clause-home : goal.returns-in-Idle-clause-home
returns-in-Idle-clause-home c = c.in-Idle.ensures.home

pub returns-in-Idle-clause-few : goal.returns-in-Idle-clause-few
returns-in-Idle-clause-few c = c.in-Idle.ensures.few

pub returns-in-Idle-clause-spare : goal.returns-in-Idle-clause-spare
returns-in-Idle-clause-spare c = c.in-Idle.ensures.spare

pub returns-in-Made-Some-clause-len : goal.returns-in-Made-Some-clause-len
returns-in-Made-Some-clause-len c = let len = c.note.ensures.len in omega (arith, len)

pub returns-in-Made-Some-clause-capacity : goal.returns-in-Made-Some-clause-capacity
returns-in-Made-Some-clause-capacity c = c.note.ensures.capacity

pub returns-in-Made-Some-clause-none : goal.returns-in-Made-Some-clause-none
returns-in-Made-Some-clause-none c = λ same. absurd (false≢true (sym same))

pub returns-in-Trapped-clause-len : goal.returns-in-Trapped-clause-len
returns-in-Trapped-clause-len c = let len = c.note-in-Trapped.ensures.len in omega (arith, len)

pub returns-in-Trapped-clause-capacity : goal.returns-in-Trapped-clause-capacity
returns-in-Trapped-clause-capacity c = c.note-in-Trapped.ensures.capacity

pub returns-in-Trapped-clause-none : goal.returns-in-Trapped-clause-none
returns-in-Trapped-clause-none c = λ same. absurd (false≢true (sym same))

pub note-requires : goal.note-requires
note-requires c = c.requires.room

pub note-requires-in-Trapped : goal.note-requires-in-Trapped
note-requires-in-Trapped c = c.requires.room
