use Rattle.std.proofs.Common.{refl, sym, ◌∙◌, ap, ◌++◌, ◌∷◌, []}
use Rattle.xr_windows.proofs.Turning.{noted_at, stamp, turn_holds}
use Rattle.xr_windows.proofs.rounds.take_turn.Goals as goal
use Rattle.xs_core.specs.declared.did.Did.TheVariants.{Made, Paused, Trapped, Idle}
use Rattle.xs_instr.specs.declared.trace.Record.TheVariants.{Fault}

pub returns-in-Made-None-clause-turn : goal.returns-in-Made-None-clause-turn
returns-in-Made-None-clause-turn c p outbox0 records0 h =
    turn_holds _ _ _ _ _ _ _ _ _ h (Made c.in-Made-None.field-0) _ c.in-Made-None.ensures.turn
    (sym (ap (λ o. noted_at c.args.tick c.args.records.now.items o) c.in-Made-None.field-0-is))

pub returns-in-Made-Some-clause-turn : goal.returns-in-Made-Some-clause-turn
returns-in-Made-Some-clause-turn c p outbox0 records0 h =
    turn_holds _ _ _ _ _ _ _ _ _ h (Made c.in-Made-Some.field-0) _ c.in-Made-Some.ensures.turn
    (c.note.ensures.items ∙ sym (ap (λ o. noted_at c.args.tick c.args.records.now.items o) c.in-Made-Some.field-0-is))

pub returns-in-Trapped-clause-turn : goal.returns-in-Trapped-clause-turn
returns-in-Trapped-clause-turn c p outbox0 records0 h =
    turn_holds _ _ _ _ _ _ _ _ _ h (Trapped c.in-Trapped.kind c.in-Trapped.pos) _ c.in-Trapped.ensures.turn
    (c.note-in-Trapped.ensures.items ∙ ap (λ n. c.args.records.now.items ++ stamp c.args.tick (Fault n c.in-Trapped.pos c.in-Trapped.kind) ∷ []) (c.number-core.ensures ∙ ap (λ h. h.number) c.in-Trapped.ensures.home))

pub returns-in-Paused-clause-turn : goal.returns-in-Paused-clause-turn
returns-in-Paused-clause-turn c p outbox0 records0 h = turn_holds _ _ _ _ _ _ _ _ _ h Paused _ c.in-Paused.ensures.turn refl

pub returns-in-Idle-clause-turn : goal.returns-in-Idle-clause-turn
returns-in-Idle-clause-turn c p outbox0 records0 h = turn_holds _ _ _ _ _ _ _ _ _ h Idle _ c.in-Idle.ensures.turn refl
