use Rattle.std.proofs.Common.{ap, ◌∙◌}
use Rattle.xs_core.specs.Core.{Seen as Core}
use Rattle.xs_fabric.specs.Seen.{home_in, state_in}
use Rattle.xs_fabric.proofs.Added.{idle_added, mapped, on_ok, room_enough}
use Rattle.xs_fabric.proofs.cores.add_with_room.Goals as goal

pub returns-in-Ok-clause-home : goal.returns-in-Ok-clause-home
returns-in-Ok-clause-home c =
    on_ok c.push.result (mapped home_in c.args.cores.now _ c.args.core _ (ap home_in c.in-Ok.ensures.rest)) c.push.ensures.ok

pub returns-in-Ok-clause-state : goal.returns-in-Ok-clause-state
returns-in-Ok-clause-state c =
    on_ok c.push.result (mapped state_in c.args.cores.now _ c.args.core _ (ap state_in c.in-Ok.ensures.rest)) c.push.ensures.ok

pub returns-in-Ok-clause-idle : goal.returns-in-Ok-clause-idle
returns-in-Ok-clause-idle c =
    on_ok c.push.result
    (idle_added c.args.cores.now _ _ (record {
      outgoing = ap (λ (k : Core). k.outbox) c.in-Ok.ensures.rest ∙ c.requires;
      spare = room_enough _ c.in-Ok.ensures.room;
    })) c.push.ensures.ok
