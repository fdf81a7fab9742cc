-- A thread traps on a channel's end, and its branch errs: it has received something other than what it waits for.
use Rattle.std.proofs.Common.{◌++◌, [], ◌∷◌, Some, None, refl, ap, ◌∙◌}
use Rattle.std.specs.Prelude.{slice_set}
use Rattle.xs_instr.specs.declared.trace.Record.TheVariants.{Fault}
use Rattle.xs_instr.specs.Machine.{stepped}
use Rattle.xs_instr.specs.Slot.{slot, trapped}
use Rattle.xr_simulation.specs.Runners.{home}
use Rattle.xr_simulation.specs.MatchStates.{none_rests}
use Rattle.xr_simulation.specs.Transfers.{StopsIn}
use Rattle.xr_simulation.specs.NextStep.{Errs}
use Rattle.xr_simulation.proofs.Channels.InTransfers.{IsFollowed, followed}
use Rattle.xr_simulation.proofs.Relation.Moments.{BranchAt, Moment, ThreadAt}
use Rattle.xr_simulation.proofs.OwnSteps.AnsweredTurns.{errs_answered}

module _ {moment : Moment none_rests} {thread_at : ThreadAt moment None} (branch_at : BranchAt thread_at) where
  open moment use {setting as g, roles as who, watched as w, told as x}
  open thread_at use {core as c, thread as t, state as a, runner as r}

  pub errs_followed : StopsIn r.transfer → Errs g r (record { core = a; world = x.state; hand = None }) → IsFollowed g who w x c t r a (slot (home g r) a r.thread)
  errs_followed stops h =
      followed none_rests (λ d u ne. refl) (trapped a r.thread) (Some (Fault r.core h.pos h.kind)) []
      (ap (stepped (home g r) w.machine r.core r.thread a) h.traps
      ∙ ap (λ f. Some (record { cores = slice_set w.machine.cores r.core (trapped a r.thread); links = w.machine.links; trace = w.machine.trace ++ f ∷ [] })) h.fault)
      (errs_answered branch_at stops h)
