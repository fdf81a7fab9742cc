use Rattle.std.proofs.Common.{◌∙◌}
use Rattle.xs_core.proofs.BitLemmas.{picked_by_bits}
use Rattle.xs_core.proofs.ready.pick.Goals as goal
use Rattle.xs_core.specs.Seen.{home_of, state_of}
use Rattle.xs_instr.specs.Events.{readiness}

pub returns : goal.returns
returns c =
    c.pick.ensures.picked
    ∙ picked_by_bits c.args.state.now.events c.args.t _ (readiness (home_of c.args.state.now) (state_of c.args.state.now)) c.pick.ensures.all
    c.ready_ports.ensures c.ready_timers.ensures c.ready_ends.ensures
