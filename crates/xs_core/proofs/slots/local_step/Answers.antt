use Rattle.std.proofs.Common.{◌<◌, ◌∙◌, ap, sym, length, rules}
use Rattle.std.proofs.lemmas.Option.{IfSome_then}
use Rattle.xs_core.proofs.slots.local_step.Goals as goal
use Rattle.xs_core.proofs.There.{there}
use Rattle.xs_core.specs.Seen.{home_of, state_of, thread_at}
use Rattle.xs_instr.specs.Machine.{unused_thread}
use Rattle.xs_instr.specs.Slot.{turn_at, turn_of}

pub returns-in-Running-clause-means : goal.returns-in-Running-clause-means
returns-in-Running-clause-means c =
    let home = home_of c.args.state.now in
    let core = state_of c.args.state.now in
    let t = c.args.t in
    let below : t < length c.args.state.now.threads = search rules in
    let turn =
    ap (turn_at home core t) (there c.args.state.now.threads t unused_thread below)
    ∙ ap (turn_of home core t (thread_at c.args.state.now.threads t)) c.in-Running.is in
    IfSome_then c.run_alone.result (c.run_alone.ensures.means t) (λ step row. turn ∙ sym row)

pub returns-in-Running-clause-fits : goal.returns-in-Running-clause-fits
returns-in-Running-clause-fits c = c.run_alone.ensures.fits c.args.t
