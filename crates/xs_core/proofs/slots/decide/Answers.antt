use Rattle.std.proofs.Common.{◌≡◌, ◌<◌, ◌∙◌, ◌⊎◌, inl, inr, ℕ, ap, sym, length, rules}
use Rattle.xs_core.proofs.slots.decide.Goals as goal
use Rattle.xs_core.proofs.There.{there}
use Rattle.xs_core.specs.Seen.{home_of, state_of, thread_at}
use Rattle.xs_instr.specs.declared.image.Home.{Home}
use Rattle.xs_instr.specs.declared.state.CoreState.{CoreState}
use Rattle.xs_instr.specs.declared.state.Mode.{Mode}
use Rattle.xs_instr.specs.declared.state.Mode.TheVariants.{Unused, Trapped}
use Rattle.xs_instr.specs.declared.state.Thread.{Thread}
use Rattle.xs_instr.specs.Did.{Idle, is_step}
use Rattle.xs_instr.specs.Machine.{unused_thread}
use Rattle.xs_instr.specs.Slot.{turn_at, turn_of}

idle_in : (home : Home) (core : CoreState) (t : ℕ) (x : Thread) (m : Mode) → (m ≡ Unused) ⊎ (m ≡ Trapped) → turn_of home core t x m ≡ Idle
idle_in home core t x m (inl is) = ap (turn_of home core t x) is
idle_in home core t x m (inr is) = ap (turn_of home core t x) is

pub run-requires : goal.run-requires
run-requires c = record { order = c.requires.order }

pub returns-in-Running-clause-means : goal.returns-in-Running-clause-means
returns-in-Running-clause-means c =
    let home = home_of c.args.state.now in
    let core = state_of c.args.state.now in
    let t = c.args.t in
    let below : t < length c.args.state.now.threads = search rules in
    let turn =
    ap (turn_at home core t) (there c.args.state.now.threads t unused_thread below)
    ∙ ap (turn_of home core t (thread_at c.args.state.now.threads t)) c.in-Running.is in
    c.run.ensures.means ∙ sym turn

pub returns-in-Running-clause-steps : goal.returns-in-Running-clause-steps
returns-in-Running-clause-steps c =
    let home = home_of c.args.state.now in
    let core = state_of c.args.state.now in
    let t = c.args.t in
    let below : t < length c.args.state.now.threads = search rules in
    let turn =
    ap (turn_at home core t) (there c.args.state.now.threads t unused_thread below)
    ∙ ap (turn_of home core t (thread_at c.args.state.now.threads t)) c.in-Running.is in
    sym c.run.ensures.steps ∙ ap is_step (c.run.ensures.means ∙ sym turn)

pub returns-in-Running-clause-fits : goal.returns-in-Running-clause-fits
returns-in-Running-clause-fits c = c.run.ensures.fits

pub returns-in-Running-clause-room : goal.returns-in-Running-clause-room
returns-in-Running-clause-room c = c.run.ensures.room

pub returns-in-Unused-clause-means : goal.returns-in-Unused-clause-means
returns-in-Unused-clause-means c =
    let home = home_of c.args.state.now in
    let core = state_of c.args.state.now in
    let t = c.args.t in
    let below : t < length c.args.state.now.threads = search rules in
    let x = thread_at c.args.state.now.threads t in
    sym (ap (turn_at home core t) (there c.args.state.now.threads t unused_thread below) ∙ idle_in home core t x x.mode c.in-Unused.is)

pub returns-in-Waiting-clause-means : goal.returns-in-Waiting-clause-means
returns-in-Waiting-clause-means c =
    let home = home_of c.args.state.now in
    let core = state_of c.args.state.now in
    let t = c.args.t in
    let below : t < length c.args.state.now.threads = search rules in
    let turn =
    ap (turn_at home core t) (there c.args.state.now.threads t unused_thread below)
    ∙ ap (turn_of home core t (thread_at c.args.state.now.threads t)) c.in-Waiting.is in
    sym turn
