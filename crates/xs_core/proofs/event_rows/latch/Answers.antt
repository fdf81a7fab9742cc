use Rattle.std.proofs.Common.{◌≡◌, ◌<◌, ◌∙◌, List, Some, length, ap, sym, slice_get, slice_set}
use borrow.Author.Tests.{true-ltb}
use Rattle.xs_core.proofs.event_rows.latch.Goals as goal
use Rattle.xs_core.proofs.There.{there}
use Rattle.xs_core.specs.Seen.{home_of, state_of}
use Rattle.xs_instr.specs.declared.state.Timer.{Timer}
use Rattle.xs_instr.specs.Events.{latched}
use Rattle.xs_instr.specs.Ports.{port_latched_at}
use Rattle.xs_instr.specs.Timers.{timer_latched_at}
use Rattle.xs_port.specs.Ports.{no_port}
use Rattle.xs_port.specs.State.{PortsState}

pub returns-then-has-clause-latched : goal.returns-then-has-clause-latched
returns-then-has-clause-latched c =
    let s = c.args.state.now in
    let n = c.in-Port.n in
    let home = home_of s in
    let core = state_of s in
    let lt : n < length s.ports.ports = true-ltb n (length s.ports.ports) (sym c.if-has.true ∙ c.has.ensures) in
    ap (λ (q : PortsState). state_of (record s { ports = q })) c.latch.ensures.latched
    ∙ sym (ap (latched home core) c.in-Port.is ∙ ap (λ o. record core { ports = port_latched_at home core.clock core.ports n o }) (there s.ports.ports n no_port lt))

pub returns-in-Some-clause-latched : goal.returns-in-Some-clause-latched
returns-in-Some-clause-latched c =
    let s = c.args.state.now in
    let n = c.in-Timer.n in
    let timer = c.in-Some.timer in
    let core = state_of s in
    let found : slice_get s.timers n ≡ Some timer = sym (c.copied.ensures ∙ c.get.ensures) ∙ c.in-Some.is in
    ap (λ (l : List Timer). state_of (record s { timers = l })) (c.set.ensures ∙ ap (λ k. slice_set s.timers n (record timer { latch = Some k })) c.clock.ensures)
    ∙ sym (ap (latched (home_of s) core) c.in-Timer.is ∙ ap (λ o. record core { timers = timer_latched_at core.clock core.timers n o }) found)
