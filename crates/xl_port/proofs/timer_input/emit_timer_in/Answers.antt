use Rattle.std.proofs.Common.{length, refl}
use Rattle.xc_kernel.specs.Kernels.{input_of}
use Rattle.xl_expr.specs.Destinations.{WritesTo}
use Rattle.xl_port.specs.TimerInputs.{TimerInputs}
use Rattle.xl_port.specs.Waits.{TakesIn}
use Rattle.xl_port.proofs.Joined.{added_behind, aimed_behind}
use Rattle.xl_port.proofs.ReadingClock.{reads_by_parts}
use Rattle.xl_port.proofs.timer_input.emit_timer_in.Goals as goal

pub returns-clause-timer_inputs : goal.returns-clause-timer_inputs
returns-clause-timer_inputs c =
    let plan = c.args.plan.now in
    let i = input_of c.args.h.now in
    let here = length c.args.e.now in
    added_behind c.args.e.now c.emit_take.new.e c.emit_destination.new.e (TakesIn plan i here) (TimerInputs plan i here)
    (WritesTo plan.vars i.target)
    c.in_ok-emit_take.ensures.takes c.in_ok-emit_destination.ensures.writes
    (λ ls ms p q. record { transfer = ls; write = ms; is = refl; reads = reads_by_parts plan i here ls p; writes = q })

pub returns-clause-aimed : goal.returns-clause-aimed
returns-clause-aimed c =
    aimed_behind c.args.e.now c.emit_take.new.e c.emit_destination.new.e c.in_ok-emit_take.ensures.aimed
    c.in_ok-emit_destination.ensures.aimed
