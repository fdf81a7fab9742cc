use Rattle.std.proofs.Common.{length, refl}
use Rattle.std.proofs.lemmas.Result.{on_ok_weaker}
use Rattle.xc_kernel.specs.Kernels.{input_of}
use Rattle.xl_expr.specs.Destinations.{WritesTo}
use Rattle.xl_port.proofs.Joined.{added_behind, aimed_behind}
use Rattle.xl_select.specs.Entry.{EntersTimerCase, ReadsTimerLatch}
use Rattle.xl_select.proofs.entry.open_timer_case.Goals as goal

pub returns-clause-enters : goal.returns-clause-enters
returns-clause-enters c =
    let plan = c.args.plan.now in
    let i = input_of c.args.h.now in
    let old = c.args.e.now in
    let here = length old in
    on_ok_weaker c.emit_destination.result
    (λ writes. added_behind old c.emit_latched.new.e c.emit_destination.new.e (ReadsTimerLatch plan i here) (EntersTimerCase plan i here)
    (WritesTo plan.vars i.target) c.in_ok-emit_latched.ensures.of_timer writes
    (λ ls ms p q. record { transfer = ls; write = ms; is = refl; reads = p; writes = q }))
    c.emit_destination.ensures.writes

pub returns-clause-aimed : goal.returns-clause-aimed
returns-clause-aimed c =
    on_ok_weaker c.emit_destination.result
    (λ aimed. aimed_behind c.args.e.now c.emit_latched.new.e c.emit_destination.new.e c.in_ok-emit_latched.ensures.aimed aimed)
    c.emit_destination.ensures.aimed
