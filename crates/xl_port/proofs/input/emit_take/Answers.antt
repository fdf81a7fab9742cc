use Rattle.std.proofs.Common.{◌+◌, length, refl, subst}
use Rattle.xs_instr.specs.declared.instr.Instr.TheVariants.{In}
use Rattle.xs_instr.specs.declared.instr.Reg.TheVariants.{R0, R11}
use Rattle.xc_kernel.specs.Kernels.{input_of}
use Rattle.xl_expr.specs.Plans.{resource_in}
use Rattle.xl_port.specs.Timings.{timing_expression}
use Rattle.xl_port.specs.Waits.{TakesIn, TimeEvaluates, UsesName, transfer_instrs}
use Rattle.xl_port.proofs.Joined.{added_behind, adds_aimed, aimed_behind, transfer_plain}
use Rattle.xl_port.proofs.input.emit_take.Goals as goal

pub returns-clause-takes : goal.returns-clause-takes
returns-clause-takes c =
    let plan = c.args.plan.now in
    let i = input_of c.args.h.now in
    let here = length c.args.e.now in
    let place = resource_in plan.ports plan.timers i.resource in
    added_behind c.args.e.now c.emit_timing.new.e c.emit_transfer.new.e
    (TimeEvaluates plan.vars (timing_expression i.time i.condition) here)
    (TakesIn plan i here)
    (UsesName place (transfer_instrs c.waits_of.result (In R0 R11)) i.pos)
    c.in_ok-emit_timing.ensures.adds c.in_ok-emit_transfer.ensures.adds
    (λ ls ms p q. record {
      timing = ls;
      transfer = ms;
      is = refl;
      evaluates = p;
      uses = subst (λ waits. UsesName place (transfer_instrs waits (In R0 R11)) i.pos (here + length ls) ms) c.waits_of.ensures q;
    })

pub returns-clause-aimed : goal.returns-clause-aimed
returns-clause-aimed c =
    let plan = c.args.plan.now in
    let i = input_of c.args.h.now in
    let instrs = transfer_instrs c.waits_of.result (In R0 R11) in
    aimed_behind c.args.e.now c.emit_timing.new.e c.emit_transfer.new.e c.in_ok-emit_timing.ensures.aimed
    (adds_aimed instrs (transfer_plain c.waits_of.result (In R0 R11) (λ size n. tt)) i.pos c.emit_timing.new.e c.emit_transfer.new.e
    (resource_in plan.ports plan.timers i.resource) c.in_ok-emit_transfer.ensures.adds)
