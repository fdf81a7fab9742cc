use Rattle.std.proofs.Common.{◌+◌, length, refl, subst}
use Rattle.xs_instr.specs.declared.instr.Instr.TheVariants.{Out}
use Rattle.xs_instr.specs.declared.instr.Reg.TheVariants.{R0, R11}
use Rattle.xc_kernel.specs.Kernels.{output_of}
use Rattle.xl_expr.specs.Plans.{resource_in}
use Rattle.xl_expr.specs.Works.{Evaluates}
use Rattle.xl_port.specs.Outputs.{DrivesPort}
use Rattle.xl_port.specs.Waits.{TimeEvaluates, UsesName, transfer_instrs}
use Rattle.xl_port.proofs.Driving.{DrivesValue, drives_by_parts}
use Rattle.xl_port.proofs.Joined.{added_behind, adds_aimed, aimed_behind, transfer_plain}
use Rattle.xl_port.proofs.output.emit_drive.Goals as goal

pub returns-clause-drives : goal.returns-clause-drives
returns-clause-drives c =
    let plan = c.args.plan.now in
    let o = output_of c.args.o.now in
    let here = length c.args.e.now in
    let place = resource_in plan.ports plan.timers o.resource in
    let instrs = transfer_instrs c.waits_of_time.result (Out R11 R0) in
    let sent =
    added_behind c.emit_time.new.e c.emit_expr.new.e c.emit_transfer.new.e (Evaluates plan.vars o.value R0 (length c.emit_time.new.e))
    (DrivesValue plan o (length c.emit_time.new.e)) (UsesName place instrs o.pos)
    c.in_ok-emit_expr.ensures.evaluates c.in_ok-emit_transfer.ensures.adds
    (λ ls ms p q. record {
      value = ls;
      transfer = ms;
      is = refl;
      evaluates = p;
      uses = subst (λ waits. UsesName place (transfer_instrs waits (Out R11 R0)) o.pos (length c.emit_time.new.e + length ls) ms)
          c.waits_of_time.ensures q;
    }) in
    added_behind c.args.e.now c.emit_time.new.e c.emit_transfer.new.e (TimeEvaluates plan.vars o.time here) (DrivesPort plan o here)
    (DrivesValue plan o)
    c.in_ok-emit_time.ensures.adds sent
    (λ fs xs p q. drives_by_parts plan o here fs xs p q)

pub returns-clause-aimed : goal.returns-clause-aimed
returns-clause-aimed c =
    let plan = c.args.plan.now in
    let o = output_of c.args.o.now in
    let waits = c.waits_of_time.result in
    aimed_behind c.args.e.now c.emit_time.new.e c.emit_transfer.new.e c.in_ok-emit_time.ensures.aimed
    (aimed_behind c.emit_time.new.e c.emit_expr.new.e c.emit_transfer.new.e c.in_ok-emit_expr.ensures.aimed
    (adds_aimed (transfer_instrs waits (Out R11 R0)) (transfer_plain waits (Out R11 R0) (λ size n. tt)) o.pos c.emit_expr.new.e
    c.emit_transfer.new.e
    (resource_in plan.ports plan.timers o.resource) c.in_ok-emit_transfer.ensures.adds))
