use Rattle.std.proofs.Common.{[], ◌∷◌, length}
use Rattle.std.proofs.lemmas.Result.{on_ok_weaker}
use Rattle.xs_instr.specs.declared.instr.Instr.TheVariants.{In}
use Rattle.xs_instr.specs.declared.instr.Reg.TheVariants.{R0, R11}
use Rattle.xc_kernel.specs.Kernels.{input_of}
use Rattle.xl_expr.specs.Plans.{resource_in}
use Rattle.xl_port.proofs.Joined.{adds_aimed}
use Rattle.xl_select.proofs.Entering.{port_read_by_name, timer_read_by_name}
use Rattle.xl_select.proofs.entry.emit_latched.Goals as goal

pub returns-clause-of_port : goal.returns-clause-of_port
returns-clause-of_port c =
    on_ok_weaker c.emit_with_name.result
    (λ added. record {
      lines = added.lines;
      is = added.is;
      so = port_read_by_name c.args.plan.now (input_of c.args.h.now) (length c.args.e.now) added.lines added.so;
    }) c.emit_with_name.ensures.adds

pub returns-clause-of_timer : goal.returns-clause-of_timer
returns-clause-of_timer c =
    on_ok_weaker c.emit_with_name.result
    (λ added. record {
      lines = added.lines;
      is = added.is;
      so = timer_read_by_name c.args.plan.now (input_of c.args.h.now) (length c.args.e.now) added.lines added.so;
    }) c.emit_with_name.ensures.adds

pub returns-clause-aimed : goal.returns-clause-aimed
returns-clause-aimed c =
    let plan = c.args.plan.now in
    on_ok_weaker c.emit_with_name.result
    (adds_aimed (In R0 R11 ∷ []) ((λ size n. tt), tt) c.args.h.now.pos c.args.e.now c.emit_with_name.new.e
    (resource_in plan.ports plan.timers c.args.h.now.res))
    c.emit_with_name.ensures.adds
