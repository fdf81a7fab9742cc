use Rattle.std.proofs.Common.{length, sym, subst}
use Rattle.std.specs.Prelude.{OnOk}
use Rattle.xc_kernel.specs.declared.statement.KRes.{KRes}
use Rattle.xc_kernel.specs.Kernels.{input_of}
use Rattle.xs_instr.specs.Adds.{Adds}
use Rattle.xl_select.specs.Entry.{EntersFrom}
use Rattle.xl_select.proofs.entry.open_case.Goals as goal

pub returns-in-Port-clause-enters : goal.returns-in-Port-clause-enters
returns-in-Port-clause-enters c =
    let old = c.args.e.now in
    subst (λ (res : KRes). OnOk c.open_port_case.result (Adds old c.open_port_case.new.e
    (EntersFrom c.args.plan.now (input_of c.args.h.now) c.args.end c.args.plain res (length old))))
    (sym c.in-Port.is) c.open_port_case.ensures.enters

pub returns-in-Timer-clause-enters : goal.returns-in-Timer-clause-enters
returns-in-Timer-clause-enters c =
    let old = c.args.e.now in
    subst (λ (res : KRes). OnOk c.open_timer_case.result (Adds old c.open_timer_case.new.e
    (EntersFrom c.args.plan.now (input_of c.args.h.now) c.args.end c.args.plain res (length old))))
    (sym c.in-Timer.is) c.open_timer_case.ensures.enters

pub returns-in-Chan-clause-enters : goal.returns-in-Chan-clause-enters
returns-in-Chan-clause-enters c =
    let old = c.args.e.now in
    subst (λ (res : KRes). OnOk c.emit_receive.result (Adds old c.emit_receive.new.e
    (EntersFrom c.args.plan.now (input_of c.args.h.now) c.args.end c.args.plain res (length old))))
    (sym c.in-Chan.is) c.emit_receive.ensures.receives
