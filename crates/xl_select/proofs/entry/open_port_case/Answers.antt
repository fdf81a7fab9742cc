use Rattle.std.proofs.Common.{◌++◌, ◌∙◌, ap, append_assoc, arith, length, length-append, refl, subst}
use Rattle.xc_kernel.specs.Kernels.{input_of}
use Rattle.xl_expr.specs.Destinations.{WritesTo}
use Rattle.xl_port.specs.Stamps.{StampsTo}
use Rattle.xl_port.proofs.Joined.{added_behind, aimed_behind}
use Rattle.xl_select.specs.Entry.{EntersPortCase, ReadsPortLatch}
use Rattle.xl_select.proofs.Entering.{ReadsTo}
use Rattle.xl_select.proofs.entry.open_port_case.Goals as goal

pub returns-clause-enters : goal.returns-clause-enters
returns-clause-enters c =
    let plan = c.args.plan.now in
    let i = input_of c.args.h.now in
    let old = c.args.e.now in
    let here = length old in
    let read =
    added_behind old c.emit_latched.new.e c.emit_destination.new.e (ReadsPortLatch plan i here) (ReadsTo plan i here)
    (WritesTo plan.vars i.target)
    c.in_ok-emit_latched.ensures.of_port c.in_ok-emit_destination.ensures.writes
    (λ ls ms p q. record { transfer = ls; write = ms; is = refl; reads = p; writes = q }) in
    added_behind old c.emit_destination.new.e c.emit_stamp.new.e (ReadsTo plan i here) (EntersPortCase plan i here)
    (StampsTo plan i.resource i.stamp)
    read c.in_ok-emit_stamp.ensures.stamps
    (λ xs ss p q. record {
      transfer = p.transfer;
      write = p.write;
      stamp = ss;
      is = ap (λ ls. ls ++ ss) p.is ∙ append_assoc p.transfer p.write ss;
      reads = p.reads;
      writes = p.writes;
      stamps = subst (λ n. StampsTo plan i.resource i.stamp n ss) (omega (arith, ap length p.is, length-append p.transfer p.write)) q;
    })

pub returns-clause-aimed : goal.returns-clause-aimed
returns-clause-aimed c =
    aimed_behind c.args.e.now c.emit_destination.new.e c.emit_stamp.new.e
    (aimed_behind c.args.e.now c.emit_latched.new.e c.emit_destination.new.e c.in_ok-emit_latched.ensures.aimed
    c.in_ok-emit_destination.ensures.aimed)
    c.in_ok-emit_stamp.ensures.aimed
