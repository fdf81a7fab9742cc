use Rattle.std.proofs.Common.{◌∙◌, ◌++◌, ap, append_assoc, arith, length, length-append, refl, subst}
use Rattle.xc_kernel.specs.Kernels.{input_of}
use Rattle.xl_expr.specs.Destinations.{WritesTo}
use Rattle.xl_port.specs.Inputs.{Inputs}
use Rattle.xl_port.specs.Stamps.{StampsTo}
use Rattle.xl_port.specs.Waits.{TakesIn}
use Rattle.xl_port.proofs.Joined.{added_behind, aimed_behind}
use Rattle.xl_port.proofs.Sampling.{SamplesTo, samples_by_parts}
use Rattle.xl_port.proofs.input.emit_port_in.Goals as goal

pub returns-clause-inputs : goal.returns-clause-inputs
returns-clause-inputs c =
    let plan = c.args.plan.now in
    let i = input_of c.args.h.now in
    let old = c.args.e.now in
    let here = length old in
    let taken =
    added_behind old c.emit_take.new.e c.emit_destination.new.e (TakesIn plan i here) (SamplesTo plan i here) (WritesTo plan.vars i.target)
    c.in_ok-emit_take.ensures.takes c.in_ok-emit_destination.ensures.writes
    (λ ls ms p q. record { transfer = ls; write = ms; is = refl; samples = samples_by_parts plan i here ls p; writes = q }) in
    added_behind old c.emit_destination.new.e c.emit_stamp.new.e (SamplesTo plan i here) (Inputs plan i here)
    (StampsTo plan i.resource i.stamp)
    taken c.in_ok-emit_stamp.ensures.stamps
    (λ xs ss p q. record {
      transfer = p.transfer;
      write = p.write;
      stamp = ss;
      is = ap (λ ls. ls ++ ss) p.is ∙ append_assoc p.transfer p.write ss;
      samples = p.samples;
      writes = p.writes;
      stamps = subst (λ n. StampsTo plan i.resource i.stamp n ss) (omega (arith, ap length p.is, length-append p.transfer p.write)) q;
    })

pub returns-clause-aimed : goal.returns-clause-aimed
returns-clause-aimed c =
    aimed_behind c.args.e.now c.emit_destination.new.e c.emit_stamp.new.e
    (aimed_behind c.args.e.now c.emit_take.new.e c.emit_destination.new.e c.in_ok-emit_take.ensures.aimed
    c.in_ok-emit_destination.ensures.aimed)
    c.in_ok-emit_stamp.ensures.aimed
