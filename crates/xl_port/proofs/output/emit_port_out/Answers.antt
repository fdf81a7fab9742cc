use Rattle.std.proofs.Common.{length, refl}
use Rattle.xc_kernel.specs.Kernels.{output_of}
use Rattle.xl_port.specs.Outputs.{DrivesPort, Outputs}
use Rattle.xl_port.specs.Stamps.{StampsTo}
use Rattle.xl_port.proofs.Joined.{added_behind, aimed_behind}
use Rattle.xl_port.proofs.output.emit_port_out.Goals as goal

pub returns-clause-outputs : goal.returns-clause-outputs
returns-clause-outputs c =
    let plan = c.args.plan.now in
    let o = output_of c.args.o.now in
    let here = length c.args.e.now in
    added_behind c.args.e.now c.emit_drive.new.e c.emit_stamp.new.e (DrivesPort plan o here) (Outputs plan o here)
    (StampsTo plan o.resource o.stamp)
    c.in_ok-emit_drive.ensures.drives c.in_ok-emit_stamp.ensures.stamps
    (λ ls ms p q. record { transfer = ls; stamp = ms; is = refl; drives = p; stamps = q })

pub returns-clause-aimed : goal.returns-clause-aimed
returns-clause-aimed c =
    aimed_behind c.args.e.now c.emit_drive.new.e c.emit_stamp.new.e c.in_ok-emit_drive.ensures.aimed c.in_ok-emit_stamp.ensures.aimed
