use Rattle.std.proofs.Common.{List, sym, ap, ◌∙◌}
use Rattle.xc_kernel.specs.Kernels.{output_of}
use Rattle.xl_expr.specs.declared.plan.EndPlaces.{EndPlaces}
use Rattle.xl_ends.specs.Ends.{end_at}
use Rattle.xl_ends.specs.Sides.{sides_of}
use Rattle.xl_statements.proofs.Transferred.{put_out, sent}
use Rattle.xl_statements.proofs.transfer.emit_output.Goals as goal

pub returns-in-Port-clause-code : goal.returns-in-Port-clause-code
returns-in-Port-clause-code c =
    let o = output_of c.args.output.now in
    put_out c.emit_port_out.result c.args.plan.now (sides_of c.args.sides.now) c.args.e.now c.emit_port_out.new.e o c.in-Port.field-0 c.in-Port.is
    c.emit_port_out.ensures.outputs c.emit_port_out.ensures.aimed

pub returns-in-Some-clause-code : goal.returns-in-Some-clause-code
returns-in-Some-clause-code c =
    let sides = sides_of c.args.sides.now in
    sent c.emit_send.result c.args.plan.now sides c.args.e.now c.emit_send.new.e (output_of c.args.output.now) c.in-Chan.channel c.in-Some.end c.in-Chan.is
    (ap (λ (channels : List EndPlaces). end_at channels sides c.in-Chan.channel) (sym c.as_slice.ensures) ∙ sym c.end_at.ensures ∙ c.in-Some.is) c.emit_send.ensures.sends c.emit_send.ensures.aimed
