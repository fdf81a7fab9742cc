use Rattle.std.proofs.Common.{List, sym, ap, ◌∙◌}
use Rattle.xc_kernel.specs.Kernels.{input_of}
use Rattle.xl_expr.specs.declared.plan.EndPlaces.{EndPlaces}
use Rattle.xl_ends.specs.Ends.{end_at}
use Rattle.xl_ends.specs.Sides.{sides_of}
use Rattle.xl_statements.proofs.Transferred.{timer_in_emitted, received, port_in_emitted}
use Rattle.xl_statements.proofs.transfer.emit_input.Goals as goal

pub returns-in-Some-clause-code : goal.returns-in-Some-clause-code
returns-in-Some-clause-code c =
    let sides = sides_of c.args.sides.now in
    received c.emit_receive.result c.args.plan.now sides c.args.e.now c.emit_receive.new.e (input_of c.args.input.now) c.in-Chan.channel c.in-Some.end c.in-Chan.is
    (ap (λ (channels : List EndPlaces). end_at channels sides c.in-Chan.channel) (sym c.as_slice.ensures) ∙ sym c.end_at.ensures ∙ c.in-Some.is) c.emit_receive.ensures.receives c.emit_receive.ensures.aimed

pub returns-in-Port-clause-code : goal.returns-in-Port-clause-code
returns-in-Port-clause-code c =
    port_in_emitted c.emit_port_in.result c.args.plan.now (sides_of c.args.sides.now) c.args.e.now c.emit_port_in.new.e (input_of c.args.input.now)
    c.in-Port.field-0 c.in-Port.is c.emit_port_in.ensures.inputs c.emit_port_in.ensures.aimed

pub returns-in-Timer-clause-code : goal.returns-in-Timer-clause-code
returns-in-Timer-clause-code c =
    timer_in_emitted c.emit_timer_in.result c.args.plan.now (sides_of c.args.sides.now) c.args.e.now c.emit_timer_in.new.e
    (input_of c.args.input.now) c.in-Timer.field-0 c.in-Timer.is c.emit_timer_in.ensures.timer_inputs c.emit_timer_in.ensures.aimed
