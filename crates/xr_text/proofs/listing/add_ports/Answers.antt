use Rattle.std.proofs.Common.{◌∙◌}
use Rattle.xr_text.proofs.Draws.{◌▸◌, all_texts-more}
use Rattle.xr_text.proofs.listing.add_ports.Goals as goal
use Rattle.xs_instr.specs.Texts.{port_line}
use Rattle.xs_instr.specs.declared.image.Dir.TheVariants.{In}
use Rattle.xs_instr.specs.declared.image.PortDecl.{PortDecl}

pub loop-i-preserved : goal.loop-i-preserved
loop-i-preserved g c =
    let d : PortDecl = record { port = 0; dir = In } in record {
      same_sink = c.add_port_line.ensures.same_sink ∙ c.loop-i.invariant.same_sink;
      drew = rw (all_texts-more port_line c.args.ports.now c.loop-i.i d c.loop-i-test.true) (c.loop-i.invariant.drew ▸ c.add_port_line.ensures.drew);
    }
