use Rattle.std.proofs.Common.{◌∙◌}
use Rattle.xs_instr.specs.Texts.{record_line}
use Rattle.xs_instr.specs.declared.trace.Record.{Record}
use Rattle.xs_instr.specs.declared.trace.Record.TheVariants.{Com}
use Rattle.xr_text.proofs.Draws.{◌▸◌, all_texts-more}
use Rattle.xr_driver.proofs.deliver.add_records.Goals as goal

pub loop-i-preserved : goal.loop-i-preserved
loop-i-preserved g c =
    let d : Record = Com 0 0 in (
      c.add_record.ensures.same_sink ∙ c.loop-i.invariant.0,
      rw (all_texts-more record_line c.args.records.now c.loop-i.i d c.loop-i-test.true) (c.loop-i.invariant.1 ▸ c.add_record.ensures.drew),
    )
