use Rattle.std.proofs.Common.{◌∙◌}
use Rattle.xr_text.proofs.Draws.{◌▸◌, code_lines-more}
use Rattle.xr_text.proofs.listing.add_code_lines.Goals as goal
use Rattle.xs_instr.specs.declared.instr.Instr.{Instr}
use Rattle.xs_instr.specs.declared.instr.Instr.TheVariants.{Add}
use Rattle.xs_instr.specs.declared.instr.Reg.TheVariants.{R0}
use Rattle.xw_words.specs.declared.pos.Pos.{Pos}

pub loop-i-preserved : goal.loop-i-preserved
loop-i-preserved g c =
    let x : Instr = Add R0 R0 R0 in
    let pos : Pos = record { line = 0; col = 0 } in record {
      same_sink = c.add_code_line.ensures.same_sink ∙ c.loop-i.invariant.same_sink;
      drew = rw (code_lines-more c.args.instrs.now c.args.places.now c.loop-i.i x pos c.requires.places c.loop-i-test.true) (c.loop-i.invariant.drew ▸ c.add_code_line.ensures.drew);
    }
