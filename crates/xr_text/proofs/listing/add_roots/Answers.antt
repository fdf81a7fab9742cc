use Rattle.std.proofs.Common.{◌∙◌}
use Rattle.xr_text.proofs.Draws.{◌▸◌, all_texts-more}
use Rattle.xr_text.proofs.listing.add_roots.Goals as goal
use Rattle.xs_instr.specs.Texts.{root_line}
use Rattle.std.proofs.Common.{ℕ}

pub loop-i-preserved : goal.loop-i-preserved
loop-i-preserved g c =
    let d : ℕ = 0 in record {
      same_sink = c.add_number_line.ensures.same_sink ∙ c.loop-i.invariant.same_sink;
      drew = rw (all_texts-more root_line c.args.roots.now c.loop-i.i d c.loop-i-test.true) (c.loop-i.invariant.drew ▸ c.add_number_line.ensures.drew);
    }
