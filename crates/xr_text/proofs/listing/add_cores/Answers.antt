use Rattle.std.proofs.Common.{◌∙◌}
use Rattle.xr_text.proofs.Draws.{◌▸◌, all_texts-more, good_core-at}
use Rattle.xr_text.proofs.listing.add_cores.Goals as goal
use Rattle.xs_instr.specs.Texts.{core_lines}

pub loop-i-preserved : goal.loop-i-preserved
loop-i-preserved g c = record {
  same_sink = c.add_core.ensures.same_sink ∙ c.loop-i.invariant.same_sink;
  drew = rw (all_texts-more core_lines c.args.cores.now c.loop-i.i c.index-cores-i.result c.loop-i-test.true) (c.loop-i.invariant.drew ▸ rw (← c.index-cores-i.is) c.add_core.ensures.drew);
}

pub add_core-requires : goal.add_core-requires
add_core-requires g c = rw c.index-cores-i.is (good_core-at 0 c.args.cores.now c.loop-i.i _ c.requires c.loop-i-test.true)
