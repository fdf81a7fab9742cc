use Rattle.std.proofs.Common.{◌∙◌}
use Rattle.xr_driver.specs.Lines.{bound_line}
use Rattle.xr_text.proofs.Draws.{◌▸◌, all_texts-more}
use Rattle.xr_driver.proofs.deliver.add_bounds.Goals as goal

pub loop-i-preserved : goal.loop-i-preserved
loop-i-preserved g c = (
  c.add_bound.ensures.same_sink ∙ c.loop-i.invariant.0,
  rw (all_texts-more bound_line c.args.numbers.now c.loop-i.i 0 c.loop-i-test.true) (c.loop-i.invariant.1 ▸ c.add_bound.ensures.drew),
)
