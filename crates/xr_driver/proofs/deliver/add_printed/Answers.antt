use Rattle.std.proofs.Common.{◌∙◌}
use Rattle.xr_driver.specs.Lines.{code_section, run_output, time_output}
use Rattle.xr_text.proofs.Draws.{◌▸◌}
use Rattle.xr_driver.proofs.Given.{◌▹◌}
use Rattle.xr_driver.proofs.deliver.add_printed.Goals as goal

pub returns-in-Code-clause-drew : goal.returns-in-Code-clause-drew
unfolding code_section
returns-in-Code-clause-drew g c = rw c.in-Code.is (c.add-in-Code.ensures.drew ▸ c.add_image.ensures.drew)

pub returns-in-Bounds-clause-drew : goal.returns-in-Bounds-clause-drew
unfolding time_output
returns-in-Bounds-clause-drew g c =
    let p = c.add-in-Bounds.ensures.drew ▸ c.add_image-in-Bounds.ensures.drew ▹ c.settle.ensures.drew ▸ c.add_bounds.ensures.drew in
    rw c.in-Bounds.is (rw c.as_slice.ensures at p)

pub returns-in-Whole-clause-drew : goal.returns-in-Whole-clause-drew
unfolding run_output
returns-in-Whole-clause-drew g c =
    let p = c.add-in-Whole.ensures.drew ▸ c.add_image-in-Whole.ensures.drew ▹ c.settle-in-Whole.ensures.drew ▸ c.add-in-Whole-2.ensures.drew ▸ c.add_records.ensures.drew
    ▹ c.settle-in-Whole-2.ensures.drew ▸ c.add-in-Whole-3.ensures.drew ▸ c.add_word.ensures.drew ▸ c.add-in-Whole-4.ensures.drew in
    rw c.in-Whole.is (rw c.as_slice-in-Whole.ensures at p)

pub returns-in-Accepted-clause-same_sink : goal.returns-in-Accepted-clause-same_sink
returns-in-Accepted-clause-same_sink g c =
    c.add.ensures.same_sink

pub returns-in-Code-clause-same_sink : goal.returns-in-Code-clause-same_sink
returns-in-Code-clause-same_sink g c =
    c.add_image.ensures.same_sink ∙ c.add-in-Code.ensures.same_sink

pub returns-in-Bounds-clause-same_sink : goal.returns-in-Bounds-clause-same_sink
returns-in-Bounds-clause-same_sink g c =
    c.add_bounds.ensures.same_sink ∙ c.settle.ensures.same_sink ∙ c.add_image-in-Bounds.ensures.same_sink ∙ c.add-in-Bounds.ensures.same_sink

pub returns-in-Whole-clause-same_sink : goal.returns-in-Whole-clause-same_sink
returns-in-Whole-clause-same_sink g c =
    c.add-in-Whole-4.ensures.same_sink ∙ c.add_word.ensures.same_sink ∙ c.add-in-Whole-3.ensures.same_sink ∙ c.settle-in-Whole-2.ensures.same_sink ∙ c.add_records.ensures.same_sink ∙ c.add-in-Whole-2.ensures.same_sink ∙ c.settle-in-Whole.ensures.same_sink ∙ c.add_image-in-Whole.ensures.same_sink ∙ c.add-in-Whole.ensures.same_sink
