use Rattle.std.proofs.Common.{map, length, drop, ◌∙◌}
use Rattle.xc_kernel.specs.Kernels.{statement_of}
use Rattle.xc_kernel.specs.Plain as kernel
use Rattle.xc_kernel.specs.Things.{channel, by_statements}
use Rattle.xl_ends.proofs.Marks.{front_of, marks_all}
use Rattle.xl_ends.proofs.used.used_channels.Goals as goal

pub returns : goal.returns
returns c =
    c.from_vec.ensures
    ∙ front_of c.in_ok-used.used.len c.mark_statements.new.used (drop (length c.mark_statements.new.used) c.in_ok-used.used.items)
    (c.mark_statements.auto.used ∙ c.as_mut_slice.ensures.len)
    ∙ marks_all c.args.channels (λ d. by_statements (channel d) (kernel.statements (map statement_of c.args.body.now))) c.as_mut_slice.result.now c.mark_statements.new.used
    (c.as_mut_slice.ensures.value ∙ c.in_ok-used.ensures.items_if_clones_equal (λ y e. e))
    c.mark_statements.ensures
