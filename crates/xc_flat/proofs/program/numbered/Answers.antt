use Rattle.std.proofs.Common.{[], ap, ◌∙◌}
use Rattle.xc_kernel.specs.Copy.{numbering_in}
use Rattle.xc_inline.specs.Contexts.{functions_of, ports_from}
use Rattle.xc_inline.specs.Roots.{rooted_by}
use Rattle.xc_flat.proofs.program.numbered.Goals as goal

pub returns : goal.returns
returns c =
    let functions = functions_of c.args.functions.now in
    let ports = ports_from 0 c.args.ports.now in
    let first = (rw c.in_ok-first.was at c.roots_by_numbers-walked.ensures) ∙ ap (rooted_by functions ports) c.none-none.ensures in
    c.in_ok-numbers.ensures [] ∙ ap (λ r. numbering_in r.made) first
