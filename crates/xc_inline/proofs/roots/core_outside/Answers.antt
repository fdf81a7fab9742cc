use Rattle.std.proofs.Common.{ap, ◌∙◌}
use Rattle.std.specs.Option.{option_map}
use Rattle.xc_tree.specs.Trees.{place_of}
use Rattle.xc_kernel.specs.Ports.{core_of}
use Rattle.xc_inline.proofs.Laws.Results.{given_on}
use Rattle.xc_inline.proofs.roots.core_outside.Goals as goal

pub returns : goal.returns
returns c = given_on c.core_of-core.result c.core_of-core.ensures (λ _ h. h ∙ ap (λ s. core_of s (option_map place_of c.args.place.now)) c.new-none.ensures)
