use Rattle.std.proofs.Common.{ap, ◌∙◌, length}
use Rattle.std.proofs.lemmas.List.{length-replicate}
use Rattle.xc_size.proofs.Filled.{nothing_known}
use Rattle.xc_size.proofs.sizes.Sizes.new.Goals as goal

pub returns-clause-functions : goal.returns-clause-functions
returns-clause-functions c = record {
  numbers = rw c.as_slice.ensures at c.in_ok-names.ensures;
  places = ap length (c.from_vec-each.ensures ∙ c.in_ok-repeated.ensures) ∙ length-replicate _ _ ∙ c.len.ensures;
}

pub returns-clause-none : goal.returns-clause-none
returns-clause-none c = nothing_known c.args.all c.in_ok-names.names c.from_vec-each.result _ (c.from_vec-each.ensures ∙ c.in_ok-repeated.ensures)
