use Rattle.std.proofs.Common.{◌∙◌}
use Rattle.xc_inline.proofs.Laws.Operators.{truth_by_symbol}
use Rattle.xc_inline.proofs.operators.gives_truth.Goals as goal

pub returns : goal.returns
returns c = c.contains.ensures.value ∙ truth_by_symbol c.args.symbol
