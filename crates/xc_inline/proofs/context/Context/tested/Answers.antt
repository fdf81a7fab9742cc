use Rattle.std.proofs.Common.{ap, ◌∙◌, true}
use Rattle.xc_kernel.specs.Expressions.{two_operands}
use Rattle.xc_tree.specs.Symbols.{bracket}
use Rattle.xc_kernel.specs.Plain as plain
use Rattle.xc_inline.proofs.Laws.Results.{given_on}
use Rattle.xc_inline.proofs.context.Context.tested.Goals as goal

pub returns : goal.returns
returns c = given_on c.index_test.result c.index_test.ensures (λ _ h. h ∙ ap (λ e. plain.operation bracket true (two_operands e (plain.number c.args.words)) c.args.pos) c.in_ok-index.ensures.value)
