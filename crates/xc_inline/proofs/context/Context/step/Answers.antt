use Rattle.std.proofs.Common.{false, ap, ◌∙◌}
use Rattle.xc_tree.specs.Trees as tree
use Rattle.xc_kernel.proofs.Forms.{expression-Num}
use Rattle.xc_kernel.specs.Statements as spec
use Rattle.xc_inline.specs.Contexts.{context_of}
use Rattle.xc_inline.specs.Scopes.{scope_of}
use Rattle.xc_inline.proofs.Laws.Results.{given_on}
use Rattle.xc_inline.proofs.context.Context.step.Goals as goal

pub returns : goal.returns
returns c = given_on c.update.result c.update.ensures (λ _ h.
    h
    ∙ ap (spec.update_copy (context_of c.args.self.now) (scope_of c.args.scope.now) (tree.expression_of c.args.to.now) c.args.symbol c.args.pos false) (expression-Num 1))
