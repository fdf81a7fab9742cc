use Rattle.std.proofs.Common.{ap, ◌∙◌}
use Rattle.xc_tree.specs.Trees as tree
use Rattle.xc_kernel.proofs.Forms.{statement-In}
use Rattle.xc_kernel.specs.Plain as plain
use Rattle.xc_kernel.specs.Transfers as spec
use Rattle.xc_inline.specs.Contexts.{context_of}
use Rattle.xc_inline.specs.Scopes.{scope_of}
use Rattle.xc_inline.proofs.Laws.Transfers.{coded, target_code}
use Rattle.xc_inline.proofs.Laws.Results.{given_on}
use Rattle.xc_inline.proofs.context.Context.input.Goals as goal

pub returns : goal.returns
returns c = given_on c.and_statement.result c.and_statement.ensures (λ _ h.
    let here = context_of c.args.self.now in
    let scope = scope_of c.args.scope.now in
    let i = tree.input_of c.args.i.now in
    coded (spec.input_names here scope i) (target_code here scope i.target) c.in_ok-received.ensures.names
    (statement-In c.in_ok-received.received.head ∙ ap plain.input c.in_ok-received.ensures.head) (h (scope_of c.received.new.scope)))
