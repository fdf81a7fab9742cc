use Rattle.std.proofs.Common.{[], ◌∷◌, ap, sym, ◌∙◌}
use Rattle.xc_kernel.proofs.Forms.{expression-Num}
use Rattle.xc_tree.specs.Trees as tree
use Rattle.xc_kernel.specs.Context as contexts
use Rattle.xc_kernel.specs.Copy as copies
use Rattle.xc_kernel.specs.Flow as flow
use Rattle.xc_kernel.specs.Paths.{path_of_turn}
use Rattle.xc_inline.specs.Contexts.{context_of}
use Rattle.xc_inline.specs.Copied.{copy_of}
use Rattle.xc_inline.specs.Scopes.{scope_of}
use Rattle.xc_inline.proofs.Laws.Results.{given_on}
use Rattle.xc_inline.proofs.context.Context.looped_until.Goals as goal

pub loop_at-requires : goal.loop_at-requires
loop_at-requires c =
    let same = ap (λ p. p.0) c.in_ok-paths-2.ensures.value ∙ c.in_ok-paths.ensures.value in
    ap (λ p. p.turn) same ∙ c.requires ∙ sym (ap (λ p. path_of_turn p.whole) same)

pub returns : goal.returns
returns c = given_on c.loop_at.result c.loop_at.ensures (λ _ h. λ done is.
    let here = context_of c.args.self.now in
    let behind = scope_of c.args.scope.now in
    let ends = rw c.in_ok-paths.ensures.made at c.zip_ok-ends.ensures in
    let first = c.in_ok-paths.ensures.value in
    let second = c.in_ok-paths-2.ensures.value in
    let whole = ap (λ p. p.0.whole) second ∙ ap (λ p. p.whole) first in
    let done = rw ends.first at is in
    let body = ap (λ p. copy_of p.1 behind) second ∙ done in
    let test = (rw ends.second at c.word-test.ensures.value) ∙ ap (λ copy. contexts.expression here copy.scope (tree.expression_of c.args.test.now)) done in
    let last = (rw c.in_ok-paths-2.ensures.made at c.leave_unless-last.ensures) ∙ λ i. flow.leave_unless here ((c.as_slice.ensures ∙ ap (λ p. p.whole) first) i) (test i) in
    let none = c.nothing-next.ensures behind in
    h behind behind
    ∙ λ i. flow.loop_at here (whole i) (expression-Num 1 i) (flow.iteration here (whole i) (body i).code (last i ∷ [])) (copies.code_of (none i)) (copies.joined (none i) (body i)))
