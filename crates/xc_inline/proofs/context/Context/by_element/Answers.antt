use Rattle.std.proofs.Common.{ap, sym, ◌∙◌, false}
use Rattle.xc_tree.specs.Trees as tree
use Rattle.xc_kernel.specs.Context as contexts
use Rattle.xc_kernel.specs.Copy as copies
use Rattle.xc_kernel.specs.Parameters as spec
use Rattle.xc_kernel.specs.Scopes as scopes
use Rattle.xc_inline.specs.Contexts.{context_of}
use Rattle.xc_inline.proofs.Laws.Parameters.{handed_as}
use Rattle.xc_inline.proofs.Laws.Unknown.{handed_as_well, no_array}
use Rattle.xc_inline.specs.Scopes.{entity_meant, scope_of}
use Rattle.xc_inline.proofs.context.Context.by_element.Goals as goal

pub returns-in_ok-array-in-Array-2 : goal.returns-in_ok-array-in-Array-2
returns-in_ok-array-in-Array-2 c =
    let here = context_of c.args.self.now in
    let both = rw c.in_ok-array-in-Array.ensures.first at c.zip_ok-paths.ensures in
    let array = rw both.first at c.copy-array.ensures in
    let own = rw both.second at c.path_at-own.ensures in
    let test = rw c.in_ok-array-in-Array.ensures.second at c.tested-test.ensures in
    let kept = c.in_ok-array-in-Array-2.ensures.value in
    let stored = rw c.in_ok-array-in-Array-2.ensures.made at c.stored-copied.ensures in
    let slice = c.as_slice.ensures ∙ own in
    handed_as (ap (λ e. spec.by_element here (scope_of c.args.scope.now) c.args.own.now c.args.pos (tree.expression_of c.args.index.now) c.args.array_pos (entity_meant e)) (sym c.in-Array.is))
    (record {
      copy = λ behind. stored behind ∙ λ i. copies.with_variable (copies.one_statement behind (contexts.set_word here (slice i) (test i))) (contexts.word_variable here false (slice i) c.args.pos);
      entity = λ i. scopes.an_element ((ap (λ p. p.0) kept ∙ array) i) ((ap (λ p. p.1) kept ∙ own) i) c.in-Array.unsigned;
    })

pub returns-in_default : goal.returns-in_default
returns-in_default c =
    handed_as_well c.stands_for.result (no_array (context_of c.args.self.now) c.args.own.now c.args.pos (scope_of c.args.scope.now) (tree.expression_of c.args.index.now) c.args.array_pos c.args.array.now c.in_default.not-Array) c.stands_for.ensures
