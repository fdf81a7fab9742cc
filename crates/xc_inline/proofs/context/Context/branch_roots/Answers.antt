use Rattle.std.proofs.Common.{ap, sym, ◌∙◌}
use Rattle.xc_tree.specs.Trees as tree
use Rattle.xc_kernel.specs.Roots as spec
use Rattle.xc_kernel.specs.Statements.{calls_copy}
use Rattle.xc_inline.specs.Contexts.{context_of}
use Rattle.xc_inline.specs.Roots.{rooted_of}
use Rattle.xc_inline.specs.Scopes.{scope_of}
use Rattle.xc_inline.proofs.Laws.Roots.{branch_step, branches_done}
use Rattle.xc_inline.proofs.context.Context.branch_roots.Goals as goal

pub loop-index-preserved : goal.loop-index-preserved
loop-index-preserved c =
    let copies = calls_copy c.args.calls in
    let main = c.args.main in
    let here = context_of c.args.self.now in
    let b = c.index-bs-index.result in
    let before = rooted_of c.loop-index.rooted (scope_of c.loop-index.scope) in
    let context = c.in_branch.ensures.context ∙ λ i. record here { path = (c.as_slice.ensures ∙ c.in_ok-path.ensures) i } in
    branch_step copies main here c.args.bs.now c.loop-index.index b before c.index-bs-index.is c.loop-index-test.true
    (c.in_ok-added.ensures ∙ ap (λ x. spec.roots_then before (spec.branch_root copies main (tree.branch_of b) x)) context)
    c.loop-index.invariant

pub returns : goal.returns
returns c =
    let copies = calls_copy c.args.calls in
    sym (branches_done copies c.args.main (context_of c.args.self.now) c.args.bs.now c.loop-index.index (rooted_of c.loop-index.rooted (scope_of c.loop-index.scope)) c.loop-index-test.false) ∙ c.loop-index.invariant
