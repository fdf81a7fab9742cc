use Rattle.std.proofs.Common.{ap, sym, ◌∙◌, []}
use Rattle.xc_kernel.specs.Calls.{function_copy}
use Rattle.xc_kernel.specs.Roots as spec
use Rattle.xc_kernel.specs.Statements.{calls_copy, statement_copy}
use Rattle.xc_inline.specs.Contexts.{context_of}
use Rattle.xc_inline.specs.Copied.{copy_of}
use Rattle.xc_inline.specs.Functions.{function_of}
use Rattle.xc_inline.specs.Roots.{rooted_of}
use Rattle.xc_inline.proofs.Laws.Results.{given_on_both}
use Rattle.xc_inline.proofs.context.Context.main_root.Goals as goal

pub returns : goal.returns
returns c = given_on_both c.then_ok.result c.then_ok.ensures.value c.then_ok.ensures.done (λ made same done.
    let here = context_of c.args.self.now in
    let pos = c.args.main.now.name.pos in
    let scope = c.in_ok-scope.ensures in
    let copy = sym (ap (copy_of c.in_ok-copied.copied) scope) ∙ c.in_ok-copied.ensures ∙ ap (λ s. function_copy (statement_copy (calls_copy c.args.calls)) here s [] (function_of c.args.main.now) []) scope in
    let added = rw done at c.add_root-added.ensures in
    ap (λ r. rooted_of r here.ports) same ∙ added [] here.ports ∙ λ i. spec.and_roots (c.none-root.ensures [] i) (spec.root_of 0 pos pos (copy i)))
