use Rattle.std.proofs.Common.{ap, sym, ◌∙◌, refl, []}
use Rattle.xc_kernel.specs.Calls.{instance_of}
use Rattle.xc_kernel.specs.Roots as spec
use Rattle.xc_kernel.specs.Statements.{calls_copy}
use Rattle.xc_inline.specs.Contexts.{context_of}
use Rattle.xc_inline.specs.Functions.{function_of}
use Rattle.xc_inline.specs.Roots.{rooted_of}
use Rattle.xc_inline.specs.Scopes.{scope_of}
use Rattle.xc_inline.proofs.Laws.Roots.{block_step, block_done, own_scope}
use Rattle.xc_inline.proofs.context.Context.roots_in_block.Goals as goal

pub loop-s-init : goal.loop-s-init
loop-s-init c =
    let here = context_of c.args.self.now in
    let f = function_of c.args.main.now in
    let scope = scope_of c.args.scope.now in
    let instance = c.in_ok-instance.ensures scope ∙ ap (instance_of here f) c.requires.ports in
    let added = rw c.in_ok-rooted.ensures.done at c.add_copy-added.ensures in
    let made = ap (λ r. rooted_of r scope) c.in_ok-rooted.ensures.value ∙ added [] scope ∙ λ i. spec.and_roots (c.none-begun.ensures [] i) (spec.no_roots (instance i)) in
    λ i. spec.roots_then (made i) (spec.block_roots (calls_copy c.args.calls) f.head.name.pos (c.in_block-block.ensures i) here)

pub loop-s-preserved : goal.loop-s-preserved
loop-s-preserved c =
    block_step (calls_copy c.args.calls) c.args.main.now.name.pos (context_of c.args.self.now) c.in_block-block.result.now c.loop-s.s-index c.s-item.result (rooted_of c.loop-s.rooted (scope_of c.loop-s.scope)) c.s-item.is c.loop-s-test.true
    (ap (λ r. rooted_of r (scope_of c.statement_roots-more.new.scope)) c.in_ok-rooted-2.ensures.value ∙ (rw c.in_ok-rooted-2.ensures.done at c.statement_roots-more.ensures)) c.loop-s.invariant

pub returns : goal.returns
returns c =
    let copies = calls_copy c.args.calls in
    let whole = sym (block_done copies c.args.main.now.name.pos (context_of c.args.self.now) c.in_block-block.result.now c.loop-s.s-index (rooted_of c.loop-s.rooted (scope_of c.loop-s.scope)) c.loop-s-test.false) ∙ c.loop-s.invariant in
    own_scope (rooted_of c.loop-s.rooted) whole (λ s. refl)
