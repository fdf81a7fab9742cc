use Rattle.std.proofs.Common.{◌≡◌, ◌-◌, length}
use Rattle.xc_tree.specs.Trees as tree
use Rattle.xc_kernel.specs.Roots as spec
use Rattle.xc_kernel.specs.Statements.{calls_copy}
use Rattle.xc_inline.specs.Contexts.{context_of}
use Rattle.xc_inline.specs.Roots.{rooted_of}
use Rattle.xc_inline.specs.Scopes.{scope_of}
use Rattle.xc_inline.proofs.context.Context.numbered_roots.Given as goal

abbrev pub invariant-loop-number : goal.invariant-loop-number
invariant-loop-number l = record {
  known : l.known ≡ length (scope_of l.initial.scope);
  scope : scope_of l.scope ≡ scope_of l.initial.scope;
  roots : spec.and_roots (rooted_of l.rooted (scope_of l.initial.scope)) (spec.numbered_roots (calls_copy l.calls) l.main (tree.branch_of l.b) l.name.text (context_of l.self) (scope_of l.initial.scope) (l.until - l.number) (l.number - l.from) l.number)
      ≡ spec.and_roots (rooted_of l.fn.rooted (scope_of l.initial.scope)) (spec.numbered_roots (calls_copy l.calls) l.main (tree.branch_of l.b) l.name.text (context_of l.self) (scope_of l.initial.scope) (l.until - l.from) 0 l.from);
}
