use Rattle.std.proofs.Common.{◌≡◌, drop, map}
use Rattle.xc_tree.specs.Plain as plain
use Rattle.xc_tree.specs.Trees as tree
use Rattle.xc_kernel.specs.Roots as spec
use Rattle.xc_kernel.specs.Statements.{calls_copy}
use Rattle.xc_inline.specs.Contexts.{context_of}
use Rattle.xc_inline.specs.Roots.{rooted_of}
use Rattle.xc_inline.specs.Scopes.{scope_of}
use Rattle.xc_inline.proofs.context.Context.branch_roots.Given as goal

abbrev pub invariant-loop-index : goal.invariant-loop-index
invariant-loop-index l =
    spec.roots_then (rooted_of l.rooted (scope_of l.scope)) (spec.branch_roots (calls_copy l.calls) l.main (plain.branches (map tree.branch_of (drop l.index l.bs))) l.index (context_of l.self))
    ≡ spec.roots_then (rooted_of l.fn.rooted (scope_of l.initial.scope)) (spec.branch_roots (calls_copy l.calls) l.main (plain.branches (map tree.branch_of l.bs)) 0 (context_of l.self))
