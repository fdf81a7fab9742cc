use Rattle.std.proofs.Common.{◌≡◌, drop, map}
use Rattle.xc_tree.specs.Plain as plain
use Rattle.xc_tree.specs.Trees as tree
use Rattle.xc_kernel.specs.Roots as spec
use Rattle.xc_kernel.specs.Statements.{calls_copy}
use Rattle.xc_inline.specs.Contexts.{context_of}
use Rattle.xc_inline.specs.Functions.{function_of}
use Rattle.xc_inline.specs.Roots.{rooted_of}
use Rattle.xc_inline.specs.Scopes.{scope_of}
use Rattle.xc_inline.proofs.context.Context.roots_in_block.Given as goal

abbrev pub invariant-loop-s : goal.invariant-loop-s
invariant-loop-s l =
    spec.roots_then (rooted_of l.rooted (scope_of l.scope)) (spec.block_roots (calls_copy l.calls) l.main.name.pos (plain.statements (map tree.statement_of (drop l.s-index l.block))) (context_of l.self))
    ≡ spec.placed_roots (calls_copy l.calls) (function_of l.main) (context_of l.self)
