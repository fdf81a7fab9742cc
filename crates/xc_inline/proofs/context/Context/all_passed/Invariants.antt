use Rattle.std.proofs.Common.{◌≡◌, ◌≤◌, drop, length, map}
use Rattle.xc_tree.specs.Trees as tree
use Rattle.xc_kernel.specs.Parameters as spec
use Rattle.xc_inline.specs.Contexts.{context_of}
use Rattle.xc_inline.specs.Copied.{copy_of}
use Rattle.xc_inline.specs.Scopes.{scope_of}
use Rattle.xc_inline.proofs.context.Context.all_passed.Given as goal

abbrev pub invariant-backward : goal.invariant-backward
invariant-backward l = record {
  params : l.left ≤ length l.params;
  args : l.left ≤ length l.args;
  copied : copy_of l.entered.copied (scope_of l.entered.scope) ≡ spec.all_passed (context_of l.self) (scope_of l.scope) l.own (drop l.left l.params) (map tree.argument_of (drop l.left l.args));
}

abbrev pub decreases-backward : goal.decreases-backward
decreases-backward l = l.left
