use Rattle.std.proofs.Common.{◌≡◌}
use Rattle.xc_tree.specs.Names.Uses.{declarations}
use Rattle.xc_names.proofs.uses.decls.Given as goal

abbrev pub invariant-loop-mark : goal.invariant-loop-mark
invariant-loop-mark l = l.decls ≡ declarations l.yielded
