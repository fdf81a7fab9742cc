use Rattle.std.proofs.Common.{◌≡◌, ◌++◌, drop, map}
use Rattle.xc_tree.specs.Names.Marks.{each, of_argument}
use Rattle.xc_tree.specs.Trees.{argument_of}
use Rattle.xc_names.proofs.marks.arguments.Given as goal

abbrev pub invariant-loop-arg : goal.invariant-loop-arg
invariant-loop-arg l =
    l.initial.out ++ each of_argument (map argument_of l.args) ≡ l.out ++ each of_argument (map argument_of (drop l.arg-index l.args))
