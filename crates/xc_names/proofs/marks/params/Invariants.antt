use Rattle.std.proofs.Common.{◌≡◌, ◌++◌, drop}
use Rattle.xc_tree.specs.Names.Marks.{each, of_param}
use Rattle.xc_names.proofs.marks.params.Given as goal

abbrev pub invariant-loop-p : goal.invariant-loop-p
invariant-loop-p l =
    l.initial.out ++ each of_param l.params ≡ l.out ++ each of_param (drop l.p-index l.params)
