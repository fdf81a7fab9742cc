use Rattle.std.proofs.Common.{◌≡◌, drop}
use Rattle.xc_tree.specs.Names.Marks as marks
use Rattle.xc_tree.specs.Types.Sites as sites
use Rattle.xc_types.specs.Checker.{saw}
use Rattle.xc_types.proofs.program.parameters.Given as goal

abbrev pub invariant-loop-p : goal.invariant-loop-p
invariant-loop-p l =
    saw l.initial.found (marks.each marks.of_param l.params) (sites.each sites.of_parameter l.params) ≡ saw l.found (marks.each marks.of_param (drop l.p-index l.params)) (sites.each sites.of_parameter (drop l.p-index l.params))
