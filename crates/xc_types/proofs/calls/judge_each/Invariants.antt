use Rattle.std.proofs.Common.{◌≡◌, drop, map}
use Rattle.xc_tree.specs.Names.Marks as marks
use Rattle.xc_tree.specs.Trees.{argument_of}
use Rattle.xc_tree.specs.Types.Calls.{arguments}
use Rattle.xc_tree.specs.Types.Named.{named_of}
use Rattle.xc_tree.specs.Types.Sites as sites
use Rattle.xc_types.specs.Judged.{judged}
use Rattle.xc_types.specs.Checker.{saw}
use Rattle.xc_types.proofs.calls.judge_each.Given as goal

abbrev pub invariant-loop-i : goal.invariant-loop-i
invariant-loop-i l = record {
  found : saw l.initial.found (marks.each marks.of_argument (map argument_of l.args)) (sites.of_arguments (named_of l.named) l.initial.found.names l.params (map argument_of l.args)) ≡ saw l.found (marks.each marks.of_argument (map argument_of (drop l.i l.args))) (sites.of_arguments (named_of l.named) l.found.names (drop l.i l.params) (map argument_of (drop l.i l.args)));
  judged : judged l.initial.judged (arguments (named_of l.named) l.initial.found.names l.params (map argument_of l.args)) ≡ judged l.judged (arguments (named_of l.named) l.found.names (drop l.i l.params) (map argument_of (drop l.i l.args)));
}
