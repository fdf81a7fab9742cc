use Rattle.std.proofs.Common.{◌≡◌, drop, map}
use Rattle.xc_tree.specs.Plain as plain
use Rattle.xc_tree.specs.Shapes.Rules.{defaults}
use Rattle.xc_tree.specs.Trees.{case_of}
use Rattle.xc_types.specs.Checker.{with_broken_at}
use Rattle.xc_types.proofs.Defaults.{behind_first}
use Rattle.xc_types.proofs.shapes.defaults.Given as goal

abbrev pub invariant-loop-c : goal.invariant-loop-c
invariant-loop-c l =
    with_broken_at 507 (drop 1 (defaults (plain.cases (map case_of l.cs)))) l.initial.found ≡ with_broken_at 507 (behind_first l.has_default (defaults (plain.cases (map case_of (drop l.c-index l.cs))))) l.found
