use Rattle.std.proofs.Common.{◌≡◌, drop, map}
use Rattle.xc_tree.specs.Shapes.Main.{are_channels}
use Rattle.xc_tree.specs.Trees.{declaration_of}
use Rattle.xc_types.proofs.main_function.are_channels.Given as goal

abbrev pub invariant-loop-d : goal.invariant-loop-d
invariant-loop-d l = are_channels (map declaration_of l.ds) ≡ are_channels (map declaration_of (drop l.d-index l.ds))
