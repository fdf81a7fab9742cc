use Rattle.std.proofs.Common.{map}
use Rattle.xc_tree.specs.Trees.{item_of}
use Rattle.xc_names.specs.Taken.{is_taken}
use Rattle.xc_names.proofs.PortRules.{PortsSoFar}
use Rattle.xc_names.proofs.ports.look_at_all.Given as goal

abbrev pub invariant-loop-item : goal.invariant-loop-item
invariant-loop-item l = PortsSoFar (map item_of l.item-items) l.item-index (is_taken l.taken) l.best
