use Rattle.std.proofs.Common.{◌≡◌, ◌++◌, drop, map}
use Rattle.xc_tree.specs.Trees.{program_of, item_of}
use Rattle.xc_kernel.specs.Ports.{port_use}
use Rattle.xc_kernel.specs.Programs.{ports}
use Rattle.xc_flat.proofs.program.port_uses.Given as goal

abbrev pub invariant-loop-item : goal.invariant-loop-item
invariant-loop-item l = l.ports ++ map port_use (ports (map item_of (drop l.item-index l.tree.items))) ≡ map port_use (ports (program_of l.tree))
