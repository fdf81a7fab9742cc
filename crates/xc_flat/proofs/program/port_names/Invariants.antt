use Rattle.std.proofs.Common.{◌≡◌, ◌++◌, drop, map}
use Rattle.xc_tree.specs.Trees.{program_of, item_of}
use Rattle.xc_kernel.specs.Programs.{ports}
use Rattle.xc_flat.specs.Ports.{names_among, names_of_ports}
use Rattle.xc_flat.proofs.program.port_names.Given as goal

abbrev pub invariant-loop-item : goal.invariant-loop-item
invariant-loop-item l = names_among l.names.items ++ names_of_ports (ports (map item_of (drop l.item-index l.tree.items))) ≡ names_of_ports (ports (program_of l.tree))
