use Rattle.std.proofs.Common.{◌≡◌, drop}
use Rattle.xs_fabric.specs.EndWord.{links_empty}
use Rattle.xs_fabric.proofs.link.are_empty.Given as goal

abbrev pub invariant-loop-out : goal.invariant-loop-out
invariant-loop-out l = links_empty (drop l.out-index l.links) ≡ links_empty l.links
