use Rattle.std.proofs.Common.{◌≡◌, drop}
use Rattle.xs_fabric.specs.EndWord.{no_items_out}
use Rattle.xs_fabric.proofs.link.are_empty_out.Given as goal

abbrev pub invariant-loop-link : goal.invariant-loop-link
invariant-loop-link l = no_items_out (drop l.link-index l.out) ≡ no_items_out l.out
