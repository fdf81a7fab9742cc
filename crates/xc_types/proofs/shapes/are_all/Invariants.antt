use Rattle.std.proofs.Common.{◌≡◌, drop}
use Rattle.xc_tree.specs.Shapes.Rules.{are_all}
use Rattle.xc_types.proofs.shapes.are_all.Given as goal

abbrev pub invariant-loop-channel : goal.invariant-loop-channel
invariant-loop-channel l = are_all l.first l.channels ≡ are_all l.first (drop l.channel-index l.channels)
