use Rattle.std.proofs.Common.{◌+◌, ◌*◌, ◌≤◌, drop}
use Rattle.xl_expr.specs.Measures.{depth_of, nodes_of}
use Rattle.xl_expr.specs.Operands.{operands_of}
use Rattle.xt_code.proofs.sizes.+sizes.Given as goal

abbrev pub decreases-left_behind : goal.decreases-left_behind
decreases-left_behind l = 2 * l.levels + 1

abbrev pub decreases-left_behind_place : goal.decreases-left_behind_place
decreases-left_behind_place l = 2 * l.levels

abbrev pub decreases-left_behind_all : goal.decreases-left_behind_all
decreases-left_behind_all l = 2 * l.levels + 2

-- what is left behind the items so far
abbrev pub invariant-left_behind_all-loop-x : goal.invariant-left_behind_all-loop-x
invariant-left_behind_all-loop-x l = record {
  nodes : nodes_of (operands_of l.xs) + l.rest ≤ l.left + nodes_of (operands_of (drop l.x-index l.xs));
  depth : depth_of (operands_of (drop l.x-index l.xs)) ≤ l.levels → depth_of (operands_of l.xs) ≤ l.levels;
}
