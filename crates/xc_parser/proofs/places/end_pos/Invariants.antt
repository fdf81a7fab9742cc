use Rattle.std.proofs.Common.{◌≡◌, ◌+◌, ◌≤◌, drop}
use Rattle.xc_tree.specs.Places.{pos_behind}
use Rattle.xc_parser.proofs.places.end_pos.Given as goal

abbrev pub invariant-loop-b : goal.invariant-loop-b
invariant-loop-b l = record {
  line : l.end.line ≤ l.b-index + 1;
  col : l.end.col ≤ l.b-index + 1;
  value : pos_behind l.end (drop l.b-index l.text) ≡ pos_behind (record { line = 1; col = 1 }) l.text;
}
