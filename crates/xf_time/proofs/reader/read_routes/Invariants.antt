use Rattle.std.proofs.Common.{◌≡◌, ◌≤◌, ◌+◌, ◌++◌, length}
use Rattle.std.specs.Str.Lines.{lines}
use Rattle.xf_time.proofs.reader.read_routes.Given as goal
use Rattle.xf_time.specs.Bounds.{first_broken, routes_from, routes_of}

abbrev pub invariant-lines : goal.invariant-lines
invariant-lines l = record {
  room : l.number + length l.rest ≤ length l.fn.text;
  read : l.routes ++ routes_from (l.number + 1) (lines l.rest) ≡ routes_of l.fn.text;
  formed : first_broken (length l.routes) (l.number + 1) (lines l.rest) ≡ first_broken 0 1 (lines l.fn.text);
}

abbrev pub decreases-lines : goal.decreases-lines
decreases-lines l = length l.rest
