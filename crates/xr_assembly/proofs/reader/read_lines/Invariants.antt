use Rattle.std.proofs.Common.{◌≡◌, ◌≤◌, ◌+◌, ◌++◌, length}
use Rattle.xr_assembly.proofs.reader.read_lines.Given as goal
use Rattle.xr_assembly.specs.Cuts.{parts}
use Rattle.xr_assembly.specs.Reading.{first_broken, listing_lines, start}

abbrev pub invariant-lines : goal.invariant-lines
invariant-lines l = record {
  room : l.number + length l.rest ≤ length l.fn.text;
  few : length l.lines ≤ l.number;
  read : l.lines ++ listing_lines (parts 10 l.rest) ≡ listing_lines (parts 10 l.fn.text);
  unbroken : first_broken l.here (l.number + 1) (parts 10 l.rest) ≡ first_broken start 1 (parts 10 l.fn.text);
}

abbrev pub decreases-lines : goal.decreases-lines
decreases-lines l = length l.rest
