use Rattle.std.proofs.Common.{◌≤◌, length}
use Rattle.xr_stim.proofs.Reading.{SoFar}
use Rattle.xr_stim.proofs.reader.read_stim.Given as goal
use Rattle.xs_instr.specs.Valid.{AreGoodLines}

abbrev pub invariant-lines : goal.invariant-lines
invariant-lines l = record {
  few : l.number ≤ 100000;
  good : AreGoodLines 0 l.lines;
  so_far : SoFar l.text l.rest l.number l.last l.lines;
}

abbrev pub decreases-lines : goal.decreases-lines
decreases-lines l = length l.rest
