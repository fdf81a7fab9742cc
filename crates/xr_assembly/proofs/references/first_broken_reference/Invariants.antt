use Rattle.std.proofs.Common.{◌≡◌, ◌+◌, [], length}
use Rattle.xr_assembly.proofs.references.first_broken_reference.Given as goal
use Rattle.xr_assembly.specs.References.{first_broken_reference}

-- none of the lines that were passed breaks a rule
abbrev pub invariant-each : goal.invariant-each
invariant-each l = record {
  room : l.number + length l.rest ≡ length l.fn.lines;
  unbroken : first_broken_reference l.fn.image l.core l.before (l.number + 1) l.rest ≡ first_broken_reference l.fn.image 0 [] 1 l.fn.lines;
}

abbrev pub decreases-each : goal.decreases-each
decreases-each l = length l.rest
