use Rattle.std.proofs.Common.{◌≡◌, length}
use Rattle.xr_assembly.proofs.references.size_of.Given as goal
use Rattle.xr_assembly.specs.References.{size_of}

-- the core is none of those that were passed
abbrev pub invariant-each : goal.invariant-each
invariant-each l = size_of l.rest l.fn.core ≡ size_of l.fn.cores l.fn.core

abbrev pub decreases-each : goal.decreases-each
decreases-each l = length l.rest
