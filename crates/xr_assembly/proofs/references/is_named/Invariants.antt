use Rattle.std.proofs.Common.{◌≡◌, length}
use Rattle.xr_assembly.proofs.references.is_named.Given as goal
use Rattle.xr_assembly.specs.References.{is_named}

-- none of the channels that were passed has the end
abbrev pub invariant-each : goal.invariant-each
invariant-each l = is_named l.rest l.fn.core l.fn.end ≡ is_named l.fn.chans l.fn.core l.fn.end

abbrev pub decreases-each : goal.decreases-each
decreases-each l = length l.rest
