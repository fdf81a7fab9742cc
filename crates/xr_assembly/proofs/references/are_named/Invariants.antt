use Rattle.std.proofs.Common.{◌≡◌, true}
use Rattle.xr_assembly.proofs.references.are_named.Given as goal
use Rattle.xr_assembly.specs.References.{are_named}

-- each end so far is named
abbrev pub invariant-loop-end : goal.invariant-loop-end
invariant-loop-end l = are_named l.fn.chans l.fn.core l.end ≡ true
