use Rattle.std.proofs.Common.{◌≡◌, length}
use Rattle.xr_assembly.proofs.cuts.named.Given as goal
use Rattle.xr_assembly.specs.Cuts.{value_named}

-- none of those that were passed has the text
abbrev pub invariant-each : goal.invariant-each
invariant-each g l = value_named l.rest l.fn.word ≡ value_named l.fn.rows l.fn.word

abbrev pub decreases-each : goal.decreases-each
decreases-each g l = length l.rest
