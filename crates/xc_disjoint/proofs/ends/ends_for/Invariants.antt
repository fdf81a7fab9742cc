use Rattle.std.proofs.Common.{◌≡◌}
use Rattle.xc_disjoint.specs.RootUses.{ends_below}
use Rattle.xc_disjoint.specs.Sums.{capped}
use Rattle.xc_disjoint.specs.UseTables.{shares_in, uses_in}
use Rattle.xc_disjoint.proofs.ends.ends_for.Given as goal

abbrev pub invariant-loop-channel : goal.invariant-loop-channel
invariant-loop-channel l = l.ends ≡ capped (ends_below (shares_in l.among_roots) (uses_in l.uses) l.channel)
