use Rattle.std.proofs.Common.{◌≡◌, drop}
use Rattle.xl_plan.specs.Users.{cores_among}
use Rattle.xl_plan.proofs.Users.{joined}
use Rattle.xl_plan.proofs.channels.cores_of_sides.Given as goal

abbrev pub invariant-loop-root : goal.invariant-loop-root
invariant-loop-root l = cores_among l.channel l.uses ≡ joined l.cores (cores_among l.channel (drop l.root-index l.uses))
