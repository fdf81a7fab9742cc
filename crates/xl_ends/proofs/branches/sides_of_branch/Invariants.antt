use Rattle.std.proofs.Common.{◌≡◌, ◌++◌, drop}
use Rattle.xl_ends.specs.Branches.{sides_by}
use Rattle.xl_ends.specs.Sides.{sides_of}
use Rattle.xl_ends.proofs.branches.sides_of_branch.Given as goal

abbrev pub invariant-loop-channel : goal.invariant-loop-channel
invariant-loop-channel l =
    sides_by 0 l.before l.here l.behind (sides_of l.sides) ≡ sides_of l.own ++ sides_by l.channel l.before l.here l.behind (sides_of (drop l.channel l.sides))
