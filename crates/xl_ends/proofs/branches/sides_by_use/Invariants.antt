use Rattle.std.proofs.Common.{◌≡◌, ◌++◌, [], drop, map, take}
use Rattle.xl_ends.specs.Branches.{sides_by_each}
use Rattle.xl_ends.specs.Sides.{sides_of}
use Rattle.xl_ends.proofs.branches.sides_by_use.Given as goal

abbrev pub invariant-loop-index : goal.invariant-loop-index
invariant-loop-index l =
    sides_by_each (sides_of l.sides) [] l.used ≡ map sides_of l.each ++ sides_by_each (sides_of l.sides) (take l.index l.used) (drop l.index l.used)
