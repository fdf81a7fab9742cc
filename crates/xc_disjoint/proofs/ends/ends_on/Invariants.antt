use Rattle.std.proofs.Common.{◌≡◌, ◌+◌, ◌-◌, ◌^◌, ◌≤◌, drop, map, min, sum_by}
use Rattle.xc_disjoint.specs.RootUses.{ends_at, seen_in}
use Rattle.xc_disjoint.specs.Sums.{capped}
use Rattle.xc_disjoint.specs.UseTables.{shares_in}
use Rattle.xc_disjoint.proofs.ends.ends_on.Given as goal

abbrev pub invariant-loop-root : goal.invariant-loop-root
invariant-loop-root l =
    (capped (sum_by (ends_at (shares_in l.all.among_roots) l.channels l.core) (map seen_in l.all.in_roots))
    ≡ min (l.ends + capped (sum_by (ends_at (shares_in l.all.among_roots) l.channels l.core)
    (map seen_in (drop l.root-index l.all.in_roots)))) (2 ^ 64 - 1))
    × (l.ends ≤ 2 ^ 64 - 1)
