use Rattle.std.proofs.Common.{◌≡◌, drop}
use Rattle.xc_disjoint.specs.UseTables.{found, uses_in, with_ones}
use Rattle.xc_disjoint.proofs.UseEntries.{with_entries}
use Rattle.xc_disjoint.proofs.use_tables.add_each.Given as goal

abbrev pub invariant-loop-at : goal.invariant-loop-at
invariant-loop-at l =
    with_entries l.pos (with_ones (found l.initial.shared.entries) (uses_in l.largest)) l.branch.entries.entries ≡ with_entries l.pos (with_ones (found l.shared.entries) (uses_in l.largest)) (drop l.at l.branch.entries.entries)
