use Rattle.std.proofs.Common.{◌≡◌, drop}
use Rattle.xc_disjoint.specs.UseTables.{uses_in}
use Rattle.xc_disjoint.proofs.UseEntries.{after_entries}
use Rattle.xc_disjoint.proofs.use_tables.UseTable.follow_each.Given as goal

abbrev pub invariant-loop-at : goal.invariant-loop-at
invariant-loop-at l = after_entries (uses_in l.initial.self) l.next.entries.entries ≡ after_entries (uses_in l.self) (drop l.at l.next.entries.entries)
