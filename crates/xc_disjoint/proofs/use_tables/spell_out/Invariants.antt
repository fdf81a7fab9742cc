use Rattle.std.proofs.Common.{◌≡◌, drop}
use Rattle.xc_disjoint.specs.UseTables.{found}
use Rattle.xc_disjoint.proofs.UseEntries.{ones_each}
use Rattle.xc_disjoint.proofs.use_tables.spell_out.Given as goal

abbrev pub invariant-loop-at : goal.invariant-loop-at
invariant-loop-at l = ones_each (found l.initial.shared.entries) l.largest.entries.entries ≡ ones_each (found l.shared.entries) (drop l.at l.largest.entries.entries)
