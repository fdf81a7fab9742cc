use Rattle.std.proofs.Common.{◌≡◌, drop}
use Rattle.xc_disjoint.specs.Uses.{use_of}
use Rattle.xc_disjoint.specs.UseTables.{uses_in}
use Rattle.xc_disjoint.proofs.UseEntries.{put_all}
use Rattle.xc_disjoint.proofs.use_tables.settle.Given as goal

abbrev pub invariant-loop-at : goal.invariant-loop-at
invariant-loop-at l = put_all (λ c s. use_of s) (uses_in l.initial.largest) l.shared.entries ≡ put_all (λ c s. use_of s) (uses_in l.largest) (drop l.at l.shared.entries)
