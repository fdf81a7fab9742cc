use Rattle.std.proofs.Common.{◌≡◌, drop}
use Rattle.xc_disjoint.specs.Uses.{no_shares}
use Rattle.xc_disjoint.specs.UseTables.{found, uses_in, updated_by}
use Rattle.xc_disjoint.proofs.UseEntries.{put_all}
use Rattle.xc_disjoint.proofs.use_tables.with_larger.Given as goal

abbrev pub invariant-loop-at : goal.invariant-loop-at
invariant-loop-at l =
    put_all (λ c s. updated_by l.pos s (uses_in l.branch c)) no_shares l.shared.entries ≡ put_all (λ c s. updated_by l.pos s (uses_in l.branch c)) (found l.all.entries) (drop l.at l.shared.entries)
