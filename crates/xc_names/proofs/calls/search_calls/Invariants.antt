use Rattle.std.proofs.Common.{◌-◌, ◌^◌}
use Rattle.xc_names.proofs.Searches.{InSearch}
use Rattle.xc_names.proofs.calls.search_calls.Given as goal

abbrev pub invariant-search : goal.invariant-search
invariant-search l = InSearch l.marks l.meant l.starts l.goal l.next l.reached.keys l.best

abbrev pub decreases-search : goal.decreases-search
decreases-search l = 2 ^ 32 - l.next
