-- The sums that the end of a run is read from.
use Rattle.xr_windows.specs.declared.merge.Totals.{Totals}
use Rattle.xs_instr.specs.declared.trace.Sight.{Sight}

-- the sums, as what is seen of all cores together
abbrev pub seen_as : Totals → Sight
seen_as totals = record { roots = totals.roots; used = totals.used; trapped = totals.trapped; ready = totals.ready; timed = totals.timed }
