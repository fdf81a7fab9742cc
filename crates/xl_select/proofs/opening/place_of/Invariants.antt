use Rattle.std.proofs.Common.{◌≡◌, ◌+◌, length}
use Rattle.xl_select.specs.OpeningCode.{place_from}
use Rattle.xl_select.proofs.opening.place_of.Given as goal

-- its place among all is that among those that are left
abbrev pub invariant-each : goal.invariant-each
invariant-each l = record {
  same : place_from 0 l.fn.seen l.fn.res ≡ place_from l.place l.rest l.fn.res;
  size : l.place + length l.rest ≡ length l.fn.seen;
}

abbrev pub decreases-each : goal.decreases-each
decreases-each l = length l.rest
