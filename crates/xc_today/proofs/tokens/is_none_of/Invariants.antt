use Rattle.std.proofs.Common.{length}
use Rattle.xc_today.specs.Today.{IsNoneOf}
use Rattle.xc_today.proofs.tokens.is_none_of.Given as goal

-- it is none of all where it is none of those that are left, and else not
abbrev pub invariant-each : goal.invariant-each
invariant-each l = record {
  all : IsNoneOf l.rest l.fn.place → IsNoneOf l.fn.places l.fn.place;
  rest : IsNoneOf l.fn.places l.fn.place → IsNoneOf l.rest l.fn.place;
}

abbrev pub decreases-each : goal.decreases-each
decreases-each l = length l.rest
