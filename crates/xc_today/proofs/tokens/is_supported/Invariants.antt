use Rattle.std.proofs.Common.{length}
use Rattle.xc_today.specs.Today.{IsSupported}
use Rattle.xc_today.proofs.tokens.is_supported.Given as goal

-- all are of today where those that are left are, and else not
abbrev pub invariant-each : goal.invariant-each
invariant-each l = record {
  all : IsSupported l.rest → IsSupported l.fn.toks;
  rest : IsSupported l.fn.toks → IsSupported l.rest;
}

abbrev pub decreases-each : goal.decreases-each
decreases-each l = length l.rest
