use Rattle.xf_time.proofs.Exits.{IsBelow}
use Rattle.xf_time.proofs.route.longest.Given as goal

abbrev pub invariant-loop-i : goal.invariant-loop-i
invariant-loop-i l = IsBelow l.code l.from l.fn.to l.backward l.i l.most
