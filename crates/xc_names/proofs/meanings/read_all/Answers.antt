use Rattle.std.proofs.Common.{ℕ, subst, arith}
use Rattle.xc_names.specs.Reads.{HasReadTo}
use Rattle.xc_names.proofs.meanings.read_all.Goals as goal

pub returns : goal.returns
returns c = subst (λ (k : ℕ). HasReadTo c.args.marks.now c.args.ends.now c.loop-at.walk k) (omega arith) c.loop-at.invariant
