use Rattle.xc_invariants.proofs.Unbroken.{unbroken_apart, unbroken_sided}
use Rattle.xc_invariants.proofs.promised.unbroken_obeys.Goals as goal

pub returns : goal.returns
returns c = record { apart = λ K h. unbroken_apart K h; sided = λ K h. unbroken_sided K h }
