use Rattle.xs_fabric.proofs.Clocks.{lockstep_clock}
use Rattle.xs_fabric.proofs.law.clocks_count_rounds.Goals as goal

pub returns : goal.returns
returns c = λ L s n d core h e. lockstep_clock L s n h d core e
