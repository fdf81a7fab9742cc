use Rattle.xs_fabric.proofs.Unsynchronised.{run_trapped}
use Rattle.xs_fabric.proofs.law.trapped_only_with_a_trap.Goals as goal

pub returns : goal.returns
returns c = λ L s events m valid run h. run_trapped L s events m valid run h
