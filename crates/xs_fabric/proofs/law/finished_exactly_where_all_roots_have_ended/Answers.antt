use Rattle.xs_fabric.proofs.Unsynchronised.{run_finished}
use Rattle.xs_fabric.proofs.law.finished_exactly_where_all_roots_have_ended.Goals as goal

pub returns : goal.returns
returns c = λ L s events m valid run. run_finished L s events m valid run
