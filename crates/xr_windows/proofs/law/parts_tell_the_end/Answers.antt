use Rattle.xr_windows.proofs.Empty.{empty_in_the_end}
use Rattle.xr_windows.proofs.Ends.{end_is, trap_is}
use Rattle.xs_fabric.proofs.FourPeers.{valid_peers}
use Rattle.xr_windows.proofs.law.parts_tell_the_end.Goals as goal

pub returns-clause-links : goal.returns-clause-links
returns-clause-links c L s n valid some small = empty_in_the_end L s n some small (valid_peers L valid)

pub returns-clause-word : goal.returns-clause-word
returns-clause-word c L s n valid some small = end_is L s n some small (valid_peers L valid)

pub returns-clause-trapped : goal.returns-clause-trapped
returns-clause-trapped c L s n = trap_is L s n
