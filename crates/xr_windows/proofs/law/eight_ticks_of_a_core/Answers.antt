use Rattle.xr_windows.proofs.EightTicks.{eight_ticks as stands}
use Rattle.xr_windows.proofs.law.eight_ticks_of_a_core.Goals as goal

pub returns-clause-cores : goal.returns-clause-cores
returns-clause-cores c L s t n i le small li = (stands L s t n le small).cores i li

pub returns-clause-links : goal.returns-clause-links
returns-clause-links c L s t n a i le small la li = (stands L s t n le small).links a i la li
