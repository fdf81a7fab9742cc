-- How a run ends, told by the four parts.
use Rattle.std.specs.Prelude.{ℕ}
use Rattle.xs_instr.specs.declared.image.Image.{Image}
use Rattle.xs_instr.specs.declared.image.Stim.{Stim}
use Rattle.xs_instr.specs.declared.trace.Sight.{Sight}
use Rattle.xs_instr.specs.Machine.{home_of}
use Rattle.xs_instr.specs.Sight.{sight}
use Rattle.xs_fabric.specs.EndWord.{no_sight, sight_sum}
use Rattle.xr_windows.specs.Windows.{part, windows_of}

-- core i's sight in the end
abbrev pub last_sight : Image → Stim → ℕ → ℕ → Sight
last_sight L s n i = sight (home_of L s i) (part L s n i (windows_of n)).core

-- the sights of the four cores together
abbrev pub four_sights : Image → Stim → ℕ → Sight
four_sights L s n = sight_sum (sight_sum (sight_sum (sight_sum no_sight (last_sight L s n 0)) (last_sight L s n 1)) (last_sight L s n 2)) (last_sight L s n 3)
