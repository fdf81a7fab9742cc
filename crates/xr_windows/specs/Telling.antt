-- What a run tells.
use Rattle.std.specs.Prelude.{ℕ, ◌≡◌}
use Rattle.xr_windows.specs.declared.run.Run.{Run}
use Rattle.xs_fabric.specs.EndWord.{end_of, has_trap}
use Rattle.xs_fabric.specs.Lockstep.{lockstep}
use Rattle.xs_instr.specs.declared.image.Image.{Image}
use Rattle.xs_instr.specs.declared.image.Stim.{Stim}

-- it is what the run of n ticks in lockstep tells
pub record IsLockstep (L : Image) (s : Stim) (n : ℕ) (run : Run) : Type 0 where
  pub trace : run.trace ≡ (lockstep L s n).trace
  pub end : run.end ≡ end_of L s (lockstep L s n)
  pub trapped : run.trapped ≡ has_trap L s (lockstep L s n)
