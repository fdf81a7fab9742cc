-- What holds between two events.
use Rattle.std.specs.Prelude.{◌≡◌, ℕ, List, map, Some, slice_get}
use Rattle.xs_core.specs.Core.{Seen as Core}
use Rattle.xs_instr.specs.declared.image.Image.{Image}
use Rattle.xs_instr.specs.declared.image.Stim.{Stim}
use Rattle.xs_instr.specs.declared.trace.Record.{Record}
use Rattle.xs_instr.specs.Machine.{boot}
use Rattle.xs_instr.specs.Valid.{Valid}
use Rattle.xs_fabric.specs.Rooms.{IsIdle}
use Rattle.xs_fabric.specs.Rounds.{Links}
use Rattle.xs_fabric.specs.Runs.{Leads}
use Rattle.xs_fabric.specs.Seen.{home_in, homes, together}

-- so is each core
abbrev pub AreIdle : List Core → Type 0
AreIdle cores = (i : ℕ) (core : Core) → slice_get cores i ≡ Some core → IsIdle core

-- the cores are those of a valid image under a stimulus, and events from its start have led to where they are
pub record IsRunning (cores : List Core) (links : Links) (trace : List Record) : Type 0 where
  pub image : Image
  pub stim : Stim
  pub valid : Valid image
  pub of : map home_in cores ≡ homes image stim
  pub reached : Leads image stim (boot image) (together cores links trace)
  pub idle : AreIdle cores
