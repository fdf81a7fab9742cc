-- Where events lead.
use Rattle.std.specs.Prelude.{◌≡◌, List, Some}
use Rattle.xs_instr.specs.declared.image.Image.{Image}
use Rattle.xs_instr.specs.declared.image.Stim.{Stim}
use Rattle.xs_instr.specs.Machine.{Event, Machine, runs}

-- some events lead from m to m'
pub record Leads (L : Image) (s : Stim) (m m' : Machine) : Type 0 where
  pub events : List Event
  pub to : runs L s m events ≡ Some m'
