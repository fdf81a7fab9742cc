-- How a kernel numbers the instances that paths name: by their places in its lists.
use Rattle.std.specs.Prelude.{ℕ, List, []}
use Rattle.xc_kernel.specs.declared.kernel.Var.{Var}
use Rattle.xc_kernel.specs.declared.kernel.Chan.{Chan}
use Rattle.xc_kernel.specs.declared.kernel.Timer.{Timer}
use Rattle.xc_kernel.specs.Paths.{Path, place_of_path, each_once}

-- The copy of a statement depends on where it stands and on what its names stand for, and not on how many statements came before. So a
-- statement in a loop has the same copy in each iteration.
pub record Numbering : Type 0 where
  pub variables : List Var
  pub channels : List Chan
  pub timers : List Timer
  pub blocks : List Path

-- the paths of instances
abbrev pub path_of_variable : Var → Path
path_of_variable v = v.path

abbrev pub path_of_channel : Chan → Path
path_of_channel c = c.path

abbrev pub path_of_timer : Timer → Path
path_of_timer t = t.path

abbrev pub path_of_block : Path → Path
path_of_block b = b

-- the numbers of paths
abbrev pub variable_number : Numbering → Path → ℕ
variable_number n path = place_of_path path_of_variable n.variables path

abbrev pub channel_number : Numbering → Path → ℕ
channel_number n path = place_of_path path_of_channel n.channels path

abbrev pub timer_number : Numbering → Path → ℕ
timer_number n path = place_of_path path_of_timer n.timers path

abbrev pub block_number : Numbering → Path → ℕ
block_number n path = place_of_path path_of_block n.blocks path

-- the numbering that has nothing yet
abbrev pub no_numbering : Numbering
no_numbering = record { variables = []; channels = []; timers = []; blocks = [] }

-- the numbering of instances in order of first sight
abbrev pub numbering_of : List Var → List Chan → List Timer → List Path → Numbering
numbering_of vs cs ts bs = record {
  variables = each_once path_of_variable vs;
  channels = each_once path_of_channel cs;
  timers = each_once path_of_timer ts;
  blocks = each_once path_of_block bs;
}
