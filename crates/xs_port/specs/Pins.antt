-- What is known of the pins that are kept.
use Rattle.std.specs.Prelude.{◌≡◌, ℕ, ◌+◌, ◌<◌, ◌≤◌, drop, slice_index}
use Rattle.xs_instr.specs.Ports.{pins_from}
use Rattle.xs_instr.specs.Valid.{AreGoodLines}
use Rattle.xs_port.specs.declared.pins.Pins.TheInside.{Inside}
use Rattle.xs_port.specs.State.{Outside}

-- without the pins that are kept
abbrev pub outside_of : Inside → Outside
outside_of p = record { stim = p.lines; core = p.core; clock = p.clock }

-- the lines are good, those that are not used are of later clocks, and the pins are those that the used ones set
pub record AreCurrent (p : Inside) : Type 0 where
  pub good : AreGoodLines 0 p.lines
  pub later : AreGoodLines (p.clock + 1) (drop p.used p.lines)
  pub current : (t id : ℕ) → p.clock ≤ t → id < 256 → pins_from p.lines p.core id t 0 ≡ pins_from (drop p.used p.lines) p.core id t (slice_index p.values id)
