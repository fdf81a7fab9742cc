-- The stimulus's lines, used one by one.
use Rattle.std.specs.Prelude.{◌≡◌, ℕ, ◌<◌, ◌≤◌, List, slice_index}
use Rattle.xs_instr.specs.declared.image.StimLine.{StimLine}
use Rattle.xs_instr.specs.Ports.{pins_from}

-- the lines that are left say of later clocks, over the new pins, what all of them say over the old ones
pub record Used (all left : List StimLine) (core clock : ℕ) (old new : List ℕ) : Type 0 where
  pub same :
      (t id : ℕ) → clock ≤ t → id < 256 →
      pins_from all core id t (slice_index old id) ≡ pins_from left core id t (slice_index new id)
