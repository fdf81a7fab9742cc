-- Lines that a call adds, and what they are.
use Rattle.std.specs.Prelude.{◌≡◌, List, ◌++◌}
use Rattle.xs_instr.specs.Lines.{Line}

pub record Adds (old new : List Line) (P : List Line → Type 0) : Type 0 where
  pub lines : List Line
  pub is : new ≡ old ++ lines
  pub so : P lines
