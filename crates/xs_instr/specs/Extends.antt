-- Lines that were held, and perhaps further ones.
use Rattle.std.specs.Prelude.{◌≡◌, List, ◌++◌}
use Rattle.xs_instr.specs.Lines.{Line}

pub record Extends (old new : List Line) : Type 0 where
  pub more : List Line
  pub is : new ≡ old ++ more
