-- What stands at an index of a core's code.
use Rattle.std.specs.Prelude.{◌≡◌, ℕ, Some, slice_get}
use Rattle.xs_instr.specs.declared.image.Code.{Code}
use Rattle.xs_instr.specs.declared.instr.Instr.{Instr}

abbrev pub InstrAt : Code → ℕ → Instr → Type 0
InstrAt code pc i = slice_get code.instrs pc ≡ Some i
