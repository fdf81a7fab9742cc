-- What an error says of a listing.
use Rattle.std.specs.Prelude.{ℕ}
use Rattle.xr_assembly.specs.declared.reader.AsmErr.{AsmErr}
use Rattle.xr_assembly.specs.declared.reader.AsmErr.TheVariants as err

-- this holds of the line and its rule, where the error is a broken rule
abbrev pub IfAsmLine : AsmErr → (ℕ → ℕ → Type 0) → Type 0
IfAsmLine (err.Line line rule) P = P line rule
IfAsmLine err.Memory P = Unit {0}
