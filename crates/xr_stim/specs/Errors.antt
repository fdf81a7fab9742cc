-- What an error says of a text.
use Rattle.std.specs.Prelude.{ℕ}
use Rattle.xr_stim.specs.declared.reader.StimErr.{StimErr}
use Rattle.xr_stim.specs.declared.reader.StimErr.TheVariants as err

-- this holds of the line and its rule, where the error is a broken rule
abbrev pub IfLine : StimErr → (ℕ → ℕ → Type 0) → Type 0
IfLine (err.Line line rule) P = P line rule
IfLine err.Memory P = Unit {0}
