-- What an error says of a text of routes.
use Rattle.std.specs.Prelude.{ℕ}
use Rattle.xf_time.specs.declared.reader.TimeErr.{TimeErr}
use Rattle.xf_time.specs.declared.reader.TimeErr.TheVariants as err

-- this holds of the line and its rule, where the error is a broken rule
abbrev pub IfLine : TimeErr → (ℕ → ℕ → Type 0) → Type 0
IfLine (err.Line line rule) P = P line rule
IfLine err.Memory P = Unit {0}
