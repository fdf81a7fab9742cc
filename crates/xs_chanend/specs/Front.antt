-- What stands at the front of one end.
use Rattle.std.specs.Prelude.{ℕ, Bool, true, false, Option, Some, None, Result, Ok, Err}
use Rattle.xs_instr.specs.declared.state.ChanEnd.{ChanEnd}
use Rattle.xs_instr.specs.declared.state.Token.{Token}
use Rattle.xs_instr.specs.Ends as ends
use Rattle.xs_chanend.specs.declared.taken.Checked1.{Checked1}
use Rattle.xs_chanend.specs.declared.taken.Checked1.TheVariants as checked
use Rattle.xs_chanend.specs.declared.end.Stop.{Stop}
use Rattle.xs_chanend.specs.declared.end.Stop.TheVariants as stop
use Rattle.xs_chanend.specs.declared.taken.Taken.{Taken}
use Rattle.xs_chanend.specs.declared.taken.Taken.TheVariants as taken
use Rattle.xs_chanend.specs.Ends.{without_first}

-- `data_of`, by cases
abbrev pub data_by : ℕ → Bool → Result ℕ Stop
data_by b true = Err (stop.Control b)
data_by b false = Ok b

-- a data token's byte, or why there is none
abbrev pub data_of : Option Token → Result ℕ Stop
data_of None = Err stop.NotYet
data_of (Some k) = data_by k.byte k.control

-- an answer, in the machine's words
abbrev pub stop_as : Stop → ends.Taken
stop_as (stop.Control c) = ends.Control c
stop_as stop.NotYet = ends.NotYet

-- the bytes of a word, or why there is none
abbrev pub found_as : Result ℕ Stop → ends.Taken
found_as (Ok v) = ends.Word v
found_as (Err s) = stop_as s

-- the end after an input of n tokens
abbrev pub end_after : ChanEnd → ℕ → Taken → ChanEnd
end_after end n (taken.Word v) = without_first end n
end_after end n (taken.Control c) = end
end_after end n taken.NotYet = end

-- the end after a check
abbrev pub end_checked : ChanEnd → Checked1 → ChanEnd
end_checked end checked.Passed = without_first end 1
end_checked end (checked.Other k) = end
end_checked end checked.NotYet = end
