-- What the calls on channel ends find and leave.
use Rattle.std.specs.Prelude.{ℕ, ◌-◌, List, drop, slice_index_or, slice_set}
use Rattle.xs_instr.specs.declared.state.ChanEnd.{ChanEnd}
use Rattle.xs_instr.specs.Ends as ends
use Rattle.xs_instr.specs.Machine.{boot_end}
use Rattle.xs_chanend.specs.declared.taken.Taken.{Taken}
use Rattle.xs_chanend.specs.declared.taken.Taken.TheVariants as taken
use Rattle.xs_chanend.specs.declared.taken.Checked1.{Checked1}
use Rattle.xs_chanend.specs.declared.taken.Checked1.TheVariants as checked

-- the end of that number, which is below the count
abbrev pub end_at : List ChanEnd → ℕ → ChanEnd
end_at all e = slice_index_or all e boot_end

-- an answer, in the machine's words
abbrev pub taken_as : Taken → ends.Taken
taken_as (taken.Word v) = ends.Word v
taken_as (taken.Control c) = ends.Control c
taken_as taken.NotYet = ends.NotYet

-- an answer, in the machine's words
abbrev pub checked_as : Checked1 → ends.Checked
checked_as checked.Passed = ends.Passed
checked_as (checked.Other k) = ends.Other k
checked_as checked.NotYet = ends.NotThere

-- the end without its first n tokens
abbrev pub without_first : ChanEnd → ℕ → ChanEnd
without_first end n = record end { tokens = drop n end.tokens }

-- the end with fewer credits
abbrev pub without_credits : ChanEnd → ℕ → ChanEnd
without_credits end n = record end { credits = end.credits - n }

-- the ends after an input of n tokens: they are taken where it found a word, and nothing is where it did not
abbrev pub after_input : List ChanEnd → ℕ → ℕ → Taken → List ChanEnd
after_input all e n (taken.Word v) = slice_set all e (without_first (end_at all e) n)
after_input all e n (taken.Control c) = all
after_input all e n taken.NotYet = all

-- the ends after a check: the token is taken where it passed, and nothing is where it did not
abbrev pub after_check : List ChanEnd → ℕ → Checked1 → List ChanEnd
after_check all e checked.Passed = slice_set all e (without_first (end_at all e) 1)
after_check all e (checked.Other k) = all
after_check all e checked.NotYet = all

-- the ends with fewer credits at one
abbrev pub after_spending : List ChanEnd → ℕ → ℕ → List ChanEnd
after_spending all e n = slice_set all e (without_credits (end_at all e) n)
