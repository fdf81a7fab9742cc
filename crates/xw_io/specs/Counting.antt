-- Counts of calls and of refusals.
use Rattle.std.specs.Prelude.{ℕ, ◌+◌, ◌-◌, ◌^◌, List, Bool, true, false, nat_eq, nat_lt, Result, Ok, Err}
use Rattle.std.specs.List.{list_any}
use Rattle.xw_io.specs.declared.counts.Counts.{Counts}
use Rattle.xw_io.specs.declared.shelf.LoadErr.{LoadErr}
use Rattle.xw_io.specs.declared.shelf.LoadErr.TheVariants.{Missing, TooLong, Failed, Memory}
use Rattle.xw_io.specs.declared.sink.Put.{Put}
use Rattle.xw_io.specs.declared.sink.Put.TheVariants.{Took, Failed as PutFailed}

-- `raised`, by cases
abbrev pub raised_by : ℕ → Bool → ℕ
raised_by count true = count + 1
raised_by count false = count

-- a count one higher; at 2 ^ 64 - 1 it stays
abbrev pub raised : ℕ → ℕ
raised count = raised_by count (nat_lt count (2 ^ 64 - 1))

-- whether a call's number stands in a list
abbrev pub is_among : List ℕ → ℕ → Bool
is_among numbers call = list_any (λ n. nat_eq n call) numbers

-- no refusal so far
abbrev pub no_refusals : Counts
no_refusals = record { faults = 0; misses = 0; longs = 0 }

-- a refusal raises the count of its reason by one, and no other; want of memory has no count
abbrev pub counts_after : {A : Type 0} → Counts → Result A LoadErr → Counts
counts_after counts (Ok text) = counts
counts_after counts (Err Missing) = record counts { misses = raised counts.misses }
counts_after counts (Err TooLong) = record counts { longs = raised counts.longs }
counts_after counts (Err Failed) = record counts { faults = raised counts.faults }
counts_after counts (Err Memory) = counts

-- the faults after an answer: one more for a failure
abbrev pub faults_after : ℕ → Put → ℕ
faults_after faults (Took n) = faults
faults_after faults PutFailed = raised faults
