-- Which window a core hasn't run.
use Rattle.std.specs.Prelude.{ℕ, Bool, true, false, Option, Some, None, nat_eq}
use Rattle.xr_windows.specs.Windows.{windows_of}

-- `short_in`, by cases
abbrev pub short_by : ℕ → Bool → Option ℕ
short_by ran true = None
short_by ran false = Some ran

-- the first window of a run of n ticks that a core hasn't run that has run so many
abbrev pub short_in : ℕ → ℕ → Option ℕ
short_in n ran = short_by ran (nat_eq ran (windows_of n))
