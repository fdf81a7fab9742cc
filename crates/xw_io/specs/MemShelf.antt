-- What a shelf in memory holds.
use Rattle.std.specs.Prelude.{ℕ, List, Bool, true, false, Result, Ok, Err}
use Rattle.xw_io.specs.Counting.{raised, is_among}
use Rattle.xw_io.specs.declared.file.File.{File}
use Rattle.xw_io.specs.declared.counts.Counts.{Counts}
use Rattle.xw_io.specs.declared.shelf.LoadErr.{LoadErr}
use Rattle.xw_io.specs.declared.shelf.LoadErr.TheVariants.{Missing, TooLong, Failed, Memory}
use Rattle.xw_io.specs.declared.memory_shelf.MemShelf.{MemShelf}

-- the files that it tells
abbrev pub files_of : MemShelf → List File
files_of shelf = shelf.files

-- the numbers, from 1, of the loads that fail
abbrev pub fails_of : MemShelf → List ℕ
fails_of shelf = shelf.fails

-- how many loads there were
abbrev pub calls_of : MemShelf → ℕ
calls_of shelf = shelf.calls

-- how often it refused, by the reason
abbrev pub counts_of : MemShelf → Counts
counts_of shelf = shelf.counts

-- whether the next load fails: it is listed
abbrev pub is_next_to_fail : MemShelf → Bool
is_next_to_fail shelf = is_among shelf.fails (raised shelf.calls)

-- whether a load answered that the file could not be read
abbrev pub has_failed : {A : Type 0} → Result A LoadErr → Bool
has_failed (Ok text) = false
has_failed (Err Missing) = false
has_failed (Err TooLong) = false
has_failed (Err Failed) = true
has_failed (Err Memory) = false
