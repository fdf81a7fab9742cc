-- What a shelf of the system's files counts.
use Rattle.xw_io.specs.declared.counts.Counts.{Counts}
use Rattle.xw_io.specs.declared.real_shelf.FsShelf.{FsShelf}

-- how often it refused, by the reason
abbrev pub counts_of : {R F A : Type 0} → FsShelf R F A → Counts
counts_of shelf = shelf.counts
