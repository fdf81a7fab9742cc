use Rattle.std.proofs.Common.{◌≡◌, map, length}
use Rattle.std.specs.Prelude.{string_bytes}
use Rattle.xr_driver.specs.Command.{run_of}
use Rattle.xr_driver.specs.Decision.{names_of}
use Rattle.xr_driver.proofs.RunWords.{run_from}
use Rattle.xr_driver.proofs.words.run_of.Given as goal

abbrev pub invariant-words : goal.invariant-words
invariant-words l = run_of (map string_bytes l.fn.words) ≡ run_from (names_of l.operands) l.told (map string_bytes l.rest)

abbrev pub decreases-words : goal.decreases-words
decreases-words l = length l.rest
