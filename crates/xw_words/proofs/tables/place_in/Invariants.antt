use Rattle.std.proofs.Common.{◌≡◌, drop}
use Rattle.xw_words.specs.Tables.{place_from, texts}
use Rattle.xw_words.proofs.tables.place_in.Given as goal

abbrev pub invariant-loop-k : goal.invariant-loop-k
invariant-loop-k l = place_from l.k (texts (drop l.k l.table)) l.row ≡ place_from 0 (texts l.fn.table) l.row
