use Rattle.std.proofs.Common.{◌≡◌, drop}
use Rattle.xc_names.specs.Taken.{is_among, texts}
use Rattle.xc_names.proofs.ports.is_among.Given as goal

abbrev pub invariant-loop-row : goal.invariant-loop-row
invariant-loop-row l = is_among (texts (drop l.row-index l.table)) l.text ≡ is_among (texts l.table) l.text
