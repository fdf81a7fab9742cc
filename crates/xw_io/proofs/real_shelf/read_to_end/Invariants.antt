use Rattle.std.proofs.Common.{◌≤◌, vec_len}
use Rattle.xw_io.specs.Outside.{max_file}
use Rattle.xw_io.proofs.real_shelf.read_to_end.Given as goal

abbrev pub invariant-loop : goal.invariant-loop
invariant-loop g l = vec_len l.text ≤ max_file
