use Rattle.std.proofs.Common.{◌≡◌, ◌++◌}
use Rattle.xr_generator.proofs.program.add_calls.Given as goal
use Rattle.xr_generator.specs.Generated.{call_line, lines_to}

abbrev pub invariant-loop-i : goal.invariant-loop-i
invariant-loop-i l = l.text.items ≡ l.initial.text.items ++ lines_to call_line l.i
