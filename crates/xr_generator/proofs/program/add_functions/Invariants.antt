use Rattle.std.proofs.Common.{◌≡◌, ◌++◌}
use Rattle.xr_generator.proofs.program.add_functions.Given as goal
use Rattle.xr_generator.specs.Generated.{function_line, lines_to}

abbrev pub invariant-loop-i : goal.invariant-loop-i
invariant-loop-i l = l.text.items ≡ l.initial.text.items ++ lines_to function_line l.i
