use Rattle.std.proofs.Common.{◌≡◌, ◌++◌, drop}
use Rattle.xl_statements.specs.Landing.{others_leaving}
use Rattle.xl_statements.proofs.leaving.push_others.Given as goal

abbrev pub invariant-loop-jump : goal.invariant-loop-jump
invariant-loop-jump l = l.initial.left.items ++ others_leaving l.ended l.inner ≡ l.left.items ++ others_leaving l.ended (drop l.jump-index l.inner)
