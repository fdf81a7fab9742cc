use Rattle.std.proofs.Common.{◌≡◌, replicate}
use Rattle.xs_instr.specs.Machine.{boot_end}
use Rattle.xs_chanend.proofs.ends.Ends.new.Given as goal

abbrev pub invariant-loop : goal.invariant-loop
invariant-loop l = l.all.items ≡ replicate l.counter boot_end
