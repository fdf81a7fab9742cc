use Rattle.std.proofs.Common.{arith}
use Rattle.std.proofs.lemmas.Grind.{common_steps}
use Rattle.xs_port.proofs.BootLemmas.{boot_ports_more, length-boot_ports}
use Rattle.xs_port.proofs.ports.booted.Goals as goal

pub loop-decl-preserved : goal.loop-decl-preserved
loop-decl-preserved c = grind (arith, common_steps, boot_ports_more, c.in_ok-push.ensures)

pub returns-clause-count : goal.returns-clause-count
returns-clause-count c = rw c.loop-decl.invariant (rw length-boot_ports (grind (arith, common_steps)))
