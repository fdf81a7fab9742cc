use Rattle.std.proofs.Common.{◌≡◌, take}
use Rattle.xs_instr.specs.Machine.{boot_ports}
use Rattle.xs_port.proofs.ports.booted.Given as goal

abbrev pub invariant-loop-decl : goal.invariant-loop-decl
invariant-loop-decl l = l.ports ≡ boot_ports (take l.decl-index l.decls)
