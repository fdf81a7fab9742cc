use Rattle.std.proofs.Common.{◌≡◌, ◌++◌, drop}
use Rattle.xs_instr.specs.Resources.{name_of}
use Rattle.xl_plan.specs.Layout.{core_of_port, identifiers_from}
use Rattle.xl_plan.proofs.resources.port_identifiers.Given as goal

abbrev pub invariant-loop-port : goal.invariant-loop-port
invariant-loop-port l =
    identifiers_from core_of_port l.core (name_of l.core 0 0) l.ports ≡ l.all ++ identifiers_from core_of_port l.core l.next (drop l.port-index l.ports)
