use Rattle.std.proofs.Common.{◌≡◌, drop}
use Rattle.xc_disjoint.specs.Leasts.{first_among}
use Rattle.xc_disjoint.specs.Places.{rule_of_port}
use Rattle.xc_disjoint.proofs.places.first_of_ports.Given as goal

abbrev pub invariant-loop-port : goal.invariant-loop-port
invariant-loop-port l = first_among rule_of_port l.initial.best l.ports ≡ first_among rule_of_port l.best (drop l.port-index l.ports)
