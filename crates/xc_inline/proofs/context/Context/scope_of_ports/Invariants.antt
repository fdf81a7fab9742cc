use Rattle.std.proofs.Common.{◌≡◌, ◌≤◌, drop, length}
use Rattle.xc_inline.specs.Contexts.{ports_from}
use Rattle.xc_inline.specs.Scopes.{scope_of}
use Rattle.xc_inline.proofs.context.Context.scope_of_ports.Given as goal

abbrev pub invariant-ports : goal.invariant-ports
invariant-ports l = (l.left ≤ length l.self.ports.now) × (scope_of l.scope ≡ ports_from l.left (drop l.left l.self.ports.now))

abbrev pub decreases-ports : goal.decreases-ports
decreases-ports l = l.left
