use Rattle.std.proofs.Common.{◌≡◌, ◌≤◌, [], take, length}
use Rattle.xc_kernel.specs.Scopes as spec
use Rattle.xc_inline.specs.Scopes.{scope_of, declared_in}
use Rattle.xc_inline.proofs.scope.Scope.entity.Given as goal

abbrev pub invariant-outward : goal.invariant-outward
invariant-outward l = (l.left ≤ length l.self.names.items) × (spec.entity_of (scope_of l.self) l.name ≡ spec.entity_of (declared_in [] (take l.left l.self.names.items)) l.name)

abbrev pub decreases-outward : goal.decreases-outward
decreases-outward l = l.left
