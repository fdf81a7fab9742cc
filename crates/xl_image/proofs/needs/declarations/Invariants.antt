use Rattle.std.proofs.Common.{◌≡◌, ◌++◌, drop, map}
use Rattle.xl_plan.specs.Planned.{ports_on}
use Rattle.xl_image.specs.Images.{decl_of}
use Rattle.xl_image.proofs.needs.declarations.Given as goal

abbrev pub invariant-loop-port : goal.invariant-loop-port
invariant-loop-port l = map decl_of (ports_on l.core l.ports) ≡ l.all ++ map decl_of (ports_on l.core (drop l.port-index l.ports))
