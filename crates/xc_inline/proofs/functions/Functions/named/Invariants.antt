use Rattle.std.proofs.Common.{◌≡◌, ◌≤◌, drop}
use Rattle.xc_kernel.specs.Programs as spec
use Rattle.xc_inline.specs.Functions.{functions_among, deepest}
use Rattle.xc_inline.proofs.functions.Functions.named.Given as goal

abbrev pub invariant-loop-function : goal.invariant-loop-function
invariant-loop-function l =
    (spec.function_named (functions_among l.self.all.items) l.name ≡ spec.function_named (functions_among (drop l.function-index l.self.all.items)) l.name)
    × (deepest (drop l.function-index l.self.all.items) ≤ deepest l.self.all.items)
