use Rattle.std.proofs.Common.{[], ◌∷◌, length}
use Rattle.xs_instr.specs.declared.instr.Instr.TheVariants.{Getts}
use Rattle.xs_instr.specs.declared.instr.Reg.TheVariants.{R0, R11}
use Rattle.xc_kernel.specs.Kernels.{place_of}
use Rattle.xl_expr.specs.Plans.{resource_in}
use Rattle.xl_expr.specs.Stores.{Stores}
use Rattle.xl_port.specs.Stamps.{Stamps}
use Rattle.xl_port.specs.Waits.{UsesName}
use Rattle.xl_port.proofs.Joined.{added_behind, adds_aimed, aimed_behind}
use Rattle.xl_port.proofs.Stamping.{stamps_by_parts}
use Rattle.xl_port.proofs.stamp.emit_stamp_to.Goals as goal

pub returns-clause-stamps : goal.returns-clause-stamps
returns-clause-stamps c =
    let plan = c.args.plan.now in
    let place = place_of c.args.place.now in
    let here = length c.args.e.now in
    let name = resource_in plan.ports plan.timers c.args.port in
    added_behind c.args.e.now c.emit_with_name.new.e c.emit_store.new.e (UsesName name (Getts R0 R11 ∷ []) c.args.pos here)
    (Stamps plan c.args.port place here) (Stores plan.vars place R0)
    c.in_ok-emit_with_name.ensures.adds c.in_ok-emit_store.ensures.stores
    (λ ls ms p q. stamps_by_parts plan c.args.port place c.args.pos here ls ms p q)

pub returns-clause-aimed : goal.returns-clause-aimed
returns-clause-aimed c =
    let plan = c.args.plan.now in
    aimed_behind c.args.e.now c.emit_with_name.new.e c.emit_store.new.e
    (adds_aimed (Getts R0 R11 ∷ []) ((λ size n. tt), tt) c.args.pos c.args.e.now c.emit_with_name.new.e
    (resource_in plan.ports plan.timers c.args.port) c.in_ok-emit_with_name.ensures.adds)
    c.in_ok-emit_store.ensures.aimed
