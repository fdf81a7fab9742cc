use Rattle.std.proofs.Common.{arith}
use Rattle.xs_instr.proofs.Lines.{seen_length}
use Rattle.xs_instr.proofs.emitter.Emitter.here.Goals as goal

pub returns-clause-next : goal.returns-clause-next
returns-clause-next c =
    let e = seen_length _ _ _ _ c.self.invariant c.self.view_is in
    let h = c.len.ensures in
    omega (arith, e, h)

pub returns-clause-few : goal.returns-clause-few
returns-clause-few c =
    let e = seen_length _ _ _ _ c.self.invariant c.self.view_is in
    let few = c.self.invariant.few in
    omega arith
