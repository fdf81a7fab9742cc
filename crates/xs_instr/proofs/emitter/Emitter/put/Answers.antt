use Rattle.std.proofs.Common.{false, arith}
use Rattle.xs_instr.proofs.Lines.{seen_length, even_push, seen_push}
use Rattle.xs_instr.proofs.emitter.Emitter.put.Goals as goal

pub invariant_of-self-2 : goal.invariant_of-self-2
invariant_of-self-2 c =
    even_push _ _ _ _ c.self.invariant c.self.view_is c.args.instr c.args.pos false _ _ _ c.in_ok-add.ensures.instrs c.in_ok-add.ensures.places c.in_ok-add.ensures.open_ones c.requires

pub returns-clause-ok : goal.returns-clause-ok
returns-clause-ok c =
    seen_push _ _ _ _ c.self.invariant c.self.view_is c.args.instr c.args.pos false _ _ _ c.in_ok-add.ensures.instrs c.in_ok-add.ensures.places c.in_ok-add.ensures.open_ones

pub returns-clause-index : goal.returns-clause-index
returns-clause-index c =
    let e = seen_length _ _ _ _ c.self.invariant c.self.view_is in
    let h = c.len-index.ensures in
    omega (arith, e, h)
