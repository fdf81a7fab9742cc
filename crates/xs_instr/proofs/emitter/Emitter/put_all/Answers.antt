use Rattle.std.proofs.Common.{◌<◌, arith, ap, length, length-append, refl, take}
use Rattle.xs_instr.specs.Lines.{at_pos}
use Rattle.xs_instr.specs.declared.instr.Instr.TheVariants.{Add}
use Rattle.xs_instr.specs.declared.instr.Reg.TheVariants.{R0}
use Rattle.xs_instr.proofs.Puts.{length-at_pos-take, puts_one}
use Rattle.xs_instr.proofs.emitter.Emitter.put_all.Goals as goal

pub put-requires : goal.put-requires
put-requires c =
    let h = length-at_pos-take c.args.pos c.args.instrs.now c.loop-instr.instr-index in
    let e = ap length c.loop-instr.invariant in
    omega (arith, h, e, length-append c.args.self.now (at_pos c.args.pos (take c.loop-instr.instr-index c.args.instrs.now)))

pub loop-instr-preserved : goal.loop-instr-preserved
loop-instr-preserved c =
    let within : c.loop-instr.instr-index < length c.args.instrs.now = omega arith in
    puts_one c.args.pos c.args.instrs.now c.loop-instr.instr-index _ (Add R0 R0 R0) c.args.self.now c.loop-instr.self c.put.new.self within refl c.loop-instr.invariant c.in_ok-put.ensures.ok
