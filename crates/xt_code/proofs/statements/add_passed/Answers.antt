use Rattle.xt_code.proofs.Loops.{over_lands, over_open}
use Rattle.xt_code.proofs.statements.add_passed.Goals as goal

pub land-requires : goal.land-requires
land-requires c = over_open c.args.pos c.args.e.now c.emit_jump.new.e c.emit_set.new.e c.in_ok-over.over.index c.in_ok-over.ensures.code c.in_ok-over.ensures.index c.in_ok-emit_set.ensures.aimed

pub returns : goal.returns
returns c = record { aimed = over_lands c.args.pos c.args.e.now c.emit_jump.new.e c.emit_set.new.e c.in_ok-over.over.index c.in_ok-over.ensures.code c.in_ok-over.ensures.index c.in_ok-emit_set.ensures.aimed c.land.new.self c.land.ensures c.requires.aimed }
