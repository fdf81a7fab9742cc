use Rattle.std.proofs.Common.{◌++◌, [], ◌∷◌, ◌∙◌, ap}
use Rattle.xs_instr.specs.declared.instr.Instr.TheVariants.{Brbu}
use Rattle.xs_instr.specs.Lines.{line}
use Rattle.xt_code.proofs.Loops.{loop_lands, loop_open}
use Rattle.xt_code.proofs.statements.add_while.Goals as goal

pub land-requires : goal.land-requires
land-requires c =
    let back = c.in_ok-emit_back.ensures.code ∙ ap (λ n. c.emit_set.new.e ++ line (Brbu n) c.args.pos ∷ []) c.here-top.ensures.next in
    loop_open c.args.pos c.args.e.now c.emit_test.new.e c.emit_set.new.e c.emit_back.new.e c.in_ok-out.out.index c.in_ok-out.ensures.aimed c.in_ok-emit_set.ensures.aimed back

pub returns : goal.returns
returns c =
    let back = c.in_ok-emit_back.ensures.code ∙ ap (λ n. c.emit_set.new.e ++ line (Brbu n) c.args.pos ∷ []) c.here-top.ensures.next in
    record { aimed = loop_lands c.args.pos c.args.e.now c.emit_test.new.e c.emit_set.new.e c.emit_back.new.e c.in_ok-out.out.index c.in_ok-out.ensures.aimed c.in_ok-emit_set.ensures.aimed back c.land.new.self c.land.ensures c.requires.aimed }
