use Rattle.std.proofs.Common.{◌-◌, ◌∙◌, ap, get_or, length}
use Rattle.xw_words.specs.declared.pos.Pos.{Pos}
use Rattle.xs_instr.specs.Lines.{first_pos, last_or}
use Rattle.xs_instr.proofs.Lines.{last_place}
use Rattle.xs_instr.proofs.emitter.Emitter.pos.Goals as goal

pub returns-else-places-eq0 : goal.returns-else-places-eq0
returns-else-places-eq0 c =
    let none : Pos = record { line = 0; col = 0 } in
    ap (λ ps. get_or ps (length ps - 1) none) c.as_slice-places.ensures.value
    ∙ last_place _ _ _ none c.self.invariant (λ e. c.if-places-eq0.false (ap length c.as_slice-places.ensures.value ∙ e))
    ∙ ap (last_or first_pos) c.self.view_is
