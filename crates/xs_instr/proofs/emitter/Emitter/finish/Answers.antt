use Rattle.std.proofs.Common.{◌∙◌, ap, sym, map}
use Rattle.xs_instr.specs.Lines.{instr_of, pos_of}
use Rattle.xs_instr.proofs.Lines.{lines-instrs, lines-places}
use Rattle.xs_instr.proofs.emitter.Emitter.finish.Goals as goal

pub returns-clause-instrs : goal.returns-clause-instrs
returns-clause-instrs c =
    c.from_vec.ensures ∙ sym (lines-instrs _ _ _ c.self.invariant.places c.self.invariant.open_ones) ∙ ap (map instr_of) c.self.view_is

pub returns-clause-places : goal.returns-clause-places
returns-clause-places c =
    c.from_vec-2.ensures ∙ sym (lines-places _ _ _ c.self.invariant.places c.self.invariant.open_ones) ∙ ap (map pos_of) c.self.view_is
