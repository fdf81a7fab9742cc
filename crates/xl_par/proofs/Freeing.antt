-- FREET ends a root.
use Rattle.std.proofs.Common.{ℕ, false, [], ◌∷◌, refl, ap, ◌∙◌}
use Rattle.std.specs.Prelude.{slice_get}
use Rattle.xw_words.specs.declared.pos.Pos.{Pos}
use Rattle.xs_instr.specs.declared.instr.Instr.TheVariants.{Freet}
use Rattle.xs_instr.specs.Lines.{line}
use Rattle.xs_instr.specs.Rows.{end_row}
use Rattle.xl_expr.proofs.Ways.{turn_row}
use Rattle.xl_par.specs.Roots.{EndsRoot}

pub freet_ends : (pc : ℕ) (pos : Pos) → EndsRoot pc (line Freet pos ∷ [])
freet_ends pc pos = record {
  by = λ home t thread a st at_work untied.
      let here = at_work.here in
      turn_row home.parts.code (λ w. false) (λ w. Unit {0}) home t thread at_work.runs at_work.no_events refl a thread.pc thread.regs Freet here (ap (slice_get home.parts.code.instrs) at_work.pc_is ∙ st.0) refl
      ∙ ap (end_row a t thread) untied;
}
