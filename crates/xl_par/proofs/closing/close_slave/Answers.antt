use Rattle.std.proofs.Common.{ℕ, false, [], ◌∷◌, ◌∙◌, ap, length, refl}
use Rattle.std.specs.Prelude.{slice_get}
use Rattle.xw_words.specs.declared.pos.Pos.{Pos}
use Rattle.xs_instr.specs.declared.instr.Instr.TheVariants.{Ssync}
use Rattle.xs_instr.specs.Lines.{line}
use Rattle.xs_instr.specs.Rows.{wait_row}
use Rattle.xl_expr.proofs.Emitted.{on_err, same_extends}
use Rattle.xl_expr.proofs.GoodCode.{plain_aimed}
use Rattle.xl_expr.proofs.Ways.{turn_row}
use Rattle.xl_par.specs.Closing.{EndsSlave}
use Rattle.xl_par.proofs.closing.close_slave.Goals as goal

-- SSYNC leaves a tied thread waiting
ssync_ends : (pc : ℕ) (pos : Pos) → EndsSlave pc (line Ssync pos ∷ [])
ssync_ends pc pos = record {
  by = λ home t n thread a st at_work tied.
      let here = at_work.here in
      turn_row home.parts.code (λ w. false) (λ w. Unit {0}) home t thread at_work.runs at_work.no_events refl a thread.pc thread.regs Ssync here
      (ap (slice_get home.parts.code.instrs) at_work.pc_is ∙ st.0) refl
      ∙ ap (wait_row a t thread) tied;
}

pub returns-clause-ends : goal.returns-clause-ends
returns-clause-ends c = record {
  lines = line Ssync c.args.pos ∷ [];
  is = c.in_ok-put.ensures.ok;
  so = ssync_ends (length c.args.e.now) c.args.pos;
}

pub returns-clause-aimed : goal.returns-clause-aimed
returns-clause-aimed c = record {
  lines = line Ssync c.args.pos ∷ [];
  is = c.in_ok-put.ensures.ok;
  so = plain_aimed c.args.pos (Ssync ∷ []) (length c.args.e.now) ((λ size n. tt), tt);
}

pub returns-clause-code : goal.returns-clause-code
returns-clause-code c = c.in_ok-put.ensures.ok

pub returns-in_err-put-clause-refused : goal.returns-in_err-put-clause-refused
returns-in_err-put-clause-refused c = on_err _ _ (same_extends _ _ c.in_err-put.ensures.refused)
