-- The instructions of a protocol take its steps, whatever stands at the end.
use Rattle.std.proofs.Common.{◌≡◌, ℕ, ◌+◌, Bool, true, false, [], ◌∷◌, length, Some, refl, ap, ◌∙◌, subst, arith}
use Rattle.std.specs.Prelude.{slice_get}
use Rattle.xw_words.specs.declared.pos.Pos.{Pos}
use Rattle.xs_instr.specs.declared.image.Home.{Home}
use Rattle.xs_instr.specs.declared.instr.Instr.{Instr}
use Rattle.xs_instr.specs.declared.instr.Instr.TheVariants.{Chkct, In, Out, Outct}
use Rattle.xs_instr.specs.declared.instr.Reg.{Reg}
use Rattle.xs_instr.specs.declared.instr.Reg.TheVariants.{R11}
use Rattle.xs_instr.specs.declared.state.ChanEnd.{ChanEnd}
use Rattle.xs_instr.specs.declared.state.CoreState.{CoreState}
use Rattle.xs_instr.specs.declared.state.Mode.TheVariants.{Running}
use Rattle.xs_instr.specs.declared.state.Regs.{Regs}
use Rattle.xs_instr.specs.declared.state.Thread.{Thread}
use Rattle.xs_instr.specs.declared.trace.Record.TheVariants.{Fault}
use Rattle.xs_instr.specs.declared.trace.Trap.TheVariants.{Mismatch}
use Rattle.xs_instr.specs.Did.{map_did}
use Rattle.xs_instr.specs.Ends.{control_token, ins_control, ins_word, outs, word_tokens}
use Rattle.xs_instr.specs.Lines.{at_pos}
use Rattle.xs_instr.specs.OwnSteps.{IsApart, StandAt}
use Rattle.xs_instr.specs.Registers.{reg_get, reg_set}
use Rattle.xs_instr.specs.Resources.{AnEnd, named, on_end, usable}
use Rattle.xs_instr.specs.Rows.{gets_with, goes_with, in_row, out_row, put_ends, row}
use Rattle.xs_instr.specs.Slot.{is_waiteu, pos_at, pos_where, slot}
use Rattle.xl_expr.specs.Works.{same_reg}
use Rattle.xl_expr.proofs.Registers.{reg_other}
use Rattle.xl_expr.proofs.Ways.{turn_row}
use Rattle.xl_chan.specs.Protocols.{ACK, Act, Acts, ActsAll, Does, END, at_index, input_acts, input_instrs, output_acts, output_instrs, question_acts, question_instrs, sends, takes, takes_word}

module _ (home : Home) (t e : ℕ) (thread : Thread) (pos : Pos) (runs : thread.mode ≡ Running) (quiet : thread.event_bit ≡ false) where
  -- an instruction at an index, where a register names the end
  module _ (index : ℕ) (regs : Regs) (r : Reg) (names : named home.number (reg_get regs r) ≡ AnEnd e) where
    abbrev th : Thread
    th = at_index thread index regs

    -- its row is the step
    acts_by : (act : Act) (i : Instr) → slice_get home.parts.code.instrs index ≡ Some i → slice_get home.parts.code.«at» index ≡ Some pos → is_waiteu (Some i) ≡ false → ((c : CoreState) (end : ChanEnd) → slice_get c.ends e ≡ Some end → slot home c t ≡ row home c t th i → Does home t e thread pos act index regs c end) → Acts home t e thread pos act index regs
    acts_by act i stands place no_event turn = record {
      by = λ c end here there. turn c end there (turn_row home.parts.code (λ w. false) (IsApart 0) home t thread runs quiet refl c index regs i here stands no_event);
      faults = λ c here. ap (λ x. Fault home.number (pos_at home x) Mismatch) here ∙ ap (λ x. Fault home.number (pos_where x) Mismatch) place;
    }

    pub acts_word : (from : Reg) (v : ℕ) → reg_get regs from ≡ v → slice_get home.parts.code.instrs index ≡ Some (Out r from) → slice_get home.parts.code.«at» index ≡ Some pos → Acts home t e thread pos (sends (word_tokens v)) index regs
    acts_word from v holds stands place = acts_by (sends (word_tokens v)) (Out r from) stands place refl (λ c end there turn.
        turn
        ∙ ap (out_row home c t th (reg_get regs from)) names
        ∙ ap (λ x. map_did (goes_with put_ends c t th) (usable (outs home c.clock (word_tokens (reg_get regs from)) c.ends e) x)) there
        ∙ ap (λ n. map_did (goes_with put_ends c t th) (outs home c.clock (word_tokens n) c.ends e end)) holds)

    pub acts_control : (control : ℕ) → slice_get home.parts.code.instrs index ≡ Some (Outct r control) → slice_get home.parts.code.«at» index ≡ Some pos → Acts home t e thread pos (sends (control_token control ∷ [])) index regs
    acts_control control stands place = acts_by (sends (control_token control ∷ [])) (Outct r control) stands place refl (λ c end there turn.
        turn
        ∙ ap (λ n. map_did (goes_with put_ends c t th) (on_end c (outs home c.clock (control_token control ∷ []) c.ends) n)) names
        ∙ ap (λ x. map_did (goes_with put_ends c t th) (usable (outs home c.clock (control_token control ∷ []) c.ends e) x)) there)

    pub acts_input : (to : Reg) → slice_get home.parts.code.instrs index ≡ Some (In to r) → slice_get home.parts.code.«at» index ≡ Some pos → Acts home t e thread pos (takes_word to) index regs
    acts_input to stands place = acts_by (takes_word to) (In to r) stands place refl (λ c end there turn.
        turn
        ∙ ap (in_row home c t th to (reg_get regs r)) names
        ∙ ap (λ x. map_did (gets_with put_ends c t th to) (usable (ins_word home c.clock c.ends e) x)) there)

    pub acts_check : (control : ℕ) → slice_get home.parts.code.instrs index ≡ Some (Chkct r control) → slice_get home.parts.code.«at» index ≡ Some pos → Acts home t e thread pos (takes control) index regs
    acts_check control stands place = acts_by (takes control) (Chkct r control) stands place refl (λ c end there turn.
        turn
        ∙ ap (λ n. map_did (goes_with put_ends c t th) (on_end c (ins_control home c.clock control c.ends) n)) names
        ∙ ap (λ x. map_did (goes_with put_ends c t th) (usable (ins_control home c.clock control c.ends e) x)) there)

  -- all of a question's, where r11 names the end
  pub question_by : (control : ℕ) (asks : Bool) (Q : ℕ → Regs → Type 0) (index : ℕ) (regs : Regs) → named home.number regs.r11 ≡ AnEnd e →
      StandAt home.parts.code index (at_pos pos (question_instrs control asks)) →
      Q (index + length (at_pos pos (question_instrs control asks))) regs → ActsAll home t e thread pos (question_acts control asks) Q index regs
  question_by control true Q index regs names st q =
      let last : index + 2 ≡ index + 1 + 1 = omega arith in (
        acts_control index regs R11 names control st.0 st.1,
        (acts_check (index + 1) regs R11 names ACK st.2.0 st.2.1, subst (λ n. Q n regs) last q),
      )
  question_by control false Q index regs names st q =
      let last : index + 2 ≡ index + 1 + 1 = omega arith in (
        acts_check index regs R11 names control st.0 st.1,
        (acts_control (index + 1) regs R11 names ACK st.2.0 st.2.1, subst (λ n. Q n regs) last q),
      )

  -- all of an output's
  pub output_by : (from : Reg) (v : ℕ) (plain : Bool) (Q : ℕ → Regs → Type 0) (index : ℕ) (regs : Regs) →
      named home.number regs.r11 ≡ AnEnd e → reg_get regs from ≡ v →
      StandAt home.parts.code index (at_pos pos (output_instrs from plain)) →
      Q (index + length (at_pos pos (output_instrs from plain))) regs → ActsAll home t e thread pos (output_acts v plain) Q index regs
  output_by from v true Q index regs names holds st q =
      let last : index + 3 ≡ index + 1 + 2 = omega arith in
      (acts_word index regs R11 names from v holds st.0 st.1, question_by END true Q (index + 1) regs names st.2 (subst (λ n. Q n regs) last q))
  output_by from v false Q index regs names holds st q = (acts_word index regs R11 names from v holds st.0 st.1, q)

  -- and all of an input's, where another register than the word's does
  pub input_by : (name to : Reg) (plain : Bool) (Q : ℕ → Regs → Type 0) (index : ℕ) (regs : Regs) → named home.number (reg_get regs name) ≡ AnEnd e → same_reg name to ≡ false → StandAt home.parts.code index (at_pos pos (input_instrs name to plain)) → ((v : ℕ) → Q (index + length (at_pos pos (input_instrs name to plain))) (reg_set regs to v)) → ActsAll home t e thread pos (input_acts to plain) Q index regs
  input_by name to true Q index regs names apart st q =
      let last : index + 3 ≡ index + 1 + 1 + 1 = omega arith in (
        acts_input index regs name names to st.0 st.1,
        λ v.
            let names' = ap (named home.number) (reg_other regs to name v apart) ∙ names in (
              acts_check (index + 1) (reg_set regs to v) name names' END st.2.0 st.2.1,
              (acts_control (index + 1 + 1) (reg_set regs to v) name names' ACK st.2.2.0 st.2.2.1, subst (λ n. Q n (reg_set regs to v)) last (q v)),
            ),
      )
  input_by name to false Q index regs names apart st q = (acts_input index regs name names to st.0 st.1, q)
