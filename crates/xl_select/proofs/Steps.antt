-- One step of each kind: a load or a jump, the setting of a flag, and a change of resources or events.
use Rattle.std.proofs.Common.{◌≡◌, ℕ, suc, ◌+◌, ◌<◌, inl, inr, false, List, length, Some, refl, arith}
use Rattle.std.specs.Prelude.{slice_get, slice_set}
use Rattle.std.proofs.lemmas.List.{length-set}
use Rattle.xs_instr.specs.declared.instr.Instr.{Instr}
use Rattle.xs_instr.specs.declared.instr.Instr.TheVariants.{Stwsp}
use Rattle.xs_instr.specs.declared.instr.Reg.{Reg}
use Rattle.xs_instr.specs.declared.state.CoreState.{CoreState}
use Rattle.xs_instr.specs.declared.state.Events.{Events}
use Rattle.xs_instr.specs.declared.state.Port.{Port}
use Rattle.xs_instr.specs.declared.state.Regs.{Regs}
use Rattle.xs_instr.specs.declared.state.Timer.{Timer}
use Rattle.xs_instr.specs.Did.{makes}
use Rattle.xs_instr.specs.OwnSteps.{HasRoom, IsApart, temporary}
use Rattle.xs_instr.specs.Registers.{reg_get}
use Rattle.xs_instr.specs.Rows.{row}
use Rattle.xs_instr.specs.Slot.{is_waiteu}
use Rattle.xl_expr.specs.ResourceParts.{OtherPartsStay}
use Rattle.xl_expr.proofs.Lists.{get_set_other}
use Rattle.xl_expr.proofs.ResourceParts.{others_same}
use Rattle.xl_expr.proofs.Ways.{at_pc}
use Rattle.xl_select.specs.Opening.{is_arming}
use Rattle.xl_select.proofs.FlagRows.{stwsp_row, words_left}
use Rattle.xl_select.proofs.Moves.{AreThere, Left, Opener, Reaches, Stands, behind, its_own, moves_lead}
use Rattle.xl_select.proofs.Values.{Both, LastsBeside, LastsSaved, lasts_both}

-- a temporary word is none of those apart
not_temporary : (s f w : ℕ) → f < temporary → IsApart s w → w ≡ s + f → ⊥
not_temporary s f w lt (inl h) e = absurd (omega arith)
not_temporary s f w lt (inr h) e = absurd (omega arith)

-- what a change of resources or events leaves
abbrev pub resources_left : CoreState → List Port → List Timer → Events → Left
resources_left c ports timers events = record { ports = ports; timers = timers; events = events; words = c.words }

-- what such an instruction does in one state
pub record Changed (o : Opener) (Facts : CoreState → Type 0) (pc : ℕ) (regs : Regs) (i : Instr) (c : CoreState) : Type 0 where
  pub ports : List Port
  pub timers : List Timer
  pub events : Events
  pub row_is : row o.home c o.t (at_pc o.thread pc regs) i ≡ makes (behind c o.t (at_pc o.thread pc regs) (pc + 1) regs (resources_left c ports timers events))
  pub others : OtherPartsStay (its_own o) o.t c (behind c o.t (at_pc o.thread pc regs) (pc + 1) regs (resources_left c ports timers events))
  pub after : Facts (behind c o.t (at_pc o.thread pc regs) (pc + 1) regs (resources_left c ports timers events))

module _ (o : Opener) (Facts : CoreState → Type 0) (beside : LastsBeside o Facts) (Flags : List ℕ → Type 0) (saved : LastsSaved o Flags) (pc : ℕ) (regs : Regs) (Q : CoreState → Type 0) (n : ℕ) (a : CoreState) (h : Stands o (Both Facts Flags) pc regs a) where
  -- a load or a jump
  pub quiet_leads : (pc' : ℕ) (regs' : Regs) (i : Instr) → is_waiteu (Some i) ≡ false →
      ((r : Reg) → is_arming r ≡ false → reg_get regs' r ≡ reg_get regs r) →
      ((c : CoreState) → Flags c.words → HasRoom o.relied o.s regs c.words → row o.home c o.t (at_pc o.thread pc regs) i ≡ makes (behind c o.t (at_pc o.thread pc regs) pc' regs' (words_left c c.words))) →
      slice_get o.home.parts.code.instrs pc ≡ Some i → ((b : CoreState) → Stands o (Both Facts Flags) pc' regs' b → Reaches o Q n b) →
      Reaches o Q (suc n) a
  quiet_leads pc' regs' i no_event same row_is stands next =
      moves_lead o (Both Facts Flags) (Both Facts Flags) pc regs pc' regs' i (lasts_both o Facts beside Flags saved) (record {
        no_event = no_event;
        same = same;
        by = λ c t g room. record {
          left = words_left c c.words;
          row_is = row_is c g.1 room;
          size = refl;
          apart = λ w l. refl;
          others = others_same (its_own o) o.t c (behind c o.t (at_pc o.thread pc regs) pc' regs' (words_left c c.words)) refl refl refl;
          after = (beside.still c (behind c o.t (at_pc o.thread pc regs) pc' regs' (words_left c c.words)) refl refl refl g.0, g.1);
        };
      }) stands Q n next a h

  -- a flag gets a register's word
  pub flag_leads : (f : ℕ) → f < temporary → (from : Reg) (Then : List ℕ → Type 0) →
      ((ws : List ℕ) → o.s + f < length ws → Flags ws → Then (slice_set ws (o.s + f) (reg_get regs from))) →
      slice_get o.home.parts.code.instrs pc ≡ Some (Stwsp from f) →
      ((b : CoreState) → Stands o (Both Facts Then) (pc + 1) regs b → Reaches o Q n b) → Reaches o Q (suc n) a
  flag_leads f lt from Then then stands next =
      moves_lead o (Both Facts Flags) (Both Facts Then) pc regs (pc + 1) regs (Stwsp from f) (lasts_both o Facts beside Flags saved) (record {
        no_event = refl;
        same = λ r w. refl;
        by = λ c t g room.
            let v = reg_get regs from in
            let left = words_left c (slice_set c.words (o.s + f) v) in
            let d = behind c o.t (at_pc o.thread pc regs) (pc + 1) regs left in
            let inside = room.within in
            record {
              left = left;
              row_is = stwsp_row o.home o.relied o.s o.t o.thread pc regs c room f lt from;
              size = length-set c.words (o.s + f) v;
              apart = λ w l. get_set_other c.words (o.s + f) w v (λ e. not_temporary o.s f w lt l e);
              others = others_same (its_own o) o.t c d refl refl refl;
              after = (beside.still c d refl refl refl g.0, then c.words (omega arith) g.1);
            };
      }) stands Q n next a h

  -- resources or events change
  pub change_leads : (Then : CoreState → Type 0) (i : Instr) → is_waiteu (Some i) ≡ false →
      ((c : CoreState) → AreThere o c → Facts c → Changed o Then pc regs i c) →
      slice_get o.home.parts.code.instrs pc ≡ Some i → ((b : CoreState) → Stands o (Both Then Flags) (pc + 1) regs b → Reaches o Q n b) →
      Reaches o Q (suc n) a
  change_leads Then i no_event change stands next =
      moves_lead o (Both Facts Flags) (Both Then Flags) pc regs (pc + 1) regs i (lasts_both o Facts beside Flags saved) (record {
        no_event = no_event;
        same = λ r w. refl;
        by = λ c t g room.
            let ch = change c t g.0 in
            record {
              left = resources_left c ch.ports ch.timers ch.events;
              row_is = ch.row_is;
              size = refl;
              apart = λ w l. refl;
              others = ch.others;
              after = (ch.after, g.1);
            };
      }) stands Q n next a h
