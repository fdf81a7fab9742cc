-- Jumps: those between two items, and that of an exit.
use Rattle.std.proofs.Common.{◌≡◌, ℕ, zero, suc, ◌+◌, ◌⊎◌, inr, ⊎_elim, List, ◌∷◌, Some, refl, ◌∙◌, subst, arith}
use Rattle.std.specs.Prelude.{slice_get}
use Rattle.std.proofs.lemmas.List.{length-set}
use Rattle.xs_instr.specs.declared.instr.Instr.TheVariants.{Brfu, Brbu}
use Rattle.xs_instr.specs.declared.state.CoreState.{CoreState}
use Rattle.xs_instr.specs.declared.state.Regs.{Regs}
use Rattle.xs_instr.specs.Did.{makes}
use Rattle.xs_instr.specs.Rows.{put_local}
use Rattle.xs_instr.specs.Slot.{slot}
use Rattle.xc_kernel.specs.Plain as kernel
use Rattle.xc_meaning.specs.Settings.Flow.{items_from_mark}
use Rattle.xc_meaning.specs.States.Items.{Item, does}
use Rattle.xl_expr.proofs.Lists.{get_set_same, get_set_other}
use Rattle.xl_expr.proofs.ResourceParts.{others_same}
use Rattle.xl_statements.specs.Pieces as pieces
use Rattle.xr_simulation.specs.Runners.{Setting, Runner, code, home, plan}
use Rattle.xr_simulation.specs.ThreadViews.{IsStable, LeadsIn, ThreadView, IsSilentStep, after, keeps, running}
use Rattle.xr_simulation.specs.NextStep as turn
use Rattle.xr_simulation.specs.NextStep.{StatementLeads, IsAt, IsSized, Has, Leads, StableNextStep, cost}
use Rattle.xr_simulation.proofs.RelyGuarantee.ThreadViews.{leads_now}
use Rattle.xr_simulation.proofs.RelyGuarantee.Arrival.{at_runs, same_use}
use Rattle.xr_simulation.proofs.RelyGuarantee.Layouts.{has_kept, ports_last}
use Rattle.xr_simulation.proofs.ItemCode.Evaluations.{item_acts}
use Rattle.xr_simulation.proofs.OwnSteps.Turns.{turn_is_row, spot_goes}
use Rattle.xr_simulation.proofs.ItemCode.Items.{left_fit}
use Rattle.xr_simulation.proofs.ItemCode.BlockEnds.{exits_lead}

module _ (g : Setting) (r : Runner) where
  -- the runner's thread at another index
  abbrev moved_to : CoreState → ℕ → ℕ → Regs → CoreState
  moved_to a pc p regs = put_local a r.thread (running r.tie pc regs) (record { pc = p; regs = regs; words = a.words })

  -- a jump leads there
  jump_made : (y : ThreadView) (pc p : ℕ) (regs : Regs) → IsAt g r y pc regs →
      (slice_get (code g r).instrs pc ≡ Some (Brfu p)) ⊎ (slice_get (code g r).instrs pc ≡ Some (Brbu p)) →
      slot (home g r) y.core r.thread ≡ makes (moved_to y.core pc p regs)
  jump_made y pc p regs here at_pc =
      ⊎_elim
      (λ instr. turn_is_row (home g r) y.core r.thread r.tie pc regs (Brfu p) here instr refl)
      (λ instr. turn_is_row (home g r) y.core r.thread r.tie pc regs (Brbu p) here instr refl)
      at_pc

  -- which nobody sees
  jump_silent : (y : ThreadView) (pc p : ℕ) (regs : Regs) → IsAt g r y pc regs →
      (slice_get (code g r).instrs pc ≡ Some (Brfu p)) ⊎ (slice_get (code g r).instrs pc ≡ Some (Brbu p)) →
      IsSilentStep g r y (after g r y (moved_to y.core pc p regs))
  jump_silent y pc p regs here at_pc =
      let th' = running r.tie p regs in
      record {
        made = jump_made y pc p regs here at_pc;
        world = refl;
        roots = refl;
        channel_ends = refl;
        guarantee = record {
          clock = refl;
          others = λ u ne not_held. get_set_other y.core.threads r.thread u th' ne;
          as_many = length-set y.core.threads r.thread th';
          words = λ w n. refl;
          sizes = refl;
          resources = others_same _ _ _ _ refl refl refl;
        };
        hand = keeps refl refl (same_use g r y (after g r y (moved_to y.core pc p regs)) (λ u ne. get_set_other y.core.threads r.thread u th' ne));
        was = at_runs g r y pc regs here;
        on = at_runs g r (after g r y (moved_to y.core pc p regs)) p regs (get_set_same y.core.threads r.thread (running r.tie pc regs) th' here);
      }

  -- and leaves all that the runner has
  has_moved : (y : ThreadView) (pc p : ℕ) (regs : Regs) (items : List Item) → Has g r items y →
      Has g r items (after g r y (moved_to y.core pc p regs))
  has_moved y pc p regs items has = record {
    branch = has.branch;
    runs = has.runs;
    core = has.core;
    holds = record { holds = has.holds.holds; room = has.holds.room };
    ports = ports_last g r y (after g r y (moved_to y.core pc p regs)) (λ q listed is. refl) has.ports;
  }

  -- Jumps on the way: what lasts, and is left by a jump, holds where they lead.
  module _ (P Q : ThreadView → Type 0) (lasts : IsStable g r P)
      (moved : (y : ThreadView) (pc p : ℕ) (regs : Regs) → P y → P (after g r y (moved_to y.core pc p regs))) where
    pub jumps_way : (k m : ℕ) (z : ThreadView) (pc q : ℕ) (regs : Regs) → pieces.Jumps (code g r) k pc q → IsAt g r z pc regs → P z →
        ((y : ThreadView) → IsAt g r y q regs → P y → LeadsIn g r Q m y) → LeadsIn g r Q (k + m) z
    jumps_way zero m z pc q regs jumps here has next =
        let e : m ≡ 0 + m = omega arith in
        subst (λ n. LeadsIn g r Q n z) e (next z (subst (λ p. IsAt g r z p regs) jumps here) has)
    jumps_way (suc k) m z pc q regs (p, at_pc, rest) here has next =
        let e : suc (k + m) ≡ suc k + m = omega arith in
        let all : LeadsIn g r Q (suc (k + m)) z = inr (λ y kept.
        let here_y : IsAt g r y pc regs = kept.thread ∙ here in
        let b = moved_to y.core pc p regs in
        let at_p : IsAt g r (after g r y b) p regs = get_set_same y.core.threads r.thread (running r.tie pc regs) (running r.tie p regs) here_y in
        (after g r y b, jump_silent y pc p regs here_y at_pc, jumps_way k m (after g r y b) p q regs rest at_p (moved y pc p regs (lasts z y kept has)) next)) in
        subst (λ n. LeadsIn g r Q n z) e all

  -- so the branch has what it had
  pub jumps_lead : (k m j : ℕ) (z : ThreadView) (pc q : ℕ) (regs : Regs) (items : List Item) → pieces.Jumps (code g r) k pc q →
      IsAt g r z pc regs →
      Has g r items z → IsSized g r z →
      ((y : ThreadView) → IsAt g r y q regs → Has g r items y → IsSized g r y → y.hand ≡ z.hand → Leads g r m j y) → Leads g r (k + m) j z
  jumps_lead k m j z pc q regs items jumps here has sized next =
      jumps_way (λ y. Has g r items y × IsSized g r y × (y.hand ≡ z.hand)) (StableNextStep g r j)
      (λ x y kept h. (has_kept g r items x y kept h.0, kept.sizes ∙ h.1, kept.hand ∙ h.2))
      (λ y from to regs' h. (has_moved y from to regs' items h.0, h.1, h.2))
      k m z pc q regs jumps here (has, sized, refl) (λ y at_q h. next y at_q h.0 h.1 h.2)

  -- the exit of a block is a jump to the code behind it
  pub exit_item_leads : (n : ℕ) → StatementLeads g r (kernel.exit n)
  exit_item_leads n rest exits pc pc' j z regs laid (q, is, at_pc, end) fits sided behind rest_fits has sized here bases no_hand =
      let on = exits_lead (plan g r) (code g r) r.sides (turn.EndOf g r) rest exits n q pc' j is behind in
      leads_now g r (StableNextStep g r j) (cost g r) z (λ y k.
      let has_y = has_kept g r (does (kernel.exit n) ∷ rest) z y k has in
      let here_y : IsAt g r y pc regs = k.thread ∙ here in
      turn.goes_on (spot_goes g r j y q regs
      (record { index = pc; here = here_y; made = turn_is_row (home g r) y.core r.thread r.tie pc regs (Brfu q) here_y at_pc refl; others = λ w n. refl; size = refl })
      bases (k.hand ∙ no_hand) (does (kernel.exit n)) rest (items_from_mark n rest) has_y
      (item_acts g.program g.stimulus r.branch y.world has_y.branch (does (kernel.exit n)) rest has_y.runs)
      on.exits on.jumps on.stand (left_fit g r n rest rest_fits) (let f = on.few in omega arith)))
