-- The end of a branch for which nobody waits: a root's thread is freed, and a tied one waits from then on.
use Rattle.std.proofs.Common.{◌≡◌, ℕ, ◌+◌, ◌-◌, List, [], ◌∷◌, Option, None, Some, refl, sym, ap, ◌∙◌, subst}
use Rattle.std.specs.Prelude.{slice_get, slice_set}
use Rattle.std.proofs.lemmas.List.{length-set}
use Rattle.xs_instr.specs.declared.instr.Instr.TheVariants.{Freet}
use Rattle.xs_instr.specs.declared.state.Mode.TheVariants.{Unused, Waiting}
use Rattle.xs_instr.specs.declared.state.Regs.{Regs}
use Rattle.xs_instr.specs.declared.state.Thread.{Thread}
use Rattle.xs_instr.specs.Rows.{with_thread, end_row}
use Rattle.xc_meaning.specs.States.Items.{Item, ends}
use Rattle.xc_meaning.specs.States.Worlds.{go}
use Rattle.xl_expr.proofs.Lists.{get_set_same, get_set_other}
use Rattle.xl_expr.proofs.ResourceParts.{others_same}
use Rattle.xr_simulation.specs.Items.{LastAt}
use Rattle.xl_statements.specs.Pieces.{SlaveEndsAt}
use Rattle.xr_simulation.specs.Runners.{Setting, Runner, code, home, plan}
use Rattle.xr_simulation.specs.ThreadViews.{ThreadView, running}
use Rattle.xr_simulation.specs.NextStep as turn
use Rattle.xr_simulation.specs.NextStep.{Acts, Frees, Has, IsAt, IsFree, IsWaitingTied, Leads, NextStep, StableNextStep, Waits, finished, own_go}
use Rattle.xr_simulation.proofs.RelyGuarantee.ThreadViews.{leads_now}
use Rattle.xr_simulation.proofs.RelyGuarantee.Layouts.{has_kept, runs_at}
use Rattle.xr_simulation.proofs.ItemCode.Evaluations.{item_acts}
use Rattle.xr_simulation.proofs.OwnSteps.Turns.{turn_is_row}

module _ (g : Setting) (r : Runner) where
  -- the branch's own action
  abbrev end_acts : (rest : List Item) (y : ThreadView) → Has g r (ends ∷ rest) y → Acts g r y.world finished None
  end_acts rest y has = record {
    branch = has.branch;
    known = has.runs.known;
    mode = has.runs.running;
    core = has.core;
    world = record y.world { branches = slice_set y.world.branches r.branch (finished has.branch) };
    action = go r.branch;
    own = own_go;
    acted = item_acts g.program g.stimulus r.branch y.world has.branch ends rest has.runs;
    is_next = record { clocks = refl; branches = refl; store = λ v c. refl; trace = refl };
    inboxes = refl;
  }

  -- the turn of a root's thread
  end_frees : (rest : List Item) (pc : ℕ) (regs : Regs) (y : ThreadView) → r.tie ≡ None → r.parents ≡ [] →
      slice_get (code g r).instrs pc ≡ Some Freet → Has g r (ends ∷ rest) y → IsAt g r y pc regs → y.hand ≡ None → Frees g r y
  end_frees rest pc regs y root alone instr has here no_hand =
      let th = running r.tie pc regs in
      let th' : Thread = record th { mode = Unused; pc = pc + 1 } in
      record {
        root = root;
        outermost = alone;
        left = record (with_thread y.core r.thread th') { roots = y.core.roots - 1 };
        made_is = turn_is_row (home g r) y.core r.thread r.tie pc regs Freet here instr refl ∙ ap (end_row y.core r.thread th) root;
        guarantee = record {
          clock = refl;
          others = λ u ne not_held. get_set_other y.core.threads r.thread u th' ne;
          as_many = length-set y.core.threads r.thread th';
          words = λ w n. refl;
          sizes = refl;
          resources = others_same _ _ _ _ refl refl refl;
        };
        roots = refl;
        syncs = refl;
        channel_ends = refl;
        words = refl;
        ports = refl;
        unused = subst IsFree (sym (get_set_same y.core.threads r.thread th th' here)) (record { unused = refl; no_events = refl; untied = root });
        no_hand = no_hand;
        store = refl;
        acts = end_acts rest y has;
        rest = rest;
        has = has;
      }

  -- the turn of a tied thread
  end_waits : (n : ℕ) (rest : List Item) (pc : ℕ) (regs : Regs) (y : ThreadView) → r.tie ≡ Some n → r.parents ≡ [] →
      SlaveEndsAt (code g r) (plan g r) pc → Has g r (ends ∷ rest) y → IsAt g r y pc regs → y.hand ≡ None → Waits g r y
  end_waits n rest pc regs y tied alone piece has here no_hand =
      let th = running r.tie pc regs in
      let th' : Thread = record th { mode = Waiting; pc = pc + 1 } in
      record {
        sync = n;
        tied = tied;
        outermost = alone;
        left = with_thread y.core r.thread th';
        made_is = piece.ends.by (home g r) r.thread n th y.core piece.stand (runs_at g r y pc regs here) tied;
        guarantee = record {
          clock = refl;
          others = λ u ne not_held. get_set_other y.core.threads r.thread u th' ne;
          as_many = length-set y.core.threads r.thread th';
          words = λ w n. refl;
          sizes = refl;
          resources = others_same _ _ _ _ refl refl refl;
        };
        roots = refl;
        syncs = refl;
        channel_ends = refl;
        words = refl;
        ports = refl;
        waits = subst (IsWaitingTied n) (sym (get_set_same y.core.threads r.thread th th' here)) (record { waits = refl; no_events = refl; tied = tied });
        no_hand = no_hand;
        store = refl;
        acts = end_acts rest y has;
        rest = rest;
        has = has;
      }

  -- one or the other, by the tie
  end_turns : (tie : Option ℕ) → r.tie ≡ tie → (j : ℕ) (rest : List Item) (pc : ℕ) (regs : Regs) (y : ThreadView) → r.parents ≡ [] →
      LastAt (plan g r) (code g r) tie pc → Has g r (ends ∷ rest) y → IsAt g r y pc regs → y.hand ≡ None → NextStep g r j y
  end_turns None is j rest pc regs y alone last has here no_hand = turn.frees (end_frees rest pc regs y is alone last has here no_hand)
  end_turns (Some n) is j rest pc regs y alone last has here no_hand = turn.waits_tied (end_waits n rest pc regs y is alone last has here no_hand)

  -- where it ends the thread's turn is next, and the branch ends with it
  pub end_leads : (rest : List Item) (pc j most : ℕ) (z : ThreadView) (regs : Regs) → r.parents ≡ [] →
      LastAt (plan g r) (code g r) r.tie pc →
      Has g r (ends ∷ rest) z → IsAt g r z pc regs → z.hand ≡ None → Leads g r most j z
  end_leads rest pc j most z regs alone last has here no_hand =
      leads_now g r (StableNextStep g r j) most z
      (λ y k. end_turns r.tie refl j rest pc regs y alone last (has_kept g r (ends ∷ rest) z y k has) (k.thread ∙ here) (k.hand ∙ no_hand))
