-- An assignment: from its code the thread comes to the instruction that writes the word.
use Rattle.std.proofs.Common.{◌≡◌, ℕ, ◌+◌, ◌-◌, ◌*◌, ◌≤◌, true, List, ◌∷◌, length, None, refl, ap, ◌∙◌, subst, arith}
use Rattle.std.proofs.lemmas.Bool.{or_left}
use Rattle.xs_instr.specs.declared.state.Regs.{Regs}
use Rattle.xs_instr.specs.OwnSteps.{IsApart}
use Rattle.xc_kernel.specs.Plain as kernel
use Rattle.xc_kernel.specs.Values.{Value, word, error}
use Rattle.xc_kernel.specs.Eval.{eval}
use Rattle.xc_kernel.specs.Things.{by_expression, by_target, change}
use Rattle.xc_meaning.specs.Settings.Setting.{with_value}
use Rattle.xc_meaning.specs.Settings.Stores.{stored}
use Rattle.xc_meaning.specs.States.Branches.{Branch}
use Rattle.xc_meaning.specs.States.Items.{Item, does}
use Rattle.xc_meaning.specs.States.Worlds.{World}
use Rattle.xc_meaning.specs.Runs.{does_item, step_of}
use Rattle.xl_expr.specs.Frames.{variable_of}
use Rattle.xl_expr.specs.Measures.{nodes, nodes_at}
use Rattle.xl_expr.specs.Stores.{index_in}
use Rattle.xl_flow.specs.Flow.{SetOutcome}
use Rattle.xl_statements.specs.Pieces.{Exit}
use Rattle.xr_simulation.specs.Fits.{ItemsFit, Uses, UsesAt}
use Rattle.xr_simulation.specs.Runners.{Setting, Runner, IsLaidOut, home, plan, relied}
use Rattle.xr_simulation.specs.ThreadViews.{ThreadView, running}
use Rattle.xr_simulation.specs.NextStep as turn
use Rattle.xr_simulation.specs.NextStep.{StatementLeads, ItemsFrom, HasBases, Has, NextStep, StableNextStep, cost}
use Rattle.xr_simulation.proofs.RelyGuarantee.ThreadViews.{leads_as, leads_more}
use Rattle.xr_simulation.proofs.RelyGuarantee.Arrival.{Since, at_runs, any_part, since_kept, core_kept, apart_of_changes, arrives}
use Rattle.xr_simulation.proofs.RelyGuarantee.Layouts.{has_since, room_of, runs_at, laid_at, place_laid_at}
use Rattle.xr_simulation.proofs.ItemCode.Evaluations.{nodes_are, nodes_at_are, eval_still, value_errs}
use Rattle.xr_simulation.proofs.RelyGuarantee.Events.{items_unwatched}
use Rattle.xr_simulation.proofs.RelyGuarantee.Stands.{items_stand}
use Rattle.xr_simulation.proofs.ItemCode.Writes.{store_turns, target_changed}

module _ (g : Setting) (r : Runner) (laid : IsLaidOut g r) where
  module _ (place : kernel.Place) (x : kernel.Expression) (rest : List Item) (exits : List Exit) (pc pc' j : ℕ) (uses_place : UsesAt g r place) (uses : Uses g r x) (changes : r.footprint.changes (variable_of place) ≡ true) (behind : ItemsFrom g r rest exits pc' j) (rest_fits : ItemsFit g r rest) where
    -- the assignment, which the branch does first
    abbrev item : Item
    item = does (kernel.set place x)

    -- what the branch's step is, once the right side's value is known
    set_step : (w : World) (branch : Branch) (v : Value) → eval w.store x ≡ v → does_item (step_of g.program g.stimulus w r.branch branch rest) item ≡ with_value (step_of g.program g.stimulus w r.branch branch rest) v (stored (step_of g.program g.stimulus w r.branch branch rest) place)
    set_step w branch v is =
        let s = step_of g.program g.stimulus w r.branch branch rest in
        ap (λ o. with_value s o (stored s place)) is

    -- where the code has come, the turn is next: it writes the word, or traps by the first error
    set_turns : (z : ThreadView) (regs : Regs) → HasBases g r regs → z.hand ≡ None → Has g r (item ∷ rest) z → (v i : Value) →
        eval z.world.store x ≡ v → index_in z.world.store place ≡ i → (y : ThreadView) →
        SetOutcome (plan g r).vars (home g r) (relied g r) r.stack r.thread (running r.tie pc regs) z.core.words place pc' v i y.core →
        Since g r (IsApart r.stack) any_part z y → StableNextStep g r j y
    set_turns z regs bases no_hand has v i is is_index y outcome since q k = by v is outcome
      where
        since' : Since g r (IsApart r.stack) any_part z q
        since' = since_kept g r (IsApart r.stack) any_part since k

        still : (o : Value) → eval z.world.store x ≡ o → eval q.world.store x ≡ o
        still o e = eval_still (plan g r).vars r.footprint.uses z.world.store q.world.store since'.store x uses ∙ e

        has_q : Has g r (item ∷ rest) q
        has_q = has_since g r laid (item ∷ rest) z q since' (since'.room has.holds.room) has

        by : (v : Value) → eval z.world.store x ≡ v → SetOutcome (plan g r).vars (home g r) (relied g r) r.stack r.thread (running r.tie pc regs) z.core.words place pc' v i y.core → NextStep g r j q
        by (word v) e writes =
            store_turns g r laid item place rest pc pc' j uses_place changes
            (or_left (by_target (change (variable_of place)) place) (by_expression (change (variable_of place)) x)
            (target_changed place)) rest_fits (items_unwatched g r rest exits pc' j behind) q
            (λ regs' core' bases' still. items_stand g r rest exits pc' j regs' core' behind) any_part z y
            regs v i bases k since' (since'.hand ∙ no_hand) has_q
            (set_step q.world has_q.branch (word v) (still (word v) e)) is_index writes
        by (error kind pos) e traps =
            turn.errs (value_errs g r q item rest kind pos (traps q.core (core_kept g r k)) has_q (since'.hand ∙ no_hand) (set_step q.world has_q.branch (error kind pos) (still (error kind pos) e)))

-- from its code to that instruction, or to the one that traps
pub set_leads : (g : Setting) (r : Runner) (place : kernel.Place) (x : kernel.Expression) → StatementLeads g r (kernel.set place x)
set_leads g r place x rest exits pc pc' j z regs laid piece (uses_place, uses, changes, counted) sided behind rest_fits has sized here
    bases no_hand =
    let v = eval z.world.store x in
    let i = index_in z.world.store place in
    let at_end = pc + length piece.lines in
    let way = piece.so.by (home g r) (relied g r) r.stack r.thread (running r.tie pc regs) z.world.store z.core piece.stand (runs_at g r z pc regs here) (room_of g r laid z regs bases has.holds) (laid_at g r laid z regs x uses bases has.holds) (place_laid_at g r laid z regs place uses_place bases has.holds) in
    let outcome = SetOutcome (plan g r).vars (home g r) (relied g r) r.stack r.thread (running r.tie pc regs) z.core.words place at_end v i in
    let most = 8 * nodes x + (8 * nodes_at place - 1) in
    let behind' = subst (λ p. ItemsFrom g r rest exits p j) piece.end behind in
    let le : most ≤ cost g r = let a = nodes_are x in let b = nodes_at_are place in omega arith in
    leads_more g r (StableNextStep g r j) most (cost g r) z le
    (leads_as g r (λ y. outcome y.core × Since g r (IsApart r.stack) any_part z y) (StableNextStep g r j) most z
    (λ y h. set_turns g r laid place x rest exits pc at_end j uses_place uses changes behind' rest_fits z regs bases no_hand has v i refl refl y h.0 h.1)
    (arrives g r (IsApart r.stack) (apart_of_changes g r) outcome most z (at_runs g r z pc regs here) way))
