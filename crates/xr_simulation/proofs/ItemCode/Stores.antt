-- A word that has come in and is stored next: from behind the transfer the thread comes to the instruction that writes it, or traps by the
-- place's index.
use Rattle.std.proofs.Common.{◌≡◌, ℕ, ◌+◌, ◌-◌, ◌*◌, ◌≤◌, List, ◌∷◌, length, None, refl, ◌∙◌, subst, arith}
use Rattle.xs_instr.specs.declared.state.Regs.{Regs}
use Rattle.xs_instr.specs.OwnSteps.{IsApart}
use Rattle.xs_instr.specs.declared.state.CoreState.{CoreState}
use Rattle.xr_simulation.proofs.RelyGuarantee.Stands.{parts_own}
use Rattle.xc_kernel.specs.Plain as kernel
use Rattle.xc_meaning.specs.States.Items.{Item, stores}
use Rattle.xl_expr.specs.Measures.{nodes_at}
use Rattle.xl_expr.specs.Stores.{StoreOutcome, index_in}
use Rattle.xr_simulation.specs.Fits.{ItemsFit}
use Rattle.xr_simulation.specs.Runners.{Setting, Runner, IsLaidOut, home, plan, relied}
use Rattle.xr_simulation.specs.ThreadViews.{ThreadView, running}
use Rattle.xr_simulation.specs.NextStep.{Has, HasBases, IsAt, Leads, SameParts, IsPlacedAt, StableNextStep, cost}
use Rattle.xr_simulation.proofs.RelyGuarantee.Arrival.{Since, any_part, apart_of_changes, arrives, at_runs, since_kept}
use Rattle.xr_simulation.proofs.ItemCode.Evaluations.{nodes_at_are}
use Rattle.xr_simulation.proofs.RelyGuarantee.Layouts.{has_since, place_laid_at, room_of, runs_at}
use Rattle.xr_simulation.proofs.RelyGuarantee.ThreadViews.{leads_as, leads_more}
use Rattle.xr_simulation.proofs.ItemCode.Writes.{store_turns, target_changed}

-- from behind the transfer to the store
pub stored_leads : (g : Setting) (r : Runner) → IsLaidOut g r →
    (place : kernel.Place) (v : ℕ) (rest : List Item) (j index : ℕ) (regs : Regs) (z : ThreadView) →
    HasBases g r regs → IsPlacedAt g r (stores place v ∷ rest) j index regs z.core → IsAt g r z index regs →
    Has g r (stores place v ∷ rest) z → ItemsFit g r (stores place v ∷ rest) →
    z.hand ≡ None → Leads g r (cost g r) j z
stored_leads g r laid place v rest j index regs z bases (stored, is, code, unwatched, behind) here has
    (((uses_place, changes), counted), rest_fits) no_hand =
    let at_end = index + length code.lines in
    let i = index_in z.world.store place in
    let most = 8 * nodes_at place - 1 in
    let outcome : ℕ → ThreadView → Type 0 = λ w y. StoreOutcome (plan g r).vars (home g r) (relied g r) r.stack r.thread
    (running r.tie index regs) z.core.words place w at_end i y.core in
    let way = code.so.by (home g r) (relied g r) r.stack r.thread (running r.tie index regs) z.world.store z.core code.stand (runs_at g r z index regs here) (room_of g r laid z regs bases has.holds) (place_laid_at g r laid z regs place uses_place bases has.holds) in
    let behind' : (regs' : Regs) (core' : CoreState) → HasBases g r regs' → SameParts g r.core rest z.core core' →
    IsPlacedAt g r rest j at_end regs' core' =
    subst (λ p. (regs' : Regs) (core' : CoreState) → HasBases g r regs' → SameParts g r.core rest z.core core' →
    IsPlacedAt g r rest j p regs' core') code.end behind in
    let le : most ≤ cost g r = let a = nodes_at_are place in omega arith in
    leads_more g r (StableNextStep g r j) most (cost g r) z le
    (leads_as g r (λ y. outcome regs.r0 y × Since g r (IsApart r.stack) any_part z y) (StableNextStep g r j) most z
    (λ y h q k.
    let since = since_kept g r (IsApart r.stack) any_part h.1 k in
    let has_q = has_since g r laid (stores place v ∷ rest) z q since (since.room has.holds.room) has in
    let same : SameParts g r.core rest z.core q.core = λ part on. since.parts part (parts_own g r rest part rest_fits on) tt in
    store_turns g r laid (stores place v) place rest index at_end j uses_place changes (target_changed place) rest_fits unwatched q
    (λ regs' core' bases' still. behind' regs' core' bases' (λ part on. still part on ∙ same part on)) any_part z y regs v i
    bases k since (since.hand ∙ no_hand) has_q
    refl refl (subst (λ w. outcome w y) is h.0))
    (arrives g r (IsApart r.stack) (apart_of_changes g r) (λ b. StoreOutcome (plan g r).vars (home g r) (relied g r) r.stack r.thread (running r.tie index regs) z.core.words place regs.r0 at_end i b) most z (at_runs g r z index regs here) way))
