-- A counter that is stored next: from behind the transfer the thread comes to the instruction that writes it, or traps by the place's
-- index.
use Rattle.std.proofs.Common.{◌≡◌, ℕ, ◌+◌, ◌*◌, ◌≤◌, List, ◌∷◌, length, None, refl, ◌∙◌, subst, arith}
use Rattle.xs_instr.specs.declared.state.CoreState.{CoreState}
use Rattle.xs_instr.specs.declared.state.Regs.{Regs}
use Rattle.xs_instr.specs.OwnSteps.{IsApart}
use Rattle.xc_kernel.specs.declared.statement.KRes.TheVariants.{Port}
use Rattle.xc_kernel.specs.Plain as kernel
use Rattle.xc_meaning.specs.States.Items.{Item, stamps}
use Rattle.xl_expr.specs.Measures.{nodes_at}
use Rattle.xl_expr.specs.PartSteps.{WithinParts}
use Rattle.xl_expr.specs.ResourceParts.{port_alone}
use Rattle.xl_expr.specs.Stores.{StoreOutcome, index_in}
use Rattle.xr_simulation.specs.Fits.{ItemsFit}
use Rattle.xr_simulation.specs.Runners.{Setting, Runner, IsLaidOut, home, plan, port_place, relied}
use Rattle.xr_simulation.specs.ThreadViews.{ThreadView, running}
use Rattle.xr_simulation.specs.NextStep.{Has, HasBases, IsAt, Leads, IsPlacedAt, cost}
use Rattle.xr_simulation.proofs.ItemCode.Evaluations.{nodes_at_are}
use Rattle.xr_simulation.proofs.ItemCode.OnResources.{port_stands, resource_leads}
use Rattle.xr_simulation.proofs.ItemCode.Writes.{store_turns, target_changed}
use Rattle.xr_simulation.proofs.RelyGuarantee.Arrival.{alone_mine, apart_from}
use Rattle.xr_simulation.proofs.RelyGuarantee.Layouts.{has_since_port, place_laid_at, room_of, runs_at}

-- from behind the transfer to the store
pub stamped_leads : (g : Setting) (r : Runner) → IsLaidOut g r →
    (p : ℕ) (place : kernel.Place) (v : ℕ) (rest : List Item) (j index : ℕ) (regs : Regs) (z : ThreadView) →
    HasBases g r regs → IsPlacedAt g r (stamps (Port p) place v ∷ rest) j index regs z.core → IsAt g r z index regs →
    Has g r (stamps (Port p) place v ∷ rest) z → ItemsFit g r (stamps (Port p) place v ∷ rest) →
    z.hand ≡ None → Leads g r (cost g r) j z
stamped_leads g r laid p place v rest j index regs z bases (stored, (port, there, stamp), code, unwatched, behind) here has
    (((listed, is), (uses_place, changes), counted), rest_fits) no_hand =
    let alone = port_alone (port_place g r p) in
    let at_end = index + length code.lines in
    let i = index_in z.world.store place in
    let most = 8 * nodes_at place + 2 in
    let outcome : ℕ → CoreState → Type 0 = λ w b. StoreOutcome (plan g r).vars (home g r) (relied g r) r.stack r.thread
    (running r.tie index regs) z.core.words place w at_end i b in
    let way = code.so.by (home g r) (relied g r) r.stack r.thread (port_place g r p) port (running r.tie index regs) z.world.store z.core
    code.stand (runs_at g r z index regs here) (room_of g r laid z regs bases has.holds)
    (place_laid_at g r laid z regs place uses_place bases has.holds)
    (port_stands g r laid z regs (Port p) p listed port refl is there bases) in
    let behind' : (regs' : Regs) (core' : CoreState) → HasBases g r regs' → IsPlacedAt g r rest j at_end regs' core' =
    subst (λ q. (regs' : Regs) (core' : CoreState) → HasBases g r regs' → IsPlacedAt g r rest j q regs' core') code.end behind in
    let le : most ≤ cost g r = let a = nodes_at_are place in omega (arith, a, counted) in
    resource_leads g r alone (alone_mine g r p listed is) (outcome v) most j z index regs le here
    (subst (λ w. WithinParts (home g r) (relied g r) (IsApart r.stack) alone r.thread (outcome w) most z.core) stamp way)
    (λ y q h k since.
    store_turns g r laid (stamps (Port p) place v) place rest index at_end j uses_place changes (target_changed place) rest_fits unwatched q
    (λ regs' core' bases' still. behind' regs' core' bases') (apart_from alone) z y regs v i bases k since (since.hand ∙ no_hand)
    (has_since_port g r laid (apart_from alone) (stamps (Port p) place v ∷ rest) z q since has) refl refl h)
