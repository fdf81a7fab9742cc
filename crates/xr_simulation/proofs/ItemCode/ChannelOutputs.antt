-- An output over a channel: from its code the thread comes to the first step of the output's protocol, with the value's word, or traps by the
-- value's error.
use Rattle.std.proofs.Common.{◌≡◌, ℕ, ◌+◌, ◌*◌, ◌≤◌, true, List, ◌∷◌, length, Some, None, refl, sym, ap, ◌∙◌, subst, arith}
use Rattle.std.specs.Prelude.{slice_index_or}
use Rattle.xs_instr.specs.declared.state.Regs.{Regs}
use Rattle.xs_instr.specs.OwnSteps.{IsApart}
use Rattle.xc_kernel.specs.declared.statement.KRes.TheVariants.{Chan}
use Rattle.xc_kernel.specs.Plain as kernel
use Rattle.xc_kernel.specs.Values.{Value, word, error}
use Rattle.xc_kernel.specs.Eval.{eval}
use Rattle.xc_meaning.specs.Runs.{does_item, step_of}
use Rattle.xc_meaning.specs.Settings.Channels.{outputs_word}
use Rattle.xc_meaning.specs.Settings.Setting.{with_value}
use Rattle.xc_meaning.specs.Settings.Transfers.{outputs_to}
use Rattle.xc_meaning.specs.States.Branches.{Branch}
use Rattle.xc_meaning.specs.States.Channels.{Side}
use Rattle.xc_meaning.specs.States.Items.{Item, does}
use Rattle.xc_meaning.specs.States.Worlds.{World}
use Rattle.xl_chan.specs.Protocols.{output_acts}
use Rattle.xl_chan.specs.Transfers.{AtProtocol, EndsAt, OutputReaches, SendsValue}
use Rattle.xl_expr.specs.Measures.{nodes}
use Rattle.xl_ends.specs.Ends.{end_at}
use Rattle.xl_plan.specs.Layout.{core_of}
use Rattle.xl_statements.specs.Pieces.{ByEndAt, Exit}
use Rattle.xr_simulation.specs.Fits.{Fits, ItemsFit, OutputFits}
use Rattle.xr_simulation.specs.Runners.{Setting, Runner, IsChannel, IsLaidOut, code, end_place, home, plan, relied}
use Rattle.xr_simulation.specs.ThreadViews.{ThreadView, Rely, running}
use Rattle.xr_simulation.specs.NextStep as turn
use Rattle.xr_simulation.specs.NextStep.{Communicates, Has, HasBases, IsAt, IsBehind, IsOnSide, ItemsFrom, Leads, TakesSteps, NextStep, StableNextStep, cost, puts_out}
use Rattle.xr_simulation.proofs.RelyGuarantee.Arrival.{Since, any_part, apart_of_changes, arrives, at_runs, core_kept, since_kept}
use Rattle.xr_simulation.proofs.Image.Bases.{bases_worked}
use Rattle.xr_simulation.proofs.ItemCode.Evaluations.{eval_still, nodes_are, value_errs}
use Rattle.xr_simulation.proofs.Image.Identifiers.{end_named}
use Rattle.xr_simulation.proofs.RelyGuarantee.Layouts.{has_since, laid_at, room_of, runs_at}
use Rattle.xr_simulation.proofs.ItemCode.OnEnds.{end_stands, on_end}
use Rattle.xr_simulation.proofs.Channels.Protocols.{all_from, behind_of_items}
use Rattle.xr_simulation.proofs.RelyGuarantee.ThreadViews.{leads_as, leads_more}

module _ (g : Setting) (r : Runner) (laid : IsLaidOut g r) (o : kernel.Output) (fits : OutputFits g r o) (c : ℕ) (to_channel : o.resource ≡ Chan c) (side : Side) (stands_in : slice_index_or r.sides c None ≡ Some side) (on_core : core_of g.program c side ≡ r.core) (rest : List Item) (exits : List Exit) (pc pc' j : ℕ) (behind : ItemsFrom g r rest exits pc' j) (item_fits : Fits g r (kernel.output o)) (rest_fits : ItemsFit g r rest) where
  abbrev item : Item
  item = does (kernel.output o)

  -- the branch's step, once the value is known
  output_step : (w : World) (branch : Branch) (v : Value) → eval w.store o.value ≡ v →
      does_item (step_of g.program g.stimulus w r.branch branch rest) item
      ≡ with_value (step_of g.program g.stimulus w r.branch branch rest) v (outputs_word (step_of g.program g.stimulus w r.branch branch rest) c o.pos)
  output_step w branch v is =
      let s = step_of g.program g.stimulus w r.branch branch rest in
      ap (outputs_to s o) to_channel ∙ ap (λ d. with_value s d (outputs_word s c o.pos)) is

  -- at the first step of the protocol
  offers_there : (z y q : ThreadView) (regs : Regs) (v : ℕ) → HasBases g r regs → Rely g r y q → q.hand ≡ None → Has g r (item ∷ rest) q →
      eval q.world.store o.value ≡ word v →
      AtProtocol (home g r) (relied g r) r.stack r.thread (end_place g r c side) (running r.tie pc regs) z.core.words o.pos
      (output_acts v true) (EndsAt pc') y.core → Communicates g r (puts_out o v) j q
  offers_there z y q regs v bases kept no_hand has is at = record {
    rest = rest;
    on = record { channel = c; is_channel = to_channel; side = side; stands_in = stands_in; here = on_core };
    ready = is;
    no_hand = no_hand;
    pc = at.index;
    regs = at.regs;
    here = kept.thread ∙ at.here;
    steps = steps;
    fits = (item_fits, rest_fits);
    has = has;
  }
    where
      bases' : HasBases g r at.regs
      bases' = bases_worked g r regs at.regs at.others bases

      steps : TakesSteps g r c side o.pos (output_acts v true) (IsBehind g r rest j) at.index at.regs
      steps =
          let all = all_from (home g r) r.thread (end_place g r c side) r.tie o.pos pc at.index regs at.regs (output_acts v true) (EndsAt pc') at.index at.regs at.steps in (
            all.0,
            (
              all.1.0,
              (
                all.1.1.0,
                behind_of_items g r rest exits _ j at.regs bases'
                    (subst (λ p. ItemsFrom g r rest exits p j) (sym all.1.1.1) behind),
              ),
            ),
          )

  -- the turn is next, by the value
  output_turns : (z : ThreadView) (regs : Regs) → HasBases g r regs → z.hand ≡ None → Has g r (item ∷ rest) z → (v : Value) →
      eval z.world.store o.value ≡ v → (y : ThreadView) →
      OutputReaches (home g r) (relied g r) r.stack r.thread (end_place g r c side) (running r.tie pc regs) z.core.words true o.pos pc' v y.core →
      Since g r (IsApart r.stack) any_part z y → StableNextStep g r j y
  output_turns z regs bases no_hand has v is y reaches since q k = by v is reaches
    where
      since' : Since g r (IsApart r.stack) any_part z q
      since' = since_kept g r (IsApart r.stack) any_part since k

      has_q : Has g r (item ∷ rest) q
      has_q = has_since g r laid (item ∷ rest) z q since' (since'.room has.holds.room) has

      still : (d : Value) → eval z.world.store o.value ≡ d → eval q.world.store o.value ≡ d
      still d e = eval_still (plan g r).vars r.footprint.uses z.world.store q.world.store since'.store o.value fits.value ∙ e

      by : (v : Value) → eval z.world.store o.value ≡ v → OutputReaches (home g r) (relied g r) r.stack r.thread (end_place g r c side) (running r.tie pc regs) z.core.words true o.pos pc' v y.core → NextStep g r j q
      by (word v) e at = turn.communicates (puts_out o v)
          (offers_there z y q regs v bases k (since'.hand ∙ no_hand) has_q (still (word v) e) at)
      by (error kind pos) e traps =
          turn.errs (value_errs g r q item rest kind pos (traps q.core (core_kept g r k)) has_q (since'.hand ∙ no_hand) (output_step q.world has_q.branch (error kind pos) (still (error kind pos) e)))

-- from its code to the first step
pub offer_leads : (g : Setting) (r : Runner) (o : kernel.Output) (c : ℕ) → o.resource ≡ Chan c → IsChannel g r c →
    (rest : List Item) (exits : List Exit) (pc pc' j : ℕ) (z : ThreadView) (regs : Regs) →
    IsLaidOut g r → ByEndAt (code g r) (plan g r) (λ end. SendsValue (plan g r) end o.value true o.pos) (end_at (plan g r).channels r.sides c) pc pc' → Fits g r (kernel.output o) →
    IsOnSide g r (Chan c) → ItemsFrom g r rest exits pc' j → ItemsFit g r rest →
    Has g r (does (kernel.output o) ∷ rest) z → IsAt g r z pc regs → HasBases g r regs → z.hand ≡ None → Leads g r (cost g r) j z
offer_leads g r o c to_channel used rest exits pc pc' j z regs laid piece (fits, counted) (side, stands_in, on_core) behind rest_fits has here bases no_hand =
    let named = end_named g r laid z c side used on_core in
    let piece' = on_end g r c side z named stands_in (λ end. SendsValue (plan g r) end o.value true o.pos) pc pc' piece in
    let at_end = pc + length piece'.lines in
    let v = eval z.world.store o.value in
    let most = 8 * nodes o.value + 3 in
    let way = piece'.so.by (home g r) (relied g r) r.stack r.thread (end_place g r c side) (running r.tie pc regs) z.world.store z.core piece'.stand (runs_at g r z pc regs here)
    (room_of g r laid z regs bases has.holds) (laid_at g r laid z regs o.value fits.value bases has.holds)
    (end_stands g r c side z named regs bases) in
    let outcome = OutputReaches (home g r) (relied g r) r.stack r.thread (end_place g r c side) (running r.tie pc regs) z.core.words true o.pos at_end v in
    let behind' = subst (λ p. ItemsFrom g r rest exits p j) piece'.end behind in
    let le : most ≤ cost g r = let a = nodes_are o.value in omega (arith, counted, a) in
    leads_more g r (StableNextStep g r j) most (cost g r) z le
    (leads_as g r (λ y. outcome y.core × Since g r (IsApart r.stack) any_part z y) (StableNextStep g r j) most z
    (λ y h. output_turns g r laid o fits c to_channel side stands_in on_core rest exits pc at_end j behind' (fits, counted) rest_fits z regs bases no_hand has v refl y h.0 h.1)
    (arrives g r (IsApart r.stack) (apart_of_changes g r) outcome most z (at_runs g r z pc regs here) way))
