-- An input over a channel: from its code the thread comes to the first step of the input's protocol; behind that the word is stored, where there is
-- a place for it.
use Rattle.std.proofs.Common.{◌≡◌, ℕ, ◌+◌, ◌++◌, true, List, ◌∷◌, length, Option, Some, None, refl, sym, ap, ◌∙◌, subst, arith}
use Rattle.std.specs.Prelude.{slice_index_or}
use Rattle.std.proofs.lemmas.List.{length-append}
use Rattle.xs_instr.specs.declared.instr.Reg.TheVariants.{R0}
use Rattle.xs_instr.specs.declared.state.Regs.{Regs}
use Rattle.xs_instr.specs.Lines.{Line}
use Rattle.xs_instr.specs.OwnSteps.{IsApart, StandAt}
use Rattle.xs_instr.specs.Registers.{reg_set}
use Rattle.xc_kernel.specs.declared.statement.KRes.TheVariants.{Chan}
use Rattle.xc_kernel.specs.Plain as kernel
use Rattle.xc_meaning.specs.States.Channels.{Side}
use Rattle.xc_meaning.specs.States.Items.{Item, does, storing}
use Rattle.xl_chan.specs.Protocols.{input_acts}
use Rattle.xl_chan.specs.Transfers.{AtProtocol, EndsAt, Receives}
use Rattle.xl_expr.specs.Destinations.{WritesTo}
use Rattle.xl_expr.proofs.Lists.{stand_back, stand_front}
use Rattle.xl_expr.proofs.Runs.{r0_alone}
use Rattle.xl_ends.specs.Ends.{end_at}
use Rattle.xl_plan.specs.Layout.{core_of}
use Rattle.xl_statements.specs.Pieces.{ByEndAt, Exit}
use Rattle.xr_simulation.specs.Fits.{Fits, ItemsFit}
use Rattle.xr_simulation.specs.Runners.{Setting, Runner, IsChannel, IsLaidOut, code, end_place, home, plan, relied}
use Rattle.xr_simulation.specs.ThreadViews.{ThreadView, Rely, running}
use Rattle.xr_simulation.specs.NextStep as turn
use Rattle.xr_simulation.specs.NextStep.{Communicates, Has, HasBases, IsAt, IsBehind, IsOnSide, ItemsFrom, Leads, StatementLeads, IsPlacedAt, TakesSteps, StableNextStep, cost, takes_in}
use Rattle.xr_simulation.proofs.RelyGuarantee.Arrival.{Since, any_part, apart_of_changes, arrives, at_runs, since_kept}
use Rattle.xr_simulation.proofs.Image.Bases.{bases_scratched, bases_worked}
use Rattle.xr_simulation.proofs.Image.Identifiers.{end_named}
use Rattle.xr_simulation.proofs.RelyGuarantee.Layouts.{has_since, room_of, runs_at}
use Rattle.xr_simulation.proofs.ItemCode.OnEnds.{end_stands, on_end}
use Rattle.xr_simulation.proofs.ItemCode.OnResources.{storing_stands, storing_unwatched}
use Rattle.xr_simulation.proofs.Channels.Protocols.{all_from, nothing_awaited}
use Rattle.xr_simulation.proofs.RelyGuarantee.ThreadViews.{leads_as, leads_more}
use Rattle.xr_simulation.proofs.RelyGuarantee.Events.{items_unwatched}
use Rattle.xr_simulation.proofs.RelyGuarantee.Stands.{items_stand}

-- The code of an input from an index on: its transfer's lines, and then those that write the word.
module _ (g : Setting) (r : Runner) (rest : List Item) (exits : List Exit) (pc pc' j : ℕ) (transfer write : List Line) (end : pc' ≡ pc + length (transfer ++ write)) (written : StandAt (code g r) (pc + length transfer) write) (behind : ItemsFrom g r rest exits pc' j) where
  -- the last line's end
  write_end : pc' ≡ pc + length transfer + length write
  write_end = let e = length-append transfer write in omega (arith, e, end)

  -- behind the transfer the word is stored, and then what is left follows
  stored_behind : (target : Option kernel.Place) → WritesTo (plan g r).vars target (pc + length transfer) write → (regs : Regs) →
      HasBases g r regs → IsBehind g r (storing target regs.r0 rest) j (pc + length transfer) regs
  stored_behind target writes regs bases =
      let unwatched = items_unwatched g r rest exits pc' j behind in (
        bases,
        storing_unwatched g r target regs.r0 rest unwatched,
        λ core. storing_stands g r rest (pc + length transfer) j write written core unwatched
            (λ later other bases' same.
            subst (λ q. IsPlacedAt g r rest j q later other) write_end (items_stand g r rest exits pc' j later other behind))
            target writes regs.r0 regs bases refl,
      )

  module _ (i : kernel.Input) (item_fits : Fits g r (kernel.input i)) (rest_fits : ItemsFit g r rest) (c : ℕ) (to_channel : i.resource ≡ Chan c) (side : Side) (stands_in : slice_index_or r.sides c None ≡ Some side) (on_core : core_of g.program c side ≡ r.core) (writes : WritesTo (plan g r).vars i.target (pc + length transfer) write) where
    -- at the first step of the protocol
    takes_there : (z y q : ThreadView) (regs : Regs) → HasBases g r regs → Rely g r y q → q.hand ≡ None →
        Has g r (does (kernel.input i) ∷ rest) q →
        AtProtocol (home g r) (relied g r) r.stack r.thread (end_place g r c side) (running r.tie pc regs) z.core.words i.pos
        (input_acts R0 true) (EndsAt (pc + length transfer)) y.core → Communicates g r (takes_in i) j q
    takes_there z y q regs bases kept no_hand has at = record {
      rest = rest;
      on = record { channel = c; is_channel = to_channel; side = side; stands_in = stands_in; here = on_core };
      no_hand = no_hand;
      pc = at.index;
      regs = at.regs;
      here = kept.thread ∙ at.here;
      steps = steps;
      ready = nothing_awaited g r rest exits pc' j behind;
      fits = (item_fits, rest_fits);
      has = has;
    }
      where
        with_word : (v : ℕ) → HasBases g r (reg_set at.regs R0 v)
        with_word v =
            bases_scratched g r at.regs (reg_set at.regs R0 v) (r0_alone at.regs v)
            (bases_worked g r regs at.regs at.others bases)

        steps : TakesSteps g r c side i.pos (input_acts R0 true) (λ index last. IsBehind g r (storing i.target last.r0 rest) j index last) at.index at.regs
        steps =
            let all = all_from (home g r) r.thread (end_place g r c side) r.tie i.pos pc at.index regs at.regs (input_acts R0 true) (EndsAt (pc + length transfer)) at.index at.regs at.steps in (
              all.0,
              λ v. let more = all.1 v in let last = reg_set at.regs R0 v in
                  (more.0, (more.1.0, subst (λ p. IsBehind g r (storing i.target last.r0 rest) j p last) (sym more.1.1) (stored_behind i.target writes last (with_word v)))),
            )

-- from its code to the first step
pub take_leads : (g : Setting) (r : Runner) (i : kernel.Input) (c : ℕ) → i.resource ≡ Chan c → IsChannel g r c →
    (rest : List Item) (exits : List Exit) (pc pc' j : ℕ) (z : ThreadView) (regs : Regs) →
    IsLaidOut g r → ByEndAt (code g r) (plan g r) (λ end. Receives (plan g r) end i.target true i.pos) (end_at (plan g r).channels r.sides c) pc pc' → Fits g r (kernel.input i) →
    IsOnSide g r (Chan c) → ItemsFrom g r rest exits pc' j → ItemsFit g r rest →
    Has g r (does (kernel.input i) ∷ rest) z → IsAt g r z pc regs → HasBases g r regs → z.hand ≡ None → Leads g r (cost g r) j z
take_leads g r i c to_channel used rest exits pc pc' j z regs laid piece fits (side, stands_in, on_core) behind rest_fits has here bases no_hand =
    let named = end_named g r laid z c side used on_core in
    let piece' = on_end g r c side z named stands_in (λ end. Receives (plan g r) end i.target true i.pos) pc pc' piece in
    let parts = piece'.so in
    let stand : StandAt (code g r) pc (parts.transfer ++ parts.write) = subst (StandAt (code g r) pc) parts.is piece'.stand in
    let end : pc' ≡ pc + length (parts.transfer ++ parts.write) = piece'.end ∙ ap (λ lines. pc + length lines) parts.is in
    let way = parts.takes.by (home g r) (relied g r) r.stack r.thread (end_place g r c side) (running r.tie pc regs) z.core (stand_front (code g r) pc parts.transfer parts.write stand)
    (runs_at g r z pc regs here) (room_of g r laid z regs bases has.holds) (end_stands g r c side z named regs bases) in
    let outcome = AtProtocol (home g r) (relied g r) r.stack r.thread (end_place g r c side) (running r.tie pc regs) z.core.words i.pos (input_acts R0 true) (EndsAt (pc + length parts.transfer)) in
    leads_more g r (StableNextStep g r j) 3 (cost g r) z (omega arith)
    (leads_as g r (λ y. outcome y.core × Since g r (IsApart r.stack) any_part z y) (StableNextStep g r j) 3 z
    (λ y h q k.
    let since = since_kept g r (IsApart r.stack) any_part h.1 k in
    turn.communicates (takes_in i) (takes_there g r rest exits pc pc' j parts.transfer parts.write end
    (stand_back (code g r) pc parts.transfer parts.write stand) behind i fits rest_fits c to_channel side stands_in on_core parts.writes
    z y q regs bases k (since.hand ∙ no_hand) (has_since g r laid (does (kernel.input i) ∷ rest) z q since (since.room has.holds.room) has) h.0))
    (arrives g r (IsApart r.stack) (apart_of_changes g r) outcome 3 z (at_runs g r z pc regs here) way))
