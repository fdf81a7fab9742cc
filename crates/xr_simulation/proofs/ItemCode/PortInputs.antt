-- An input from a port: from its code the thread comes to the instruction that reads the pins, once they and the counter are what it waits
-- for, and waits with its branch till then; behind that the value and the port's counter are stored, where there are places for them.
use Rattle.std.proofs.Common.{◌≡◌, ℕ, ◌+◌, ◌++◌, ◌*◌, ◌≤◌, true, List, ◌∷◌, length, Option, Some, None, refl, sym, ap, ◌∙◌, subst, arith}
use Rattle.std.specs.Prelude.{slice_set}
use Rattle.xs_instr.specs.declared.image.PortDecl.{PortDecl}
use Rattle.xs_instr.specs.declared.instr.Reg.TheVariants.{R0}
use Rattle.xs_instr.specs.declared.state.CoreState.{CoreState}
use Rattle.xs_instr.specs.declared.state.Port.{Port as PortState}
use Rattle.xs_instr.specs.declared.state.Regs.{Regs}
use Rattle.xs_instr.specs.declared.state.Res.{Res}
use Rattle.xs_instr.specs.declared.trace.Record.{Record}
use Rattle.xs_instr.specs.declared.trace.Record.TheVariants.{PortIn}
use Rattle.xs_instr.specs.OwnSteps.{StandAt}
use Rattle.xs_instr.specs.Ports as machine
use Rattle.xs_instr.specs.Ports.{can_receive, counter, meets, moved_at}
use Rattle.xs_instr.specs.Registers.{reg_set}
use Rattle.xc_kernel.specs.Conditions.{AsksForPins}
use Rattle.xc_kernel.specs.declared.statement.KRes.TheVariants.{Port}
use Rattle.xc_kernel.specs.Plain as kernel
use Rattle.xc_meaning.specs.Runs.{does_item}
use Rattle.xc_meaning.specs.Settings.Setting as source
use Rattle.xc_meaning.specs.Settings.Time.{Timing, counter_of, fails, identifier_of, passes, pins_of, port_may_pass, timing, with_timing}
use Rattle.xc_meaning.specs.Settings.Transfers.{inputs_from, samples}
use Rattle.xc_meaning.specs.States.Items.{Item, When, does, stamping, storing}
use Rattle.xc_meaning.specs.States.Worlds.{World, only_if, with_record}
use Rattle.xl_expr.specs.PartSteps.{KeptParts}
use Rattle.xl_expr.specs.ResourceParts.{port_alone}
use Rattle.xl_expr.proofs.Lists.{get_set_same, stand_front}
use Rattle.xl_expr.proofs.Runs.{r0_alone}
use Rattle.xl_port.specs.Inputs.{Inputs, ReadsPins, SampleOutcome, in_record, pins_at, waiting_nodes}
use Rattle.xl_port.specs.Timings.{port_set, timing_expression}
use Rattle.xl_statements.specs.Pieces.{Exit, LinesAt}
use Rattle.xr_simulation.specs.Fits.{AsksRightly, Fits, IsInPort, ItemsFit}
use Rattle.xr_simulation.specs.Runners.{Setting, Runner, IsLaidOut, code, home, plan, port_place, relied}
use Rattle.xr_simulation.specs.ThreadViews.{ThreadView, running}
use Rattle.xr_simulation.specs.NextStep as turn
use Rattle.xr_simulation.specs.NextStep.{Goes, Has, HasBases, HasStamp, IsAt, ItemsFrom, Leads, PortIs, IsPlacedAt, NextStep, cost, is_watching}
use Rattle.xr_simulation.proofs.Image.Bases.{bases_scratched, bases_worked}
use Rattle.xr_simulation.proofs.ItemCode.Evaluations.{with_items}
use Rattle.xr_simulation.proofs.ItemCode.InputsLeft.{Leaves, left_by, left_fits, left_stands, left_unwatched}
use Rattle.xr_simulation.proofs.ItemCode.OnResources.{port_stands}
use Rattle.xr_simulation.proofs.ItemCode.ResourceTurns.{AtTransfer, Passes, both_err, has_still, passed, port_moves, same_clock, same_core, setting, transfer_leads, transfer_turn}
use Rattle.xr_simulation.proofs.ItemCode.Timings.{counters_agree, identifier_is, pins_agree, port_agrees, set_declared, time_laid, timing_still, timing_uses, waiting_costs}
use Rattle.xr_simulation.proofs.RelyGuarantee.Arrival.{alone_mine}
use Rattle.xr_simulation.proofs.RelyGuarantee.Layouts.{room_of, runs_at}

-- The code of an input from port p of the kernel.
module _ (g : Setting) (r : Runner) (laid : IsLaidOut g r) (i : kernel.Input) (p : ℕ) (from_port : i.resource ≡ Port p)
    (in_port : IsInPort g r p) (fits : Fits g r (kernel.input i)) (rest : List Item) (exits : List Exit) (pc pc' j : ℕ)
    (lines : LinesAt (code g r) (Inputs (plan g r) i) pc pc') (behind : ItemsFrom g r rest exits pc' j) (rest_fits : ItemsFit g r rest)
    (z : ThreadView) (regs : Regs) (bases : HasBases g r regs) (has : Has g r (does (kernel.input i) ∷ rest) z) where
  abbrev place : ℕ
  place = port_place g r p

  abbrev mine : Res → Type 0
  mine = port_alone place

  abbrev its : PortIs g r p in_port.listed z
  its = has.ports p in_port.listed in_port.is

  abbrev port : PortState
  port = its.port

  -- its lines, and what they leave to the branch

  abbrev parts : Inputs (plan g r) i pc lines.lines
  parts = lines.so

  abbrev at_write : ℕ
  at_write = pc + length parts.transfer

  all_stand : StandAt (code g r) pc (parts.transfer ++ (parts.write ++ parts.stamp))
  all_stand = subst (StandAt (code g r) pc) parts.is lines.stand

  leaves : Leaves g r i p rest exits pc pc' j parts.transfer
  leaves = record {
    fits = fits;
    from_port = from_port;
    in_port = in_port;
    write = parts.write;
    stamp = parts.stamp;
    stand = all_stand;
    end = lines.end ∙ ap (λ l. pc + length l) parts.is;
    writes = parts.writes;
    stamps = parts.stamps;
    behind = behind;
    rest_fits = rest_fits;
  }

  abbrev all_left : (value count : ℕ) → List Item
  all_left value count = left_by g r leaves value count

  -- At the end of its way.
  module _ (q : ThreadView) (at : AtTransfer g r mine (does (kernel.input i)) rest z q) where
    abbrev s : source.Setting
    s = setting g r at

    abbrev passing : When → World
    passing when = samples s i p (pins_of s p) (counter_of s)

    -- the branch's step, by what it waits for
    step_is : (t : Timing) → timing z.world.store i.time i.condition ≡ t →
        does_item s (does (kernel.input i)) ≡ with_timing s t (λ when. only_if (port_may_pass s p when) (passing when))
    step_is t e =
        ap (inputs_from s i) from_port
        ∙ ap (λ d. with_timing s d (λ when. only_if (port_may_pass s p when) (passing when)))
        (timing_still g r z.world.store q.world.store at.since.store i.time i.condition fits.0.time fits.0.condition ∙ e)

    -- the thread is at the instruction that reads the pins
    module _ (when : When) (e : timing z.world.store i.time i.condition ≡ passes when)
        (w : ReadsPins (home g r) (relied g r) r.stack r.thread (running r.tie pc regs) z.core.words place port i.pos at_write when
        q.core) where
      abbrev set : PortState
      set = port_set when port

      abbrev clock : ℕ
      clock = q.core.clock

      id_is : port.decl.port ≡ identifier_of s p
      id_is =
          ap (λ (d : PortDecl). d.port) its.declared ∙ sym (identifier_is g.program.ports p in_port.listed in_port.is.known)

      agrees : meets (home g r) clock set ≡ port_may_pass s p when
      agrees = port_agrees (home g r) clock s (same_clock g r at) (same_core g r at) refl when p port id_is

      abbrev value : ℕ
      value = pins_at (home g r) q.core port

      abbrev made : Option Record
      made = Some (in_record (home g r) q.core port)

      abbrev left_with : Record → World
      left_with = with_record (with_items q.world r.branch (has_still g r at).branch (all_left value (counter clock)))

      -- the branch stores what the thread reads, and both make the same record
      passing_is : passing when ≡ passed g r at (all_left value (counter clock)) made
      passing_is =
          ap (λ v. samples s i p v (counter_of s))
          (sym (pins_agree (home g r) clock s (same_clock g r at) (same_core g r at) refl p port.decl.port id_is))
          ∙ ap (samples s i p value) (counters_agree (home g r) clock s (same_clock g r at) (same_core g r at) refl)
          ∙ ap (λ res. with_record
          (with_items q.world r.branch (has_still g r at).branch (storing i.target value (stamping res i.stamp (counter clock) rest)))
          (PortIn (has_still g r at).branch.core (identifier_of s p) (counter clock) value)) from_port
          ∙ ap (λ (c : ℕ). left_with (PortIn c (identifier_of s p) (counter clock) value)) (has_still g r at).core
          ∙ ap (λ (d : ℕ). left_with (PortIn r.core d (counter clock) value)) (sym id_is)

      reads_them : meets (home g r) clock set ≡ true → Passes g r j q (all_left value (counter clock)) made
      reads_them h = record {
        pc = at_write;
        regs = last;
        ports = slice_set q.core.ports place moved;
        timers = q.core.timers;
        moves = port_moves g r p in_port.listed in_port.is q w.index at_write w.regs last moved made w.here (w.goes h);
        bases = bases';
        unwatched = left_unwatched g r leaves value (counter clock);
        stands = left_stands g r leaves value (counter clock) last _ bases'
            (ap (λ (d : PortDecl). machine.pins_of (home g r) clock d.port) (set_declared when port))
            (moved, get_set_same q.core.ports place set moved w.port_is, refl);
        fits = left_fits g r leaves value (counter clock);
      }
        where
          moved : PortState
          moved = moved_at set (counter clock)

          last : Regs
          last = reg_set w.regs R0 (pins_at (home g r) q.core set)

          bases' : HasBases g r last
          bases' =
              bases_scratched g r w.regs last (r0_alone w.regs (pins_at (home g r) q.core set))
              (bases_worked g r regs w.regs w.others bases)

      pins_turn : NextStep g r j q
      pins_turn =
          transfer_turn g r at j (meets (home g r) clock set) (all_left value (counter clock)) made
          (step_is (passes when) e ∙ ap (λ b. only_if b (passing when)) (sym agrees)
          ∙ ap (only_if (meets (home g r) clock set)) passing_is)
          w.waits reads_them

  abbrev outcome : Timing → CoreState → Type 0
  outcome t b =
      SampleOutcome (home g r) (relied g r) r.stack r.thread (running r.tie pc regs) z.core.words place port i.pos at_write t b

  -- where the code leads, the turn is next
  turns : (t : Timing) → timing z.world.store i.time i.condition ≡ t → (y q : ThreadView) → outcome t y.core →
      KeptParts (relied g r) mine r.thread y.core q.core → AtTransfer g r mine (does (kernel.input i)) rest z q → NextStep g r j q
  turns (passes when) e y q h kept at = pins_turn q at when e (h q.core kept)
  turns (fails kind pos) e y q h kept at = turn.errs (both_err g r at kind pos (h q.core kept) (step_is q at (fails kind pos) e))

  pins_lead : IsAt g r z pc regs → z.hand ≡ None → AsksForPins i.condition → Leads g r (cost g r) j z
  pins_lead here no_hand asks =
      let when = timing z.world.store i.time i.condition in
      let most = 8 * waiting_nodes i + 4 in
      let few : most ≤ cost g r = let a = waiting_costs i.time i.condition in let b = fits.1 in omega (arith, a, b) in
      let receives = ap (λ (d : PortDecl). can_receive d.dir) its.declared ∙ in_port.receives in
      let uses = timing_uses g r i.time i.condition fits.0.time fits.0.condition in
      transfer_leads g r mine (alone_mine g r p in_port.listed in_port.is) (outcome when) most j z pc regs few here
      (parts.samples.by (home g r) (relied g r) r.stack r.thread place port (running r.tie pc regs) z.world.store z.core
      (stand_front (code g r) pc parts.transfer (parts.write ++ parts.stamp) all_stand) (runs_at g r z pc regs here)
      (room_of g r laid z regs bases has.holds) (time_laid g r laid z regs (timing_expression i.time i.condition) uses bases has.holds)
      asks (port_stands g r laid z regs i.resource p in_port.listed port from_port in_port.is its.there bases) receives)
      laid (does (kernel.input i)) rest has no_hand (turns when refl)

-- from its code to that instruction
pub port_input_leads : (g : Setting) (r : Runner) (i : kernel.Input) (p : ℕ) → i.resource ≡ Port p → IsInPort g r p →
    (rest : List Item) (exits : List Exit) (pc pc' j : ℕ) (z : ThreadView) (regs : Regs) →
    IsLaidOut g r → LinesAt (code g r) (Inputs (plan g r) i) pc pc' → Fits g r (kernel.input i) →
    ItemsFrom g r rest exits pc' j → ItemsFit g r rest →
    Has g r (does (kernel.input i) ∷ rest) z → IsAt g r z pc regs → HasBases g r regs → z.hand ≡ None → Leads g r (cost g r) j z
port_input_leads g r i p from_port in_port rest exits pc pc' j z regs laid lines fits behind rest_fits has here bases no_hand =
    pins_lead g r laid i p from_port in_port fits rest exits pc pc' j lines behind rest_fits z regs bases has here no_hand
    (subst (λ res. AsksRightly g r res i.time i.condition) from_port fits.0.asks)
