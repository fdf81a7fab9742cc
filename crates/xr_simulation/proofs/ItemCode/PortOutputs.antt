-- An output to a port: from its code the thread comes to the instruction that puts the word out, once the time is come, where there is one,
-- and waits with its branch till then; behind that the port's counter is stored, where there is a place for it.
use Rattle.std.proofs.Common.{◌≡◌, ℕ, ◌+◌, ◌++◌, ◌*◌, ◌≤◌, true, List, ◌∷◌, length, option_map, Option, Some, None, refl, sym, ap, ◌∙◌, subst, arith}
use Rattle.std.specs.Prelude.{nat_eq, slice_set}
use Rattle.std.proofs.lemmas.List.{length-append}
use Rattle.xs_instr.specs.declared.image.PortDecl.{PortDecl}
use Rattle.xs_instr.specs.declared.state.CoreState.{CoreState}
use Rattle.xs_instr.specs.declared.state.Port.{Port as PortState}
use Rattle.xs_instr.specs.declared.state.Regs.{Regs}
use Rattle.xs_instr.specs.declared.state.Res.{Res}
use Rattle.xs_instr.specs.declared.trace.Record.{Record}
use Rattle.xs_instr.specs.declared.trace.Record.TheVariants.{PortOut}
use Rattle.xs_instr.specs.OwnSteps.{StandAt}
use Rattle.xs_instr.specs.Ports.{can_send, counter, low_bits, moved_at}
use Rattle.xc_kernel.specs.declared.statement.KRes.TheVariants.{Port}
use Rattle.xc_kernel.specs.Plain as kernel
use Rattle.xc_kernel.specs.Values.{Value, word, error}
use Rattle.xc_kernel.specs.Eval.{Store, eval, words_of}
use Rattle.xc_meaning.specs.Runs.{does_item}
use Rattle.xc_meaning.specs.Settings.Setting as source
use Rattle.xc_meaning.specs.Settings.Setting.{with_value, with_word_of}
use Rattle.xc_meaning.specs.Settings.Time.{Timing, counter_of, identifier_of, passes, timing, timing_by, with_timing, port_may_pass}
use Rattle.xc_meaning.specs.Settings.Transfers.{drives, output_record, outputs_to}
use Rattle.xc_meaning.specs.States.Items.{Item, does, When, now, at_time, stamping}
use Rattle.xc_meaning.specs.States.Worlds.{World, only_if, with_record}
use Rattle.xl_expr.specs.PartSteps.{KeptParts}
use Rattle.xl_expr.specs.ResourceParts.{port_alone}
use Rattle.xl_expr.proofs.Lists.{get_set_same, stand_back, stand_front}
use Rattle.xl_port.specs.Outputs.{OutputOutcome, Outputs, PutsOut, ValueOutcome, driving_nodes, is_due, out_record, set_for}
use Rattle.xl_port.specs.Stamps.{StampsTo}
use Rattle.xl_statements.specs.Pieces.{Exit, LinesAt}
use Rattle.xr_simulation.specs.Fits.{Fits, IsOutPort, ItemsFit, UsesSome}
use Rattle.xr_simulation.specs.Runners.{Setting, Runner, IsLaidOut, code, home, plan, port_place, relied}
use Rattle.xr_simulation.specs.ThreadViews.{ThreadView, running}
use Rattle.xr_simulation.specs.NextStep as turn
use Rattle.xr_simulation.specs.NextStep.{Has, HasBases, HasStamp, IsAt, ItemsFrom, Leads, PortIs, IsPlacedAt, NextStep, cost}
use Rattle.xr_simulation.proofs.Image.Bases.{bases_worked}
use Rattle.xr_simulation.proofs.ItemCode.Evaluations.{eval_still, nodes_are, with_items}
use Rattle.xr_simulation.proofs.ItemCode.OnResources.{port_stands, stamping_fits, stamping_stands, stamping_unwatched}
use Rattle.xr_simulation.proofs.ItemCode.ResourceTurns.{AtTransfer, Passes, both_err, has_still, passed, port_moves, same_clock, same_core, setting, transfer_leads, transfer_turn}
use Rattle.xr_simulation.proofs.ItemCode.Timings.{counters_agree, eqb_swap, identifier_is, time_costs, time_laid}
use Rattle.xr_simulation.proofs.RelyGuarantee.Arrival.{alone_mine}
use Rattle.xr_simulation.proofs.RelyGuarantee.Events.{items_unwatched}
use Rattle.xr_simulation.proofs.RelyGuarantee.Layouts.{laid_at, room_of, runs_at}

-- when an output may pass, by the word of its time
abbrev when_at : Option ℕ → When
when_at None = now
when_at (Some t) = at_time t

-- the same, by the value of its time
abbrev timing_at : Option Value → Timing
timing_at None = passes now
timing_at (Some v) = timing_by v at_time

timing_is : (store : Store) (time : Option kernel.Expression) → timing store time None ≡ timing_at (option_map (eval store) time)
timing_is store None = refl
timing_is store (Some x) = refl

-- a time keeps its value where the words of the runner's variables stay
time_still : (g : Setting) (r : Runner) (old new : Store) → ((v : ℕ) → r.footprint.uses v ≡ true → words_of new v ≡ words_of old v) →
    (time : Option kernel.Expression) → UsesSome g r time → option_map (eval new) time ≡ option_map (eval old) time
time_still g r old new same None uses = refl
time_still g r old new same (Some x) uses = ap Some (eval_still (plan g r).vars r.footprint.uses old new same x uses)

-- The code of an output to port p of the kernel.
module _ (g : Setting) (r : Runner) (laid : IsLaidOut g r) (o : kernel.Output) (p : ℕ) (to_port : o.resource ≡ Port p)
    (out : IsOutPort g r p) (fits : Fits g r (kernel.output o)) (rest : List Item) (exits : List Exit) (pc pc' j : ℕ)
    (lines : LinesAt (code g r) (Outputs (plan g r) o) pc pc') (behind : ItemsFrom g r rest exits pc' j) (rest_fits : ItemsFit g r rest)
    (z : ThreadView) (regs : Regs) (bases : HasBases g r regs) (has : Has g r (does (kernel.output o) ∷ rest) z) where
  abbrev place : ℕ
  place = port_place g r p

  abbrev mine : Res → Type 0
  mine = port_alone place

  abbrev its : PortIs g r p out.listed z
  its = has.ports p out.listed out.is

  abbrev port : PortState
  port = its.port

  -- its lines, and where those begin that write

  abbrev parts : Outputs (plan g r) o pc lines.lines
  parts = lines.so

  abbrev at_stamp : ℕ
  at_stamp = pc + length parts.transfer

  all_stand : StandAt (code g r) pc (parts.transfer ++ parts.stamp)
  all_stand = subst (StandAt (code g r) pc) parts.is lines.stand

  stamp_end : pc' ≡ at_stamp + length parts.stamp
  stamp_end =
      let a = lines.end in
      let b = ap length parts.is in
      let c = length-append parts.transfer parts.stamp in
      omega (arith, a, b, c)

  -- what is left to the branch
  abbrev left : (count : ℕ) → List Item
  left count = stamping (Port p) o.stamp count rest

  left_stands : (count : ℕ) (last : Regs) (core : CoreState) → HasStamp g r p count core → IsPlacedAt g r (left count) j at_stamp last core
  left_stands count last core has_stamp =
      stamping_stands g r p count rest exits at_stamp pc' j parts.stamp
      (stand_back (code g r) pc parts.transfer parts.stamp all_stand) stamp_end behind o.stamp
      (subst (λ res. StampsTo (plan g r) res o.stamp at_stamp parts.stamp) to_port parts.stamps) last core has_stamp

  -- At the end of its way.
  module _ (q : ThreadView) (at : AtTransfer g r mine (does (kernel.output o)) rest z q) where
    abbrev s : source.Setting
    s = setting g r at

    abbrev at_when : When → Option World
    at_when when = with_word_of s o.value (drives s o p when)

    -- the branch's step, by its time
    output_is : (time : Option Value) → option_map (eval z.world.store) o.time ≡ time →
        does_item s (does (kernel.output o)) ≡ with_timing s (timing_at time) at_when
    output_is time e =
        ap (outputs_to s o) to_port
        ∙ ap (λ d. with_timing s d at_when) (timing_is q.world.store o.time)
        ∙ ap (λ d. with_timing s (timing_at d) at_when)
        (time_still g r z.world.store q.world.store at.since.store o.time fits.0.time ∙ e)

    -- where the time has a word, or there is none
    module _ (time : Option ℕ) (time_is : option_map (eval z.world.store) o.time ≡ option_map word time) where
      with_time : (t : Option ℕ) → with_timing s (timing_at (option_map word t)) at_when ≡ at_when (when_at t)
      with_time None = refl
      with_time (Some t) = refl

      -- by its value
      step_is : (v : Value) → eval z.world.store o.value ≡ v →
          does_item s (does (kernel.output o)) ≡ with_value s v (drives s o p (when_at time))
      step_is v e =
          output_is (option_map word time) time_is
          ∙ with_time time
          ∙ ap (λ d. with_value s d (drives s o p (when_at time)))
          (eval_still (plan g r).vars r.footprint.uses z.world.store q.world.store at.since.store o.value fits.0.value ∙ e)

      same_counter : counter_of s ≡ counter q.core.clock
      same_counter = counters_agree (home g r) q.core.clock s (same_clock g r at) (same_core g r at) refl

      -- both wait for the same time
      agrees : (t : Option ℕ) → is_due t q.core ≡ port_may_pass s p (when_at t)
      agrees None = refl
      agrees (Some t) = eqb_swap (counter t) (counter q.core.clock) ∙ ap (λ (c : ℕ). nat_eq c (counter t)) (sym same_counter)

      -- the thread is at the instruction that puts the word out
      module _ (v : ℕ) (e : eval z.world.store o.value ≡ word v)
          (w : PutsOut (home g r) (relied g r) r.stack r.thread (running r.tie pc regs) z.core.words place port o.pos at_stamp time v
          q.core) where
        abbrev count : ℕ
        count = counter q.core.clock

        abbrev made : Option Record
        made = Some (out_record (home g r) q.core v port)

        abbrev passing : World
        passing = with_record (source.goes_to s (stamping o.resource o.stamp (counter_of s) rest)) (output_record s p v)

        abbrev left_with : Record → World
        left_with = with_record (with_items q.world r.branch (has_still g r at).branch (left count))

        id_is : identifier_of s p ≡ port.decl.port
        id_is = identifier_is g.program.ports p out.listed out.is.known ∙ ap (λ (d : PortDecl). d.port) (sym its.declared)

        -- both make the same record
        passing_is : passing ≡ passed g r at (left count) made
        passing_is =
            ap (λ (c : ℕ). with_record (source.goes_to s (stamping o.resource o.stamp c rest))
            (PortOut s.branch.core (identifier_of s p) c (low_bits v (identifier_of s p)))) same_counter
            ∙ ap (λ res. with_record (source.goes_to s (stamping res o.stamp count rest))
            (PortOut s.branch.core (identifier_of s p) count (low_bits v (identifier_of s p)))) to_port
            ∙ ap (λ (c : ℕ). left_with (PortOut c (identifier_of s p) count (low_bits v (identifier_of s p)))) (has_still g r at).core
            ∙ ap (λ (d : ℕ). left_with (PortOut r.core d count (low_bits v d))) id_is

        puts_it : is_due time q.core ≡ true → Passes g r j q (left count) made
        puts_it h = record {
          pc = at_stamp;
          regs = w.regs;
          ports = slice_set q.core.ports place moved;
          timers = q.core.timers;
          moves = port_moves g r p out.listed out.is q w.index at_stamp w.regs w.regs moved made w.here (w.goes h);
          bases = bases_worked g r regs w.regs w.others bases;
          unwatched = stamping_unwatched g r (Port p) o.stamp count rest (items_unwatched g r rest exits pc' j behind);
          stands = left_stands count w.regs _ (moved, get_set_same q.core.ports place (set_for time port) moved w.port_is, refl);
          fits = let counted = fits.1 in
              stamping_fits g r p out.listed out.is o.stamp count rest fits.0.stamp (omega (arith, counted)) rest_fits;
        }
          where
            moved : PortState
            moved = moved_at (set_for time port) count

        word_turn : NextStep g r j q
        word_turn =
            transfer_turn g r at j (is_due time q.core) (left count) made
            (step_is (word v) e ∙ ap (λ b. only_if b passing) (sym (agrees time)) ∙ ap (only_if (is_due time q.core)) passing_is)
            w.waits puts_it

  abbrev at_value : Option ℕ → Value → CoreState → Type 0
  at_value time value b =
      ValueOutcome (home g r) (relied g r) r.stack r.thread (running r.tie pc regs) z.core.words place port o.pos at_stamp time value b

  abbrev at_end : Option Value → Value → CoreState → Type 0
  at_end time value b =
      OutputOutcome (home g r) (relied g r) r.stack r.thread (running r.tie pc regs) z.core.words place port o.pos at_stamp time value b

  -- Where the code leads, the turn is next: by the value,
  value_turns : (time : Option ℕ) → option_map (eval z.world.store) o.time ≡ option_map word time → (value : Value) →
      eval z.world.store o.value ≡ value → (y q : ThreadView) → at_value time value y.core →
      KeptParts (relied g r) mine r.thread y.core q.core → AtTransfer g r mine (does (kernel.output o)) rest z q → NextStep g r j q
  value_turns time e (word v) f y q h kept at = word_turn q at time e v f (h q.core kept)
  value_turns time e (error kind pos) f y q h kept at =
      turn.errs (both_err g r at kind pos (h q.core kept) (step_is q at time e (error kind pos) f))

  -- and by the time, whose error comes first.
  turns : (time : Option Value) (value : Value) → option_map (eval z.world.store) o.time ≡ time → eval z.world.store o.value ≡ value →
      (y q : ThreadView) → at_end time value y.core → KeptParts (relied g r) mine r.thread y.core q.core →
      AtTransfer g r mine (does (kernel.output o)) rest z q → NextStep g r j q
  turns None value e f y q h kept at = value_turns None e value f y q h kept at
  turns (Some (word t)) value e f y q h kept at = value_turns (Some t) e value f y q h kept at
  turns (Some (error kind pos)) value e f y q h kept at =
      turn.errs (both_err g r at kind pos (h q.core kept) (output_is q at (Some (error kind pos)) e))

  word_leads : IsAt g r z pc regs → z.hand ≡ None → Leads g r (cost g r) j z
  word_leads here no_hand =
      let time = option_map (eval z.world.store) o.time in
      let value = eval z.world.store o.value in
      let most = 8 * driving_nodes o + 4 in
      let few : most ≤ cost g r = let a = time_costs o.time in let b = nodes_are o.value in let c = fits.1 in omega (arith, a, b, c) in
      let sends = ap (λ (d : PortDecl). can_send d.dir) its.declared ∙ out.sends in
      transfer_leads g r mine (alone_mine g r p out.listed out.is) (at_end time value) most j z pc regs few here
      (parts.drives.by (home g r) (relied g r) r.stack r.thread place port (running r.tie pc regs) z.world.store z.core
      (stand_front (code g r) pc parts.transfer parts.stamp all_stand) (runs_at g r z pc regs here)
      (room_of g r laid z regs bases has.holds) (time_laid g r laid z regs o.time fits.0.time bases has.holds)
      (laid_at g r laid z regs o.value fits.0.value bases has.holds)
      (port_stands g r laid z regs o.resource p out.listed port to_port out.is its.there bases) sends)
      laid (does (kernel.output o)) rest has no_hand (turns time value refl refl)

-- from its code to that instruction
pub port_output_leads : (g : Setting) (r : Runner) (o : kernel.Output) (p : ℕ) → o.resource ≡ Port p → IsOutPort g r p →
    (rest : List Item) (exits : List Exit) (pc pc' j : ℕ) (z : ThreadView) (regs : Regs) →
    IsLaidOut g r → LinesAt (code g r) (Outputs (plan g r) o) pc pc' → Fits g r (kernel.output o) →
    ItemsFrom g r rest exits pc' j → ItemsFit g r rest →
    Has g r (does (kernel.output o) ∷ rest) z → IsAt g r z pc regs → HasBases g r regs → z.hand ≡ None → Leads g r (cost g r) j z
port_output_leads g r o p to_port out rest exits pc pc' j z regs laid lines fits behind rest_fits has here bases no_hand =
    word_leads g r laid o p to_port out fits rest exits pc pc' j lines behind rest_fits z regs bases has here no_hand
