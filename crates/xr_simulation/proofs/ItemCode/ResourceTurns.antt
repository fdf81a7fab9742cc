-- The turn of a thread whose next step is a transfer over a port or a timer of the runner's own: it passes, on both sides; or the thread
-- waits, and its branch can do nothing; or both err.
use Rattle.std.proofs.Common.{◌≡◌, ℕ, ◌+◌, ◌≤◌, Bool, true, false, List, [], ◌∷◌, Option, Some, None, refl, sym, ap, ◌∙◌, arith}
use Rattle.std.specs.Prelude.{slice_get, slice_index, slice_set}
use Rattle.std.proofs.lemmas.List.{length-set}
use Rattle.std.proofs.lemmas.Option.{get_or_from_slice_get}
use Rattle.xw_words.specs.declared.pos.Pos.{Pos}
use Rattle.xs_instr.specs.declared.state.CoreState.{CoreState}
use Rattle.xs_instr.specs.declared.state.Port.{Port}
use Rattle.xs_instr.specs.declared.state.Regs.{Regs}
use Rattle.xs_instr.specs.declared.state.Res.{Res}
use Rattle.xs_instr.specs.declared.state.Thread.{Thread}
use Rattle.xs_instr.specs.declared.state.Timer.{Timer}
use Rattle.xs_instr.specs.declared.trace.Record.{Record}
use Rattle.xs_instr.specs.Did.{Made, Paused}
use Rattle.xs_instr.specs.Machine.{and_then, noted}
use Rattle.xs_instr.specs.OwnSteps.{IsApart}
use Rattle.xs_instr.specs.Slot.{slot}
use Rattle.xc_kernel.specs.declared.kernel.PortUse.{PortUse}
use Rattle.xc_kernel.specs.declared.kernel.Timer.{Timer as TimerUse}
use Rattle.xc_kernel.specs.Plain as kernel
use Rattle.xc_kernel.specs.Values.{ErrorKind}
use Rattle.xc_meaning.specs.Runs.{acts, does_first, does_item, selects, selects_by, step_of}
use Rattle.xc_meaning.specs.Settings.Select.{takes, takes_default}
use Rattle.xc_meaning.specs.Settings.Setting as source
use Rattle.xc_meaning.specs.Settings.Setting.{errs, kind_of}
use Rattle.xc_meaning.specs.Settings.Time.{clock_of}
use Rattle.xc_meaning.specs.States.Items.{Item, does}
use Rattle.xc_meaning.specs.States.Branches.{Branch}
use Rattle.xc_meaning.specs.States.Worlds.{World, Action, go, take, default, only_if}
use Rattle.xl_expr.specs.PartSteps.{KeptParts, WithinParts}
use Rattle.xl_expr.specs.ResourceParts.{OtherPartsStay}
use Rattle.xl_expr.specs.Works as works
use Rattle.xl_expr.proofs.Lists.{get_set_same, get_set_other}
use Rattle.xl_expr.proofs.ResourceParts.{others_fewer, others_of_port, others_of_timer}
use Rattle.xr_simulation.specs.Fits.{ItemsFit}
use Rattle.xr_simulation.specs.Runners.{IsLaidOut, IsMine, IsPort, IsTimer, Setting, Runner, home, port_place, relied, timer_place}
use Rattle.xr_simulation.specs.ThreadViews.{ThreadView, running}
use Rattle.xr_simulation.specs.NextStep as turn
use Rattle.xr_simulation.specs.NextStep.{Goes, Has, HasBases, IsAt, Leads, OwnAction, PortsStand, Rest, Runs, IsPlacedAt, NextStep, cost, is_watching, own_go}
use Rattle.xr_simulation.proofs.ItemCode.Evaluations.{item_acts, runs_with, value_errs, with_items}
use Rattle.xr_simulation.proofs.ItemCode.OnResources.{resource_leads}
use Rattle.xr_simulation.proofs.Relation.PortDeclarations.{declared_there, made_declared}
use Rattle.xr_simulation.proofs.Relation.Sizes.{made_sizes}
use Rattle.xr_simulation.proofs.RelyGuarantee.Arrival.{Since, alone_mine, apart_from, parts_kept, timer_alone_mine}
use Rattle.xr_simulation.proofs.RelyGuarantee.Events.{here_at}
use Rattle.xr_simulation.proofs.RelyGuarantee.Layouts.{has_since_port}

-- a statement is no select
module _ (g : Setting) (b : ℕ) (x : World) (branch : Branch) (t : kernel.Statement) (rest : List Item)
    (h : Runs x b branch (does t ∷ rest)) where
  takes_none : (n : ℕ) → acts g.program g.stimulus x (take b n) ≡ None
  takes_none n =
      ap (λ o. and_then o (selects g.program g.stimulus x b (λ step. takes step n))) h.known
      ∙ ap (selects_by g.program g.stimulus x b (λ step. takes step n) branch) h.running
      ∙ ap (does_first g.program g.stimulus x b branch (λ step. takes step n)) h.items_are

  takes_no_default : acts g.program g.stimulus x (default b) ≡ None
  takes_no_default =
      ap (λ o. and_then o (selects g.program g.stimulus x b takes_default)) h.known
      ∙ ap (selects_by g.program g.stimulus x b takes_default branch) h.running
      ∙ ap (does_first g.program g.stimulus x b branch takes_default) h.items_are

module _ (g : Setting) (r : Runner) where
  -- the core once the runner's thread went on to an index with these registers, and ports and timers are these
  abbrev pub moved_on : CoreState → (pc : ℕ) → Regs → List Port → List Timer → CoreState
  moved_on core pc regs ports timers = record core {
    threads = slice_set core.threads r.thread (running r.tie pc regs);
    ports = ports;
    timers = timers;
  }

  -- The thread's turn is that, of the ports and timers it changes the runner's own alone, and it may make a record.
  pub record MovesOn (y : ThreadView) (pc : ℕ) (regs : Regs) (ports : List Port) (timers : List Timer) (made : Option Record) : Type 0 where
    pub was : Thread
    pub here : slice_get y.core.threads r.thread ≡ Some was
    pub made_is : slot (home g r) y.core r.thread ≡ Made (moved_on y.core pc regs ports timers) made []
    pub resources : OtherPartsStay (IsMine g r) r.thread y.core (moved_on y.core pc regs ports timers)

  -- it sets a port
  pub port_moves : (p : ℕ) (listed : PortUse) → IsPort g r p listed → (y : ThreadView) (index pc : ℕ) (was regs : Regs) (port : Port)
      (made : Option Record) → IsAt g r y index was →
      slot (home g r) y.core r.thread ≡ Made
      (moved_on y.core pc regs (slice_set y.core.ports (port_place g r p) port) y.core.timers) made [] →
      MovesOn y pc regs (slice_set y.core.ports (port_place g r p) port) y.core.timers made
  port_moves p listed is y index pc was regs port made here made_is = record {
    was = running r.tie index was;
    here = here;
    made_is = made_is;
    resources = others_fewer _ _ _ _ (IsMine g r) (alone_mine g r p listed is)
        (others_of_port r.thread (port_place g r p) y.core _ (λ q ne. get_set_other y.core.ports (port_place g r p) q port ne) refl refl);
  }

  -- or a timer
  pub timer_moves : (t : ℕ) (listed : TimerUse) → IsTimer g r t listed → (y : ThreadView) (index pc : ℕ) (was regs : Regs)
      (timer : Timer) → IsAt g r y index was →
      slot (home g r) y.core r.thread ≡ Made
      (moved_on y.core pc regs y.core.ports (slice_set y.core.timers (timer_place g r t) timer)) None [] →
      MovesOn y pc regs y.core.ports (slice_set y.core.timers (timer_place g r t) timer) None
  timer_moves t listed is y index pc was regs timer here made_is = record {
    was = running r.tie index was;
    here = here;
    made_is = made_is;
    resources = others_fewer _ _ _ _ (IsMine g r) (timer_alone_mine g r t listed is)
        (others_of_timer r.thread (timer_place g r t) y.core _
        (λ q ne. get_set_other y.core.timers (timer_place g r t) q timer ne) refl refl);
  }

  -- so it passes, and stands where these items are to be done
  pub record Passes (j : ℕ) (y : ThreadView) (items : List Item) (made : Option Record) : Type 0 where
    pub pc : ℕ
    pub regs : Regs
    pub ports : List Port
    pub timers : List Timer
    pub moves : MovesOn y pc regs ports timers made
    pub bases : HasBases g r regs
    pub unwatched : is_watching items ≡ false
    pub stands : IsPlacedAt g r items j pc regs (moved_on y.core pc regs ports timers)
    pub fits : ItemsFit g r items

  -- What stands behind such a step, where the branch has done an action of its own and has other items then.
  module _ {q : ThreadView} {item : Item} {rest : List Item} (has : Has g r (item ∷ rest) q) (no_hand : q.hand ≡ None) where
    -- the program then, by what is left to the branch
    abbrev pub passed_from : List Item → Option Record → World
    passed_from items made = record (with_items q.world r.branch has.branch items) { trace = noted q.world.trace made }

    module _ (j jumps : ℕ) (few : jumps ≤ j + 1) (items : List Item) (made : Option Record) (by : Passes jumps q items made) where
      abbrev left : CoreState
      left = moved_on q.core by.pc by.regs by.ports by.timers

      -- the runner's ports are declared as they were
      ports_stand : PortsStand g r (record { core = left; world = passed_from items made; hand = None })
      ports_stand p listed is =
          let was = has.ports p listed is in
          let same = made_declared (home g r) q.core r.thread left made by.moves.made_is in
          let on = declared_there q.core.ports by.ports (port_place g r p) was.port same was.there in
          record { port = on.0; there = on.1; declared = on.2 ∙ was.declared }

      -- the thread is where these items are to be done
      stands_behind : Rest g r items jumps (record { core = left; world = passed_from items made; hand = None })
      stands_behind =
          let next = runs_with q.world r.branch has.branch (item ∷ rest) items has.runs in
          record {
            pc = by.pc;
            regs = by.regs;
            here = here_at items by.unwatched (get_set_same q.core.threads r.thread
                by.moves.was (running r.tie by.pc by.regs) by.moves.here);
            bases = by.bases;
            stands = by.stands;
            fits = by.fits;
            has = record {
              branch = record has.branch { items = items };
              runs = record { known = next.known; running = next.running; items_are = refl };
              core = has.core;
              holds = record { holds = has.holds.holds; room = has.holds.room };
              ports = ports_stand;
            };
          }

      pub both_pass : (action : Action) → OwnAction r.branch action →
          acts g.program g.stimulus q.world action ≡ Some (passed_from items made) → Goes g r j q
      both_pass action own acted = record {
        left = left;
        made = made;
        made_is = by.moves.made_is;
        guarantee = record {
          clock = refl;
          others = λ u ne not_held. get_set_other q.core.threads r.thread u (running r.tie by.pc by.regs) ne;
          as_many = length-set q.core.threads r.thread (running r.tie by.pc by.regs);
          words = λ n not_mine. refl;
          sizes = made_sizes (home g r) q.core r.thread left made by.moves.made_is;
          resources = by.moves.resources;
        };
        roots = refl;
        syncs = refl;
        channel_ends = refl;
        no_hand = no_hand;
        items = items;
        acts = record {
          branch = has.branch;
          known = has.runs.known;
          mode = has.runs.running;
          core = has.core;
          world = passed_from items made;
          action = action;
          own = own;
          acted = acted;
          is_next = record { clocks = refl; branches = refl; store = λ u c. refl; trace = refl };
          inboxes = refl;
        };
        jumps = jumps;
        fewer = few;
        rest = stands_behind;
      }

  -- A thread is at the end of its way to a transfer over these of the runner's resources, which its branch has to do next.
  pub record AtTransfer (mine : Res → Type 0) (item : Item) (rest : List Item) (z q : ThreadView) : Type 0 where
    pub laid : IsLaidOut g r
    pub had : Has g r (item ∷ rest) z
    pub no_hand : z.hand ≡ None
    pub since : Since g r (IsApart r.stack) (apart_from mine) z q
    pub clock : slice_get q.world.clocks r.core ≡ Some q.core.clock

  -- where code leads whose branch has a transfer to do next, it is there
  pub transfer_leads : (mine : Res → Type 0) → ((res : Res) → mine res → IsMine g r res) → (Q : CoreState → Type 0) (n j : ℕ)
      (z : ThreadView) (pc : ℕ) (regs : Regs) → n ≤ cost g r → IsAt g r z pc regs →
      WithinParts (home g r) (relied g r) (IsApart r.stack) mine r.thread Q n z.core →
      IsLaidOut g r → (item : Item) (rest : List Item) → Has g r (item ∷ rest) z → z.hand ≡ None →
      ((y q : ThreadView) → Q y.core → KeptParts (relied g r) mine r.thread y.core q.core → AtTransfer mine item rest z q → NextStep g r j q) →
      Leads g r (cost g r) j z
  transfer_leads mine own Q n j z pc regs few here way laid item rest had no_hand turns =
      resource_leads g r mine own Q n j z pc regs few here way (λ y q h k since.
      turns y q h (parts_kept g r mine own k)
      (record { laid = laid; had = had; no_hand = no_hand; since = since; clock = k.clock }))

  module _ {mine : Res → Type 0} {item : Item} {rest : List Item} {z q : ThreadView} (at : AtTransfer mine item rest z q) where
    pub has_still : Has g r (item ∷ rest) q
    has_still = has_since_port g r at.laid (apart_from mine) (item ∷ rest) z q at.since at.had

    -- the setting of the branch's step
    abbrev pub setting : source.Setting
    setting = step_of g.program g.stimulus q.world r.branch has_still.branch rest

    -- both sides have the same clock, on the same core
    pub same_clock : clock_of setting ≡ q.core.clock
    same_clock = ap (slice_index q.world.clocks) has_still.core ∙ get_or_from_slice_get q.world.clocks r.core q.core.clock 0 at.clock

    pub same_core : (home g r).number ≡ setting.branch.core
    same_core = sym has_still.core

    -- both err
    pub both_err : (kind : ErrorKind) (pos : Pos) → works.Errs (home g r) r.thread kind pos q.core →
        does_item setting item ≡ errs setting (kind_of kind) pos → turn.Errs g r q
    both_err kind pos traps erred = value_errs g r q item rest kind pos traps has_still (at.since.hand ∙ at.no_hand) erred

    -- the program behind the transfer, by what is left to the branch
    abbrev pub passed : List Item → Option Record → World
    passed items made = passed_from has_still (at.since.hand ∙ at.no_hand) items made

    -- it passes on both sides
    pub transfer_passes : (j : ℕ) (items : List Item) (made : Option Record) → does_item setting item ≡ Some (passed items made) →
        Passes j q items made → NextStep g r j q
    transfer_passes j items made step passes =
        turn.goes_on (both_pass has_still (at.since.hand ∙ at.no_hand) j j (omega arith) items made passes (go r.branch) own_go
        (item_acts g.program g.stimulus r.branch q.world has_still.branch item rest has_still.runs ∙ step))

  -- a statement's transfer passes on both sides, or neither goes on
  pub transfer_turn : {mine : Res → Type 0} {t : kernel.Statement} {rest : List Item} {z q : ThreadView}
      (at : AtTransfer mine (does t) rest z q) (j : ℕ) (may_pass : Bool) (items : List Item) (made : Option Record) →
      does_item (setting at) (does t) ≡ only_if may_pass (passed at items made) →
      (may_pass ≡ false → slot (home g r) q.core r.thread ≡ Paused) → (may_pass ≡ true → Passes j q items made) → NextStep g r j q
  transfer_turn at j true items made step waits passes = transfer_passes at j items made step (passes refl)
  transfer_turn {t = t} {rest = rest} {q = q} at j false items made step waits passes = turn.pauses (waits refl) (record {
    goes = item_acts g.program g.stimulus r.branch q.world (has_still at).branch (does t) rest (has_still at).runs ∙ step;
    takes = takes_none g r.branch q.world (has_still at).branch t rest (has_still at).runs;
    takes_default = takes_no_default g r.branch q.world (has_still at).branch t rest (has_still at).runs;
  })
