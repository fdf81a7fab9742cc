-- A select: from its code the thread comes soon to the instruction that lets it take events, with its enabled cases set up; or it traps where
-- a guard, a time or a condition errs. Its branch begins the select there, or errs.
use Rattle.std.proofs.Common.{◌≡◌, ℕ, ◌+◌, ◌*◌, ◌≤◌, Bool, true, false, List, ◌∷◌, length, Some, None, refl, sym, ap, ◌∙◌, subst, arith}
use Rattle.std.specs.Prelude.{slice_get}
use Rattle.std.proofs.lemmas.List.{length-set}
use Rattle.xw_words.specs.declared.pos.Pos.{Pos}
use Rattle.xs_instr.specs.declared.instr.Instr.TheVariants.{Brfu}
use Rattle.xs_instr.specs.declared.state.CoreState.{CoreState}
use Rattle.xs_instr.specs.declared.state.Port.{Port as PortState}
use Rattle.xs_instr.specs.declared.state.Regs.{Regs}
use Rattle.xs_instr.specs.declared.state.Res.{Res}
use Rattle.xs_instr.specs.declared.state.Thread.{Thread}
use Rattle.xs_instr.specs.Events.{vector_of}
use Rattle.xs_instr.specs.OwnSteps.{IsApart}
use Rattle.xs_instr.specs.Rows.{with_thread}
use Rattle.xc_kernel.specs.declared.kernel.PortUse.{PortUse}
use Rattle.xc_kernel.specs.declared.statement.KRes.{KRes}
use Rattle.xc_kernel.specs.declared.statement.KRes.TheVariants.{Port, Timer, Chan}
use Rattle.xc_kernel.specs.Plain as kernel
use Rattle.xc_meaning.specs.Runs.{acts}
use Rattle.xc_meaning.specs.Settings.Select.{Enabled, begins_select, default_of, enabled, these, wrong}
use Rattle.xc_meaning.specs.States.Items.{Choice, Item, When, body_items, chooses, does}
use Rattle.xc_meaning.specs.States.Worlds.{World, go}
use Rattle.xl_expr.specs.PartSteps.{KeptParts}
use Rattle.xl_expr.proofs.Lists.{get_set_other, get_set_same}
use Rattle.xl_expr.proofs.ResourceParts.{others_same}
use Rattle.xl_select.specs.Armed as armed
use Rattle.xl_select.specs.Opening.{CasesKept, IsOfCases, OpeningOutcome, OpensTo, TakingStands, default_targets}
use Rattle.xl_select.specs.OpeningCode.{cases_parts, is_default}
use Rattle.xl_statements.specs.Pieces.{Exit, PieceAt}
use Rattle.xr_events.specs.Armed.{IsSetFor}
use Rattle.xr_events.specs.Turns.{WaitsAt}
use Rattle.xr_simulation.specs.Fits.{Fits, ItemsFit}
use Rattle.xr_simulation.specs.NextStep as turn
use Rattle.xr_simulation.specs.NextStep.{CaseAt, Goes, Has, HasBases, IsAt, IsSized, ItemsFrom, Leads, NextStep, Rest, StableNextStep, StandsAtSelect, StandsInSides, StatementLeads, cost, own_go, resources_here}
use Rattle.xr_simulation.specs.Runners.{IsLaidOut, IsMine, IsPort, Runner, Setting, code, home, plan, port_place, relied}
use Rattle.xr_simulation.specs.Sizes.{sizes_of}
use Rattle.xr_simulation.specs.ThreadViews.{ThreadView, Rely, running, running_so}
use Rattle.xr_simulation.proofs.Image.Bases.{bases_armed}
use Rattle.xr_simulation.proofs.ItemCode.Evaluations.{item_acts, runs_with, with_items}
use Rattle.xr_simulation.proofs.ItemCode.ResourceTurns.{AtTransfer, both_err, has_still, setting}
use Rattle.xr_simulation.proofs.ItemCode.SelectCases.{CaseCode, case_at, default_at, default_stands, target_at}
use Rattle.xr_simulation.proofs.ItemCode.SelectResources.{CaseIsGood, cases_apart, cases_cost, cases_laid, cases_stand, enabled_still, good_at, named_own, named_there, named_watched, places}
use Rattle.xr_simulation.proofs.ItemCode.Selects.{begun_fits}
use Rattle.xr_simulation.proofs.Relation.Sizes.{same_sizes}
use Rattle.xr_simulation.proofs.RelyGuarantee.Arrival.{Since, apart_from, apart_of_changes, arrives_relied, at_runs, parts_kept, since_kept}
use Rattle.xr_simulation.proofs.RelyGuarantee.Layouts.{declared_since, room_of, runs_at}
use Rattle.xr_simulation.proofs.RelyGuarantee.ThreadViews.{leads_as, leads_more}

module _ (g : Setting) (r : Runner) where
  -- a resource is set in the one sense where it is in the other
  set_as : (core : CoreState) (when : When) (res : KRes) → armed.IsSetFor core when (places g r res) →
      IsSetFor (resources_here g r) core when res
  set_as core when (Port p) h = h
  set_as core when (Timer t) h = h
  set_as core when (Chan c) h = tt

  -- the instruction at which an event is taken
  waits_at : (d : kernel.Default) (target : ℕ) (pos : Pos) (index end : ℕ) → TakingStands (home g r) (is_default d) target pos index end →
      WaitsAt (home g r) index (default_of d)
  waits_at kernel.no_default target pos index end h = h.0
  waits_at (kernel.default ss) target pos index end h = h.0

  -- behind a look for one a jump leads to the default
  jumps_at : (b : Bool) (target : ℕ) (pos : Pos) (index end : ℕ) → TakingStands (home g r) b target pos index end → b ≡ true →
      slice_get (code g r).instrs (index + 1) ≡ Some (Brfu target)
  jumps_at true target pos index end h is = h.2
  jumps_at false target pos index end h is = absurd (let z : ⊥ = cc in z)

-- The code of a select stands from an index on, and the runner's thread is there.
module _ (g : Setting) (r : Runner) (cs : kernel.Cases) (otherwise : kernel.Default) (pos : Pos) (rest : List Item) (exits : List Exit)
    (pc pc' j : ℕ) (z : ThreadView) (regs : Regs) (laid : IsLaidOut g r)
    (piece : PieceAt (code g r) (plan g r) r.sides (kernel.select cs otherwise pos) exits pc pc')
    (fits : Fits g r (kernel.select cs otherwise pos)) (sided : StandsInSides g r (kernel.select cs otherwise pos))
    (behind : ItemsFrom g r rest exits pc' j) (rest_fits : ItemsFit g r rest)
    (has : Has g r (does (kernel.select cs otherwise pos) ∷ rest) z) (sized : IsSized g r z) (bases : HasBases g r regs) where
  abbrev first : Item
  first = does (kernel.select cs otherwise pos)

  abbrev mine : Res → Type 0
  mine = IsOfCases (places g r) cs

  own : (res : Res) → mine res → IsMine g r res
  own = named_own g r laid cs fits.0 sided

  abbrev end : ℕ
  end = pc + length piece.lines

  abbrev ToTaking : List Choice → CoreState → Type 0
  ToTaking choices c =
      OpensTo (home g r) (relied g r) r.stack r.thread (running r.tie pc regs) z.core (places g r) cs piece.targets (is_default otherwise)
      piece.default_target pos end choices c

  -- At the instruction that lets it take events, with its enabled cases set up.
  module _ (q : ThreadView) (at : AtTransfer g r mine first rest z q) (choices : List Choice)
      (are : enabled q.world.store cs ≡ these choices) (w : ToTaking choices q.core) where
    abbrev begun : List Item
    begun = chooses choices (default_of otherwise) ∷ rest

    abbrev next : Thread
    next = running_so true r.tie (w.index + 1) w.regs

    abbrev left : CoreState
    left = with_thread q.core r.thread next

    abbrev has_q : Has g r (first ∷ rest) q
    has_q = has_still g r at

    abbrev world : World
    world = with_items q.world r.branch has_q.branch begun

    -- An enabled case: it is one of the select's, and where its event leads its code stands.
    module _ (n : ℕ) (c : Choice) (listed : slice_get choices n ≡ Some c) where
      abbrev vector : ℕ
      vector = vector_of left.events (places g r c.input.resource)

      leads : armed.LeadsTo cs piece.targets c vector
      leads = w.armed.leads n c listed

      abbrev its_case : kernel.Case
      its_case = kernel.case leads.guard c.input leads.body

      good : CaseIsGood g r its_case
      good = good_at g r cs fits.0 sided leads.place its_case leads.case_is

      its_code : CaseCode g r exits otherwise pc' vector its_case
      its_code =
          target_at g r exits otherwise pc' cs piece.targets (default_targets (is_default otherwise) piece.default_target) piece.cases_at
          piece.as_many leads.place its_case vector leads.case_is leads.target_is

      stands_there : CaseAt g r c.input.resource c.input (body_items c.body rest) (j + 1) vector
      stands_there =
          subst (λ b. CaseAt g r c.input.resource c.input (body_items b rest) (j + 1) vector) (sym leads.body_is)
          (case_at g r exits otherwise pc' rest j behind c.input leads.body vector its_code laid good.0.1.0.from good.1)

    stands : StandsAtSelect g r choices (default_of otherwise) rest j (w.index + 1) left
    stands = record {
      code = waits_at g r otherwise piece.default_target pos (w.index + 1) end w.takes;
      armed = record {
        only = w.armed.only;
        enabled = w.armed.enabled;
        set = λ n c listed. set_as g r q.core c.when c.input.resource (w.armed.set n c listed);
      };
      ends = λ n c listed. (good n c listed).1;
      at_cases = stands_there;
      at_default =
          default_stands g r exits otherwise pc' rest j behind piece.default_target (w.index + 1 + 1)
          (default_at g r exits otherwise pc' cs piece.targets (default_targets (is_default otherwise) piece.default_target) piece.cases_at
          piece.as_many)
          (jumps_at g r (is_default otherwise) piece.default_target pos (w.index + 1) end w.takes);
    }

    acted : acts g.program g.stimulus q.world (go r.branch) ≡ Some world
    acted =
        item_acts g.program g.stimulus r.branch q.world has_q.branch first rest has_q.runs
        ∙ ap (begins_select (setting g r at) (default_of otherwise)) are

    begun_rest : Rest g r begun j (record { core = left; world = world; hand = None })
    begun_rest =
        let runs = runs_with q.world r.branch has_q.branch (first ∷ rest) begun has_q.runs in
        record {
          pc = w.index + 1;
          regs = w.regs;
          here = get_set_same q.core.threads r.thread (running r.tie w.index w.regs) next w.here;
          bases = bases_armed g r regs w.regs w.others bases;
          stands = stands;
          fits = (begun_fits g r cs otherwise pos q.world.store choices are fits, rest_fits);
          has = record {
            branch = record has_q.branch { items = begun };
            runs = record { known = runs.known; running = runs.running; items_are = refl };
            core = has_q.core;
            holds = record { holds = has_q.holds.holds; room = has_q.holds.room };
            ports = λ p listed is. let its = has_q.ports p listed is in record { port = its.port; there = its.there; declared = its.declared };
          };
        }

    -- the thread takes events from then on, and its branch has begun the select
    begins : Goes g r j q
    begins = record {
      left = left;
      made = None;
      made_is = w.goes;
      guarantee = record {
        clock = refl;
        others = λ u ne not_held. get_set_other q.core.threads r.thread u next ne;
        as_many = length-set q.core.threads r.thread next;
        words = λ n not_mine. refl;
        sizes = same_sizes (home g r) q.core r.thread left w.goes;
        resources = others_same (IsMine g r) r.thread q.core left refl refl refl;
      };
      roots = refl;
      syncs = refl;
      channel_ends = refl;
      no_hand = at.since.hand ∙ at.no_hand;
      items = begun;
      acts = record {
        branch = has_q.branch;
        known = has_q.runs.known;
        mode = has_q.runs.running;
        core = has_q.core;
        world = world;
        action = go r.branch;
        own = own_go;
        acted = acted;
        is_next = record { clocks = refl; branches = refl; store = λ u c. refl; trace = refl };
        inboxes = refl;
      };
      jumps = j;
      fewer = omega arith;
      rest = begun_rest;
    }

  abbrev Outcome : Enabled → CoreState → Type 0
  Outcome w c =
      OpeningOutcome (home g r) (relied g r) r.stack r.thread (running r.tie pc regs) z.core (places g r) cs piece.targets
      (is_default otherwise) piece.default_target pos end w c

  -- at the end of its way the thread's turn is next
  turns : (w : Enabled) → enabled z.world.store cs ≡ w → (y q : ThreadView) → Outcome w y.core →
      KeptParts (relied g r) mine r.thread y.core q.core → AtTransfer g r mine first rest z q → NextStep g r j q
  turns (these choices) is y q h kept at =
      turn.goes_on (begins q at choices (enabled_still g r z.world.store q.world.store at.since.store cs fits.0 ∙ is) (h q.core kept))
  turns (wrong kind place) is y q h kept at =
      turn.errs (both_err g r at kind place (h q.core kept)
      (ap (begins_select (setting g r at) (default_of otherwise))
      (enabled_still g r z.world.store q.world.store at.since.store cs fits.0 ∙ is)))

  -- what others leave is what the code relies on
  relied_on : (y x : ThreadView) → sizes_of x.core ≡ sizes_of z.core → Since g r (IsApart r.stack) (apart_from mine) z x → Rely g r y x →
      CasesKept (relied g r) (places g r) cs r.thread y.core x.core
  relied_on y x sizes since k =
      let all = sizes ∙ sized in
      let ports : (p : ℕ) (listed : PortUse) → IsPort g r p listed → (port : PortState) × (slice_get x.core.ports (port_place g r p) ≡ Some port) =
      λ p listed is. let its = declared_since g r (IsApart r.stack) (apart_from mine) z x since has.ports p listed is in (its.port, its.there) in
      record {
        own = parts_kept g r mine own k;
        there = named_there g r laid cs fits.0 sided x.core all ports;
        watched = named_watched g r laid cs fits.0 sided x.core all ports;
      }

  opening_leads : IsAt g r z pc regs → z.hand ≡ None → Leads g r (cost g r) j z
  opening_leads here no_hand =
      let most = 8 * cases_parts cs + 2 in
      let few : most ≤ cost g r = let parts = cases_cost cs in let counted = fits.2 in omega (arith, parts, counted) in
      let w = enabled z.world.store cs in
      leads_more g r (StableNextStep g r j) most (cost g r) z few
      (leads_as g r (λ y. Outcome w y.core × Since g r (IsApart r.stack) (apart_from mine) z y) (StableNextStep g r j) most z
      (λ y h q k.
      let since = since_kept g r (IsApart r.stack) (apart_from mine) h.1 k in
      turns w refl y q h.0 (parts_kept g r mine own k)
      (record { laid = laid; had = has; no_hand = no_hand; since = since; clock = k.clock }))
      (arrives_relied g r (IsApart r.stack) (apart_of_changes g r) mine own z (CasesKept (relied g r) (places g r) cs r.thread) relied_on
      (Outcome w) most (at_runs g r z pc regs here)
      (piece.opens.by (home g r) (relied g r) r.stack r.thread (running r.tie pc regs) z.world.store (places g r) piece.targets
      piece.default_target z.core piece.as_many piece.stand (runs_at g r z pc regs here) (room_of g r laid z regs bases has.holds)
      (cases_laid g r laid z regs bases has.holds cs fits.0) (cases_stand g r laid z regs bases sized has.ports cs fits.0 sided)
      (cases_apart g r laid cs fits.0 sided))))

-- from its code to that instruction
pub select_leads : (g : Setting) (r : Runner) (cs : kernel.Cases) (otherwise : kernel.Default) (pos : Pos) →
    StatementLeads g r (kernel.select cs otherwise pos)
select_leads g r cs otherwise pos rest exits pc pc' j z regs laid piece fits sided behind rest_fits has sized here bases no_hand =
    opening_leads g r cs otherwise pos rest exits pc pc' j z regs laid piece fits sided behind rest_fits has sized bases here no_hand
