-- A turn that changes nothing on the core but the thread's own state and the core's words, beside an action of the branch.
use Rattle.std.proofs.Common.{◌≡◌, ℕ, ◌+◌, ◌≤◌, Bool, false, List, ◌∷◌, length, Option, Some, None, refl, ap, ◌∙◌, subst}
use Rattle.std.specs.Prelude.{slice_get}
use Rattle.std.proofs.lemmas.List.{length-set}
use Rattle.xs_instr.specs.declared.image.Home.{Home}
use Rattle.xs_instr.specs.declared.instr.Instr.{Instr}
use Rattle.xs_instr.specs.declared.state.CoreState.{CoreState}
use Rattle.xs_instr.specs.declared.state.Regs.{Regs}
use Rattle.xs_instr.specs.Did.{makes}
use Rattle.xs_instr.specs.OwnSteps.{temporary}
use Rattle.xs_instr.specs.Rows.{put_local, row}
use Rattle.xs_instr.specs.Slot.{slot, turn_at, runs_on, event_or_row, pick_where, instr_at, is_waiteu}
use Rattle.xc_kernel.specs.Eval.{Store, words_of}
use Rattle.xc_kernel.specs.Things.{change}
use Rattle.xc_meaning.specs.States.Items.{Item}
use Rattle.xc_meaning.specs.States.Worlds.{World, go}
use Rattle.xc_meaning.specs.Runs.{acts}
use Rattle.xc_meaning.specs.Uses.{by_item}
use Rattle.xl_expr.proofs.Lists.{get_set_same, get_set_other}
use Rattle.xl_expr.proofs.ResourceParts.{part_same, others_same}
use Rattle.xl_statements.specs.Pieces.{Exit}
use Rattle.xr_simulation.specs.Fits.{ItemsFit}
use Rattle.xr_simulation.specs.Runners.{HoldsPlaces, Setting, Runner, MayChange, home}
use Rattle.xr_simulation.specs.ThreadViews.{ThreadView, running}
use Rattle.xr_simulation.specs.NextStep.{HasBases, Has, IsAt, ItemsFrom, Goes, SameParts, IsPlacedAt, first_changes, is_watching, own_go}
use Rattle.xr_simulation.proofs.ItemCode.Evaluations.{runs_with, with_items}
use Rattle.xr_simulation.proofs.RelyGuarantee.Layouts.{ports_last}
use Rattle.xr_simulation.proofs.Relation.Sizes.{words_sized}
use Rattle.xr_simulation.proofs.RelyGuarantee.Stands.{items_stand}
use Rattle.xr_simulation.proofs.RelyGuarantee.Events.{here_at, items_unwatched}

-- the turn of a running thread that takes no events is the row of its instruction
pub turn_is_row : (h : Home) (a : CoreState) (t : ℕ) (tie : Option ℕ) (pc : ℕ) (regs : Regs) (i : Instr) → slice_get a.threads t ≡ Some (running tie pc regs) → instr_at h pc ≡ Some i → is_waiteu (Some i) ≡ false → slot h a t ≡ row h a t (running tie pc regs) i
turn_is_row h a t tie pc regs i here code no_event =
    ap (turn_at h a t) here
    ∙ ap (runs_on h a t (running tie pc regs)) code
    ∙ ap (λ (b : Bool). event_or_row h a t (running tie pc regs) (Some i) (pick_where h a t b)) no_event

module _ (g : Setting) (r : Runner) where
  -- The thread stands at an index, and its turn leads to another with these registers and words.
  pub record MakesOwn (y : ThreadView) (pc : ℕ) (regs : Regs) (words : List ℕ) : Type 0 where
    pub index : ℕ
    pub here : IsAt g r y index regs
    pub made : slot (home g r) y.core r.thread ≡ makes (put_local y.core r.thread (running r.tie index regs) (record { pc = pc; regs = regs; words = words }))
    pub others : (w : ℕ) → (MayChange g r w → ⊥) → slice_get words w ≡ slice_get y.core.words w
    pub size : length words ≡ length y.core.words

  -- an item is done by such a turn, which leaves these items and this store
  pub own_goes : (j : ℕ) (y : ThreadView) (pc : ℕ) (regs : Regs) (words : List ℕ) → MakesOwn y pc regs words → HasBases g r regs →
      y.hand ≡ None →
      (item : Item) (rest items : List Item) (store : Store) (has : Has g r (item ∷ rest) y) →
      acts g.program g.stimulus y.world (go r.branch) ≡ Some (record (with_items y.world r.branch has.branch items) { store = store }) →
      ((v : ℕ) → by_item (change v) item ≡ false → words_of store v ≡ words_of y.world.store v) →
      HoldsPlaces g r.core r.footprint.uses words store → r.stack + temporary ≤ length words → is_watching items ≡ false →
      (jumps : ℕ) → ((core : CoreState) → SameParts g r.core items y.core core → IsPlacedAt g r items jumps pc regs core) →
      ItemsFit g r items → jumps ≤ j + 1 → Goes g r j y
  own_goes j y pc regs words made bases no_hand item rest items store has acted same holds room unwatched jumps stands fits fewer =
      let th = running r.tie made.index regs in
      let th' = running r.tie pc regs in
      let left = put_local y.core r.thread th (record { pc = pc; regs = regs; words = words }) in
      let stand = stands left (λ part on. part_same y.core left refl refl refl part) in
      let x : World = record (with_items y.world r.branch has.branch items) { store = store } in
      record {
        left = left;
        made = None;
        made_is = made.made;
        guarantee = record {
          clock = refl;
          others = λ u ne not_held. get_set_other y.core.threads r.thread u th' ne;
          as_many = length-set y.core.threads r.thread th';
          words = made.others;
          sizes = words_sized y.core left made.size refl refl refl;
          resources = others_same _ _ _ _ refl refl refl;
        };
        roots = refl;
        syncs = refl;
        channel_ends = refl;
        no_hand = no_hand;
        items = items;
        acts = record {
          branch = has.branch;
          known = has.runs.known;
          mode = has.runs.running;
          core = has.core;
          world = x;
          action = go r.branch;
          own = own_go;
          acted = acted;
          is_next = record {
            clocks = refl;
            branches = refl;
            store = λ v none. same v
                (subst (λ these. first_changes these v ≡ false) has.runs.items_are none);
            trace = refl;
          };
          inboxes = refl;
        };
        jumps = jumps;
        fewer = fewer;
        rest = record {
          pc = pc;
          regs = regs;
          here = here_at items unwatched
              (get_set_same y.core.threads r.thread th th' made.here);
          bases = bases;
          stands = stand;
          fits = fits;
          has = record {
            branch = record has.branch { items = items };
            runs = let n = runs_with y.world r.branch has.branch (item ∷ rest) items has.runs in record { known = n.known; running = n.running; items_are = n.items_are };
            core = has.core;
            holds = record { holds = holds; room = room };
            ports = ports_last g r y (record { core = left; world = x; hand = None }) (λ p listed is. refl) has.ports;
          };
        };
      }

  -- the same where the words and the store stay
  pub spot_goes : (j : ℕ) (y : ThreadView) (pc : ℕ) (regs : Regs) → MakesOwn y pc regs y.core.words → HasBases g r regs → y.hand ≡ None →
      (item : Item) (rest items : List Item) (has : Has g r (item ∷ rest) y) →
      acts g.program g.stimulus y.world (go r.branch) ≡ Some (with_items y.world r.branch has.branch items) →
      (exits : List Exit) (jumps : ℕ) → ItemsFrom g r items exits pc jumps → ItemsFit g r items → jumps ≤ j + 1 → Goes g r j y
  spot_goes j y pc regs made bases no_hand item rest items has acted exits jumps at_code fits fewer =
      own_goes j y pc regs y.core.words made bases no_hand item rest items y.world.store has acted (λ v c. refl) has.holds.holds
      has.holds.room (items_unwatched g r items exits pc jumps at_code) jumps
      (λ core same. items_stand g r items exits pc jumps regs core at_code) fits fewer
