-- A thread's turn is a branch's own step: it errs, goes on, ends and is freed, or ends and waits.
use Rattle.std.proofs.Common.{◌≡◌, ℕ, ◌+◌, ◌≤◌, inl, inr, length, Some, None, refl, sym, ap, ◌∙◌, subst, arith, [], ◌∷◌}
use Rattle.std.specs.Prelude.{not, ◌&&◌, nat_eq, slice_get, slice_set}
use Rattle.std.proofs.lemmas.List.{length-set}
use Rattle.std.proofs.lemmas.Option.{same_Some}
use Rattle.xs_instr.specs.declared.state.CoreState.{CoreState}
use Rattle.xs_instr.specs.declared.state.Mode.TheVariants.{Trapped}
use Rattle.xs_instr.specs.declared.state.Thread.{Thread}
use Rattle.xs_instr.specs.declared.trace.Record.TheVariants.{Fault}
use Rattle.xs_instr.specs.Slot.{trapped, trapped_at}
use Rattle.xs_instr.specs.OwnSteps.{temporary}
use Rattle.xc_kernel.specs.declared.kernel.PortUse.{PortUse}
use Rattle.xc_meaning.specs.Runs.{acts_all}
use Rattle.xc_meaning.specs.States.Branches.{Branch, runs, has_ended}
use Rattle.xc_meaning.specs.States.Worlds.{World}
use Rattle.xl_expr.proofs.Lists.{get_set_same, get_set_other}
use Rattle.xl_expr.proofs.ResourceParts.{others_same}
use Rattle.xr_simulation.specs.Runners.{HoldsPlaces, Setting, Runner, IsPort, port_place}
use Rattle.xr_simulation.specs.ThreadViews.{Guarantee, ThreadView, running_so}
use Rattle.xr_simulation.specs.MatchStates.{counts, is_of_root, one_where}
use Rattle.xr_simulation.specs.NextStep.{Errs, Frees, Goes, HoldsStore, IsFree, IsWaitingTied, PortsStand, Waits, failed, finished, is_watching}
use Rattle.xr_simulation.proofs.Relation.Counts.{ended_counts, counts_own}
use Rattle.xr_simulation.proofs.OwnSteps.Events.{OwnStep}

module _ (g : Setting) (r : Runner) (c : ℕ) (a : CoreState) (x : World) where
  abbrev now : ThreadView
  now = record { core = a; world = x; hand = None }

  -- the thread does an item, and the branch goes on
  abbrev pub goes_step : (j : ℕ) → Goes g r j now → OwnStep g r c a x
  goes_step j h = record {
    left = h.left;
    made = h.made;
    branch = h.acts.branch;
    known = h.acts.known;
    running = h.acts.mode;
    world = h.acts.world;
    piece = h.acts.action ∷ [];
    acted = ap (λ o. acts_all g.program g.stimulus o []) h.acts.acted;
    paid = counts_own g r.branch x h.acts.branch h.acts.action [] h.acts.known h.acts.own;
    next = record h.acts.branch { items = h.items };
    transfer = r.transfer;
    is_next = h.acts.is_next;
    birth = refl;
    core = refl;
    guarantee = h.guarantee;
    syncs = h.syncs;
    tie = λ thread there. inl (ap (λ (k : Thread). k.tie)
        (same_Some thread (running_so (is_watching h.items) r.tie h.rest.pc h.rest.regs) (sym there ∙ h.rest.here)));
    roots = ap (λ k. k + counts c h.acts.branch) h.roots;
    holds = h.rest.has.holds;
    ports = h.rest.has.ports;
  }

  -- memory and ports that are as they were
  pub store_as : (z y : ThreadView) → y.core.words ≡ z.core.words → y.world.store ≡ z.world.store → HoldsStore g r z → HoldsStore g r y
  store_as z y words store h = record {
    holds = subst (λ l. HoldsPlaces g r.core r.footprint.uses l y.world.store) (sym words)
        (subst (HoldsPlaces g r.core r.footprint.uses z.core.words) (sym store) h.holds);
    room = subst (λ l. r.stack + temporary ≤ length l) (sym words) h.room;
  }

  pub ports_as : (z y : ThreadView) →
      ((p : ℕ) (listed : PortUse) → IsPort g r p listed →
      slice_get y.core.ports (port_place g r p) ≡ slice_get z.core.ports (port_place g r p)) → PortsStand g r z → PortsStand g r y
  ports_as z y same h p listed is = let k = h p listed is in record { port = k.port; there = same p listed is ∙ k.there; declared = k.declared }

  -- what a trap leaves
  pub record HasTrapped (b : CoreState) (thread : Thread) : Type 0 where
    pub guarantee : Guarantee g r now (record { core = b; world = x; hand = None })
    pub roots : b.roots ≡ a.roots
    pub syncs : b.syncs ≡ a.syncs
    pub words : b.words ≡ a.words
    pub ports : b.ports ≡ a.ports
    pub channel_ends : b.ends ≡ a.ends
    pub there : slice_get b.threads r.thread ≡ Some (record thread { mode = Trapped })

  pub trap_leaves : (thread : Thread) → slice_get a.threads r.thread ≡ Some thread → HasTrapped (trapped a r.thread) thread
  trap_leaves thread at =
      let th' : Thread = record thread { mode = Trapped } in
      let b : CoreState = record a { threads = slice_set a.threads r.thread th' } in
      let is : b ≡ trapped a r.thread = ap (trapped_at a r.thread) (sym at) in
      subst (λ k. HasTrapped k thread) is (record {
        guarantee = record {
          clock = refl;
          others = λ u ne free. get_set_other a.threads r.thread u th' ne;
          as_many = length-set a.threads r.thread th';
          words = λ w n. refl;
          sizes = refl;
          resources = others_same _ _ _ _ refl refl refl;
        };
        roots = refl;
        syncs = refl;
        words = refl;
        ports = refl;
        channel_ends = refl;
        there = get_set_same a.threads r.thread thread th' at;
      })

  -- the thread traps, and the branch errs
  abbrev pub errs_step : (thread : Thread) → slice_get a.threads r.thread ≡ Some thread → thread.tie ≡ r.tie → Errs g r now → OwnStep g r c a x
  errs_step thread at tied h =
      let t = trap_leaves thread at in
      record {
        left = trapped a r.thread;
        made = Some (Fault r.core h.pos h.kind);
        branch = h.acts.branch;
        known = h.acts.known;
        running = h.acts.mode;
        world = h.acts.world;
        piece = h.acts.action ∷ [];
        acted = ap (λ o. acts_all g.program g.stimulus o []) h.acts.acted;
        paid = counts_own g r.branch x h.acts.branch h.acts.action [] h.acts.known h.acts.own;
        next = failed h.acts.branch;
        transfer = r.transfer;
        is_next = h.acts.is_next;
        birth = refl;
        core = refl;
        guarantee = t.guarantee;
        syncs = t.syncs;
        tie = λ th there. inl (ap (λ (k : Thread). k.tie) (same_Some th (record thread { mode = Trapped }) (sym there ∙ t.there)) ∙ tied);
        roots =
            ap (λ k. k + counts c h.acts.branch) t.roots
            ∙ ap (λ b. a.roots + one_where (nat_eq h.acts.branch.core c && (not b && is_of_root h.acts.branch.birth))) (ap has_ended h.acts.mode);
        holds = store_as now (record { core = trapped a r.thread; world = h.acts.world; hand = None }) t.words h.store h.holds;
        ports = ports_as now (record { core = trapped a r.thread; world = h.acts.world; hand = None }) (λ p listed is. ap (λ l. slice_get l (port_place g r p)) t.ports) h.ports;
      }

  -- the branch of a thread that ends has ended, and all else stays
  abbrev pub frees_step : 1 ≤ a.roots → ((b : Branch) → slice_get x.branches r.branch ≡ Some b → b.mode ≡ runs → counts c b ≡ 1) → Frees g r now → OwnStep g r c a x
  frees_step some root h = record {
    left = h.left;
    made = None;
    branch = h.acts.branch;
    known = h.acts.known;
    running = h.acts.mode;
    world = h.acts.world;
    piece = h.acts.action ∷ [];
    acted = ap (λ o. acts_all g.program g.stimulus o []) h.acts.acted;
    paid = counts_own g r.branch x h.acts.branch h.acts.action [] h.acts.known h.acts.own;
    next = finished h.acts.branch;
    transfer = r.transfer;
    is_next = h.acts.is_next;
    birth = refl;
    core = refl;
    guarantee = h.guarantee;
    syncs = h.syncs;
    tie = λ thread there. inr ((subst IsFree there h.unused).untied);
    roots = let one = root h.acts.branch h.acts.known h.acts.mode in let none = ended_counts c (finished h.acts.branch) refl in let less = h.roots in omega arith;
    holds = store_as now (record { core = h.left; world = h.acts.world; hand = None }) h.words h.store h.has.holds;
    ports = ports_as now (record { core = h.left; world = h.acts.world; hand = None }) (λ p listed is. ap (λ l. slice_get l (port_place g r p)) h.ports) h.has.ports;
  }

  abbrev pub waits_step : ((b : Branch) → slice_get x.branches r.branch ≡ Some b → counts c b ≡ 0) → Waits g r now → OwnStep g r c a x
  waits_step made h = record {
    left = h.left;
    made = None;
    branch = h.acts.branch;
    known = h.acts.known;
    running = h.acts.mode;
    world = h.acts.world;
    piece = h.acts.action ∷ [];
    acted = ap (λ o. acts_all g.program g.stimulus o []) h.acts.acted;
    paid = counts_own g r.branch x h.acts.branch h.acts.action [] h.acts.known h.acts.own;
    next = finished h.acts.branch;
    transfer = r.transfer;
    is_next = h.acts.is_next;
    birth = refl;
    core = refl;
    guarantee = h.guarantee;
    syncs = h.syncs;
    tie = λ thread there. inl ((subst (IsWaitingTied h.sync) there h.waits).tied ∙ sym h.tied);
    roots = let old = made h.acts.branch h.acts.known in let none = ended_counts c (finished h.acts.branch) refl in let same = h.roots in omega arith;
    holds = store_as now (record { core = h.left; world = h.acts.world; hand = None }) h.words h.store h.has.holds;
    ports = ports_as now (record { core = h.left; world = h.acts.world; hand = None }) (λ p listed is. ap (λ l. slice_get l (port_place g r p)) h.ports) h.has.ports;
  }
