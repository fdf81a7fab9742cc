-- The steps by which a thread gets what it needs for a `par` are silent steps of its runner.
use Rattle.std.proofs.Common.{◌≡◌, ◌≢◌, ℕ, zero, suc, ◌+◌, List, length, Some, refl, sym, ap, ◌∙◌, subst, inl, inr, ⊎_elim}
use Rattle.std.specs.Prelude.{slice_get, slice_set}
use Rattle.std.proofs.lemmas.Bool.{cases_eq}
use Rattle.std.proofs.lemmas.List.{length-set}
use Rattle.std.proofs.lemmas.Option.{same_Some}
use Rattle.xs_instr.specs.declared.state.CoreState.{CoreState}
use Rattle.xs_instr.specs.declared.state.Mode.TheVariants.{Running, Unused, Waiting}
use Rattle.xs_instr.specs.declared.state.Regs.{Regs}
use Rattle.xs_instr.specs.declared.state.Thread.{Thread}
use Rattle.xs_instr.specs.Pool.{tied_to}
use Rattle.xc_meaning.specs.States.Items.{Item}
use Rattle.xl_expr.proofs.Lists.{get_set_other, get_set_same, room_kept}
use Rattle.xl_expr.proofs.ResourceParts.{others_same}
use Rattle.xl_par.specs.Acquired as hands
use Rattle.xl_par.specs.Acquired.{Acquired, AcquiringStep, IsAmong, KeepsAcquired, WithinAcquiring, own_only}
use Rattle.xr_simulation.specs.Runners.{Setting, Runner, home, port_place, relied}
use Rattle.xr_simulation.specs.ThreadViews as views
use Rattle.xr_simulation.specs.Sizes.{sizes_of}
use Rattle.xr_simulation.specs.ThreadViews.{Guarantee, HandChange, IsSilentStep, LeadsIn, Rely, SpareFor, StillRuns, ThreadView, held_in, sync_in}
use Rattle.xr_simulation.specs.NextStep.{Has}
use Rattle.xr_simulation.proofs.RelyGuarantee.Arrival.{same_use, stack_relied}
use Rattle.xr_simulation.proofs.RelyGuarantee.Layouts.{has_kept, ports_last}
use Rattle.xr_simulation.proofs.Relation.Pools.{first_free_is, first_unused}
use Rattle.xr_simulation.proofs.Relation.Sizes.{same_sizes}

module _ (g : Setting) (r : Runner) where
  -- a thread of another mode is another one
  other_mode : (a : CoreState) (u : ℕ) (x : Thread) → StillRuns g r a → slice_get a.threads u ≡ Some x → (x.mode ≡ Running → ⊥) → u ≢ r.thread
  other_mode a u x on there not_running e =
      let same : x ≡ on.thread = same_Some x on.thread (sym there ∙ ap (slice_get a.threads) e ∙ on.there) in
      not_running (ap (λ (y : Thread). y.mode) same ∙ on.runs)

  -- the thread runs on where others than it were set before
  runs_on : (a b : CoreState) (thread : Thread) (threads : List Thread) (pc : ℕ) (regs : Regs) → StillRuns g r a → slice_get a.threads r.thread ≡ Some thread →
      slice_get threads r.thread ≡ slice_get a.threads r.thread → b.threads ≡ slice_set threads r.thread (record thread { pc = pc; regs = regs }) → StillRuns g r b
  runs_on a b thread threads pc regs on here before left =
      let th' : Thread = record thread { pc = pc; regs = regs } in
      let same : thread ≡ on.thread = same_Some thread on.thread (sym here ∙ on.there) in
      record {
        thread = th';
        there = ap (λ l. slice_get l r.thread) left ∙ get_set_same threads r.thread thread th' (before ∙ here);
        runs = ap (λ (x : Thread). x.mode) same ∙ on.runs;
        tied = ap (λ (x : Thread). x.tie) same ∙ on.tied;
        no_events = ap (λ (x : Thread). x.event_bit) same ∙ on.no_events;
      }

  -- what is kept of a view is kept of its core and hand
  pub hand_kept : (hand : Acquired) (z y : ThreadView) → z.hand ≡ Some hand → Rely g r z y → KeepsAcquired (relied g r) r.thread hand z.core y.core
  hand_kept hand z y is k = record {
    own = record { thread = k.thread; words = k.words };
    sync = λ n e. k.syncs n (inr (ap sync_in is ∙ e));
    held = λ u m. k.held u (subst (λ h. IsAmong (held_in h) u) (sym is) m);
    tied = λ n u x e there tied. k.tied n u x (ap sync_in is ∙ e) there tied;
    spare = subst (λ h. SpareFor h y.core) is k.spare;
  }

  module _ (y : ThreadView) (hand hand' : Acquired) (is : y.hand ≡ Some hand) (b : CoreState) (running_on : StillRuns g r y.core)
      (step : AcquiringStep (home g r) r.thread hand hand' y.core b) where
    abbrev next : ThreadView
    next = record { core = b; world = y.world; hand = Some hand' }

    -- what a step leaves, and who has what then
    record Left : Type 0 where
      guarantee : Guarantee g r y next
      roots : b.roots ≡ y.core.roots
      channel_ends : b.ends ≡ y.core.ends
      change : HandChange g r y next
      on : StillRuns g r b
      words : (w : ℕ) → slice_get b.words w ≡ slice_get y.core.words w
      ports : b.ports ≡ y.core.ports

    by_change : hands.Change r.thread step.thread hand hand' y.core b → Left
    by_change (own_only after words left same) =
        let th' : Thread = record step.thread { pc = after.pc; regs = after.regs } in
        let others : (u : ℕ) → u ≢ r.thread → slice_get b.threads u ≡ slice_get y.core.threads u = λ u ne. ap (λ (c : CoreState). slice_get c.threads u) left ∙ get_set_other y.core.threads r.thread u th' ne in
        let all_words : (w : ℕ) → slice_get b.words w ≡ slice_get y.core.words w = λ w. ap (λ (c : CoreState). slice_get c.words w) left ∙ words w in
        record {
          guarantee = record {
            clock = ap (λ (c : CoreState). c.clock) left;
            others = λ u ne free. others u ne;
            as_many = ap (λ (c : CoreState). length c.threads) left ∙ length-set y.core.threads r.thread th';
            words = λ w mine. all_words w;
            sizes = same_sizes (home g r) y.core r.thread b step.made;
            resources = others_same _ _ _ _ (ap (λ (c : CoreState). c.ports) left) (ap (λ (c : CoreState). c.timers) left)
                (ap (λ (c : CoreState). c.events) left);
          };
          roots = ap (λ (c : CoreState). c.roots) left;
          channel_ends = ap (λ (c : CoreState). c.ends) left;
          change = views.keeps (ap Some same ∙ sym is) (ap (λ (c : CoreState). c.syncs) left) (same_use g r y next others);
          on = runs_on y.core b step.thread y.core.threads after.pc after.regs running_on step.here refl (ap (λ (c : CoreState). c.threads) left);
          words = all_words;
          ports = ap (λ (c : CoreState). c.ports) left;
        }
    by_change (hands.gets_sync n regs none first left same) =
        let th' : Thread = record step.thread { pc = step.thread.pc + 1; regs = regs } in
        let others : (u : ℕ) → u ≢ r.thread → slice_get b.threads u ≡ slice_get y.core.threads u = λ u ne. ap (λ (c : CoreState). slice_get c.threads u) left ∙ get_set_other y.core.threads r.thread u th' ne in
        record {
          guarantee = record {
            clock = ap (λ (c : CoreState). c.clock) left;
            others = λ u ne free. others u ne;
            as_many = ap (λ (c : CoreState). length c.threads) left ∙ length-set y.core.threads r.thread th';
            words = λ w mine. ap (λ (c : CoreState). slice_get c.words w) left;
            sizes = ap sizes_of left;
            resources = others_same _ _ _ _ (ap (λ (c : CoreState). c.ports) left) (ap (λ (c : CoreState). c.timers) left)
                (ap (λ (c : CoreState). c.events) left);
          };
          roots = ap (λ (c : CoreState). c.roots) left;
          channel_ends = ap (λ (c : CoreState). c.ends) left;
          change = views.gets_sync hand n is none (first_free_is y.core.syncs n first) (ap (λ (c : CoreState). c.syncs) left)
              (ap Some same) (same_use g r y next others);
          on = runs_on y.core b step.thread y.core.threads (step.thread.pc + 1) regs running_on step.here refl (ap (λ (c : CoreState). c.threads) left);
          words = λ w. ap (λ (c : CoreState). slice_get c.words w) left;
          ports = ap (λ (c : CoreState). c.ports) left;
        }
    by_change (hands.gets_thread n u x regs least sync first there left same) =
        let th' : Thread = record step.thread { pc = step.thread.pc + 1; regs = regs } in
        let threads = slice_set y.core.threads u (tied_to n x) in
        let unused = first_unused y.core.threads u x first there in
        let other : u ≢ r.thread = other_mode y.core u x running_on there (λ e. let clash : Unused ≡ Running = sym unused ∙ e in cc) in
        let rest : (v : ℕ) → v ≢ r.thread → v ≢ u → slice_get b.threads v ≡ slice_get y.core.threads v = λ v ne nu.
        ap (λ (c : CoreState). slice_get c.threads v) left ∙ get_set_other threads r.thread v th' ne ∙ get_set_other y.core.threads u v (tied_to n x) nu in
        record {
          guarantee = record {
            clock = ap (λ (c : CoreState). c.clock) left;
            others = λ v ne free. rest v ne (λ e. free (subst (λ (h : Acquired). IsAmong h.threads v) (sym same) (inl e)));
            as_many = ap (λ (c : CoreState). length c.threads) left ∙ length-set threads r.thread th' ∙ length-set y.core.threads u (tied_to n x);
            words = λ w mine. ap (λ (c : CoreState). slice_get c.words w) left;
            sizes = ap sizes_of left;
            resources = others_same _ _ _ _ (ap (λ (c : CoreState). c.ports) left) (ap (λ (c : CoreState). c.timers) left)
                (ap (λ (c : CoreState). c.events) left);
          };
          roots = ap (λ (c : CoreState). c.roots) left;
          channel_ends = ap (λ (c : CoreState). c.ends) left;
          change = views.gets_thread hand n u x is sync least first there (ap (λ (c : CoreState). c.syncs) left) (ap Some same)
              (ap (λ (c : CoreState). slice_get c.threads u) left ∙ get_set_other threads r.thread u th' other ∙ get_set_same y.core.threads u x (tied_to n x) there) rest;
          on = runs_on y.core b step.thread threads (step.thread.pc + 1) regs running_on step.here (get_set_other y.core.threads u r.thread (tied_to n x) (λ e. other (sym e))) (ap (λ (c : CoreState). c.threads) left);
          words = λ w. ap (λ (c : CoreState). slice_get c.words w) left;
          ports = ap (λ (c : CoreState). c.ports) left;
        }
    by_change (hands.prepares u x x' among there waited waits tied bit left same) =
        let th' : Thread = record step.thread { pc = step.thread.pc + 1; regs = step.thread.regs } in
        let threads = slice_set y.core.threads u x' in
        let other : u ≢ r.thread = other_mode y.core u x running_on there (λ e. let clash : Waiting ≡ Running = sym waited ∙ e in cc) in
        let rest : (v : ℕ) → v ≢ r.thread → v ≢ u → slice_get b.threads v ≡ slice_get y.core.threads v = λ v ne nu.
        ap (λ (c : CoreState). slice_get c.threads v) left ∙ get_set_other threads r.thread v th' ne ∙ get_set_other y.core.threads u v x' nu in
        record {
          guarantee = record {
            clock = ap (λ (c : CoreState). c.clock) left;
            others = λ v ne free. rest v ne (λ e. free (subst (λ (h : Acquired). IsAmong h.threads v) (sym same) (subst (IsAmong hand.threads) (sym e) among)));
            as_many = ap (λ (c : CoreState). length c.threads) left ∙ length-set threads r.thread th' ∙ length-set y.core.threads u x';
            words = λ w mine. ap (λ (c : CoreState). slice_get c.words w) left;
            sizes = ap sizes_of left;
            resources = others_same _ _ _ _ (ap (λ (c : CoreState). c.ports) left) (ap (λ (c : CoreState). c.timers) left)
                (ap (λ (c : CoreState). c.events) left);
          };
          roots = ap (λ (c : CoreState). c.roots) left;
          channel_ends = ap (λ (c : CoreState). c.ends) left;
          change = views.keeps (ap Some same ∙ sym is) (ap (λ (c : CoreState). c.syncs) left) (record {
            by = λ v o ne at_v.
                ⊎_elim
                (λ (e : v ≡ u).
                let one : x ≡ o = same_Some x o (sym there ∙ ap (slice_get y.core.threads) (sym e) ∙ at_v) in (
                  x',
                  ap (λ (c : CoreState). slice_get c.threads v) left ∙ get_set_other threads r.thread v th' ne ∙ ap (slice_get threads) e ∙ get_set_same y.core.threads u x x' there,
                  waits ∙ sym waited ∙ ap (λ (t : Thread). t.mode) one,
                  tied ∙ ap (λ (t : Thread). t.tie) one,
                  bit ∙ ap (λ (t : Thread). t.event_bit) one,
                ))
                (λ (nu : v ≢ u). (o, rest v ne nu ∙ at_v, refl, refl, refl))
                (cases_eq v u);
          });
          on = runs_on y.core b step.thread threads (step.thread.pc + 1) step.thread.regs running_on step.here (get_set_other y.core.threads u r.thread x' (λ e. other (sym e))) (ap (λ (c : CoreState). c.threads) left);
          words = λ w. ap (λ (c : CoreState). slice_get c.words w) left;
          ports = ap (λ (c : CoreState). c.ports) left;
        }

    left : Left
    left = by_change step.change

    -- nobody sees it
    pub hand_silent : IsSilentStep g r y next
    hand_silent = record {
      made = step.made;
      world = refl;
      roots = left.roots;
      channel_ends = left.channel_ends;
      guarantee = left.guarantee;
      hand = left.change;
      was = running_on;
      on = left.on;
    }

    -- the thread runs on
    pub still_on : StillRuns g r b
    still_on = left.on

    -- and the runner has what it had
    pub has_on : (items : List Item) → Has g r items y → Has g r items next
    has_on items h = record {
      branch = h.branch;
      runs = record { known = h.runs.known; running = h.runs.running; items_are = h.runs.items_are };
      core = h.core;
      holds = record {
        holds = record {
          lengths = h.holds.holds.lengths;
          values = λ v n i x found near uses there. left.words (0 + n + i) ∙ h.holds.holds.values v n i x found near uses there;
        };
        room = room_kept (relied g r) r.stack (stack_relied g r) y.core.words b.words h.holds.room (λ w m. left.words w);
      };
      ports = ports_last g r y next (λ p listed at_p. ap (λ ports. slice_get ports (port_place g r p)) left.ports) h.ports;
    }

  -- where these steps lead, with what is in hand then
  pub record Reached (Q : Acquired → CoreState → Type 0) (items : List Item) (x : ThreadView) : Type 0 where
    pub hand : Acquired
    pub in_hand : x.hand ≡ Some hand
    pub there : Q hand x.core
    pub has : Has g r items x

  pub hand_leads : (Q : Acquired → CoreState → Type 0) (items : List Item) (n : ℕ) (y : ThreadView) (hand : Acquired) → y.hand ≡ Some hand →
      StillRuns g r y.core → Has g r items y →
      WithinAcquiring (home g r) (relied g r) r.thread Q n hand y.core → LeadsIn g r (Reached Q items) n y
  hand_leads Q items zero y hand is on has way = record { hand = hand; in_hand = is; there = way; has = has }
  hand_leads Q items (suc n) y hand is on has way =
      ⊎_elim
      (λ (here : Q hand y.core). inl (record { hand = hand; in_hand = is; there = here; has = has }))
      (λ further. inr (λ x k.
      let s = further x.core (hand_kept hand y x is k) in
      let is' : x.hand ≡ Some hand = k.hand ∙ is in
      let on' : StillRuns g r x.core = record { thread = on.thread; there = k.thread ∙ on.there; runs = on.runs; tied = on.tied; no_events = on.no_events } in
      let next' : ThreadView = record { core = s.1; world = x.world; hand = Some s.0 } in (
        next',
        hand_silent x hand s.0 is' s.1 on' s.2,
        hand_leads Q items n next' s.0 refl (still_on x hand s.0 is' s.1 on' s.2) (has_on x hand s.0 is' s.1 on' s.2 items (has_kept g r items y x k has)) s.3,
      )))
      way
