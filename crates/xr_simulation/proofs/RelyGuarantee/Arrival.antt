-- Own steps of a thread on its core are silent steps of its runner, so what a piece of code leads to is where the runner comes.
use Rattle.std.proofs.Common.{◌≡◌, ◌≢◌, ◌<◌, ℕ, Some, zero, suc, ◌+◌, ◌-◌, ◌≤◌, Bool, true, false, length, inl, inr, ⊎_elim, refl, sym, ap, ◌∙◌, subst, arith}
use Rattle.std.specs.Prelude.{slice_get, slice_set, nat_le, nat_lt}
use Rattle.std.proofs.lemmas.Bool.{and_from, le-leb, lt-ltb, ltb-true, ltb-false, or_left}
use Rattle.std.proofs.lemmas.List.{length-set}
use Rattle.std.proofs.lemmas.Option.{same_Some}
use Rattle.xs_instr.specs.declared.state.CoreState.{CoreState}
use Rattle.xs_instr.specs.declared.state.Port.{Port}
use Rattle.xs_instr.specs.declared.state.Regs.{Regs}
use Rattle.xs_instr.specs.declared.state.Thread.{Thread}
use Rattle.xs_instr.specs.Did.{makes}
use Rattle.xs_instr.specs.Slot.{slot}
use Rattle.xs_instr.specs.OwnSteps as own
use Rattle.xs_instr.specs.OwnSteps.{IsApart, OwnStep, Within, temporary}
use Rattle.xs_instr.specs.declared.state.Res.TheVariants.{Port as ResPort}
use Rattle.xs_instr.specs.declared.state.Res.{Res}
use Rattle.xc_kernel.specs.declared.kernel.PortUse.{PortUse}
use Rattle.xc_kernel.specs.declared.kernel.Timer.{Timer as TimerUse}
use Rattle.xc_kernel.specs.Eval.{words_of}
use Rattle.xl_expr.proofs.Lists.{get_set_same, get_set_other, room_kept}
use Rattle.xl_expr.proofs.ResourceParts.{others_fewer, others_same, own_fewer, part_same, port_same}
use Rattle.xr_simulation.specs.Runners.{IsMine, Setting, Runner, IsPort, IsTimer, MayChange, of_stack, home, is_among_words, is_word_among, places, port_place, relied, timer_place}
use Rattle.xr_simulation.specs.Sizes.{Sizes, sizes_of}
use Rattle.xr_simulation.specs.ThreadViews.{ThreadView, Rely, IsSilentStep, SameUse, StillRuns, after, keeps, running, LeadsIn}
use Rattle.xr_simulation.specs.NextStep.{IsAt}
use Rattle.xr_simulation.proofs.Relation.PortDeclarations.{declared_there, same_declared}
use Rattle.xr_simulation.proofs.Relation.Sizes.{same_sizes}
use Rattle.xl_expr.specs.Leads.{Leads}
use Rattle.xl_expr.specs.PartSteps.{KeptParts, PartsStep, WithinParts}
use Rattle.xl_expr.specs.ResourceParts.{resource_state, port_alone, timer_alone}

-- all resources
abbrev pub any_part : Res → Type 0
any_part res = Unit {0}

-- all but some
abbrev pub apart_from : (Res → Type 0) → Res → Type 0
apart_from some res = some res → ⊥

-- a word among so many
pub among_words : (first words k : ℕ) → k < words → is_among_words first words (first + k) ≡ true
among_words first words k lt =
    and_from (nat_le first (first + k)) (nat_lt (first + k) (first + words)) (le-leb first (first + k) (omega arith)) (lt-ltb (first + k) (first + words) (omega arith))

module _ (g : Setting) (r : Runner) where
  -- the runner relies on its temporary words
  pub stack_relied : (k : ℕ) → k < temporary → relied g r (r.stack + k) ≡ true
  stack_relied k lt =
      or_left (is_among_words r.stack temporary (r.stack + k))
      (is_word_among 0 (places g r.core) r.footprint.uses (length (places g r.core)) (r.stack + k)) (among_words r.stack temporary k lt)

  -- one of the runner's ports is the runner's own
  pub own_port : (p : ℕ) (listed : PortUse) → IsPort g r p listed → IsMine g r (ResPort (port_place g r p))
  own_port p listed is = record { port = p; listed = listed; is = is; place = refl }

  -- what stays while the runner goes on: these of the words that it relies on, these of its resources, its branch, the words of its
  -- variables in the store, and what it has in hand; and its thread runs
  pub record Since (leaves : ℕ → Type 0) (stays : Res → Type 0) (z y : ThreadView) : Type 0 where
    pub words : (w : ℕ) → relied g r w ≡ true → leaves w → slice_get y.core.words w ≡ slice_get z.core.words w
    pub parts : (res : Res) → IsMine g r res → stays res → resource_state y.core res ≡ resource_state z.core res
    pub branch : slice_get y.world.branches r.branch ≡ slice_get z.world.branches r.branch
    pub store : (v : ℕ) → r.footprint.uses v ≡ true → words_of y.world.store v ≡ words_of z.world.store v
    pub room : r.stack + temporary ≤ length z.core.words → r.stack + temporary ≤ length y.core.words
    pub declared : (p : ℕ) (listed : PortUse) (port : Port) → IsPort g r p listed → slice_get z.core.ports (port_place g r p) ≡ Some port →
        (other : Port) × (slice_get y.core.ports (port_place g r p) ≡ Some other) × (other.decl ≡ port.decl)
    pub hand : y.hand ≡ z.hand
    pub on : StillRuns g r y.core

  -- it holds at once
  pub since_now : (leaves : ℕ → Type 0) (stays : Res → Type 0) (z : ThreadView) → StillRuns g r z.core → Since leaves stays z z
  since_now leaves stays z on = record {
    words = λ w m l. refl;
    parts = λ res m s. refl;
    branch = refl;
    store = λ v u. refl;
    room = λ h. h;
    declared = λ p listed port is there. (port, there, refl);
    hand = refl;
    on = on;
  }

  -- its ports are what they were
  pub ports_kept : {z y : ThreadView} → Rely g r z y → (p : ℕ) (listed : PortUse) → IsPort g r p listed →
      slice_get y.core.ports (port_place g r p) ≡ slice_get z.core.ports (port_place g r p)
  ports_kept {z = z} {y = y} k p listed is = port_same z.core y.core (port_place g r p)
      (k.resources.parts (ResPort (port_place g r p)) (own_port p listed is))

  -- and lasts
  pub since_kept : (leaves : ℕ → Type 0) (stays : Res → Type 0) {z y x : ThreadView} → Since leaves stays z y → Rely g r y x →
      Since leaves stays z x
  since_kept leaves stays {y = y} {x = x} h k = record {
    words = λ w m l. k.words w m ∙ h.words w m l;
    parts = λ res m s. k.resources.parts res m ∙ h.parts res m s;
    branch = k.branch ∙ h.branch;
    store = λ v u. k.store v u ∙ h.store v u;
    room = λ was. room_kept (relied g r) r.stack stack_relied y.core.words x.core.words (h.room was) k.words;
    declared = λ p listed port is there. let old = h.declared p listed port is there in (old.0, ports_kept k p listed is ∙ old.1, old.2);
    hand = k.hand ∙ h.hand;
    on = record { thread = h.on.thread; there = k.thread ∙ h.on.there; runs = h.on.runs; tied = h.on.tied; no_events = h.on.no_events };
  }

  -- a thread that is at an index runs
  pub at_runs : (z : ThreadView) (pc : ℕ) (regs : Regs) → IsAt g r z pc regs → StillRuns g r z.core
  at_runs z pc regs here = record { thread = running r.tie pc regs; there = here; runs = refl; tied = refl; no_events = refl }

  -- one that is set to another index, with other registers, runs as before
  pub runs_still : (a b : CoreState) (thread : Thread) (pc : ℕ) (regs : Regs) → StillRuns g r a → slice_get a.threads r.thread ≡ Some thread →
      b.threads ≡ slice_set a.threads r.thread (record thread { pc = pc; regs = regs }) → StillRuns g r b
  runs_still a b thread pc regs on here left =
      let th' : Thread = record thread { pc = pc; regs = regs } in
      let same : thread ≡ on.thread = same_Some thread on.thread (sym here ∙ on.there) in
      record {
        thread = th';
        there = ap (λ l. slice_get l r.thread) left ∙ get_set_same a.threads r.thread thread th' here;
        runs = ap (λ (x : Thread). x.mode) same ∙ on.runs;
        tied = ap (λ (x : Thread). x.tie) same ∙ on.tied;
        no_events = ap (λ (x : Thread). x.event_bit) same ∙ on.no_events;
      }

  -- where the other threads are what they were they are in the same use
  pub same_use : (y z : ThreadView) → ((u : ℕ) → u ≢ r.thread → slice_get z.core.threads u ≡ slice_get y.core.threads u) → SameUse g r y z
  same_use y z same = record { by = λ u x ne there. (x, same u ne ∙ there, refl, refl, refl) }

  -- a step leaves ports declared as they were
  declared_on : (z y : ThreadView) (b : CoreState) →
      ((p : ℕ) (listed : PortUse) (port : Port) → IsPort g r p listed → slice_get z.core.ports (port_place g r p) ≡ Some port →
      (other : Port) × (slice_get y.core.ports (port_place g r p) ≡ Some other) × (other.decl ≡ port.decl)) →
      slot (home g r) y.core r.thread ≡ makes b →
      (p : ℕ) (listed : PortUse) (port : Port) → IsPort g r p listed → slice_get z.core.ports (port_place g r p) ≡ Some port →
      (other : Port) × (slice_get b.ports (port_place g r p) ≡ Some other) × (other.decl ≡ port.decl)
  declared_on z y b before made p listed port is there =
      let old = before p listed port is there in
      let new = declared_there y.core.ports b.ports (port_place g r p) old.0 (same_declared (home g r) y.core r.thread b made) old.1 in
      (new.0, new.1, new.2 ∙ old.2)

  -- what is kept of a view is kept of its core
  pub core_kept : {z y : ThreadView} → Rely g r z y → own.Kept (relied g r) r.thread z.core y.core
  core_kept k = record { thread = k.thread; words = k.words }

  -- and the same beside some of the runner's resources
  pub parts_kept : (mine : Res → Type 0) → ((res : Res) → mine res → IsMine g r res) → {z y : ThreadView} → Rely g r z y →
      KeptParts (relied g r) mine r.thread z.core y.core
  parts_kept mine own {z = z} {y = y} k =
      record { own = core_kept k; resources = own_fewer (IsMine g r) r.thread z.core y.core mine own k.resources }

  -- or one of its ports
  pub alone_mine : (p : ℕ) (listed : PortUse) → IsPort g r p listed → (res : Res) → port_alone (port_place g r p) res → IsMine g r res
  alone_mine p listed is res e = subst (IsMine g r) (sym e) (own_port p listed is)

  -- or one of its timers
  pub timer_alone_mine : (t : ℕ) (listed : TimerUse) → IsTimer g r t listed → (res : Res) → timer_alone (timer_place g r t) res →
      IsMine g r res
  timer_alone_mine t listed is res e = subst (IsMine g r) (sym e) (record { timer = t; listed = listed; is = is; place = refl })

  -- of the runner's ports those stay whose parts do
  pub ports_since : (leaves : ℕ → Type 0) (stays : Res → Type 0) (z y : ThreadView) → Since leaves stays z y →
      (p : ℕ) (listed : PortUse) → IsPort g r p listed → stays (ResPort (port_place g r p)) →
      slice_get y.core.ports (port_place g r p) ≡ slice_get z.core.ports (port_place g r p)
  ports_since leaves stays z y h p listed is s = port_same z.core y.core (port_place g r p)
      (h.parts (ResPort (port_place g r p)) (own_port p listed is) s)

  -- a word that is none of those that the runner may change is none of its temporary ones
  pub apart_of_changes : (w : ℕ) → (MayChange g r w → ⊥) → IsApart r.stack w
  apart_of_changes w not_mine = below (nat_lt w r.stack) refl
    where
      above : (b : Bool) → nat_lt w (r.stack + temporary) ≡ b → r.stack ≤ w → IsApart r.stack w
      above true e le = let lt = ltb-true w (r.stack + temporary) e in absurd (not_mine (of_stack (w - r.stack) (omega arith) (omega arith)))
      above false e le = inr (let ge = ltb-false w (r.stack + temporary) e in omega arith)

      below : (b : Bool) → nat_lt w r.stack ≡ b → IsApart r.stack w
      below true e = inl (ltb-true w r.stack e)
      below false e = above (nat_lt w (r.stack + temporary)) refl (let ge = ltb-false w r.stack e in omega arith)

  -- The steps leave at least the words that the runner may not change.
  module _ (leaves : ℕ → Type 0) (safe : (w : ℕ) → (MayChange g r w → ⊥) → leaves w) where
    -- an own step is a silent one
    own_silent : (y : ThreadView) (b : CoreState) → StillRuns g r y.core → OwnStep (home g r) leaves r.thread y.core b →
        IsSilentStep g r y (after g r y b)
    own_silent y b on step =
        let th' : Thread = record step.thread { pc = step.after.pc; regs = step.after.regs } in
        let others : (u : ℕ) → u ≢ r.thread → slice_get b.threads u ≡ slice_get y.core.threads u = λ u ne. ap (λ (c : CoreState). slice_get c.threads u) step.left ∙ get_set_other y.core.threads r.thread u th' ne in
        record {
          made = step.made;
          world = refl;
          roots = ap (λ (c : CoreState). c.roots) step.left;
          channel_ends = ap (λ (c : CoreState). c.ends) step.left;
          guarantee = record {
            clock = ap (λ (c : CoreState). c.clock) step.left;
            others = λ u ne not_held. others u ne;
            as_many = ap (λ (c : CoreState). length c.threads) step.left ∙ length-set y.core.threads r.thread th';
            words = λ w not_mine. ap (λ (c : CoreState). slice_get c.words w) step.left ∙ step.words w (safe w not_mine);
            sizes = same_sizes (home g r) y.core r.thread b step.made;
            resources = others_same (IsMine g r) r.thread y.core b (ap (λ (c : CoreState). c.ports) step.left)
                (ap (λ (c : CoreState). c.timers) step.left) (ap (λ (c : CoreState). c.events) step.left);
          };
          hand = keeps refl (ap (λ (c : CoreState). c.syncs) step.left) (same_use y (after g r y b) others);
          was = on;
          on = runs_still y.core b step.thread step.after.pc step.after.regs on step.here (ap (λ (c : CoreState). c.threads) step.left);
        }

    -- what stayed before it stays behind it
    own_since : (stays : Res → Type 0) (z y : ThreadView) (b : CoreState) → Since leaves stays z y →
        OwnStep (home g r) leaves r.thread y.core b → Since leaves stays z (after g r y b)
    own_since stays z y b h step = record {
      words = λ w m l. ap (λ (c : CoreState). slice_get c.words w) step.left ∙ step.words w l ∙ h.words w m l;
      parts = λ res m s.
          part_same y.core b (ap (λ (c : CoreState). c.ports) step.left) (ap (λ (c : CoreState). c.timers) step.left)
          (ap (λ (c : CoreState). c.events) step.left) res
          ∙ h.parts res m s;
      branch = h.branch;
      store = h.store;
      room = λ was.
          let same = ap (λ (s : Sizes). s.words) (same_sizes (home g r) y.core r.thread b step.made) in
          let before = h.room was in
          omega arith;
      declared = λ q other port is_port there. declared_on z y b h.declared step.made q other port is_port there;
      hand = h.hand;
      on = (own_silent y b h.on step).on;
    }

    -- from any view of the way
    on_the_way : (Q : CoreState → Type 0) (n : ℕ) (z y : ThreadView) → Since leaves any_part z y →
        Within (home g r) (relied g r) leaves r.thread Q n y.core → LeadsIn g r (λ x. Q x.core × Since leaves any_part z x) n y
    on_the_way Q zero z y h way = (way, h)
    on_the_way Q (suc n) z y h way =
        ⊎_elim
        (λ (here : Q y.core). inl (here, h))
        (λ on. inr (λ x k.
        let s = on x.core (core_kept k) in
        let h' = since_kept leaves any_part h k in
        (after g r x s.0, own_silent x s.0 h'.on s.1, on_the_way Q n z (after g r x s.0) (own_since any_part z x s.0 h' s.1) s.2)))
        way

    -- where own steps lead, the runner comes, and meanwhile these words stay
    pub arrives : (Q : CoreState → Type 0) (n : ℕ) (z : ThreadView) → StillRuns g r z.core →
        Within (home g r) (relied g r) leaves r.thread Q n z.core → LeadsIn g r (λ y. Q y.core × Since leaves any_part z y) n z
    arrives Q n z on way = on_the_way Q n z z (since_now leaves any_part z on) way

    module _ (mine : Res → Type 0) (own : (res : Res) → mine res → IsMine g r res) where
      -- a step that may set some of its resources is a silent one
      parts_silent : (y : ThreadView) (b : CoreState) → StillRuns g r y.core → PartsStep (home g r) leaves mine r.thread y.core b →
          IsSilentStep g r y (after g r y b)
      parts_silent y b on step =
          let th' : Thread = record step.thread { pc = step.after.pc; regs = step.after.regs } in
          let others : (u : ℕ) → u ≢ r.thread → slice_get b.threads u ≡ slice_get y.core.threads u = λ u ne. ap (λ (c : CoreState). slice_get c.threads u) step.left ∙ get_set_other y.core.threads r.thread u th' ne in
          record {
            made = step.made;
            world = refl;
            roots = ap (λ (c : CoreState). c.roots) step.left;
            channel_ends = ap (λ (c : CoreState). c.ends) step.left;
            guarantee = record {
              clock = ap (λ (c : CoreState). c.clock) step.left;
              others = λ u ne not_held. others u ne;
              as_many = ap (λ (c : CoreState). length c.threads) step.left ∙ length-set y.core.threads r.thread th';
              words = λ w not_mine. ap (λ (c : CoreState). slice_get c.words w) step.left ∙ step.words w (safe w not_mine);
              sizes = same_sizes (home g r) y.core r.thread b step.made;
              resources = others_fewer mine r.thread y.core b (IsMine g r) own step.resources;
            };
            hand = keeps refl (ap (λ (c : CoreState). c.syncs) step.left) (same_use y (after g r y b) others);
            was = on;
            on = runs_still y.core b step.thread step.after.pc step.after.regs on step.here (ap (λ (c : CoreState). c.threads) step.left);
          }

      -- what stayed before it stays behind it
      parts_since : (z y : ThreadView) (b : CoreState) → Since leaves (apart_from mine) z y →
          PartsStep (home g r) leaves mine r.thread y.core b → Since leaves (apart_from mine) z (after g r y b)
      parts_since z y b h step = record {
        words = λ w m l. ap (λ (c : CoreState). slice_get c.words w) step.left ∙ step.words w l ∙ h.words w m l;
        parts = λ res m s. step.resources.parts res s ∙ h.parts res m s;
        branch = h.branch;
        store = h.store;
        room = λ was.
            let same = ap (λ (s : Sizes). s.words) (same_sizes (home g r) y.core r.thread b step.made) in
            let before = h.room was in
            omega arith;
        declared = λ q other port is_port there. declared_on z y b h.declared step.made q other port is_port there;
        hand = h.hand;
        on = (parts_silent y b h.on step).on;
      }

      -- From any view of the way, where the rely gives what its steps rely on.
      module _ (z : ThreadView) (Keeps : CoreState → CoreState → Type 0)
          (keeps : (y x : ThreadView) → sizes_of x.core ≡ sizes_of z.core → Since leaves (apart_from mine) z x → Rely g r y x →
          Keeps y.core x.core) where
        on_relied_way : (Q : CoreState → Type 0) (n : ℕ) (y : ThreadView) → sizes_of y.core ≡ sizes_of z.core →
            Since leaves (apart_from mine) z y → Leads Keeps (PartsStep (home g r) leaves mine r.thread) Q n y.core →
            LeadsIn g r (λ x. Q x.core × Since leaves (apart_from mine) z x) n y
        on_relied_way Q zero y sized h way = (way, h)
        on_relied_way Q (suc n) y sized h way =
            ⊎_elim
            (λ (here : Q y.core). inl (here, h))
            (λ on. inr (λ x k.
            let sized' : sizes_of x.core ≡ sizes_of z.core = k.sizes ∙ sized in
            let h' = since_kept leaves (apart_from mine) h k in
            let s = on x.core (keeps y x sized' h' k) in
            let silent = parts_silent x s.0 h'.on s.1 in (
              after g r x s.0,
              silent,
              on_relied_way Q n (after g r x s.0) (silent.guarantee.sizes ∙ sized') (parts_since z x s.0 h' s.1) s.2,
            )))
            way

        -- where they lead that may also set some of the runner's resources, the runner comes
        pub arrives_relied : (Q : CoreState → Type 0) (n : ℕ) → StillRuns g r z.core →
            Leads Keeps (PartsStep (home g r) leaves mine r.thread) Q n z.core →
            LeadsIn g r (λ y. Q y.core × Since leaves (apart_from mine) z y) n z
        arrives_relied Q n on way = on_relied_way Q n z refl (since_now leaves (apart_from mine) z on) way

      -- the same of steps that rely on these resources alone
      pub arrives_with : (Q : CoreState → Type 0) (n : ℕ) (z : ThreadView) → StillRuns g r z.core →
          WithinParts (home g r) (relied g r) leaves mine r.thread Q n z.core →
          LeadsIn g r (λ y. Q y.core × Since leaves (apart_from mine) z y) n z
      arrives_with Q n z on way =
          arrives_relied z (KeptParts (relied g r) mine r.thread) (λ y x sized since k. parts_kept mine own k) Q n on way
