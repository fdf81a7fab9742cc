-- What a runner stands on lasts while others act, and while the runner goes on.
use Rattle.std.proofs.Common.{◌≡◌, ◌≢◌, ℕ, zero, suc, ◌+◌, ◌*◌, ◌<◌, ◌≤◌, Bool, true, ◌&&◌, List, length, Option, Some, None, refl, sym, ap, ◌∙◌, subst, ⊎_elim, arith}
use Rattle.std.specs.Prelude.{slice_get}
use Rattle.std.proofs.lemmas.Bool.{and_from, or_left, or_right, cases_eq}
use Rattle.std.proofs.lemmas.Option.{slice_get_within}
use Rattle.xw_words.specs.declared.pos.Pos.{Pos}
use Rattle.xs_instr.specs.declared.state.Regs.{Regs}
use Rattle.xs_instr.specs.OwnSteps.{HasRoom, IsApart, RunsAt, temporary}
use Rattle.xs_instr.specs.declared.state.Res.{Res}
use Rattle.xc_kernel.specs.declared.kernel.PortUse.{PortUse}
use Rattle.xc_kernel.specs.Plain as kernel
use Rattle.xc_kernel.specs.Eval.{Store, words_of}
use Rattle.xc_meaning.specs.States.Items.{Item}
use Rattle.xc_meaning.specs.States.Branches.{Branch}
use Rattle.xl_expr.specs.declared.plan.VarPlan.{VarPlan}
use Rattle.xl_expr.specs.Frames.{HasPlace, HasVars, IsNear}
use Rattle.xl_expr.specs.Plans.{var_in, joined}
use Rattle.xl_expr.specs.Works.{IsLaid, PlaceIsLaid}
use Rattle.xl_expr.proofs.Framed.{framed_laid, framed_place}
use Rattle.xl_expr.proofs.Lists.{room_kept}
use Rattle.xr_simulation.specs.Fits.{ItemsFit, Uses, UsesAt}
use Rattle.xr_simulation.specs.Runners.{HoldsPlaces, Activation, Setting, Runner, IsLaidOut, IsPort, is_among_words, is_word_among, is_word_at, is_word_of, outside, places, plan, plan_in, port_place, relied}
use Rattle.xr_simulation.specs.ThreadViews.{ThreadView, IsStable, Rely, running}
use Rattle.xr_simulation.specs.MatchStates.{IsAtRest, IsOnItsWay, IsResuming, IsTransferring}
use Rattle.xr_simulation.specs.Transfers.{Transfer}
use Rattle.xr_simulation.specs.NextStep.{GivesBack, HasBases, HoldsStore, Has, InTransfer, IsAt, LeftTo, on_time, unput, PortsStand, Rest, Runs, StableNextStep}
use Rattle.xr_simulation.proofs.RelyGuarantee.ThreadViews.{leads_in_stable, turns_stable}
use Rattle.xr_simulation.proofs.RelyGuarantee.Arrival.{Since, among_words, any_part, ports_kept, ports_since, stack_relied}
use Rattle.xr_simulation.proofs.ItemCode.Evaluations.{eval_still}
use Rattle.xr_simulation.proofs.RelyGuarantee.Stands.{stands_last}

-- a variable of a plan is one of the list
pub planned_within : (vars : List (Option VarPlan)) (v : ℕ) (found : VarPlan) → var_in vars v ≡ Some found → v < length vars
planned_within vars v found known = by (slice_get vars v) refl
  where
    by : (o : Option (Option VarPlan)) → slice_get vars v ≡ o → v < length vars
    by None e = let h : joined None ≡ Some found = ap joined (sym e) ∙ known in absurd (cc)
    by (Some o) e = slice_get_within vars v o e

module _ (base : ℕ) (vars : List (Option VarPlan)) (is_meant : ℕ → Bool) where
  -- a word of one of the first variables is among them
  among_first : (n v w : ℕ) → v < n → is_meant v ≡ true → is_word_of base (var_in vars v) w ≡ true → is_word_among base vars is_meant n w ≡ true
  among_first zero v w lt meant is = absurd (omega arith)
  among_first (suc n) v w lt meant is =
      let here : ℕ → Bool = λ u. is_meant u && is_word_of base (var_in vars u) w in
      ⊎_elim
      (λ (e : v ≡ n).
      let it : here n ≡ true = ap here (sym e) ∙ and_from (is_meant v) (is_word_of base (var_in vars v) w) meant is in
      or_left (here n) (is_word_among base vars is_meant n w) it)
      (λ (ne : v ≢ n). or_right (here n) (is_word_among base vars is_meant n w) (among_first n v w (let less : v < n = below ne in less) meant is))
      (cases_eq v n)
    where
      below : v ≢ n → v < n
      below ne = omega (arith, lt, ne)

  -- and one of any variable of the plan
  word_among : (v n i : ℕ) (found : VarPlan) → IsNear vars v n found → is_meant v ≡ true → i < found.words → is_word_among base vars is_meant (length vars) (base + n + i) ≡ true
  word_among v n i found near meant lt =
      let known : is_word_of base (var_in vars v) (base + n + i) ≡ is_word_at base found.place found.words (base + n + i) = ap (λ o. is_word_of base o (base + n + i)) near.known in
      let placed = ap (λ p. is_word_at base p found.words (base + n + i)) near.place in
      among_first (length vars) v (base + n + i) (planned_within vars v found near.known) meant (known ∙ placed ∙ among_words (base + n) found.words i lt)

module _ (g : Setting) (r : Runner) where
  -- the runner relies on the words of the variables that it uses
  pub variable_relied : (v n i : ℕ) (found : VarPlan) → IsNear (places g r.core) v n found → r.footprint.uses v ≡ true → i < found.words →
      relied g r (0 + n + i) ≡ true
  variable_relied v n i found near uses lt =
      or_right (is_among_words r.stack temporary (0 + n + i))
      (is_word_among 0 (places g r.core) r.footprint.uses (length (places g r.core)) (0 + n + i))
      (word_among 0 (places g r.core) r.footprint.uses v n i found near uses lt)

  -- the words of variables are held where both sides are the same
  pub holds_last : (words words' : List ℕ) (store store' : Store) →
      ((v n i : ℕ) (found : VarPlan) → IsNear (places g r.core) v n found → r.footprint.uses v ≡ true → i < found.words →
      slice_get words' (0 + n + i) ≡ slice_get words (0 + n + i)) →
      ((v : ℕ) → r.footprint.uses v ≡ true → words_of store' v ≡ words_of store v) →
      HoldsPlaces g r.core r.footprint.uses words store → HoldsPlaces g r.core r.footprint.uses words' store'
  holds_last words words' store store' same same_store h = record {
    lengths = λ v n found near uses. h.lengths v n found near uses ∙ ap length (sym (same_store v uses));
    values = λ v n i x found near uses there.
        let old : slice_get (words_of store v) i ≡ Some x = ap (λ l. slice_get l i) (sym (same_store v uses)) ∙ there in
        let within = slice_get_within (words_of store v) i x old in
        let lt : i < found.words = let l = h.lengths v n found near uses in omega arith in
        same v n i found near uses lt ∙ h.values v n i x found near uses old;
  }

  -- What others leave.

  -- the store's words, and the temporary ones
  pub store_kept : (z y : ThreadView) → Rely g r z y → HoldsStore g r z → HoldsStore g r y
  store_kept z y k h = record {
    holds = holds_last z.core.words y.core.words z.world.store y.world.store
        (λ v n i found near uses lt. k.words (0 + n + i) (variable_relied v n i found near uses lt)) k.store h.holds;
    room = room_kept (relied g r) r.stack (stack_relied g r) z.core.words y.core.words h.room k.words;
  }

  -- ports stand where they are the same
  pub ports_last : (z y : ThreadView) →
      ((p : ℕ) (listed : PortUse) → IsPort g r p listed →
      slice_get y.core.ports (port_place g r p) ≡ slice_get z.core.ports (port_place g r p)) → PortsStand g r z → PortsStand g r y
  ports_last z y same h = λ p listed is. let s = h p listed is in record { port = s.port; there = same p listed is ∙ s.there; declared = s.declared }

  -- a branch runs where it is the same
  pub runs_kept : (z y : ThreadView) (branch : Branch) (items : List Item) →
      slice_get y.world.branches r.branch ≡ slice_get z.world.branches r.branch → Runs z.world r.branch branch items →
      Runs y.world r.branch branch items
  runs_kept z y branch items same h = record { known = same ∙ h.known; running = h.running; items_are = h.items_are }

  -- all that the runner has
  pub has_kept : (items : List Item) (z y : ThreadView) → Rely g r z y → Has g r items z → Has g r items y
  has_kept items z y k h = record {
    branch = h.branch;
    runs = runs_kept z y h.branch items k.branch h.runs;
    core = h.core;
    holds = store_kept z y k h.holds;
    ports = ports_last z y (ports_kept g r k) h.ports;
  }

  -- a thread at the code of its items stays there
  pub rest_kept : (items : List Item) (j : ℕ) (z y : ThreadView) → Rely g r z y → Rest g r items j z → Rest g r items j y
  rest_kept items j z y k h = record {
    pc = h.pc;
    regs = h.regs;
    here = k.thread ∙ h.here;
    bases = h.bases;
    stands = stands_last g r items j h.pc h.regs z.core y.core h.fits k.resources h.stands;
    fits = h.fits;
    has = has_kept items z y k h.has;
  }

  -- one that gives a synchroniser back does so still
  pub gives_back_kept : (items : List Item) (j : ℕ) (z y : ThreadView) → Rely g r z y → GivesBack g r items j z → GivesBack g r items j y
  gives_back_kept items j z y k h = record {
    sync = h.sync;
    in_hand = k.hand ∙ h.in_hand;
    pc = h.pc;
    regs = h.regs;
    exits = h.exits;
    here = k.thread ∙ h.here;
    bases = h.bases;
    at_code = h.at_code;
    fits = h.fits;
    has = has_kept items z y k h.has;
    frees = h.frees;
  }

  -- so a thread that is to give one back is so still
  pub resuming_stable : (items : List Item) (most : ℕ) → IsStable g r (IsResuming g r items most)
  resuming_stable items most z y k h = (h.0, h.1, gives_back_kept items h.0 z y k h.2)

  -- a thread on its way to its item's own instruction is on it still
  pub on_its_way_stable : (most : ℕ) → IsStable g r (IsOnItsWay g r most)
  on_its_way_stable most z y k h = (h.0, h.1, h.2, leads_in_stable g r (StableNextStep g r h.1) (turns_stable g r h.1) h.0 z y k h.3)

  -- one at rest is at rest still
  pub at_rest_stable : (items : List Item) (most : ℕ) → IsStable g r (IsAtRest g r items most)
  at_rest_stable items most z y k h = (h.0, h.1, k.hand ∙ h.2, rest_kept items h.0 z y k h.3)

  -- an offer that isn't put yet has the value that it had
  left_stable : (transfer : Transfer) (pos : Pos) (items : List Item) (z y : ThreadView) → Rely g r z y → ItemsFit g r items →
      LeftTo transfer pos items z.world → LeftTo transfer pos items y.world
  left_stable transfer pos items z y k fits (on_time none goes) = on_time none goes
  left_stable transfer pos items z y k fits (unput u) =
      let its = subst (ItemsFit g r) u.items_are fits in
      unput (record {
        output = u.output;
        value = u.value;
        rest = u.rest;
        late = u.late;
        phase = u.phase;
        items_are = u.items_are;
        on_channel = u.on_channel;
        place = u.place;
        ready = eval_still (plan g r).vars r.footprint.uses z.world.store y.world.store k.store u.output.value its.0.0.value ∙ u.ready;
      })

  -- one inside a transfer is so still
  pub transfer_stable : (transfer : Transfer) (items : List Item) (j : ℕ) → IsStable g r (InTransfer g r transfer items j)
  transfer_stable transfer items j z y k h = record {
    pos = h.pos;
    left = left_stable transfer h.pos items z y k h.fits h.left;
    stands_in = h.stands_in;
    no_hand = k.hand ∙ h.no_hand;
    pc = h.pc;
    regs = h.regs;
    here = k.thread ∙ h.here;
    steps = h.steps;
    fits = h.fits;
    has = has_kept items z y k h.has;
  }

  -- with the same steps before it
  pub transferring_stable : (transfer : Transfer) (items : List Item) (most : ℕ) → IsStable g r (IsTransferring g r transfer items most)
  transferring_stable transfer items most z y k h = (h.0, h.1, transfer_stable transfer items h.0 z y k h.2)

  -- What the runner itself leaves on its way. Its temporary words are there still, as the code that it runs says.

  -- the store's words
  pub store_since : (laid : IsLaidOut g r) (stays : Res → Type 0) (z y : ThreadView) → Since g r (IsApart r.stack) stays z y →
      r.stack + temporary ≤ length y.core.words → HoldsStore g r z → HoldsStore g r y
  store_since laid stays z y s room h = record {
    holds = holds_last z.core.words y.core.words z.world.store y.world.store
        (λ v n i found near uses lt. s.words (0 + n + i) (variable_relied v n i found near uses lt)
        (laid.frame.apart v n i found near lt)) s.store h.holds;
    room = room;
  }

  -- all that it has, where its ports stay
  pub has_since : (laid : IsLaidOut g r) (items : List Item) (z y : ThreadView) → Since g r (IsApart r.stack) any_part z y →
      r.stack + temporary ≤ length y.core.words → Has g r items z → Has g r items y
  has_since laid items z y s room h = record {
    branch = h.branch;
    runs = runs_kept z y h.branch items s.branch h.runs;
    core = h.core;
    holds = store_since laid any_part z y s room h.holds;
    ports = ports_last z y (λ p listed is. ports_since g r (IsApart r.stack) any_part z y s p listed is tt) h.ports;
  }

  -- the ports, some of which may have been set
  pub declared_since : (leaves : ℕ → Type 0) (stays : Res → Type 0) (z y : ThreadView) → Since g r leaves stays z y → PortsStand g r z →
      PortsStand g r y
  declared_since leaves stays z y s h = λ p listed is.
      let old = h p listed is in
      let now = s.declared p listed old.port is old.there in
      record { port = now.0; there = now.1; declared = now.2 ∙ old.declared }

  -- all that it has, where some of its ports may have been set
  pub has_since_port : (laid : IsLaidOut g r) (stays : Res → Type 0) (items : List Item) (z y : ThreadView) →
      Since g r (IsApart r.stack) stays z y → Has g r items z → Has g r items y
  has_since_port laid stays items z y s h = record {
    branch = h.branch;
    runs = runs_kept z y h.branch items s.branch h.runs;
    core = h.core;
    holds = store_since laid stays z y s (s.room h.holds.room) h.holds;
    ports = declared_since (IsApart r.stack) stays z y s h.ports;
  }

  -- What code asks for, where the runner's thread is at it.

  -- room for temporary words
  pub room_of : (laid : IsLaidOut g r) (z : ThreadView) (regs : Regs) → HasBases g r regs → HoldsStore g r z →
      HasRoom (relied g r) r.stack regs z.core.words
  room_of laid z regs bases h = record { sp_is = bases.stack; small = laid.small; within = h.room; relied_on = stack_relied g r }

  -- the thread runs there
  pub runs_at : (z : ThreadView) (pc : ℕ) (regs : Regs) → IsAt g r z pc regs → RunsAt r.thread pc (running r.tie pc regs) z.core
  runs_at z pc regs here = record { here = here; pc_is = refl; runs = refl; no_events = refl }

  -- in the outermost block code sees what is there
  pub seen : (laid : IsLaidOut g r) (P : Activation → Type 0) → P r.block → P outside
  seen laid P h = subst P laid.block h

  pub unseen : (laid : IsLaidOut g r) (P : Activation → Type 0) → P outside → P r.block
  unseen laid P h = subst P (sym laid.block) h

  pub uses_seen : (laid : IsLaidOut g r) (x : kernel.Expression) → Uses g r x → HasVars (places g r.core) r.footprint.uses x
  uses_seen laid x h = seen laid (λ b. HasVars (plan_in (g.plans r.core) b.plan).vars r.footprint.uses x) h

  pub place_seen : (laid : IsLaidOut g r) (p : kernel.Place) → UsesAt g r p → HasPlace (places g r.core) r.footprint.uses p
  place_seen laid p h = seen laid (λ b. HasPlace (plan_in (g.plans r.core) b.plan).vars r.footprint.uses p) h

  -- an expression's words stand by the plan
  pub laid_at : (laid : IsLaidOut g r) (z : ThreadView) (regs : Regs) (x : kernel.Expression) → Uses g r x → HasBases g r regs →
      HoldsStore g r z → IsLaid (plan g r).vars (relied g r) r.stack regs.dp z.core.words z.world.store x
  laid_at laid z regs x uses bases h =
      subst (λ d. IsLaid (plan g r).vars (relied g r) r.stack d z.core.words z.world.store x) (sym bases.base)
      (unseen laid (λ b. IsLaid (plan_in (g.plans r.core) b.plan).vars (relied g r) r.stack (4 * b.base) z.core.words z.world.store x)
      (framed_laid (places g r.core) (relied g r) r.footprint.uses r.stack 0 laid.frame z.core.words z.world.store h.holds x
      (uses_seen laid x uses)))

  -- and so does a place
  pub place_laid_at : (laid : IsLaidOut g r) (z : ThreadView) (regs : Regs) (p : kernel.Place) → UsesAt g r p → HasBases g r regs →
      HoldsStore g r z → PlaceIsLaid (plan g r).vars (relied g r) r.stack regs.dp z.core.words z.world.store p
  place_laid_at laid z regs p uses bases h =
      subst (λ d. PlaceIsLaid (plan g r).vars (relied g r) r.stack d z.core.words z.world.store p) (sym bases.base)
      (unseen laid (λ b. PlaceIsLaid (plan_in (g.plans r.core) b.plan).vars (relied g r) r.stack (4 * b.base) z.core.words z.world.store p)
      (framed_place (places g r.core) (relied g r) r.footprint.uses r.stack 0 laid.frame z.core.words z.world.store h.holds p
      (place_seen laid p uses)))
