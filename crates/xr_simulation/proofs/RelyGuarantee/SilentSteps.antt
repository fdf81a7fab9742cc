-- A silent step of a thread: the program does nothing.
use Rattle.std.proofs.Common.{◌≡◌, ℕ, suc, ◌+◌, ◌*◌, ◌<◌, ◌≤◌, ◌≢◌, ◌⊎◌, [], Option, Some, None, refl, sym, ap, ◌∙◌, subst, ⊎_elim, arith}
use Rattle.std.specs.Prelude.{Bool, true, false, slice_get}
use Rattle.std.proofs.lemmas.Bool.{cases_eq}
use Rattle.xs_instr.specs.declared.state.CoreState.{CoreState}
use Rattle.xs_instr.specs.declared.state.Mode.{Mode as ThreadMode}
use Rattle.xs_instr.specs.declared.state.Mode.TheVariants.{Running}
use Rattle.xs_instr.specs.declared.state.Thread.{Thread}
use Rattle.xs_instr.specs.Pool.{is_tied, is_unused}
use Rattle.xs_instr.specs.declared.state.Res.TheVariants.{Port as ResPort}
use Rattle.xc_disjoint.specs.Needs.{threads_on}
use Rattle.xc_kernel.specs.declared.kernel.PortUse.{PortUse}
use Rattle.xc_meaning.specs.Counts.KernelCounts.{kernel_bound}
use Rattle.xc_meaning.specs.States.Branches.{Branch, has_ended}
use Rattle.xc_meaning.specs.States.Worlds.{World}
use Rattle.xl_expr.specs.declared.plan.VarPlan.{VarPlan}
use Rattle.xl_expr.specs.Frames.{IsNear}
use Rattle.xl_par.specs.Acquired.{Acquired}
use Rattle.xl_plan.specs.Layout.{core_of_port, port_number}
use Rattle.xr_match.specs.Lives.{Life, Watched}
use Rattle.xr_match.specs.Systems.{SomeIs}
use Rattle.xr_simulation.specs.Transfers.{spared}
use Rattle.xr_simulation.specs.Living.{AreNamed}
use Rattle.xr_simulation.specs.Roles.{AreRoles, AreUsedSo, AcquiredFits, Roles, got_by, used_by}
use Rattle.xr_simulation.specs.Runners.{HoldsPlaces, Setting, Runner, IsLaidOut, IsPort, MayChange, anyone, of_stack, of_variable, places, port_place}
use Rattle.xr_simulation.specs.ThreadViews.{Guarantee, Owns, StillRuns}
use Rattle.xr_simulation.specs.MatchStates.{AreLoose, EventsAre, IsRun, IsWanted, NobodyChanges, NobodyHas, RunsBranch, ThreadRel, ProgressBy, ThreadIs, none_rests, only}
use Rattle.xr_simulation.specs.NextStep.{PortIs}
use Rattle.xr_simulation.proofs.RelyGuarantee.Holding.{LeavesLoose, holds_on}
use Rattle.xl_expr.proofs.Lists.{get_set_same}
use Rattle.xl_expr.proofs.ResourceParts.{port_same}
use Rattle.xr_simulation.proofs.Lives.OwnLife.{got_new, new_or_old, own_life}
use Rattle.xr_simulation.proofs.Relation.Moments.{BranchAt, Moment, ThreadAt}
use Rattle.xr_simulation.proofs.Relation.CoreSteps.{Effect, laid_at}
use Rattle.xr_simulation.proofs.Relation.Reserves.{GiveAsBefore, reserves_of_others}
use Rattle.xr_simulation.proofs.Relation.Lasting.{Follows, told_by}
use Rattle.xr_simulation.proofs.Relation.Events.{answered, clocks_still, far_steps_still, has_stepped, steps_still, watched}
use Rattle.xr_simulation.proofs.Image.Places.{numbers_differ}
use Rattle.xr_simulation.proofs.Channels.Wiring.{TransfersAsBefore, wired_still}

-- What nobody may change is as the program has it still, behind an event of a runner that changes none of it.
module _ (g : Setting) (who who' : Roles) (c : ℕ) (a b : CoreState) (x y : World) (r : Runner) (on : r.core ≡ c) (laid : IsLaidOut g r)
    (loose : AreLoose g who c a x) (leaves : LeavesLoose g r a b x y)
    (changes : (v : ℕ) → NobodyChanges who' c v → (r.footprint.changes v ≡ false) × NobodyChanges who c v)
    (wants : (v : ℕ) → IsWanted who' c v → IsWanted who c v)
    (has : (q : ℕ) → NobodyHas who' c q → (r.footprint.ports q ≡ false) × NobodyHas who c q) where
  not_own : (v n i : ℕ) (found : VarPlan) → r.footprint.changes v ≡ false → IsNear (places g r.core) v n found → i < found.words →
      MayChange g r (0 + n + i) → ⊥
  not_own v n i found unchanged near lt (of_variable v' n' i' found' near' changed' lt' is') =
      let same : v ≡ v' = laid.frame.disjoint v n i v' n' i' found found' near near' lt lt' (omega (arith, is')) in
      let both : true ≡ false = sym changed' ∙ ap r.footprint.changes (sym same) ∙ unchanged in
      cc
  not_own v n i found unchanged near lt (of_stack k lt' is') =
      ⊎_elim
      (λ h. let z : ⊥ = omega (arith, h, lt', is') in z)
      (λ h. let z : ⊥ = omega (arith, h, lt', is') in z)
      (laid.frame.apart v n i found near lt)

  variable_still : (v : ℕ) → NobodyChanges who' c v → IsWanted who' c v → HoldsPlaces g c (only v) b.words y.store
  variable_still v nobody wanted =
      let old = changes v nobody in
      holds_on (places g c) v a.words b.words x.store y.store (leaves.store v old.0)
      (λ n i found near lt. leaves.words (0 + n + i)
      (not_own v n i found old.0 (subst (λ k. IsNear (places g k) v n found) (sym on) near) lt))
      (loose.variables v old.1 (wants v wanted))

  port_still : (q : ℕ) (listed : PortUse) → IsPort g (anyone c) q listed → NobodyHas who' c q → PortIs g (anyone c) q listed (record { core = b; world = y; hand = None })
  port_still q listed is nobody =
      let old = has q nobody in
      let at = loose.ports q listed is old.1 in
      record {
        port = at.port;
        there =
            port_same a b (port_place g (anyone c) q) (leaves.resources.parts (ResPort (port_place g (anyone c) q))
            (λ m.
            let one = numbers_differ core_of_port g.program.ports r.core q m.port listed m.listed is.known m.is.known (is.core ∙ sym on)
            m.is.core (ap (λ k. port_number k g.program.ports q) on ∙ m.place) in
            let both : true ≡ false = sym m.is.mine ∙ ap r.footprint.ports (sym one) ∙ old.0 in
            cc))
            ∙ at.there;
        declared = at.declared;
      }

  pub loose_still : AreLoose g who' c b y
  loose_still = record { variables = variable_still; ports = port_still }

-- a thread that was unused is used
pub record IsNewlyUsed (a b : CoreState) (u : ℕ) : Type 0 where
  pub old : Thread
  pub was : slice_get a.threads u ≡ Some old
  pub unused : is_unused old.mode ≡ true
  pub new : Thread
  pub is : slice_get b.threads u ≡ Some new
  pub used : is_unused new.mode ≡ false

-- What a silent step makes of the roles: each runner is there as before, the thread's own with what it has in hand now.
pub record SilentRoles
    (g : Setting) (who who' : Roles) (c t : ℕ) (r : Runner) (hand hand' : Option Acquired) (a b : CoreState) (branch : Branch) (moved : (thread : ℕ) → Bool) : Type 0 where
  pub own : moved t ≡ true
  pub now : who' c t ≡ used_by r hand'
  pub in_hand : AcquiredFits branch.items hand'
  pub same_role : (u : ℕ) → moved u ≡ false → who' c u ≡ who c u
  pub far_role : (d u : ℕ) → d ≢ c → who' d u ≡ who d u
  pub others_got : (u : ℕ) → moved u ≡ true → u ≢ t → who' c u ≡ got_by t
  pub fresh : (u : ℕ) → moved u ≡ true → u ≢ t → (who c u ≡ got_by t) ⊎ IsNewlyUsed a b u
  pub before : (d u : ℕ) (i : Runner) (other : Option Acquired) → who' d u ≡ used_by i other → (old : Option Acquired) × (who d u ≡ used_by i old)
  pub still : (d u : ℕ) (i : Runner) (other : Option Acquired) → who d u ≡ used_by i other → (new : Option Acquired) × (who' d u ≡ used_by i new)
  pub gives : GiveAsBefore who who'
  pub roles : AreRoles g who'
  pub used : AreUsedSo who' c b
  pub threads : (u : ℕ) → moved u ≡ false → slice_get b.threads u ≡ slice_get a.threads u
  pub not_held : (u s : ℕ) → who c u ≡ got_by s → s ≢ t → moved u ≡ false
  pub ties : (u n : ℕ) (thread : Thread) → moved u ≡ true → slice_get b.threads u ≡ Some thread → is_tied thread n ≡ true → Owns r hand n ⊎ (r.tie ≡ Some n)
  pub syncs : (n : ℕ) → (Owns r hand n → ⊥) → slice_get a.syncs n ≡ Some true → slice_get b.syncs n ≡ Some true

module _ {moment : Moment none_rests} {hand : Option Acquired} {thread_at : ThreadAt moment hand} (branch_at : BranchAt thread_at)
    (b : CoreState) (hand' : Option Acquired)
    (alive : (mode : ThreadMode) → mode ≡ Running → ThreadIs thread_at.runner.parents branch_at.branch.mode mode)
    (calm : (bit : Bool) → bit ≡ false → EventsAre branch_at.branch.mode branch_at.branch.items bit)
    (on : StillRuns moment.setting thread_at.runner b)
    (guarantee : Guarantee moment.setting thread_at.runner (record { core = thread_at.state; world = moment.told.state; hand = hand })
    (record { core = b; world = moment.told.state; hand = hand' }))
    (roots : b.roots ≡ thread_at.state.roots) (ends : b.ends ≡ thread_at.state.ends) (who' : Roles) (moved : (thread : ℕ) → Bool)
    (s : SilentRoles moment.setting moment.roles who' thread_at.core thread_at.thread thread_at.runner hand hand' thread_at.state b
    branch_at.branch moved) where
  open moment use {setting as g, image as is, roles as who, watched as w, told as x, standing as st}
  open thread_at use {core as c, thread as t, state as a, at_core as at_c, runner as r, runs as runs_r}
  open branch_at use {branch, known, stand}

  pub silent_effect : Effect g who c t r hand moved a b x.state x.state
  silent_effect = record {
    clock = guarantee.clock;
    sizes = guarantee.sizes;
    threads = s.threads;
    not_held = s.not_held;
    ties = s.ties;
    syncs = s.syncs;
    words = guarantee.words;
    resources = guarantee.resources;
    clocks = refl;
    branches = λ n branch ne there. there;
    store = λ v e. refl;
  }

  abbrev pub silent_watched : Watched
  silent_watched = watched thread_at moved s.own b x.state silent_effect None

  silent_loose : 1 ≤ threads_on g.program c → AreLoose g who' c b x.state
  silent_loose some =
      loose_still g who who' c a b x.state x.state r (st.roles.core c t r hand runs_r) (laid_at moment c t r hand runs_r)
      (st.loose c a at_c some) (record { words = guarantee.words; resources = guarantee.resources; store = λ v e. refl })
      (λ v nobody. (nobody t r hand' s.now, λ u i other at. let k = s.still c u i other at in nobody u i k.0 k.1))
      (λ v want. let k = s.before c want.thread want.runner want.hand want.runs in record { thread = want.thread; runner = want.runner; hand = k.0; runs = k.1; parent = want.parent; waits = want.waits; uses = want.uses })
      (λ q nobody. (nobody t r hand' s.now, λ u i other at. let k = s.still c u i other at in nobody u i k.0 k.1))

  silent_run : (n : ℕ) (b : Branch) → slice_get x.state.branches n ≡ Some b → has_ended b.mode ≡ false → IsRun who' n
  silent_run n b there goes_on =
      let q = st.run n b there goes_on in
      let k = s.still q.core q.thread q.runner q.hand q.runs in
      record { core = q.core; thread = q.thread; runner = q.runner; hand = k.0; runs = k.1; branch = q.branch }

  -- each thread is in the transfer in which it was
  silent_transfers : TransfersAsBefore who who'
  silent_transfers = record {
    before = λ d u i other transfer at its. let k = s.before d u i other at in (i, k.0, k.1, its);
    still = λ d u i other transfer at its. let k = s.still d u i other at in (i, k.0, k.1, its);
  }

  -- the thread is on its way still
  module _ (left : ℕ) (few : suc left ≤ stand.left) (by : ProgressBy g r false branch.items branch.mode left (record { core = b; world = x.state; hand = hand' }))
      (named : AreNamed g who w x → AreNamed g who' silent_watched (told_by g.program g.stimulus x [] x.state)) where
    abbrev more : ℕ → ℕ
    more = (told_by g.program g.stimulus x [] x.state).actions

    silent_own : RunsBranch g r false hand' b x.state (silent_watched.lives c t) more branch
    silent_own = record {
      core = stand.core;
      family = stand.family;
      footprint = stand.footprint;
      parents = stand.parents;
      thread = record {
        thread = on.thread;
        there = on.there;
        tied = on.tied;
        events = calm on.thread.event_bit on.no_events;
        is = alive
            on.thread.mode on.runs;
      };
      in_hand = s.in_hand;
      sides = stand.sides;
      inside = stand.inside;
      done = stand.done;
      stops = stand.stops;
      ends_tied = stand.ends_tied;
      left = left;
      bound =
          let old = stand.bound in
          let same : x.actions r.family + 0 ≡ x.actions r.family = omega arith in
          let life : (silent_watched.lives c t).steps ≡ (w.lives c t).steps + 1 = ap (λ (l : Life). l.steps) (own_life w silent_watched.machine c t) in
          subst (λ m. (silent_watched.lives c t).steps + (left + spared r.transfer) ≤ kernel_bound g.program * (m + 1)) (sym same) (omega arith);
      by = by;
    }

    -- a thread that was got has done no step
    no_steps : (u : ℕ) → moved u ≡ true → u ≢ t → (silent_watched.lives c u).steps ≡ 0
    no_steps u m ne =
        ⊎_elim
        (λ (got : who c u ≡ got_by t).
        let old = subst (ThreadRel g false a x.state (w.lives c u) x.actions) got (st.threads c u a at_c) in
        ⊎_elim
        (λ (none : (silent_watched.lives c u).steps ≡ 0). none)
        (λ same. ap (λ (l : Life). l.steps) same.1 ∙ old)
        (new_or_old w silent_watched.machine c t u ne))
        (λ (new : IsNewlyUsed a b u). got_new w silent_watched.machine c t u a b new.old new.new ne at_c (get_set_same w.machine.cores c a b at_c) new.was new.is new.unused new.used)
        (s.fresh u m ne)

    silent_stand : (u : ℕ) → moved u ≡ true → ThreadRel g false b x.state (silent_watched.lives c u) more (who' c u)
    silent_stand u m =
        ⊎_elim
        (λ (at : u ≡ t).
        subst (λ k. ThreadRel g false b x.state (silent_watched.lives c k) more (who' c k)) (sym at)
        (subst (ThreadRel g false b x.state (silent_watched.lives c t) more) (sym s.now) (subst (λ o. SomeIs o (RunsBranch g r false hand' b x.state (silent_watched.lives c t) more)) (sym known) silent_own)))
        (λ (ne : u ≢ t). subst (ThreadRel g false b x.state (silent_watched.lives c u) more) (sym (s.others_got u m ne)) (no_steps u m ne))
        (cases_eq u t)

    pub silent_answered : Follows g none_rests who w x silent_watched
    silent_answered = record {
      who = who';
      piece = [];
      world = x.state;
      acted = refl;
      standing = answered thread_at moved s.own b x.state silent_effect none_rests who' silent_watched []
          (has_stepped thread_at moved s.own b x.state silent_effect None guarantee.sizes)
          (record {
            acted = refl;
            clocks = clocks_still thread_at moved s.own b x.state silent_effect None;
            trace = st.trace;
            roles = s.roles;
            reserves = reserves_of_others g who x.state st.reserves who' s.gives;
            used = s.used;
            same_role = s.same_role;
            far_role = s.far_role;
            rests = λ u m none. none;
            far_rests = λ d u ne none. none;
            steps = λ u m. steps_still thread_at moved s.own b x.state silent_effect None u m;
            far_steps = λ d u ne. far_steps_still thread_at moved s.own b x.state silent_effect None d u ne;
            stand = silent_stand;
            wired = wired_still g who who' w.machine silent_watched.machine c a b x.state x.state silent_transfers at_c refl refl ends
                refl st.wired;
            alone = λ u i other transfer m at its. let k = s.before c u i other at in st.alone c u i k.0 transfer k.1 its;
            loose = silent_loose;
            roots = roots ∙ st.roots c a at_c;
            far_roots = λ d ne. refl;
            placed = st.placed;
            run = silent_run;
            made = st.made;
          });
      named = named;
    }
