-- A synchroniser is given back behind a join: the thread is at the code of what is left to its branch.
use Rattle.std.proofs.Common.{◌≡◌, ◌≢◌, ℕ, ◌+◌, ◌*◌, ◌<◌, ◌≤◌, Bool, true, false, [], Option, Some, None, refl, sym, ap, ◌∙◌, subst, inl, inr, ⊎_elim, arith, eq-eqb}
use Rattle.std.specs.Prelude.{nat_eq, slice_get, slice_set}
use Rattle.std.proofs.lemmas.Bool.{cases_eq, eqb-true, ne_eqb}
use Rattle.std.proofs.lemmas.List.{length-set}
use Rattle.std.proofs.lemmas.Option.{same_Some, slice_get_within}
use Rattle.xs_instr.specs.declared.state.CoreState.{CoreState}
use Rattle.xs_instr.specs.declared.state.Mode.TheVariants.{Running}
use Rattle.xs_instr.specs.declared.state.Thread.{Thread}
use Rattle.xs_instr.specs.Did.{makes}
use Rattle.xs_instr.specs.Pool.{is_tied, some_tied}
use Rattle.xs_instr.specs.Rows.{goes_on as row_goes_on, put_syncs}
use Rattle.xs_instr.specs.Slot.{slot}
use Rattle.xc_disjoint.specs.Needs.{threads_on}
use Rattle.xc_meaning.specs.Counts.KernelCounts.{kernel_bound}
use Rattle.xc_meaning.specs.States.Branches.{Branch, ended, has_ended, runs}
use Rattle.xl_expr.proofs.Lists.{get_set_other, get_set_same}
use Rattle.xl_expr.proofs.ResourceParts.{others_same}
use Rattle.xl_par.specs.Acquired.{Acquired, IsAmong}
use Rattle.xr_match.specs.Lives.{Life, Watched}
use Rattle.xr_match.specs.Systems.{SomeIs}
use Rattle.xr_simulation.specs.Transfers.{spared}
use Rattle.xr_simulation.specs.Parents.{Parent, syncs_of}
use Rattle.xr_simulation.specs.Roles.{AreRoles, AreUsedSo, IsParent, Role, Roles, empty, got_by, unused, used_by}
use Rattle.xr_simulation.specs.Runners.{Runner, home}
use Rattle.xr_simulation.specs.ThreadViews.{Owns, giving_back, held_in, running, sync_in}
use Rattle.xr_simulation.specs.MatchStates.{AreLoose, IsRun, RunsBranch, ThreadRel, ProgressBy, ProgressWith, ThreadIs, none_rests}
use Rattle.xr_simulation.specs.NextStep.{GivesBack, IsFree, IsWaitingTied, Rest, cost, is_watching}
use Rattle.xr_simulation.proofs.Relation.Moments.{Moment, ThreadAt}
use Rattle.xr_simulation.proofs.OwnSteps.Events.{rests_alone, rests_there}
use Rattle.xr_simulation.proofs.Par.JoinDecision.{hand_has_sync, runs_at_thread}
use Rattle.xr_simulation.proofs.Lives.OwnLife.{own_life}
use Rattle.xr_simulation.proofs.Relation.CoreSteps.{Effect, parent_sync, same_hand, same_runner}
use Rattle.xr_simulation.proofs.Relation.Pools.{num_is, untied_all}
use Rattle.xr_simulation.proofs.Relation.Reserves.{GiveAsBefore, reserves_of_others}
use Rattle.xr_simulation.proofs.Relation.Seats.{role_cases, role_far, role_here, role_other, roles_go_on, seated_itself, with_role}
use Rattle.xr_simulation.proofs.Lives.Links.{resumes_linked, told_same}
use Rattle.xr_simulation.proofs.Relation.Lasting.{Follows, told_by}
use Rattle.xr_simulation.proofs.RelyGuarantee.Stands.{items_stand}
use Rattle.xr_simulation.proofs.Relation.Events.{answered, clocks_still, far_steps_still, has_stepped, steps_still, watched}
use Rattle.xr_simulation.proofs.Relation.Usage.{OthersUsed, used_on}
use Rattle.xr_simulation.proofs.RelyGuarantee.Events.{events_on, here_at, items_unwatched}
use Rattle.xr_simulation.proofs.Channels.Wiring.{TransfersAsBefore, wired_still}

module _ {moment : Moment none_rests} {n : ℕ} (thread_at : ThreadAt moment (giving_back n)) where
  open moment use {setting as g, image as is, roles as who, watched as w, told as x, standing as st}
  open thread_at use {core as c, thread as t, state as a, at_core as at_c, runner as r, runs as runs_r}

  used : AreUsedSo who c a
  used = st.used c a at_c

  owns : Owns r (giving_back n) n
  owns = inr refl

  pub taken : slice_get a.syncs n ≡ Some true
  taken = used.owned t n r (giving_back n) runs_r owns

  -- Nobody is tied to it any more.
  pub nobody_tied : some_tied a.threads n ≡ false
  nobody_tied = untied_all a.threads n (λ u thread there. by u thread there (is_tied thread n) refl)
    where
      owner_is : (k m : ℕ) (q : Runner) (hand : Option Acquired) → who c k ≡ used_by q hand → Owns q hand n → (k ≡ t) × (q ≡ r) × (hand ≡ giving_back n)
      owner_is k m q hand runs_q own =
          let at : k ≡ t = st.roles.owner c t k n r q (giving_back n) hand runs_r runs_q owns own in
          let both : used_by q hand ≡ used_by r (giving_back n) = sym runs_q ∙ ap (who c) at ∙ runs_r in
          (at, same_runner q r hand (giving_back n) both, same_hand q r hand (giving_back n) both)

      not_so : (u : ℕ) (thread : Thread) → slice_get a.threads u ≡ Some thread → is_tied thread n ≡ true → (o : Role) → who c u ≡ o → ⊥
      not_so u thread there tied unused e =
          let few : u < 8 = let within = slice_get_within a.threads u thread there in let eight = used.threads in omega arith in
          let free = subst IsFree there (used.unused u few e) in
          let clash : None ≡ Some n = sym free.untied ∙ num_is thread.tie n tied in let z : ⊥ = cc in z
      not_so u thread there tied (got_by k) e =
          let h = st.roles.got c u k e in
          let run = runs_at_thread g none_rests who w x st c a at_c k h.0 h.1 h.2 in
          let m = hand_has_sync run.branch.items h.1 u run.in_hand h.3 in
          let waits = subst (IsWaitingTied m.0) there (used.got u k m.0 h.0 h.1 e h.2 m.1) in
          let both : Some m.0 ≡ Some n = sym waits.tied ∙ num_is thread.tie n tied in
          let own : Owns h.0 h.1 n = inr (m.1 ∙ both) in
          subst (λ hand. IsAmong (held_in hand) u) (owner_is k m.0 h.0 h.1 h.2 own).2 h.3
      not_so u thread there tied (used_by s other) e =
          let run = runs_at_thread g none_rests who w x st c a at_c u s other e in
          let same : thread ≡ run.thread = same_Some thread run.thread (sym there ∙ ap (slice_get a.threads) (sym (st.roles.thread c u s other e)) ∙ run.there) in
          let tie : s.tie ≡ Some n = sym run.tied ∙ ap (λ (i : Thread). i.tie) (sym same) ∙ num_is thread.tie n tied in
          let k = st.roles.tied c u n s other e tie in
          let q : Parent = k.4 in
          let q_there : IsParent k.2.parents q = k.6 in
          let among = parent_sync k.2.parents q n q_there k.7 in
          let o = owner_is k.0 n k.2 k.3 k.5 (inl among) in
          st.roles.owned_apart c t n r (giving_back n) runs_r (subst (λ (i : Runner). IsAmong (syncs_of i.parents) n) o.1 among) refl

      by : (u : ℕ) (thread : Thread) → slice_get a.threads u ≡ Some thread → (b : Bool) → is_tied thread n ≡ b → is_tied thread n ≡ false
      by u thread there true e = absurd (not_so u thread there e (who c u) refl)
      by u thread there false e = e

  module _ (branch : Branch) (known : slice_get x.state.branches r.branch ≡ Some branch) (mode : branch.mode ≡ runs)
      (stand : RunsBranch g r false (giving_back n) a x.state (w.lives c t) x.actions branch) (none : r.transfer ≡ None) (j : ℕ) (few : 1 + j + cost g r ≤ stand.left)
      (gives : GivesBack g r branch.items j (record { core = a; world = x.state; hand = giving_back n })) where
    sync_is : gives.sync ≡ n
    sync_is = let e : giving_back n ≡ giving_back gives.sync = gives.in_hand in let s : Some n ≡ Some gives.sync = ap sync_in e in cc

    core_is : r.core ≡ c
    core_is = st.roles.core c t r (giving_back n) runs_r

    thread_is : r.thread ≡ t
    thread_is = st.roles.thread c t r (giving_back n) runs_r

    abbrev th : Thread
    th = running r.tie gives.pc gives.regs

    abbrev th' : Thread
    th' = running r.tie (gives.pc + 1) gives.regs

    -- what the step leaves
    abbrev pub left : CoreState
    left = row_goes_on (put_syncs a (slice_set a.syncs n false)) r.thread (running r.tie gives.pc gives.regs) gives.regs

    pub made_is : slot (home g r) a r.thread ≡ makes left
    made_is =
        let e = sync_is in
        gives.frees a gives.here (subst (λ k. slice_get a.syncs k ≡ Some true) (sym e) taken) (subst (λ k. some_tied a.threads k ≡ false) (sym e) nobody_tied)
        ∙ ap (λ k. makes (row_goes_on (put_syncs a (slice_set a.syncs k false)) r.thread (running r.tie gives.pc gives.regs) gives.regs)) e

    not_t : (u : ℕ) → nat_eq u t ≡ false → u ≢ t
    not_t u m e = let both : true ≡ false = sym (eq-eqb u t e) ∙ m in cc

    others : (u : ℕ) → u ≢ t → slice_get left.threads u ≡ slice_get a.threads u
    others u ne = get_set_other a.threads r.thread u th' (λ e. ne (e ∙ thread_is))

    pub effect : Effect g who c t r (giving_back n) (λ u. nat_eq u t) a left x.state x.state
    effect = record {
      clock = refl;
      sizes = refl;
      threads = λ u m. others u (not_t u m);
      not_held = λ u k got ne. ne_eqb u t (λ e. let both : got_by k ≡ used_by r (giving_back n) = sym got ∙ ap (who c) e ∙ runs_r in let z : ⊥ = cc in z);
      ties = λ u k thread m there tied.
          let at : u ≡ r.thread = eqb-true u t m ∙ sym thread_is in
          let same : thread ≡ th' = same_Some thread th' (sym there ∙ ap (slice_get left.threads) at ∙ get_set_same a.threads r.thread th th' gives.here) in
          inr (ap (λ (i : Thread). i.tie) (sym same) ∙ num_is thread.tie k tied);
      syncs = λ k not_mine was. get_set_other a.syncs n k false (λ e. not_mine (subst (Owns r (giving_back n)) (sym e) owns)) ∙ was;
      words = λ k mine. refl;
      resources = others_same _ _ _ _ refl refl refl;
      clocks = refl;
      branches = λ k b mine there. there;
      store = λ v c. refl;
    }

    abbrev who' : Roles
    who' = with_role who c t (used_by r None)

    roles' : AreRoles g who'
    roles' = roles_go_on g who c t st.roles r (giving_back n) runs_r r None (record { seated = seated_itself r; held = refl; sync = λ k e. let none : None ≡ Some k = e in absurd (let z : ⊥ = cc in z); branches = λ b m. inl m })

    others_used : OthersUsed g who c t st.roles r (giving_back n) runs_r a left used
    others_used = record {
      as_many = length-set a.threads r.thread th';
      as_many_syncs = length-set a.syncs n false;
      alike = λ u ne. record { by = λ thread there. (thread, others u ne ∙ there, refl, refl, refl) };
      syncs = λ k not_mine was. get_set_other a.syncs n k false (λ e. not_mine (subst (Owns r (giving_back n)) (sym e) owns)) ∙ was;
    }

    -- what is taken then was taken, and isn't this one
    taken_then : (k : ℕ) → slice_get left.syncs k ≡ Some true → (slice_get a.syncs k ≡ Some true) × (Owns r (giving_back n) k → Owns r None k)
    taken_then k now =
        ⊎_elim
        (λ (e : k ≡ n).
        let free : slice_get left.syncs k ≡ Some false = ap (slice_get left.syncs) e ∙ get_set_same a.syncs n true false taken in
        let both : Some true ≡ Some false = sym now ∙ free in absurd (let z : ⊥ = cc in z))
        (λ (ne : k ≢ n). (sym (get_set_other a.syncs n k false ne) ∙ now, λ owned. ⊎_elim (λ m. inl m) (λ (its : Some n ≡ Some k). let z : k ≡ n = cc in absurd (ne z)) owned))
        (cases_eq k n)

    owned_then : (k : ℕ) → Owns r None k → slice_get left.syncs k ≡ Some true
    owned_then k (inl m) =
        get_set_other a.syncs n k false (λ e. st.roles.owned_apart c t n r (giving_back n) runs_r (subst (IsAmong (syncs_of r.parents)) e m) refl)
        ∙ used.owned t k r (giving_back n) runs_r (inl m)
    owned_then k (inr e) = let none : None ≡ Some k = e in absurd (let z : ⊥ = cc in z)

    used' : AreUsedSo who' c left
    used' = used_on g who c t st.roles r (giving_back n) runs_r a left used r None others_used (λ k now. inr (taken_then k now)) owned_then (λ k u e m. absurd m)

    gives_as_before : GiveAsBefore who who'
    gives_as_before = record {
      before = λ d u k q at.
          ⊎_elim
          (λ here. let none : None ≡ giving_back k = same_hand r q None (giving_back k) (sym here.2 ∙ at) in absurd (let z : ⊥ = cc in z))
          (λ there. (q, k, sym there.1 ∙ at, refl))
          (role_cases who c t (used_by r None) d u);
    }

    -- a runner was there before, and is there still
    runner_before : (d u : ℕ) (q : Runner) (hand : Option Acquired) → who' d u ≡ used_by q hand → (old : Option Acquired) × (who d u ≡ used_by q old)
    runner_before d u q hand at =
        ⊎_elim
        (λ here. (giving_back n, ap (λ k. who k u) here.0 ∙ ap (who c) here.1 ∙ runs_r ∙ ap (λ i. used_by i (giving_back n)) (same_runner r q None hand (sym here.2 ∙ at))))
        (λ there. (hand, sym there.1 ∙ at))
        (role_cases who c t (used_by r None) d u)

    runner_still : (d u : ℕ) (q : Runner) (hand : Option Acquired) → who d u ≡ used_by q hand → (new : Option Acquired) × (who' d u ≡ used_by q new)
    runner_still d u q hand at =
        ⊎_elim
        (λ here. (None, here.2 ∙ ap (λ i. used_by i None) (same_runner r q (giving_back n) hand (sym runs_r ∙ sym (ap (λ k. who k u) here.0 ∙ ap (who c) here.1) ∙ at))))
        (λ there. (hand, there.1 ∙ at))
        (role_cases who c t (used_by r None) d u)

    -- what is loose is so still
    loose' : 1 ≤ threads_on g.program c → AreLoose g who' c left x.state
    loose' some =
        let old = st.loose c a at_c some in
        record {
          variables = λ v nobody wanted.
              let k = runner_before c wanted.thread wanted.runner wanted.hand wanted.runs in
              let h = old.variables v
              (λ u q hand at. let s = runner_still c u q hand at in nobody u q s.0 s.1)
              (record { thread = wanted.thread; runner = wanted.runner; hand = k.0; runs = k.1; parent = wanted.parent; waits = wanted.waits; uses = wanted.uses }) in
              record { lengths = h.lengths; values = h.values };
          ports = λ p listed its nobody.
              let h = old.ports p listed its (λ u q hand at. let s = runner_still c u q hand at in nobody u q s.0 s.1) in
              record { port = h.port; there = h.there; declared = h.declared };
        }

    -- each thread is in the transfer in which it was
    transfers_still : TransfersAsBefore who who'
    transfers_still = record {
      before = λ d u q hand transfer at its. let k = runner_before d u q hand at in (q, k.0, k.1, its);
      still = λ d u q hand transfer at its. let k = runner_still d u q hand at in (q, k.0, k.1, its);
    }

    run' : (b : ℕ) (other : Branch) → slice_get x.state.branches b ≡ Some other → has_ended other.mode ≡ false → IsRun who' b
    run' b other there on =
        let k = st.run b other there on in
        let s = runner_still k.core k.thread k.runner k.hand k.runs in
        record { core = k.core; thread = k.thread; runner = k.runner; hand = s.0; runs = s.1; branch = k.branch }

    abbrev watched' : Watched
    watched' = watched thread_at (λ u. nat_eq u t) (eq-eqb t t refl) left x.state effect None

    unwatched : is_watching branch.items ≡ false
    unwatched = items_unwatched g r branch.items gives.exits (gives.pc + 1) j gives.at_code

    -- the thread is at rest behind that
    rest' : Rest g r branch.items j (record { core = left; world = x.state; hand = None })
    rest' = record {
      pc = gives.pc + 1;
      regs = gives.regs;
      here = here_at branch.items unwatched (get_set_same a.threads r.thread th th' gives.here);
      bases = gives.bases;
      stands = items_stand g r branch.items gives.exits (gives.pc + 1) j gives.regs left gives.at_code;
      fits = gives.fits;
      has = record {
        branch = gives.has.branch;
        runs = record { known = gives.has.runs.known; running = gives.has.runs.running; items_are = gives.has.runs.items_are };
        core = gives.has.core;
        holds = record { holds = record { lengths = gives.has.holds.holds.lengths; values = gives.has.holds.holds.values }; room = gives.has.holds.room };
        ports = λ p listed its. let h = gives.has.ports p listed its in record { port = h.port; there = h.there; declared = h.declared };
      };
    }

    stand' : RunsBranch g r true None left x.state (watched'.lives c t) (told_by g.program g.stimulus x [] x.state).actions branch
    stand' = record {
      core = stand.core;
      family = stand.family;
      footprint = stand.footprint;
      parents = stand.parents;
      thread = record {
        thread = th';
        there = get_set_same a.threads r.thread th th' gives.here;
        tied = refl;
        events = events_on branch.mode branch.items false mode (sym unwatched);
        is = subst (λ m. ThreadIs r.parents m Running) (sym mode) refl;
      };
      in_hand = empty refl;
      sides = stand.sides;
      inside = stand.inside;
      done = stand.done;
      stops = stand.stops;
      ends_tied = λ over. let both : runs ≡ ended = sym mode ∙ over in absurd (let z : ⊥ = cc in z);
      left = j + cost g r;
      bound =
          let old = stand.bound in
          let life : (watched'.lives c t).steps ≡ (w.lives c t).steps + 1 = ap (λ (l : Life). l.steps) (own_life w watched'.machine c t) in
          let none : x.actions r.family + 0 ≡ x.actions r.family = omega arith in
          subst (λ m. (watched'.lives c t).steps + (j + cost g r + spared r.transfer) ≤ kernel_bound g.program * (m + 1)) (sym none) (omega arith);
      by = subst (λ m. ProgressBy g r true branch.items m (j + cost g r) (record { core = left; world = x.state; hand = None })) (sym mode)
          (subst (λ o. ProgressWith g r true o branch.items (j + cost g r) (record { core = left; world = x.state; hand = None })) (sym none) (inr (inr (j, omega arith, refl, rest'))));
    }

    own_stand : (u : ℕ) → nat_eq u t ≡ true → ThreadRel g (rests_alone c t c u) left x.state (watched'.lives c u) (told_by g.program g.stimulus x [] x.state).actions (who' c u)
    own_stand u m =
        let more = (told_by g.program g.stimulus x [] x.state).actions in
        subst (λ k. ThreadRel g (rests_alone c t c k) left x.state (watched'.lives c k) more (who' c k)) (sym (eqb-true u t m))
        (subst (λ b. ThreadRel g b left x.state (watched'.lives c t) more (who' c t)) (sym (rests_there c t))
        (subst (ThreadRel g true left x.state (watched'.lives c t) more) (sym (role_here who c t (used_by r None)))
        (subst (λ o. SomeIs o (RunsBranch g r true None left x.state (watched'.lives c t) more)) (sym known) stand')))

    -- the program does nothing, and all stand so again
    pub resumes_followed : Follows g (rests_alone c t) who w x watched'
    resumes_followed =
        let self = eq-eqb t t refl in
        record {
          who = who';
          piece = [];
          world = x.state;
          acted = refl;
          standing = answered thread_at (λ u. nat_eq u t) self left x.state effect (rests_alone c t) who' watched' []
              (has_stepped thread_at (λ u. nat_eq u t) self left x.state effect None refl)
              (record {
                acted = refl;
                clocks = clocks_still thread_at (λ u. nat_eq u t) self left x.state effect None;
                trace = st.trace;
                roles = roles';
                reserves = reserves_of_others g who x.state st.reserves who' gives_as_before;
                used = used';
                same_role = λ u m. role_other who c t (used_by r None) u (not_t u m);
                far_role = λ d u ne. role_far who c t (used_by r None) d u ne;
                rests = λ u m none. let both : false ≡ true = none in absurd (let z : ⊥ = cc in z);
                far_rests = λ d u ne none. let both : false ≡ true = none in absurd (let z : ⊥ = cc in z);
                steps = λ u m. steps_still thread_at (λ u. nat_eq u t) self left x.state effect None u m;
                far_steps = λ d u ne. far_steps_still thread_at (λ u. nat_eq u t) self left x.state effect None d u ne;
                stand = own_stand;
                wired = wired_still g who who' w.machine watched'.machine c a left x.state x.state transfers_still at_c refl refl refl
                    refl st.wired;
                alone = λ u q hand transfer m at its. let k = runner_before c u q hand at in st.alone c u q k.0 transfer k.1 its;
                loose = loose';
                roots = st.roots c a at_c;
                far_roots = λ d ne. refl;
                placed = st.placed;
                run = run';
                made = st.made;
              });
          named = λ names. resumes_linked g none_rests who w x st names watched'.machine c t a left at_c (get_set_same w.machine.cores c a left at_c) r r n runs_r refl (told_by g.program g.stimulus x [] x.state) (told_same g x [] x.state refl) taken refl others;
        }
