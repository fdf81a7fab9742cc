-- What stands so where the roots' threads have set their stacks stands so at the machine's start, two steps before.
use Rattle.std.proofs.Common.{◌≡◌, ◌≢◌, ℕ, zero, suc, ◌+◌, ◌*◌, ◌<◌, ◌≤◌, ◌⊎◌, inl, inr, false, List, [], ◌∷◌, length, Option, Some, None, refl, sym, ap, ◌∙◌, subst, ⊎_elim, arith}
use Rattle.std.specs.Prelude.{slice_get}
use Rattle.std.proofs.lemmas.Option.{same_Some}
use Rattle.xs_instr.specs.declared.image.Image.{Image}
use Rattle.xs_instr.specs.declared.instr.Instr.TheVariants.{Ldc, Setsp}
use Rattle.xs_instr.specs.declared.instr.Reg.TheVariants.{R0}
use Rattle.xs_instr.specs.declared.state.CoreState.{CoreState}
use Rattle.xs_instr.specs.declared.state.Mode.TheVariants.{Running, Unused}
use Rattle.xs_instr.specs.declared.state.Thread.{Thread}
use Rattle.xs_instr.specs.Machine.{boot, boot_core, home_of, parts_in}
use Rattle.xs_instr.specs.Registers.{no_regs}
use Rattle.xs_instr.specs.Slot.{instr_at}
use Rattle.xc_disjoint.specs.Needs.{threads_on}
use Rattle.xc_meaning.specs.States.Branches.{Branch, Mode, ended, erred, runs, waits}
use Rattle.xc_meaning.specs.States.Items.{Item}
use Rattle.xl_par.specs.Acquired.{Acquired}
use Rattle.xr_match.specs.Lives.{Life, begun, of_root, watched_start}
use Rattle.xr_match.specs.Meanings.{of_kernel}
use Rattle.xr_match.specs.Sources.{Counted}
use Rattle.xr_match.specs.Systems.{SomeIs}
use Rattle.xr_simulation.specs.Images.{IsImageOf}
use Rattle.xr_simulation.specs.Parents.{Parent}
use Rattle.xr_simulation.specs.Roles.{AreUsedSo, AcquiredFits, Role, Roles, empty, got_by, gives_back, opens, unused, used_by}
use Rattle.xr_simulation.specs.Runners.{Setting, Runner, home}
use Rattle.xr_simulation.specs.Sizes.{sizes_of}
use Rattle.xr_simulation.specs.ThreadViews.{ThreadView, held_in, running, sync_in}
use Rattle.xr_simulation.specs.MatchStates.{AreLoose, EventsAre, HasEnded, IfTrue, IsAtRest, IsOnItsWay, IsResuming, RunsBranch, MatchStates, ThreadRel, ProgressBy, ProgressWith, ThreadIs, none_rests}
use Rattle.xr_simulation.specs.NextStep.{IsFree, Joins, StableNextStep}
use Rattle.xr_simulation.specs.Wired.{AreWired, boxes_in}
use Rattle.xr_simulation.proofs.Start.AtCode.{entry, none_taken, set_on, set_there, set_watched, starts_there, set_life, unused_free, unused_there}
use Rattle.xr_simulation.proofs.Start.Boot.{boot_length, set_regs, stack_leads}
use Rattle.xr_simulation.proofs.RelyGuarantee.ThreadViews.{joins_stable, turns_stable}
use Rattle.xr_simulation.proofs.Start.ProgramStart.{RunsRoot, none_got, root_of}
use Rattle.xr_simulation.proofs.Start.Wires.{ends_same}
use Rattle.xr_channels.proofs.All.OverLinks.{over_same}
use Rattle.xr_simulation.proofs.OwnSteps.Branch.{own_thread_of, some_is}

-- the four cores as they start
boot_cores_are : (L : Image) (c : ℕ) (a : CoreState) → slice_get (boot L).cores c ≡ Some a → (c < 4) × (a ≡ boot_core (parts_in L.cores c))
boot_cores_are L zero a e = (omega arith, sym (same_Some _ a e))
boot_cores_are L (suc zero) a e = (omega arith, sym (same_Some _ a e))
boot_cores_are L (suc (suc zero)) a e = (omega arith, sym (same_Some _ a e))
boot_cores_are L (suc (suc (suc zero))) a e = (omega arith, sym (same_Some _ a e))
boot_cores_are L (suc (suc (suc (suc c)))) a e = cc

-- where no synchroniser was got, no thread was
held_none : (items : List Item) (hand : Option Acquired) → AcquiredFits items hand → sync_in hand ≡ None → held_in hand ≡ []
held_none items hand (empty e) none = ap held_in e
held_none items hand (gives_back n e) none = ap held_in e
held_none items hand (opens h bs rest e is sum several no_threads) none = ap held_in e ∙ no_threads (sym (ap sync_in e) ∙ none)

-- a free thread is unused
free_mode : (o : Option Thread) (x : Thread) → o ≡ Some x → IsFree o → x.mode ≡ Unused
free_mode None x e h = absurd h
free_mode (Some y) x e h = ap (λ (i : Thread). i.mode) (sym (same_Some y x e)) ∙ h.unused

module _ (g : Setting) (who : Roles) (is : IsImageOf g who) where
  abbrev boot_on : (c : ℕ) → CoreState
  boot_on c = boot_core (parts_in g.image.cores c)

  -- the cores where the stacks are set
  set_core_at : (c : ℕ) → c < 4 → slice_get (set_watched who g.image).machine.cores c ≡ Some (set_on g who is c)
  set_core_at zero lt = refl
  set_core_at (suc zero) lt = refl
  set_core_at (suc (suc zero)) lt = refl
  set_core_at (suc (suc (suc zero))) lt = refl
  set_core_at (suc (suc (suc (suc c)))) lt = absurd (omega (arith, lt))

  -- A root's thread, as a runner has it that goes on with it.
  module _ (r r0 : Runner) (e : who r0.core r0.thread ≡ used_by r0 None) (core : r.core ≡ r0.core) (thread : r.thread ≡ r0.thread) (tie : r.tie ≡ None)
      (x : Counted (of_kernel g.program)) (hand : Option Acquired) (none_held : held_in hand ≡ []) (no_sync : sync_in hand ≡ None) where
    abbrev root : RunsRoot g who is r0.core r0.thread r0 None
    root = root_of g who is r0.core r0.thread r0 None e

    abbrev set_z : ThreadView
    set_z = record { core = set_on g who is r0.core; world = x.state; hand = hand }

    abbrev boot_z : ThreadView
    boot_z = record { core = boot_on r0.core; world = x.state; hand = hand }

    tie_is : r0.tie ≡ r.tie
    tie_is = root.is_root.tie ∙ sym tie

    pub starts_at : slice_get (boot_on r0.core).threads r.thread ≡ Some (running r.tie (entry g who is r0 e) no_regs)
    starts_at =
        ap (slice_get (boot_on r0.core).threads) thread ∙ starts_there g who is r0 e
        ∙ ap (λ t. Some (running t (entry g who is r0 e) no_regs)) (sym tie)

    set_at_two : slice_get (set_on g who is r0.core).threads r.thread ≡ Some (running r.tie (entry g who is r0 e + 2) (set_regs r0))
    set_at_two =
        ap (slice_get (set_on g who is r0.core).threads) thread ∙ set_there g who is r0 e
        ∙ ap (λ t. Some (running t (entry g who is r0 e + 2) (set_regs r0))) tie_is

    first_instr : instr_at (home g r) (entry g who is r0 e) ≡ Some (Ldc R0 (4 * r0.stack))
    first_instr =
        ap (λ d. instr_at (home_of g.image g.stimulus d) (entry g who is r0 e)) core ∙ root.is_root.code.stack
        ∙ ap (λ n. Some (Ldc R0 (4 * n))) (sym root.is_root.stack)

    second_instr : instr_at (home g r) (entry g who is r0 e + 1) ≡ Some (Setsp R0)
    second_instr = ap (λ d. instr_at (home_of g.image g.stimulus d) (entry g who is r0 e + 1)) core ∙ root.is_root.code.set

    two_more : (n j left : ℕ) → n + j ≤ left → 1 + (1 + n) + j ≤ left + 2
    two_more n j left le = omega (arith, le)

    pub way_before : (left : ℕ) → IsOnItsWay g r left set_z → IsOnItsWay g r (left + 2) boot_z
    way_before left (n, j, le, leads) = (
      1 + (1 + n),
      j,
      two_more n j left le,
      stack_leads g r (entry g who is r0 e) r0.stack first_instr second_instr boot_z (set_on g who is r0.core).threads starts_at set_at_two none_held no_sync (StableNextStep g r j) (turns_stable g r j) n leads,
    )

    pub ended_before : (ps : List Parent) (left : ℕ) → HasEnded g r ps left set_z → HasEnded g r ps (left + 2) boot_z
    ended_before [] left h = h
    ended_before (p ∷ ps) left (n, j, le, leads) = (
      1 + (1 + n),
      j,
      two_more n j left le,
      stack_leads g r (entry g who is r0 e) r0.stack first_instr second_instr boot_z (set_on g who is r0.core).threads starts_at set_at_two none_held no_sync (Joins g r p ps j) (joins_stable g r p ps j) n leads,
    )

    pub stands_with : (items : List Item) (left : ℕ) → ProgressWith g r false None items left set_z → ProgressWith g r false None items (left + 2) boot_z
    stands_with items left h =
        ⊎_elim
        (λ (on : IsOnItsWay g r left set_z). inl (way_before left on))
        (λ (other : IsResuming g r items left set_z ⊎ IfTrue g r false (IsAtRest g r items left set_z)).
        ⊎_elim
        (λ (back : IsResuming g r items left set_z). let z : ◌≡◌ {A = Option ℕ} None (Some back.2.sync) = sym no_sync ∙ ap sync_in back.2.in_hand in absurd (cc))
        (λ (none : IfTrue g r false (IsAtRest g r items left set_z)). absurd none)
        other)
        h

    pub stands_before : r.transfer ≡ None → (items : List Item) (mode : Mode) (left : ℕ) → ProgressBy g r false items mode left set_z → ProgressBy g r false items mode (left + 2) boot_z
    stands_before none items runs left h = subst (λ o. ProgressWith g r false o items (left + 2) boot_z) (sym none) (stands_with items left (subst (λ o. ProgressWith g r false o items left set_z) none h))
    stands_before none items (waits from count) left h = absurd h
    stands_before none items ended left h = ended_before r.parents left h
    stands_before none items erred left h = h

    pub stand_before : r.transfer ≡ None → (old life : Life) (branch : Branch) → old.steps ≡ 2 → life.steps ≡ 0 → RunsBranch g r false hand (set_on g who is r0.core) x.state old x.actions branch → RunsBranch g r false hand (boot_on r0.core) x.state life x.actions branch
    stand_before no_transfer old life branch two none h =
        let has = h.thread in
        let same : has.thread ≡ running r.tie (entry g who is r0 e + 2) (set_regs r0) = same_Some has.thread _ (sym has.there ∙ set_at_two) in
        record {
          core = h.core;
          family = h.family;
          footprint = h.footprint;
          parents = h.parents;
          thread = record {
            thread = running r.tie (entry g who is r0 e) no_regs;
            there = starts_at;
            tied = refl;
            events = subst (λ (i : Thread). EventsAre branch.mode branch.items i.event_bit) same has.events;
            is = subst (λ (i : Thread). ThreadIs r.parents branch.mode i.mode) same has.is;
          };
          in_hand = h.in_hand;
          sides = h.sides;
          inside = h.inside;
          done = h.done;
          stops = h.stops;
          ends_tied = h.ends_tied;
          left = h.left + 2;
          bound = let within = h.bound in omega (arith, within, two, none);
          by = stands_before no_transfer branch.items branch.mode h.left h.by;
        }

  module _ (who' : Roles) (x : Counted (of_kernel g.program)) (st : MatchStates g none_rests who' (set_watched who g.image) x)
      (none_begun : (c t : ℕ) (r : Runner) (hand : Option Acquired) → who' c t ≡ used_by r hand → r.transfer ≡ None) where
    -- no runner has a synchroniser in hand
    none_in_hand : (c t : ℕ) (r : Runner) (hand : Option Acquired) → c < 4 → who' c t ≡ used_by r hand → sync_in hand ≡ None
    none_in_hand c t r hand lt e = by (sync_in hand) refl
      where
        by : (o : Option ℕ) → sync_in hand ≡ o → o ≡ None
        by None f = refl
        by (Some n) f = absurd (none_taken n 7 ((st.used c (set_on g who is c) (set_core_at c lt)).owned t n r hand e (inr f)))

    -- Each thread that is used is a root's.
    module _ (c t : ℕ) (lt : c < 4) (r : Runner) (hand : Option Acquired) (e : who' c t ≡ used_by r hand) where
      stands : ThreadRel g false (set_on g who is c) x.state (set_life c t) x.actions (used_by r hand)
      stands = subst (ThreadRel g false (set_on g who is c) x.state (set_life c t) x.actions) e (st.threads c t (set_on g who is c) (set_core_at c lt))

      there : slice_get (set_on g who is c).threads t ≡ Some (own_thread_of g r false hand (set_on g who is c) x.state (set_life c t) x.actions stands).thread
      there = ap (slice_get (set_on g who is c).threads) (sym (st.roles.thread c t r hand e)) ∙ (own_thread_of g r false hand (set_on g who is c) x.state (set_life c t) x.actions stands).there

      own_stand : (branch : Branch) × (slice_get x.state.branches r.branch ≡ Some branch) × RunsBranch g r false hand (set_on g who is c) x.state (set_life c t) x.actions branch
      own_stand = some_is (RunsBranch g r false hand (set_on g who is c) x.state (set_life c t) x.actions) (slice_get x.state.branches r.branch) stands

      no_sync : sync_in hand ≡ None
      no_sync = none_in_hand c t r hand lt e

      none_held : held_in hand ≡ []
      none_held = held_none own_stand.0.items hand own_stand.2.in_hand no_sync

      used : who' c t ≢ unused
      used f = let both : used_by r hand ≡ unused = sym e ∙ f in cc

      root_runs_so : (life : Life) → life.steps ≡ 0 → (r0 : Runner) (old : Option Acquired) → RunsRoot g who is c t r0 old → ThreadRel g false (boot_on c) x.state life x.actions (used_by r hand)
      root_runs_so life none r0 old k =
          let own = own_thread_of g r false hand (set_on g who is c) x.state (set_life c t) x.actions stands in
          let at_home : who r0.core r0.thread ≡ used_by r0 None = ap (λ d. who d r0.thread) k.core ∙ ap (who c) k.thread ∙ k.runs_it in
          let set_here : slice_get (set_on g who is c).threads t ≡ Some (running r0.tie (entry g who is r0 at_home + 2) (set_regs r0)) =
          ap (λ d. slice_get (set_on g who is d).threads t) (sym k.core) ∙ ap (slice_get (set_on g who is r0.core).threads) (sym k.thread) ∙ set_there g who is r0 at_home in
          let same : own.thread ≡ running r0.tie (entry g who is r0 at_home + 2) (set_regs r0) = same_Some own.thread _ (sym there ∙ set_here) in
          let tie : r.tie ≡ None = sym own.tied ∙ ap (λ (i : Thread). i.tie) same ∙ k.is_root.tie in
          let core : r.core ≡ r0.core = st.roles.core c t r hand e ∙ sym k.core in
          let thread : r.thread ≡ r0.thread = st.roles.thread c t r hand e ∙ sym k.thread in
          let stand = subst (λ d. RunsBranch g r false hand (set_on g who is d) x.state (set_life c t) x.actions own_stand.0) (sym k.core) own_stand.2 in
          let before = stand_before r r0 at_home core thread tie x hand none_held no_sync (none_begun c t r hand e) (set_life c t) life own_stand.0 refl none stand in
          subst (λ o. SomeIs o (RunsBranch g r false hand (boot_on c) x.state life x.actions)) (sym own_stand.1)
          (subst (λ d. RunsBranch g r false hand (boot_on d) x.state life x.actions own_stand.0) k.core before)

      runs_so : (life : Life) → life.steps ≡ 0 → (role : Role) → who c t ≡ role → ThreadRel g false (boot_on c) x.state life x.actions (used_by r hand)
      runs_so life none unused f =
          let own = own_thread_of g r false hand (set_on g who is c) x.state (set_life c t) x.actions stands in
          absurd (own.used (free_mode (slice_get (set_on g who is c).threads t) own.thread there (unused_free g who is c t lt (st.roles.few c t used) f)))
      runs_so life none (got_by u) f = absurd (none_got g who is c t u f)
      runs_so life none (used_by r0 old) f = root_runs_so life none r0 old (root_of g who is c t r0 old f)

    all_so : (c t : ℕ) → c < 4 → (life : Life) → life.steps ≡ 0 → (role : Role) → who' c t ≡ role → ThreadRel g false (boot_on c) x.state life x.actions role
    all_so c t lt life none unused e = tt
    all_so c t lt life none (got_by u) e = none
    all_so c t lt life none (used_by r hand) e = runs_so c t lt r hand e life none (who c t) refl

    -- The threads and synchronisers.

    free_so : (c u : ℕ) → c < 4 → u < 8 → IsFree (slice_get (set_on g who is c).threads u) → (role : Role) → who c u ≡ role → IsFree (slice_get (boot_on c).threads u)
    free_so c u four lt h unused e = subst IsFree (sym (unused_there g who is c u four lt e)) (record { unused = refl; no_events = refl; untied = refl })
    free_so c u four lt h (got_by t) e = absurd (none_got g who is c u t e)
    free_so c u four lt h (used_by r hand) e =
        let k = root_of g who is c u r hand e in
        let at_home : who r.core r.thread ≡ used_by r None = ap (λ d. who d r.thread) k.core ∙ ap (who c) k.thread ∙ k.runs_it in
        let set_here : slice_get (set_on g who is c).threads u ≡ Some (running r.tie (entry g who is r at_home + 2) (set_regs r)) =
        ap (λ d. slice_get (set_on g who is d).threads u) (sym k.core) ∙ ap (slice_get (set_on g who is r.core).threads) (sym k.thread) ∙ set_there g who is r at_home in
        let z : Running ≡ Unused = free_mode (slice_get (set_on g who is c).threads u) _ set_here h in
        absurd (cc)

    used_so : (c : ℕ) → c < 4 → AreUsedSo who' c (boot_on c)
    used_so c lt =
        let old = st.used c (set_on g who is c) (set_core_at c lt) in
        record {
          threads = boot_length (parts_in g.image.cores c).roots 8;
          syncs = refl;
          unused = λ u less e. free_so c u lt less (old.unused u less e) (who c u) refl;
          got = λ u t n r hand e f sync. absurd (none_taken n 7 (old.owned t n r hand f (inr sync)));
          taken = λ n e. absurd (none_taken n 7 e);
          owned = λ t n r hand e owns. absurd (none_taken n 7 (old.owned t n r hand e owns));
        }

    loose_so : (c : ℕ) → c < 4 → 1 ≤ threads_on g.program c → AreLoose g who' c (boot_on c) x.state
    loose_so c lt some =
        let old = st.loose c (set_on g who is c) (set_core_at c lt) some in
        record {
          variables = λ v nobody want. old.variables v nobody want;
          ports = λ p listed its nobody. let at = old.ports p listed its nobody in record { port = at.port; there = at.there; declared = at.declared };
        }

    -- setting the stacks leaves the ends
    wired_so : AreWired g who' (watched_start g.image).machine x.state
    wired_so =
        let old = st.wired in
        record {
          ghosts = old.ghosts;
          over = over_same g.image.chans (set_watched who g.image).machine.cores (set_watched who g.image).machine.links (boxes_in g.program x.state.inboxes) old.ghosts old.over (watched_start g.image).machine.cores (λ d. sym (ends_same g who is d));
          long = old.long;
          ends = λ c a e. let d = boot_cores_are g.image c a e in ap (λ (i : CoreState). length i.ends) d.1 ∙ old.ends c (set_on g who is c) (set_core_at c d.0);
          listed = old.listed;
          stances = old.stances;
          one = old.one;
        }

    pub standing_before : MatchStates g none_rests who' (watched_start g.image) x
    standing_before = record {
      clocks = st.clocks;
      trace = st.trace;
      cores = refl;
      lawful = st.lawful;
      plain = st.plain;
      wired = wired_so;
      alone = st.alone;
      roles = st.roles;
      reserves = st.reserves;
      used = λ c a e. let d = boot_cores_are g.image c a e in subst (AreUsedSo who' c) (sym d.1) (used_so c d.0);
      threads = λ c t a e.
          let d = boot_cores_are g.image c a e in
          subst (λ i. ThreadRel g false i x.state (begun (Some (of_root c t))) x.actions (who' c t)) (sym d.1) (all_so c t d.0 (begun (Some (of_root c t))) refl (who' c t) refl);
      loose = λ c a e some. let d = boot_cores_are g.image c a e in subst (λ i. AreLoose g who' c i x.state) (sym d.1) (loose_so c d.0 some);
      sizes = λ c a e. let d = boot_cores_are g.image c a e in ap sizes_of d.1 ∙ st.sizes c (set_on g who is c) (set_core_at c d.0);
      roots = λ c a e. let d = boot_cores_are g.image c a e in ap (λ (i : CoreState). i.roots) d.1 ∙ st.roots c (set_on g who is c) (set_core_at c d.0);
      placed = st.placed;
      run = st.run;
      made = st.made;
    }
