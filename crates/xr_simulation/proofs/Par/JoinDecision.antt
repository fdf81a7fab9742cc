-- MJOIN goes on exactly where the program joins.
use Rattle.std.proofs.Common.{◌≡◌, ◌≢◌, ◌⊎◌, ℕ, zero, suc, ◌+◌, ◌<◌, ◌≤◌, Bool, true, false, List, [], ◌∷◌, Option, Some, None, refl, sym, ap, ◌∙◌, subst, inl, inr, ⊎_elim, arith}
use Rattle.std.specs.Prelude.{slice_get, ◌&&◌}
use Rattle.std.proofs.lemmas.Bool.{cases_eq}
use Rattle.std.proofs.lemmas.Option.{same_Some, slice_get_within}
use Rattle.xs_instr.specs.declared.state.CoreState.{CoreState}
use Rattle.xs_instr.specs.declared.state.Mode as thread_mode
use Rattle.xs_instr.specs.declared.state.Mode.TheVariants.{Running, Trapped, Waiting}
use Rattle.xs_instr.specs.declared.state.Thread.{Thread}
use Rattle.xs_instr.specs.Pool.{all_wait, is_tied}
use Rattle.xc_meaning.specs.Settings.Par.{all_done, is_done}
use Rattle.xc_meaning.specs.States.Branches.{Branch, Mode, ended, erred, has_ended, runs, waits}
use Rattle.xc_meaning.specs.States.Items.{Item}
use Rattle.xc_meaning.specs.States.Worlds.{World}
use Rattle.xl_par.specs.Acquired.{Acquired, IsAmong}
use Rattle.xl_par.proofs.Pools.{all_waiting}
use Rattle.xr_match.specs.Lives.{Life, Watched}
use Rattle.xr_match.specs.Meanings.{of_kernel}
use Rattle.xr_match.specs.Sources.{Counted}
use Rattle.xr_match.specs.Systems.{SomeIs}
use Rattle.xr_simulation.specs.Parents.{Parent, sync_before, syncs_of}
use Rattle.xr_simulation.specs.Roles.{AreUsedSo, AcquiredFits, IsOnce, IsParent, ParentsWait, Role, Roles, empty, gives_back, got_by, opens, outermost, unused, used_by}
use Rattle.xr_simulation.specs.Runners.{Setting, Runner}
use Rattle.xr_simulation.specs.ThreadViews.{held_in, sync_in}
use Rattle.xr_simulation.specs.MatchStates.{EventsAre, RunsBranch, MatchStates, ThreadRel, ThreadIs}
use Rattle.xr_simulation.specs.NextStep.{IsFree, IsWaitingTied}
use Rattle.xr_simulation.proofs.Relation.CoreSteps.{parent_sync, same_runner}
use Rattle.xr_simulation.proofs.Relation.Pools.{num_is, num_same, tied_wait}

-- each of so many branches from a number on has ended
pub done_all : (x : World) (from count : ℕ) → ((j : ℕ) → j < count → is_done (slice_get x.branches (from + j)) ≡ true) → all_done x from count ≡ true
done_all x from zero h = refl
done_all x from (suc count) h = ap (λ b. b && all_done x from count) (h count (omega arith)) ∙ done_all x from count (λ j lt. h j (omega arith))

both_first : (a b : Bool) → (a && b) ≡ true → a ≡ true
both_first true b h = refl
both_first false b h = h

both_second : (a b : Bool) → (a && b) ≡ true → b ≡ true
both_second true b h = h
both_second false b h = cc

pub done_each : (x : World) (from count : ℕ) → all_done x from count ≡ true → (j : ℕ) → j < count → is_done (slice_get x.branches (from + j)) ≡ true
done_each x from zero h j lt = absurd (omega arith)
done_each x from (suc count) h j lt =
    ⊎_elim
    (λ (e : j ≡ count). subst (λ k. is_done (slice_get x.branches (from + k)) ≡ true) (sym e) (both_first (is_done (slice_get x.branches (from + count))) (all_done x from count) h))
    (λ (ne : j ≢ count). done_each x from count (both_second (is_done (slice_get x.branches (from + count))) (all_done x from count) h) j (let d = ne in omega (arith, lt, d)))
    (cases_eq j count)

-- the outermost of those that wait does
outermost_waits : (g : Setting) (x : World) (core family : ℕ) (p : Parent) (ps : List Parent) (first branch : ℕ) → ParentsWait g x core family (p ∷ ps) first → is_done (slice_get x.branches (outermost branch (p ∷ ps))) ≡ false
outermost_waits g x core family p [] first branch h = ap is_done h.0.known ∙ ap has_ended h.0.mode
outermost_waits g x core family p (q ∷ qs) first branch h = outermost_waits g x core family q qs p.branch p.branch h.1

-- a thread that nobody waits for waits exactly where its branch has ended
waits_ended : (mode : Mode) (thread : thread_mode.Mode) → ThreadIs [] mode thread → has_ended mode ≡ true → thread ≡ Waiting
waits_ended runs thread h e = cc
waits_ended (waits from count) thread h e = cc
waits_ended ended thread h e = h
waits_ended erred thread h e = cc

pub ended_waits : (ps : List Parent) (mode : Mode) (thread : thread_mode.Mode) → ThreadIs ps mode thread → thread ≡ Waiting → (ps ≡ []) × (has_ended mode ≡ true)
ended_waits ps runs thread h e = let clash : Running ≡ Waiting = sym h ∙ e in absurd (cc)
ended_waits ps (waits from count) thread h e = absurd h
ended_waits [] ended thread h e = (refl, refl)
ended_waits (p ∷ ps) ended thread h e = let clash : Running ≡ Waiting = sym h ∙ e in absurd (cc)
ended_waits ps erred thread h e = let clash : Trapped ≡ Waiting = sym h ∙ e in absurd (cc)

-- one that has threads in hand has a synchroniser
pub hand_has_sync : (items : List Item) (hand : Option Acquired) (u : ℕ) → AcquiredFits items hand → IsAmong (held_in hand) u → (n : ℕ) × (sync_in hand ≡ Some n)
hand_has_sync items hand u (empty none) m = absurd (subst (λ h. IsAmong (held_in h) u) none m)
hand_has_sync items hand u (gives_back n is) m = (n, ap sync_in is)
hand_has_sync items hand u (opens h bs rest is items_are count several none) m = by h.sync refl
  where
    by : (o : Option ℕ) → h.sync ≡ o → (n : ℕ) × (sync_in hand ≡ Some n)
    by None e = absurd (subst (λ us. IsAmong us u) (none e) (subst (λ k. IsAmong (held_in k) u) is m))
    by (Some n) e = (n, ap sync_in is ∙ e)

-- How a runner's thread is, and its branch.
pub record Runs (g : Setting) (a : CoreState) (x : World) (s : Runner) (other : Option Acquired) : Type 0 where
  pub branch : Branch
  pub known : slice_get x.branches s.branch ≡ Some branch
  pub parents : ParentsWait g x s.core s.family s.parents s.branch
  pub thread : Thread
  pub there : slice_get a.threads s.thread ≡ Some thread
  pub tied : thread.tie ≡ s.tie
  pub events : EventsAre branch.mode branch.items thread.event_bit
  pub is : ThreadIs s.parents branch.mode thread.mode
  pub in_hand : AcquiredFits branch.items other

pub runs_by : (g : Setting) (rests : Bool) (a : CoreState) (x : World) (life : Life) (actions : ℕ → ℕ) (s : Runner) (other : Option Acquired) → ThreadRel g rests a x life actions (used_by s other) → Runs g a x s other
runs_by g rests a x life actions s other h = by (slice_get x.branches s.branch) refl h
  where
    by : (o : Option Branch) → slice_get x.branches s.branch ≡ o → SomeIs o (RunsBranch g s rests other a x life actions) → Runs g a x s other
    by None e k = absurd k
    by (Some b) e k = record {
      branch = b;
      known = e;
      parents = k.parents;
      thread = k.thread.thread;
      there = k.thread.there;
      tied = k.thread.tied;
      events = k.thread.events;
      is = k.thread.is;
      in_hand = k.in_hand;
    }

module _ (g : Setting) (may_rest : (core thread : ℕ) → Bool) (who : Roles) (w : Watched) (x : Counted (of_kernel g.program)) (st : MatchStates g may_rest who w x) (c : ℕ) (a : CoreState) (at_c : slice_get w.machine.cores c ≡ Some a) where
  pub runs_at_thread : (u : ℕ) (s : Runner) (other : Option Acquired) → who c u ≡ used_by s other → Runs g a x.state s other
  runs_at_thread u s other e = runs_by g (may_rest c u) a x.state (w.lives c u) x.actions s other (subst (ThreadRel g (may_rest c u) a x.state (w.lives c u) x.actions) e (st.threads c u a at_c))

  -- the thread of one that began as a branch waits where that branch has ended
  ends_where : (s : Runner) (other : Option Acquired) (k : ℕ) (u : ℕ) → who c u ≡ used_by s other → s.family ≡ k → (run : Runs g a x.state s other) → run.thread.mode ≡ Waiting → is_done (slice_get x.state.branches k) ≡ true
  ends_where s other k u e family run waiting =
      let h = ended_waits s.parents run.branch.mode run.thread.mode run.is waiting in
      let began : s.branch ≡ k = ap (outermost s.branch) (sym h.0) ∙ st.roles.started c u s other e ∙ family in
      ap (λ b. is_done (slice_get x.state.branches b)) (sym began) ∙ ap is_done run.known ∙ h.1

  -- and the other way round
  pub waits_where : (s : Runner) (other : Option Acquired) (k : ℕ) (u : ℕ) → who c u ≡ used_by s other → s.family ≡ k → (run : Runs g a x.state s other) → is_done (slice_get x.state.branches k) ≡ true → run.thread.mode ≡ Waiting
  waits_where s other k u e family run done = by s.parents refl
    where
      by : (ps : List Parent) → s.parents ≡ ps → run.thread.mode ≡ Waiting
      by [] none =
          let began : s.branch ≡ k = ap (outermost s.branch) (sym none) ∙ st.roles.started c u s other e ∙ family in
          let has : has_ended run.branch.mode ≡ true = sym (ap is_done run.known) ∙ ap (λ b. is_done (slice_get x.state.branches b)) began ∙ done in
          waits_ended run.branch.mode run.thread.mode (subst (λ l. ThreadIs l run.branch.mode run.thread.mode) none run.is) has
      by (q ∷ qs) some =
          let not_yet = outermost_waits g x.state s.core s.family q qs s.branch s.branch (subst (λ l. ParentsWait g x.state s.core s.family l s.branch) some run.parents) in
          let began : outermost s.branch (q ∷ qs) ≡ k = ap (outermost s.branch) (sym some) ∙ st.roles.started c u s other e ∙ family in
          let clash : true ≡ false = sym done ∙ ap (λ b. is_done (slice_get x.state.branches b)) (sym began) ∙ not_yet in absurd (let z : ⊥ = cc in z)

  module _ (t n : ℕ) (r : Runner) (hand : Option Acquired) (p : Parent) (ps : List Parent) (runs_r : who c t ≡ used_by r hand) (parents : r.parents ≡ p ∷ ps) (sync : p.sync ≡ Some n) (done : is_done (slice_get x.state.branches r.branch) ≡ true) where
    is_parent : IsParent r.parents p
    is_parent = subst (λ l. IsParent l p) (sym parents) (inl refl)

    -- the first branch is the one that the runner runs
    first_is : p.from ≡ r.branch
    first_is = (subst (λ l. ParentsWait g x.state r.core r.family l r.branch) parents (runs_at_thread t r hand runs_r).parents).0.first_is

    -- the synchroniser is no other parent's
    pub one_parent : (q : Parent) → IsParent r.parents q → q.sync ≡ Some n → q ≡ p
    one_parent q is its = by (subst (λ l. IsParent l q) parents is)
      where
        by : (q ≡ p) ⊎ IsParent ps q → q ≡ p
        by (inl same) = same
        by (inr further) =
            let once = subst IsOnce (ap syncs_of parents ∙ ap (λ o. sync_before o (syncs_of ps)) sync) (st.roles.owned_once c t r hand runs_r) in
            absurd (once.0 (parent_sync ps q n further its))

    -- a tied thread began as one of the branches behind the first
    pub tied_began : (u : ℕ) (s : Runner) (other : Option Acquired) → who c u ≡ used_by s other → s.tie ≡ Some n → (j : ℕ) × (1 ≤ j) × (j < p.count) × (s.family ≡ p.from + j)
    tied_began u s other e tie =
        let k = st.roles.tied c u n s other e tie in
        let q : Parent = k.4 in
        let q_is = k.6 in
        let its = k.7 in
        let same_thread : k.0 ≡ t = st.roles.owner c t k.0 n r k.2 hand k.3 runs_r k.5 (inl (parent_sync r.parents p n is_parent sync)) (inl (parent_sync k.2.parents q n q_is its)) in
        let same : k.2 ≡ r = same_runner k.2 r k.3 hand (sym k.5 ∙ ap (who c) same_thread ∙ runs_r) in
        let one : q ≡ p = one_parent q (subst (λ (i : Runner). IsParent i.parents q) same q_is) its in
        (k.1, k.8, subst (λ (i : Parent). k.1 < i.count) one k.9, k.10 ∙ ap (λ (i : Parent). i.from + k.1) one)

    -- where all threads that are tied wait, all branches have ended
    all_ended : all_wait a.threads n ≡ true → all_done x.state p.from p.count ≡ true
    all_ended wait = done_all x.state p.from p.count each
      where
        each : (j : ℕ) → j < p.count → is_done (slice_get x.state.branches (p.from + j)) ≡ true
        each zero lt = let f = first_is in let e : p.from + 0 ≡ r.branch = omega arith in ap (λ b. is_done (slice_get x.state.branches b)) e ∙ done
        each (suc j) lt =
            let k = st.roles.kids c t n (suc j) r hand p runs_r is_parent sync (omega arith) lt in
            let run = runs_at_thread k.0 k.1 k.2 k.3 in
            let is_tied_to : is_tied run.thread n ≡ true = num_same run.thread.tie n (run.tied ∙ k.4) in
            ends_where k.1 k.2 (p.from + suc j) k.0 k.3 k.5 run ((tied_wait a.threads n wait).wait k.1.thread run.thread run.there is_tied_to)

    -- and the other way round
    all_waits : all_done x.state p.from p.count ≡ true → all_wait a.threads n ≡ true
    all_waits all = all_waiting a.threads n (record { wait = λ u y there tied. by u y there tied (who c u) refl })
      where
        used : AreUsedSo who c a
        used = st.used c a at_c

        by : (u : ℕ) (y : Thread) → slice_get a.threads u ≡ Some y → is_tied y n ≡ true → (o : Role) → who c u ≡ o → y.mode ≡ Waiting
        by u y there tied unused e =
            let few : u < 8 = let within = slice_get_within a.threads u y there in let eight = used.threads in omega arith in
            let free = subst IsFree there (used.unused u few e) in
            let clash : None ≡ Some n = sym free.untied ∙ num_is y.tie n tied in absurd (let z : ⊥ = cc in z)
        by u y there tied (got_by k) e =
            let owner = st.roles.got c u k e in
            let run = runs_at_thread k owner.0 owner.1 owner.2 in
            let m = hand_has_sync run.branch.items owner.1 u run.in_hand owner.3 in
            (subst (IsWaitingTied m.0) there (used.got u k m.0 owner.0 owner.1 e owner.2 m.1)).waits
        by u y there tied (used_by s other) e =
            let run = runs_at_thread u s other e in
            let same : y ≡ run.thread = same_Some y run.thread (sym there ∙ ap (slice_get a.threads) (sym (st.roles.thread c u s other e)) ∙ run.there) in
            let tie : s.tie ≡ Some n = sym run.tied ∙ ap (λ (i : Thread). i.tie) (sym same) ∙ num_is y.tie n tied in
            let k = tied_began u s other e tie in
            ap (λ (i : Thread). i.mode) same ∙ waits_where s other (p.from + k.0) u e k.3 run (done_each x.state p.from p.count all k.0 k.2)

    pub together : all_wait a.threads n ≡ all_done x.state p.from p.count
    together = by (all_wait a.threads n) refl (all_done x.state p.from p.count) refl
      where
        by : (b : Bool) → all_wait a.threads n ≡ b → (d : Bool) → all_done x.state p.from p.count ≡ d → all_wait a.threads n ≡ all_done x.state p.from p.count
        by true e d f = e ∙ sym (all_ended e)
        by false e true f = let clash : false ≡ true = sym e ∙ all_waits f in absurd (let z : ⊥ = cc in z)
        by false e false f = e ∙ sym f

-- where the first branch of a `par` has ended, all threads that are tied to its synchroniser wait exactly where all of its branches have ended
pub joins_together : (g : Setting) (may_rest : (core thread : ℕ) → Bool) (who : Roles) (w : Watched) (x : Counted (of_kernel g.program)) →
    MatchStates g may_rest who w x →
    (c t n : ℕ) (a : CoreState) (r : Runner) (hand : Option Acquired) (p : Parent) (ps : List Parent) →
    slice_get w.machine.cores c ≡ Some a → who c t ≡ used_by r hand → r.parents ≡ p ∷ ps → p.sync ≡ Some n →
    is_done (slice_get x.state.branches r.branch) ≡ true →
    all_wait a.threads n ≡ all_done x.state p.from p.count
joins_together g may_rest who w x st c t n a r hand p ps at_c runs_r parents sync done = together g may_rest who w x st c a at_c t n r hand p ps runs_r parents sync done
