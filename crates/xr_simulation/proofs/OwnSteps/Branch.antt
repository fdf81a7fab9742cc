-- What is known of the branch that a thread runs, beside where the thread stands.
use Rattle.std.proofs.Common.{◌≡◌, ◌≢◌, ℕ, ◌<◌, ◌≤◌, Bool, List, [], ◌∷◌, Option, Some, None, refl, sym, ◌∙◌, subst, arith}
use Rattle.std.proofs.lemmas.Option.{slice_get_within}
use Rattle.std.specs.Prelude.{slice_get}
use Rattle.xs_instr.specs.declared.state.CoreState.{CoreState}
use Rattle.xs_instr.specs.declared.state.Mode.{Mode as ThreadMode}
use Rattle.xs_instr.specs.declared.state.Mode.TheVariants.{Running, Trapped, Unused, Waiting}
use Rattle.xs_instr.specs.declared.state.Thread.{Thread}
use Rattle.xc_meaning.specs.States.Branches.{Branch, Mode, runs, waits, ended, erred}
use Rattle.xc_meaning.specs.States.Worlds.{World}
use Rattle.xc_disjoint.specs.Needs.{threads_on}
use Rattle.xc_invariants.specs.Lawful.{Lawful}
use Rattle.xc_invariants.specs.Needs.{needed_on}
use Rattle.xc_invariants.specs.Tree.{IsWaiting}
use Rattle.xl_par.specs.Acquired.{Acquired}
use Rattle.xr_match.specs.Lives.{Life, Watched}
use Rattle.xr_match.specs.Meanings.{of_kernel}
use Rattle.xr_match.specs.Sources.{Counted}
use Rattle.xr_match.specs.Systems.{SomeIs}
use Rattle.xr_simulation.specs.Images.{IsImageOf}
use Rattle.xr_simulation.specs.Parents.{Parent}
use Rattle.xr_simulation.specs.Roles.{AreRoles, AreUsedSo, AcquiredFits, HasReserves, ParentsWait, Roles, used_by}
use Rattle.xr_simulation.specs.Runners.{Setting, Runner, footprint_of}
use Rattle.xr_simulation.specs.MatchStates.{RunsBranch, MatchStates, ThreadRel, ThreadIs}
use Rattle.xr_simulation.specs.Transfers.{StopsIn}

-- A runner's branch, which doesn't wait. One that has ended is in no transfer, and one that has erred waited for an answer where it was in one.
pub record Works (g : Setting) (x : World) (r : Runner) (hand : Option Acquired) : Type 0 where
  pub branch : Branch
  pub known : slice_get x.branches r.branch ≡ Some branch
  pub goes : IsWaiting branch.mode → ⊥
  pub core : branch.core ≡ r.core
  pub family : branch.family ≡ r.family
  pub footprint : r.footprint ≡ footprint_of branch.items
  pub parents : ParentsWait g x r.core r.family r.parents r.branch
  pub in_hand : AcquiredFits branch.items hand
  pub sides : branch.sides ≡ r.sides
  pub inside : branch.inside ≡ r.inside
  pub done : branch.mode ≡ ended → r.transfer ≡ None
  pub stops : branch.mode ≡ erred → StopsIn r.transfer

-- a runner's thread, which is in use
pub record HasOwnThread (a : CoreState) (r : Runner) : Type 0 where
  pub thread : Thread
  pub there : slice_get a.threads r.thread ≡ Some thread
  pub tied : thread.tie ≡ r.tie
  pub used : thread.mode ≢ Unused

-- what is known of all runners of a core
pub record Crew (g : Setting) (who : Roles) (x : World) (c : ℕ) (a : CoreState) : Type 0 where
  pub lawful : Lawful g.program x
  pub roles : AreRoles g who
  pub reserves : HasReserves g who x
  pub used : AreUsedSo who c a
  pub works : (t : ℕ) (r : Runner) (hand : Option Acquired) → who c t ≡ used_by r hand → Works g x r hand
  pub threads : (t : ℕ) (r : Runner) (hand : Option Acquired) → who c t ≡ used_by r hand → HasOwnThread a r
  pub needed : needed_on c g.program.roots ≡ threads_on g.program c
  pub few : threads_on g.program c ≤ 8

-- what holds of something that is there
pub some_is : {A : Type 0} (F : A → Type 0) (o : Option A) → SomeIs o F → (y : A) × (o ≡ Some y) × F y
some_is F None h = absurd h
some_is F (Some y) h = (y, refl, h)

-- a branch whose thread stands somewhere doesn't wait
goes_by : (ps : List Parent) (m : Mode) (thread : ThreadMode) → ThreadIs ps m thread → IsWaiting m → ⊥
goes_by ps runs thread h w = w
goes_by ps (waits from count) thread h w = h
goes_by ps ended thread h w = w
goes_by ps erred thread h w = w

-- and its thread is in use
used_by_thread : (ps : List Parent) (m : Mode) (thread : ThreadMode) → ThreadIs ps m thread → thread ≢ Unused
used_by_thread ps runs thread h e = let z : Running ≡ Unused = sym h ∙ e in absurd cc
used_by_thread ps (waits from count) thread h e = absurd h
used_by_thread [] ended thread h e = let z : Waiting ≡ Unused = sym h ∙ e in absurd cc
used_by_thread (p ∷ ps) ended thread h e = let z : Running ≡ Unused = sym h ∙ e in absurd cc
used_by_thread ps erred thread h e = let z : Trapped ≡ Unused = sym h ∙ e in absurd cc

pub never_waits : (g : Setting) (r : Runner) (may_rest : Bool) (hand : Option Acquired) (a : CoreState) (x : World) (life : Life) (actions : ℕ → ℕ) (branch : Branch) →
    RunsBranch g r may_rest hand a x life actions branch → IsWaiting branch.mode → ⊥
never_waits g r may_rest hand a x life actions branch h w = goes_by r.parents branch.mode h.thread.thread.mode h.thread.is w

pub works_of : (g : Setting) (r : Runner) (may_rest : Bool) (hand : Option Acquired) (a : CoreState) (x : World) (life : Life) (actions : ℕ → ℕ) →
    ThreadRel g may_rest a x life actions (used_by r hand) → Works g x r hand
works_of g r may_rest hand a x life actions h =
    let s = some_is (RunsBranch g r may_rest hand a x life actions) (slice_get x.branches r.branch) h in
    let st = s.2 in
    record {
      branch = s.0;
      known = s.1;
      goes = never_waits g r may_rest hand a x life actions s.0 st;
      core = st.core;
      family = st.family;
      footprint = st.footprint;
      parents = st.parents;
      in_hand = st.in_hand;
      sides = st.sides;
      inside = st.inside;
      done = st.done;
      stops = st.stops;
    }

pub own_thread_of : (g : Setting) (r : Runner) (may_rest : Bool) (hand : Option Acquired) (a : CoreState) (x : World) (life : Life) (actions : ℕ → ℕ) →
    ThreadRel g may_rest a x life actions (used_by r hand) → HasOwnThread a r
own_thread_of g r may_rest hand a x life actions h =
    let s = some_is (RunsBranch g r may_rest hand a x life actions) (slice_get x.branches r.branch) h in
    let t = s.2.thread in
    record { thread = t.thread; there = t.there; tied = t.tied; used = used_by_thread r.parents s.0.mode t.thread.mode t.is }

module _ (g : Setting) (first who : Roles) (may_rest : ℕ → ℕ → Bool) (w : Watched) (x : Counted (of_kernel g.program)) (c : ℕ) (a : CoreState) (image : IsImageOf g first) (st : MatchStates g may_rest who w x) (at_c : slice_get w.machine.cores c ≡ Some a) where
  stands_at : (t : ℕ) (r : Runner) (hand : Option Acquired) → who c t ≡ used_by r hand → ThreadRel g (may_rest c t) a x.state (w.lives c t) x.actions (used_by r hand)
  stands_at t r hand e = subst (ThreadRel g (may_rest c t) a x.state (w.lives c t) x.actions) e (st.threads c t a at_c)

  pub crew_of : Crew g who x.state c a
  crew_of =
      let within : c < 4 = let l = slice_get_within w.machine.cores c a at_c in let n = st.cores in omega (arith, l, n) in
      record {
        lawful = st.lawful;
        roles = st.roles;
        reserves = st.reserves;
        used = st.used c a at_c;
        works = λ t r hand e. works_of g r (may_rest c t) hand a x.state (w.lives c t) x.actions (stands_at t r hand e);
        threads = λ t r hand e. own_thread_of g r (may_rest c t) hand a x.state (w.lives c t) x.actions (stands_at t r hand e);
        needed = image.needed c;
        few = image.few c within;
      }
