-- What stands between the machine and the program goes on as long as what it speaks of is kept.
use Rattle.std.proofs.Common.{◌≡◌, ℕ, zero, suc, [], ◌∷◌, ◌+◌, ◌<◌, ◌≤◌, ◌≢◌, ◌⊎◌, inl, inr, List, length, Option, Some, None, refl, sym, ◌∙◌, subst, ⊎_elim, arith}
use Rattle.std.proofs.Math.Nat.{mul-le-mul_left}
use Rattle.std.specs.Prelude.{Bool, true, false, slice_get, slice_set}
use Rattle.std.proofs.lemmas.Bool.{cases_eq}
use Rattle.std.proofs.lemmas.Option.{slice_get-map}
use Rattle.xs_instr.specs.declared.image.Stim.{Stim}
use Rattle.xs_instr.specs.declared.state.CoreState.{CoreState}
use Rattle.xc_kernel.specs.Plain as kernel
use Rattle.xc_meaning.specs.Counts.Families.{steps_of}
use Rattle.xc_meaning.specs.Counts.KernelCounts.{kernel_bound}
use Rattle.xc_meaning.specs.Runs.{acts_all}
use Rattle.xc_meaning.specs.States.Branches.{Branch, Mode, runs, waits, ended, erred}
use Rattle.xc_meaning.specs.States.Items.{Item}
use Rattle.xc_meaning.specs.States.Worlds.{World, Action}
use Rattle.xl_expr.proofs.Lists.{get_set_same, get_set_other}
use Rattle.xl_par.specs.Acquired.{Acquired, IsAmong}
use Rattle.xr_match.specs.Lives.{Life, Watched}
use Rattle.xr_match.specs.Meanings.{of_kernel}
use Rattle.xr_match.specs.Sources.{Counted}
use Rattle.xr_match.specs.Systems.{SomeIs}
use Rattle.xr_simulation.specs.Living.{AreNamed}
use Rattle.xr_simulation.specs.Parents.{Parent, branches_of}
use Rattle.xr_simulation.specs.Roles.{AcquiredFits, ParentWaits, ParentsWait, Roles, used_by}
use Rattle.xr_simulation.specs.Runners.{Setting, Runner}
use Rattle.xr_simulation.specs.ThreadViews.{IsStable, Rely, ThreadView}
use Rattle.xr_simulation.specs.MatchStates.{HasEnded, HasThread, IfTrue, IsAtRest, IsOnItsWay, IsResuming, RunsBranch, MatchStates, ThreadRel, ProgressBy, ProgressWith}
use Rattle.xr_simulation.specs.Transfers.{Transfer}
use Rattle.xr_simulation.proofs.RelyGuarantee.ThreadViews.{joining_stable}
use Rattle.xr_simulation.proofs.RelyGuarantee.Layouts.{at_rest_stable, on_its_way_stable, resuming_stable, transferring_stable}

-- a core by its number
pub core_at : (cores : List CoreState) (c : ℕ) → c < length cores → (a : CoreState) × (slice_get cores c ≡ Some a)
core_at [] c lt = absurd (omega arith)
core_at (d ∷ cores) zero lt = (d, refl)
core_at (d ∷ cores) (suc c) lt = core_at cores c (omega arith)

-- an item after a write is the one that was written, or an old one elsewhere
pub get_set_cases : {X : Type 0} (xs : List X) (i j : ℕ) (x y z : X) → slice_get xs i ≡ Some x → slice_get (slice_set xs i y) j ≡ Some z → ((j ≡ i) × (z ≡ y)) ⊎ ((j ≢ i) × (slice_get xs j ≡ Some z))
get_set_cases xs i j x y z h e =
    ⊎_elim
    (λ (f : j ≡ i). inl (f, let s = get_set_same xs i x y h in let e' = subst (λ k. slice_get (slice_set xs i y) k ≡ Some z) f e in cc))
    (λ (ne : j ≢ i). inr (ne, sym (get_set_other xs i j y ne) ∙ e))
    (cases_eq j i)

-- what is there is also so
pub there_then : {A : Type 0} (F G : A → Type 0) (o : Option A) → ((y : A) → F y → G y) → SomeIs o F → SomeIs o G
there_then F G None f h = h
there_then F G (Some y) f h = f y h

-- the state and the counts behind a piece of the program's run
abbrev pub told_by : (K : kernel.Kernel) → Stim → Counted (of_kernel K) → List Action → World → Counted (of_kernel K)
told_by K s x piece y = record { state = y; actions = λ f. x.actions f + steps_of K s f (Some x.state) piece }

-- A piece of the program's run leads to where the two sides stand so again; some threads may be at rest there. Where lives were named by the roles
-- before, they are so by those behind it.
pub record Follows (g : Setting) (may_rest : (core thread : ℕ) → Bool) (old : Roles) (before : Watched) (x : Counted (of_kernel g.program)) (w : Watched) : Type 0 where
  pub who : Roles
  pub piece : List Action
  pub world : World
  pub acted : acts_all g.program g.stimulus (Some x.state) piece ≡ Some world
  pub standing : MatchStates g may_rest who w (told_by g.program g.stimulus x piece world)
  pub named : AreNamed g old before x → AreNamed g who w (told_by g.program g.stimulus x piece world)

module _ (g : Setting) (r : Runner) where
  -- where threads may be at rest
  if_true_stable : (may_rest : Bool) (items : List Item) (most : ℕ) → IsStable g r (λ z. IfTrue g r may_rest (IsAtRest g r items most z))
  if_true_stable true items most z y k h = at_rest_stable g r items most z y k h
  if_true_stable false items most z y k h = absurd h

  has_ended_stable : (ps : List Parent) (left : ℕ) → IsStable g r (HasEnded g r ps left)
  has_ended_stable [] left z y k h = k.hand ∙ h
  has_ended_stable (p ∷ ps) left z y k h = joining_stable g r p ps left z y k h

  -- by whether it is inside a transfer
  stands_with_still : (may_rest : Bool) (transfer : Option Transfer) (items : List Item) (left : ℕ) → IsStable g r (ProgressWith g r may_rest transfer items left)
  stands_with_still may_rest None items left z y k h =
      ⊎_elim
      (λ (on : IsOnItsWay g r left z). inl (on_its_way_stable g r left z y k on))
      (λ other.
      ⊎_elim
      (λ (back : IsResuming g r items left z). inr (inl (resuming_stable g r items left z y k back)))
      (λ rest. inr (inr (if_true_stable may_rest items left z y k rest)))
      other)
      h
  stands_with_still may_rest (Some transfer) items left z y k h = transferring_stable g r transfer items left z y k h

  -- what a branch's runner stands on is kept, so it stands as before
  pub stands_by_still : (may_rest : Bool) (items : List Item) (mode : Mode) (left : ℕ) → IsStable g r (ProgressBy g r may_rest items mode left)
  stands_by_still may_rest items runs left z y k h = stands_with_still may_rest r.transfer items left z y k h
  stands_by_still may_rest items (waits from count) left z y k h = h
  stands_by_still may_rest items ended left z y k h = has_ended_stable r.parents left z y k h
  stands_by_still may_rest items erred left z y k h = k.hand ∙ h

  -- more threads may be at rest
  rests_more_with : (a b : Bool) (transfer : Option Transfer) (items : List Item) (left : ℕ) (z : ThreadView) → (a ≡ true → b ≡ true) →
      ProgressWith g r a transfer items left z → ProgressWith g r b transfer items left z
  rests_more_with false b None items left z le (inl h) = inl h
  rests_more_with false b None items left z le (inr (inl h)) = inr (inl h)
  rests_more_with false b None items left z le (inr (inr h)) = absurd h
  rests_more_with true b None items left z le h = subst (λ c. ProgressWith g r c None items left z) (sym (le refl)) h
  rests_more_with a b (Some transfer) items left z le h = h

  pub rests_more : (a b : Bool) (items : List Item) (mode : Mode) (left : ℕ) (z : ThreadView) → (a ≡ true → b ≡ true) →
      ProgressBy g r a items mode left z → ProgressBy g r b items mode left z
  rests_more a b items runs left z le h = rests_more_with a b r.transfer items left z le h
  rests_more a b items (waits from count) left z le h = h
  rests_more a b items ended left z le h = h
  rests_more a b items erred left z le h = h

  -- the thread that runs it is there still
  thread_still : (mode : Mode) (items : List Item) (z y : ThreadView) → Rely g r z y → HasThread g r mode items z.core →
      HasThread g r mode items y.core
  thread_still mode items z y k h = record {
    thread = h.thread;
    there = k.thread ∙ h.there;
    tied = h.tied;
    events = h.events;
    is = h.is;
  }

  -- those that wait do so still
  parent_still : (x y : World) (core family first : ℕ) (p : Parent) → slice_get y.branches p.branch ≡ slice_get x.branches p.branch → ParentWaits g x core family p first → ParentWaits g y core family p first
  parent_still x y core family first p same h = record {
    branch = h.branch;
    known = same ∙ h.known;
    mode = h.mode;
    items = h.items;
    on_core = h.on_core;
    of_family = h.of_family;
    first_is = h.first_is;
    one = h.one;
    several = h.several;
    fits = h.fits;
    sides = h.sides;
    inside = h.inside;
  }

  pub parents_still : (x y : World) (core family : ℕ) (ps : List Parent) (first : ℕ) → ((b : ℕ) → IsAmong (branches_of ps) b → slice_get y.branches b ≡ slice_get x.branches b) → ParentsWait g x core family ps first → ParentsWait g y core family ps first
  parents_still x y core family [] first same h = h
  parents_still x y core family (p ∷ ps) first same h = (parent_still x y core family first p (same p.branch (inl refl)) h.0, parents_still x y core family ps p.branch (λ b m. same b (inr m)) h.1)

  -- What a runner stands on is kept, so it stands as before. Its life is as long, its family may have done more, and it may be at rest.
  pub stand_still : (rests rests' : Bool) (hand : Option Acquired) (a b : CoreState) (x y : World) (life life' : Life) (actions more : ℕ → ℕ)
      (branch : Branch) → (rests ≡ true → rests' ≡ true) →
      Rely g r (record { core = a; world = x; hand = hand }) (record { core = b; world = y; hand = hand }) → life'.steps ≡ life.steps →
      ((f : ℕ) → actions f ≤ more f) → RunsBranch g r rests hand a x life actions branch → RunsBranch g r rests' hand b y life' more branch
  stand_still rests rests' hand a b x y life life' actions more branch may k as_long le h =
      let z : ThreadView = record { core = a; world = x; hand = hand } in
      let z' : ThreadView = record { core = b; world = y; hand = hand } in
      record {
        core = h.core;
        family = h.family;
        footprint = h.footprint;
        parents = parents_still x y r.core r.family r.parents r.branch k.parents h.parents;
        thread = thread_still branch.mode branch.items z z' k h.thread;
        in_hand = h.in_hand;
        sides = h.sides;
        inside = h.inside;
        done = h.done;
        stops = h.stops;
        ends_tied = h.ends_tied;
        left = h.left;
        bound =
            let old = h.bound in
            let l = le r.family in
            let m = mul-le-mul_left (kernel_bound g.program) (more_one (actions r.family) (more r.family) l) in
            omega (arith, m);
        by = rests_more rests rests' branch.items branch.mode h.left z' may (stands_by_still rests branch.items branch.mode h.left z z' k h.by);
      }
    where
      more_one : (m n : ℕ) → m ≤ n → m + 1 ≤ n + 1
      more_one m n l = omega arith

  -- the same of the branch that the runner's thread runs, wherever that stands
  pub runner_still : (rests rests' : Bool) (hand : Option Acquired) (a b : CoreState) (x y : World) (life life' : Life)
      (actions more : ℕ → ℕ) → (rests ≡ true → rests' ≡ true) →
      Rely g r (record { core = a; world = x; hand = hand }) (record { core = b; world = y; hand = hand }) → life'.steps ≡ life.steps →
      ((f : ℕ) → actions f ≤ more f) → ThreadRel g rests a x life actions (used_by r hand) → ThreadRel g rests' b y life' more (used_by r hand)
  runner_still rests rests' hand a b x y life life' actions more may k as_long le h =
      subst (λ o. SomeIs o (RunsBranch g r rests' hand b y life' more)) (sym k.branch)
      (there_then (RunsBranch g r rests hand a x life actions) (RunsBranch g r rests' hand b y life' more) (slice_get x.branches r.branch) (λ branch. stand_still rests rests' hand a b x y life life' actions more branch may k as_long le) h)

-- the program's clock of a core
pub clock_at : (g : Setting) (may_rest : (core thread : ℕ) → Bool) (who : Roles) (w : Watched) (x : Counted (of_kernel g.program)) (c : ℕ) (a : CoreState) → MatchStates g may_rest who w x → slice_get w.machine.cores c ≡ Some a → slice_get x.state.clocks c ≡ Some a.clock
clock_at g may_rest who w x c a st at_c = rw (← st.clocks, slice_get-map, at_c)

-- the same stand, where what is in hand is the same
abbrev pub stand_as : (g : Setting) (r : Runner) (rests : Bool) (hand hand' : Option Acquired) (a : CoreState) (x : World) (life : Life) (actions : ℕ → ℕ) (branch : Branch) → hand ≡ hand' → RunsBranch g r rests hand a x life actions branch → RunsBranch g r rests hand' a x life actions branch
stand_as g r rests hand hand' a x life actions branch e h = record {
  core = h.core;
  family = h.family;
  footprint = h.footprint;
  parents = h.parents;
  thread = h.thread;
  in_hand = subst (AcquiredFits branch.items) e h.in_hand;
  sides = h.sides;
  inside = h.inside;
  done = h.done;
  stops = h.stops;
  ends_tied = h.ends_tied;
  left = h.left;
  bound = h.bound;
  by = subst (λ k. ProgressBy g r rests branch.items branch.mode h.left (record { core = a; world = x; hand = k })) e h.by;
}
