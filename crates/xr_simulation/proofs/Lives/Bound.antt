-- Who runs something is in use; each life has done no more steps than its family's actions allow; and the names at the start.
use Rattle.std.proofs.Common.{◌≡◌, ℕ, zero, suc, ◌+◌, ◌*◌, ◌<◌, ◌≤◌, ◌≢◌, Bool, true, false, List, [], ◌∷◌, length, map, Option, Some, None, refl, sym, ap, ◌∙◌, subst, arith}
use Rattle.std.specs.Prelude.{slice_get, not}
use Rattle.std.proofs.lemmas.Option.{none-some, same_Some}
use Rattle.xs_instr.specs.declared.state.CoreState.{CoreState}
use Rattle.xs_instr.specs.declared.state.Mode.{Mode as ThreadMode}
use Rattle.xs_instr.specs.declared.state.Thread.{Thread}
use Rattle.xs_instr.specs.Pool.{is_unused}
use Rattle.xc_kernel.specs.Plain as kernel
use Rattle.xc_meaning.specs.Counts.KernelCounts.{kernel_bound}
use Rattle.xc_meaning.specs.Runs.{kernel_root, no_side, root_branches}
use Rattle.xc_meaning.specs.States.Branches.{Branch, Mode, ended, erred, runs, waits}
use Rattle.xc_meaning.specs.States.Channels.{Side}
use Rattle.xc_meaning.specs.States.Items.{Item}
use Rattle.xc_meaning.specs.Texts.Roots.{Root}
use Rattle.xl_par.specs.Acquired.{Acquired, IsAmong}
use Rattle.xr_match.specs.Implements.{StepsAreBounded}
use Rattle.xr_match.specs.Lives.{Watched, in_use, of_root, watched_start}
use Rattle.xr_match.specs.Meanings.{of_kernel, root_among}
use Rattle.xr_match.specs.Sources.{Counted, actions_by, actions_of, counted_start}
use Rattle.xr_match.specs.Systems.{SomeIs}
use Rattle.xr_simulation.specs.Images.{IsImageOf, IsRootRole}
use Rattle.xr_simulation.specs.Living.{AreBornBelow, AreNamed, pars_of}
use Rattle.xr_simulation.specs.Parents.{Parent}
use Rattle.xr_simulation.specs.Roles.{AcquiredFits, Role, Roles, empty, gives_back, got_by, opens, unused, used_by}
use Rattle.xr_simulation.specs.Runners.{Setting, Runner}
use Rattle.xr_simulation.specs.ThreadViews.{held_in, sync_in}
use Rattle.xr_simulation.specs.MatchStates.{RunsBranch, MatchStates, ThreadRel, ThreadIs}
use Rattle.xr_simulation.specs.NextStep.{IsWaitingTied}
use Rattle.xr_simulation.proofs.Lives.Quiet.{IsNamedRole, all_named}

-- the thread of a branch is in use, however the branch is
mode_in_use : (ps : List Parent) (mode : Mode) (is : ThreadMode) → ThreadIs ps mode is → is_unused is ≡ false
mode_in_use ps runs is h = ap is_unused h
mode_in_use ps (waits from count) is h = absurd h
mode_in_use [] ended is h = ap is_unused h
mode_in_use (p ∷ ps) ended is h = ap is_unused h
mode_in_use ps erred is h = ap is_unused h

-- a thread that is there in another mode than unused is in use
there_in_use : (o : Option Thread) (x : Thread) → o ≡ Some x → is_unused x.mode ≡ false → in_use o ≡ true
there_in_use None x e h = absurd (none-some x e)
there_in_use (Some y) x e h = let s : is_unused y.mode ≡ false = ap (λ (i : Thread). is_unused i.mode) (same_Some y x e) ∙ h in not_unused (is_unused y.mode) s
  where
    not_unused : (b : Bool) → b ≡ false → not b ≡ true
    not_unused b e = ap not e

-- one that waits with a tie is
waiting_in_use : (n : ℕ) (o : Option Thread) → IsWaitingTied n o → in_use o ≡ true
waiting_in_use n None h = absurd h
waiting_in_use n (Some x) h = there_in_use (Some x) x refl (ap is_unused h.waits)

-- a hand that holds threads has a synchroniser to which they are tied
held_sync : (items : List Item) (hand : Option Acquired) (u : ℕ) → AcquiredFits items hand → IsAmong (held_in hand) u → (n : ℕ) × (sync_in hand ≡ Some n)
held_sync items hand u (empty e) m = absurd (subst (λ o. IsAmong (held_in o) u) e m)
held_sync items hand u (gives_back n e) m = absurd (subst (λ o. IsAmong (held_in o) u) e m)
held_sync items hand u (opens h bs rest e is sum several none) m = by_sync h.sync refl
  where
    by_sync : (o : Option ℕ) → h.sync ≡ o → (n : ℕ) × (sync_in hand ≡ Some n)
    by_sync None f = absurd (subst (λ l. IsAmong l u) (none f) (subst (λ o. IsAmong (held_in o) u) e m))
    by_sync (Some n) f = (n, ap sync_in e ∙ f)

module _ (g : Setting) (may_rest : (core thread : ℕ) → Bool) (who : Roles) (w : Watched) (x : Counted (of_kernel g.program)) (st : MatchStates g may_rest who w x) (c : ℕ) (a : CoreState) (at_c : slice_get w.machine.cores c ≡ Some a) where
  -- how the thread of a runner stands
  pub stand_of : (t : ℕ) (r : Runner) (hand : Option Acquired) → who c t ≡ used_by r hand → (branch : Branch) × (slice_get x.state.branches r.branch ≡ Some branch) × RunsBranch g r (may_rest c t) hand a x.state (w.lives c t) x.actions branch
  stand_of t r hand e = there (slice_get x.state.branches r.branch) refl (subst (ThreadRel g (may_rest c t) a x.state (w.lives c t) x.actions) e (st.threads c t a at_c))
    where
      there : (o : Option Branch) → slice_get x.state.branches r.branch ≡ o → SomeIs o (RunsBranch g r (may_rest c t) hand a x.state (w.lives c t) x.actions) →
          (branch : Branch) × (slice_get x.state.branches r.branch ≡ Some branch) × RunsBranch g r (may_rest c t) hand a x.state (w.lives c t) x.actions branch
      there None f h = absurd h
      there (Some branch) f h = (branch, f, h)

  -- a thread that runs a branch, or was got, is in use
  in_use_by_role : (t : ℕ) (role : Role) → who c t ≡ role → role ≢ unused → in_use (slice_get a.threads t) ≡ true
  in_use_by_role t unused e ne = absurd (ne refl)
  in_use_by_role t (got_by v) e ne =
      let k = st.roles.got c t v e in
      let stand = stand_of v k.0 k.1 k.2 in
      let n = held_sync stand.0.items k.1 t stand.2.in_hand k.3 in
      waiting_in_use n.0 (slice_get a.threads t) ((st.used c a at_c).got t v n.0 k.0 k.1 e k.2 n.1)
  in_use_by_role t (used_by r hand) e ne =
      let stand = stand_of t r hand e in
      let has = stand.2.thread in
      let it : slice_get a.threads t ≡ Some has.thread = ap (slice_get a.threads) (sym (st.roles.thread c t r hand e)) ∙ has.there in
      there_in_use (slice_get a.threads t) has.thread it (mode_in_use r.parents stand.0.mode has.thread.mode has.is)

  pub in_use_now : (t : ℕ) → who c t ≢ unused → in_use (slice_get a.threads t) ≡ true
  in_use_now t ne = in_use_by_role t (who c t) refl ne

  -- a runner's family is that of a branch that is there
  pub steps_within : (t : ℕ) (r : Runner) (hand : Option Acquired) → who c t ≡ used_by r hand → (w.lives c t).steps ≤ kernel_bound g.program * (x.actions r.family + 1)
  steps_within t r hand e = let stand = stand_of t r hand e in let b = stand.2.bound in omega (arith, b)

-- a core by its number
core_at : (cores : List CoreState) (c : ℕ) → c < length cores → (a : CoreState) × (slice_get cores c ≡ Some a)
core_at [] c lt = absurd (omega arith)
core_at (d ∷ cores) zero lt = (d, refl)
core_at (d ∷ cores) (suc c) lt = core_at cores c (omega arith)

module _ (g : Setting) (may_rest : (core thread : ℕ) → Bool) (who : Roles) (w : Watched) (x : Counted (of_kernel g.program)) (st : MatchStates g may_rest who w x) (named : AreNamed g who w x) where
  bounded_by : (c t : ℕ) (role : Role) → who c t ≡ role → (w.lives c t).steps ≤ kernel_bound g.program * (actions_of (of_kernel g.program) x (w.lives c t).family + 1)
  bounded_by c t unused e = named.over c t e
  bounded_by c t (got_by u) e = let none = (named.got c t u e).0 in omega (arith, none)
  bounded_by c t (used_by r hand) e =
      let there = st.roles.there c t r hand e in
      let four = st.cores in
      let a = core_at w.machine.cores c (omega arith) in
      let bound = steps_within g may_rest who w x st c a.0 a.1 t r hand e in
      let n = named.named c t r hand e in
      let same : actions_of (of_kernel g.program) x (w.lives c t).family ≡ x.actions r.family =
      ap (actions_of (of_kernel g.program) x) n.of_life ∙ ap (actions_by (of_kernel g.program) x) n.number in
      subst (λ k. (w.lives c t).steps ≤ kernel_bound g.program * (k + 1)) (sym same) bound

  -- no life has done too many steps for its family
  pub bounded : StepsAreBounded (of_kernel g.program) w x
  bounded c t = bounded_by c t (who c t) refl

-- The start.

-- the roots are no `par`'s branches
roots_pars : (f number : ℕ) (before : List kernel.Statements) (sides : List (Option Side)) (roots : List Root) → pars_of f (root_branches number before sides roots) ≡ 0
roots_pars f number before sides [] = refl
roots_pars f number before sides (r ∷ rs) = let e = roots_pars f (number + 1) (r.begun.code ∷ before) sides rs in omega (arith, e)

roots_born : (n number : ℕ) (before : List kernel.Statements) (sides : List (Option Side)) (roots : List Root) → AreBornBelow n (root_branches number before sides roots)
roots_born n number before sides [] = tt
roots_born n number before sides (r ∷ rs) = (tt, roots_born n (number + 1) (r.begun.code ∷ before) sides rs)

module _ (g : Setting) (who : Roles) (image : IsImageOf g who) where
  abbrev told : Counted (of_kernel g.program)
  told = counted_start (of_kernel g.program)

  abbrev watched : Watched
  watched = watched_start g.image

  start_role : (c t : ℕ) (role : Role) → who c t ≡ role → IsRootRole g role → IsNamedRole g (watched.lives c) (watched.lives c t) told role
  start_role c t unused e h = omega arith
  start_role c t (got_by u) e h = absurd h
  start_role c t (used_by r (Some hand)) e h = absurd h
  start_role c t (used_by r None) e h =
      let root = h.1 in
      let number : root_among c 0 g.program.roots t ≡ Some r.family =
      ap (λ k. root_among k 0 g.program.roots t) (sym (image.core c t r e)) ∙ ap (root_among r.core 0 g.program.roots) (sym (image.thread c t r e)) ∙ root.numbered ∙ ap Some (sym root.family) in
      let none = roots_pars r.family 0 [] (map no_side g.program.channels) (map kernel_root g.program.roots) in
      record {
        name = of_root c t;
        of_life = refl;
        number = number;
        pars = omega (arith, none);
        ties = λ held n f sync opens. absurd (none-some held f);
      }

  pub start_named : AreNamed g who (watched_start g.image) (counted_start (of_kernel g.program))
  start_named =
      all_named g who watched told (λ c t. start_role c t (who c t) refl (image.roles c t))
      (roots_born (length told.state.branches) 0 [] (map no_side g.program.channels) (map kernel_root g.program.roots))
