-- The branches of a `par` are set off: each thread that was got runs one, and the thread itself the first.
use Rattle.std.proofs.Common.{◌≡◌, ◌≢◌, ◌⊎◌, ℕ, zero, suc, ◌+◌, ◌-◌, ◌*◌, ◌<◌, ◌≤◌, Bool, true, false, List, [], ◌∷◌, length, Option, Some, None, option_map, refl, sym, ap, ◌∙◌, subst, inl, inr, ⊎_elim, arith, eq-eqb}
use Rattle.std.specs.Prelude.{nat_eq, not, slice_get, slice_set, ◌&&◌, ◌||◌}
use Rattle.std.proofs.Math.Nat.{mul-le-mul_left}
use Rattle.std.proofs.lemmas.Bool.{cases_eq, cases_lt, ne_eqb, or_left, or_right}
use Rattle.std.proofs.lemmas.List.{length-set}
use Rattle.std.proofs.lemmas.Option.{same_Some, slice_get_within}
use Rattle.xs_instr.specs.declared.state.CoreState.{CoreState}
use Rattle.xs_instr.specs.declared.state.Mode.TheVariants.{Running}
use Rattle.xs_instr.specs.declared.state.Thread.{Thread}
use Rattle.xs_instr.specs.Rows.{goes_on as row_goes_on, put_threads}
use Rattle.xc_disjoint.specs.Needs.{threads_on}
use Rattle.xc_meaning.specs.Counts.Families.{counted_for, family_of_branch, one_if, steps_of}
use Rattle.xc_meaning.specs.Counts.KernelCounts.{greatest_count, kernel_bound}
use Rattle.xc_meaning.specs.Runs.{acts_all, step_of}
use Rattle.xc_meaning.specs.States.Branches.{Branch, ended, has_ended, runs, waits}
use Rattle.xc_meaning.specs.States.Worlds.{World, Action, go}
use Rattle.xl_expr.proofs.Lists.{get_set_other, get_set_same}
use Rattle.xl_expr.proofs.ResourceParts.{others_same}
use Rattle.xl_par.specs.Acquired.{Acquired, IsAmong}
use Rattle.xl_ends.specs.Ends.{Sides, codes_in}
use Rattle.xr_match.specs.Lives.{Life, Watched}
use Rattle.xr_match.specs.Systems.{SomeIs}
use Rattle.xr_simulation.specs.Parents.{Parent, branches_of}
use Rattle.xr_simulation.specs.Runners.{HoldsPlaces, Activation, Footprint, Runner, code, footprint_of, outside, plan, plan_in}
use Rattle.xr_simulation.specs.Sizes.{Sizes}
use Rattle.xr_simulation.specs.ThreadViews.{Owns, giving_back, running, sync_in}
use Rattle.xr_simulation.proofs.Relation.Counts.{living_after}
use Rattle.xr_simulation.proofs.Relation.Moments.{Moment, ThreadAt}
use Rattle.xr_simulation.proofs.Lives.Links.{opens_linked}
use Rattle.xr_simulation.proofs.Relation.Lasting.{Follows, parents_still, told_by}
use Rattle.xr_simulation.proofs.Relation.Events.{answered, clocks_still, far_steps_still, has_stepped, steps_still, watched}
use Rattle.xr_simulation.proofs.Channels.Wiring.{TransfersAsBefore, wired_still}
use Rattle.std.specs.Prelude.{option_map}
use Rattle.xs_instr.specs.Machine.{Machine, and_then}
use Rattle.xs_instr.specs.Pool.{all_started, is_tied, is_unused, started_by}
use Rattle.xc_kernel.specs.Plain as kernel
use Rattle.xc_kernel.specs.Things.{variable, by_branches}
use Rattle.xc_meaning.specs.Counts.KernelCounts.{branch_count}
use Rattle.xc_meaning.specs.Settings.Par.{all_begun, family_of}
use Rattle.xc_meaning.specs.States.Items.{Item, does, ends, todo}
use Rattle.xc_meaning.specs.Uses.{by_items}
use Rattle.xr_match.specs.Lives.{child_of, in_use, is_got, life_by, stepped, thread_of, tie_of}
use Rattle.xc_meaning.specs.Settings.Sides.{sides_in}
use Rattle.xr_simulation.specs.Fits.{FitOn}
use Rattle.xr_simulation.specs.Items.{EndAt, ItemsAt}
use Rattle.xr_simulation.specs.Transfers.{Transfer}
use Rattle.xr_simulation.specs.Roles.{AreRoles, AreUsedSo, HasReserves, IsParent, ParentsWait, Roles, empty, got_by, own_branches, unused, used_by}
use Rattle.xr_simulation.specs.MatchStates.{AreLoose, IsMade, IsRun, IsWanted, RunsBranch, ThreadRel, ProgressBy, ThreadIs, counts, is_of_root, living_on, none_rests, one_where}
use Rattle.xr_simulation.specs.NextStep.{Begins, HoldsStore, IsFree, IsSetOff, IsWaitingTied, Placed, Rest, backwards, cost, is_watching, placed_in}
use Rattle.xr_simulation.proofs.RelyGuarantee.Holding.{loose_behind}
use Rattle.xr_simulation.proofs.Par.Joins.{parents_below}
use Rattle.xr_simulation.proofs.Lives.OwnLife.{own_life}
use Rattle.xr_simulation.proofs.Relation.CoreSteps.{Effect, laid_at, parent_there, same_hand, same_runner, works_at}
use Rattle.xr_simulation.proofs.Par.OpenRoles as roles_after
use Rattle.xr_simulation.proofs.Par.Indices.{among_index, index_among, index_of, index_within}
use Rattle.xr_simulation.proofs.Par.OpenRoles.{opens, roles_open}
use Rattle.xr_simulation.proofs.OwnSteps.Events.{bound_grows}
use Rattle.xr_simulation.proofs.Par.Worlds.{IsNew, begun_length, placed_code, placed_length, new_branches, made_there, maker_there, none_else, opened, others_there, par_acts, waiting}
use Rattle.xr_simulation.proofs.Relation.Pools.{num_is, started_at, started_length, started_other}
use Rattle.xr_simulation.proofs.Relation.Reserves.{GiveAsBefore, reserves_behind, reserves_of_others}
use Rattle.xr_simulation.proofs.RelyGuarantee.Footprints.{IsWithin, branch_fits, fits_everywhere, fits_here}
use Rattle.xr_simulation.proofs.Par.SetOff.{back_at, back_length, branch_within, code_of, living_both, living_new, off_at, off_length}
use Rattle.xr_simulation.proofs.RelyGuarantee.Stands.{items_stand}
use Rattle.xr_simulation.proofs.RelyGuarantee.Events.{code_unwatched, events_on, here_at, items_unwatched}

-- the items of a branch, and its sides, where there is one
abbrev pub items_at : Option Placed → List Item
items_at None = []
items_at (Some placed) = todo placed.code (ends ∷ [])

abbrev pub sides_at : Option Placed → Sides
sides_at None = []
sides_at (Some placed) = placed.sides

module _ {moment : Moment none_rests} {hand : Option Acquired} (thread_at : ThreadAt moment hand)
    (j : ℕ)
    (b : Begins moment.setting thread_at.runner j (record { core = thread_at.state; world = moment.told.state; hand = hand })) where
  open moment use {setting as g, first, image as is, roles as who, watched as w, told as x, standing as st}
  open thread_at use {core as c, thread as t, state as a, at_core as at_c, runner as r, runs as runs_r}

  used : AreUsedSo who c a
  used = st.used c a at_c

  pub runs_h : who c t ≡ used_by r (Some b.hand)
  runs_h = runs_r ∙ ap (used_by r) b.in_hand

  thread_is : r.thread ≡ t
  thread_is = st.roles.thread c t r hand runs_r

  core_is : r.core ≡ c
  core_is = st.roles.core c t r hand runs_r

  abbrev pub all : kernel.Branches
  all = kernel.more_branches (kernel.branch b.first b.first_pos) b.others

  abbrev pub from : ℕ
  from = length x.state.branches

  -- the branches, each with its sides
  abbrev pub all_placed : List Placed
  all_placed = placed_in r.sides [] all

  abbrev pub items_of : ℕ → List Item
  items_of i = items_at (slice_get all_placed i)

  abbrev pub sides_of : ℕ → Sides
  sides_of i = sides_at (slice_get all_placed i)

  abbrev pub first_items : List Item
  first_items = todo b.first (ends ∷ [])

  abbrev pub who' : Roles
  who' = opens g who c t st.roles r b.hand runs_h b.sync b.sync_is from first_items b.rest items_of sides_of

  abbrev pub own : Runner
  own = roles_after.own g who c t st.roles r b.hand runs_h b.sync b.sync_is from first_items b.rest items_of sides_of

  abbrev pub kid : (index thread : ℕ) → Runner
  kid i u = roles_after.kid g who c t st.roles r b.hand runs_h b.sync b.sync_is from first_items b.rest items_of sides_of i u

  abbrev PlaceAt : (d u : ℕ) → Type 0
  PlaceAt d u = roles_after.Place g who c t st.roles r b.hand runs_h b.sync b.sync_is from first_items b.rest items_of sides_of d u

  place_at : (d u : ℕ) → PlaceAt d u
  place_at d u = roles_after.place g who c t st.roles r b.hand runs_h b.sync b.sync_is from first_items b.rest items_of sides_of d u

  own_there : who' c t ≡ used_by own None
  own_there = roles_after.own_there g who c t st.roles r b.hand runs_h b.sync b.sync_is from first_items b.rest items_of sides_of

  kid_there : (u i : ℕ) → index_among b.hand.threads u ≡ Some i → who' c u ≡ used_by (kid i u) None
  kid_there u i e = roles_after.kid_there g who c t st.roles r b.hand runs_h b.sync b.sync_is from first_items b.rest items_of sides_of u i e

  held_not_own : (u : ℕ) → IsAmong b.hand.threads u → u ≢ t
  held_not_own u m = roles_after.not_own g who c t st.roles r b.hand runs_h b.sync b.sync_is from first_items b.rest items_of sides_of u m

  -- all numbers of branches are below
  known_below : (k : ℕ) (branch : Branch) → slice_get x.state.branches k ≡ Some branch → k < from
  known_below k branch there = slice_get_within x.state.branches k branch there

  below : (d u k : ℕ) (s : Runner) (other : Option Acquired) → who d u ≡ used_by s other → IsAmong (own_branches s) k → k < from
  below d u k s other at m =
      let works = works_at moment d u s other at in
      ⊎_elim
      (λ (e : k ≡ s.branch). let lt = known_below s.branch works.branch works.known in omega (arith, lt, e))
      (λ (waiting : IsAmong (branches_of s.parents) k).
      let there = parent_there g x.state s.core s.family s.branch s.parents k works.parents waiting in
      known_below k there.0 there.1)
      m

  pub roles' : AreRoles g who'
  roles' = roles_open g who c t st.roles r b.hand runs_h b.sync b.sync_is from first_items b.rest items_of sides_of below

  -- what the step leaves
  abbrev pub left : CoreState
  left = row_goes_on (put_threads a (all_started a.threads b.sync)) r.thread (running r.tie b.pc b.regs) b.regs

  abbrev started : List Thread
  started = all_started a.threads b.sync

  abbrev th : Thread
  th = running r.tie b.pc b.regs

  abbrev th' : Thread
  th' = running r.tie (b.pc + 1) b.regs

  -- the runner has what it goes for: the thread is none of those that were got
  own_untied : is_tied th b.sync ≡ false
  own_untied = by (is_tied th b.sync) refl
    where
      by : (k : Bool) → is_tied th b.sync ≡ k → is_tied th b.sync ≡ false
      by true e = absurd (held_not_own r.thread (b.tied r.thread th b.here e) thread_is)
      by false e = e

  own_left : slice_get left.threads r.thread ≡ Some th'
  own_left = get_set_same started r.thread th th' (started_other a.threads b.sync r.thread th b.here own_untied)

  -- a thread that wasn't got is what it was
  other_left : (u : ℕ) → u ≢ t → (IsAmong b.hand.threads u → ⊥) → slice_get left.threads u ≡ slice_get a.threads u
  other_left u ne free = get_set_other started r.thread u th' (λ e. ne (e ∙ thread_is)) ∙ by (slice_get a.threads u) refl
    where
      untied : (thread : Thread) → slice_get a.threads u ≡ Some thread → (k : Bool) → is_tied thread b.sync ≡ k → is_tied thread b.sync ≡ false
      untied thread there true e = absurd (free (b.tied u thread there e))
      untied thread there false e = e

      by : (o : Option Thread) → slice_get a.threads u ≡ o → slice_get started u ≡ slice_get a.threads u
      by None e = started_at a.threads b.sync u ∙ ap (option_map (λ (i : Thread). started_by i (is_tied i b.sync))) e ∙ sym e
      by (Some thread) e = started_other a.threads b.sync u thread e (untied thread e (is_tied thread b.sync) refl) ∙ sym e

  -- the branches behind the first
  abbrev others_placed : List Placed
  others_placed = placed_in r.sides (b.first ∷ []) b.others

  -- as many were got as branches are behind the first
  as_many : length b.hand.threads ≡ branch_count b.others
  as_many =
      let off = off_length g r left b.sync b.hand.threads (backwards others_placed) b.set_off in
      let back = back_length others_placed [] in
      let counted = placed_length r.sides (b.first ∷ []) b.others in
      omega (arith, off, back, counted)

  -- each with its code
  pub off_with : (u i : ℕ) → index_among b.hand.threads u ≡ Some i → (placed : Placed) × IsSetOff g r left b.sync u placed × (slice_get all_placed i ≡ Some placed)
  off_with u i e =
      let off = off_at g r left b.sync b.hand.threads (backwards others_placed) b.set_off u i e in
      let within = index_within b.hand.threads u i e in
      by i within.1 (let le = within.2 in le) off.0 off.1 off.2
    where
      by : (i : ℕ) → 1 ≤ i → i ≤ length b.hand.threads → (placed : Placed) → IsSetOff g r left b.sync u placed → slice_get (backwards others_placed) (length b.hand.threads - i) ≡ Some placed → (placed : Placed) × IsSetOff g r left b.sync u placed × (slice_get all_placed i ≡ Some placed)
      by zero some le placed off there = absurd (omega (arith, some))
      by (suc m) some le placed off there =
          let counted = placed_length r.sides (b.first ∷ []) b.others in
          let many = as_many in
          let place : length others_placed - suc m ≡ length b.hand.threads - suc m = omega arith in
          (placed, off, sym (back_at others_placed [] m (omega arith)) ∙ ap (slice_get (backwards others_placed)) place ∙ there)

  -- The threads that the step changes.
  abbrev pub has_index : Option ℕ → Bool
  has_index None = false
  has_index (Some i) = true

  abbrev pub moved : ℕ → Bool
  moved u = nat_eq u t || has_index (index_among b.hand.threads u)

  pub own_moved : moved t ≡ true
  own_moved = or_left (nat_eq t t) (has_index (index_among b.hand.threads t)) (eq-eqb t t refl)

  not_moved_own : (u : ℕ) → moved u ≡ false → u ≢ t
  not_moved_own u m e = let both : true ≡ false = sym (or_left (nat_eq u t) (has_index (index_among b.hand.threads u)) (eq-eqb u t e)) ∙ m in let z : ⊥ = cc in z

  not_moved_kid : (u : ℕ) → moved u ≡ false → IsAmong b.hand.threads u → ⊥
  not_moved_kid u m among =
      let k = among_index b.hand.threads u among in
      let both : true ≡ false = sym (or_right (nat_eq u t) (has_index (index_among b.hand.threads u)) (ap has_index k.1)) ∙ m in let z : ⊥ = cc in z

  still_moved : (u : ℕ) → u ≢ t → (IsAmong b.hand.threads u → ⊥) → moved u ≡ false
  still_moved u ne free = ap (λ k. k || has_index (index_among b.hand.threads u)) (ne_eqb u t ne) ∙ by (index_among b.hand.threads u) refl
    where
      by : (o : Option ℕ) → index_among b.hand.threads u ≡ o → has_index (index_among b.hand.threads u) ≡ false
      by None e = ap has_index e
      by (Some i) e = absurd (free (index_within b.hand.threads u i e).0)

  moved_kid : (u : ℕ) → u ≢ t → moved u ≡ true → (i : ℕ) × (index_among b.hand.threads u ≡ Some i)
  moved_kid u ne m = by (index_among b.hand.threads u) refl
    where
      by : (o : Option ℕ) → index_among b.hand.threads u ≡ o → (i : ℕ) × (index_among b.hand.threads u ≡ Some i)
      by None e = let both : true ≡ false = sym m ∙ ap (λ k. k || has_index (index_among b.hand.threads u)) (ne_eqb u t ne) ∙ ap has_index e in absurd (let z : ⊥ = cc in z)
      by (Some i) e = (i, e)

  -- the program's step
  abbrev pub world : World
  world = opened g.program g.stimulus r.branch x.state b.branch all b.rest

  abbrev piece : List Action
  piece = go r.branch ∷ []

  all_acted : acts_all g.program g.stimulus (Some x.state) piece ≡ Some world
  all_acted = ap (λ o. acts_all g.program g.stimulus o []) (par_acts g.program g.stimulus r.branch x.state b.branch (kernel.branch b.first b.first_pos) b.others b.rest b.does_par)

  other_there : (k : ℕ) (branch : Branch) → k ≢ r.branch → slice_get x.state.branches k ≡ Some branch → slice_get world.branches k ≡ Some branch
  other_there k branch ne there = others_there g.program g.stimulus r.branch x.state b.branch all b.rest k ne (known_below k branch there) ∙ there

  pub effect : Effect g who c t r hand moved a left x.state world
  effect = record {
    clock = refl;
    sizes = refl;
    threads = λ u m. other_left u (not_moved_own u m) (not_moved_kid u m);
    not_held = λ u s got ne.
        still_moved u (λ e. let both : got_by s ≡ used_by r hand = sym got ∙ ap (who c) e ∙ runs_r in let z : ⊥ = cc in z)
        (λ m. let both : got_by t ≡ got_by s = sym (st.roles.held c t u r (Some b.hand) runs_h m) ∙ got in ne (let z : s ≡ t = cc in z));
    ties = λ u k thread m there tied.
        ⊎_elim
        (λ (e : u ≡ t).
        let same : thread ≡ th' = same_Some thread th' (sym there ∙ ap (slice_get left.threads) (e ∙ sym thread_is) ∙ own_left) in
        inr (ap (λ (i : Thread). i.tie) (sym same) ∙ num_is thread.tie k tied))
        (λ (ne : u ≢ t).
        let i = moved_kid u ne m in
        let off = (off_with u i.0 i.1).1 in
        let same : thread ≡ running (Some b.sync) off.pc off.regs = same_Some thread (running (Some b.sync) off.pc off.regs) (sym there ∙ off.here) in
        let tie : Some b.sync ≡ Some k = ap (λ (i : Thread). i.tie) (sym same) ∙ num_is thread.tie k tied in
        inl (inr (ap sync_in b.in_hand ∙ b.sync_is ∙ tie)))
        (cases_eq u t);
    syncs = λ k mine was. was;
    words = λ k mine. refl;
    resources = others_same _ _ _ _ refl refl refl;
    clocks = refl;
    branches = λ k branch mine there. other_there k branch (λ e. mine (inl e)) there;
    store = λ v unchanged. refl;
  }

  -- the threads and synchronisers are used so
  pub used' : AreUsedSo who' c left
  used' = record {
    threads = length-set started r.thread th' ∙ started_length a.threads b.sync ∙ used.threads;
    syncs = used.syncs;
    unused = λ u lt at. free_by u lt at (place_at c u);
    got = λ u k m q other at its in_other. got_by_place u k m q other at its in_other (place_at c u) (place_at c k);
    taken = λ m now. let k = used.taken m now in taken_by m k.0 k.1 k.2 k.3 k.4 (place_at c k.0);
    owned = λ u m q other at owns.
        let k = roles_after.owned_before g who c t st.roles r b.hand runs_h b.sync b.sync_is from first_items b.rest items_of sides_of c u m q other at owns in
        used.owned u m k.0 k.1 k.2 k.3;
  }
    where
      free_by : (u : ℕ) → u < 8 → who' c u ≡ unused → PlaceAt c u → IsFree (slice_get left.threads u)
      free_by u lt at (roles_after.at_own e f now) = let both : used_by own None ≡ unused = sym now ∙ at in absurd (let z : ⊥ = cc in z)
      free_by u lt at (roles_after.at_kid i e among now old) = let both : used_by (kid i u) None ≡ unused = sym now ∙ at in absurd (let z : ⊥ = cc in z)
      free_by u lt at (roles_after.elsewhere same not_own no_kid) = subst IsFree (sym (other_left u (λ e. not_own (refl, e)) (no_kid refl))) (used.unused u lt (sym same ∙ at))

      got_by_place : (u k m : ℕ) (q : Runner) (other : Option Acquired) → who' c u ≡ got_by k → who' c k ≡ used_by q other → sync_in other ≡ Some m → PlaceAt c u → PlaceAt c k → IsWaitingTied m (slice_get left.threads u)
      got_by_place u k m q other at its in_other (roles_after.at_own e f now) holder = let both : used_by own None ≡ got_by k = sym now ∙ at in absurd (let z : ⊥ = cc in z)
      got_by_place u k m q other at its in_other (roles_after.at_kid i e among now old) holder = let both : used_by (kid i u) None ≡ got_by k = sym now ∙ at in absurd (let z : ⊥ = cc in z)
      got_by_place u k m q other at its in_other (roles_after.elsewhere same not_own no_kid) (roles_after.at_own e f now) =
          let none : None ≡ Some m = ap sync_in (same_hand own q None other (sym now ∙ its)) ∙ in_other in absurd (let z : ⊥ = cc in z)
      got_by_place u k m q other at its in_other (roles_after.elsewhere same not_own no_kid) (roles_after.at_kid i e among now old) =
          let none : None ≡ Some m = ap sync_in (same_hand (kid i k) q None other (sym now ∙ its)) ∙ in_other in absurd (let z : ⊥ = cc in z)
      got_by_place u k m q other at its in_other (roles_after.elsewhere same not_own no_kid) (roles_after.elsewhere there away free) =
          subst (IsWaitingTied m) (sym (other_left u (λ e. not_own (refl, e)) (no_kid refl))) (used.got u k m q other (sym same ∙ at) (sym there ∙ its) in_other)

      own_then : (m : ℕ) → Owns r (Some b.hand) m → Owns own None m
      own_then m (inl outer) = inl (inr outer)
      own_then m (inr its) = let e : Some b.sync ≡ Some m = sym b.sync_is ∙ its in inl (inl (let z : m ≡ b.sync = cc in z))

      taken_by : (m u : ℕ) (q : Runner) (other : Option Acquired) → who c u ≡ used_by q other → Owns q other m → PlaceAt c u → (k : ℕ) × (i : Runner) × (more : Option Acquired) × (who' c k ≡ used_by i more) × Owns i more m
      taken_by m u q other at owns (roles_after.at_own e f now) =
          let both : used_by r (Some b.hand) ≡ used_by q other = sym runs_h ∙ ap (who c) (sym f) ∙ at in
          let mine : Owns r (Some b.hand) m = subst (λ i. Owns i (Some b.hand) m) (sym (same_runner r q (Some b.hand) other both)) (subst (λ h. Owns q h m) (sym (same_hand r q (Some b.hand) other both)) owns) in
          (u, own, None, now, own_then m mine)
      taken_by m u q other at owns (roles_after.at_kid i e among now old) = let both : got_by t ≡ used_by q other = sym old ∙ at in absurd (let z : ⊥ = cc in z)
      taken_by m u q other at owns (roles_after.elsewhere same not_own no_kid) = (u, q, other, same ∙ at, owns)

  gives_as_before : GiveAsBefore who who'
  gives_as_before = record { before = λ d u m q at. by d u m q at (place_at d u) }
    where
      by : (d u m : ℕ) (q : Runner) → who' d u ≡ used_by q (giving_back m) → PlaceAt d u → (s : Runner) × (k : ℕ) × (who d u ≡ used_by s (giving_back k)) × (s.branch ≡ q.branch)
      by d u m q at (roles_after.at_own e f now) = let none : None ≡ giving_back m = same_hand own q None (giving_back m) (sym now ∙ at) in absurd (let z : ⊥ = cc in z)
      by d u m q at (roles_after.at_kid i e among now old) = let none : None ≡ giving_back m = same_hand (kid i u) q None (giving_back m) (sym now ∙ at) in absurd (let z : ⊥ = cc in z)
      by d u m q at (roles_after.elsewhere same not_own no_kid) = (q, m, sym same ∙ at, refl)

  reserves' : HasReserves g who' world
  reserves' = reserves_of_others g who world (reserves_behind g who x.state st.lawful st.reserves piece world all_acted) who' gives_as_before

  -- a runner is there still, or it is the one that made the branches
  runner_still : (u : ℕ) (q : Runner) (other : Option Acquired) → who c u ≡ used_by q other → PlaceAt c u → (r ≡ q) ⊎ (who' c u ≡ used_by q other)
  runner_still u q other at (roles_after.at_own e f now) = inl (same_runner r q (Some b.hand) other (sym runs_h ∙ ap (who c) (sym f) ∙ at))
  runner_still u q other at (roles_after.at_kid i e among now old) = let both : got_by t ≡ used_by q other = sym old ∙ at in absurd (let z : ⊥ = cc in z)
  runner_still u q other at (roles_after.elsewhere same not_own no_kid) = inr (same ∙ at)

  -- what the runner uses is what its branch has to do
  branch_of : (k : Branch) → slice_get x.state.branches r.branch ≡ Some k → k ≡ b.branch
  branch_of k there = same_Some k b.branch (sym there ∙ b.does_par.known)

  footprint_is : r.footprint ≡ footprint_of (does (kernel.par all) ∷ b.rest)
  footprint_is =
      let works = works_at moment c t r hand runs_r in
      works.footprint ∙ ap (λ (i : Branch). footprint_of i.items) (branch_of works.branch works.known) ∙ ap footprint_of b.does_par.items_are

  wanted_by : (v : ℕ) (wanted : IsWanted who' c v) → PlaceAt c wanted.thread → IsWanted who c v ⊎ (r.footprint.uses v ≡ true)
  wanted_by v wanted (roles_after.at_own e f now) =
      ⊎_elim
      (λ (new : wanted.parent ≡ roles_after.parent g who c t st.roles r b.hand runs_h b.sync b.sync_is from first_items b.rest items_of sides_of).
      let uses : by_items (variable v) b.rest ≡ true = ap (λ (i : Parent). by_items (variable v) i.items) (sym new) ∙ wanted.uses in
      inr (ap (λ (i : Footprint). i.uses v) footprint_is ∙ or_right (by_branches (variable v) all) (by_items (variable v) b.rest) uses))
      (λ (old : IsParent r.parents wanted.parent).
      inl (record { thread = t; runner = r; hand = Some b.hand; runs = runs_h; parent = wanted.parent; waits = old; uses = wanted.uses }))
      (subst (λ (i : Runner). IsParent i.parents wanted.parent) (sym (same_runner own wanted.runner None wanted.hand (sym now ∙ wanted.runs))) wanted.waits)
  wanted_by v wanted (roles_after.at_kid i e among now old) =
      absurd (subst (λ (q : Runner). IsParent q.parents wanted.parent) (sym (same_runner (kid i wanted.thread) wanted.runner None wanted.hand (sym now ∙ wanted.runs))) wanted.waits)
  wanted_by v wanted (roles_after.elsewhere same not_own no_kid) =
      inl (record { thread = wanted.thread; runner = wanted.runner; hand = wanted.hand; runs = sym same ∙ wanted.runs; parent = wanted.parent; waits = wanted.waits; uses = wanted.uses })

  -- what was loose, or is what the maker still uses, is as the program has it
  loose' : 1 ≤ threads_on g.program c → AreLoose g who' c left world
  loose' some =
      let old : HoldsStore g r (record { core = a; world = x.state; hand = hand }) = b.has.holds in
      loose_behind g who who' c a left x.state world r core_is (laid_at moment c t r hand runs_r)
      (st.loose c a at_c some) (record
      { words = λ k mine. refl; resources = others_same _ _ _ _ refl refl refl; store = λ v unchanged. refl })
      (record { holds = record { lengths = old.holds.lengths; values = old.holds.values }; room = old.room })
      (λ q listed its. let k = b.has.ports q listed its in record { port = k.port; there = k.there; declared = k.declared })
      (λ v nobody unchanged u q other at.
      ⊎_elim (λ (same : r ≡ q). subst (λ (i : Runner). i.footprint.changes v ≡ false) same unchanged) (λ there. nobody u q other there) (runner_still u q other at (place_at c u)))
      (λ v wanted. wanted_by v wanted (place_at c wanted.thread))
      (λ q nobody free u i other at.
      ⊎_elim (λ (same : r ≡ i). subst (λ (k : Runner). k.footprint.ports q ≡ false) same free) (λ there. nobody u i other there) (runner_still u i other at (place_at c u)))

  -- The program's branches behind the step.

  -- the maker stands in the runner's sides
  maker_sides : b.branch.sides ≡ r.sides
  maker_sides =
      let works = works_at moment c t r hand runs_r in
      ap (λ (i : Branch). i.sides) (sym (branch_of works.branch works.known)) ∙ works.sides

  maker_inside : b.branch.inside ≡ r.inside
  maker_inside =
      let works = works_at moment c t r hand runs_r in
      ap (λ (i : Branch). i.inside) (sym (branch_of works.branch works.known)) ∙ works.inside

  abbrev maker : Branch
  maker = waiting g.program g.stimulus r.branch x.state b.branch all b.rest

  maker_there' : slice_get world.branches r.branch ≡ Some maker
  maker_there' = maker_there g.program g.stimulus r.branch x.state b.branch all b.rest b.does_par.known

  -- a branch is the maker's, another one, or new
  data WhichBranch (k : ℕ) (branch : Branch) : Type 0 where
    is_maker : k ≡ r.branch → branch ≡ maker → WhichBranch k branch
    is_old : k ≢ r.branch → slice_get x.state.branches k ≡ Some branch → WhichBranch k branch
    is_new : (i : ℕ) (placed : Placed) → k ≡ from + i → i < branch_count all → slice_get all_placed i ≡ Some placed → IsNew b.branch k i (length (all_begun all)) placed branch → WhichBranch k branch

  which : (k : ℕ) (branch : Branch) → slice_get world.branches k ≡ Some branch → WhichBranch k branch
  which k branch there =
      ⊎_elim
      (λ (e : k ≡ r.branch). is_maker e (same_Some branch maker (sym there ∙ ap (slice_get world.branches) e ∙ maker_there')))
      (λ (ne : k ≢ r.branch).
      ⊎_elim
      (λ (lt : k < from). is_old ne (sym (others_there g.program g.stimulus r.branch x.state b.branch all b.rest k ne lt) ∙ there))
      (λ (le : from ≤ k). let n = none_else g.program g.stimulus r.branch x.state b.branch all b.rest r.sides maker_sides k branch there le in is_new n.0 n.1 n.2 n.3 n.4 n.5)
      (cases_lt k from))
      (cases_eq k r.branch)

  placed_by : (k : ℕ) (branch : Branch) → WhichBranch k branch → branch.core < 4
  placed_by k branch (is_maker e same) = subst (λ m. m < 4) (sym (ap (λ (i : Branch). i.core) same)) (st.placed r.branch b.branch b.does_par.known)
  placed_by k branch (is_old ne there) = st.placed k branch there
  placed_by k branch (is_new i placed at few text new) = subst (λ m. m < 4) (sym new.core) (st.placed r.branch b.branch b.does_par.known)

  goes_on : has_ended b.branch.mode ≡ false
  goes_on = ap has_ended b.does_par.running

  -- one that was made is so still
  made_still : (k : ℕ) → IsMade (length g.program.roots) x.state.branches k → IsMade (length g.program.roots) world.branches k
  made_still k (inl lt) = inl lt
  made_still k (inr (m, child)) =
      inr (
        m,
        record {
          parent = child.parent;
          is = other_there m child.parent (λ e. not_maker e) child.is;
          from = child.from;
          count = child.count;
          waiting = child.waiting;
          least = child.least;
          less = child.less;
        },
      )
    where
      not_maker : m ≢ r.branch
      not_maker e =
          let same : child.parent ≡ b.branch = branch_of child.parent (ap (slice_get x.state.branches) (sym e) ∙ child.is) in
          let clash : waits child.from child.count ≡ runs = sym child.waiting ∙ ap (λ (i : Branch). i.mode) same ∙ b.does_par.running in let z : ⊥ = cc in z

  made_by : (k : ℕ) (branch : Branch) → has_ended branch.mode ≡ false → WhichBranch k branch → IsMade (length g.program.roots) world.branches k
  made_by k branch on (is_maker e same) = subst (IsMade (length g.program.roots) world.branches) (sym e) (made_still r.branch (st.made r.branch b.branch b.does_par.known goes_on))
  made_by k branch on (is_old ne there) = made_still k (st.made k branch there on)
  made_by k branch on (is_new i placed at few text new) =
      let counted = begun_length all in
      inr (
        r.branch,
        record {
          parent = maker;
          is = maker_there';
          from = from;
          count = length (all_begun all);
          waiting = refl;
          least = omega (arith, at);
          less = omega (arith, at, few, counted);
        },
      )

  run_still : (k : ℕ) (q : IsRun who k) → PlaceAt q.core q.thread → IsRun who' k
  run_still k q (roles_after.at_own e f now) =
      let same = same_runner r q.runner (Some b.hand) q.hand (sym (ap (λ i. who i q.thread) e ∙ ap (who c) f ∙ runs_h) ∙ q.runs) in
      record { core = q.core; thread = q.thread; runner = own; hand = None; runs = now; branch = inr (subst (λ (i : Runner). IsAmong (own_branches i) k) (sym same) q.branch) }
  run_still k q (roles_after.at_kid i e among now old) = let both : got_by t ≡ used_by q.runner q.hand = sym old ∙ q.runs in absurd (let z : ⊥ = cc in z)
  run_still k q (roles_after.elsewhere same not_own no_kid) = record { core = q.core; thread = q.thread; runner = q.runner; hand = q.hand; runs = same ∙ q.runs; branch = q.branch }

  run_new : (k i : ℕ) → k ≡ from + i → i < branch_count all → IsRun who' k
  run_new k zero at few = record { core = c; thread = t; runner = own; hand = None; runs = own_there; branch = inl (omega (arith, at)) }
  run_new k (suc i) at few =
      let many = as_many in
      let u = index_of b.hand.threads (suc i) (st.roles.held_once c t r (Some b.hand) runs_h) (omega arith) (omega (arith, few, many)) in
      record { core = c; thread = u.0; runner = kid (suc i) u.0; hand = None; runs = kid_there u.0 (suc i) u.1; branch = inl at }

  run_by : (k : ℕ) (branch : Branch) → has_ended branch.mode ≡ false → WhichBranch k branch → IsRun who' k
  run_by k branch on (is_maker e same) = record { core = c; thread = t; runner = own; hand = None; runs = own_there; branch = inr (inl e) }
  run_by k branch on (is_old ne there) = let q = st.run k branch there on in run_still k q (place_at q.core q.thread)
  run_by k branch on (is_new i placed at few text new) = run_new k i at few

  -- as many roots' branches go on
  living_still : (k : ℕ) → living_on k world.branches ≡ living_on k x.state.branches
  living_still k =
      let after = living_after k x.state.branches r.branch b.branch maker b.does_par.known in
      let over : has_ended b.branch.mode ≡ false = goes_on in
      let same : counts k maker ≡ counts k b.branch = ap (λ m. one_where (nat_eq b.branch.core k && (not m && is_of_root b.branch.birth))) (sym over) in
      let both = living_both k (slice_set x.state.branches r.branch maker) (new_branches g.program g.stimulus r.branch x.state b.branch all b.rest) in
      let none = living_new k (step_of g.program g.stimulus x.state r.branch b.branch b.rest) (length (all_begun all)) 0 [] (all_begun all) in
      omega (arith, after, same, both, none)

  abbrev pub watched' : Watched
  watched' = watched thread_at moved own_moved left world effect None

  abbrev actions : ℕ → ℕ
  actions = (told_by g.program g.stimulus x piece world).actions

  -- What each new runner has.

  outermost_block : r.block ≡ outside
  outermost_block = st.roles.block c t r (Some b.hand) runs_h

  maker_core : b.branch.core ≡ r.core
  maker_core = ap (λ (i : Branch). i.core) (sym (branch_of b.has.branch b.has.runs.known)) ∙ b.has.core

  -- its code is that of the `par`'s branch, and it uses and needs no more than the maker
  code_is : (i : ℕ) (placed : Placed) → slice_get all_placed i ≡ Some placed → slice_get (codes_in all) i ≡ Some placed.code
  code_is i placed there = placed_code r.sides [] all i placed there

  less_of : (i : ℕ) (placed : Placed) → slice_get all_placed i ≡ Some placed → IsWithin (footprint_of (todo placed.code (ends ∷ []))) r.footprint
  less_of i placed there = subst (IsWithin (footprint_of (todo placed.code (ends ∷ [])))) (sym footprint_is) (branch_within all b.rest i placed.code (code_is i placed there))

  fits_of : (i : ℕ) (placed : Placed) → slice_get all_placed i ≡ Some placed → FitOn g r.core (todo placed.code (ends ∷ []))
  fits_of i placed there = branch_fits g r.core all b.rest (fits_everywhere g r (does (kernel.par all) ∷ b.rest) outermost_block b.fits) i
      placed.code (code_of all i placed.code (code_is i placed there))

  holds_within : (f : Footprint) → IsWithin f r.footprint → HoldsPlaces g r.core f.uses left.words world.store
  holds_within f less =
      let h = b.has.holds.holds in
      record {
        lengths = λ v n found near uses. h.lengths v n found near (less.uses v uses);
        values = λ v n i word found near uses there. h.values v n i word found near (less.uses v uses) there;
      }

  -- The thread itself, with the first branch.

  abbrev first_placed : Placed
  first_placed = record { sides = sides_in 0 [] b.first (codes_in b.others) r.sides; code = b.first }

  first_there : slice_get all_placed 0 ≡ Some first_placed
  first_there = refl

  first_unwatched : is_watching first_items ≡ false
  first_unwatched = items_unwatched g own first_items [] (b.pc + 1) b.jumps (b.own_code from (suc (length b.hand.threads)))

  own_rest : (branch : Branch) → slice_get world.branches from ≡ Some branch → branch.mode ≡ runs → branch.core ≡ r.core → branch.items ≡ first_items → Rest g own first_items b.jumps (record { core = left; world = world; hand = None })
  own_rest branch there mode on_core items_are =
      let less = less_of 0 first_placed first_there in
      record {
        pc = b.pc + 1;
        regs = b.regs;
        here = here_at first_items first_unwatched own_left;
        bases = b.bases;
        stands = items_stand g own first_items [] (b.pc + 1) b.jumps b.regs left (b.own_code from (suc (length b.hand.threads)));
        fits = fits_here g own first_items outermost_block (fits_of 0 first_placed first_there) refl;
        has = record {
          branch = branch;
          runs = record { known = there; running = mode; items_are = items_are };
          core = on_core;
          holds = record { holds = holds_within (footprint_of first_items) less; room = b.has.holds.room };
          ports = λ p listed its.
              let k = b.has.ports p listed (record { mine = less.ports p its.mine; known = its.known; core = its.core }) in
              record { port = k.port; there = k.there; declared = k.declared };
        };
      }

  -- One that was got.

  is_inside : (u : ℕ) → IsAmong b.hand.threads u → u < threads_on g.program c
  is_inside u m = st.roles.inside c u (λ e. let both : got_by t ≡ unused = sym (st.roles.held c t u r (Some b.hand) runs_h m) ∙ e in let z : ⊥ = cc in z)

  kid_rest : (u i : ℕ) (placed : Placed) → IsAmong b.hand.threads u → slice_get all_placed i ≡ Some placed → IsSetOff g r left b.sync u placed → (branch : Branch) → slice_get world.branches (from + i) ≡ Some branch → branch.mode ≡ runs → branch.core ≡ r.core → branch.items ≡ todo placed.code (ends ∷ []) → Rest g (kid i u) (todo placed.code (ends ∷ [])) 0 (record { core = left; world = world; hand = None })
  kid_rest u i placed m known off branch there mode on_core items_are =
      let items = todo placed.code (ends ∷ []) in
      let same : items_of i ≡ items = ap items_at known in
      let less = subst (λ its. IsWithin (footprint_of its) r.footprint) (sym same) (less_of i placed known) in
      let inside = is_inside u m in
      let lt = st.roles.there c t r hand runs_r in
      let core = is.cores c lt (omega (arith, inside)) in
      let room = core.room u inside in
      let size = ap (λ (s : Sizes). s.words) (st.sizes c a at_c) in
      let stacks = core.stacks in
      let plan_is : (plan g r).first_stack ≡ (g.plans c).first_stack = ap (λ (k : Activation). (plan_in (g.plans r.core) k.plan).first_stack)
      outermost_block ∙ ap (λ k. (g.plans k).first_stack) core_is in
      let sp = off.stack in
      record {
        pc = off.pc;
        regs = off.regs;
        here = here_at items (code_unwatched (plan g r) (code g r) placed.sides (EndAt (plan g r) (code g r) (Some b.sync) []) items []
            off.pc 0 off.at_code) off.here;
        bases = record {
          base = off.base;
          stack = omega (arith, sp, stacks, plan_is);
          names = record { by = λ place k e few. let none : None ≡ Some k = e in absurd (let z : ⊥ = cc in z) };
        };
        stands = items_stand g (kid i u) items [] off.pc 0 off.regs left
            (subst (λ sides. ItemsAt (plan g r) (code g r) sides (EndAt (plan g r) (code g r) (Some b.sync) []) items [] off.pc 0)
            (ap sides_at (sym known)) off.at_code);
        fits = fits_here g (kid i u) items outermost_block (fits_of i placed known) (ap footprint_of same);
        has = record {
          branch = branch;
          runs = record { known = there; running = mode; items_are = items_are };
          core = on_core;
          holds = record { holds = holds_within (footprint_of (items_of i)) less; room = omega (arith, room, size) };
          ports = λ p listed its.
              let k = b.has.ports p listed (record { mine = less.ports p its.mine; known = its.known; core = its.core }) in
              record { port = k.port; there = k.there; declared = k.declared };
        };
      }

  -- a thread that was got was in use, so its life goes on
  was_in_use : (n : ℕ) (o : Option Thread) → IsWaitingTied n o → in_use o ≡ true
  was_in_use n None h = absurd h
  was_in_use n (Some thread) h = ap (λ m. not (is_unused m)) h.waits

  kid_life : (u : ℕ) → u ≢ t → IsAmong b.hand.threads u → (watched'.lives c u).steps ≡ 0
  kid_life u ne m =
      let m' : Machine = watched'.machine in
      let mine = stepped w.machine m' c (w.lives c t) in
      let new = child_of (w.lives c t) (tie_of (thread_of m' c u)) in
      let got_is : who c u ≡ got_by t = st.roles.held c t u r (Some b.hand) runs_h m in
      let waits = used.got u t b.sync r (Some b.hand) got_is runs_h b.sync_is in
      let before : in_use (thread_of w.machine c u) ≡ true = ap (λ o. in_use (and_then o (λ (i : CoreState). slice_get i.threads u))) at_c ∙ was_in_use b.sync (slice_get a.threads u) waits in
      let not_got : is_got w.machine m' c u ≡ false = ap (λ k. not k && in_use (thread_of m' c u)) before in
      let life : watched'.lives c u ≡ w.lives c u =
      ap (λ e. life_by (e && nat_eq u t) (e && is_got w.machine m' c u) mine new (w.lives c u)) (eq-eqb c c refl)
      ∙ ap (λ e. life_by e (is_got w.machine m' c u) mine new (w.lives c u)) (ne_eqb u t ne)
      ∙ ap (λ e. life_by false e mine new (w.lives c u)) not_got in
      let stood : ThreadRel g false a x.state (w.lives c u) x.actions (got_by t) = subst (ThreadRel g false a x.state (w.lives c u) x.actions) got_is (st.threads c u a at_c) in
      ap (λ (l : Life). l.steps) life ∙ stood

  at_least : (most more : ℕ) → most ≤ most * (more + 1)
  at_least most more =
      let one : 1 ≤ more + 1 = omega arith in
      let grown = mul-le-mul_left most one in
      omega (arith, grown)

  kid_stand : (u i : ℕ) (e : index_among b.hand.threads u ≡ Some i) → ThreadRel g true left world (watched'.lives c u) (told_by g.program g.stimulus x piece world).actions (used_by (kid i u) None)
  kid_stand u i e =
      let within = index_within b.hand.threads u i e in
      let k = off_with u i e in
      let made = made_there g.program g.stimulus r.branch x.state b.branch all b.rest r.sides maker_sides i k.0 k.2 in
      let branch : Branch = made.0 in
      let new : IsNew b.branch (from + i) i (length (all_begun all)) k.0 branch = made.2 in
      let on_core : branch.core ≡ r.core = new.core ∙ maker_core in
      let rest = kid_rest u i k.0 within.0 k.2 k.1 branch made.1 new.mode on_core new.items in
      subst (λ o. SomeIs o (RunsBranch g (kid i u) true None left world (watched'.lives c u) (told_by g.program g.stimulus x piece world).actions)) (sym made.1) (record {
        core = on_core;
        family = new.family ∙ family_is i within.1;
        footprint = ap (λ o. footprint_of (items_at o)) k.2 ∙ ap footprint_of (sym new.items);
        parents = tt;
        thread = record {
          thread = running (Some b.sync) k.1.pc k.1.regs;
          there = k.1.here;
          tied = refl;
          events = events_on branch.mode
              branch.items false new.mode (sym
              (ap is_watching new.items ∙ code_unwatched (plan g r) (code g r) k.0.sides (EndAt (plan g r) (code g r) (Some b.sync) [])
              (todo k.0.code (ends ∷ [])) [] k.1.pc 0 k.1.at_code));
          is = subst (λ m. ThreadIs [] m Running) (sym new.mode) refl;
        };
        in_hand = empty refl;
        sides = new.sides ∙ ap sides_at (sym k.2);
        inside = new.inside ∙ maker_inside;
        done = λ over. refl;
        stops = λ over. tt;
        ends_tied = λ over. let both : runs ≡ ended = sym new.mode ∙ over in absurd (let z : ⊥ = cc in z);
        left = cost g (kid i u);
        bound =
            let life = kid_life u (held_not_own u within.0) within.0 in
            let grown = at_least (kernel_bound g.program) ((told_by g.program g.stimulus x piece world).actions (from + i)) in
            subst (λ s. s + (cost g (kid i u) + 3) ≤ kernel_bound g.program * ((told_by g.program g.stimulus x piece world).actions (from + i) + 1)) (sym life) (omega (arith, grown));
        by = subst (λ m. ProgressBy g (kid i u) true branch.items m (cost g (kid i u)) (record { core = left; world = world; hand = None })) (sym new.mode)
            (inr (inr (0, omega arith, refl, subst (λ its. Rest g (kid i u) its 0 (record { core = left; world = world; hand = None })) (sym new.items) rest)));
      })
    where
      family_is : (i : ℕ) → 1 ≤ i → family_of b.branch.family (from + i) i ≡ from + i
      family_is zero some = absurd (omega (arith, some))
      family_is (suc i) some = refl

  -- who may be at rest behind that
  abbrev pub rests : (d u : ℕ) → Bool
  rests d u = nat_eq d c && moved u

  pub rests_here : (u : ℕ) → moved u ≡ true → rests c u ≡ true
  rests_here u m = ap (λ k. k && moved u) (eq-eqb c c refl) ∙ m

  -- the step counts for the family
  counts_one : b.branch.family ≡ r.family → 1 ≤ steps_of g.program g.stimulus r.family (Some x.state) piece
  counts_one family =
      let one : counted_for b.branch.family (option_map family_of_branch (slice_get x.state.branches r.branch)) ≡ 1 =
      ap (λ o. counted_for b.branch.family (option_map family_of_branch o)) b.does_par.known ∙ ap one_if (eq-eqb b.branch.family b.branch.family refl) in
      let its : 1 ≤ steps_of g.program g.stimulus b.branch.family (Some x.state) piece = omega (arith, one) in
      subst (λ f. 1 ≤ steps_of g.program g.stimulus f (Some x.state) piece) family its

  module _ (stand : RunsBranch g r false hand a x.state (w.lives c t) x.actions b.branch) (none : r.transfer ≡ None) (few : j ≤ stand.left) where
    several : 1 ≤ length b.hand.threads
    several = let many = as_many in let some = b.several in omega (arith, many, some)

    -- those that wait are as they were
    waiting_still : ParentsWait g world r.core r.family r.parents r.branch
    waiting_still =
        parents_still g own x.state world r.core r.family r.parents r.branch
        (λ k m.
        let there = parent_there g x.state r.core r.family r.branch r.parents k stand.parents m in
        let ne : k ≢ r.branch = λ e. let lt = parents_below g x.state (length g.program.roots) r.core r.family st.lawful.forest r.parents r.branch stand.parents k m in let z : ⊥ = omega (arith, lt, e) in z in
        other_there k there.0 ne there.1 ∙ sym there.1)
        stand.parents

    own_stand : ThreadRel g true left world (watched'.lives c t) (told_by g.program g.stimulus x piece world).actions (used_by own None)
    own_stand =
        let made = made_there g.program g.stimulus r.branch x.state b.branch all b.rest r.sides maker_sides 0 first_placed first_there in
        let branch : Branch = made.0 in
        let new : IsNew b.branch (from + 0) 0 (length (all_begun all)) first_placed branch = made.2 in
        let at : from + 0 ≡ from = omega arith in
        let there : slice_get world.branches from ≡ Some branch = ap (slice_get world.branches) (sym at) ∙ made.1 in
        let on_core : branch.core ≡ r.core = new.core ∙ maker_core in
        let counted = begun_length all in
        let many = as_many in
        let count : length (all_begun all) ≡ suc (length b.hand.threads) = omega (arith, counted, many) in
        let rest = own_rest branch there new.mode on_core new.items in
        subst (λ o. SomeIs o (RunsBranch g own true None left world (watched'.lives c t) (told_by g.program g.stimulus x piece world).actions)) (sym there) (record {
          core = on_core;
          family = new.family ∙ stand.family;
          footprint = ap footprint_of (sym new.items);
          parents = (
            record {
              branch = maker;
              known = maker_there';
              mode = ap (waits from) count;
              items = refl;
              on_core = maker_core;
              of_family = stand.family;
              first_is = refl;
              one = λ none. let both : Some b.sync ≡ None = none in absurd (let z : ⊥ = cc in z);
              several = λ k e. let some = several in omega (arith, some);
              fits = (fits_everywhere g r (does (kernel.par all) ∷ b.rest) outermost_block b.fits).1;
              sides = maker_sides;
              inside = maker_inside;
            },
            waiting_still,
          );
          thread = record {
            thread = th';
            there = own_left;
            tied = refl;
            events = events_on branch.mode branch.items false new.mode
                (sym (ap is_watching new.items ∙ first_unwatched));
            is = subst (λ m. ThreadIs own.parents m Running)
                (sym new.mode) refl;
          };
          in_hand = empty refl;
          sides = new.sides;
          inside = new.inside ∙ maker_inside;
          done = λ over. refl;
          stops = λ over. tt;
          ends_tied = λ over. let both : runs ≡ ended = sym new.mode ∙ over in absurd (let z : ⊥ = cc in z);
          left = b.jumps + cost g own;
          bound =
              let life : (watched'.lives c t).steps ≡ (w.lives c t).steps + 1 = ap (λ (l : Life). l.steps) (own_life w watched'.machine c t) in
              let fewer = b.fewer in
              subst (λ s. s + (b.jumps + cost g own + 3) ≤ kernel_bound g.program * ((told_by g.program g.stimulus x piece world).actions r.family + 1)) (sym life)
              (bound_grows (kernel_bound g.program) (greatest_count g.program) (w.lives c t).steps stand.left j (b.jumps + cost g own) (x.actions r.family) (steps_of g.program g.stimulus r.family (Some x.state) piece) refl (let old = stand.bound in omega (arith, old)) few (omega (arith, fewer)) (counts_one stand.family));
          by = subst (λ m. ProgressBy g own true branch.items m (b.jumps + cost g own) (record { core = left; world = world; hand = None })) (sym new.mode)
              (inr (inr (b.jumps, omega arith, refl, subst (λ its. Rest g own its b.jumps (record { core = left; world = world; hand = None })) (sym new.items) rest)));
        })

    stand_by : (u : ℕ) → moved u ≡ true → PlaceAt c u → ThreadRel g (rests c u) left world (watched'.lives c u) (told_by g.program g.stimulus x piece world).actions (who' c u)
    stand_by u m (roles_after.at_own e f now) =
        let more = (told_by g.program g.stimulus x piece world).actions in
        subst (λ k. ThreadRel g k left world (watched'.lives c u) more (who' c u)) (sym (rests_here u m))
        (subst (ThreadRel g true left world (watched'.lives c u) more) (sym now)
        (subst (λ k. ThreadRel g true left world (watched'.lives c k) more (used_by own None)) (sym f) own_stand))
    stand_by u m (roles_after.at_kid i e among now old) =
        let more = (told_by g.program g.stimulus x piece world).actions in
        subst (λ k. ThreadRel g k left world (watched'.lives c u) more (who' c u)) (sym (rests_here u m))
        (subst (ThreadRel g true left world (watched'.lives c u) more) (sym now) (kid_stand u i among))
    stand_by u m (roles_after.elsewhere same not_own no_kid) =
        let k = moved_kid u (λ e. not_own (refl, e)) m in
        absurd (no_kid refl (index_within b.hand.threads u k.0 k.1).0)

    role_still : (u : ℕ) → moved u ≡ false → PlaceAt c u → who' c u ≡ who c u
    role_still u m (roles_after.at_own e f now) = absurd (not_moved_own u m f)
    role_still u m (roles_after.at_kid i e among now old) = absurd (not_moved_kid u m (index_within b.hand.threads u i among).0)
    role_still u m (roles_after.elsewhere same not_own no_kid) = same

    far_by : (d u : ℕ) → d ≢ c → PlaceAt d u → who' d u ≡ who d u
    far_by d u ne (roles_after.at_own e f now) = absurd (ne e)
    far_by d u ne (roles_after.at_kid i e among now old) = absurd (ne e)
    far_by d u ne (roles_after.elsewhere same not_own no_kid) = same

    -- each thread is in the transfer in which it was
    transfers_still : TransfersAsBefore who who'
    transfers_still = roles_after.opens_transfers g who c t st.roles r b.hand runs_h b.sync b.sync_is from first_items b.rest items_of sides_of none

    -- the runner and the new ones are in none
    none_inside : (u : ℕ) (q : Runner) (other : Option Acquired) (transfer : Transfer) → moved u ≡ true → who' c u ≡ used_by q other → q.transfer ≡ Some transfer → PlaceAt c u → ⊥
    none_inside u q other transfer m at its (roles_after.at_own e f now) =
        let in_none : None ≡ Some transfer = ap (λ (i : Runner). i.transfer) (same_runner own q None other (sym now ∙ at)) ∙ its in let z : ⊥ = cc in z
    none_inside u q other transfer m at its (roles_after.at_kid i e among now old) =
        let in_none : None ≡ Some transfer = ap (λ (k : Runner). k.transfer) (same_runner (kid i u) q None other (sym now ∙ at)) ∙ its in let z : ⊥ = cc in z
    none_inside u q other transfer m at its (roles_after.elsewhere same not_own no_kid) =
        let k = moved_kid u (λ e. not_own (refl, e)) m in
        no_kid refl (index_within b.hand.threads u k.0 k.1).0

    -- the program makes the branches, and all stand so again
    pub begins_followed : Follows g rests who w x watched'
    begins_followed = record {
      who = who';
      piece = piece;
      world = world;
      acted = all_acted;
      standing = answered thread_at moved own_moved left world effect rests who' watched' piece
          (has_stepped thread_at moved own_moved left world effect None refl)
          (record {
            acted = all_acted;
            clocks = clocks_still thread_at moved own_moved left world effect None;
            trace = st.trace;
            roles = roles';
            reserves = reserves';
            used = used';
            same_role = λ u m. role_still u m (place_at c u);
            far_role = λ d u ne. far_by d u ne (place_at d u);
            rests = λ u m none. let both : false ≡ true = none in absurd (let z : ⊥ = cc in z);
            far_rests = λ d u ne none. let both : false ≡ true = none in absurd (let z : ⊥ = cc in z);
            steps = λ u m. steps_still thread_at moved own_moved left world effect None u m;
            far_steps = λ d u ne. far_steps_still thread_at moved own_moved left world effect None d u ne;
            stand = λ u m. stand_by u m (place_at c u);
            wired = wired_still g who who' w.machine watched'.machine c a left x.state world transfers_still at_c refl refl refl refl st.wired;
            alone = λ u q other transfer m at its. absurd (none_inside u q other transfer m at its (place_at c u));
            loose = loose';
            roots = st.roots c a at_c ∙ sym (living_still c);
            far_roots = λ d ne. living_still d;
            placed = λ k branch there. placed_by k branch (which k branch there);
            run = λ k branch there on. run_by k branch on (which k branch there);
            made = λ k branch there on. made_by k branch on (which k branch there);
          });
      named = λ names.
          let counted = begun_length all in
          let many = as_many in
          let begun : length (all_begun all) ≡ 1 + length b.hand.threads = omega (arith, counted, many) in
          opens_linked g none_rests who w x st names watched'.machine c t a left at_c (get_set_same w.machine.cores c a left at_c) r b.hand runs_h b.sync b.sync_is first_items b.rest items_of sides_of b.branch all b.rest piece th'
          b.does_par.known begun several refl (ap (λ k. slice_set started k th') thread_is) b.tied;
    }
