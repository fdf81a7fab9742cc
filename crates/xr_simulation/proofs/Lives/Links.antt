-- The names behind each event, with the roles that the event leaves.
use Rattle.std.proofs.Common.{◌≡◌, ℕ, suc, ◌+◌, ◌<◌, ◌≤◌, ◌≢◌, inl, inr, Bool, true, false, List, [], ◌∷◌, ◌++◌, length, Option, Some, None, refl, sym, ap, ◌∙◌, subst, ⊎_elim, arith}
use Rattle.std.proofs.lemmas.Option.{same_Some}
use Rattle.std.specs.Prelude.{slice_get, slice_set}
use Rattle.xs_instr.specs.declared.state.CoreState.{CoreState}
use Rattle.xs_instr.specs.declared.state.Thread.{Thread}
use Rattle.xs_instr.specs.Machine.{Machine}
use Rattle.xs_instr.specs.Pool.{all_joined, all_started, first_free, is_tied, threads_taken, tied_to}
use Rattle.xc_disjoint.specs.Needs.{threads_on}
use Rattle.xc_kernel.specs.Plain as kernel
use Rattle.xc_meaning.specs.Counts.Families.{steps_of}
use Rattle.xc_meaning.specs.Runs.{step_of}
use Rattle.xc_meaning.specs.Settings.Par.{all_begun}
use Rattle.xc_meaning.specs.States.Branches.{Branch}
use Rattle.xc_meaning.specs.States.Items.{Item}
use Rattle.xc_meaning.specs.States.Worlds.{World, Action}
use Rattle.xl_par.specs.Acquired.{Acquired, IsAmong, with_sync, with_thread_got}
use Rattle.xl_ends.specs.Ends.{Sides}
use Rattle.xr_match.specs.Lives.{Watched, life_after}
use Rattle.xr_match.specs.Meanings.{of_kernel}
use Rattle.xr_match.specs.Sources.{Counted}
use Rattle.xr_simulation.specs.Living.{AreNamed}
use Rattle.xr_simulation.specs.Parents.{Parent}
use Rattle.xr_simulation.specs.Roles.{IsOnce, Role, Roles, got_by, unused, used_by}
use Rattle.xr_simulation.specs.Runners.{Setting, Runner}
use Rattle.xr_simulation.specs.ThreadViews.{SameUse, ThreadView, giving_back}
use Rattle.xr_simulation.specs.MatchStates.{MatchStates}
use Rattle.xr_simulation.proofs.Lives.Quiet.{HandStays}
use Rattle.xr_simulation.proofs.Lives.ParBegins.{AreBegun}
use Rattle.xr_simulation.proofs.Lives.Bound.{stand_of}
use Rattle.xr_simulation.proofs.Lives.OwnEvents.{IsSameRole, role_same, settled_named}
use Rattle.xr_simulation.proofs.Lives.Families.{AreBornOf, Grown, children_born, grown_same}
use Rattle.xr_simulation.proofs.Lives.Own.{freed_named, gives_back_stays, goes_named, joined_named, joins_stays, resumed_named, started_named}
use Rattle.xr_simulation.proofs.Lives.Pieces.{Goes, goes_into, goes_on, grown_more, grown_one, grown_two}
use Rattle.xr_simulation.proofs.Lives.Silent.{gets_sync_named, gets_thread_named, keeps_named}
use Rattle.xr_simulation.proofs.Par.Indices.{index_among, index_further, index_here, index_within}
use Rattle.xr_simulation.proofs.Par.OpenRoles.{at_kid, at_own, elsewhere, kid, kid_there, opens, own as opens_own, own_there, place}
use Rattle.xr_simulation.proofs.Par.JoinRoles as joins_of
use Rattle.xr_simulation.proofs.Par.JoinRoles.{joins}
use Rattle.xr_simulation.proofs.Par.Worlds.{new_branches, opened, waiting}
use Rattle.xr_simulation.proofs.Relation.SeatChanges as seating
use Rattle.xr_simulation.proofs.Relation.Seats.{role_cases, role_here, with_role}
use Rattle.xr_simulation.proofs.Relation.Lasting.{told_by}

-- no family has done less
pub told_not_less : (g : Setting) (x : Counted (of_kernel g.program)) (piece : List Action) (y : World) (f : ℕ) → x.actions f ≤ (told_by g.program g.stimulus x piece y).actions f
told_not_less g x piece y f = omega arith

-- a piece that changes no branch, or one, of which the birth is the same
pub told_same : (g : Setting) (x : Counted (of_kernel g.program)) (piece : List Action) (y : World) → y.branches ≡ x.state.branches → Goes g x (told_by g.program g.stimulus x piece y)
told_same g x piece y same = goes_on g x (told_by g.program g.stimulus x piece y) (told_not_less g x piece y) (subst (λ l. Grown x.state.branches l []) (sym same) (grown_same x.state.branches))

pub told_one : (g : Setting) (x : Counted (of_kernel g.program)) (piece : List Action) (y : World) (n : ℕ) (old new : Branch) → slice_get x.state.branches n ≡ Some old → new.birth ≡ old.birth → y.branches ≡ slice_set x.state.branches n new → Goes g x (told_by g.program g.stimulus x piece y)
told_one g x piece y n old new known birth set = goes_on g x (told_by g.program g.stimulus x piece y) (told_not_less g x piece y) (grown_one x.state.branches y.branches n old new known birth set)

-- two branches change
pub told_two : (g : Setting) (x : Counted (of_kernel g.program)) (piece : List Action) (y : World) (n m : ℕ) (old new old' new' : Branch) → slice_get x.state.branches n ≡ Some old → new.birth ≡ old.birth → slice_get x.state.branches m ≡ Some old' → new'.birth ≡ old'.birth → m ≢ n →
    y.branches ≡ slice_set (slice_set x.state.branches n new) m new' → Goes g x (told_by g.program g.stimulus x piece y)
told_two g x piece y n m old new old' new' known birth known' birth' ne set =
    goes_on g x (told_by g.program g.stimulus x piece y) (told_not_less g x piece y) (grown_two x.state.branches y.branches n m old new old' new' known birth known' birth' ne set)

-- a `par` of one branch
pub told_under : (g : Setting) (x : Counted (of_kernel g.program)) (piece : List Action) (y : World) (n family : ℕ) (old new child : Branch) → slice_get x.state.branches n ≡ Some old → new.birth ≡ old.birth → child.birth ≡ Some (record { family = family; index = 0; among = 1 }) → family < length x.state.branches →
    y.branches ≡ slice_set x.state.branches n new ++ child ∷ [] → Goes g x (told_by g.program g.stimulus x piece y)
told_under g x piece y n family old new child known birth born there set =
    goes_into g x (told_by g.program g.stimulus x piece y) family (child ∷ []) (told_not_less g x piece y) (grown_more x.state.branches y.branches (child ∷ []) n old new known birth set) (born, refl) there

-- the other roles are what they were
pub with_role_others : (who : Roles) (c t : ℕ) (role : Role) (d u : ℕ) → ((d ≡ c) × (u ≡ t) → ⊥) → with_role who c t role d u ≡ who d u
with_role_others who c t role d u ne = ⊎_elim (λ here. absurd (ne (here.0, here.1))) (λ there. there.1) (role_cases who c t role d u)

-- the threads that were got run branches, by their index
pub begun_of_index : (who : Roles) (c from : ℕ) (us : List ℕ) → IsOnce us → ((u i : ℕ) → index_among us u ≡ Some i → (s : Runner) × (who c u ≡ used_by s None) × (s.family ≡ from + i)) → AreBegun who c from us
begun_of_index who c from [] once by = tt
begun_of_index who c from (v ∷ vs) once by =
    let here = by v (suc (length vs)) (index_here v v vs refl) in
    let family = here.2 in (
      (here.0, here.1, omega (arith, family)),
      begun_of_index who c from vs once.1
          (λ u i e. let within = (index_within vs u i e).0 in by u i (index_further v u vs (λ same. once.0 (subst (IsAmong vs) same within)) ∙ e)),
    )

module _ (g : Setting) (may_rest : (core thread : ℕ) → Bool) (who : Roles) (w : Watched) (x : Counted (of_kernel g.program)) (st : MatchStates g may_rest who w x) (named : AreNamed g who w x) where
  -- A piece of the program's run alone, by which one runner goes on.
  pub settles_linked : (c t : ℕ) (r s : Runner) (hand hand' : Option Acquired) → who c t ≡ used_by r hand → s.family ≡ r.family → HandStays hand hand' → (x' : Counted (of_kernel g.program)) → Goes g x x' → AreNamed g (with_role who c t (used_by s hand')) w x'
  settles_linked c t r s hand hand' runs_r family stays x' goes =
      settled_named g who (with_role who c t (used_by s hand')) w w x x' st.roles named goes.longer (λ d u. refl) goes.pars
      (λ d u.
      ⊎_elim
      (λ here.
      subst (IsSameRole (who d u)) (sym here.2) (subst (λ role. IsSameRole role (used_by s hand')) (sym (ap (λ k. who k u) here.0 ∙ ap (who c) here.1 ∙ runs_r)) (family, stays)))
      (λ there. subst (IsSameRole (who d u)) (sym there.1) (role_same (who d u)))
      (role_cases who c t (used_by s hand') d u))

  -- A tick or a move, or another machine with the same lives: the roles are the same.
  pub alike_linked : (w' : Watched) (x' : Counted (of_kernel g.program)) → Goes g x x' → ((c t : ℕ) → w'.lives c t ≡ w.lives c t) → AreNamed g who w' x'
  alike_linked w' x' goes lives = settled_named g who who w w' x x' st.roles named goes.longer lives goes.pars (λ d u. role_same (who d u))

  module _ (m' : Machine) (c t : ℕ) (a b : CoreState) (at_a : slice_get w.machine.cores c ≡ Some a) (at_b : slice_get m'.cores c ≡ Some b) (r : Runner) where
    abbrev w' : Watched
    w' = record { machine = m'; lives = life_after w m' c t }

    -- The thread's own instruction, a trap, or a tied thread that waits.
    pub own_linked : (s : Runner) → who c t ≡ used_by r None → s.family ≡ r.family → (x' : Counted (of_kernel g.program)) → Goes g x x' → b.syncs ≡ a.syncs → ((u : ℕ) → u ≢ t → slice_get b.threads u ≡ slice_get a.threads u) → AreNamed g (with_role who c t (used_by s None)) w' x'
    own_linked s runs_r family x' goes syncs threads =
        let role = used_by s None in
        goes_named g may_rest who (with_role who c t role) w m' x x' st named c t a b at_a at_b r None runs_r goes syncs threads s None (role_here who c t role) family (inl refl) (with_role_others who c t role)

    -- The end of a root.
    pub leaves_linked : who c t ≡ used_by r None → (piece : List Action) → (y : World) (new old : Branch) →
        1 ≤ steps_of g.program g.stimulus old.family (Some x.state) piece →
        slice_get x.state.branches r.branch ≡ Some old → new.birth ≡ old.birth → y.branches ≡ slice_set x.state.branches r.branch new →
        b.syncs ≡ a.syncs →
        ((u : ℕ) → u ≢ t → slice_get b.threads u ≡ slice_get a.threads u) →
        AreNamed g (with_role who c t unused) w' (told_by g.program g.stimulus x piece y)
    leaves_linked runs_r piece y new old paid known birth set syncs threads =
        let stand = stand_of g may_rest who w x st c a at_a t r None runs_r in
        let family : old.family ≡ r.family = ap (λ (b : Branch). b.family) (same_Some old stand.0 (sym known ∙ stand.1)) ∙ stand.2.family in
        let one' = subst (λ f. 1 ≤ steps_of g.program g.stimulus f (Some x.state) piece) family paid in
        let x' = told_by g.program g.stimulus x piece y in
        freed_named g may_rest who (with_role who c t unused) w m' x x' st named c t a b at_a at_b r None runs_r
        (told_one g x piece y r.branch old new known birth set) syncs threads (role_here who c t unused) (omega (arith, one'))
        (with_role_others who c t unused)

    -- A synchroniser is given back.
    pub resumes_linked : (s : Runner) (n : ℕ) → who c t ≡ used_by r (giving_back n) → s.family ≡ r.family → (x' : Counted (of_kernel g.program)) → Goes g x x' → slice_get a.syncs n ≡ Some true → b.syncs ≡ slice_set a.syncs n false → ((u : ℕ) → u ≢ t → slice_get b.threads u ≡ slice_get a.threads u) →
        AreNamed g (with_role who c t (used_by s None)) w' x'
    resumes_linked s n runs_r family x' goes taken syncs threads =
        let role = used_by s None in
        resumed_named g may_rest who (with_role who c t role) w m' x x' st named c t a b at_a at_b r (giving_back n) runs_r n goes taken syncs threads s None (role_here who c t role) family (gives_back_stays n) (with_role_others who c t role)

    -- The branches of a `par` are joined.
    pub joins_linked : (runs_r : who c t ≡ used_by r None) (p : Parent) (ps : List Parent) (chain : r.parents ≡ p ∷ ps) (n : ℕ) (sync : p.sync ≡ Some n) (own_thread : Thread) → (x' : Counted (of_kernel g.program)) → Goes g x x' → b.syncs ≡ a.syncs → b.threads ≡ slice_set (all_joined a.threads n) t own_thread →
        AreNamed g (joins g who c t st.roles r runs_r p ps chain n sync) w' x'
    joins_linked runs_r p ps chain n sync own_thread x' goes syncs threads =
        let who' = joins g who c t st.roles r runs_r p ps chain n sync in
        joined_named g may_rest who who' w m' x x' st named c t a b at_a at_b r None runs_r n own_thread goes syncs threads
        (joins_of.own g who c t st.roles r runs_r p ps chain n sync) (giving_back n) (joins_of.own_there g who c t st.roles r runs_r p ps chain n sync) refl (joins_stays n)
        (λ d u ne.
        elim (joins_of.place g who c t st.roles r runs_r p ps chain n sync d u) [
          | joins_of.at_own e f now ↦ absurd (ne (e, f))
          | joins_of.freed e f now tied ↦ inr (e, now, (tied.0, tied.1, tied.2))
          | joins_of.elsewhere same apart not_tied ↦ inl same
        ])

    -- The branches of a `par` are set off.
    pub opens_linked : (h : Acquired) (runs_r : who c t ≡ used_by r (Some h)) (n : ℕ) (sync_is : h.sync ≡ Some n) (first rest : List Item) (items_of : (index : ℕ) → List Item) (sides_of : (index : ℕ) → Sides) (branch : Branch) (bs : kernel.Branches) (left : List Item) (piece : List Action) (own_thread : Thread) →
        slice_get x.state.branches r.branch ≡ Some branch → length (all_begun bs) ≡ 1 + length h.threads → 1 ≤ length h.threads → b.syncs ≡ a.syncs → b.threads ≡ slice_set (all_started a.threads n) t own_thread →
        ((u : ℕ) (i : Thread) → slice_get a.threads u ≡ Some i → is_tied i n ≡ true → IsAmong h.threads u) →
        AreNamed g (opens g who c t st.roles r h runs_r n sync_is (length x.state.branches) first rest items_of sides_of) w' (told_by g.program g.stimulus x piece (opened g.program g.stimulus r.branch x.state branch bs left))
    opens_linked h runs_r n sync_is first rest items_of sides_of branch bs left piece own_thread known many some syncs threads tied =
        let from = length x.state.branches in
        let who' = opens g who c t st.roles r h runs_r n sync_is from first rest items_of sides_of in
        let y = opened g.program g.stimulus r.branch x.state branch bs left in
        let more = new_branches g.program g.stimulus r.branch x.state branch bs left in
        let count = length (all_begun bs) in
        let stand = stand_of g may_rest who w x st c a at_a t r (Some h) runs_r in
        let same_branch : branch ≡ stand.0 = let both : Some branch ≡ Some stand.0 = sym known ∙ stand.1 in cc in
        let family : branch.family ≡ r.family = ap (λ (i : Branch). i.family) same_branch ∙ stand.2.family in
        let born : AreBornOf r.family count 0 more = subst (λ f. AreBornOf f count 0 more) family (children_born (step_of g.program g.stimulus x.state r.branch branch left) count 0 [] (all_begun bs) (omega arith)) in
        started_named g may_rest who who' w m' x (told_by g.program g.stimulus x piece y) st named c t a b at_a at_b r h runs_r n sync_is own_thread syncs threads tied (told_not_less g x piece y) more count
        (grown_more x.state.branches y.branches more r.branch branch (waiting g.program g.stimulus r.branch x.state branch bs left) known refl refl) born (omega (arith, many, some)) (omega (arith, many))
        (opens_own g who c t st.roles r h runs_r n sync_is from first rest items_of sides_of) (own_there g who c t st.roles r h runs_r n sync_is from first rest items_of sides_of) refl
        (begun_of_index who' c from h.threads (st.roles.held_once c t r (Some h) runs_r)
        (λ u i e. (kid g who c t st.roles r h runs_r n sync_is from first rest items_of sides_of i u, kid_there g who c t st.roles r h runs_r n sync_is from first rest items_of sides_of u i e, refl)))
        (λ d u ne apart.
        elim (place g who c t st.roles r h runs_r n sync_is from first rest items_of sides_of d u) [
          | at_own e f now ↦ absurd (ne (e, f))
          | at_kid i e among now old ↦ absurd (apart e (index_within h.threads u i among).0)
          | elsewhere same not_own no_kid ↦ same
        ])

  -- A silent step.
  module _ (m' : Machine) (c t : ℕ) (y z : ThreadView) (at_a : slice_get w.machine.cores c ≡ Some y.core)
      (at_b : slice_get m'.cores c ≡ Some z.core) (r : Runner) (x' : Counted (of_kernel g.program)) (goes : Goes g x x') where
    abbrev w'' : Watched
    w'' = record { machine = m'; lives = life_after w m' c t }

    pub keeps_linked : (hand : Option Acquired) → who c t ≡ used_by r hand → z.core.syncs ≡ y.core.syncs → length z.core.threads ≡ length y.core.threads → SameUse g r y z → AreNamed g who w'' x'
    keeps_linked hand runs_r syncs as_many same =
        keeps_named g may_rest who who w m' x x' st named goes c t y z at_a at_b r hand hand runs_r refl syncs as_many same runs_r (λ d u ne. refl)

    pub gets_sync_linked : (h : Acquired) (n : ℕ) → who c t ≡ used_by r (Some h) → h.sync ≡ None → slice_get y.core.syncs n ≡ Some false → z.core.syncs ≡ slice_set y.core.syncs n true → length z.core.threads ≡ length y.core.threads → SameUse g r y z →
        AreNamed g (with_role who c t (used_by r (Some (with_sync h n)))) w'' x'
    gets_sync_linked h n runs_r none free syncs as_many same =
        let role = used_by r (Some (with_sync h n)) in
        gets_sync_named g may_rest who (with_role who c t role) w m' x x' st named goes c t y z at_a at_b r h n runs_r none free syncs as_many same (role_here who c t role) (with_role_others who c t role)

    pub gets_thread_linked : (h : Acquired) (n u : ℕ) (i : Thread) (runs_r : who c t ≡ used_by r (Some h)) (free : who c u ≡ unused) (few : u < 8) (inside : u < threads_on g.program c) → h.sync ≡ Some n → 1 ≤ h.lacks → first_free (threads_taken y.core.threads) 0 ≡ Some u → slice_get y.core.threads u ≡ Some i →
        z.core.syncs ≡ y.core.syncs → slice_get z.core.threads u ≡ Some (tied_to n i) → ((v : ℕ) → v ≢ r.thread → v ≢ u → slice_get z.core.threads v ≡ slice_get y.core.threads v) →
        AreNamed g (seating.gets g who c t u st.roles r h runs_r free few inside) w'' x'
    gets_thread_linked h n u i runs_r free few inside is lacks first there syncs tied others =
        let who' = seating.gets g who c t u st.roles r h runs_r free few inside in
        gets_thread_named g may_rest who who' w m' x x' st named goes c t y z at_a at_b r h n u i runs_r is lacks first there syncs tied others
        (seating.own_now g who c t u st.roles r h runs_r free few inside) (role_here (with_role who c t (used_by r (Some (with_thread_got h u)))) c u (got_by t))
        (λ d v ne neu. with_role_others (with_role who c t (used_by r (Some (with_thread_got h u)))) c u (got_by t) d v neu ∙ with_role_others who c t (used_by r (Some (with_thread_got h u))) d v ne)
