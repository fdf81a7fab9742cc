-- A thread at rest does its first item, where that has no instruction, and is at rest still, or where its branch has ended on its way to join
-- others; or it comes on its way to the item's instruction.
use Rattle.std.proofs.Common.{◌≡◌, ℕ, ◌+◌, ◌-◌, ◌*◌, ◌<◌, ◌≤◌, inl, inr, [], ◌∷◌, List, length, Option, Some, None, refl, sym, ap, ◌∙◌, subst, arith}
use Rattle.std.proofs.lemmas.Option.{same_Some, slice_get_within}
use Rattle.std.specs.Prelude.{Bool, true, slice_get, slice_set}
use Rattle.xw_words.specs.declared.pos.Pos.{Pos}
use Rattle.xs_instr.specs.declared.state.Mode.TheVariants.{Running}
use Rattle.xs_instr.specs.Machine.{parts_in}
use Rattle.xc_disjoint.specs.Needs.{threads_on}
use Rattle.xc_kernel.specs.Plain as kernel
use Rattle.xc_invariants.proofs.Always.{laws_kept}
use Rattle.xc_invariants.specs.Lawful.{Lawful}
use Rattle.xc_meaning.specs.Counts.KernelCounts.{kernel_bound}
use Rattle.xc_meaning.specs.Runs.{acts, acts_all}
use Rattle.xc_meaning.specs.States.Branches.{Branch, ended, runs}
use Rattle.xc_meaning.specs.States.Items.{Item, does, ends, mark, todo}
use Rattle.xc_meaning.specs.States.Worlds.{Action, World, go}
use Rattle.xl_expr.proofs.Lists.{get_set_other, get_set_same}
use Rattle.xl_par.specs.Acquired.{Acquired, IsAmong}
use Rattle.xr_match.specs.Lives.{Watched}
use Rattle.xr_match.specs.Meanings.{of_kernel}
use Rattle.xr_match.specs.Sources.{Counted}
use Rattle.xr_simulation.specs.Transfers.{spared}
use Rattle.xr_simulation.specs.Fits.{FitOn}
use Rattle.xr_simulation.specs.Parents.{Parent, sync_before, syncs_of}
use Rattle.xr_simulation.specs.Roles.{AcquiredFits, IsOnce, ParentsWait, Roles, empty, unused, used_by}
use Rattle.xr_simulation.specs.Runners.{Runner, Setting, anyone, footprint_of, outside, shrunk}
use Rattle.xr_simulation.specs.Sizes.{sizes_in}
use Rattle.xr_simulation.specs.ThreadViews.{ThreadView, running}
use Rattle.xr_simulation.specs.Settled.{IsOwn}
use Rattle.xr_simulation.specs.MatchStates.{AreLoose, HasEnded, IsOnItsWay, RunsBranch, MatchStates, ProgressBy, ProgressWith, ThreadIs}
use Rattle.xr_simulation.specs.NextStep.{HoldsStore, IsJoining, PortsStand, Rest, cost, finished, first_hand}
use Rattle.xr_simulation.proofs.Relation.Counts.{ended_counts, made_counts}
use Rattle.xr_simulation.proofs.ItemCode.Evaluations.{item_acts, with_items}
use Rattle.xr_simulation.proofs.RelyGuarantee.Holding.{HaveEnded, holds_behind, ports_behind}
use Rattle.xr_simulation.proofs.ItemCode.Leading.{settled_leads}
use Rattle.xr_simulation.proofs.Relation.Moments.{BranchAt, Moment, ThreadAt}
use Rattle.xr_simulation.proofs.Relation.CoreSteps.{laid_at}
use Rattle.xr_simulation.proofs.Relation.Seats.{role_here, seated_itself, with_role}
use Rattle.xr_simulation.proofs.Settling.Steps.{IsSettled, loose_settled, settled, works_settled}
use Rattle.xr_simulation.proofs.Settling.Worlds.{settled_risen, settled_set, settled_under}
use Rattle.xr_simulation.proofs.Settling.Items.{EndsFirst, GoesUnder, Rises, StaysOn, block_settles, child_of, child_there, first_ends, maker_of, mark_settles, none_settles, one_settles, parents_beside, parents_risen, parents_under, risen, risen_branch, rises, sides_under, under, waiting_one, with_child, with_ended, with_risen}
use Rattle.xr_simulation.proofs.Relation.Sides.{first_sided}
use Rattle.xr_simulation.proofs.RelyGuarantee.Footprints.{branch_fits, fits_everywhere, fits_here}
use Rattle.xr_simulation.proofs.ItemCode.Items.{all_fit as todo_fits}
use Rattle.xr_simulation.specs.Living.{AreNamed}
use Rattle.xr_simulation.proofs.Lives.Own.{family_there}
use Rattle.xr_simulation.proofs.Lives.Links.{settles_linked, told_one, told_same, told_two, told_under}
use Rattle.xr_simulation.proofs.Channels.NoneInside.{NoneInside, Settles, none_with}
use Rattle.xr_simulation.proofs.Relation.Lasting.{Follows, told_by}
use Rattle.xr_simulation.proofs.Settling.Weights.{HasNone, block, block_end, block_lighter, branch_end, end_lighter, items_weight, mark_lighter, none_lighter, one_lighter, par_of_none, par_of_one, thread_weight}
use Rattle.xr_simulation.proofs.OwnSteps.Branch.{Works}
use Rattle.xr_simulation.proofs.Settling.Resting.{bound_more, few_behind, first_held, none_opened, resting}

-- The program has done an item, all stand so again, and the thread has less to do without an instruction.
pub record SettlesOne (g : Setting) (may_rest : (core thread : ℕ) → Bool) (old : Roles) (w : Watched) (x : Counted (of_kernel g.program)) (c t weight : ℕ) : Type 0 where
  pub who : Roles
  pub piece : List Action
  pub world : World
  pub acted : acts_all g.program g.stimulus (Some x.state) piece ≡ Some world
  pub standing : MatchStates g may_rest who w (told_by g.program g.stimulus x piece world)
  pub named : AreNamed g old w x → AreNamed g who w (told_by g.program g.stimulus x piece world)
  pub none_inside : NoneInside old → NoneInside who
  pub runner : Runner
  pub runs_there : who c t ≡ used_by runner None
  pub next : Branch
  pub known : slice_get world.branches runner.branch ≡ Some next
  pub lighter : thread_weight runner.parents next.items < weight

module _ {may_rest : (core thread : ℕ) → Bool} {moment : Moment may_rest} {thread_at : ThreadAt moment None}
    (branch_at : BranchAt thread_at) (running_is : branch_at.branch.mode ≡ runs)
    (none : thread_at.runner.transfer ≡ None) (j : ℕ) (few : j + cost moment.setting thread_at.runner ≤ branch_at.stand.left)
    (items : List Item) (items_are : branch_at.branch.items ≡ items)
    (h : Rest moment.setting thread_at.runner items j (record { core = thread_at.state; world = moment.told.state; hand = None })) where
  open moment use {setting as g, image as is, roles as who, watched as w, told as x, standing as st}
  open thread_at use {core as c, thread as t, state as a, at_core as at_c, runner as r, runs as runs_r}
  open branch_at use {branch, known, stand}

  abbrev z : ThreadView
  z = record { core = a; world = x.state; hand = None }

  footprint : r.footprint ≡ footprint_of items
  footprint = stand.footprint ∙ ap footprint_of items_are

  same_branch : (b : Branch) → slice_get x.state.branches r.branch ≡ Some b → branch ≡ b
  same_branch b at = same_Some branch b (sym known ∙ at)

  outermost_block : r.block ≡ outside
  outermost_block = st.roles.block c t r None runs_r

  all_fit : FitOn g r.core items
  all_fit = fits_everywhere g r items outermost_block h.fits

  bound_behind : (piece : List Action) (y : World) (left : ℕ) → left ≤ stand.left → (w.lives c t).steps + (left + spared r.transfer) ≤ kernel_bound g.program * ((told_by g.program g.stimulus x piece y).actions r.family + 1)
  bound_behind piece y left le =
      bound_more (kernel_bound g.program) (w.lives c t).steps (left + spared r.transfer) (x.actions r.family) ((told_by g.program g.stimulus x piece y).actions r.family)
      (let old = stand.bound in omega (arith, old, le)) (omega arith)

  -- 1. It comes on its way.
  module _ (own : IsOwn r.parents items) (may_rest' : (core thread : ℕ) → Bool) (rests : (i u : ℕ) → ((i ≡ c) × (u ≡ t) → ⊥) → may_rest i u ≡ true → may_rest' i u ≡ true) where
    abbrev hand : Option Acquired
    hand = first_hand items

    nothing_done : IsSettled g r x.state r hand [] x.state
    nothing_done =
        let held = first_held items in
        record {
          acted = refl;
          clocks = refl;
          trace = refl;
          store = refl;
          inboxes = refl;
          transfer = refl;
          seated = seated_itself r;
          held = held.1;
          sync = held.2;
          own = λ b m. inl m;
          branches = λ n b ne at. at;
          living = λ d. refl;
          placed = λ placed n b at. placed n b at;
          run = λ n b at on. inr (b, at, on, λ m. m);
          made = λ made n b at on. made n b at on;
          wants = λ p v m uses. inl m;
        }

    on_its_way : IsOnItsWay g r stand.left (record { core = a; world = x.state; hand = hand })
    on_its_way =
        let lt : r.core < 4 = subst (λ k. k < 4) (sym (st.roles.core c t r None runs_r)) (st.roles.there c t r None runs_r) in
        let sided = first_sided g r x.state st.lawful branch known stand.sides stand.core items items_are h.fits in
        let sized = st.sizes c a at_c ∙ ap (λ d. sizes_in (parts_in g.image.cores d)) (sym (st.roles.core c t r None runs_r)) in
        let leads = settled_leads g r (laid_at moment c t r None runs_r) lt items j z h sized own sided in
        (leads.0, leads.1, (let le = leads.2 in omega (arith, le, few)), leads.3)

    way_stand : RunsBranch g r (may_rest' c t) hand a x.state (w.lives c t) (told_by g.program g.stimulus x [] x.state).actions branch
    way_stand = record {
      core = stand.core;
      family = stand.family;
      footprint = stand.footprint;
      parents = stand.parents;
      thread = stand.thread;
      in_hand = subst (λ l. AcquiredFits l hand) (sym items_are) (first_held items).0;
      sides = stand.sides;
      inside = stand.inside;
      done = stand.done;
      stops = stand.stops;
      ends_tied = stand.ends_tied;
      left = stand.left;
      bound = bound_behind [] x.state stand.left (omega arith);
      by = subst (λ m. ProgressBy g r (may_rest' c t) branch.items m stand.left (record { core = a; world = x.state; hand = hand })) (sym running_is)
          (subst (λ o. ProgressWith g r (may_rest' c t) o branch.items stand.left (record { core = a; world = x.state; hand = hand })) (sym none) (inl on_its_way));
    }

    own_follows : Follows g may_rest' who w x w
    own_follows = record {
      who = with_role who c t (used_by r hand);
      piece = [];
      world = x.state;
      acted = refl;
      standing = settled thread_at r hand [] x.state nothing_done h.has.holds h.has.ports none may_rest' rests branch known way_stand;
      named = λ names. settles_linked g may_rest who w x st names c t r r None hand runs_r refl (inr (refl, none_opened hand (first_held items).2)) (told_by g.program g.stimulus x [] x.state) (told_same g x [] x.state refl);
    }

    pub goes_its_way : Settles g may_rest' who w x w
    unfolding own_follows
    goes_its_way = record { follows = own_follows; none_inside = none_with who c t r hand none }

  module _ (may : may_rest c t ≡ true) where
    abbrev weight : ℕ
    weight = thread_weight r.parents items

    -- 2. It goes on with other items.
    stays_settles : (others : List Item) → StaysOn g r others j z → thread_weight r.parents others < weight → SettlesOne g may_rest who w x c t weight
    stays_settles others q lighter =
        let next : Branch = record q.branch { items = others } in
        let y : World = with_items x.state r.branch q.branch others in
        let piece = go r.branch ∷ [] in
        let same = same_branch q.branch q.known in
        let d = settled_set g r x.state q.branch q.known q.running next refl (λ k. refl) (footprint_of others) q.acted in
        let there = get_set_same x.state.branches r.branch q.branch next q.known in
        record {
          who = with_role who c t (used_by (shrunk r others) None);
          piece = piece;
          world = y;
          acted = d.acted;
          standing = settled thread_at (shrunk r others) None piece y d h.has.holds h.has.ports none may_rest (λ i u ne m. m) next there
              (resting g (shrunk r others) (may_rest c t) a y (w.lives c t) (told_by g.program g.stimulus x piece y).actions next j stand.left may
              (ap (λ (b : Branch). b.core) (sym same) ∙ stand.core) (ap (λ (b : Branch). b.family) (sym same) ∙ stand.family) refl
              (parents_beside g r x.state q.branch q.known q.running next r.parents r.branch stand.parents)
              (ap (λ (b : Branch). b.sides) (sym same) ∙ stand.sides) (ap (λ (b : Branch). b.inside) (sym same) ∙ stand.inside) none
              q.running q.rest few (bound_behind piece y stand.left (omega arith)));
          named = λ names. settles_linked g may_rest who w x st names c t r (shrunk r others) None None runs_r refl (inl refl) (told_by g.program g.stimulus x piece y) (told_one g x piece y r.branch q.branch next q.known refl refl);
          none_inside = none_with who c t (shrunk r others) None none;
          runner = shrunk r others;
          runs_there = role_here who c t (used_by (shrunk r others) None);
          next = next;
          known = there;
          lighter = lighter;
        }

    -- 3. Another branch is made, for which its own one waits.
    under_settles : (ss : kernel.Statements) (pos : Pos) (rest : List Item) → items ≡ does (kernel.par (kernel.more_branches (kernel.branch ss pos) kernel.no_branch)) ∷ rest → FitOn g r.core rest → GoesUnder g r ss rest j z →
        thread_weight (waiting_one r.branch (length x.state.branches) rest r.sides r.inside ∷ r.parents) (todo ss (ends ∷ [])) < weight →
        SettlesOne g may_rest who w x c t weight
    under_settles ss pos rest these rest_fit q lighter =
        let s = under r (length x.state.branches) ss rest in
        let next : Branch = child_of q.branch ss in
        let y : World = with_child x.state r.branch q.branch ss rest in
        let piece = go r.branch ∷ [] in
        let same = same_branch q.branch q.known in
        let core : q.branch.core ≡ r.core = ap (λ (b : Branch). b.core) (sym same) ∙ stand.core in
        let family : q.branch.family ≡ r.family = ap (λ (b : Branch). b.family) (sym same) ∙ stand.family in
        let sides : q.branch.sides ≡ r.sides = ap (λ (b : Branch). b.sides) (sym same) ∙ stand.sides in
        let inside : q.branch.inside ≡ r.inside = ap (λ (b : Branch). b.inside) (sym same) ∙ stand.inside in
        let d = settled_under g r x.state q.branch q.known q.running ss pos rest (footprint ∙ ap footprint_of these) q.acted in
        let there = child_there g r x.state q.branch ss rest in
        let made_below : q.branch.family < length x.state.branches = subst (λ f. f < length x.state.branches) (sym family) (family_there g may_rest who w x st c t a at_c r None runs_r) in
        record {
          who = with_role who c t (used_by s None);
          piece = piece;
          world = y;
          acted = d.acted;
          standing = settled thread_at s None piece y d h.has.holds h.has.ports none may_rest (λ i u ne m. m) next there
              (resting g s (may_rest c t) a y (w.lives c t) (told_by g.program g.stimulus x piece y).actions next j stand.left may core family refl
              (parents_under g r x.state q.branch q.known q.running ss rest core family sides inside rest_fit stand.parents)
              (ap (sides_under ss) sides) inside none refl q.rest_there few (bound_behind piece y stand.left (omega arith)));
          named = λ names. settles_linked g may_rest who w x st names c t r s None None runs_r refl (inl refl) (told_by g.program g.stimulus x piece y) (told_under g x piece y r.branch q.branch.family q.branch (maker_of q.branch (length x.state.branches) rest) next q.known refl refl made_below refl);
          none_inside = none_with who c t s None none;
          runner = s;
          runs_there = role_here who c t (used_by s None);
          next = next;
          known = there;
          lighter = lighter;
        }

    -- The end of a branch for which another waits.
    module _ (rest : List Item) (these : items ≡ ends ∷ rest) (p : Parent) (ps : List Parent) (parents : r.parents ≡ p ∷ ps) where
      at_end : Rest g r (ends ∷ rest) j z
      at_end = subst (λ l. Rest g r l j z) these h

      abbrev own_branch : Branch
      own_branch = at_end.has.branch

      own_known : slice_get x.state.branches r.branch ≡ Some own_branch
      own_known = at_end.has.runs.known

      own_running : own_branch.mode ≡ runs
      own_running = at_end.has.runs.running

      waiting : ParentsWait g x.state r.core r.family (p ∷ ps) r.branch
      waiting = subst (λ l. ParentsWait g x.state r.core r.family l r.branch) parents stand.parents

      -- the branch was made
      own_birth : own_branch.birth ≡ Some (record { family = waiting.0.branch.family; index = r.branch - p.from; among = p.count })
      own_birth =
          let f = waiting.0 in
          let starts = f.first_is in
          let family = st.lawful.forest.family p.branch r.branch f.branch p.from p.count f.known f.mode in
          let some = family.2 in
          (st.lawful.forest.own p.branch r.branch f.branch own_branch p.from p.count f.known f.mode (omega (arith, starts)) (omega (arith, starts, some)) own_known).birth

      abbrev over : Runner
      over = shrunk r []

      abbrev over_world : World
      over_world = with_ended x.state r.branch own_branch

      over_acted : acts g.program g.stimulus x.state (go r.branch) ≡ Some over_world
      over_acted = item_acts g.program g.stimulus r.branch x.state own_branch ends rest at_end.has.runs

      over_there : slice_get over_world.branches r.branch ≡ Some (finished own_branch)
      over_there = get_set_same x.state.branches r.branch own_branch (finished own_branch) own_known

      over_settled : IsSettled g r x.state over None (go r.branch ∷ []) over_world
      over_settled =
          settled_set g r x.state own_branch own_known own_running (finished own_branch) refl
          (λ k. ended_counts k (finished own_branch) refl ∙ sym (made_counts k own_branch (record { family = waiting.0.branch.family; index = r.branch - p.from; among = p.count }) own_birth))
          (footprint_of []) over_acted

      over_core : own_branch.core ≡ r.core
      over_core = ap (λ (b : Branch). b.core) (sym (same_branch own_branch own_known)) ∙ stand.core

      over_family : own_branch.family ≡ r.family
      over_family = ap (λ (b : Branch). b.family) (sym (same_branch own_branch own_known)) ∙ stand.family

      over_sides : own_branch.sides ≡ r.sides
      over_sides = ap (λ (b : Branch). b.sides) (sym (same_branch own_branch own_known)) ∙ stand.sides

      over_inside : own_branch.inside ≡ r.inside
      over_inside = ap (λ (b : Branch). b.inside) (sym (same_branch own_branch own_known)) ∙ stand.inside

      over_parents : ParentsWait g over_world r.core r.family r.parents r.branch
      over_parents = parents_beside g r x.state own_branch own_known own_running (finished own_branch) r.parents r.branch stand.parents

      -- 4. Its thread goes on to where it joins the others.
      module _ (n : ℕ) (sync : p.sync ≡ Some n) where
        its_own : (k : ℕ) → IsAmong (syncs_of r.parents) k → k < 7
        its_own k m =
            let used = st.used c a at_c in
            let lt = slice_get_within a.syncs k true (used.owned t k r None runs_r (inl m)) in
            let seven_are = used.syncs in
            omega (arith, lt, seven_are)

        syncs_are : syncs_of r.parents ≡ n ∷ syncs_of ps
        syncs_are = ap syncs_of parents ∙ ap (λ o. sync_before o (syncs_of ps)) sync

        own_sync : IsAmong (syncs_of r.parents) n
        own_sync = subst (λ l. IsAmong l n) (sym syncs_are) (inl refl)

        outer_few : length (syncs_of ps) ≤ 6
        outer_few = few_behind n (syncs_of ps) (subst IsOnce syncs_are (st.roles.owned_once c t r None runs_r)) (λ m i. its_own m (subst (λ l. IsAmong l m) (sym syncs_are) i))

        ends_first : EndsFirst g r p ps (7 + j) z
        ends_first = first_ends g r p ps n rest j z parents sync (let lt = its_own n own_sync in omega (arith, lt)) outer_few ((st.used c a at_c).owned t n r None runs_r (inl own_sync)) refl at_end

        joins : IsJoining g over p ps (7 + j) (record { core = a; world = over_world; hand = None })
        joins =
            subst (λ b. IsJoining g over p ps (7 + j) (record { core = a; world = with_ended x.state r.branch b; hand = None }))
            (same_Some ends_first.branch own_branch (sym ends_first.known ∙ own_known)) ends_first.joining

        joining_stand : RunsBranch g over (may_rest c t) None a over_world (w.lives c t) (told_by g.program g.stimulus x (go r.branch ∷ []) over_world).actions (finished own_branch)
        joining_stand = record {
          core = over_core;
          family = over_family;
          footprint = refl;
          parents = over_parents;
          thread = record {
            thread = running r.tie at_end.pc at_end.regs;
            there = at_end.here;
            tied = refl;
            events = refl;
            is = subst (λ l. ThreadIs l ended Running) (sym parents) refl;
          };
          in_hand = empty refl;
          sides = over_sides;
          inside = over_inside;
          done = λ e. none;
          stops = λ e. absurd (let z : ⊥ = cc in z);
          ends_tied = λ e alone. let both : p ∷ ps ≡ [] = sym parents ∙ alone in absurd (let z : ⊥ = cc in z);
          left = 7 + j;
          bound = bound_behind (go r.branch ∷ []) over_world (7 + j) (omega (arith, few));
          by = subst (λ l. HasEnded g over l (7 + j) (record { core = a; world = over_world; hand = None })) (sym parents) joins;
        }

        first_settles : SettlesOne g may_rest who w x c t weight
        first_settles = record {
          who = with_role who c t (used_by over None);
          piece = go r.branch ∷ [];
          world = over_world;
          acted = over_settled.acted;
          standing = settled thread_at over None (go r.branch ∷ []) over_world over_settled h.has.holds h.has.ports none may_rest
              (λ i u ne m. m) (finished own_branch) over_there joining_stand;
          named = λ names. settles_linked g may_rest who w x st names c t r over None None runs_r refl (inl refl) (told_by g.program g.stimulus x (go r.branch ∷ []) over_world) (told_one g x (go r.branch ∷ []) over_world r.branch own_branch (finished own_branch) own_known refl refl);
          none_inside = none_with who c t over None none;
          runner = over;
          runs_there = role_here who c t (used_by over None);
          next = finished own_branch;
          known = over_there;
          lighter = let e = ap items_weight these in omega (arith, e);
        }

      -- 5. It was the only one of its `par`, and the branch that waits goes on.
      module _ (alone : p.sync ≡ None) where
        abbrev who_over : Roles
        who_over = with_role who c t (used_by over None)

        abbrev above : Runner
        above = risen r p ps

        over_works : Works g over_world over None
        over_works = record {
          branch = finished own_branch;
          known = over_there;
          goes = λ e. e;
          core = over_core;
          family = over_family;
          footprint = refl;
          parents = over_parents;
          in_hand = empty refl;
          sides = over_sides;
          inside = over_inside;
          done = λ e. none;
          stops = λ e. absurd (let z : ⊥ = cc in z);
        }

        all_over : HaveEnded over_world p.from p.count
        all_over k b least less at =
            let starts = waiting.0.first_is in
            let one = waiting.0.one alone in
            let k_is : k ≡ r.branch = omega (arith, least, less, starts, one) in
            ap (λ (i : Branch). i.mode) (sym (same_Some (finished own_branch) b (sym over_there ∙ ap (slice_get over_world.branches) (sym k_is) ∙ at)))

        some_threads : 1 ≤ threads_on g.program c
        some_threads =
            let lt = st.roles.inside c t (λ e. used_not_unused (sym runs_r ∙ e)) in
            omega (arith, lt)
          where
            used_not_unused : used_by r None ≡ unused → ⊥
            used_not_unused e = cc

        over_works_all : (i u : ℕ) (q : Runner) (other : Option Acquired) → who_over i u ≡ used_by q other → Works g over_world q other
        over_works_all i u q other at = works_settled thread_at over None (go r.branch ∷ []) over_world over_settled over_works
            i u q other at

        over_loose : AreLoose g who_over c a over_world
        over_loose = loose_settled thread_at over None (go r.branch ∷ []) over_world over_settled h.has.holds h.has.ports some_threads

        over_lawful : Lawful g.program over_world
        over_lawful = laws_kept g.program g.stimulus x.state over_world (go r.branch) over_acted st.lawful

        above_holds : HoldsStore g above (record { core = a; world = over_world; hand = None })
        above_holds =
            holds_behind g who_over over_world over_lawful over_works_all c t over None p ps (role_here who c t (used_by over None)) parents all_over above a over_loose
            (st.roles.core c t r None runs_r) refl h.has.holds.room None

        above_ports : PortsStand g above (record { core = a; world = over_world; hand = None })
        above_ports =
            ports_behind g who_over over_world over_lawful over_works_all c t over None p ps (role_here who c t (used_by over None)) parents all_over above a over_loose
            (st.roles.core c t r None runs_r) refl h.has.holds.room None

        abbrev risen_y : World
        risen_y = with_risen x.state r.branch own_branch p.branch waiting.0.branch

        goes_up : Rises g r p ps j z
        goes_up =
            rises g r p ps rest j z parents alone at_end waiting.0 (fits_here g above p.items outermost_block waiting.0.fits refl)
            (record { holds = above_holds.holds; room = above_holds.room })
            (λ q listed its. let k = above_ports q listed its in record { port = k.port; there = k.there; declared = k.declared })

        same_own : goes_up.branch ≡ own_branch
        same_own = same_Some goes_up.branch own_branch (sym goes_up.known ∙ own_known)

        same_waiting : goes_up.waiting ≡ waiting.0.branch
        same_waiting = same_Some goes_up.waiting waiting.0.branch (sym goes_up.waits_there ∙ waiting.0.known)

        abbrev up_piece : List Action
        up_piece = go r.branch ∷ go p.branch ∷ []

        up_acted : acts_all g.program g.stimulus (Some x.state) up_piece ≡ Some risen_y
        up_acted =
            subst (λ b. acts_all g.program g.stimulus (Some x.state) up_piece ≡ Some (with_risen x.state r.branch own_branch p.branch b)) same_waiting
            (subst (λ b. acts_all g.program g.stimulus (Some x.state) up_piece ≡ Some (with_risen x.state r.branch b p.branch goes_up.waiting)) same_own goes_up.acted)

        up_settled : IsSettled g r x.state above None up_piece risen_y
        up_settled = settled_risen g r x.state own_branch own_known own_running p ps parents alone waiting.0 st.lawful up_acted

        abbrev up_next : Branch
        up_next = risen_branch waiting.0.branch

        up_there : slice_get risen_y.branches p.branch ≡ Some up_next
        up_there =
            get_set_same (slice_set x.state.branches r.branch (finished own_branch)) p.branch waiting.0.branch up_next
            (get_set_other x.state.branches r.branch p.branch (finished own_branch) goes_up.apart ∙ waiting.0.known)

        up_rest : Rest g above up_next.items j (record { core = a; world = risen_y; hand = None })
        up_rest =
            subst (λ l. Rest g above l j (record { core = a; world = risen_y; hand = None })) (sym waiting.0.items)
            (subst (λ b. Rest g above p.items j (record { core = a; world = with_risen x.state r.branch own_branch p.branch b; hand = None })) same_waiting
            (subst (λ b. Rest g above p.items j (record { core = a; world = with_risen x.state r.branch b p.branch goes_up.waiting; hand = None })) same_own goes_up.rest))

        up_settles : SettlesOne g may_rest who w x c t weight
        up_settles = record {
          who = with_role who c t (used_by above None);
          piece = up_piece;
          world = risen_y;
          acted = up_settled.acted;
          standing = settled thread_at above None up_piece risen_y up_settled h.has.holds h.has.ports none may_rest (λ i u ne m. m)
              up_next up_there
              (resting g above (may_rest c t) a risen_y (w.lives c t) (told_by g.program g.stimulus x up_piece risen_y).actions up_next j stand.left may waiting.0.on_core waiting.0.of_family (ap footprint_of (sym waiting.0.items))
              (parents_risen g r x.state own_branch own_known own_running (length g.program.roots) st.lawful.forest p ps waiting.0.branch
              waiting) waiting.0.sides waiting.0.inside none refl up_rest few (bound_behind up_piece risen_y stand.left (omega arith)));
          named = λ names. settles_linked g may_rest who w x st names c t r above None None runs_r refl (inl refl) (told_by g.program g.stimulus x up_piece risen_y) (told_two g x up_piece risen_y r.branch p.branch own_branch (finished own_branch) waiting.0.branch up_next own_known refl waiting.0.known refl goes_up.apart refl);
          none_inside = none_with who c t above None none;
          runner = above;
          runs_there = role_here who c t (used_by above None);
          next = up_next;
          known = up_there;
          lighter =
              let lighter = end_lighter ps p rest in
              let before : weight ≡ thread_weight (p ∷ ps) (ends ∷ rest) = ap (λ l. thread_weight l items) parents ∙ ap (thread_weight (p ∷ ps)) these in
              let now : thread_weight ps up_next.items ≡ thread_weight ps p.items = ap (thread_weight ps) waiting.0.items in
              omega (arith, lighter, before, now);
        }

      by_sync : (o : Option ℕ) → p.sync ≡ o → SettlesOne g may_rest who w x c t weight
      by_sync None e = up_settles e
      by_sync (Some n) e = first_settles n e

    -- Whichever item it is.
    pub settles_one : (l : List Item) → items ≡ l → HasNone r.parents l → SettlesOne g may_rest who w x c t weight
    settles_one l e (block n ss rest) =
        let these = todo ss (mark n ∷ rest) in
        let fit = subst (FitOn g r.core) e all_fit in
        let q = block_settles g r n ss rest j z (subst (λ k. Rest g r k j z) e h) (footprint ∙ ap footprint_of e)
        (fits_here g (shrunk r these) these outermost_block (todo_fits g (anyone r.core) ss (mark n ∷ rest) fit.0 (tt, fit.1)) refl) in
        stays_settles these q (subst (λ k. thread_weight r.parents these < thread_weight r.parents k) (sym e) (block_lighter r.parents n ss rest))
    settles_one l e (block_end n rest) =
        let fit = subst (FitOn g r.core) e all_fit in
        let q = mark_settles g r n rest j z (subst (λ k. Rest g r k j z) e h) (footprint ∙ ap footprint_of e)
        (fits_here g (shrunk r rest) rest outermost_block fit.1 refl) in
        stays_settles rest q (subst (λ k. thread_weight r.parents rest < thread_weight r.parents k) (sym e) (mark_lighter r.parents n rest))
    settles_one l e (par_of_none rest) =
        let fit = subst (FitOn g r.core) e all_fit in
        let q = none_settles g r rest j z (subst (λ k. Rest g r k j z) e h) (footprint ∙ ap footprint_of e)
        (fits_here g (shrunk r rest) rest outermost_block fit.1 refl) in
        stays_settles rest q (subst (λ k. thread_weight r.parents rest < thread_weight r.parents k) (sym e) (none_lighter r.parents rest))
    settles_one l e (par_of_one ss pos rest) =
        let these = todo ss (ends ∷ []) in
        let s = under r (length x.state.branches) ss rest in
        let fit = subst (FitOn g r.core) e all_fit in
        let own_fit = branch_fits g r.core (kernel.more_branches (kernel.branch ss pos) kernel.no_branch) rest fit 0 ss refl in
        let q = one_settles g r ss pos rest j z (subst (λ k. Rest g r k j z) e h) (footprint ∙ ap footprint_of e)
        (fits_here g s these outermost_block own_fit refl) in
        under_settles ss pos rest e fit.1 q
        (subst (λ k. thread_weight (waiting_one r.branch (length x.state.branches) rest r.sides r.inside ∷ r.parents) these <
        thread_weight r.parents k) (sym e)
        (one_lighter r.parents (waiting_one r.branch (length x.state.branches) rest r.sides r.inside) ss pos))
    settles_one l e (branch_end p ps rest parents) = by_sync rest e p ps parents p.sync refl
