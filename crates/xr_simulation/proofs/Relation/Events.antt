-- An event of one runner is answered by a piece of the program's run: behind it all threads stand so again.
use Rattle.std.proofs.Common.{◌≡◌, ℕ, ◌<◌, ◌≤◌, ◌≢◌, inl, List, [], map, length, Option, Some, refl, sym, ap, ◌∙◌, subst}
use Rattle.std.specs.Prelude.{Bool, true, false, slice_get, slice_set}
use Rattle.std.proofs.lemmas.List.{length-set}
use Rattle.std.proofs.lemmas.Option.{get_or_from_slice_get}
use Rattle.std.proofs.Math.Seq.{map-set_same}
use Rattle.xs_instr.specs.declared.state.CoreState.{CoreState}
use Rattle.xs_instr.specs.declared.state.Sent.{Sent}
use Rattle.xs_instr.specs.declared.trace.Record.{Record}
use Rattle.xs_instr.specs.Machine.{Machine, Step, noted, on_links}
use Rattle.xc_disjoint.specs.Needs.{threads_on}
use Rattle.xc_meaning.specs.Runs.{acts_all}
use Rattle.xc_meaning.specs.States.Branches.{Branch, has_ended}
use Rattle.xc_meaning.specs.States.Worlds.{World, Action}
use Rattle.xl_expr.proofs.Lists.{get_set_same, get_set_other}
use Rattle.xl_par.specs.Acquired.{Acquired}
use Rattle.xr_match.specs.Implements.{clock_of}
use Rattle.xr_match.specs.Lives.{Life, Watched, watched_after}
use Rattle.xr_match.specs.Meanings.{of_kernel}
use Rattle.xr_match.specs.Sources.{Counted}
use Rattle.xr_simulation.specs.Roles.{AreRoles, AreUsedSo, HasReserves, Roles, used_by}
use Rattle.xr_simulation.specs.Runners.{Setting, Runner}
use Rattle.xr_simulation.specs.Sizes.{sizes_of}
use Rattle.xr_simulation.specs.MatchStates.{AreLoose, IsMade, IsRun, MatchStates, ThreadRel, living_on}
use Rattle.xr_simulation.specs.Transfers.{Transfer}
use Rattle.xr_simulation.specs.Wired.{AreWired, HasAlone}
use Rattle.xr_simulation.proofs.Lives.OwnLife.{far_life, other_life}
use Rattle.xr_simulation.proofs.Relation.Moments.{Moment, ThreadAt}
use Rattle.xr_simulation.proofs.Relation.CoreSteps.{Effect, HasStepped, far_loose_still, far_others, kept_others, moves, other_same, own_still, parents_left, stands_at, works_at}
use Rattle.xr_simulation.proofs.Relation.Reserves.{laws_behind}
use Rattle.xr_simulation.proofs.Par.Rooms.{spare_for}
use Rattle.xr_simulation.proofs.Relation.Lasting.{parents_still, told_by}
use Rattle.xr_simulation.proofs.OwnSteps.Branch.{Crew, HasOwnThread, Works, own_thread_of, works_of}

-- What is to be shown of an event of a runner of core c, beside what it leaves of others: of the threads that it moves how they stand, and what
-- the core and the program are then.
pub record IsAnswered
    (g : Setting) (may_rest may_rest' : (core thread : ℕ) → Bool) (who who' : Roles) (w w' : Watched) (x : Counted (of_kernel g.program))
    (c : ℕ) (b : CoreState) (moved : (thread : ℕ) → Bool) (piece : List Action) (y : World) : Type 0 where
  pub acted : acts_all g.program g.stimulus (Some x.state) piece ≡ Some y
  pub clocks : map clock_of w'.machine.cores ≡ y.clocks
  pub trace : w'.machine.trace ≡ y.trace
  pub roles : AreRoles g who'
  pub reserves : HasReserves g who' y
  pub used : AreUsedSo who' c b
  pub same_role : (u : ℕ) → moved u ≡ false → who' c u ≡ who c u
  pub far_role : (d u : ℕ) → d ≢ c → who' d u ≡ who d u
  pub rests : (u : ℕ) → moved u ≡ false → may_rest c u ≡ true → may_rest' c u ≡ true
  pub far_rests : (d u : ℕ) → d ≢ c → may_rest d u ≡ true → may_rest' d u ≡ true
  pub steps : (u : ℕ) → moved u ≡ false → (w'.lives c u).steps ≡ (w.lives c u).steps
  pub far_steps : (d u : ℕ) → d ≢ c → (w'.lives d u).steps ≡ (w.lives d u).steps
  pub stand : (u : ℕ) → moved u ≡ true →
      ThreadRel g (may_rest' c u) b y (w'.lives c u) (told_by g.program g.stimulus x piece y).actions (who' c u)
  pub wired : AreWired g who' w'.machine y
  pub alone : (u : ℕ) (s : Runner) (hand : Option Acquired) (transfer : Transfer) → moved u ≡ true → who' c u ≡ used_by s hand → s.transfer ≡ Some transfer →
      HasAlone y.branches transfer.channel transfer.side s.branch
  pub loose : 1 ≤ threads_on g.program c → AreLoose g who' c b y
  pub roots : b.roots ≡ living_on c y.branches
  pub far_roots : (d : ℕ) → d ≢ c → living_on d y.branches ≡ living_on d x.state.branches
  pub placed : (n : ℕ) (branch : Branch) → slice_get y.branches n ≡ Some branch → branch.core < 4
  pub run : (n : ℕ) (branch : Branch) → slice_get y.branches n ≡ Some branch → has_ended branch.mode ≡ false → IsRun who' n
  pub made : (n : ℕ) (branch : Branch) → slice_get y.branches n ≡ Some branch → has_ended branch.mode ≡ false → IsMade (length g.program.roots) y.branches n

module _ {may_rest : (core thread : ℕ) → Bool} {moment : Moment may_rest} {hand : Option Acquired} (thread_at : ThreadAt moment hand)
    (moved : (thread : ℕ) → Bool) (own : moved thread_at.thread ≡ true) (b : CoreState) (y : World)
    (effect : Effect moment.setting moment.roles thread_at.core thread_at.thread thread_at.runner hand moved thread_at.state b
    moment.told.state y) where
  open moment use {setting as g, image as is, roles as who, watched as w, told as x, standing as st}
  open thread_at use {core as c, thread as t, state as a, at_core as at_c, runner as r, runs as runs_r}

  -- a thread that isn't moved is another one
  pub not_own : (u : ℕ) → moved u ≡ false → u ≢ t
  not_own u m e = let both : true ≡ false = sym own ∙ ap moved (sym e) ∙ m in cc

  -- a runner that isn't moved works as before
  pub works_behind : (u : ℕ) (s : Runner) (other : Option Acquired) → moved u ≡ false → who c u ≡ used_by s other → Works g y s other
  works_behind u s other m runs_s =
      let works = works_at moment c u s other runs_s in
      let ne : (c ≡ c) × (u ≡ t) → ⊥ = λ h. not_own u m h.1 in
      record {
        branch = works.branch;
        known = own_still moment thread_at moved b y effect c u s other ne runs_s s.branch works.branch (inl refl)
            works.known ∙ works.known;
        goes = works.goes;
        core = works.core;
        family = works.family;
        footprint = works.footprint;
        parents = parents_still g s x.state y s.core s.family s.parents s.branch
            (parents_left moment thread_at moved b y effect c u s other ne runs_s) works.parents;
        in_hand = works.in_hand;
        sides = works.sides;
        inside = works.inside;
        done = works.done;
        stops = works.stops;
      }

  -- and its thread is what it was
  pub thread_behind : (u : ℕ) (s : Runner) (other : Option Acquired) → moved u ≡ false → who c u ≡ used_by s other → HasOwnThread b s
  thread_behind u s other m runs_s =
      let h = own_thread_of g s (may_rest c u) other a x.state (w.lives c u) x.actions (stands_at moment c u a s other at_c runs_s) in
      record {
        thread = h.thread;
        there = effect.threads s.thread (ap moved (st.roles.thread c u s other runs_s) ∙ m) ∙ h.there;
        tied = h.tied;
        used = h.used;
      }

  module _ (may_rest' : (core thread : ℕ) → Bool) (who' : Roles) (w' : Watched) (piece : List Action) (step : HasStepped w w' c a b) (answer : IsAnswered g may_rest may_rest' who who' w w' x c b moved piece y) where
    works_by : (u : ℕ) (s : Runner) (other : Option Acquired) → who' c u ≡ used_by s other → (m : Bool) → moved u ≡ m → Works g y s other
    works_by u s other runs_s true m =
        let actions = (told_by g.program g.stimulus x piece y).actions in
        works_of g s (may_rest' c u) other b y (w'.lives c u) actions (subst (ThreadRel g (may_rest' c u) b y (w'.lives c u) actions) runs_s (answer.stand u m))
    works_by u s other runs_s false m = works_behind u s other m (sym (answer.same_role u m) ∙ runs_s)

    thread_by : (u : ℕ) (s : Runner) (other : Option Acquired) → who' c u ≡ used_by s other → (m : Bool) → moved u ≡ m → HasOwnThread b s
    thread_by u s other runs_s true m =
        let actions = (told_by g.program g.stimulus x piece y).actions in
        own_thread_of g s (may_rest' c u) other b y (w'.lives c u) actions (subst (ThreadRel g (may_rest' c u) b y (w'.lives c u) actions) runs_s (answer.stand u m))
    thread_by u s other runs_s false m = thread_behind u s other m (sym (answer.same_role u m) ∙ runs_s)

    -- what is known of the core's runners behind it
    pub crew_behind : c < 4 → Crew g who' y c b
    crew_behind lt = record {
      lawful = laws_behind g x.state st.lawful piece y answer.acted;
      roles = answer.roles;
      reserves = answer.reserves;
      used = answer.used;
      works = λ u s other runs_s. works_by u s other runs_s (moved u) refl;
      threads = λ u s other runs_s. thread_by u s other runs_s (moved u) refl;
      needed = is.needed c;
      few = is.few c lt;
    }

    pub answered : MatchStates g may_rest' who' w' (told_by g.program g.stimulus x piece y)
    answered =
        let lt = st.roles.there c t r hand runs_r in
        moves g may_rest may_rest' who who' w w' x c a b moved piece y st step (record {
          acted = answer.acted;
          clocks = answer.clocks;
          trace = answer.trace;
          roles = answer.roles;
          reserves = answer.reserves;
          used = answer.used;
          same_role = answer.same_role;
          far_role = answer.far_role;
          rests = answer.rests;
          far_rests = answer.far_rests;
          steps = answer.steps;
          far_steps = answer.far_steps;
          stand = answer.stand;
          rely = λ u s other m runs_s.
              kept_others moment thread_at moved b y effect u s other (not_own u m) m runs_s
              (spare_for g who' y c b (crew_behind lt) u s other (answer.same_role u m ∙ runs_s));
          far_rely = λ d u e s other ne at_d runs_s. far_others moment thread_at moved b y effect d u e s other
              ne at_d runs_s;
          wired = answer.wired;
          alone = answer.alone;
          loose = answer.loose;
          far_loose = λ d e ne at_d loose. far_loose_still moment thread_at moved b y effect who' answer.far_role
              d e ne loose;
          roots = answer.roots;
          far_roots = answer.far_roots;
          placed = answer.placed;
          run = answer.run;
          made = answer.made;
        })

  -- the machine behind the thread's step, which writes this down and sends that over links, and its lives
  module _ (made : Option Record) (sent : List Sent) where
    abbrev pub machine_sending : Machine
    machine_sending = record {
      cores = slice_set w.machine.cores c b;
      links = on_links w.machine.links c sent;
      trace = noted w.machine.trace made;
    }

    abbrev pub watched_sending : Watched
    watched_sending = watched_after w (Step c t) machine_sending

    pub has_sent : sizes_of b ≡ sizes_of a → HasStepped w watched_sending c a b
    has_sent sizes = record {
      was = at_c;
      is = get_set_same w.machine.cores c a b at_c;
      others = λ d e ne at. other_same w watched_sending d e (get_set_other w.machine.cores c d b ne) at;
      as_many = length-set w.machine.cores c b;
      sizes = sizes;
    }

    -- a life that isn't moved is as long
    pub steps_as_long : (u : ℕ) → moved u ≡ false → (watched_sending.lives c u).steps ≡ (w.lives c u).steps
    steps_as_long u m = ap (λ (l : Life). l.steps) (other_life w machine_sending c t u a b (not_own u m) at_c (get_set_same w.machine.cores c a b at_c) (effect.threads u m))

    pub far_steps_as_long : (d u : ℕ) → d ≢ c → (watched_sending.lives d u).steps ≡ (w.lives d u).steps
    far_steps_as_long d u ne = ap (λ (l : Life). l.steps) (far_life w machine_sending c t d u ne)

  -- the same where it sends nothing
  module _ (made : Option Record) where
    abbrev pub watched : Watched
    watched = watched_sending made []

    pub has_stepped : sizes_of b ≡ sizes_of a → HasStepped w watched c a b
    has_stepped sizes = has_sent made [] sizes

    pub steps_still : (u : ℕ) → moved u ≡ false → (watched.lives c u).steps ≡ (w.lives c u).steps
    steps_still u m = steps_as_long made [] u m

    pub far_steps_still : (d u : ℕ) → d ≢ c → (watched.lives d u).steps ≡ (w.lives d u).steps
    far_steps_still d u ne = far_steps_as_long made [] d u ne

    -- no clock has gone up
    pub clocks_still : map clock_of (slice_set w.machine.cores c b) ≡ y.clocks
    clocks_still = map-set_same clock_of w.machine.cores c b a (effect.clock ∙ ap clock_of (sym (get_or_from_slice_get w.machine.cores c a a at_c))) ∙ st.clocks ∙ sym effect.clocks
