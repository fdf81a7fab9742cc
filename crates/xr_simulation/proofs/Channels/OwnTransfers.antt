-- A thread takes a step on a channel's end with which its branch does an item: it begins a transfer, goes on in one, or ends one.
use Rattle.std.proofs.Common.{◌≡◌, ℕ, ◌+◌, ◌*◌, ◌<◌, ◌≤◌, inl, [], ◌∷◌, List, length, Option, Some, None, refl, sym, ap, ◌∙◌, subst, arith}
use Rattle.std.specs.Prelude.{Bool, false, slice_get}
use Rattle.std.proofs.Math.Nat.{mul-le-mul_left}
use Rattle.xs_instr.specs.declared.state.ChanEnd.{ChanEnd}
use Rattle.xs_instr.specs.declared.state.CoreState.{CoreState}
use Rattle.xs_instr.specs.declared.state.Mode.TheVariants.{Running}
use Rattle.xs_instr.specs.declared.state.Regs.{Regs}
use Rattle.xs_instr.specs.declared.state.Sent.{Sent}
use Rattle.xs_instr.specs.declared.trace.Record.{Record}
use Rattle.xc_meaning.specs.Counts.Families.{steps_of}
use Rattle.xc_meaning.specs.Counts.KernelCounts.{greatest_count, kernel_bound}
use Rattle.xc_meaning.specs.Runs.{acts, acts_all}
use Rattle.xc_meaning.specs.States.Branches.{runs, ended, erred}
use Rattle.xc_meaning.specs.States.Channels.{Side}
use Rattle.xc_meaning.specs.States.Items.{Item}
use Rattle.xc_meaning.specs.States.Worlds.{World, go}
use Rattle.xl_expr.proofs.Lists.{get_set_same}
use Rattle.xr_match.specs.Lives.{Life, Watched}
use Rattle.xr_simulation.specs.Roles.{empty, used_by}
use Rattle.xr_simulation.specs.Runners.{Runner, footprint_of}
use Rattle.xr_simulation.specs.ThreadViews.{ThreadView, running}
use Rattle.xr_simulation.specs.MatchStates.{RunsBranch, ProgressBy, ProgressWith, ThreadIs, none_rests}
use Rattle.xr_simulation.specs.Transfers.{Transfer, spared}
use Rattle.xr_simulation.specs.NextStep.{Has, IsNext, cost, is_watching, own_go}
use Rattle.xr_simulation.specs.Wired.{AreWired, HasAlone}
use Rattle.xr_simulation.proofs.Channels.OwnSide.{alone_behind}
use Rattle.xr_simulation.proofs.OwnSteps.Answers as answers
use Rattle.xr_simulation.proofs.Relation.Counts.{counts_own}
use Rattle.xr_simulation.proofs.Channels.EndSteps as step
use Rattle.xr_simulation.proofs.Channels.EndSteps.{gone_on, tied_still, touches}
use Rattle.xr_simulation.proofs.RelyGuarantee.Less.{uses_less}
use Rattle.xr_simulation.proofs.Lives.OwnLife.{own_life}
use Rattle.xr_simulation.proofs.Relation.Moments.{BranchAt, Moment, ThreadAt}
use Rattle.xr_simulation.proofs.OwnSteps.Events.{OwnStep, event_follows, is_step, spared_few, watched_behind}
use Rattle.xr_simulation.proofs.Relation.Seats.{with_role}
use Rattle.xr_simulation.proofs.RelyGuarantee.Footprints.{IsWithin, within_of_uses}
use Rattle.xr_simulation.proofs.Relation.Lasting.{Follows, told_by}
use Rattle.xr_simulation.proofs.OwnSteps.AnsweredTurns.{parents_behind}
use Rattle.xr_simulation.proofs.RelyGuarantee.Events.{events_on}

-- a step of the family pays for the steps that are left of the transfer
pays_for : (most greatest steps left j further actions more spare : ℕ) → most ≡ 8 * (greatest + 16) → steps + left ≤ most * (actions + 1) → j ≤ left → further ≤ j + 2 + (8 * greatest + 8) → 1 ≤ more → spare ≤ 3 →
    steps + 1 + (further + spare) ≤ most * (actions + more + 1)
pays_for most greatest steps left j further actions more spare is bound few enough some three =
    let le : actions + 1 + 1 ≤ actions + more + 1 = omega arith in
    let grown = mul-le-mul_left most le in
    omega (arith, grown)

-- What a branch does with a step of its thread on an end: the step leads from these registers to those; the action leaves these items,
-- this record and this state; and the thread is in this transfer then, or in none.
pub record ActsAtEnd {moment : Moment none_rests} {thread_at : ThreadAt moment None} (branch_at : BranchAt thread_at) : Type 0 where
  pub on : branch_at.branch.mode ≡ runs
  pub pc : ℕ
  pub before : Regs
  pub after : Regs
  pub here : slice_get thread_at.state.threads thread_at.runner.thread ≡ Some (running thread_at.runner.tie pc before)
  pub items : List Item
  pub made : Option Record
  pub world : World
  pub acted : acts moment.setting.program moment.setting.stimulus moment.told.state (go thread_at.runner.branch) ≡ Some world
  pub is_next : IsNext moment.setting thread_at.runner moment.told.state world branch_at.branch
      (record branch_at.branch { items = items }) made
  pub store : world.store ≡ moment.told.state.store
  pub has : Has moment.setting thread_at.runner branch_at.branch.items
      (record { core = thread_at.state; world = moment.told.state; hand = None })
  pub unwatched : is_watching items ≡ false
  pub transfer : Option Transfer

module _ {moment : Moment none_rests} {thread_at : ThreadAt moment None} {branch_at : BranchAt thread_at} (does : ActsAtEnd branch_at) where
  open thread_at use {runner as r}

  abbrev pub s : Runner
  s = record r { footprint = footprint_of does.items; transfer = does.transfer }

module _ {moment : Moment none_rests} {thread_at : ThreadAt moment None} {branch_at : BranchAt thread_at} (does : ActsAtEnd branch_at)
    (ends : List ChanEnd) where
  open moment use {setting as g, image as is, roles as who, watched as w, told as x, standing as st}
  open thread_at use {core as c, thread as t, state as a, runner as r}
  open branch_at use {branch, known, stand}
  open does use {on, pc, before as regs, after as regs', here, items, made, world, acted, is_next, store, has, unwatched, transfer}

  abbrev pub left : CoreState
  left = step.left g r a pc regs regs' here ends

  abbrev now : ThreadView
  now = record { core = a; world = x.state; hand = None }

  abbrev pub behind : ThreadView
  behind = record { core = left; world = world; hand = None }

  abbrev more : ℕ → ℕ
  more = (told_by g.program g.stimulus x (go r.branch ∷ []) world).actions

  own_branch : slice_get world.branches r.branch ≡ Some (record branch { items = items })
  own_branch = ap (λ l. slice_get l r.branch) is_next.branches ∙ get_set_same x.state.branches r.branch branch (record branch { items = items }) known

  -- the branch has what is left
  pub has_behind : Has g r items behind
  has_behind = record {
    branch = record branch { items = items };
    runs = record { known = own_branch; running = on; items_are = refl };
    core = stand.core;
    holds = answers.store_as g r c a x.state now behind refl store has.holds;
    ports = answers.ports_as g r c a x.state now behind (λ p listed its. refl) has.ports;
  }

  -- what is left uses no more
  pub less : IsWithin (footprint_of items) r.footprint
  less = subst (IsWithin (footprint_of items)) (sym stand.footprint)
      (within_of_uses items branch.items (uses_less g.program g.stimulus x.state world (go r.branch) st.lawful acted r.branch branch (record branch { items = items }) known own_branch))

  -- the branch has its side for itself still
  pub alone_still : (channel : ℕ) (side : Side) → channel < length g.program.channels → HasAlone x.state.branches channel side r.branch → HasAlone world.branches channel side r.branch
  alone_still channel side lt h =
      alone_behind channel side g x.state st.lawful lt r.branch branch (record branch { items = items }) known h (go r.branch ∷ []) world (ap (λ o. acts_all g.program g.stimulus o []) acted) own_branch (λ over. runs_ended (sym on ∙ over))
    where
      runs_ended : runs ≡ ended → ⊥
      runs_ended f = cc

  -- The ends are as many as before, and this is sent over links.
  module _ (size : length ends ≡ length a.ends) (sent : List Sent) where
    abbrev pub own_step : OwnStep g r c a x.state
    own_step = record {
      left = left;
      made = made;
      branch = branch;
      known = known;
      running = on;
      world = world;
      piece = go r.branch ∷ [];
      acted = ap (λ o. acts_all g.program g.stimulus o []) acted;
      paid = counts_own g r.branch x.state branch (go r.branch) [] known own_go;
      next = record branch { items = items };
      birth = refl;
      is_next = is_next;
      core = refl;
      guarantee = touches g r a pc regs regs' here ends size x.state;
      syncs = refl;
      tie = λ thread there. inl (tied_still g r a pc regs regs' here ends thread there);
      roots = refl;
      holds = answers.store_as g r c a x.state now behind refl store has.holds;
      ports = answers.ports_as g r c a x.state now behind (λ p listed its. refl) has.ports;
      transfer = transfer;
    }

    abbrev pub watched : Watched
    watched = watched_behind thread_at own_step none_rests sent

    -- its life is one step longer
    bound_behind : (j further : ℕ) → j ≤ stand.left → further ≤ j + 2 + cost g r → (watched.lives c t).steps + (further + spared transfer) ≤ kernel_bound g.program * (more r.family + 1)
    bound_behind j further few enough =
        let one : 1 ≤ steps_of g.program g.stimulus branch.family (Some x.state) (go r.branch ∷ []) = counts_own g r.branch x.state branch (go r.branch) [] known own_go in
        let one' : 1 ≤ steps_of g.program g.stimulus r.family (Some x.state) (go r.branch ∷ []) = subst (λ f. 1 ≤ steps_of g.program g.stimulus f (Some x.state) (go r.branch ∷ [])) stand.family one in
        let life : (watched.lives c t).steps ≡ (w.lives c t).steps + 1 = ap (λ (l : Life). l.steps) (own_life w watched.machine c t) in
        let all = pays_for (kernel_bound g.program) (greatest_count g.program) (w.lives c t).steps stand.left j further (x.actions r.family) (steps_of g.program g.stimulus r.family (Some x.state) (go r.branch ∷ [])) (spared transfer) refl
        (let old = stand.bound in omega (arith, old)) few enough one' (spared_few transfer) in
        subst (λ k. k + (further + spared transfer) ≤ kernel_bound g.program * (more r.family + 1)) (sym life) all

    own_stand : (rests : Bool) (j further : ℕ) → j ≤ stand.left → further ≤ j + 2 + cost g r →
        ProgressWith g (s does) rests transfer items further behind →
        RunsBranch g (s does) rests None left world (watched.lives c t) more (record branch { items = items })
    own_stand rests j further few enough by = record {
      core = stand.core;
      family = stand.family;
      footprint = refl;
      parents = parents_behind branch_at own_step;
      thread = record {
        thread = running r.tie (pc + 1) regs';
        there = gone_on g r a pc regs regs' here ends;
        tied = refl;
        events = events_on branch.mode items false on (sym unwatched);
        is = subst (λ m. ThreadIs r.parents m Running) (sym on) refl;
      };
      in_hand = empty refl;
      sides = stand.sides;
      inside = stand.inside;
      done = λ over. absurd (runs_ended (sym on ∙ over));
      stops = λ over. absurd (runs_erred (sym on ∙ over));
      ends_tied = λ over. absurd (runs_ended (sym on ∙ over));
      left = further;
      bound = bound_behind j further few enough;
      by = subst (λ m. ProgressBy g (s does) rests items m further behind) (sym on) by;
    }
      where
        runs_ended : runs ≡ ended → ⊥
        runs_ended f = cc

        runs_erred : runs ≡ erred → ⊥
        runs_erred f = cc

    -- so the two sides stand so again
    pub does_so : (rests : (core thread : ℕ) → Bool) (j further : ℕ) → j ≤ stand.left → further ≤ j + 2 + cost g r →
        ProgressWith g (s does) (rests c t) transfer items further behind →
        AreWired g (with_role who c t (used_by (s does) None)) watched.machine world →
        ((which : Transfer) → transfer ≡ Some which → HasAlone world.branches which.channel which.side r.branch) → Follows g rests who w x watched
    does_so rests j further few enough by wired alone =
        event_follows thread_at own_step rests watched (is_step thread_at own_step rests sent) wired alone
        (own_stand (rests c t) j further few enough by)
