-- Where the machine is quiet, so is the program: no branch can do more than its thread.
use Rattle.std.proofs.Common.{◌≡◌, ◌⊎◌, ℕ, zero, suc, ◌+◌, ◌<◌, inl, inr, List, [], ◌∷◌, Option, Some, None, refl, sym, ap, ◌∙◌, subst, arith}
use Rattle.std.specs.Prelude.{Bool, true, false, slice_get, IsSome, IsTrue}
use Rattle.xs_instr.specs.declared.state.CoreState.{CoreState}
use Rattle.xs_instr.specs.declared.trace.Record.{Record}
use Rattle.xs_instr.specs.Did.{Made}
use Rattle.xs_instr.specs.Machine.{and_then}
use Rattle.xs_instr.specs.Pool.{all_wait}
use Rattle.xs_instr.specs.Slot.{slot}
use Rattle.xc_invariants.specs.Tree.{IsForest}
use Rattle.xc_meaning.specs.Quiet.{IsQuiet, is_idle}
use Rattle.xc_meaning.specs.Runs.{acts, goes, goes_by, selects, selects_by, step_of}
use Rattle.xc_meaning.specs.Settings.Par.{all_done, is_done}
use Rattle.xc_meaning.specs.Settings.Select.{takes, takes_default}
use Rattle.xc_meaning.specs.Settings.Setting.{becomes}
use Rattle.xc_meaning.specs.States.Branches.{Branch, Mode, has_ended, runs, waits, ended, erred}
use Rattle.xc_meaning.specs.States.Items.{Item}
use Rattle.xc_meaning.specs.States.Worlds.{World, Action, clock, go, take, default, only_if}
use Rattle.xl_par.specs.Acquired.{Acquired, IsAmong}
use Rattle.xr_match.specs.Implements.{IsQuietMachine}
use Rattle.xr_match.specs.Systems.{SomeIs}
use Rattle.xr_simulation.specs.Parents.{Parent, branches_of}
use Rattle.xr_simulation.specs.Roles.{ParentWaits, ParentsWait, used_by}
use Rattle.xr_simulation.specs.Runners.{Setting, home}
use Rattle.xr_simulation.specs.ThreadViews.{LeadsIn, Rely, ThreadView, giving_back}
use Rattle.xr_simulation.specs.MatchStates.{HasEnded, IsRun, RunsBranch, ProgressBy, ProgressWith, none_rests}
use Rattle.xr_simulation.specs.Transfers.{Transfer}
use Rattle.xr_simulation.specs.NextStep.{at_select, CannotAct, GivesBack, Joins, NextStep, StableNextStep, begins, errs, frees, goes_on, pauses, waits_tied, communicates, puts_out, takes_in}
use Rattle.xr_simulation.proofs.Par.JoinDecision.{done_each, joins_together}
use Rattle.xr_simulation.proofs.Relation.Moments.{Moment, ThreadAt, thread_of}
use Rattle.xr_simulation.proofs.Relation.CoreSteps.{core_of, kept_now, stands_at}
use Rattle.xr_simulation.proofs.Quiet.Channels.{inside_cannot, offers_goes, takes_in_cannot}
use Rattle.xr_simulation.proofs.Channels.SelectEnds.{selects_alike}
use Rattle.xr_simulation.proofs.ItemCode.SelectTurns.{SelectGoes}
use Rattle.xr_simulation.proofs.Quiet.Slots as slots
use Rattle.xr_simulation.proofs.Par.Resumes.{nobody_tied, taken}

-- branch b can do nothing now
record IsStill (g : Setting) (x : World) (b : ℕ) : Type 0 where
  pub goes : acts g.program g.stimulus x (go b) ≡ None
  pub takes : (n : ℕ) → acts g.program g.stimulus x (take b n) ≡ None
  pub takes_default : acts g.program g.stimulus x (default b) ≡ None

-- a branch does what its mode lets it do
still_by : (g : Setting) (x : World) (b : ℕ) (branch : Branch) → slice_get x.branches b ≡ Some branch → (mode : Mode) → branch.mode ≡ mode →
    goes_by g.program g.stimulus x b branch mode ≡ None →
    ((n : ℕ) → selects_by g.program g.stimulus x b (λ step. takes step n) branch mode ≡ None) →
    selects_by g.program g.stimulus x b takes_default branch mode ≡ None → IsStill g x b
still_by g x b branch known mode is no_go no_take no_default = record {
  goes = ap (λ o. and_then o (goes g.program g.stimulus x b)) known ∙ ap (goes_by g.program g.stimulus x b branch) is ∙ no_go;
  takes = λ n.
      ap (λ o. and_then o (selects g.program g.stimulus x b (λ step. takes step n))) known
      ∙ ap (selects_by g.program g.stimulus x b (λ step. takes step n) branch) is ∙ no_take n;
  takes_default =
      ap (λ o. and_then o (selects g.program g.stimulus x b takes_default)) known
      ∙ ap (selects_by g.program g.stimulus x b takes_default branch) is ∙ no_default;
}

-- one that has ended nothing more
ended_still : (g : Setting) (x : World) (b : ℕ) (branch : Branch) → slice_get x.branches b ≡ Some branch → branch.mode ≡ ended → IsStill g x b
ended_still g x b branch known is = still_by g x b branch known ended is refl (λ n. refl) refl

-- nor one that has erred
erred_still : (g : Setting) (x : World) (b : ℕ) (branch : Branch) → slice_get x.branches b ≡ Some branch → branch.mode ≡ erred → IsStill g x b
erred_still g x b branch known is = still_by g x b branch known erred is refl (λ n. refl) refl

-- one that waits goes on only once all branches of its `par` have ended
waits_still : (g : Setting) (x : World) (core family : ℕ) (p : Parent) (first : ℕ) → ParentWaits g x core family p first → all_done x p.from p.count ≡ false → IsStill g x p.branch
waits_still g x core family p first h not_all =
    still_by g x p.branch h.branch h.known (waits p.from p.count) h.mode
    (ap (λ d. only_if d (becomes (step_of g.program g.stimulus x p.branch h.branch h.branch.items) (record h.branch { mode = runs }))) not_all)
    (λ n. refl)
    refl

-- where the first of them hasn't, not all have
not_all_done : (x : World) (from count : ℕ) → 0 < count → is_done (slice_get x.branches from) ≡ false → all_done x from count ≡ false
not_all_done x from count some not_first = by (all_done x from count) refl
  where
    by : (d : Bool) → all_done x from count ≡ d → all_done x from count ≡ false
    by false e = e
    by true e =
        let same : from + 0 ≡ from = omega arith in
        let first : is_done (slice_get x.branches from) ≡ true = ap (λ k. is_done (slice_get x.branches k)) (sym same) ∙ done_each x from count e 0 some in
        let clash : true ≡ false = sym first ∙ not_first in
        absurd (let z : ⊥ = cc in z)

-- one that waits hasn't ended
waits_on : (g : Setting) (x : World) (core family : ℕ) (p : Parent) (first : ℕ) → ParentWaits g x core family p first → is_done (slice_get x.branches p.branch) ≡ false
waits_on g x core family p first h = ap is_done h.known ∙ ap has_ended h.mode

-- those that wait for a branch that hasn't ended, at any depth
all_still : (g : Setting) (x : World) (roots core family : ℕ) → IsForest roots x.branches → (ps : List Parent) (first : ℕ) → ParentsWait g x core family ps first → is_done (slice_get x.branches first) ≡ false →
    (b : ℕ) → IsAmong (branches_of ps) b → IsStill g x b
all_still g x roots core family forest [] first h not_yet b m = absurd m
all_still g x roots core family forest (p ∷ ps) first h not_yet b (inl e) =
    let some = (forest.family p.branch p.branch h.0.branch p.from p.count h.0.known h.0.mode).2 in
    subst (IsStill g x) (sym e)
    (waits_still g x core family p first h.0 (not_all_done x p.from p.count some (ap (λ k. is_done (slice_get x.branches k)) h.0.first_is ∙ not_yet)))
all_still g x roots core family forest (p ∷ ps) first h not_yet b (inr m) =
    all_still g x roots core family forest ps p.branch h.1 (waits_on g x core family p first h.0) b m

module _ (moment : Moment none_rests)
    (quiet : IsQuietMachine moment.setting.image moment.setting.stimulus moment.watched.machine) where
  open moment use {setting as g, image as is, roles as who, watched as w, told as x, standing as st}

  module _ {hand : Option Acquired} (thread_at : ThreadAt moment hand) where
    open thread_at use {core as c, thread as t, state as a, at_core as at_c, runner as r, runs as runs_r}

    abbrev now : ThreadView
    now = record { core = a; world = x.state; hand = hand }

    here : Rely g r now now
    here = kept_now moment c t a r hand at_c runs_r

    -- the thread's slot is no step
    not_made : (left : CoreState) (made : Option Record) → slot (home g r) a r.thread ≡ Made left made [] → ⊥
    not_made left made h = slots.not_made thread_at quiet left made h

    -- so a select waits
    select_cannot : (j : ℕ) → SelectGoes g r j now → CannotAct g r x.state
    select_cannot j (inl (p, cannot)) = cannot
    select_cannot j (inr h) = absurd (not_made h.left h.made h.made_is)

    -- so its turn is a pause, or it waits for a word, and the branch waits
    turn_cannot : (j : ℕ) → r.transfer ≡ None → NextStep g r j now → CannotAct g r x.state
    turn_cannot j none (pauses p cannot) = cannot
    turn_cannot j none (errs h) = absurd (slots.not_trapped thread_at quiet h.kind h.traps)
    turn_cannot j none (goes_on h) = absurd (not_made h.left h.made h.made_is)
    turn_cannot j none (frees h) = absurd (not_made h.left None h.made_is)
    turn_cannot j none (waits_tied h) = absurd (not_made h.left None h.made_is)
    turn_cannot j none (begins h) = absurd (not_made _ None h.goes)
    turn_cannot j none (communicates (puts_out o v) h) = absurd (offers_goes moment quiet thread_at j none o v h)
    turn_cannot j none (at_select h) = select_cannot j (selects_alike thread_at none j h)
    turn_cannot j none (communicates (takes_in i) h) = takes_in_cannot moment quiet thread_at j none i h

    -- no step on the way to somewhere is left
    arrived : (Q : ThreadView → Type 0) (n : ℕ) → LeadsIn g r Q n now → Q now
    arrived Q zero h = h
    arrived Q (suc n) (inl h) = h
    arrived Q (suc n) (inr on) = let next = on now here in absurd (not_made next.0.core None next.1.made)

    -- none gives a synchroniser back
    not_resuming : (items : List Item) (j : ℕ) → GivesBack g r items j now → ⊥
    not_resuming items j gives =
        let runs_back = runs_r ∙ ap (used_by r) gives.in_hand in
        not_made _ None
        (gives.frees a gives.here (taken (thread_of moment c t a at_c r (giving_back gives.sync) runs_back))
        (nobody_tied (thread_of moment c t a at_c r (giving_back gives.sync) runs_back)))

    -- a branch that runs waits
    running_still : (items : List Item) (left : ℕ) → ProgressBy g r false items runs left now → CannotAct g r x.state
    running_still items left h = by r.transfer refl h
      where
        by : (o : Option Transfer) → r.transfer ≡ o → ProgressWith g r false o items left now → CannotAct g r x.state
        by None none (inl (n, j, few, on)) = turn_cannot j none (arrived (StableNextStep g r j) n on now here)
        by None none (inr (inl (j, few, gives))) = absurd (not_resuming items j gives)
        by None none (inr (inr h)) = absurd h
        by (Some transfer) its (j, few, h) = inside_cannot moment quiet thread_at transfer its items j h

    -- one that has ended waits for others of its `par`
    joining_waits : (p : Parent) (ps : List Parent) (left : ℕ) → r.parents ≡ p ∷ ps → is_done (slice_get x.state.branches r.branch) ≡ true → HasEnded g r (p ∷ ps) left now → all_done x.state p.from p.count ≡ false
    joining_waits p ps left parents done (n, j, few, on) =
        let h = arrived (Joins g r p ps j) n on now here in
        let both = joins_together g none_rests who w x st c t h.sync a r hand p ps at_c runs_r parents h.sync_is done in
        by h.sync h.joins both (all_wait a.threads h.sync) refl
      where
        by : (n : ℕ) → {left : CoreState} → (all_wait a.threads n ≡ true → slot (home g r) a r.thread ≡ Made left None []) → all_wait a.threads n ≡ all_done x.state p.from p.count → (wait : Bool) → all_wait a.threads n ≡ wait → all_done x.state p.from p.count ≡ false
        by n {left} joins both true e = absurd (not_made left None (joins e))
        by n joins both false e = sym both ∙ e

    module _ (branch : Branch) (known : slice_get x.state.branches r.branch ≡ Some branch) (stand : RunsBranch g r false hand a x.state (w.lives c t) x.actions branch) where
      -- the branch that the thread runs
      own_still : (mode : Mode) → branch.mode ≡ mode → ProgressBy g r false branch.items mode stand.left now → IsStill g x.state r.branch
      own_still runs e h =
          let k = running_still branch.items stand.left h in
          record { goes = k.goes; takes = k.takes; takes_default = k.takes_default }
      own_still (waits from count) e h = absurd h
      own_still ended e h = ended_still g x.state r.branch branch known e
      own_still erred e h = erred_still g x.state r.branch branch known e

      done_is : (d : Bool) → has_ended branch.mode ≡ d → is_done (slice_get x.state.branches r.branch) ≡ d
      done_is d e = ap is_done known ∙ e

      -- those that wait for one that has ended
      behind_still : (ps : List Parent) → r.parents ≡ ps → ParentsWait g x.state r.core r.family ps r.branch → HasEnded g r ps stand.left now → has_ended branch.mode ≡ true → (b : ℕ) → IsAmong (branches_of ps) b → IsStill g x.state b
      behind_still [] parents h stood over b m = absurd m
      behind_still (p ∷ ps) parents h stood over b (inl e) =
          subst (IsStill g x.state) (sym e) (waits_still g x.state r.core r.family p r.branch h.0 (joining_waits p ps stand.left parents (done_is true over) stood))
      behind_still (p ∷ ps) parents h stood over b (inr m) =
          all_still g x.state _ r.core r.family st.lawful.forest ps p.branch h.1 (waits_on g x.state r.core r.family p r.branch h.0) b m

      -- those that wait
      parents_still : (mode : Mode) → branch.mode ≡ mode → ProgressBy g r false branch.items mode stand.left now → (b : ℕ) → IsAmong (branches_of r.parents) b → IsStill g x.state b
      parents_still runs e h b m = all_still g x.state _ r.core r.family st.lawful.forest r.parents r.branch stand.parents (done_is false (ap has_ended e)) b m
      parents_still (waits from count) e h b m = absurd h
      parents_still ended e h b m = behind_still r.parents refl stand.parents h (ap has_ended e) b m
      parents_still erred e h b m = all_still g x.state _ r.core r.family st.lawful.forest r.parents r.branch stand.parents (done_is false (ap has_ended e)) b m

      own_or_parent : (b : ℕ) → (b ≡ r.branch) ⊎ IsAmong (branches_of r.parents) b → IsStill g x.state b
      own_or_parent b (inl e) = subst (IsStill g x.state) (sym e) (own_still branch.mode refl stand.by)
      own_or_parent b (inr m) = parents_still branch.mode refl stand.by b m

    -- the branches of a runner, wherever that stands
    runner_still : (o : Option Branch) → slice_get x.state.branches r.branch ≡ o → SomeIs o (RunsBranch g r false hand a x.state (w.lives c t) x.actions) → (b : ℕ) → (b ≡ r.branch) ⊎ IsAmong (branches_of r.parents) b → IsStill g x.state b
    runner_still None known h b m = absurd h
    runner_still (Some branch) known h b m = own_or_parent branch known h b m

  -- each branch that has not ended is some runner's, so it can do nothing
  run_still : (b : ℕ) → IsRun who b → IsStill g x.state b
  run_still b q =
      let e = core_of moment q.core q.thread q.runner q.hand q.runs in
      runner_still (thread_of moment q.core q.thread e.0 e.1 q.runner q.hand q.runs) (slice_get x.state.branches q.runner.branch) refl
      (stands_at moment q.core q.thread e.0 q.runner q.hand e.1 q.runs) b q.branch

  there_still : (b : ℕ) (branch : Branch) → slice_get x.state.branches b ≡ Some branch → (mode : Mode) → branch.mode ≡ mode → IsStill g x.state b
  there_still b branch known runs e = run_still b (st.run b branch known (ap has_ended e))
  there_still b branch known (waits from count) e = run_still b (st.run b branch known (ap has_ended e))
  there_still b branch known ended e = ended_still g x.state b branch known e
  there_still b branch known erred e = erred_still g x.state b branch known e

  -- a branch that isn't there does nothing either
  each_still : (b : ℕ) (o : Option Branch) → slice_get x.state.branches b ≡ o → IsStill g x.state b
  each_still b None known = record {
    goes = ap (λ o. and_then o (goes g.program g.stimulus x.state b)) known;
    takes = λ n. ap (λ o. and_then o (selects g.program g.stimulus x.state b (λ step. takes step n))) known;
    takes_default = ap (λ o. and_then o (selects g.program g.stimulus x.state b takes_default)) known;
  }
  each_still b (Some branch) known = there_still b branch known branch.mode refl

  -- the program is quiet
  pub quiet_together : IsQuiet g.program g.stimulus x.state
  quiet_together = record { idle = idle }
    where
      still : (b : ℕ) → IsStill g x.state b
      still b = each_still b (slice_get x.state.branches b) refl

      idle : (action : Action) → IsSome (acts g.program g.stimulus x.state action) → IsTrue (is_idle x.state action)
      idle (clock core) some = refl
      idle (go b) some = let e : IsSome {T = World} None = subst IsSome (still b).goes some in cc
      idle (take b n) some = let e : IsSome {T = World} None = subst IsSome ((still b).takes n) some in cc
      idle (default b) some = let e : IsSome {T = World} None = subst IsSome (still b).takes_default some in cc
