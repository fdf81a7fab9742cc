-- A thread makes one step in each round until it is over, and no more than the longest way has indices.
use Rattle.std.proofs.Common.{◌≡◌, ◌≤◌, ◌<◌, ◌+◌, ◌-◌, ℕ, zero, suc, true, false, Option, Some, None, refl, sym, ap, ◌∙◌, inl, inr, subst, arith}
use Rattle.std.specs.Prelude.{Bool, slice_get, ◌⊎◌}
use Rattle.xs_instr.specs.declared.image.Image.{Image}
use Rattle.xs_instr.specs.declared.image.Stim.{Stim}
use Rattle.xs_instr.specs.declared.instr.Instr.{Instr}
use Rattle.xs_instr.specs.declared.state.CoreState.{CoreState}
use Rattle.xs_instr.specs.declared.state.Mode.TheVariants.{Running, Unused}
use Rattle.xs_instr.specs.declared.state.Thread.{Thread}
use Rattle.xs_instr.specs.declared.trace.Trap.TheVariants.{Code as NoCode}
use Rattle.xs_instr.specs.Did.{Did, Made, Paused, Traps, Idle}
use Rattle.xs_instr.specs.Machine.{home_of}
use Rattle.xs_instr.specs.Slot.{instr_at, slot}
use Rattle.xs_fabric.specs.AtTurns.{LeavesBehindTurn, StepsOn}
use Rattle.xs_fabric.specs.Lockstep.{turn}
use Rattle.xs_fabric.specs.OtherTurns.{RunsAs}
use Rattle.xs_fabric.specs.OwnTurns.{Onward, GoesOn, Waits, MayBranch, Branches, MayBranchBack, BranchesBack, EndsThread, AwaitsEvent, LeadsElsewhere}
use Rattle.xs_fabric.specs.OwnTurns.{IsBehind, LeavesBehind, RunsBehind, may_pause, may_trap, StepsOrMay, onward}
use Rattle.xs_fabric.proofs.NextTurns.{runs_on_to_next_turn, steps_in_each_round, turn_made}
use Rattle.xs_fabric.proofs.OwnTurns.{own_turns_lead_on, traps_behind_code}
use Rattle.xs_fabric.proofs.Ways.{some_is}
use Rattle.xf_time.specs.Ways.{LeadsTo, goes_on, behind_waits, not_branched, branched, branches, not_branched_back, branched_back, branches_back}
use Rattle.xf_time.specs.Ways.{Flow, NeverHeld, Way, flow_at, flow_of, held_here, held_later, holds_up, last, more, must_branch_back}
use Rattle.xf_time.specs.Steps.{StandsAtTurn, IsOver, traps, frees, Counts, stands, arrives, leaves_code, steps, ends, too_many, StepsAreCounted, StandsBehind}

-- one that may trap needn't branch back
trap_branches_not : (way : Onward) → may_trap way ≡ true → must_branch_back way ≡ 0
trap_branches_not GoesOn h = refl
trap_branches_not Waits h = refl
trap_branches_not (MayBranch k) h = refl
trap_branches_not (Branches k) h = refl
trap_branches_not (MayBranchBack k) h = refl
trap_branches_not (BranchesBack k) h = cc
trap_branches_not EndsThread h = refl
trap_branches_not AwaitsEvent h = refl
trap_branches_not LeadsElsewhere h = refl

-- one that never holds a thread up never pauses
pauses_not : (way : Onward) → holds_up way ≡ false → may_pause way ≡ false
pauses_not GoesOn h = refl
pauses_not Waits h = cc
pauses_not (MayBranch k) h = refl
pauses_not (Branches k) h = refl
pauses_not (MayBranchBack k) h = refl
pauses_not (BranchesBack k) h = refl
pauses_not EndsThread h = refl
pauses_not AwaitsEvent h = cc
pauses_not LeadsElsewhere h = refl

must_lead : (way : Onward) (i u j : ℕ) → LeadsTo way i u j → must_branch_back way ≤ u
must_lead way i u j goes_on = omega arith
must_lead way i u j behind_waits = omega arith
must_lead way i u j not_branched = omega arith
must_lead way i u j branched = omega arith
must_lead way i u j branches = omega arith
must_lead way i u j not_branched_back = omega arith
must_lead way i u j branched_back = omega arith
must_lead way i u j branches_back = omega arith

-- what stands at an index

flow_some : (b : Bool) (o : Option Instr) (way : Onward) → flow_at b o ≡ Some way → (x : Instr) × (o ≡ Some x) × (onward x ≡ way)
flow_some true o way h = cc
flow_some false None way h = cc
flow_some false (Some x) way h = (x, refl, some_is (onward x) way h)

flow_none : (b : Bool) (o : Option Instr) → flow_at b o ≡ None → (b ≡ true) ⊎ (o ≡ None)
flow_none true o h = inl refl
flow_none false None h = inr refl
flow_none false (Some x) h = cc

-- a way that takes at most so many backward branches
record AsLong (flow : Flow) (i b l : ℕ) : Type 0 where
  pub taken : ℕ
  pub few : taken ≤ b
  pub is : Way flow i taken l

module _ (L : Image) (s : Stim) (c t : ℕ) (is_end : ℕ → Bool) where
  abbrev flow : Flow
  flow = flow_of (home_of L s c) is_end

  -- steps that are counted are as many as a way's indices

  counted_way : (k n i b l : ℕ) → Counts L s c t is_end k n i b l → (l ≡ 0) ⊎ AsLong flow i b l
  counted_way k n i b l (stands at) = inl refl
  counted_way k n i b l (arrives at end) = inl refl
  counted_way k n i b l (leaves_code at none trap) = inl refl
  counted_way k n i b l (ends way at is step end none) = inr (record { taken = must_branch_back way; few = omega (arith, none); is = last way is })
  counted_way k n i b l (too_many way at is step lead there) = inl refl
  counted_way k n i b l (steps {k = k'} {j = j} {u = u} {l = l'} way at is step lead few rest) = go l' (counted_way k' (suc n) j (b - u) l' rest)
    where
      go : (l' : ℕ) → (l' ≡ 0) ⊎ AsLong flow j (b - u) l' → (suc l' ≡ 0) ⊎ AsLong flow i b (suc l')
      go l' (inl e) =
          let le = must_lead way i u j lead in
          inr (subst (λ x. AsLong flow i b (suc x)) (sym e) (record { taken = must_branch_back way; few = omega (arith, le, few); is = last way is }))
      go l' (inr w) = let less = w.few in inr (record { taken = u + w.taken; few = omega (arith, less, few); is = more way is lead w.is })

  -- one step in each round

  abbrev SomeCount : ℕ → ℕ → ℕ → ℕ → Type 0
  SomeCount k n i b = (l : ℕ) × Counts L s c t is_end k n i b l

  -- as many as there are from the next round on
  abbrev CountsOn : ℕ → ℕ → Type 0
  CountsOn k n = (j left : ℕ) → StandsAtTurn L s c t (suc n) j → NeverHeld flow j left → SomeCount k (suc n) j left

  module _
      (k n i b : ℕ) (at : StandsAtTurn L s c t n i) (free : NeverHeld flow i b) (way : Onward) (is : flow i ≡ Some way)
      (step : StepsOn L s n c t i way) (rest : CountsOn k n) where
    -- the step leads to j
    leads_to : (u j : ℕ) → LeadsTo way i u j → u ≤ b → StandsAtTurn L s c t (suc n) j → SomeCount (suc k) n i b
    leads_to u j lead enough there =
        let more = rest j (b - u) there (λ m le meets. free (u + m) (omega (arith, le, enough)) (held_later way is lead meets)) in
        (suc more.0, steps way at is step lead enough more.1)

    -- it takes a backward branch
    leads_back : (b' : ℕ) → b' ≡ b → (j : ℕ) → LeadsTo way i 1 j → StandsAtTurn L s c t (suc n) j → SomeCount (suc k) n i b
    leads_back zero e j lead there = (0, subst (λ x. Counts L s c t is_end (suc k) n i x 0) e (too_many way at is step lead there))
    leads_back (suc b') e j lead there = leads_to 1 j lead (omega (arith, e)) there

    over : IsOver (home_of L s c) step.part.core t → must_branch_back way ≡ 0 → SomeCount (suc k) n i b
    over end none = (1, ends way at is step end none)

  module _ (few : c < 4) (below : t < 8) where
    -- where it runs on
    stands_next : (n i : ℕ) (way : Onward) (left : CoreState) (h : LeavesBehindTurn L s n c t i way left) (j : ℕ) →
        RunsBehind way i h.thread → h.thread.pc ≡ j → StandsAtTurn L s c t (suc n) j
    stands_next n i way left h j r e = record { thread = h.thread; at_turn = h.next r.runs; pc_is = e; no_events = r.no_events }

    by_way : (k n i b : ℕ) → StandsAtTurn L s c t n i → NeverHeld flow i b → (way : Onward) → flow i ≡ Some way →
        (step : StepsOn L s n c t i way) → CountsOn k n → holds_up way ≡ false → (left : CoreState) →
        ((x : Thread) → slice_get left.threads t ≡ Some x → x.mode ≡ Unused → IsOver (home_of L s c) step.part.core t) →
        LeavesBehindTurn L s n c t i way left → SomeCount (suc k) n i b
    by_way k n i b at free GoesOn is step rest none left frees_it h =
        leads_to k n i b at free GoesOn is step rest 0 (i + 1) goes_on (omega arith) (stands_next n i GoesOn left h (i + 1) h.behind h.behind.successor)
    by_way k n i b at free (MayBranch x) is step rest none left frees_it h = elim h.behind.successor [
      | inl e ↦ leads_to k n i b at free (MayBranch x) is step rest 0 (i + 1) not_branched (omega arith) (stands_next n i (MayBranch x) left h (i + 1) h.behind e)
      | inr e ↦ leads_to k n i b at free (MayBranch x) is step rest 0 x branched (omega arith) (stands_next n i (MayBranch x) left h x h.behind e)
    ]
    by_way k n i b at free (Branches x) is step rest none left frees_it h =
        leads_to k n i b at free (Branches x) is step rest 0 x branches (omega arith) (stands_next n i (Branches x) left h x h.behind h.behind.successor)
    by_way k n i b at free (MayBranchBack x) is step rest none left frees_it h = elim h.behind.successor [
      | inl e ↦ leads_to k n i b at free (MayBranchBack x) is step rest 0 (i + 1) not_branched_back (omega arith) (stands_next n i (MayBranchBack x) left h (i + 1) h.behind e)
      | inr e ↦ leads_back k n i b at free (MayBranchBack x) is step rest b refl x branched_back (stands_next n i (MayBranchBack x) left h x h.behind e)
    ]
    by_way k n i b at free (BranchesBack x) is step rest none left frees_it h =
        leads_back k n i b at free (BranchesBack x) is step rest b refl x branches_back (stands_next n i (BranchesBack x) left h x h.behind h.behind.successor)
    by_way k n i b at free EndsThread is step rest none left frees_it h =
        over k n i b at free EndsThread is step rest (frees_it h.thread h.here h.behind) refl
    by_way k n i b at free Waits is step rest none left frees_it h = cc
    by_way k n i b at free AwaitsEvent is step rest none left frees_it h = cc
    by_way k n i b at free LeadsElsewhere is step rest none left frees_it h = cc

    by_did : (k n i b : ℕ) → StandsAtTurn L s c t n i → NeverHeld flow i b → (way : Onward) → flow i ≡ Some way →
        (step : StepsOn L s n c t i way) → CountsOn k n → holds_up way ≡ false → (did : Did CoreState) →
        slot (home_of L s c) step.part.core t ≡ did → StepsOrMay way (LeavesBehindTurn L s n c t i way) did → SomeCount (suc k) n i b
    by_did k n i b at free way is step rest none (Made left made sent) e h =
        by_way k n i b at free way is step rest none left (λ x here unused. frees left made sent x e here unused) h
    by_did k n i b at free way is step rest none (Traps kind) e h =
        over k n i b at free way is step rest (traps kind e) (trap_branches_not way h)
    by_did k n i b at free way is step rest none Paused e h = let both : true ≡ false = sym h ∙ pauses_not way none in cc
    by_did k n i b at free way is step rest none Idle e h = absurd h

    step_there : (n i : ℕ) (way : Onward) → StandsAtTurn L s c t n i → flow i ≡ Some way → holds_up way ≡ false → StepsOn L s n c t i way
    step_there n i way at is none =
        let x = flow_some (is_end i) (instr_at (home_of L s c) i) way is in
        let never = ap may_pause x.2 ∙ pauses_not way none in
        let there = ap (instr_at (home_of L s c)) at.pc_is ∙ x.1 in
        let step = steps_in_each_round L s n c t at.thread x.0 few below at.at_turn at.no_events there never in
        subst (λ w. StepsOn L s n c t i w) x.2 (subst (λ p. StepsOn L s n c t p (onward x.0)) at.pc_is step)

    -- behind the code
    traps_there : (n i : ℕ) (at : StandsAtTurn L s c t n i) → instr_at (home_of L s c) i ≡ None →
        slot (home_of L s c) at.at_turn.part.core t ≡ Traps NoCode
    traps_there n i at none =
        let among = at.at_turn.among in
        traps_behind_code (home_of L s c) at.at_turn.part.core t i at.thread
        (record { here = among.here; pc_is = at.pc_is; runs = among.runs; no_events = at.no_events }) none

    one_each : (k n i b : ℕ) → StandsAtTurn L s c t n i → NeverHeld flow i b → SomeCount k n i b
    one_each zero n i b at free = (0, stands at)
    one_each (suc k) n i b at free = go (flow i) refl (λ j left there f. one_each k (suc n) j left there f)
      where
        held_not : (way : Onward) (q : Bool) → flow i ≡ Some way → holds_up way ≡ q → q ≡ false
        held_not way false is e = refl
        held_not way true is e = absurd (free 0 (omega arith) (held_here way is e))

        at_end : (is_end i ≡ true) ⊎ (instr_at (home_of L s c) i ≡ None) → SomeCount (suc k) n i b
        at_end (inl end) = (0, arrives at end)
        at_end (inr none) = (0, leaves_code at none (traps_there n i at none))

        go : (o : Option Onward) → flow i ≡ o → CountsOn k n → SomeCount (suc k) n i b
        go None is rest = at_end (flow_none (is_end i) (instr_at (home_of L s c) i) is)
        go (Some way) is rest =
            let none = held_not way (holds_up way) is refl in
            let step = step_there n i way at is none in
            by_did k n i b at free way is step rest none (slot (home_of L s c) step.part.core t) refl step.makes

pub steps_are_counted : StepsAreCounted
steps_are_counted L s c t n i b most is_end few below at free longest k =
    let some = one_each L s c t is_end few below k n i b at free in
    (some.0, some.1, at_most some.0 (counted_way L s c t is_end k n i b some.0 some.1))
  where
    at_most : (l : ℕ) → (l ≡ 0) ⊎ AsLong (flow_of (home_of L s c) is_end) i b l → l ≤ most
    at_most l (inl e) = omega (arith, e)
    at_most l (inr w) = longest w.taken l w.few w.is

-- behind an instruction that was executed

pub stands_behind : StandsBehind
stands_behind L s c t n i x y few below h no_event not_elsewhere =
    let home = home_of L s c in
    let own = own_turns_lead_on home h.part.core t i h.before x h.runs_at h.instr_is in
    let made : LeavesBehind (onward x) t i h.left =
    subst (λ (did : Did CoreState). StepsOrMay (onward x) (LeavesBehind (onward x) t i) did) h.is_made own in
    let behind = go (onward x) no_event not_elsewhere
    (subst (λ (z : Thread). IsBehind (onward x) i z) (some_is made.thread y (sym made.here ∙ h.here)) made.behind) in
    let left_is = turn_made home h.part t h.left h.made h.sent h.is_made in
    let among : RunsAs (turn home h.part t).core.threads t y =
    record { here = ap (λ (k : CoreState). slice_get k.threads t) left_is ∙ h.here; runs = h.runs } in
    let next = runs_on_to_next_turn L s n c t y few below (record { part = h.part; is = h.at_part; among = among }) in
    (behind.successor, record { thread = y; at_turn = next; pc_is = refl; no_events = behind.no_events })
  where
    go : (way : Onward) → (way ≡ AwaitsEvent → ⊥) → (way ≡ LeadsElsewhere → ⊥) → IsBehind way i y → RunsBehind way i y
    go GoesOn f g l = l
    go Waits f g l = l
    go (MayBranch k) f g l = l
    go (Branches k) f g l = l
    go (MayBranchBack k) f g l = l
    go (BranchesBack k) f g l = l
    go EndsThread f g l = let both : Running ≡ Unused = sym h.runs ∙ l in cc
    go AwaitsEvent f g l = absurd (f refl)
    go LeadsElsewhere f g l = absurd (g refl)
