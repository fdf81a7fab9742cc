-- What a runner lacks for a `par` is there: threads, and a synchroniser.
use Rattle.std.proofs.Common.{◌≡◌, ◌⊎◌, inl, inr, ⊎_elim, ℕ, zero, suc, ◌+◌, ◌<◌, ◌≤◌, Bool, true, false, List, [], ◌∷◌, length, Option, Some, None, refl, sym, ap, ◌∙◌, subst, true≢false, arith}
use Rattle.std.specs.Prelude.{nat_eq, slice_get}
use Rattle.std.proofs.lemmas.Option.{slice_get_within}
use Rattle.xs_instr.specs.declared.state.CoreState.{CoreState}
use Rattle.xs_instr.specs.declared.state.Mode.{Mode as ThreadMode}
use Rattle.xs_instr.specs.declared.state.Mode.TheVariants.{Unused}
use Rattle.xs_instr.specs.declared.state.Thread.{Thread}
use Rattle.xs_instr.specs.Pool.{first_free, is_tied, is_unused, threads_taken}
use Rattle.xs_instr.specs.Resources.{is_num}
use Rattle.xc_kernel.specs.Plain as kernel
use Rattle.xc_meaning.specs.Counts.KernelCounts.{branch_count}
use Rattle.xc_meaning.specs.States.Items.{Item, does}
use Rattle.xc_meaning.specs.States.Worlds.{World}
use Rattle.xc_meaning.proofs.Basics.{some_given, none_given}
use Rattle.xc_disjoint.specs.Needs.{threads_on}
use Rattle.xc_invariants.specs.Needs.{AreOnce, IsIn, TakesOn, branches_in, takes, total_of}
use Rattle.xc_invariants.proofs.Always.{budgets_fit, budgets_suffice}
use Rattle.xl_par.specs.Acquired.{Acquired, IsAmong, one_if, unused_in}
use Rattle.xr_simulation.specs.Parents.{Parent, sync_before, syncs_of}
use Rattle.xr_simulation.specs.Roles.{AcquiredFits, IsParent, Role, Roles, empty, got_by, gives_back, opens, unused, used_by}
use Rattle.xr_simulation.specs.Runners.{Setting, Runner}
use Rattle.xr_simulation.specs.ThreadViews.{SpareFor, giving_back, held_in, sync_in}
use Rattle.xr_simulation.specs.NextStep.{IsFree, IsFreeThread, IsTiedThread, IsWaitingTied}
use Rattle.xr_simulation.proofs.Relation.Families.{parent_several, runner_present, some_untied}
use Rattle.xr_simulation.proofs.Relation.Sums.{among, among_few, among_true, first_behind, named_once, named_true, one_free, one_some, some_named, sum, sum_add, sum_most, sum_one, sum_same, sum_swap, taken_few, taken_in, total_least, total_swap, unused_many}
use Rattle.xr_simulation.proofs.OwnSteps.Branch.{Crew}

-- What a role stands for: an unused thread, one that was got, one that is used.
abbrev pub is_free : Role → ℕ
is_free unused = 1
is_free (got_by t) = 0
is_free (used_by r hand) = 0

abbrev pub is_got : Role → ℕ
is_got unused = 0
is_got (got_by t) = 1
is_got (used_by r hand) = 0

abbrev pub is_used : Role → ℕ
is_used unused = 0
is_used (got_by t) = 0
is_used (used_by r hand) = 1

-- a thread that is tied, and one that isn't
abbrev no_one : Option ℕ → ℕ
no_one None = 1
no_one (Some n) = 0

abbrev pub is_tied_one : Role → ℕ
is_tied_one unused = 0
is_tied_one (got_by t) = 0
is_tied_one (used_by r hand) = one_some r.tie

abbrev pub is_untied_one : Role → ℕ
is_untied_one unused = 0
is_untied_one (got_by t) = 0
is_untied_one (used_by r hand) = no_one r.tie

-- what is in its hand, and what it lacks
abbrev pub held_of : Role → List ℕ
held_of unused = []
held_of (got_by t) = []
held_of (used_by r hand) = held_in hand

abbrev pub lacks_in : Option Acquired → ℕ
lacks_in None = 0
lacks_in (Some hand) = hand.lacks

abbrev pub lacks_of : Role → ℕ
lacks_of unused = 0
lacks_of (got_by t) = 0
lacks_of (used_by r hand) = lacks_in hand

-- the synchroniser in its hand, and whether it has none there yet
abbrev pub sync_of : Role → Option ℕ
sync_of unused = None
sync_of (got_by t) = None
sync_of (used_by r hand) = sync_in hand

abbrev pub tie_of : Role → Option ℕ
tie_of unused = None
tie_of (got_by t) = None
tie_of (used_by r hand) = r.tie

abbrev pub lacks_sync_in : Option Acquired → ℕ
lacks_sync_in None = 0
lacks_sync_in (Some hand) = no_one hand.sync

abbrev pub lacks_sync : Role → ℕ
lacks_sync unused = 0
lacks_sync (got_by t) = 0
lacks_sync (used_by r hand) = lacks_sync_in hand

-- what its branch has in reserve
abbrev pub reserve_of : (budget : ℕ → ℕ) → Role → ℕ
reserve_of budget unused = 0
reserve_of budget (got_by t) = 0
reserve_of budget (used_by r hand) = budget r.branch

-- The branches that roles stand for.
abbrev branch_before : Role → List ℕ → List ℕ
branch_before unused ns = ns
branch_before (got_by t) ns = ns
branch_before (used_by r hand) ns = r.branch ∷ ns

abbrev branches_run : ℕ → (ℕ → Role) → List ℕ
branches_run zero f = []
branches_run (suc n) f = branch_before (f 0) (branches_run n (λ i. f (suc i)))

total_before : (budget : ℕ → ℕ) (o : Role) (ns : List ℕ) → total_of budget (branch_before o ns) ≡ reserve_of budget o + total_of budget ns
total_before budget unused ns = let z : total_of budget ns ≡ 0 + total_of budget ns = omega arith in z
total_before budget (got_by t) ns = let z : total_of budget ns ≡ 0 + total_of budget ns = omega arith in z
total_before budget (used_by r hand) ns = refl

total_run : (budget : ℕ → ℕ) (n : ℕ) (f : ℕ → Role) → total_of budget (branches_run n f) ≡ sum n (λ t. reserve_of budget (f t))
total_run budget zero f = refl
total_run budget (suc n) f =
    let a = total_before budget (f 0) (branches_run n (λ i. f (suc i))) in
    let b = total_run budget n (λ i. f (suc i)) in
    omega (arith, a, b)

-- which thread runs one of them
record IsRunBy (f : ℕ → Role) (n b : ℕ) : Type 0 where
  thread : ℕ
  below : thread < n
  runner : Runner
  hand : Option Acquired
  runs : f thread ≡ used_by runner hand
  branch : b ≡ runner.branch

next_run : (n b : ℕ) (f : ℕ → Role) → IsRunBy (λ i. f (suc i)) n b → IsRunBy f (suc n) b
next_run n b f h = record { thread = suc h.thread; below = let l = h.below in omega (arith, l); runner = h.runner; hand = h.hand; runs = h.runs; branch = h.branch }

found_before : (n b : ℕ) (f : ℕ → Role) (o : Role) (ns : List ℕ) → f 0 ≡ o → (IsIn b ns → IsRunBy (λ i. f (suc i)) n b) → IsIn b (branch_before o ns) → IsRunBy f (suc n) b
found_before n b f unused ns e next i = next_run n b f (next i)
found_before n b f (got_by t) ns e next i = next_run n b f (next i)
found_before n b f (used_by r hand) ns e next (inl s) = record { thread = 0; below = omega arith; runner = r; hand = hand; runs = e; branch = s }
found_before n b f (used_by r hand) ns e next (inr i) = next_run n b f (next i)

found_run : (n b : ℕ) (f : ℕ → Role) → IsIn b (branches_run n f) → IsRunBy f n b
found_run zero b f i = absurd i
found_run (suc n) b f i = found_before n b f (f 0) (branches_run n (λ k. f (suc k))) refl (found_run n b (λ k. f (suc k))) i

abbrev RunOnce : (ℕ → Role) → Type 0
RunOnce f = (t u : ℕ) (r s : Runner) (hand other : Option Acquired) → f t ≡ used_by r hand → f u ≡ used_by s other → r.branch ≡ s.branch → t ≡ u

once_before : (n : ℕ) (f : ℕ → Role) (o : Role) → f 0 ≡ o → RunOnce f → AreOnce (branches_run n (λ i. f (suc i))) → AreOnce (branch_before o (branches_run n (λ i. f (suc i))))
once_before n f unused e h on = on
once_before n f (got_by t) e h on = on
once_before n f (used_by r hand) e h on = (
  λ i. let k = found_run n r.branch (λ j. f (suc j)) i in
      let same : 0 ≡ suc k.thread = h 0 (suc k.thread) r k.runner hand k.hand e k.runs k.branch in
      omega (arith, same),
  on,
)

once_run : (n : ℕ) (f : ℕ → Role) → RunOnce f → AreOnce (branches_run n f)
once_run zero f h = tt
once_run (suc n) f h =
    once_before n f (f 0) refl h
    (once_run n (λ i. f (suc i)) (λ t u r s hand other e e' b. let q : suc t ≡ suc u = h (suc t) (suc u) r s hand other e e' b in omega (arith, q)))

-- What a hand says of the branch's next item.

same_count : (bs : kernel.Branches) → branches_in bs ≡ branch_count bs
same_count kernel.no_branch = refl
same_count (kernel.more_branches b bs) = ap suc (same_count bs)

takes_par : (items rest : List Item) (bs : kernel.Branches) → items ≡ does (kernel.par bs) ∷ rest → branch_count bs ≤ takes items
takes_par items rest bs e =
    let s = same_count bs in
    let l : branch_count bs ≤ takes (does (kernel.par bs) ∷ rest) = omega (arith, s) in
    subst (λ k. branch_count bs ≤ takes k) (sym e) l

-- its own thread, those that it has got, and those that it lacks
hand_taken : (items : List Item) (hand : Option Acquired) (budget : ℕ) → AcquiredFits items hand → takes items ≤ budget → 1 ≤ budget → 1 + length (held_in hand) + lacks_in hand ≤ budget
hand_taken items hand budget (empty e) most some =
    subst (λ h. 1 + length (held_in h) + lacks_in h ≤ budget) (sym e) (omega (arith, some))
hand_taken items hand budget (gives_back n e) most some =
    subst (λ h. 1 + length (held_in h) + lacks_in h ≤ budget) (sym e) (omega (arith, some))
hand_taken items hand budget (opens h bs rest e is count two none) most some =
    let t = takes_par items rest bs is in
    subst (λ k. 1 + length (held_in k) + lacks_in k ≤ budget) (sym e) (omega (arith, t, count, most))

-- one that opens a `par` takes two threads at least
hand_two : (items : List Item) (hand : Option Acquired) (budget : ℕ) → AcquiredFits items hand → takes items ≤ budget → 1 ≤ budget →
    ((n : ℕ) → hand ≡ giving_back n → 2 ≤ budget) → 1 + one_some (sync_in hand) + lacks_sync_in hand ≤ budget
hand_two items hand budget (empty e) most some back = subst (λ h. 1 + one_some (sync_in h) + lacks_sync_in h ≤ budget) (sym e) (omega (arith, some))
hand_two items hand budget (gives_back n e) most some back =
    let two = back n e in
    subst (λ h. 1 + one_some (sync_in h) + lacks_sync_in h ≤ budget) (sym e) (omega (arith, two))
hand_two items hand budget (opens h bs rest e is count two none) most some back =
    let t = takes_par items rest bs is in
    let one = one_or_other h.sync in
    subst (λ k. 1 + one_some (sync_in k) + lacks_sync_in k ≤ budget) (sym e) (omega (arith, t, two, most, one))
  where
    one_or_other : (o : Option ℕ) → one_some o + no_one o ≡ 1
    one_or_other None = refl
    one_or_other (Some n) = refl

-- where it has no synchroniser yet it has no threads, and lacks some
hand_lacks : (items : List Item) (hand : Acquired) → AcquiredFits items (Some hand) → hand.sync ≡ None → (hand.threads ≡ []) × (1 ≤ hand.lacks)
hand_lacks items hand (empty e) none = absurd (none_given (sym e))
hand_lacks items hand (gives_back n e) none =
    let z : None ≡ Some n = sym none ∙ ap (λ (h : Acquired). h.sync) (some_given e) in absurd (none_given z)
hand_lacks items hand (opens h bs rest e is count two got) none =
    let same : hand ≡ h = some_given e in
    let nothing : h.threads ≡ [] = got (ap (λ (k : Acquired). k.sync) (sym same) ∙ none) in
    let l = ap length nothing in
    let lacks : hand.lacks ≡ h.lacks = ap (λ (k : Acquired). k.lacks) same in
    (ap (λ (k : Acquired). k.threads) same ∙ nothing, omega (arith, l, count, two, lacks))

-- a thread that was got has a synchroniser
hand_has_sync : (items : List Item) (hand : Option Acquired) (u : ℕ) → AcquiredFits items hand → IsAmong (held_in hand) u → (n : ℕ) × (sync_in hand ≡ Some n)
hand_has_sync items hand u (empty e) i = absurd (subst (λ h. IsAmong (held_in h) u) e i)
hand_has_sync items hand u (gives_back n e) i = absurd (subst (λ h. IsAmong (held_in h) u) e i)
hand_has_sync items hand u (opens h bs rest e is count two got) i = by h.sync refl
  where
    by : (o : Option ℕ) → h.sync ≡ o → (n : ℕ) × (sync_in hand ≡ Some n)
    by None q = absurd (subst (λ l. IsAmong l u) (got q) (subst (λ k. IsAmong (held_in k) u) e i))
    by (Some n) q = (n, ap sync_in e ∙ q)

-- Threads and options.

free_at : (o : Option Thread) → IsFree o → (x : Thread) × (o ≡ Some x) × IsFreeThread x
free_at None h = absurd h
free_at (Some x) h = (x, refl, h)

waiting_at : (n : ℕ) (o : Option Thread) → IsWaitingTied n o → (x : Thread) × (o ≡ Some x) × IsTiedThread n x
waiting_at n None h = absurd h
waiting_at n (Some x) h = (x, refl, h)

-- a synchroniser among those of the parents is one's
sync_parent : (ps : List Parent) (n : ℕ) → IsAmong (syncs_of ps) n → (p : Parent) × IsParent ps p × (p.sync ≡ Some n)
sync_parent [] n i = absurd i
sync_parent (q ∷ qs) n i = by q.sync refl (sync_parent qs n)
  where
    by : (o : Option ℕ) → q.sync ≡ o → (IsAmong (syncs_of qs) n → (p : Parent) × IsParent qs p × (p.sync ≡ Some n)) → (p : Parent) × IsParent (q ∷ qs) p × (p.sync ≡ Some n)
    by None e next =
        let m : IsAmong (syncs_of qs) n = subst (λ o. IsAmong (sync_before o (syncs_of qs)) n) e i in
        let h = next m in
        (h.0, inr h.1, h.2)
    by (Some k) e next =
        let m : IsAmong (k ∷ syncs_of qs) n = subst (λ o. IsAmong (sync_before o (syncs_of qs)) n) e i in
        ⊎_elim (λ (s : n ≡ k). (q, inl refl, e ∙ ap (λ j. Some j) (sym s))) (λ l. let h = next l in (h.0, inr h.1, h.2)) m

-- and the other way round
pub parent_sync : (ps : List Parent) (n : ℕ) (p : Parent) → IsParent ps p → p.sync ≡ Some n → IsAmong (syncs_of ps) n
parent_sync [] n p i e = absurd i
parent_sync (q ∷ qs) n p (inl s) e =
    let here : q.sync ≡ Some n = ap (λ (k : Parent). k.sync) (sym s) ∙ e in
    let m : IsAmong (n ∷ syncs_of qs) n = inl refl in
    subst (λ o. IsAmong (sync_before o (syncs_of qs)) n) (sym here) m
parent_sync (q ∷ qs) n p (inr i) e = behind q.sync (parent_sync qs n p i e)
  where
    behind : (o : Option ℕ) → IsAmong (syncs_of qs) n → IsAmong (sync_before o (syncs_of qs)) n
    behind None m = m
    behind (Some k) m = inr m

mode_unused : (m : ThreadMode) → m ≡ Unused → is_unused m ≡ true
mode_unused m e = ap is_unused e

module _ (g : Setting) (who : Roles) (x : World) (c : ℕ) (a : CoreState) (crew : Crew g who x c a) where
  abbrev budget : ℕ → ℕ
  budget = crew.reserves.budget

  abbrev role : ℕ → Role
  role t = who c t

  below_eight : (t : ℕ) (r : Runner) (hand : Option Acquired) → role t ≡ used_by r hand → t < 8
  below_eight t r hand e = crew.roles.few c t (λ q. let z : used_by r hand ≡ unused = sym e ∙ q in absurd cc)

  -- What all have in reserve.

  takes_on : (b : ℕ) → IsIn b (branches_run 8 role) → TakesOn (length g.program.roots) x.branches c b
  takes_on b i =
      let h = found_run 8 b role i in
      let w = crew.works h.thread h.runner h.hand h.runs in
      subst (TakesOn (length g.program.roots) x.branches c) (sym h.branch)
      (record {
        present = runner_present g x crew.lawful who crew.roles c crew.works h.thread h.runner h.hand h.runs;
        branch = w.branch;
        is = w.known;
        goes = w.goes;
        on_core = w.core ∙ crew.roles.core c h.thread h.runner h.hand h.runs;
      })

  all_within : sum 8 (λ t. reserve_of budget (role t)) ≤ threads_on g.program c
  all_within =
      let once = once_run 8 role (λ t u r s hand other e f q. (crew.roles.branches c u c t s.branch s r other hand f e (inl refl) (inl (sym q))).1) in
      let fit = budgets_fit g.program x budget crew.lawful crew.reserves.budgeted c (branches_run 8 role) once takes_on in
      let total = total_run budget 8 role in
      let needed = crew.needed in
      omega (arith, fit, total, needed)

  -- what one has covers what it takes
  runner_takes : (t : ℕ) (r : Runner) (hand : Option Acquired) → role t ≡ used_by r hand → 1 + length (held_in hand) + lacks_in hand ≤ budget r.branch
  runner_takes t r hand e =
      let w = crew.works t r hand e in
      hand_taken w.branch.items hand (budget r.branch) w.in_hand
      (budgets_suffice g.program x budget crew.reserves.budgeted r.branch w.branch w.known w.goes)
      (crew.reserves.budgeted.some r.branch w.branch w.known)

  -- and its synchroniser
  runner_syncs : (t : ℕ) (r : Runner) (hand : Option Acquired) → role t ≡ used_by r hand → 1 + one_some (sync_in hand) + lacks_sync_in hand ≤ budget r.branch
  runner_syncs t r hand e =
      let w = crew.works t r hand e in
      hand_two w.branch.items hand (budget r.branch) w.in_hand
      (budgets_suffice g.program x budget crew.reserves.budgeted r.branch w.branch w.known w.goes)
      (crew.reserves.budgeted.some r.branch w.branch w.known)
      (λ n q. crew.reserves.gives_back c t n r (subst (λ (h : Option Acquired). role t ≡ used_by r h) q e))

  by_roles : (F : Role → ℕ) → ((r : Runner) (hand : Option Acquired) (t : ℕ) → role t ≡ used_by r hand → F (used_by r hand) ≤ budget r.branch) → F unused ≡ 0 → ((t : ℕ) → F (got_by t) ≡ 0) → (t : ℕ) → F (role t) ≤ reserve_of budget (role t)
  by_roles F used none got t = by (role t) refl
    where
      by : (o : Role) → role t ≡ o → F o ≤ reserve_of budget o
      by unused e = let z = none in omega (arith, z)
      by (got_by u) e = let z = got u in omega (arith, z)
      by (used_by r hand) e = used r hand t e

  -- Threads.

  taken_within : sum 8 (λ t. is_used (role t)) + sum 8 (λ t. length (held_of (role t))) + sum 8 (λ t. lacks_of (role t)) ≤ threads_on g.program c
  taken_within =
      let each = sum_most 8 (λ t. is_used (role t) + length (held_of (role t)) + lacks_of (role t)) (λ t. reserve_of budget (role t))
      (λ t lt. by_roles (λ o. is_used o + length (held_of o) + lacks_of o) (λ r hand u e. runner_takes u r hand e) refl (λ u. refl) t) in
      let s = sum_add 8 (λ t. is_used (role t) + length (held_of (role t))) (λ t. lacks_of (role t)) in
      let s' = sum_add 8 (λ t. is_used (role t)) (λ t. length (held_of (role t))) in
      let w = all_within in
      omega (arith, each, s, s', w)

  -- threads that were got are in hands
  got_held : (u : ℕ) → is_got (role u) ≤ sum 8 (λ t. one_if (among (held_of (role t)) u))
  got_held u = by (role u) refl
    where
      by : (o : Role) → role u ≡ o → is_got o ≤ sum 8 (λ t. one_if (among (held_of (role t)) u))
      by unused e = omega arith
      by (used_by r hand) e = omega arith
      by (got_by t) e =
          let h = crew.roles.got c u t e in
          let runs = h.2 in
          let one : one_if (among (held_of (role t)) u) ≡ 1 = ap (λ o. one_if (among (held_of o) u)) runs ∙ ap one_if (among_true (held_in h.1) u h.3) in
          let s = sum_one 8 t (λ k. one_if (among (held_of (role k)) u)) (below_eight t h.0 h.1 runs) in
          omega (arith, one, s)

  got_within : sum 8 (λ u. is_got (role u)) ≤ sum 8 (λ t. length (held_of (role t)))
  got_within =
      let each = sum_most 8 (λ u. is_got (role u)) (λ u. sum 8 (λ t. one_if (among (held_of (role t)) u))) (λ u lt. got_held u) in
      let swap = sum_swap 8 8 (λ u t. one_if (among (held_of (role t)) u)) in
      let few = sum_most 8 (λ t. sum 8 (λ u. one_if (among (held_of (role t)) u))) (λ t. length (held_of (role t))) (λ t lt. among_few 8 (held_of (role t))) in
      omega (arith, each, swap, few)

  -- each thread is one of the three
  one_of_three : (o : Role) → is_free o + is_got o + is_used o ≡ 1
  one_of_three unused = refl
  one_of_three (got_by t) = refl
  one_of_three (used_by r hand) = refl

  eight : sum 8 (λ t. is_free (role t)) + sum 8 (λ t. is_got (role t)) + sum 8 (λ t. is_used (role t)) ≡ 8
  eight =
      let ones : sum 8 (λ t. is_free (role t) + is_got (role t) + is_used (role t)) ≡ 8 = sum_same 8 (λ t. is_free (role t) + is_got (role t) + is_used (role t)) (λ t. 1) (λ t. one_of_three (role t)) in
      let s = sum_add 8 (λ t. is_free (role t) + is_got (role t)) (λ t. is_used (role t)) in
      let s' = sum_add 8 (λ t. is_free (role t)) (λ t. is_got (role t)) in
      omega (arith, ones, s, s')

  -- one of no use is unused
  free_unused : (i : ℕ) (y : Thread) → slice_get a.threads i ≡ Some y → is_free (role i) ≤ one_if (is_unused y.mode)
  free_unused i y at = by (role i) refl
    where
      by : (o : Role) → role i ≡ o → is_free o ≤ one_if (is_unused y.mode)
      by (got_by t) e = omega arith
      by (used_by r hand) e = omega arith
      by unused e =
          let l = slice_get_within a.threads i y at in
          let n = crew.used.threads in
          let f = free_at (slice_get a.threads i) (crew.used.unused i (omega (arith, l, n)) e) in
          let same : f.0 ≡ y = some_given (sym f.1 ∙ at) in
          let m = ap one_if (mode_unused y.mode (ap (λ (k : Thread). k.mode) (sym same) ∙ f.2.unused)) in
          omega (arith, m)

  unused_enough : sum 8 (λ t. is_free (role t)) ≤ unused_in a.threads
  unused_enough =
      let many = unused_many a.threads (λ t. is_free (role t)) free_unused in
      subst (λ n. sum n (λ t. is_free (role t)) ≤ unused_in a.threads) crew.used.threads many

  lacks_there : (t : ℕ) (r : Runner) (hand : Option Acquired) → role t ≡ used_by r hand → lacks_in hand ≤ unused_in a.threads
  lacks_there t r hand e =
      let here : lacks_of (role t) ≡ lacks_in hand = ap lacks_of e in
      let one = sum_one 8 t (λ k. lacks_of (role k)) (below_eight t r hand e) in
      let taken = taken_within in
      let got = got_within in
      let all = eight in
      let enough = unused_enough in
      let few = crew.few in
      omega (arith, here, one, taken, got, all, enough, few)

  -- the thread that one gets who lacks some is one of those that the core needs
  used_not_free : (i : ℕ) (y : Thread) → slice_get a.threads i ≡ Some y → is_unused y.mode ≡ false → 1 ≤ is_got (role i) + is_used (role i)
  used_not_free i y at taken =
      let z = free_unused i y at in
      let n = ap one_if taken in
      let o = one_of_three (role i) in
      omega (arith, z, n, o)

  pub first_unused_inside : (t u : ℕ) (r : Runner) (hand : Acquired) → who c t ≡ used_by r (Some hand) → 1 ≤ hand.lacks →
      first_free (threads_taken a.threads) 0 ≡ Some u → u < threads_on g.program c
  first_unused_inside t u r hand e lacks first =
      let behind = subst (λ n. u ≤ 0 + sum n (λ i. is_got (role i) + is_used (role i))) crew.used.threads
      (first_behind a.threads (λ i. is_got (role i) + is_used (role i)) 0 u used_not_free first) in
      let s = sum_add 8 (λ i. is_got (role i)) (λ i. is_used (role i)) in
      let here : lacks_of (role t) ≡ hand.lacks = ap lacks_of e in
      let one = sum_one 8 t (λ k. lacks_of (role k)) (below_eight t r (Some hand) e) in
      let taken = taken_within in
      let got = got_within in
      omega (arith, behind, s, here, one, taken, got, lacks)

  -- Synchronisers.

  -- a thread is tied to each one of a parent's
  tied_there : (t n : ℕ) (r : Runner) (hand : Option Acquired) → role t ≡ used_by r hand → IsAmong (syncs_of r.parents) n → 1 ≤ sum 8 (λ u. one_if (is_num (tie_of (role u)) n))
  tied_there t n r hand e i =
      let w = crew.works t r hand e in
      let p = sync_parent r.parents n i in
      let several = parent_several g x crew.lawful r.core r.family r.parents r.branch n p.0 w.parents p.1 p.2 in
      let k = crew.roles.kids c t n 1 r hand p.0 e p.1 p.2 (omega arith) (omega (arith, several)) in
      let runs = k.3 in
      let one : one_if (is_num (tie_of (role k.0)) n) ≡ 1 = ap one_if (named_true (tie_of (role k.0)) n (ap tie_of runs ∙ k.4)) in
      let s = sum_one 8 k.0 (λ u. one_if (is_num (tie_of (role u)) n)) (below_eight k.0 k.1 k.2 runs) in
      omega (arith, one, s)

  tied_some : (o : Role) → one_some (tie_of o) ≡ is_tied_one o
  tied_some unused = refl
  tied_some (got_by t) = refl
  tied_some (used_by r hand) = refl

  used_parts : (o : Role) → is_tied_one o + is_untied_one o ≡ is_used o
  used_parts unused = refl
  used_parts (got_by t) = refl
  used_parts (used_by r hand) = one_or_other r.tie
    where
      one_or_other : (o : Option ℕ) → one_some o + no_one o ≡ 1
      one_or_other None = refl
      one_or_other (Some n) = refl

  -- some thread isn't tied
  untied_one : (t : ℕ) (r : Runner) (hand : Option Acquired) → role t ≡ used_by r hand → 1 ≤ sum 8 (λ u. is_untied_one (role u))
  untied_one t r hand e =
      let u = some_untied g x crew.lawful who crew.roles c crew.works t r hand e in
      let one : is_untied_one (role u.thread) ≡ 1 = ap is_untied_one u.runs ∙ ap no_one u.untied in
      let s = sum_one 8 u.thread (λ k. is_untied_one (role k)) (below_eight u.thread u.runner u.hand u.runs) in
      omega (arith, one, s)

  used_sum : sum 8 (λ t. is_used (role t)) ≡ sum 8 (λ t. is_tied_one (role t)) + sum 8 (λ t. is_untied_one (role t))
  used_sum =
      let s = sum_add 8 (λ t. is_tied_one (role t)) (λ t. is_untied_one (role t)) in
      let e = sum_same 8 (λ t. is_tied_one (role t) + is_untied_one (role t)) (λ t. is_used (role t)) (λ t. used_parts (role t)) in
      omega (arith, s, e)

  -- one that opens a `par` has at most six in its parents
  pub depth_small : (t : ℕ) (r : Runner) (hand : Acquired) → who c t ≡ used_by r (Some hand) → (1 ≤ length hand.threads) ⊎ (1 ≤ hand.lacks) → length (syncs_of r.parents) ≤ 6
  depth_small t r hand e some =
      let ns = syncs_of r.parents in
      let least = total_least (λ n. sum 8 (λ u. one_if (is_num (tie_of (role u)) n))) ns (λ n i. tied_there t n r (Some hand) e i) in
      let swap = total_swap 8 (λ n u. one_if (is_num (tie_of (role u)) n)) ns in
      let once = crew.roles.owned_once c t r (Some hand) e in
      let each = sum_most 8 (λ u. total_of (λ n. one_if (is_num (tie_of (role u)) n)) ns) (λ u. is_tied_one (role u))
      (λ u lt. let s = some_named (tie_of (role u)) ns once in let q = tied_some (role u) in omega (arith, s, q)) in
      let untied = untied_one t r (Some hand) e in
      let parts = used_sum in
      let taken = taken_within in
      let here : lacks_of (role t) ≡ hand.lacks = ap lacks_of e in
      let here' : length (held_of (role t)) ≡ length hand.threads = ap (λ o. length (held_of o)) e in
      let one = sum_one 8 t (λ k. lacks_of (role k)) (below_eight t r (Some hand) e) in
      let one' = sum_one 8 t (λ k. length (held_of (role k))) (below_eight t r (Some hand) e) in
      let few = crew.few in
      ⊎_elim
      (λ (m : 1 ≤ length hand.threads). let z : length (syncs_of r.parents) ≤ 6 = omega (arith, least, swap, each, untied, parts, taken, here', one', m, few) in z)
      (λ (m : 1 ≤ hand.lacks). let z : length (syncs_of r.parents) ≤ 6 = omega (arith, least, swap, each, untied, parts, taken, here, one, m, few) in z)
      some

  -- each synchroniser that is taken has a thread that is tied to it, or is in a hand
  abbrev stands_for : ℕ → ℕ → ℕ
  stands_for n u = one_if (is_num (tie_of (role u)) n) + one_if (is_num (sync_of (role u)) n)

  taken_stands : (n : ℕ) → slice_get a.syncs n ≡ Some true → 1 ≤ sum 8 (λ u. stands_for n u)
  taken_stands n at =
      let h = crew.used.taken n at in
      let t = h.0 in
      let r = h.1 in
      let hand = h.2 in
      let s = sum_add 8 (λ u. one_if (is_num (tie_of (role u)) n)) (λ u. one_if (is_num (sync_of (role u)) n)) in
      ⊎_elim
      (λ (i : IsAmong (syncs_of r.parents) n). let k = tied_there t n r hand h.3 i in let z : 1 ≤ sum 8 (λ u. stands_for n u) = omega (arith, s, k) in z)
      (λ (q : sync_in hand ≡ Some n).
      let one : one_if (is_num (sync_of (role t)) n) ≡ 1 = ap one_if (named_true (sync_of (role t)) n (ap sync_of h.3 ∙ q)) in
      let k = sum_one 8 t (λ u. one_if (is_num (sync_of (role u)) n)) (below_eight t r hand h.3) in
      let z : 1 ≤ sum 8 (λ u. stands_for n u) = omega (arith, s, one, k) in z)
      h.4

  -- so no more are taken than there are tied threads and synchronisers in hands
  syncs_few : taken_in a.syncs ≤ sum 8 (λ u. is_tied_one (role u)) + sum 8 (λ u. one_some (sync_of (role u)))
  syncs_few =
      let few = subst (λ m. taken_in a.syncs ≤ sum m (λ n. sum 8 (λ u. stands_for n u))) crew.used.syncs (taken_few a.syncs (λ n. sum 8 (λ u. stands_for n u)) taken_stands) in
      let swap = sum_swap 7 8 stands_for in
      let each = sum_most 8 (λ u. sum 7 (λ n. stands_for n u)) (λ u. is_tied_one (role u) + one_some (sync_of (role u)))
      (λ u lt.
      let s = sum_add 7 (λ n. one_if (is_num (tie_of (role u)) n)) (λ n. one_if (is_num (sync_of (role u)) n)) in
      let p = named_once 7 (tie_of (role u)) in
      let q = named_once 7 (sync_of (role u)) in
      let o = tied_some (role u) in
      omega (arith, s, p, q, o)) in
      let s = sum_add 8 (λ u. is_tied_one (role u)) (λ u. one_some (sync_of (role u))) in
      omega (arith, few, swap, each, s)

  -- and a synchroniser is free for one that has none yet
  sync_there : (t : ℕ) (r : Runner) (hand : Acquired) → role t ≡ used_by r (Some hand) → hand.sync ≡ None → (n : ℕ) × (slice_get a.syncs n ≡ Some false)
  sync_there t r hand e none =
      let each = sum_most 8 (λ u. is_used (role u) + one_some (sync_of (role u)) + lacks_sync (role u)) (λ u. reserve_of budget (role u))
      (λ u lt. by_roles (λ o. is_used o + one_some (sync_of o) + lacks_sync o) (λ q other k f. runner_syncs k q other f) refl (λ k. refl) u) in
      let s = sum_add 8 (λ u. is_used (role u) + one_some (sync_of (role u))) (λ u. lacks_sync (role u)) in
      let s' = sum_add 8 (λ u. is_used (role u)) (λ u. one_some (sync_of (role u))) in
      let within = all_within in
      let parts = used_sum in
      let untied = untied_one t r (Some hand) e in
      let here : lacks_sync (role t) ≡ 1 = ap lacks_sync e ∙ ap no_one none in
      let one = sum_one 8 t (λ u. lacks_sync (role u)) (below_eight t r (Some hand) e) in
      let few = crew.few in
      let syncs = syncs_few in
      let seven = crew.used.syncs in
      one_free a.syncs (omega (arith, each, s, s', within, parts, untied, here, one, few, syncs, seven))

  -- Events and ties.

  -- an unused thread takes no events
  no_events : (u : ℕ) (y : Thread) → slice_get a.threads u ≡ Some y → y.mode ≡ Unused → y.event_bit ≡ false
  no_events u y at mode = by (role u) refl
    where
      by : (o : Role) → role u ≡ o → y.event_bit ≡ false
      by unused e =
          let l = slice_get_within a.threads u y at in
          let n = crew.used.threads in
          let f = free_at (slice_get a.threads u) (crew.used.unused u (omega (arith, l, n)) e) in
          let same : f.0 ≡ y = some_given (sym f.1 ∙ at) in
          ap (λ (k : Thread). k.event_bit) (sym same) ∙ f.2.no_events
      by (got_by t) e =
          let h = crew.roles.got c u t e in
          let w = crew.works t h.0 h.1 h.2 in
          let n = hand_has_sync w.branch.items h.1 u w.in_hand h.3 in
          let f = waiting_at n.0 (slice_get a.threads u) (crew.used.got u t n.0 h.0 h.1 e h.2 n.1) in
          let same : f.0 ≡ y = some_given (sym f.1 ∙ at) in
          ap (λ (k : Thread). k.event_bit) (sym same) ∙ f.2.no_events
      by (used_by r hand) e =
          let h = crew.threads u r hand e in
          let place = crew.roles.thread c u r hand e in
          let same : h.thread ≡ y = some_given (sym h.there ∙ ap (slice_get a.threads) place ∙ at) in
          absurd (h.used (ap (λ (k : Thread). k.mode) same ∙ mode))

  -- no thread is tied to a free synchroniser
  not_named : (o : Option ℕ) (n : ℕ) → slice_get a.syncs n ≡ Some false → ((m : ℕ) → o ≡ Some m → slice_get a.syncs m ≡ Some true) → is_num o n ≡ false
  not_named None n free taken = refl
  not_named (Some m) n free taken = by (nat_eq m n) refl
    where
      by : (b : Bool) → nat_eq m n ≡ b → nat_eq m n ≡ false
      by false q = q
      by true q =
          let same : m ≡ n = grind (arith, q) in
          let both : true ≡ false = some_given (sym (taken m refl) ∙ ap (slice_get a.syncs) same ∙ free) in
          absurd (true≢false both)

  untied : (n u : ℕ) (y : Thread) → slice_get a.syncs n ≡ Some false → slice_get a.threads u ≡ Some y → is_tied y n ≡ false
  untied n u y free at = by (role u) refl
    where
      by : (o : Role) → role u ≡ o → is_tied y n ≡ false
      by unused e =
          let l = slice_get_within a.threads u y at in
          let k = crew.used.threads in
          let f = free_at (slice_get a.threads u) (crew.used.unused u (omega (arith, l, k)) e) in
          let same : f.0 ≡ y = some_given (sym f.1 ∙ at) in
          ap (λ o. is_num o n) (ap (λ (z : Thread). z.tie) (sym same) ∙ f.2.untied)
      by (got_by t) e =
          let h = crew.roles.got c u t e in
          let w = crew.works t h.0 h.1 h.2 in
          let s = hand_has_sync w.branch.items h.1 u w.in_hand h.3 in
          let f = waiting_at s.0 (slice_get a.threads u) (crew.used.got u t s.0 h.0 h.1 e h.2 s.1) in
          let same : f.0 ≡ y = some_given (sym f.1 ∙ at) in
          let tie : y.tie ≡ Some s.0 = ap (λ (z : Thread). z.tie) (sym same) ∙ f.2.tied in
          not_named y.tie n free (λ m q. crew.used.owned t m h.0 h.1 h.2 (inr (s.1 ∙ sym tie ∙ q)))
      by (used_by r hand) e =
          let h = crew.threads u r hand e in
          let place = crew.roles.thread c u r hand e in
          let same : h.thread ≡ y = some_given (sym h.there ∙ ap (slice_get a.threads) place ∙ at) in
          let tie : y.tie ≡ r.tie = ap (λ (z : Thread). z.tie) (sym same) ∙ h.tied in
          not_named y.tie n free
          (λ m q.
          let o = crew.roles.tied c u m r hand e (sym tie ∙ q) in
          crew.used.owned o.0 m o.2 o.3 o.5 (inl (parent_sync o.2.parents m o.4 o.6 o.7)))

  -- What a runner lacks is there, whatever is in its hand.
  pub spare_for : (t : ℕ) (r : Runner) (hand : Option Acquired) → who c t ≡ used_by r hand → SpareFor hand a
  spare_for t r None e = tt
  spare_for t r (Some hand) e = record {
    threads = lacks_there t r (Some hand) e;
    sync = sync_there t r hand e;
    few_threads = let n = crew.used.threads in omega (arith, n);
    few_syncs = let n = crew.used.syncs in omega (arith, n);
    no_events = no_events;
    untied = untied;
  }
