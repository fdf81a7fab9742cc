-- A thread at rest: what it has in hand before its first item, how few synchronisers are its own, and how it stands.
use Rattle.std.proofs.Common.{◌≡◌, ℕ, ◌+◌, ◌*◌, ◌<◌, ◌≤◌, inr, [], ◌∷◌, List, length, Option, Some, None, refl, sym, ap, ◌∙◌, subst, arith}
use Rattle.std.proofs.Math.Nat.{mul-le-mul_left}
use Rattle.std.specs.Prelude.{Bool, true}
use Rattle.xs_instr.specs.Resources.{is_num}
use Rattle.xs_instr.specs.declared.state.CoreState.{CoreState}
use Rattle.xs_instr.specs.declared.state.Mode.TheVariants.{Running}
use Rattle.xc_kernel.specs.Plain as kernel
use Rattle.xc_invariants.specs.Needs.{total_of}
use Rattle.xc_meaning.specs.Counts.KernelCounts.{branch_count, kernel_bound}
use Rattle.xc_meaning.specs.States.Branches.{Branch, ended, erred, runs}
use Rattle.xc_meaning.specs.States.Items.{Item, awaits, chooses, does, ends, fixed, mark, says, stamps, stores, transaction_end}
use Rattle.xc_meaning.specs.States.Worlds.{World}
use Rattle.xl_par.specs.Acquired.{Acquired, IsAmong, one_if, nothing_acquired}
use Rattle.xr_match.specs.Lives.{Life}
use Rattle.xr_simulation.specs.Transfers.{spared}
use Rattle.xr_simulation.specs.Roles.{AcquiredFits, IsOnce, ParentsWait, empty, opens}
use Rattle.xr_simulation.specs.Runners.{Runner, Setting, footprint_of}
use Rattle.xr_simulation.specs.ThreadViews.{held_in, running_so, sync_in}
use Rattle.xr_simulation.specs.MatchStates.{RunsBranch, ProgressBy, ProgressWith, ThreadIs}
use Rattle.xr_simulation.specs.NextStep.{Rest, cost, first_hand, is_watching}
use Rattle.xr_simulation.specs.Living.{opened, opens_by, some_more}
use Rattle.xr_simulation.proofs.Relation.Sums.{some_named, sum, sum_most, sum_one, total_least, total_swap, named_true}
use Rattle.xr_simulation.proofs.RelyGuarantee.Events.{events_on}

-- Differing numbers below seven are at most seven.

seven : sum 7 (λ u. 1) ≡ 7
seven = refl

few_once : (ns : List ℕ) → IsOnce ns → ((n : ℕ) → IsAmong ns n → n < 7) → length ns ≤ 7
few_once ns once below =
    let each = total_least (λ n. sum 7 (λ u. one_if (is_num (Some u) n))) ns (λ n m.
    let one = sum_one 7 n (λ u. one_if (is_num (Some u) n)) (below n m) in
    let met : one_if (is_num (Some n) n) ≡ 1 = ap one_if (named_true (Some n) n refl) in
    let z : 1 ≤ sum 7 (λ u. one_if (is_num (Some u) n)) = omega (arith, one, met) in
    z) in
    let swap = total_swap 7 (λ n u. one_if (is_num (Some u) n)) ns in
    let most = sum_most 7 (λ u. total_of (λ n. one_if (is_num (Some u) n)) ns) (λ u. 1) (λ u lt. some_named (Some u) ns once) in
    omega (arith, each, swap, most, seven)

-- the first of them is one more
pub few_behind : (n : ℕ) (ns : List ℕ) → IsOnce (n ∷ ns) → ((m : ℕ) → IsAmong (n ∷ ns) m → m < 7) → length ns ≤ 6
few_behind n ns once below = let most = few_once (n ∷ ns) once below in omega (arith, most)

-- What is in hand before a first item.

pub first_held : (items : List Item) → AcquiredFits items (first_hand items) × (held_in (first_hand items) ≡ []) × (sync_in (first_hand items) ≡ None)
first_held [] = (empty refl, refl, refl)
first_held (does (kernel.par kernel.no_branch) ∷ rest) = (empty refl, refl, refl)
first_held (does (kernel.par (kernel.more_branches b kernel.no_branch)) ∷ rest) = (empty refl, refl, refl)
first_held (does (kernel.par (kernel.more_branches b (kernel.more_branches c bs))) ∷ rest) =
    (opens (nothing_acquired (branch_count (kernel.more_branches c bs))) (kernel.more_branches b (kernel.more_branches c bs)) rest refl refl (omega arith) (omega arith) (λ e. refl), refl, refl)
first_held (does (kernel.set_zero v) ∷ rest) = (empty refl, refl, refl)
first_held (does (kernel.set place x) ∷ rest) = (empty refl, refl, refl)
first_held (does (kernel.output o) ∷ rest) = (empty refl, refl, refl)
first_held (does (kernel.input i) ∷ rest) = (empty refl, refl, refl)
first_held (does (kernel.if_then x a b) ∷ rest) = (empty refl, refl, refl)
first_held (does (kernel.loop x a b) ∷ rest) = (empty refl, refl, refl)
first_held (does (kernel.block n a) ∷ rest) = (empty refl, refl, refl)
first_held (does (kernel.exit n) ∷ rest) = (empty refl, refl, refl)
first_held (does (kernel.select cases otherwise pos) ∷ rest) = (empty refl, refl, refl)
first_held (does (kernel.transaction c is_master ss start close) ∷ rest) = (empty refl, refl, refl)
first_held (says i ∷ rest) = (empty refl, refl, refl)
first_held (stores place v ∷ rest) = (empty refl, refl, refl)
first_held (stamps resource place v ∷ rest) = (empty refl, refl, refl)
first_held (mark n ∷ rest) = (empty refl, refl, refl)
first_held (awaits c pos ∷ rest) = (empty refl, refl, refl)
first_held (transaction_end c is_master pos ∷ rest) = (empty refl, refl, refl)
first_held (chooses choices otherwise ∷ rest) = (empty refl, refl, refl)
first_held (fixed i v counter ∷ rest) = (empty refl, refl, refl)
first_held (ends ∷ rest) = (empty refl, refl, refl)

-- without a synchroniser it opens no `par`
pub none_opened : (hand : Option Acquired) → sync_in hand ≡ None → opened hand ≡ 0
none_opened None e = refl
none_opened (Some hand) e = ap (λ o. opens_by o (some_more (length hand.threads) hand.lacks)) e

-- a family that has done more has no smaller bound
pub bound_more : (most steps left actions more : ℕ) → steps + left ≤ most * (actions + 1) → actions ≤ more → steps + left ≤ most * (more + 1)
bound_more most steps left actions more is le =
    let one : actions + 1 ≤ more + 1 = omega (arith, le) in
    let grown = mul-le-mul_left most one in
    omega (arith, grown, is)

-- A runner at rest stands so.
pub resting : (g : Setting) (s : Runner) (may : Bool) (a : CoreState) (y : World) (life : Life) (more : ℕ → ℕ) (next : Branch) (j left : ℕ) → may ≡ true → next.core ≡ s.core → next.family ≡ s.family → s.footprint ≡ footprint_of next.items →
    ParentsWait g y s.core s.family s.parents s.branch → next.sides ≡ s.sides → next.inside ≡ s.inside → s.transfer ≡ None →
    next.mode ≡ runs → Rest g s next.items j (record { core = a; world = y; hand = None }) → j + cost g s ≤ left →
    life.steps + (left + spared s.transfer) ≤ kernel_bound g.program * (more s.family + 1) →
    RunsBranch g s may None a y life more next
resting g s may a y life more next j left may_be core family footprint parents sides inside none mode rest few bound = record {
  core = core;
  family = family;
  footprint = footprint;
  parents = parents;
  thread = record {
    thread = running_so (is_watching next.items) s.tie rest.pc rest.regs;
    there = rest.here;
    tied = refl;
    events = events_on next.mode next.items (is_watching next.items) mode refl;
    is = subst (λ m. ThreadIs s.parents m Running) (sym mode) refl;
  };
  in_hand = empty refl;
  sides = sides;
  inside = inside;
  done = λ over. none;
  stops = λ over. let both : runs ≡ erred = sym mode ∙ over in absurd (let z : ⊥ = cc in z);
  ends_tied = λ over. let both : runs ≡ ended = sym mode ∙ over in absurd (let z : ⊥ = cc in z);
  left = left;
  bound = bound;
  by = subst (λ m. ProgressBy g s may next.items m left (record { core = a; world = y; hand = None })) (sym mode)
      (subst (λ b. ProgressBy g s b next.items runs left (record { core = a; world = y; hand = None })) (sym may_be)
      (subst (λ o. ProgressWith g s true o next.items left (record { core = a; world = y; hand = None })) (sym none) (inr (inr (j, few, refl, rest)))));
}
