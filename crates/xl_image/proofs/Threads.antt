-- A root needs a thread.
use Rattle.std.proofs.Common.{ℕ, ◌+◌, ◌<◌, ◌≤◌, ◌⊎◌, ⊎_elim, Bool, true, false, List, [], ◌∷◌, length, sum_by, arith}
use Rattle.std.specs.Prelude.{cond, max, nat_eq}
use Rattle.std.proofs.lemmas.List.Sums.{sum_by-cons}
use Rattle.xc_kernel.specs.Plain as kernel
use Rattle.xc_disjoint.specs.Checked.{IsChecked}
use Rattle.xc_disjoint.specs.Cores.{if_so, last_core}
use Rattle.xc_disjoint.specs.Needs.{threads_of_root, threads_on}
use Rattle.xc_disjoint.specs.Rules.{most_threads, needs, threads}
use Rattle.xc_disjoint.specs.Threads as need
use Rattle.xl_image.specs.Images.{roots_on}

at_least : (n m : ℕ) → 1 ≤ m → 1 ≤ max n m
at_least n m h = grind arith

-- statements need a thread
pub some_thread : (ss : kernel.Statements) → 1 ≤ need.of_statements ss
some_thread kernel.no_more = omega arith
some_thread (kernel.more s ss) = let h = some_thread ss in at_least (need.of_statement s) (need.of_statements ss) h

one_each : (core : ℕ) (r : kernel.Root) (rs : List kernel.Root) (n : ℕ) → 1 ≤ n → (b : Bool) → length (cond b (r ∷ rs) rs) ≤ if_so b n + length rs
one_each core r rs n h true = omega (arith, h)
one_each core r rs n h false = omega arith

-- there is one for each root
pub roots_have_threads : (core : ℕ) (rs : List kernel.Root) → length (roots_on core rs) ≤ sum_by (threads_of_root core) rs
roots_have_threads core [] = omega arith
roots_have_threads core (r ∷ rs) =
    let s = sum_by-cons (threads_of_root core) r rs in
    let others = roots_have_threads core rs in
    let both = one_each core r (roots_on core rs) (need.of_statements r.body) (some_thread r.body) (nat_eq r.core core) in
    omega (arith, s, others, both)

within_or_not : (n most : ℕ) → (n ≤ most) ⊎ (most < n)
within_or_not n most = grind arith

-- a core has enough
pub few_threads : (k : kernel.Kernel) → IsChecked k → (core : ℕ) → core ≤ last_core → threads_on k core ≤ most_threads
few_threads k checked core is_core =
    ⊎_elim (λ le. le)
    (λ lt. absurd (checked.unbroken _ (needs (threads (record { core = core; is_core = is_core; more = lt })))))
    (within_or_not (threads_on k core) most_threads)
