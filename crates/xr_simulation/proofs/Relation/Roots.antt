-- Which thread runs which root: on each core the roots are run by its first threads, in the kernel's order.
use Rattle.std.proofs.Common.{◌≡◌, ℕ, zero, suc, ◌+◌, ◌<◌, ◌≤◌, Bool, true, false, cond, List, [], ◌∷◌, length, Option, Some, None, slice_get, sum_by, take, nat_eq, refl, sym, ap, subst, ◌∙◌, arith}
use Rattle.std.proofs.lemmas.List.Sums.{sum_by-cons}
use Rattle.xc_kernel.specs.Plain as kernel
use Rattle.xc_meaning.specs.Counts.Families.{child_by}
use Rattle.xc_meaning.specs.States.Items.{ends, todo}
use Rattle.xc_disjoint.specs.Cores.{if_so, on_core}
use Rattle.xc_disjoint.specs.Needs.{threads_of_root, threads_on}
use Rattle.xc_disjoint.specs.Threads as threads
use Rattle.xc_invariants.specs.Needs.{needed_on}
use Rattle.xc_invariants.proofs.Needs.{statements_least}
use Rattle.xl_par.specs.Acquired.{Acquired}
use Rattle.xl_image.specs.Images.{core_of_root, root_sides, roots_on, thread_of}
use Rattle.xl_plan.specs.Layout.{temporary_of}
use Rattle.xl_plan.proofs.Lists.{some_given, none_given}
use Rattle.xl_plan.proofs.Numbered.{listed}
use Rattle.xr_match.specs.Meanings.{root_among}
use Rattle.xr_simulation.specs.Roles.{Role, Roles, got_by, unused, used_by}
use Rattle.xr_simulation.specs.Runners.{Runner, footprint_of, outside}

-- the runner of a root with a number, on a thread of a core
abbrev pub runner_of : kernel.Kernel → (core thread number : ℕ) → kernel.Root → Runner
runner_of K core thread number root = record {
  core = core;
  thread = thread;
  tie = None;
  branch = number;
  family = number;
  block = outside;
  stack = temporary_of K core thread;
  footprint = footprint_of (todo root.body (ends ∷ []));
  parents = [];
  sides = root_sides K number;
  inside = [];
  transfer = None;
}

abbrev pub role_by : kernel.Kernel → (core thread number : ℕ) → Option kernel.Root → Role
role_by K core thread number None = unused
role_by K core thread number (Some root) = used_by (runner_of K core thread number root) None

abbrev pub role_with : kernel.Kernel → (core thread : ℕ) → Option ℕ → Role
role_with K core thread None = unused
role_with K core thread (Some number) = role_by K core thread number (slice_get K.roots number)

-- each root's runner, by its core and its place among the core's roots; the other threads are unused
abbrev pub roles : kernel.Kernel → Roles
roles K core thread = role_with K core thread (root_among core 0 K.roots thread)

-- The place of a root among those of its core.

-- what stands in a list of roots from a number on, and is the root of a core with this place among them
pub record IsNumbered (core number : ℕ) (rs : List kernel.Root) (thread found : ℕ) : Type 0 where
  pub place : ℕ
  pub root : kernel.Root
  pub known : slice_get rs place ≡ Some root
  pub core_is : root.core ≡ core
  pub number_is : found ≡ number + place
  pub thread_is : thread ≡ thread_of core rs place

abbrev here_or_not : (core : ℕ) → kernel.Root → ℕ
here_or_not core r = on_core core (core_of_root r) 1

module _ (core : ℕ) where
  -- behind a root there are as many more of its core
  one_more : (r : kernel.Root) (rs : List kernel.Root) (place : ℕ) (b : Bool) → nat_eq r.core core ≡ b → thread_of core (r ∷ rs) (suc place) ≡ if_so b 1 + thread_of core rs place
  one_more r rs place b e = sum_by-cons (here_or_not core) r (take place rs) ∙ ap (λ c. if_so c 1 + thread_of core rs place) e

  eq_from : (a b : ℕ) → nat_eq a b ≡ true → a ≡ b
  eq_from a b e = grind arith

  first_numbered : (number : ℕ) (r : kernel.Root) (rs : List kernel.Root) (found : ℕ) → nat_eq r.core core ≡ true → number ≡ found → IsNumbered core number (r ∷ rs) 0 found
  first_numbered number r rs found q e = record {
    place = 0;
    root = r;
    known = refl;
    core_is = eq_from r.core core q;
    number_is = sym e ∙ (let z : number ≡ number + 0 = omega arith in z);
    thread_is = refl;
  }

  next_numbered : (number : ℕ) (r : kernel.Root) (rs : List kernel.Root) (thread found : ℕ) (b : Bool) → nat_eq r.core core ≡ b → IsNumbered core (number + 1) rs thread found → IsNumbered core number (r ∷ rs) (if_so b 1 + thread) found
  next_numbered number r rs thread found b q h = record {
    place = suc h.place;
    root = h.root;
    known = h.known;
    core_is = h.core_is;
    number_is = h.number_is ∙ (let z : number + 1 + h.place ≡ number + suc h.place = omega arith in z);
    thread_is = ap (λ n. if_so b 1 + n) h.thread_is ∙ sym (one_more r rs h.place b q);
  }

  -- a root that is found is one of the core, and its thread is its place among them
  pub numbered : (number : ℕ) (rs : List kernel.Root) (thread found : ℕ) → root_among core number rs thread ≡ Some found → IsNumbered core number rs thread found
  numbered number [] thread found e = absurd (none_given e)
  numbered number (r ∷ rs) thread found e = by (nat_eq r.core core) refl thread e (λ t f. numbered (number + 1) rs t found f)
    where
      by : (b : Bool) → nat_eq r.core core ≡ b → (t : ℕ) → child_by b (Some number) t (root_among core (number + 1) rs) ≡ Some found →
          ((u : ℕ) → root_among core (number + 1) rs u ≡ Some found → IsNumbered core (number + 1) rs u found) → IsNumbered core number (r ∷ rs) t found
      by true q zero f k = first_numbered number r rs found q (some_given f)
      by true q (suc t) f k = subst (λ n. IsNumbered core number (r ∷ rs) n found) (let z : 1 + t ≡ suc t = omega arith in z) (next_numbered number r rs t found true q (k t f))
      by false q t f k = subst (λ n. IsNumbered core number (r ∷ rs) n found) (let z : 0 + t ≡ t = omega arith in z) (next_numbered number r rs t found false q (k t f))

  -- each root of the core is found at its place among them
  pub found_there : (number : ℕ) (rs : List kernel.Root) (place : ℕ) (root : kernel.Root) → slice_get rs place ≡ Some root → root.core ≡ core → root_among core number rs (thread_of core rs place) ≡ Some (number + place)
  found_there number [] place root e here = absurd (none_given e)
  found_there number (r ∷ rs) zero root e here =
      let same : nat_eq r.core core ≡ true = let c : r.core ≡ core = ap (λ (x : kernel.Root). x.core) (some_given e) ∙ here in grind arith in
      ap (λ b. child_by b (Some number) 0 (root_among core (number + 1) rs)) same
      ∙ ap (λ n. Some n) (let z : number ≡ number + 0 = omega arith in z)
  found_there number (r ∷ rs) (suc place) root e here = by (nat_eq r.core core) refl (found_there (number + 1) rs place root e here)
    where
      by : (b : Bool) → nat_eq r.core core ≡ b → root_among core (number + 1) rs (thread_of core rs place) ≡ Some (number + 1 + place) →
          root_among core number (r ∷ rs) (thread_of core (r ∷ rs) (suc place)) ≡ Some (number + suc place)
      by true q h =
          ap (λ c. child_by c (Some number) (thread_of core (r ∷ rs) (suc place)) (root_among core (number + 1) rs)) q
          ∙ ap (λ n. child_by true (Some number) n (root_among core (number + 1) rs)) (one_more r rs place true q ∙ (let z : 1 + thread_of core rs place ≡ suc (thread_of core rs place) = omega arith in z))
          ∙ h ∙ ap (λ n. Some n) (let z : number + 1 + place ≡ number + suc place = omega arith in z)
      by false q h =
          ap (λ c. child_by c (Some number) (thread_of core (r ∷ rs) (suc place)) (root_among core (number + 1) rs)) q
          ∙ ap (λ n. child_by false (Some number) n (root_among core (number + 1) rs)) (one_more r rs place false q ∙ (let z : 0 + thread_of core rs place ≡ thread_of core rs place = omega arith in z))
          ∙ h ∙ ap (λ n. Some n) (let z : number + 1 + place ≡ number + suc place = omega arith in z)

  -- where none is found there are no more roots
  pub none_found : (number : ℕ) (rs : List kernel.Root) (thread : ℕ) → root_among core number rs thread ≡ None → length (roots_on core rs) ≤ thread
  none_found number [] thread e = omega arith
  none_found number (r ∷ rs) thread e = by (nat_eq r.core core) thread e (λ t f. none_found (number + 1) rs t f)
    where
      by : (b : Bool) (t : ℕ) → child_by b (Some number) t (root_among core (number + 1) rs) ≡ None →
          ((u : ℕ) → root_among core (number + 1) rs u ≡ None → length (roots_on core rs) ≤ u) → length (cond b (r ∷ roots_on core rs) (roots_on core rs)) ≤ t
      by true zero f k = absurd (none_given (sym f))
      by true (suc t) f k = let h = k t f in omega (arith, h)
      by false t f k = k t f

-- Who runs.

-- what is known of a root's thread
pub record IsRunner (K : kernel.Kernel) (core thread : ℕ) (r : Runner) : Type 0 where
  pub number : ℕ
  pub root : kernel.Root
  pub found : root_among core 0 K.roots thread ≡ Some number
  pub known : slice_get K.roots number ≡ Some root
  pub core_is : root.core ≡ core
  pub thread_is : thread ≡ thread_of core K.roots number
  pub is : r ≡ runner_of K core thread number root

-- a thread is unused, or a root's
pub data RootsThread (K : kernel.Kernel) (core thread : ℕ) : Type 0 where
  of_none : roles K core thread ≡ unused → length (roots_on core K.roots) ≤ thread → RootsThread K core thread
  of_root : (r : Runner) → roles K core thread ≡ used_by r None → IsRunner K core thread r → RootsThread K core thread

pub roots_thread : (K : kernel.Kernel) (core thread : ℕ) → RootsThread K core thread
roots_thread K core thread = by (root_among core 0 K.roots thread) refl
  where
    by : (o : Option ℕ) → root_among core 0 K.roots thread ≡ o → RootsThread K core thread
    by None q = of_none (ap (role_with K core thread) q) (none_found core 0 K.roots thread q)
    by (Some number) q =
        let h = numbered core 0 K.roots thread number q in
        let same : number ≡ h.place = h.number_is ∙ (let z : 0 + h.place ≡ h.place = omega arith in z) in
        let known : slice_get K.roots number ≡ Some h.root = ap (slice_get K.roots) same ∙ h.known in
        of_root (runner_of K core thread number h.root) (ap (role_with K core thread) q ∙ ap (role_by K core thread number) known)
        (record {
          number = number;
          root = h.root;
          found = q;
          known = known;
          core_is = h.core_is;
          thread_is = h.thread_is ∙ ap (thread_of core K.roots) (sym same);
          is = refl;
        })

abbrev runner_in : Role → Option Runner
runner_in unused = None
runner_in (got_by t) = None
runner_in (used_by r hand) = Some r

pub same_runner : (r s : Runner) (hand other : Option Acquired) → used_by r hand ≡ used_by s other → r ≡ s
same_runner r s hand other e = some_given (ap runner_in e)

pub is_runner : (K : kernel.Kernel) (core thread : ℕ) (r : Runner) → roles K core thread ≡ used_by r None → IsRunner K core thread r
is_runner K core thread r e = by (roots_thread K core thread)
  where
    by : RootsThread K core thread → IsRunner K core thread r
    by (of_none none n) = let z : unused ≡ used_by r None = sym none ∙ e in absurd cc
    by (of_root q role h) = subst (IsRunner K core thread) (same_runner q r None None (sym role ∙ e)) h

-- each root has one
pub root_runs : (K : kernel.Kernel) (number : ℕ) (root : kernel.Root) → slice_get K.roots number ≡ Some root →
    roles K root.core (thread_of root.core K.roots number) ≡ used_by (runner_of K root.core (thread_of root.core K.roots number) number root) None
root_runs K number root known =
    ap (role_with K root.core (thread_of root.core K.roots number)) (found_there root.core 0 K.roots number root known refl ∙ ap (λ n. Some n) (let z : 0 + number ≡ number = omega arith in z))
    ∙ ap (role_by K root.core (thread_of root.core K.roots number) number) known

-- Threads that a core needs.

least_if : (b : Bool) (n : ℕ) → 1 ≤ n → if_so b 1 ≤ if_so b n
least_if true n h = h
least_if false n h = omega arith

-- a root's thread is one of them
inside_by : (core : ℕ) (rs : List kernel.Root) (place : ℕ) (root : kernel.Root) → slice_get rs place ≡ Some root → root.core ≡ core → thread_of core rs place < sum_by (threads_of_root core) rs
inside_by core [] place root e here = absurd (none_given e)
inside_by core (r ∷ rs) zero root e here =
    let s = sum_by-cons (threads_of_root core) r rs in
    let c : r.core ≡ core = ap (λ (x : kernel.Root). x.core) (some_given e) ∙ here in
    let b = ap (λ b. if_so b (threads.of_statements r.body)) (let z : nat_eq r.core core ≡ true = grind arith in z) in
    let l = statements_least r.body in
    omega (arith, s, b, l)
inside_by core (r ∷ rs) (suc place) root e here =
    let s = sum_by-cons (threads_of_root core) r rs in
    let m = one_more core r rs place (nat_eq r.core core) refl in
    let l = least_if (nat_eq r.core core) (threads.of_statements r.body) (statements_least r.body) in
    let on = inside_by core rs place root e here in
    omega (arith, s, m, l, on)

pub root_inside : (K : kernel.Kernel) (core number : ℕ) (root : kernel.Root) → slice_get K.roots number ≡ Some root → root.core ≡ core → thread_of core K.roots number < threads_on K core
root_inside K core number root known here = inside_by core K.roots number root known here

-- a core that needs a thread has a root
pub some_root : (core : ℕ) (rs : List kernel.Root) → 1 ≤ sum_by (threads_of_root core) rs → (number : ℕ) × (root : kernel.Root) × (slice_get rs number ≡ Some root) × (root.core ≡ core)
some_root core [] h = absurd (let z : ⊥ = omega (arith, h) in z)
some_root core (r ∷ rs) h = by (some_root core rs) (nat_eq r.core core) refl
  where
    by : (1 ≤ sum_by (threads_of_root core) rs → (number : ℕ) × (root : kernel.Root) × (slice_get rs number ≡ Some root) × (root.core ≡ core)) →
        (b : Bool) → nat_eq r.core core ≡ b → (number : ℕ) × (root : kernel.Root) × (slice_get (r ∷ rs) number ≡ Some root) × (root.core ≡ core)
    by next true q = (0, r, refl, eq_from core r.core core q)
    by next false q =
        let s = sum_by-cons (threads_of_root core) r rs in
        let z = ap (λ b. if_so b (threads.of_statements r.body)) q in
        let k = next (omega (arith, s, z, h)) in
        (suc k.0, k.1, k.2, k.3)

-- both ways to count them say the same
needed_same : (core : ℕ) (rs : List kernel.Root) → needed_on core rs ≡ sum_by (threads_of_root core) rs
needed_same core [] = refl
needed_same core (r ∷ rs) =
    let s = sum_by-cons (threads_of_root core) r rs in
    let on = needed_same core rs in
    omega (arith, s, on)

pub needed_is : (K : kernel.Kernel) (core : ℕ) → needed_on core K.roots ≡ threads_on K core
needed_is K core = needed_same core K.roots

-- a root's place among those of its core
pub listed_on : (K : kernel.Kernel) (core number : ℕ) (root : kernel.Root) → slice_get K.roots number ≡ Some root → root.core ≡ core → slice_get (roots_on core K.roots) (thread_of core K.roots number) ≡ Some root
listed_on K core number root known here = listed core_of_root core K.roots number root known here
