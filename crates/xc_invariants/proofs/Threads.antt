-- The threads that branches take, each counted once, are at most what their core needs.
use Rattle.std.proofs.Common.{◌≡◌, ◌≢◌, ◌⊎◌, inl, inr, ⊎_elim, ℕ, zero, suc, ◌+◌, ◌<◌, ◌≤◌, Bool, true, false, List, [], ◌∷◌, ◌++◌, length, Option, Some, None, slice_get, slice_set, nat_eq, refl, sym, ap, ap₂, subst, ◌∙◌, append-nil, eq-eqb, arith}
use Rattle.xs_instr.specs.declared.image.Stim.{Stim}
use Rattle.xc_kernel.specs.Plain as kernel
use Rattle.xc_meaning.specs.States.Branches.{Mode, runs, waits, ended, erred, Branch}
use Rattle.xc_meaning.specs.States.Worlds.{World}
use Rattle.xc_meaning.specs.Runs.{step_of, kernel_start}
use Rattle.xc_invariants.specs.Tree.{IsChild, IsWaiting, IsForest, IsPresent, root, child}
use Rattle.xc_invariants.specs.Needs.{sum_from, taken, taken_by, taken_in, needed_on, taken_on, takes_of, takes_at, IsIn, AreOnce, total_of, TakesOn, RootCores, Budgeted, HasBudget}
use Rattle.xc_disjoint.specs.Cores.{if_so}
use Rattle.xc_disjoint.specs.Threads as threads
use Rattle.xc_meaning.specs.Outline.{Moved, ticked, stepped, joined}
use Rattle.xc_meaning.proofs.Basics.{some_given, none_given, same_or_not}
use Rattle.xc_invariants.proofs.Lookups.{Behind, itself, there, new, behind, within}
use Rattle.xc_invariants.proofs.Starts.{start_at}
use Rattle.xc_invariants.proofs.Cores.{core_stays}
use Rattle.xc_invariants.proofs.Needs.{threads_suffice}
use Rattle.xc_invariants.proofs.Trees.{waiting_is}

-- Roots stay on their cores.

pub cores_begin : (K : kernel.Kernel) → RootCores K.roots (kernel_start K).branches
cores_begin K = record {
  core = λ j r b e f. let g = start_at K j b f in ap (λ d. d.core) g.is ∙ ap (λ q. q.core) (some_given (sym g.is_there ∙ e));
}

module _ (rs : List kernel.Root) (K : kernel.Kernel) (stim : Stim) (x : World) (forest : IsForest (length rs) x.branches) (h : RootCores rs x.branches) where
  cores_by : (n : ℕ) (b now : Branch) (more : List Branch) → slice_get x.branches n ≡ Some b → now.core ≡ b.core → (j : ℕ) (r : kernel.Root) (c : Branch) → slice_get rs j ≡ Some r → Behind x.branches n now more j c → c.core ≡ r.core
  cores_by n b now more is same j r c e (itself ej ec) = ap (λ d. d.core) ec ∙ same ∙ h.core n r b (ap (slice_get rs) (sym ej) ∙ e) is
  cores_by n b now more is same j r c e (there ne f) = h.core j r c e f
  cores_by n b now more is same j r c e (new i ej f) = let t = forest.all_there in let w = in_list rs j r e in absurd (omega arith)
    where
      in_list : (xs : List kernel.Root) (k : ℕ) (q : kernel.Root) → slice_get xs k ≡ Some q → k < length xs
      in_list xs k q g = within xs k g

  pub cores_kept : {y : World} → Moved K stim x y → RootCores rs y.branches
  cores_kept (ticked clocks) = record { core = h.core }
  cores_kept (stepped n b item rest z is em ei o) = record {
    core = λ j r c e f. cores_by n b o.now o.more is (core_stays (step_of K stim x n b rest) item o.now o.more o.becomes) j r c e (behind x.branches n b o.now o.more j c is (subst (λ bs. slice_get bs j ≡ Some c) o.branches f));
  }
  cores_kept (joined n b from count is em d) = record {
    core = λ j r c e f. cores_by n b (record b { mode = runs }) [] is refl j r c e (behind x.branches n b (record b { mode = runs }) [] j c is (subst (λ bs. slice_get bs j ≡ Some c) (sym (append-nil (slice_set x.branches n (record b { mode = runs })))) f));
  }

-- The present branches below one that don't wait, down to some depth.

abbrev pub joined_from : (ℕ → List ℕ) → (from count : ℕ) → List ℕ
joined_from f from zero = []
joined_from f from (suc count) = f from ++ joined_from f (from + 1) count

abbrev pub leaves_in : (below : ℕ → List ℕ) → ℕ → Mode → List ℕ
leaves_in below n (waits from count) = joined_from below from count
leaves_in below n mode = n ∷ []

abbrev pub leaves_by : (below : ℕ → List ℕ) → ℕ → Option Branch → List ℕ
leaves_by below n None = []
leaves_by below n (Some b) = leaves_in below n b.mode

abbrev pub leaves : (depth : ℕ) → List Branch → ℕ → List ℕ
leaves zero bs n = []
leaves (suc depth) bs n = leaves_by (leaves depth bs) n (slice_get bs n)

total_append : (f : ℕ → ℕ) (xs ys : List ℕ) → total_of f (xs ++ ys) ≡ total_of f xs + total_of f ys
total_append f [] ys = omega arith
total_append f (x ∷ xs) ys = let h = total_append f xs ys in omega arith

total_joined : (f : ℕ → ℕ) (g : ℕ → List ℕ) (t : ℕ → ℕ) → ((k : ℕ) → total_of f (g k) ≡ t k) → (from count : ℕ) → total_of f (joined_from g from count) ≡ sum_from t from count
total_joined f g t h from zero = refl
total_joined f g t h from (suc count) = total_append f (g from) (joined_from g (from + 1) count) ∙ ap₂ ◌+◌ (h from) (total_joined f g t h (from + 1) count)

module _ (bs : List Branch) where
  taken_mode : (below : ℕ → List ℕ) (counts : ℕ → ℕ) → ((k : ℕ) → total_of (takes_at bs) (below k) ≡ counts k) → (n : ℕ) (b : Branch) → slice_get bs n ≡ Some b → (m : Mode) → b.mode ≡ m → total_of (takes_at bs) (leaves_in below n m) ≡ taken_in counts b.items m
  taken_mode below counts h n b e runs em = let f = ap takes_of e in omega arith
  taken_mode below counts h n b e (waits from count) em = total_joined (takes_at bs) below counts h from count
  taken_mode below counts h n b e ended em = let f = ap takes_of e in omega arith
  taken_mode below counts h n b e erred em = let f = ap takes_of e in omega arith

  taken_branch : (below : ℕ → List ℕ) (counts : ℕ → ℕ) → ((k : ℕ) → total_of (takes_at bs) (below k) ≡ counts k) → (n : ℕ) (o : Option Branch) → slice_get bs n ≡ o → total_of (takes_at bs) (leaves_by below n o) ≡ taken_by counts o
  taken_branch below counts h n None e = refl
  taken_branch below counts h n (Some b) e = taken_mode below counts h n b e b.mode refl

  pub leaves_take : (depth n : ℕ) → total_of (takes_at bs) (leaves depth bs n) ≡ taken depth bs n
  leaves_take zero n = refl
  leaves_take (suc depth) n = taken_branch (leaves depth bs) (taken depth bs) (leaves_take depth) n (slice_get bs n) refl

-- what the branches below one have in reserve is at most what it has
module _ (rs : List kernel.Root) (bs : List Branch) (budget : ℕ → ℕ) (h : Budgeted rs budget bs) where
  most_joined : (g : ℕ → List ℕ) → ((k : ℕ) → total_of budget (g k) ≤ budget k) → (from count : ℕ) → total_of budget (joined_from g from count) ≤ sum_from budget from count
  most_joined g k from zero = omega arith
  most_joined g k from (suc count) =
      let a = total_append budget (g from) (joined_from g (from + 1) count) in
      let b = k from in
      let c = most_joined g k (from + 1) count in
      omega arith

  most_in : (g : ℕ → List ℕ) → ((k : ℕ) → total_of budget (g k) ≤ budget k) → (n : ℕ) (b : Branch) → slice_get bs n ≡ Some b → (m : Mode) → b.mode ≡ m → total_of budget (leaves_in g n m) ≤ budget n
  most_in g k n b e runs em = omega arith
  most_in g k n b e (waits from count) em = let s = h.shares n b from count e em in let t = most_joined g k from count in omega arith
  most_in g k n b e ended em = omega arith
  most_in g k n b e erred em = omega arith

  most_by : (g : ℕ → List ℕ) → ((k : ℕ) → total_of budget (g k) ≤ budget k) → (n : ℕ) (o : Option Branch) → slice_get bs n ≡ o → total_of budget (leaves_by g n o) ≤ budget n
  most_by g k n None e = omega arith
  most_by g k n (Some b) e = most_in g k n b e b.mode refl

  most_below : (depth n : ℕ) → total_of budget (leaves depth bs n) ≤ budget n
  most_below zero n = omega arith
  most_below (suc depth) n = most_by (leaves depth bs) (most_below depth) n (slice_get bs n) refl

-- lists with each number once

in_front : (n : ℕ) (xs ys : List ℕ) → IsIn n xs → IsIn n (xs ++ ys)
in_front n [] ys h = absurd h
in_front n (x ∷ xs) ys (inl e) = inl e
in_front n (x ∷ xs) ys (inr h) = inr (in_front n xs ys h)

in_back : (n : ℕ) (xs ys : List ℕ) → IsIn n ys → IsIn n (xs ++ ys)
in_back n [] ys h = h
in_back n (x ∷ xs) ys h = inr (in_back n xs ys h)

in_joined : (f : ℕ → List ℕ) (n k from count : ℕ) → from ≤ k → k < from + count → IsIn n (f k) → IsIn n (joined_from f from count)
in_joined f n k from zero le lt h = absurd (omega arith)
in_joined f n k from (suc count) le lt h =
    ⊎_elim (λ e. in_front n (f from) (joined_from f (from + 1) count) (subst (λ j. IsIn n (f j)) e h))
    (λ ne. in_back n (f from) (joined_from f (from + 1) count) (in_joined f n k (from + 1) count (omega arith) (omega arith) h)) (same_or_not k from)

-- a number taken out of a list once
pub record TakenOut (f : ℕ → ℕ) (n : ℕ) (ms : List ℕ) : Type 0 where
  pub others : List ℕ
  pub total : total_of f ms ≡ f n + total_of f others
  pub kept : (k : ℕ) → k ≢ n → IsIn k ms → IsIn k others

take_out : (f : ℕ → ℕ) (n : ℕ) (ms : List ℕ) → IsIn n ms → TakenOut f n ms
take_out f n [] h = absurd h
take_out f n (m ∷ ms) (inl e) = record {
  others = ms;
  total = let g = ap f e in omega arith;
  kept = λ k ne i. ⊎_elim (λ g. absurd (ne (g ∙ sym e))) (λ j. j) i;
}
take_out f n (m ∷ ms) (inr h) =
    let t = take_out f n ms h in
    record {
      others = m ∷ t.others;
      total = let g = t.total in omega arith;
      kept = λ k ne i. ⊎_elim inl (λ j. inr (t.kept k ne j)) i;
    }

pub total_within : (f : ℕ → ℕ) (ns ms : List ℕ) → AreOnce ns → ((n : ℕ) → IsIn n ns → IsIn n ms) → total_of f ns ≤ total_of f ms
total_within f [] ms h g = omega arith
total_within f (n ∷ ns) ms h g =
    let t = take_out f n ms (g n (inl refl)) in
    let l = total_within f ns t.others h.1 (λ k i. t.kept k (λ e. h.0 (subst (λ j. IsIn j ns) e i)) (g k (inr i))) in
    let e = t.total in
    omega arith

-- Each present branch that doesn't wait is a leaf below its root.
module _ (rs : List kernel.Root) (bs : List Branch) (forest : IsForest (length rs) bs) (cores : RootCores rs bs) where
  leaf_by : (below : ℕ → List ℕ) (n : ℕ) (b : Branch) → (IsWaiting b.mode → ⊥) → (m : Mode) → b.mode ≡ m → IsIn n (leaves_in below n m)
  leaf_by below n b w runs e = inl refl
  leaf_by below n b w (waits from count) e = absurd (w (waiting_is e))
  leaf_by below n b w ended e = inl refl
  leaf_by below n b w erred e = inl refl

  -- it is one below itself
  leaf_itself : (depth n : ℕ) (b : Branch) → slice_get bs n ≡ Some b → (IsWaiting b.mode → ⊥) → IsIn n (leaves (suc depth) bs n)
  leaf_itself depth n b e w = subst (λ o. IsIn n (leaves_by (leaves depth bs) n o)) (sym e) (leaf_by (leaves depth bs) n b w b.mode refl)

  -- and one below a parent where it is one below the child
  leaf_above : (depth n k m : ℕ) → IsChild bs n k → IsIn m (leaves depth bs k) → IsIn m (leaves (suc depth) bs n)
  leaf_above depth n k m c h =
      subst (λ o. IsIn m (leaves_by (leaves depth bs) n o)) (sym c.is)
      (subst (λ mode. IsIn m (leaves_in (leaves depth bs) n mode)) (sym c.waiting) (in_joined (leaves depth bs) m k c.from c.count c.least c.less h))

  -- a present branch stands below a root, of whose core it is
  pub record BelowRoot (k : ℕ) (b : Branch) : Type 0 where
    pub number : ℕ
    pub is_root : number < length rs
    pub depth : ℕ
    pub leaf : (m d : ℕ) → IsIn m (leaves d bs k) → IsIn m (leaves (depth + d) bs number)
    pub same_core : (q : Branch) → slice_get bs number ≡ Some q → q.core ≡ b.core

  pub below_root : (k : ℕ) (b : Branch) → IsPresent (length rs) bs k → slice_get bs k ≡ Some b → BelowRoot k b
  below_root k b (root lt) e = record {
    number = k;
    is_root = lt;
    depth = 0;
    leaf = λ m d h. subst (λ i. IsIn m (leaves i bs k)) (let l : d ≡ 0 + d = omega arith in l) h;
    same_core = λ q f. ap (λ d. d.core) (some_given (sym f ∙ e));
  }
  below_root k b (child {n = n} p c) e =
      let h = below_root n c.parent p c.is in
      record {
        number = h.number;
        is_root = h.is_root;
        depth = h.depth + 1;
        leaf = λ m d i. subst (λ j. IsIn m (leaves j bs h.number)) (let l : h.depth + suc d ≡ h.depth + 1 + d = omega arith in l) (h.leaf m (suc d) (leaf_above d n k m c i));
        same_core = λ q f. h.same_core q f ∙ sym (forest.own n k c.parent b c.from c.count c.is c.waiting c.least c.less e).core;
      }

-- Deeper, there are no fewer.

in_either : (n : ℕ) (xs ys : List ℕ) → IsIn n (xs ++ ys) → IsIn n xs ⊎ IsIn n ys
in_either n [] ys h = inr h
in_either n (x ∷ xs) ys (inl e) = inl (inl e)
in_either n (x ∷ xs) ys (inr h) = ⊎_elim (λ i. inl (inr i)) inr (in_either n xs ys h)

more_joined : (m : ℕ) (f g : ℕ → List ℕ) → ((k : ℕ) → IsIn m (f k) → IsIn m (g k)) → (from count : ℕ) → IsIn m (joined_from f from count) → IsIn m (joined_from g from count)
more_joined m f g k from zero h = absurd h
more_joined m f g k from (suc count) h =
    ⊎_elim (λ i. in_front m (g from) (joined_from g (from + 1) count) (k from i)) (λ i. in_back m (g from) (joined_from g (from + 1) count) (more_joined m f g k (from + 1) count i))
    (in_either m (f from) (joined_from f (from + 1) count) h)

more_in : (m : ℕ) (f g : ℕ → List ℕ) → ((k : ℕ) → IsIn m (f k) → IsIn m (g k)) → (n : ℕ) (mode : Mode) → IsIn m (leaves_in f n mode) → IsIn m (leaves_in g n mode)
more_in m f g k n runs h = h
more_in m f g k n (waits from count) h = more_joined m f g k from count h
more_in m f g k n ended h = h
more_in m f g k n erred h = h

more_by : (m : ℕ) (f g : ℕ → List ℕ) → ((k : ℕ) → IsIn m (f k) → IsIn m (g k)) → (n : ℕ) (o : Option Branch) → IsIn m (leaves_by f n o) → IsIn m (leaves_by g n o)
more_by m f g k n None h = h
more_by m f g k n (Some b) h = more_in m f g k n b.mode h

deeper : (bs : List Branch) (m depth n : ℕ) → IsIn m (leaves depth bs n) → IsIn m (leaves (suc depth) bs n)
deeper bs m zero n h = absurd h
deeper bs m (suc depth) n h = more_by m (leaves depth bs) (leaves (suc depth) bs) (λ k i. deeper bs m depth k i) n (slice_get bs n) h

much_deeper : (bs : List Branch) (m more depth n : ℕ) → IsIn m (leaves depth bs n) → IsIn m (leaves (more + depth) bs n)
much_deeper bs m zero depth n h = subst (λ d. IsIn m (leaves d bs n)) (let l : depth ≡ 0 + depth = omega arith in l) h
much_deeper bs m (suc more) depth n h = subst (λ d. IsIn m (leaves d bs n)) (let l : suc (more + depth) ≡ suc more + depth = omega arith in l) (deeper bs m (more + depth) n (much_deeper bs m more depth n h))

-- The leaves below the roots of a core.

abbrev list_if : Bool → List ℕ → List ℕ
list_if true xs = xs
list_if false xs = []

abbrev leaves_on : (depth : ℕ) → List Branch → (core number : ℕ) → List kernel.Root → List ℕ
leaves_on depth bs core number [] = []
leaves_on depth bs core number (r ∷ rs) = list_if (nat_eq r.core core) (leaves depth bs number) ++ leaves_on depth bs core (number + 1) rs

total_if : (f : ℕ → ℕ) (b : Bool) (xs : List ℕ) (n : ℕ) → total_of f xs ≡ n → total_of f (list_if b xs) ≡ if_so b n
total_if f true xs n e = e
total_if f false xs n e = refl

total_on : (depth : ℕ) (bs : List Branch) (core number : ℕ) (rs : List kernel.Root) → total_of (takes_at bs) (leaves_on depth bs core number rs) ≡ taken_on depth bs core number rs
total_on depth bs core number [] = refl
total_on depth bs core number (r ∷ rs) =
    total_append (takes_at bs) (list_if (nat_eq r.core core) (leaves depth bs number)) (leaves_on depth bs core (number + 1) rs)
    ∙ ap₂ ◌+◌ (total_if (takes_at bs) (nat_eq r.core core) (leaves depth bs number) (taken depth bs number) (leaves_take bs depth number)) (total_on depth bs core (number + 1) rs)

in_if : (m : ℕ) (b : Bool) (xs : List ℕ) → b ≡ true → IsIn m xs → IsIn m (list_if b xs)
in_if m b xs e h = subst (λ c. IsIn m (list_if c xs)) (sym e) h

on_core : (depth : ℕ) (bs : List Branch) (core number : ℕ) (rs : List kernel.Root) (j : ℕ) (r : kernel.Root) (m : ℕ) → slice_get rs j ≡ Some r → r.core ≡ core → IsIn m (leaves depth bs (number + j)) → IsIn m (leaves_on depth bs core number rs)
on_core depth bs core number [] j r m e c h = none_given e
on_core depth bs core number (q ∷ rs) zero r m e c h =
    in_front m (list_if (nat_eq q.core core) (leaves depth bs number)) (leaves_on depth bs core (number + 1) rs)
    (in_if m (nat_eq q.core core) (leaves depth bs number) (eq-eqb q.core core (ap (λ a. a.core) (some_given e) ∙ c)) (subst (λ n. IsIn m (leaves depth bs n)) (let l : number + 0 ≡ number = omega arith in l) h))
on_core depth bs core number (q ∷ rs) (suc j) r m e c h =
    in_back m (list_if (nat_eq q.core core) (leaves depth bs number)) (leaves_on depth bs core (number + 1) rs)
    (on_core depth bs core (number + 1) rs j r m e c (subst (λ n. IsIn m (leaves depth bs n)) (let l : number + suc j ≡ number + 1 + j = omega arith in l) h))

-- what they have in reserve is at most what the roots need
module _ (all : List kernel.Root) (bs : List Branch) (budget : ℕ → ℕ) (h : Budgeted all budget bs) where
  most_if : (b : Bool) (xs : List ℕ) (n : ℕ) → total_of budget xs ≤ n → total_of budget (list_if b xs) ≤ if_so b n
  most_if true xs n le = le
  most_if false xs n le = omega arith

  most_from : (depth core number : ℕ) (rs : List kernel.Root) → ((j : ℕ) (r : kernel.Root) → slice_get rs j ≡ Some r → budget (number + j) ≡ threads.of_statements r.body) →
      total_of budget (leaves_on depth bs core number rs) ≤ needed_on core rs
  most_from depth core number [] k = omega arith
  most_from depth core number (r ∷ rs) k =
      let a = most_below all bs budget h depth number in
      let e = ap budget (let z : number ≡ number + 0 = omega arith in z) ∙ k 0 r refl in
      let i = most_if (nat_eq r.core core) (leaves depth bs number) (threads.of_statements r.body) (omega arith) in
      let g = most_from depth core (number + 1) rs (λ j q f. ap budget (let z : number + 1 + j ≡ number + suc j = omega arith in z) ∙ k (suc j) q f) in
      let t = total_append budget (list_if (nat_eq r.core core) (leaves depth bs number)) (leaves_on depth bs core (number + 1) rs) in
      omega arith

  pub most_on : (depth core : ℕ) → total_of budget (leaves_on depth bs core 0 all) ≤ needed_on core all
  most_on depth core = most_from depth core 0 all (λ j r e. ap budget (let z : 0 + j ≡ j = omega arith in z) ∙ h.roots_have j r e)

root_there : (rs : List kernel.Root) (j : ℕ) → j < length rs → (r : kernel.Root) × (slice_get rs j ≡ Some r)
root_there [] j lt = absurd (omega arith)
root_there (r ∷ rs) zero lt = (r, refl)
root_there (r ∷ rs) (suc j) lt = root_there rs j (omega arith)

branch_there : (bs : List Branch) (j : ℕ) → j < length bs → (b : Branch) × (slice_get bs j ≡ Some b)
branch_there [] j lt = absurd (omega arith)
branch_there (b ∷ bs) zero lt = (b, refl)
branch_there (b ∷ bs) (suc j) lt = branch_there bs j (omega arith)

module _ (rs : List kernel.Root) (bs : List Branch) (forest : IsForest (length rs) bs) (cores : RootCores rs bs) (core : ℕ) where
  -- a depth at which a branch is among the leaves, and all greater ones
  pub record AtDepth (n : ℕ) : Type 0 where
    pub depth : ℕ
    pub leaf : (more : ℕ) → IsIn n (leaves_on (more + depth) bs core 0 rs)

  at_depth : (n : ℕ) → TakesOn (length rs) bs core n → AtDepth n
  at_depth n t =
      let h = below_root rs bs forest cores n t.branch t.present t.is in
      let r = root_there rs h.number h.is_root in
      let a = forest.all_there in
      let i = h.is_root in
      let q = branch_there bs h.number (omega arith) in
      let same : r.0.core ≡ core = sym (cores.core h.number r.0 q.0 r.1 q.1) ∙ h.same_core q.0 q.1 ∙ t.on_core in
      record {
        depth = h.depth + 1;
        leaf = λ more. on_core (more + (h.depth + 1)) bs core 0 rs h.number r.0 n r.1 same
            (subst (λ k. IsIn n (leaves (more + (h.depth + 1)) bs k)) (let l : h.number ≡ 0 + h.number = omega arith in l)
            (much_deeper bs n more (h.depth + 1) h.number (h.leaf n 1 (leaf_itself rs bs forest cores 0 n t.branch t.is t.goes))));
      }

  pub record AllAtDepth (ns : List ℕ) : Type 0 where
    pub depth : ℕ
    pub leaf : (more n : ℕ) → IsIn n ns → IsIn n (leaves_on (more + depth) bs core 0 rs)

  all_at_depth : (ns : List ℕ) → ((n : ℕ) → IsIn n ns → TakesOn (length rs) bs core n) → AllAtDepth ns
  all_at_depth [] h = record { depth = 0; leaf = λ more n i. absurd i }
  all_at_depth (n ∷ ns) h =
      let a = at_depth n (h n (inl refl)) in
      let b = all_at_depth ns (λ k i. h k (inr i)) in
      record {
        depth = a.depth + b.depth;
        leaf = λ more k i.
            ⊎_elim
            (λ e. subst (λ d. IsIn k (leaves_on d bs core 0 rs)) (let l : more + b.depth + a.depth ≡ more + (a.depth + b.depth) = omega arith in l) (subst (λ j. IsIn j (leaves_on (more + b.depth + a.depth) bs core 0 rs)) (sym e) (a.leaf (more + b.depth))))
            (λ j. subst (λ d. IsIn k (leaves_on d bs core 0 rs)) (let l : more + a.depth + b.depth ≡ more + (a.depth + b.depth) = omega arith in l) (b.leaf (more + a.depth) k j)) i;
      }

  pub branches_fit_in : HasBudget rs bs → (ns : List ℕ) → AreOnce ns → ((n : ℕ) → IsIn n ns → TakesOn (length rs) bs core n) → total_of (takes_at bs) ns ≤ needed_on core rs
  branches_fit_in budget ns once h =
      let d = all_at_depth ns h in
      let l = total_within (takes_at bs) ns (leaves_on (0 + d.depth) bs core 0 rs) once (λ n i. d.leaf 0 n i) in
      let t = total_on (0 + d.depth) bs core 0 rs in
      let s = threads_suffice rs bs budget (0 + d.depth) core in
      omega arith

  pub budgets_fit_in : (budget : ℕ → ℕ) → Budgeted rs budget bs → (ns : List ℕ) → AreOnce ns → ((n : ℕ) → IsIn n ns → TakesOn (length rs) bs core n) → total_of budget ns ≤ needed_on core rs
  budgets_fit_in budget h ns once k =
      let d = all_at_depth ns k in
      let l = total_within budget ns (leaves_on (0 + d.depth) bs core 0 rs) once (λ n i. d.leaf 0 n i) in
      let s = most_on rs bs budget h (0 + d.depth) core in
      omega arith
