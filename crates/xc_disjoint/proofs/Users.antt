-- The branches of a `par` that use a channel, one behind the other.
use Rattle.std.proofs.Common.{◌≡◌, ◌⊎◌, inl, inr, ⊎_elim, ℕ, zero, suc, ◌+◌, ◌<◌, ◌≤◌, true, false, IsTrue, List, [], ◌∷◌, ◌++◌, Some, nat_lt, slice_get, refl, sym, ap, subst, ◌∙◌, arith, append_assoc, append-nil}
use Rattle.std.proofs.lemmas.Bool.Decides.{nat_tests}
use Rattle.xc_kernel.specs.Plain as kernel
use Rattle.xc_kernel.specs.Things.{channel, by_branch}
use Rattle.xc_kernel.specs.Uses as uses
use Rattle.xc_kernel.specs.Uses.{once, count_of}
use Rattle.xc_kernel.specs.Pars as pars
use Rattle.xc_kernel.specs.Branches.{branch_at, uses_in, users, users_before}
use Rattle.xc_kernel.proofs.Used.{count_append, branch_use}
use Rattle.xc_disjoint.proofs.FirstSoFar.{some_same, none_same}
use Rattle.xc_disjoint.specs.SideRules.{IsUser}

-- what stands somewhere in a list
abbrev pub Has : {A : Type 0} → List A → A → Type 0
Has xs a = (i : ℕ) × (slice_get xs i ≡ Some a)

pub has_first : {A : Type 0} (xs ys : List A) (a : A) → Has xs a → Has (xs ++ ys) a
has_first {A = A} xs ys a h = (h.0, at xs h.0 h.1)
  where
    at : (xs : List A) (i : ℕ) → slice_get xs i ≡ Some a → slice_get (xs ++ ys) i ≡ Some a
    at [] i e = none_same a e
    at (x ∷ xs) zero e = e
    at (x ∷ xs) (suc i) e = at xs i e

pub has_second : {A : Type 0} (xs ys : List A) (a : A) → Has ys a → Has (xs ++ ys) a
has_second [] ys a h = h
has_second (x ∷ xs) ys a h = let g = has_second xs ys a h in (suc g.0, g.1)

pub has_split : {A : Type 0} (xs ys : List A) (a : A) → Has (xs ++ ys) a → Has xs a ⊎ Has ys a
has_split {A = A} xs ys a h = at xs h.0 h.1
  where
    at : (xs : List A) (i : ℕ) → slice_get (xs ++ ys) i ≡ Some a → Has xs a ⊎ Has ys a
    at [] i e = inr (i, e)
    at (x ∷ xs) zero e = inl (0, e)
    at (x ∷ xs) (suc i) e = ⊎_elim (λ g. inl (suc g.0, g.1)) inr (at xs i e)

pub has_none : {A B : Type 0} (a : A) → Has [] a → B
has_none a h = none_same a h.1

-- one branch behind others
abbrev pub snoc : kernel.Branches → kernel.Branch → kernel.Branches
snoc kernel.no_branch b = kernel.more_branches b kernel.no_branch
snoc (kernel.more_branches a bs) b = kernel.more_branches a (snoc bs b)

abbrev pub behind : kernel.Branches → kernel.Branches → kernel.Branches
behind kernel.no_branch bs = bs
behind (kernel.more_branches a front) bs = kernel.more_branches a (behind front bs)

pub behind_snoc : (front : kernel.Branches) (b : kernel.Branch) (bs : kernel.Branches) → behind (snoc front b) bs ≡ behind front (kernel.more_branches b bs)
behind_snoc kernel.no_branch b bs = refl
behind_snoc (kernel.more_branches a front) b bs = ap (kernel.more_branches a) (behind_snoc front b bs)

pub behind_none : (front : kernel.Branches) → behind front kernel.no_branch ≡ front
behind_none kernel.no_branch = refl
behind_none (kernel.more_branches a front) = ap (kernel.more_branches a) (behind_none front)

pub pars_snoc : (front : kernel.Branches) (b : kernel.Branch) → pars.of_branches (snoc front b) ≡ pars.of_branches front ++ pars.of_branch b
pars_snoc kernel.no_branch b = append-nil (pars.of_branch b)
pars_snoc (kernel.more_branches a front) b = ap (λ ps. pars.of_branch a ++ ps) (pars_snoc front b) ∙ sym (append_assoc (pars.of_branch a) (pars.of_branches front) (pars.of_branch b))

module _ (c : ℕ) where
  own : kernel.Branch → ℕ
  own b = count_of c (uses.of_branch b)

  count_more : (a : kernel.Branch) (bs : kernel.Branches) → uses_in c (kernel.more_branches a bs) ≡ count_of c (uses.of_branch a) + uses_in c bs
  count_more a bs = count_append c (uses.of_branch a) (uses.of_branches bs)

  pub count_snoc : (front : kernel.Branches) (b : kernel.Branch) → uses_in c (snoc front b) ≡ uses_in c front + count_of c (uses.of_branch b)
  count_snoc kernel.no_branch b = let e = count_more b kernel.no_branch in omega arith
  count_snoc (kernel.more_branches a front) b = let e = count_more a (snoc front b) in let f = count_more a front in let g = count_snoc front b in omega arith

  pub users_snoc : (front : kernel.Branches) (b : kernel.Branch) → users c (snoc front b) ≡ users c front + once (by_branch (channel c) b)
  users_snoc kernel.no_branch b = omega arith
  users_snoc (kernel.more_branches a front) b = let g = users_snoc front b in omega arith

  -- whether a branch uses the channel, by how often it does
  pub used_by : (b : kernel.Branch) → ((by_branch (channel c) b ≡ false) × (count_of c (uses.of_branch b) ≡ 0)) ⊎ ((by_branch (channel c) b ≡ true) × (0 < count_of c (uses.of_branch b)))
  used_by b = by (count_of c (uses.of_branch b)) refl
    where
      by : (n : ℕ) → count_of c (uses.of_branch b) ≡ n → ((by_branch (channel c) b ≡ false) × (count_of c (uses.of_branch b) ≡ 0)) ⊎ ((by_branch (channel c) b ≡ true) × (0 < count_of c (uses.of_branch b)))
      by zero e = inl (sym (branch_use c b) ∙ ap (nat_lt 0) e ∙ (let f : nat_lt 0 0 ≡ false = grind (arith, nat_tests) in f), e)
      by (suc n) e = inr (sym (branch_use c b) ∙ ap (nat_lt 0) e ∙ (let f : nat_lt 0 (suc n) ≡ true = grind (arith, nat_tests) in f), omega arith)

  pub users_below : (bs : kernel.Branches) → users c bs ≤ uses_in c bs
  users_below kernel.no_branch = omega arith
  users_below (kernel.more_branches a bs) =
      let e = count_more a bs in
      let g = users_below bs in
      ⊎_elim (λ h. let o = ap once h.0 in omega arith) (λ h. let o = ap once h.0 in let l = h.1 in omega arith) (used_by a)

  pub none_used : (bs : kernel.Branches) → users c bs ≡ 0 → uses_in c bs ≡ 0
  none_used kernel.no_branch z = refl
  none_used (kernel.more_branches a bs) z =
      let e = count_more a bs in
      ⊎_elim (λ h. let o = ap once h.0 in let n = h.1 in let g = none_used bs (omega arith) in omega arith) (λ h. let o = ap once h.0 in absurd (omega arith)) (used_by a)

  -- behind a user there is one more

  before_more : (bs : kernel.Branches) (i j : ℕ) (b : kernel.Branch) → branch_at bs i ≡ Some b → IsTrue (by_branch (channel c) b) → i < j → users_before c bs i + 1 ≤ users_before c bs j
  before_more kernel.no_branch i j b e u lt = none_same b e
  before_more (kernel.more_branches a bs) i zero b e u lt = absurd (omega arith)
  before_more (kernel.more_branches a bs) zero (suc j) b e u lt = let o = ap once (subst (λ x. by_branch (channel c) x ≡ true) (sym (some_same a b e)) u) in omega arith
  before_more (kernel.more_branches a bs) (suc i) (suc j) b e u lt = let h = before_more bs i j b e u (omega arith) in omega arith

  before_all : (bs : kernel.Branches) (i : ℕ) (b : kernel.Branch) → branch_at bs i ≡ Some b → IsTrue (by_branch (channel c) b) → users_before c bs i + 1 ≤ users c bs
  before_all kernel.no_branch i b e u = none_same b e
  before_all (kernel.more_branches a bs) zero b e u = let o = ap once (subst (λ x. by_branch (channel c) x ≡ true) (sym (some_same a b e)) u) in omega arith
  before_all (kernel.more_branches a bs) (suc i) b e u = let h = before_all bs i b e u in omega arith

  pub user_bound : (bs : kernel.Branches) (k : ℕ) (b : kernel.Branch) → IsUser c bs k b → k < users c bs
  user_bound bs k b h = let l = before_all bs h.place b h.is h.uses in let e = h.behind in omega arith

  pub user_same : (bs : kernel.Branches) (k : ℕ) (a b : kernel.Branch) → IsUser c bs k a → IsUser c bs k b → a ≡ b
  user_same bs k a b h g = by (order h.place g.place)
    where
      order : (i j : ℕ) → (i ≡ j) ⊎ ((i < j) ⊎ (j < i))
      order i j = grind arith

      by : (h.place ≡ g.place) ⊎ ((h.place < g.place) ⊎ (g.place < h.place)) → a ≡ b
      by (inl e) = some_same a b (sym h.is ∙ ap (branch_at bs) e ∙ g.is)
      by (inr (inl l)) = let m = before_more bs h.place g.place a h.is h.uses l in let x = h.behind in let y = g.behind in absurd (omega arith)
      by (inr (inr l)) = let m = before_more bs g.place h.place b g.is g.uses l in let x = h.behind in let y = g.behind in absurd (omega arith)

  -- users of the first branches, and the last one

  pub user_first : (front : kernel.Branches) (x : kernel.Branch) (k : ℕ) (b : kernel.Branch) → IsUser c front k b → IsUser c (snoc front x) k b
  user_first front x k b h = record { place = h.place; is = at front h.place h.is; uses = h.uses; behind = sym (same front h.place h.is) ∙ h.behind }
    where
      at : (bs : kernel.Branches) (i : ℕ) → branch_at bs i ≡ Some b → branch_at (snoc bs x) i ≡ Some b
      at kernel.no_branch i e = none_same b e
      at (kernel.more_branches a bs) zero e = e
      at (kernel.more_branches a bs) (suc i) e = at bs i e

      same : (bs : kernel.Branches) (i : ℕ) → branch_at bs i ≡ Some b → users_before c bs i ≡ users_before c (snoc bs x) i
      same kernel.no_branch i e = none_same b e
      same (kernel.more_branches a bs) zero e = refl
      same (kernel.more_branches a bs) (suc i) e = ap (λ n. once (by_branch (channel c) a) + n) (same bs i e)

  pub user_last : (front : kernel.Branches) (x : kernel.Branch) → by_branch (channel c) x ≡ true → (k : ℕ) → users c front ≡ k → IsUser c (snoc front x) k x
  user_last front x u k e = let h = at front in record { place = h.0; is = h.1; uses = u; behind = h.2 ∙ e }
    where
      at : (bs : kernel.Branches) → (i : ℕ) × (branch_at (snoc bs x) i ≡ Some x) × (users_before c (snoc bs x) i ≡ users c bs)
      at kernel.no_branch = (0, refl, refl)
      at (kernel.more_branches a bs) = let h = at bs in (suc h.0, h.1, ap (λ n. once (by_branch (channel c) a) + n) h.2)

  -- where there are more users, one is behind so many others

  pub user_at : (bs : kernel.Branches) (k : ℕ) → k < users c bs → (b : kernel.Branch) × IsUser c bs k b
  user_at kernel.no_branch k lt = absurd (omega arith)
  user_at (kernel.more_branches a bs) k lt = ⊎_elim (λ h. let o = ap once h.0 in next k k (omega arith) (user_at bs k (omega arith))) (λ h. by h.0 k lt (λ i l. user_at bs i l)) (used_by a)
    where
      next : (n i : ℕ) → once (by_branch (channel c) a) + i ≡ n → (b : kernel.Branch) × IsUser c bs i b → (b : kernel.Branch) × IsUser c (kernel.more_branches a bs) n b
      next n i e h = (h.0, record { place = suc h.1.place; is = h.1.is; uses = h.1.uses; behind = ap (λ x. once (by_branch (channel c) a) + x) h.1.behind ∙ e })

      by : by_branch (channel c) a ≡ true → (k : ℕ) → k < users c (kernel.more_branches a bs) → ((i : ℕ) → i < users c bs → (b : kernel.Branch) × IsUser c bs i b) → (b : kernel.Branch) × IsUser c (kernel.more_branches a bs) k b
      by u zero lt rec = (a, record { place = 0; is = refl; uses = u; behind = refl })
      by u (suc k) lt rec = let o = ap once u in next (suc k) k (omega arith) (rec k (omega arith))
