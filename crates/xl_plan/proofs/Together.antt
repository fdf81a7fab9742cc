-- Which roots use a channel, and on which cores its sides are.
use Rattle.std.proofs.Common.{◌≡◌, ℕ, zero, suc, ◌+◌, ◌≤◌, Bool, true, false, ◌||◌, cond, List, [], ◌∷◌, Option, Some, None, slice_get, sum_by, nat_eq, nat_lt, refl, sym, ap, ◌∙◌, true≢false, arith}
use Rattle.std.proofs.lemmas.List.Sums.{sum_by-cons}
use Rattle.xc_kernel.specs.Plain as kernel
use Rattle.xc_kernel.specs.Things.{channel, by_statements, by_branches}
use Rattle.xc_kernel.specs.Uses as kernel_uses
use Rattle.xc_kernel.specs.Uses.{once, count_of}
use Rattle.xc_kernel.specs.Branches.{branches_of, uses_in, users}
use Rattle.xc_kernel.proofs.Used.{branches_use, count_append, statements_use}
use Rattle.xc_disjoint.specs.Cores.{if_so, on_core}
use Rattle.xl_plan.specs.declared.channels.SideCores.{SideCores}
use Rattle.xl_plan.specs.Layout.{ends_there, second_or, side_cores}
use Rattle.xl_plan.proofs.Lists.{some_given, none_given}

-- the sum over roots of which each has nothing
pub sum_of_none : (f : kernel.Root → ℕ) (rs : List kernel.Root) → ((i : ℕ) (r : kernel.Root) → slice_get rs i ≡ Some r → f r ≡ 0) → sum_by f rs ≡ 0
sum_of_none f [] h = refl
sum_of_none f (r ∷ rs) h =
    let s = sum_by-cons f r rs in
    let own = h 0 r refl in
    let others = sum_of_none f rs (λ i q. h (suc i) q) in
    omega (arith, s, own, others)

-- both sides on one core
abbrev pub both_on : (core : ℕ) → SideCores
both_on core = record { first = core; second = core }

-- the sides of a channel that a root on this core uses, before others that have these
abbrev pub with_first : (core : ℕ) → Option SideCores → SideCores
with_first core cores = record { first = core; second = second_or core cores }

-- a root more that uses a channel, or doesn't
pub met : (c : ℕ) (r : kernel.Root) (rs : List kernel.Root) → by_statements (channel c) r.body ≡ true → side_cores c (r ∷ rs) ≡ Some (with_first r.core (side_cores c rs))
met c r rs u = ap (λ b. cond b (Some (with_first r.core (side_cores c rs))) (side_cores c rs)) u

pub passed : (c : ℕ) (r : kernel.Root) (rs : List kernel.Root) → by_statements (channel c) r.body ≡ false → side_cores c (r ∷ rs) ≡ side_cores c rs
passed c r rs u = ap (λ b. cond b (Some (with_first r.core (side_cores c rs))) (side_cores c rs)) u

module _ (c : ℕ) where
  abbrev pub uses : kernel.Root → Bool
  uses r = by_statements (channel c) r.body

  -- what a root uses is used
  pub used_among : (rs : List kernel.Root) (i : ℕ) (r : kernel.Root) → slice_get rs i ≡ Some r → uses r ≡ true → by_branches (channel c) (branches_of rs) ≡ true
  used_among [] i r e u = absurd (none_given e)
  used_among (q ∷ rs) zero r e u = ap (λ b. b || by_branches (channel c) (branches_of rs)) (ap uses (some_given e) ∙ u)
  used_among (q ∷ rs) (suc i) r e u = either (uses q) (by_branches (channel c) (branches_of rs)) (used_among rs i r e u)
    where
      either : (a b : Bool) → b ≡ true → (a || b) ≡ true
      either true b e = refl
      either false b e = e

  -- what isn't used no root uses
  pub unused_by : (rs : List kernel.Root) → by_branches (channel c) (branches_of rs) ≡ false → (i : ℕ) (r : kernel.Root) → slice_get rs i ≡ Some r → uses r ≡ false
  unused_by rs none i r at = by (uses r) refl
    where
      by : (b : Bool) → uses r ≡ b → uses r ≡ false
      by true e = absurd (true≢false (sym (used_among rs i r at e) ∙ none))
      by false e = e

  -- what has no uses doesn't use it
  not_used : (ss : kernel.Statements) → count_of c (kernel_uses.of_statements ss) ≡ 0 → by_statements (channel c) ss ≡ false
  not_used ss z = sym (statements_use c ss) ∙ ap (nat_lt 0) z ∙ (let e : nat_lt 0 0 ≡ false = grind arith in e)

  none_used : (bs : kernel.Branches) → uses_in c bs ≡ 0 → by_branches (channel c) bs ≡ false
  none_used bs z = sym (branches_use c bs) ∙ ap (nat_lt 0) z ∙ (let e : nat_lt 0 0 ≡ false = grind arith in e)

  uses_within : (rs : List kernel.Root) (i : ℕ) (r : kernel.Root) → slice_get rs i ≡ Some r → count_of c (kernel_uses.of_statements r.body) ≤ uses_in c (branches_of rs)
  uses_within [] i r e = absurd (none_given e)
  uses_within (q ∷ rs) zero r e =
      let s = count_append c (kernel_uses.of_statements q.body) (kernel_uses.of_branches (branches_of rs)) in
      let same = ap (λ (x : kernel.Root). count_of c (kernel_uses.of_statements x.body)) (some_given e) in
      omega (arith, s, same)
  uses_within (q ∷ rs) (suc i) r e =
      let s = count_append c (kernel_uses.of_statements q.body) (kernel_uses.of_branches (branches_of rs)) in
      let h = uses_within rs i r e in
      omega (arith, s, h)

  -- What only its users have.
  module _ (f : kernel.Root → ℕ) (no_other : (r : kernel.Root) → uses r ≡ false → f r ≡ 0) where
    -- where one root has all uses, it has all
    pub sum_of_one : (rs : List kernel.Root) (i : ℕ) (r : kernel.Root) → slice_get rs i ≡ Some r → uses_in c (branches_of rs) ≤ count_of c (kernel_uses.of_statements r.body) → sum_by f rs ≡ f r
    sum_of_one [] i r e all = absurd (none_given e)
    sum_of_one (q ∷ rs) zero r e all =
        let s = sum_by-cons f q rs in
        let n = count_append c (kernel_uses.of_statements q.body) (kernel_uses.of_branches (branches_of rs)) in
        let same = ap (λ (x : kernel.Root). count_of c (kernel_uses.of_statements x.body)) (some_given e) in
        let it = ap f (some_given e) in
        let unused = none_used (branches_of rs) (omega (arith, n, same, all)) in
        let others = sum_of_none f rs (λ i x at. no_other x (unused_by rs unused i x at)) in
        omega (arith, s, it, others)
    sum_of_one (q ∷ rs) (suc i) r e all =
        let s = sum_by-cons f q rs in
        let n = count_append c (kernel_uses.of_statements q.body) (kernel_uses.of_branches (branches_of rs)) in
        let within = uses_within rs i r e in
        let own = no_other q (not_used q.body (omega (arith, n, within, all))) in
        let others = sum_of_one rs i r e (omega (arith, n, all)) in
        omega (arith, s, own, others)

  -- The cores of its sides.

  -- what no root uses has none
  pub no_cores : (rs : List kernel.Root) → ((i : ℕ) (r : kernel.Root) → slice_get rs i ≡ Some r → uses r ≡ false) → side_cores c rs ≡ None
  no_cores [] none = refl
  no_cores (r ∷ rs) none = passed c r rs (none 0 r refl) ∙ no_cores rs (λ i q. none (suc i) q)

  -- where one root has all uses, it has both sides
  pub cores_of_one : (rs : List kernel.Root) (i : ℕ) (r : kernel.Root) → slice_get rs i ≡ Some r → uses r ≡ true → uses_in c (branches_of rs) ≤ count_of c (kernel_uses.of_statements r.body) → side_cores c rs ≡ Some (both_on r.core)
  cores_of_one [] i r e used all = absurd (none_given e)
  cores_of_one (q ∷ rs) zero r e used all =
      let n = count_append c (kernel_uses.of_statements q.body) (kernel_uses.of_branches (branches_of rs)) in
      let same = ap (λ (x : kernel.Root). count_of c (kernel_uses.of_statements x.body)) (some_given e) in
      let unused = none_used (branches_of rs) (omega (arith, n, same, all)) in
      met c q rs (ap uses (some_given e) ∙ used)
      ∙ ap (λ cores. Some (with_first q.core cores)) (no_cores rs (unused_by rs unused))
      ∙ ap (λ (x : kernel.Root). Some (both_on x.core)) (some_given e)
  cores_of_one (q ∷ rs) (suc i) r e used all =
      let n = count_append c (kernel_uses.of_statements q.body) (kernel_uses.of_branches (branches_of rs)) in
      let within = uses_within rs i r e in
      passed c q rs (not_used q.body (omega (arith, n, within, all))) ∙ cores_of_one rs i r e used (omega (arith, n, all))

  -- Where two roots use it, each has a side.
  module _ (core : ℕ) where
    -- one for each root that uses it and is on the core
    abbrev pub users_on : List kernel.Root → ℕ
    users_on rs = sum_by (λ (r : kernel.Root). on_core core r.core (once (uses r))) rs

    one_more : (r : kernel.Root) (rs : List kernel.Root) → uses r ≡ true → users_on (r ∷ rs) ≡ on_core core r.core 1 + users_on rs
    one_more r rs u =
        sum_by-cons (λ (r : kernel.Root). on_core core r.core (once (uses r))) r rs
        ∙ ap (λ b. on_core core r.core (once b) + users_on rs) u

    no_more : (r : kernel.Root) (rs : List kernel.Root) → uses r ≡ false → users_on (r ∷ rs) ≡ users_on rs
    no_more r rs u =
        sum_by-cons (λ (r : kernel.Root). on_core core r.core (once (uses r))) r rs
        ∙ ap (λ b. on_core core r.core (once b) + users_on rs) u
        ∙ ap (λ n. n + users_on rs) (none (nat_eq r.core core))
        ∙ (let z : 0 + users_on rs ≡ users_on rs = omega arith in z)
      where
        none : (b : Bool) → if_so b 0 ≡ 0
        none true = refl
        none false = refl

    no_user : (rs : List kernel.Root) → users c (branches_of rs) ≡ 0 → (side_cores c rs ≡ None) × (users_on rs ≡ 0)
    no_user [] z = (refl, refl)
    no_user (r ∷ rs) z = by (uses r) refl (no_user rs)
      where
        by : (b : Bool) → uses r ≡ b → (users c (branches_of rs) ≡ 0 → (side_cores c rs ≡ None) × (users_on rs ≡ 0)) → (side_cores c (r ∷ rs) ≡ None) × (users_on (r ∷ rs) ≡ 0)
        by true u others = let n = ap once u in absurd (let q : ⊥ = omega (arith, n, z) in q)
        by false u others =
            let n = ap once u in
            let h = others (omega (arith, n, z)) in
            (passed c r rs u ∙ h.0, no_more r rs u ∙ h.1)

    one_user : (rs : List kernel.Root) → users c (branches_of rs) ≡ 1 → (its_core : ℕ) × (side_cores c rs ≡ Some (both_on its_core)) × (users_on rs ≡ on_core core its_core 1)
    one_user [] z = absurd (let q : ⊥ = omega (arith, z) in q)
    one_user (r ∷ rs) z = by (uses r) refl (one_user rs)
      where
        by : (b : Bool) → uses r ≡ b →
            (users c (branches_of rs) ≡ 1 → (its_core : ℕ) × (side_cores c rs ≡ Some (both_on its_core)) × (users_on rs ≡ on_core core its_core 1)) →
            (its_core : ℕ) × (side_cores c (r ∷ rs) ≡ Some (both_on its_core)) × (users_on (r ∷ rs) ≡ on_core core its_core 1)
        by true u others =
            let n = ap once u in
            let h = no_user rs (omega (arith, n, z)) in
            let e = one_more r rs u in
            let none = h.1 in
            (r.core, met c r rs u ∙ ap (λ cores. Some (with_first r.core cores)) h.0, omega (arith, e, none))
        by false u others =
            let n = ap once u in
            let h = others (omega (arith, n, z)) in
            (h.0, passed c r rs u ∙ h.1, no_more r rs u ∙ h.2)

    pub two_users : (rs : List kernel.Root) → users c (branches_of rs) ≡ 2 → users_on rs ≡ ends_there core (side_cores c rs)
    two_users [] z = absurd (let q : ⊥ = omega (arith, z) in q)
    two_users (r ∷ rs) z = by (uses r) refl (two_users rs)
      where
        by : (b : Bool) → uses r ≡ b → (users c (branches_of rs) ≡ 2 → users_on rs ≡ ends_there core (side_cores c rs)) → users_on (r ∷ rs) ≡ ends_there core (side_cores c (r ∷ rs))
        by true u others =
            let n = ap once u in
            let h = one_user rs (omega (arith, n, z)) in
            one_more r rs u
            ∙ ap (λ m. on_core core r.core 1 + m) h.2
            ∙ ap (ends_there core) (sym (met c r rs u ∙ ap (λ cores. Some (with_first r.core cores)) h.1))
        by false u others =
            let n = ap once u in
            no_more r rs u ∙ others (omega (arith, n, z)) ∙ ap (ends_there core) (sym (passed c r rs u))
