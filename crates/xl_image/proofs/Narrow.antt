-- No `par` of a checked kernel's roots has more branches than a core has threads, and no select names more resources than it has.
use Rattle.std.specs.List.{AllByRecursion, IsDistinct}
use Rattle.std.proofs.Common.{◌≡◌, ℕ, zero, suc, ◌+◌, ◌≤◌, Bool, true, false, ◌||◌, if◌then◌else◌, List, [], ◌∷◌, ◌++◌, length, Contains, Option, Some, None, slice_get, sum_by, refl, sym, ap, arith, eq-eqb}
use Rattle.std.proofs.lemmas.List.Sums.{sum_by-cons}
use Rattle.std.specs.Prelude.{max}
use Rattle.xc_kernel.specs.declared.statement.KRes.{KRes}
use Rattle.xc_kernel.specs.declared.statement.KRes.TheVariants.{Port, Timer, Chan}
use Rattle.xc_kernel.specs.Plain as kernel
use Rattle.xc_kernel.specs.Things.{Thing, by_resource, by_expression, by_some_expression, by_input, by_statement, by_statements, by_case, by_cases, by_default, by_branches}
use Rattle.xc_meaning.specs.Counts.KernelCounts.{branch_count}
use Rattle.xc_meaning.specs.Settings.Select.{same_resource}
use Rattle.xc_disjoint.specs.Checked.{IsChecked}
use Rattle.xc_disjoint.specs.Cores.{if_so, last_core}
use Rattle.xc_disjoint.specs.Needs.{threads_of_root}
use Rattle.xc_disjoint.specs.Threads as threads
use Rattle.xc_wellformed.specs.Each.{AnyExpression, AnyPlace, AnyNumber, EachStatement, EachOf, EachCase, EachDefault, EachBranch}
use Rattle.xc_wellformed.specs.Transfers.{GoesOut, ComesIn}
use Rattle.xc_wellformed.proofs.Formed.{of_programs}
use Rattle.xl_select.specs.OpeningCode.{flag_by, place_from, resources_from, seen_by, seen_with}
use Rattle.xl_statements.specs.Built.{AreNarrow, BranchesAreNarrow, CasesAreNarrow, DefaultIsNarrow, IsNarrow, most_branches, most_resources}
use Rattle.xl_plan.proofs.FewResources.{IsHere, few_resources, input_here, thing_of}
use Rattle.xl_plan.proofs.Lists.{contains_at, none_given, some_given}
use Rattle.xl_plan.proofs.UsedResources.{root_each}
use Rattle.xl_image.proofs.Rooted.{root_is_low}
use Rattle.xl_image.proofs.Threads.{few_threads, some_thread}

-- Resources that cases name.

all_behind : {X : Type 0} (P : X → Type 0) (xs : List X) (x : X) → AllByRecursion P xs → P x → AllByRecursion P (xs ++ x ∷ [])
all_behind P [] x h g = (g, tt)
all_behind P (y ∷ xs) x h g = (h.0, all_behind P xs x h.1 g)

distinct_behind : (qs : List KRes) (r : KRes) → IsDistinct same_resource qs → AllByRecursion (λ q. same_resource q r ≡ false) qs → IsDistinct same_resource (qs ++ r ∷ [])
unfolding IsDistinct
distinct_behind [] r d h = (tt, tt)
distinct_behind (q ∷ qs) r d h = (all_behind (λ s. same_resource q s ≡ false) qs r d.0 h.0, distinct_behind qs r d.1 h.1)

none_distinct : IsDistinct same_resource []
unfolding IsDistinct
none_distinct = tt

-- a resource that has no place among some is none of them
is_new : (r : KRes) (qs : List KRes) (n : ℕ) → place_from n qs r ≡ None → AllByRecursion (λ q. same_resource q r ≡ false) qs
is_new r [] n e = tt
is_new r (q ∷ qs) n e = by (same_resource q r) refl e (is_new r qs (n + 1))
  where
    by : (b : Bool) → same_resource q r ≡ b → (if b then Some n else place_from (n + 1) qs r) ≡ None →
        (place_from (n + 1) qs r ≡ None → AllByRecursion (λ q. same_resource q r ≡ false) qs) → AllByRecursion (λ q. same_resource q r ≡ false) (q ∷ qs)
    by true is e others = absurd (none_given (sym e))
    by false is e others = (is, others e)

module _ (P : KRes → Type 0) where
  -- different resources of which this holds
  pub record AreDifferent (qs : List KRes) : Type 0 where
    pub distinct : IsDistinct same_resource qs
    pub each : AllByRecursion P qs

  one_more : (qs : List KRes) (r : KRes) → AreDifferent qs → P r → AreDifferent (seen_with qs r)
  one_more qs r h g = by (place_from 0 qs r) refl
    where
      by : (o : Option ℕ) → place_from 0 qs r ≡ o → AreDifferent (seen_by qs r (flag_by (length qs) o).is_known)
      by (Some n) e = h
      by None e = record { distinct = distinct_behind qs r h.distinct (is_new r qs 0 e); each = all_behind P qs r h.each g }

  -- of the resource of each case
  abbrev pub OfCases : kernel.Cases → Type 0
  OfCases kernel.no_case = Unit {0}
  OfCases (kernel.more_cases (kernel.case guard i ss) cs) = P i.resource × OfCases cs

  named_behind : (qs : List KRes) (cs : kernel.Cases) → AreDifferent qs → OfCases cs → AreDifferent (resources_from qs cs)
  named_behind qs kernel.no_case h g = h
  named_behind qs (kernel.more_cases (kernel.case guard i ss) cs) h g =
      named_behind (seen_with qs i.resource) cs (one_more qs i.resource h g.0) g.1

  pub named : (cs : kernel.Cases) → OfCases cs → AreDifferent (resources_from [] cs)
  named cs g = named_behind [] cs (record { distinct = none_distinct; each = tt }) g

-- Threads.

left_few : (n m : ℕ) → max n m ≤ most_branches → n ≤ most_branches
left_few n m h = grind arith

right_few : (n m : ℕ) → max n m ≤ most_branches → m ≤ most_branches
right_few n m h = grind arith

-- a `par` needs a thread for each
branches_need : (bs : kernel.Branches) → branch_count bs ≤ threads.of_branches bs
branches_need kernel.no_branch = omega arith
branches_need (kernel.more_branches (kernel.branch ss pos) bs) = let a = some_thread ss in let b = branches_need bs in omega (arith, a, b)

-- a root needs no more threads than its core
root_within : (core : ℕ) (rs : List kernel.Root) (place : ℕ) (r : kernel.Root) → slice_get rs place ≡ Some r → threads_of_root core r ≤ sum_by (threads_of_root core) rs
root_within core [] place r e = absurd (none_given e)
root_within core (q ∷ rs) zero r e =
    let s = sum_by-cons (threads_of_root core) q rs in
    let same = ap (threads_of_root core) (some_given e) in
    omega (arith, s, same)
root_within core (q ∷ rs) (suc place) r e =
    let s = sum_by-cons (threads_of_root core) q rs in
    let h = root_within core rs place r e in
    omega (arith, s, h)

own_threads : (r : kernel.Root) → threads_of_root r.core r ≡ threads.of_statements r.body
own_threads r = ap (λ b. if_so b (threads.of_statements r.body)) (eq-eqb r.core r.core refl)

-- Uses.

left_true : (a b : Bool) → a ≡ true → (a || b) ≡ true
left_true true b e = refl
left_true false b e = cc

right_true : (a b : Bool) → b ≡ true → (a || b) ≡ true
right_true true b e = refl
right_true false b e = e

-- what uses a resource uses the thing that it is
its_thing : (r : KRes) → by_resource (thing_of r) r ≡ true
its_thing (Port p) = eq-eqb p p refl
its_thing (Timer t) = eq-eqb t t refl
its_thing (Chan c) = eq-eqb c c refl

-- Code of a root, where the root uses all that the code uses.
module _ (k : kernel.Kernel) (checked : IsChecked k) (r : kernel.Root) (among : Contains k.roots r) (is_core : r.core ≤ last_core) where
  -- what is used by this is used by the root
  abbrev IsOfRoot : (Thing → Bool) → Type 0
  IsOfRoot uses = (th : Thing) → uses th ≡ true → by_statements th r.body ≡ true

  abbrev CasesComeIn : kernel.Cases → Type 0
  CasesComeIn = EachCase AnyExpression AnyPlace AnyNumber (GoesOut k) (ComesIn k) AnyNumber

  cases_here : (cs : kernel.Cases) → CasesComeIn cs → IsOfRoot (λ th. by_cases th cs) → OfCases (IsHere k r.core) cs
  cases_here kernel.no_case right used = tt
  cases_here (kernel.more_cases (kernel.case guard i ss) cs) right used =
      let th = thing_of i.resource in
      let by_it : by_input th i ≡ true = left_true (by_resource th i.resource) _ (its_thing i.resource) in
      let by_case_of : by_case th (kernel.case guard i ss) ≡ true =
      right_true (by_some_expression th guard) _ (left_true (by_input th i) (by_statements th ss) by_it) in (
        input_here k checked r among i right.0.1.0.0 (used th (left_true (by_case th (kernel.case guard i ss)) (by_cases th cs) by_case_of)),
        cases_here cs right.1 (λ th e. used th (right_true (by_case th (kernel.case guard i ss)) (by_cases th cs) e)),
      )

  -- what a side of an `if` or a loop uses
  used_first : (x : kernel.Expression) (a b : kernel.Statements) →
      IsOfRoot (λ th. by_expression th x || (by_statements th a || by_statements th b)) → IsOfRoot (λ th. by_statements th a)
  used_first x a b used th e = used th (right_true (by_expression th x) _ (left_true (by_statements th a) (by_statements th b) e))

  used_second : (x : kernel.Expression) (a b : kernel.Statements) →
      IsOfRoot (λ th. by_expression th x || (by_statements th a || by_statements th b)) → IsOfRoot (λ th. by_statements th b)
  used_second x a b used th e = used th (right_true (by_expression th x) _ (right_true (by_statements th a) (by_statements th b) e))

  few_named : (cs : kernel.Cases) → OfCases (IsHere k r.core) cs → length (resources_from [] cs) ≤ most_resources
  few_named cs h =
      let all = named (IsHere k r.core) cs h in
      let few = few_resources k r.core checked is_core (resources_from [] cs) all.each all.distinct in
      omega (arith, few)

  mutual
    narrow : (s : kernel.Statement) → EachStatement AnyExpression AnyPlace AnyNumber (GoesOut k) (ComesIn k) AnyNumber s →
        IsOfRoot (λ th. by_statement th s) → threads.of_statement s ≤ most_branches → IsNarrow s
    narrow (kernel.set_zero v) right used h = tt
    narrow (kernel.set p e) right used h = tt
    narrow (kernel.output o) right used h = tt
    narrow (kernel.input i) right used h = tt
    narrow (kernel.if_then x a b) right used h = (
      all_narrow a right.1.0 (used_first x a b used) (left_few (threads.of_statements a) (threads.of_statements b) h),
      all_narrow b right.1.1 (used_second x a b used) (right_few (threads.of_statements a) (threads.of_statements b) h),
    )
    narrow (kernel.loop x a b) right used h = (
      all_narrow a right.1.0 (used_first x a b used) (left_few (threads.of_statements a) (threads.of_statements b) h),
      all_narrow b right.1.1 (used_second x a b used) (right_few (threads.of_statements a) (threads.of_statements b) h),
    )
    narrow (kernel.block n a) right used h = all_narrow a right used h
    narrow (kernel.exit n) right used h = tt
    narrow (kernel.select cs d pos) right used h =
        let of_cases : IsOfRoot (λ th. by_cases th cs) = λ th e. used th (left_true (by_cases th cs) (by_default th d) e) in (
          few_named cs (cases_here cs right.0 of_cases),
          cases_narrow cs right.0 of_cases (left_few (threads.of_cases cs) (threads.of_default d) h),
          default_narrow d right.1 (λ th e. used th (right_true (by_cases th cs) (by_default th d) e))
              (right_few (threads.of_cases cs) (threads.of_default d) h),
        )
    narrow (kernel.par bs) right used h =
        let few = left_few (threads.of_branches bs) 1 h in
        let need = branches_need bs in
        (omega (arith, few, need), branches_narrow bs right used few)
    narrow (kernel.transaction c is_master a start close) right used h = tt

    all_narrow : (ss : kernel.Statements) → EachOf AnyExpression AnyPlace AnyNumber (GoesOut k) (ComesIn k) AnyNumber ss →
        IsOfRoot (λ th. by_statements th ss) → threads.of_statements ss ≤ most_branches → AreNarrow ss
    all_narrow kernel.no_more right used h = tt
    all_narrow (kernel.more s ss) right used h = (
      narrow s right.0 (λ th e. used th (left_true (by_statement th s) (by_statements th ss) e))
          (left_few (threads.of_statement s) (threads.of_statements ss) h),
      all_narrow ss right.1 (λ th e. used th (right_true (by_statement th s) (by_statements th ss) e))
          (right_few (threads.of_statement s) (threads.of_statements ss) h),
    )

    cases_narrow : (cs : kernel.Cases) → CasesComeIn cs → IsOfRoot (λ th. by_cases th cs) → threads.of_cases cs ≤ most_branches → CasesAreNarrow cs
    cases_narrow kernel.no_case right used h = tt
    cases_narrow (kernel.more_cases (kernel.case guard i ss) cs) right used h = (
      all_narrow ss right.0.1.1
          (λ th e. used th (left_true (by_case th (kernel.case guard i ss)) (by_cases th cs)
          (right_true (by_some_expression th guard) _ (right_true (by_input th i) (by_statements th ss) e))))
          (left_few (threads.of_statements ss) (threads.of_cases cs) h),
      cases_narrow cs right.1 (λ th e. used th (right_true (by_case th (kernel.case guard i ss)) (by_cases th cs) e))
          (right_few (threads.of_statements ss) (threads.of_cases cs) h),
    )

    default_narrow : (d : kernel.Default) → EachDefault AnyExpression AnyPlace AnyNumber (GoesOut k) (ComesIn k) AnyNumber d →
        IsOfRoot (λ th. by_default th d) → threads.of_default d ≤ most_branches → DefaultIsNarrow d
    default_narrow kernel.no_default right used h = tt
    default_narrow (kernel.default ss) right used h = all_narrow ss right used h

    branches_narrow : (bs : kernel.Branches) → EachBranch AnyExpression AnyPlace AnyNumber (GoesOut k) (ComesIn k) AnyNumber bs →
        IsOfRoot (λ th. by_branches th bs) → threads.of_branches bs ≤ most_branches → BranchesAreNarrow bs
    branches_narrow kernel.no_branch right used h = tt
    branches_narrow (kernel.more_branches (kernel.branch ss pos) bs) right used h = (
      all_narrow ss right.0 (λ th e. used th (left_true (by_statements th ss) (by_branches th bs) e)) (omega (arith, h)),
      branches_narrow bs right.1 (λ th e. used th (right_true (by_statements th ss) (by_branches th bs) e)) (omega (arith, h)),
    )

-- on a core there are few threads
pub root_narrow : (k : kernel.Kernel) → IsChecked k → (place : ℕ) (r : kernel.Root) → slice_get k.roots place ≡ Some r → AreNarrow r.body
root_narrow k checked place r e =
    let is_core = root_is_low k checked place r e in
    let among = contains_at k.roots place r e in
    let right = (of_programs k checked.of_program).transfers in
    let all = few_threads k checked r.core is_core in
    let own = root_within r.core k.roots place r e in
    let same = own_threads r in
    all_narrow k checked r among is_core r.body
    (root_each k checked r among AnyExpression AnyPlace AnyNumber (GoesOut k) (ComesIn k) AnyNumber k.roots place right e)
    (λ th u. u) (omega (arith, all, own, same))
