-- How a walk's count of threads grows by what stands at its place.
use Rattle.std.proofs.Common.{◌≡◌, ℕ, ◌+◌, ◌-◌, ◌^◌, ◌<◌, ◌≤◌, List, length, drop, get_or, map, max, min, refl, ap, arith}
use Rattle.xc_kernel.specs.declared.statement.Kst.{Kst}
use Rattle.xc_kernel.specs.declared.statement.KBranch.{KBranch}
use Rattle.xc_kernel.specs.declared.statement.KCase.{KCase}
use Rattle.xc_kernel.specs.Kernels.{statement_of, branch_of, case_of}
use Rattle.xc_kernel.specs.Plain.{statements, branches, cases}
use Rattle.xc_disjoint.specs.Sums.{capped}
use Rattle.xc_disjoint.specs.Threads.{of_statement, of_statements, of_branch, of_branches, of_case, of_cases}
use Rattle.xw_words.proofs.Lists.{drop_item}

pub capped_one : capped 1 ≡ 1
unfolding capped
capped_one = refl

pub capped_max : (a b : ℕ) → capped (max a b) ≡ max (capped a) (capped b)
unfolding capped
capped_max a b = omega arith

-- the greatest of some more
pub greater : (most next one a b : ℕ) → one ≡ capped a → next ≡ max most one → max most (capped (max a b)) ≡ max next (capped b)
unfolding capped
greater most next one a b e h = omega arith

-- the sum of some more
pub added : (sum next one a b : ℕ) → one ≡ capped a → next ≡ min (sum + one) (2 ^ 64 - 1) → min (sum + capped (a + b)) (2 ^ 64 - 1) ≡ min (next + capped b) (2 ^ 64 - 1)
unfolding capped
added sum next one a b e h = omega arith

pub added_none : (sum : ℕ) → sum ≤ 2 ^ 64 - 1 → min (sum + capped 0) (2 ^ 64 - 1) ≡ sum
unfolding capped
added_none sum h = omega arith

pub statements_step : (xs : List Kst) (i : ℕ) (x : Kst) → x ≡ get_or xs i x → i < length xs → of_statements (statements (map statement_of (drop i xs))) ≡ max (of_statement (statement_of x)) (of_statements (statements (map statement_of (drop (i + 1) xs))))
statements_step xs i x e h = ap (λ ys. of_statements (statements (map statement_of ys))) (drop_item xs i x e h)

pub branches_step : (xs : List KBranch) (i : ℕ) (x : KBranch) → x ≡ get_or xs i x → i < length xs → of_branches (branches (map branch_of (drop i xs))) ≡ of_branch (branch_of x) + of_branches (branches (map branch_of (drop (i + 1) xs)))
branches_step xs i x e h = ap (λ ys. of_branches (branches (map branch_of ys))) (drop_item xs i x e h)

pub cases_step : (xs : List KCase) (i : ℕ) (x : KCase) → x ≡ get_or xs i x → i < length xs → of_cases (cases (map case_of (drop i xs))) ≡ max (of_case (case_of x)) (of_cases (cases (map case_of (drop (i + 1) xs))))
cases_step xs i x e h = ap (λ ys. of_cases (cases (map case_of ys))) (drop_item xs i x e h)
