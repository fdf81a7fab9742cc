-- How a walk's sizes are put together.
use Rattle.std.proofs.Common.{◌≡◌, ℕ, ◌+◌, ◌<◌, ◌≤◌, max, List, length, drop, get_or, map, ap, ◌∙◌}
use Rattle.std.proofs.lemmas.List.{drop_all}
use Rattle.std.proofs.lemmas.List.Sums.{sum_by-cons}
use Rattle.std.specs.Prelude.{sum_by}
use Rattle.xw_words.proofs.Lists.{drop_item}
use Rattle.xc_tree.specs.declared.tree.Stmt.{Stmt}
use Rattle.xc_tree.specs.declared.tree.Branch.{Branch}
use Rattle.xc_tree.specs.declared.tree.Case.{Case}
use Rattle.xc_tree.specs.Depth.{highest}
use Rattle.xc_tree.specs.Plain as plain
use Rattle.xc_tree.specs.Trees as tree
use Rattle.xc_tree.proofs.Forms.{forms}
use Rattle.xc_kernel.specs.Counts as counts
use Rattle.xc_kernel.specs.Nodes as nodes
use Rattle.xc_kernel.specs.Depths as depths
use Rattle.xc_size.proofs.UpTo.{up_to_none, up_to_again, up_to_left, up_to_right, up_to_max_left, up_to_max_right}

pub sum_step : {A V : Type 0} (f : V → ℕ) (g : A → V) (xs : List A) (i : ℕ) (x : A) → x ≡ get_or xs i x → i < length xs → sum_by f (map g (drop i xs)) ≡ f (g x) + sum_by f (map g (drop (i + 1) xs))
sum_step f g xs i x e h = ap (λ ys. sum_by f (map g ys)) (drop_item xs i x e h) ∙ sum_by-cons f (g x) (map g (drop (i + 1) xs))

pub highest_step : {A V : Type 0} (f : V → ℕ) (g : A → V) (xs : List A) (i : ℕ) (x : A) → x ≡ get_or xs i x → i < length xs → highest f (map g (drop i xs)) ≡ max (f (g x)) (highest f (map g (drop (i + 1) xs)))
highest_step f g xs i x e h = ap (λ ys. highest f (map g ys)) (drop_item xs i x e h)

pub sum_done : {A V : Type 0} (f : V → ℕ) (g : A → V) (xs : List A) (i : ℕ) → length xs ≤ i → sum_by f (map g (drop i xs)) ≡ 0
sum_done f g xs i h = ap (λ ys. sum_by f (map g ys)) (drop_all i xs h)

pub highest_done : {A V : Type 0} (f : V → ℕ) (g : A → V) (xs : List A) (i : ℕ) → length xs ≤ i → highest f (map g (drop i xs)) ≡ 0
highest_done f g xs i h = ap (λ ys. highest f (map g ys)) (drop_all i xs h)

pub counts_of_statements : (g : plain.Call → ℕ) (xs : List Stmt) (i : ℕ) (x : Stmt) → x ≡ get_or xs i x → i < length xs → counts.of_statements g (plain.statements (map tree.statement_of (drop i xs))) ≡ counts.of_statement g (tree.statement_of x) + counts.of_statements g (plain.statements (map tree.statement_of (drop (i + 1) xs)))
counts_of_statements g xs i x e h = ap (λ ys. counts.of_statements g (plain.statements (map tree.statement_of ys))) (drop_item xs i x e h)

pub counts_of_statements_done : (g : plain.Call → ℕ) (xs : List Stmt) (i : ℕ) → length xs ≤ i → counts.of_statements g (plain.statements (map tree.statement_of (drop i xs))) ≡ 0
counts_of_statements_done g xs i h = ap (λ ys. counts.of_statements g (plain.statements (map tree.statement_of ys))) (drop_all i xs h)

pub nodes_of_statements : (g : plain.Call → ℕ) (xs : List Stmt) (i : ℕ) (x : Stmt) → x ≡ get_or xs i x → i < length xs → nodes.of_statements g (plain.statements (map tree.statement_of (drop i xs))) ≡ nodes.of_statement g (tree.statement_of x) + nodes.of_statements g (plain.statements (map tree.statement_of (drop (i + 1) xs)))
nodes_of_statements g xs i x e h = ap (λ ys. nodes.of_statements g (plain.statements (map tree.statement_of ys))) (drop_item xs i x e h)

pub nodes_of_statements_done : (g : plain.Call → ℕ) (xs : List Stmt) (i : ℕ) → length xs ≤ i → nodes.of_statements g (plain.statements (map tree.statement_of (drop i xs))) ≡ 0
nodes_of_statements_done g xs i h = ap (λ ys. nodes.of_statements g (plain.statements (map tree.statement_of ys))) (drop_all i xs h)

pub depths_of_statements : (g : plain.Call → ℕ) (xs : List Stmt) (i : ℕ) (x : Stmt) → x ≡ get_or xs i x → i < length xs → depths.of_statements g (plain.statements (map tree.statement_of (drop i xs))) ≡ max (depths.of_statement g (tree.statement_of x)) (depths.of_statements g (plain.statements (map tree.statement_of (drop (i + 1) xs))))
depths_of_statements g xs i x e h = ap (λ ys. depths.of_statements g (plain.statements (map tree.statement_of ys))) (drop_item xs i x e h)

pub depths_of_statements_done : (g : plain.Call → ℕ) (xs : List Stmt) (i : ℕ) → length xs ≤ i → depths.of_statements g (plain.statements (map tree.statement_of (drop i xs))) ≡ 0
depths_of_statements_done g xs i h = ap (λ ys. depths.of_statements g (plain.statements (map tree.statement_of ys))) (drop_all i xs h)

pub counts_of_branches : (g : plain.Call → ℕ) (xs : List Branch) (i : ℕ) (x : Branch) → x ≡ get_or xs i x → i < length xs → counts.of_branches g (plain.branches (map tree.branch_of (drop i xs))) ≡ counts.of_branch g (tree.branch_of x) + counts.of_branches g (plain.branches (map tree.branch_of (drop (i + 1) xs)))
counts_of_branches g xs i x e h = ap (λ ys. counts.of_branches g (plain.branches (map tree.branch_of ys))) (drop_item xs i x e h)

pub counts_of_branches_done : (g : plain.Call → ℕ) (xs : List Branch) (i : ℕ) → length xs ≤ i → counts.of_branches g (plain.branches (map tree.branch_of (drop i xs))) ≡ 0
counts_of_branches_done g xs i h = ap (λ ys. counts.of_branches g (plain.branches (map tree.branch_of ys))) (drop_all i xs h)

pub nodes_of_branches : (g : plain.Call → ℕ) (xs : List Branch) (i : ℕ) (x : Branch) → x ≡ get_or xs i x → i < length xs → nodes.of_branches g (plain.branches (map tree.branch_of (drop i xs))) ≡ nodes.of_branch g (tree.branch_of x) + nodes.of_branches g (plain.branches (map tree.branch_of (drop (i + 1) xs)))
nodes_of_branches g xs i x e h = ap (λ ys. nodes.of_branches g (plain.branches (map tree.branch_of ys))) (drop_item xs i x e h)

pub nodes_of_branches_done : (g : plain.Call → ℕ) (xs : List Branch) (i : ℕ) → length xs ≤ i → nodes.of_branches g (plain.branches (map tree.branch_of (drop i xs))) ≡ 0
nodes_of_branches_done g xs i h = ap (λ ys. nodes.of_branches g (plain.branches (map tree.branch_of ys))) (drop_all i xs h)

pub depths_of_branches : (g : plain.Call → ℕ) (xs : List Branch) (i : ℕ) (x : Branch) → x ≡ get_or xs i x → i < length xs → depths.of_branches g (plain.branches (map tree.branch_of (drop i xs))) ≡ max (depths.of_branch g (tree.branch_of x)) (depths.of_branches g (plain.branches (map tree.branch_of (drop (i + 1) xs))))
depths_of_branches g xs i x e h = ap (λ ys. depths.of_branches g (plain.branches (map tree.branch_of ys))) (drop_item xs i x e h)

pub depths_of_branches_done : (g : plain.Call → ℕ) (xs : List Branch) (i : ℕ) → length xs ≤ i → depths.of_branches g (plain.branches (map tree.branch_of (drop i xs))) ≡ 0
depths_of_branches_done g xs i h = ap (λ ys. depths.of_branches g (plain.branches (map tree.branch_of ys))) (drop_all i xs h)

pub counts_of_cases : (g : plain.Call → ℕ) (xs : List Case) (i : ℕ) (x : Case) → x ≡ get_or xs i x → i < length xs → counts.of_cases g (plain.cases (map tree.case_of (drop i xs))) ≡ counts.of_case g (tree.case_of x) + counts.of_cases g (plain.cases (map tree.case_of (drop (i + 1) xs)))
counts_of_cases g xs i x e h = ap (λ ys. counts.of_cases g (plain.cases (map tree.case_of ys))) (drop_item xs i x e h)

pub counts_of_cases_done : (g : plain.Call → ℕ) (xs : List Case) (i : ℕ) → length xs ≤ i → counts.of_cases g (plain.cases (map tree.case_of (drop i xs))) ≡ 0
counts_of_cases_done g xs i h = ap (λ ys. counts.of_cases g (plain.cases (map tree.case_of ys))) (drop_all i xs h)

pub nodes_of_cases : (g : plain.Call → ℕ) (xs : List Case) (i : ℕ) (x : Case) → x ≡ get_or xs i x → i < length xs → nodes.of_cases g (plain.cases (map tree.case_of (drop i xs))) ≡ nodes.of_case g (tree.case_of x) + nodes.of_cases g (plain.cases (map tree.case_of (drop (i + 1) xs)))
nodes_of_cases g xs i x e h = ap (λ ys. nodes.of_cases g (plain.cases (map tree.case_of ys))) (drop_item xs i x e h)

pub nodes_of_cases_done : (g : plain.Call → ℕ) (xs : List Case) (i : ℕ) → length xs ≤ i → nodes.of_cases g (plain.cases (map tree.case_of (drop i xs))) ≡ 0
nodes_of_cases_done g xs i h = ap (λ ys. nodes.of_cases g (plain.cases (map tree.case_of ys))) (drop_all i xs h)

pub depths_of_cases : (g : plain.Call → ℕ) (xs : List Case) (i : ℕ) (x : Case) → x ≡ get_or xs i x → i < length xs → depths.of_cases g (plain.cases (map tree.case_of (drop i xs))) ≡ max (depths.of_case g (tree.case_of x)) (depths.of_cases g (plain.cases (map tree.case_of (drop (i + 1) xs))))
depths_of_cases g xs i x e h = ap (λ ys. depths.of_cases g (plain.cases (map tree.case_of ys))) (drop_item xs i x e h)

pub depths_of_cases_done : (g : plain.Call → ℕ) (xs : List Case) (i : ℕ) → length xs ≤ i → depths.of_cases g (plain.cases (map tree.case_of (drop i xs))) ≡ 0
depths_of_cases_done g xs i h = ap (λ ys. depths.of_cases g (plain.cases (map tree.case_of ys))) (drop_all i xs h)

pub ruleset measures = (forms, up_to_none, up_to_again, up_to_left, up_to_right, up_to_max_left, up_to_max_right)
