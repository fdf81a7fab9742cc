-- How a walk's first broken rule goes on by what stands at its place.
use Rattle.std.proofs.Common.{◌≡◌, ℕ, ◌+◌, ◌<◌, List, [], ◌∷◌, ◌++◌, Option, Some, None, length, drop, get_or, map, refl, ap, ◌∙◌}
use Rattle.xw_words.specs.declared.pos.Broken.{Broken}
use Rattle.xw_words.specs.declared.pos.Pos.{Pos}
use Rattle.xc_kernel.specs.declared.kernel.PortUse.{PortUse}
use Rattle.xc_kernel.specs.declared.statement.Kst.{Kst}
use Rattle.xc_kernel.specs.declared.statement.KBranch.{KBranch}
use Rattle.xc_kernel.specs.declared.statement.KCase.{KCase}
use Rattle.xc_kernel.specs.Kernels.{statement_of, branch_of, case_of}
use Rattle.xc_kernel.specs.Plain.{statements, branches, cases}
use Rattle.xc_tree.specs.Least.{first_of}
use Rattle.xc_disjoint.specs.Leasts.{first_among}
use Rattle.xc_disjoint.specs.Places.{rule_of_use}
use Rattle.xc_kernel.specs.Uses.{Use, of_channel, of_statement, of_statements, of_branch, of_branches, of_case, of_cases}
use Rattle.xw_words.proofs.Lists.{drop_item}

-- of a list behind another
pub first_append : {V : Type 0} (f : V → Option Broken) (best : Option Broken) (xs ys : List V) → first_among f best (xs ++ ys) ≡ first_among f (first_among f best xs) ys
first_append f best [] ys = refl
first_append f best (x ∷ xs) ys = first_append f (first_of best (f x)) xs ys

pub statements_step : (f : Use → Option Broken) (best : Option Broken) (xs : List Kst) (i : ℕ) (x : Kst) → x ≡ get_or xs i x → i < length xs → first_among f best (of_statements (statements (map statement_of (drop i xs)))) ≡ first_among f (first_among f best (of_statement (statement_of x))) (of_statements (statements (map statement_of (drop (i + 1) xs))))
statements_step f best xs i x e h =
    ap (λ ys. first_among f best (of_statements (statements (map statement_of ys)))) (drop_item xs i x e h)
    ∙ first_append f best (of_statement (statement_of x)) (of_statements (statements (map statement_of (drop (i + 1) xs))))

pub branches_step : (f : Use → Option Broken) (best : Option Broken) (xs : List KBranch) (i : ℕ) (x : KBranch) → x ≡ get_or xs i x → i < length xs → first_among f best (of_branches (branches (map branch_of (drop i xs)))) ≡ first_among f (first_among f best (of_branch (branch_of x))) (of_branches (branches (map branch_of (drop (i + 1) xs))))
branches_step f best xs i x e h =
    ap (λ ys. first_among f best (of_branches (branches (map branch_of ys)))) (drop_item xs i x e h)
    ∙ first_append f best (of_branch (branch_of x)) (of_branches (branches (map branch_of (drop (i + 1) xs))))

pub cases_step : (f : Use → Option Broken) (best : Option Broken) (xs : List KCase) (i : ℕ) (x : KCase) → x ≡ get_or xs i x → i < length xs → first_among f best (of_cases (cases (map case_of (drop i xs)))) ≡ first_among f (first_among f best (of_case (case_of x))) (of_cases (cases (map case_of (drop (i + 1) xs))))
cases_step f best xs i x e h =
    ap (λ ys. first_among f best (of_cases (cases (map case_of ys)))) (drop_item xs i x e h)
    ∙ first_append f best (of_case (case_of x)) (of_cases (cases (map case_of (drop (i + 1) xs))))

-- a channel breaks no rule of ports
pub first_of_none : (best : Option Broken) → first_of best None ≡ best
first_of_none None = refl
first_of_none (Some b) = refl

pub channel_step : (ports : List PortUse) (core : ℕ) (best : Option Broken) (channel : ℕ) (pos : Pos) (us : List Use) → first_among (rule_of_use ports core) best (of_channel channel pos ∷ us) ≡ first_among (rule_of_use ports core) best us
unfolding rule_of_use
channel_step ports core best channel pos us = ap (λ b. first_among (rule_of_use ports core) b us) (first_of_none best)
