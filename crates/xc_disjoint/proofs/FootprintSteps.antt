-- How a walk's footprint goes on by what stands at its place.
use Rattle.std.proofs.Common.{◌≡◌, ℕ, ◌+◌, ◌<◌, Bool, true, false, ◌||◌, List, length, drop, get_or, map, refl, ap}
use Rattle.xc_kernel.specs.declared.statement.Kx.{Kx}
use Rattle.xc_kernel.specs.declared.statement.Kst.{Kst}
use Rattle.xc_kernel.specs.declared.statement.KBranch.{KBranch}
use Rattle.xc_kernel.specs.declared.statement.KCase.{KCase}
use Rattle.xc_kernel.specs.Kernels.{expression_of, statement_of, branch_of, case_of}
use Rattle.xc_kernel.specs.Plain.{operands, statements, branches, cases}
use Rattle.xc_kernel.specs.Things.{Thing}
use Rattle.xc_kernel.proofs.Forms.{forms}
use Rattle.xc_disjoint.specs.Footprints.{Uses, nothing, both, of_expression, of_operands, of_statement, of_statements, of_branch, of_branches, of_case, of_cases}
use Rattle.xw_words.proofs.Lists.{drop_item}

-- two functions that agree everywhere are the same
pub same_uses : {f g : Uses} → ((th : Thing) → f th ≡ g th) → f ≡ g
same_uses h = λ j th. h th j

pub or_false : (a : Bool) → (a || false) ≡ a
or_false true = refl
or_false false = refl

pub or_assoc : (a b c : Bool) → ((a || b) || c) ≡ (a || (b || c))
or_assoc true b c = refl
or_assoc false b c = refl

pub both_nothing : (f : Uses) → both f nothing ≡ f
unfolding both nothing
both_nothing f = same_uses (λ th. or_false (f th))

pub nothing_both : (f : Uses) → both nothing f ≡ f
unfolding both nothing
nothing_both f = same_uses (λ th. refl)

pub both_each : (f g h : Uses) → both (both f g) h ≡ both f (both g h)
unfolding both
both_each f g h = same_uses (λ th. or_assoc (f th) (g th) (h th))

pub operands_step : (xs : List Kx) (i : ℕ) (x : Kx) → x ≡ get_or xs i x → i < length xs → of_operands (operands (map expression_of (drop i xs))) ≡ both (of_expression (expression_of x)) (of_operands (operands (map expression_of (drop (i + 1) xs))))
operands_step xs i x e h = ap (λ ys. of_operands (operands (map expression_of ys))) (drop_item xs i x e h)

pub statements_step : (xs : List Kst) (i : ℕ) (x : Kst) → x ≡ get_or xs i x → i < length xs → of_statements (statements (map statement_of (drop i xs))) ≡ both (of_statement (statement_of x)) (of_statements (statements (map statement_of (drop (i + 1) xs))))
statements_step xs i x e h = ap (λ ys. of_statements (statements (map statement_of ys))) (drop_item xs i x e h)

pub cases_step : (xs : List KCase) (i : ℕ) (x : KCase) → x ≡ get_or xs i x → i < length xs → of_cases (cases (map case_of (drop i xs))) ≡ both (of_case (case_of x)) (of_cases (cases (map case_of (drop (i + 1) xs))))
cases_step xs i x e h = ap (λ ys. of_cases (cases (map case_of ys))) (drop_item xs i x e h)

pub branches_step : (xs : List KBranch) (i : ℕ) (x : KBranch) → x ≡ get_or xs i x → i < length xs → of_branches (branches (map branch_of (drop i xs))) ≡ both (of_branch (branch_of x)) (of_branches (branches (map branch_of (drop (i + 1) xs))))
branches_step xs i x e h = ap (λ ys. of_branches (branches (map branch_of ys))) (drop_item xs i x e h)

pub ruleset steps = (forms, both_nothing, nothing_both, both_each, operands_step, statements_step, cases_step, branches_step)
