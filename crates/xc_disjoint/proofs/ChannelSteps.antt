-- How a walk's table of channels goes on by what stands at its place.
use Rattle.std.proofs.Common.{◌≡◌, ℕ, ◌+◌, ◌<◌, List, length, drop, get_or, map, Option, Some, None, refl, ap, ◌∙◌}
use Rattle.xc_kernel.specs.declared.statement.Kst.{Kst}
use Rattle.xc_kernel.specs.declared.statement.KBranch.{KBranch}
use Rattle.xc_kernel.specs.declared.statement.KCase.{KCase}
use Rattle.xc_kernel.specs.Kernels.{statement_of, branch_of, case_of}
use Rattle.xc_kernel.specs.Plain.{statements, branches, cases, more_branches}
use Rattle.xc_kernel.specs.Plain as kernel
use Rattle.xc_disjoint.proofs.FirstSoFar.{first_assoc}
use Rattle.xc_kernel.proofs.Forms.{branch-KBranch}
use Rattle.xc_disjoint.specs.declared.uses.Use.{Use}
use Rattle.xc_disjoint.specs.declared.uses.Held.TheVariants.{Apart}
use Rattle.xc_disjoint.specs.Uses.{Uses, Shares, no_uses, some_after, all_after, all_with, of_statement, of_statements, with_branches, of_case, of_cases}
use Rattle.xw_words.proofs.Lists.{drop_item}

-- two functions that agree everywhere are the same
pub same_uses : {f g : Uses} → ((c : ℕ) → f c ≡ g c) → f ≡ g
same_uses h = λ j c. h c j

pub same_shares : {f g : Shares} → ((c : ℕ) → f c ≡ g c) → f ≡ g
same_shares h = λ j c. h c j

pub after_unused : (s : Option Use) → some_after s None ≡ s
after_unused None = refl
after_unused (Some s) = refl

after_assoc : (a b c : Option Use) → some_after (some_after a b) c ≡ some_after a (some_after b c)
after_assoc None b c = refl
after_assoc (Some a) None c = refl
after_assoc (Some a) (Some b) None = refl
after_assoc (Some a) (Some b) (Some c) = ap (λ x. Some (record { held = Apart; second = x })) (first_assoc a.second b.second c.second)

pub after_none : (f : Uses) → all_after f no_uses ≡ f
unfolding all_after no_uses
after_none f = same_uses (λ c. after_unused (f c))

pub none_before : (f : Uses) → all_after no_uses f ≡ f
unfolding all_after no_uses
none_before f = same_uses (λ c. refl)

pub after_each : (f g h : Uses) → all_after (all_after f g) h ≡ all_after f (all_after g h)
unfolding all_after
after_each f g h = same_uses (λ c. after_assoc (f c) (g c) (h c))

pub statements_step : (xs : List Kst) (i : ℕ) (x : Kst) → x ≡ get_or xs i x → i < length xs → of_statements (statements (map statement_of (drop i xs))) ≡ all_after (of_statement (statement_of x)) (of_statements (statements (map statement_of (drop (i + 1) xs))))
statements_step xs i x e h = ap (λ ys. of_statements (statements (map statement_of ys))) (drop_item xs i x e h)

pub cases_step : (xs : List KCase) (i : ℕ) (x : KCase) → x ≡ get_or xs i x → i < length xs → of_cases (cases (map case_of (drop i xs))) ≡ all_after (of_case (case_of x)) (of_cases (cases (map case_of (drop (i + 1) xs))))
cases_step xs i x e h = ap (λ ys. of_cases (cases (map case_of ys))) (drop_item xs i x e h)

pub branches_step : (shares : Shares) (xs : List KBranch) (i : ℕ) (x : KBranch) → x ≡ get_or xs i x → i < length xs → with_branches shares (branches (map branch_of (drop i xs))) ≡ with_branches (all_with x.pos shares (of_statements (statements (map statement_of x.body)))) (branches (map branch_of (drop (i + 1) xs)))
branches_step shares xs i x e h =
    ap (λ ys. with_branches shares (branches (map branch_of ys))) (drop_item xs i x e h)
    ∙ ap (λ (b : kernel.Branch). with_branches shares (more_branches b (branches (map branch_of (drop (i + 1) xs))))) (branch-KBranch x)
